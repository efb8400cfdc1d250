use Rattle.std.proofs.Common.{arith}
use Rattle.m_key.proofs.KeyEndLemmas.{shared-past, shared-apart}
use Rattle.m_key.proofs.key_end.shared_len.Goals as goal
use Rattle.m_key.proofs.key_end.shared_len.Goals.{then-i-b-via-then-i-b, then-i-b-via-else-i-b+then-x-b}

pub returns-then-i-b : goal.returns-then-i-b
returns-then-i-b c =
    let a = c.args.a.now in
    let b = c.args.b.now in
    let i = c.loop-i.i in
    elim c.then-i-b.branch [
      | then-i-b-via-then-i-b w ↦ omega (arith, shared-past a b i (omega arith), c.loop-i.invariant.1)
      | then-i-b-via-else-i-b+then-x-b w ↦ omega (
        arith,
        shared-apart a b i (omega arith) (omega arith) w.if-x-b.true,
        c.loop-i.invariant.1,
      )
    ]
