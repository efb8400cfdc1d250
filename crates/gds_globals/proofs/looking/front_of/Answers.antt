use Rattle.std.proofs.Common.{arith}
use Rattle.gds_globals.proofs.AnswerLemmas.{stops_at}
use Rattle.gds_globals.proofs.looking.front_of.Goals.{then-loop-end-test+else-key-end-ne0, else-loop-end-test}
use Rattle.gds_globals.proofs.looking.front_of.Goals as goal

pub returns : goal.returns
returns c =
    let kept = c.loop-end.invariant in
    elim c.loop-end-test.branch [
      | then-loop-end-test+else-key-end-ne0 w ↦ λ front last is some.
          stops_at front last c.args.key.now c.loop-end.end is some (kept.1 front last is some) kept.0
          w.if-key-end-ne0.false
      | else-loop-end-test w ↦ λ front last is some.
          absurd (omega (arith, w.loop-end-test.false, kept.1 front last is some))
    ]
