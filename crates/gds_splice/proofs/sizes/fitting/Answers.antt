use Rattle.std.proofs.Common.{◌∙◌, sym, ap, arith}
use Rattle.gds_pack.specs.Packed.{record_size}
use Rattle.gds_pack.specs.Entry.{item}
use Rattle.gds_pack.proofs.ListLemmas.{records_size-take, key_behind-take}
use Rattle.gds_splice.proofs.sizes.fitting.Goals as goal

pub returns-then-size-from-clause-most : goal.returns-then-size-from-clause-most
returns-then-size-from-clause-most c =
    let e = c.index-entries-i.result in
    let more = records_size-take c.args.entries.now c.loop-i.i e (omega arith) c.index-entries-i.is in
    let same = ap (λ p. record_size p (item e)) c.loop-i.invariant.2 in
    λ _. omega (arith, more, same, c.loop-i.invariant.0)

pub loop-i-preserved : goal.loop-i-preserved
loop-i-preserved c =
    let e = c.index-entries-i.result in
    let more = records_size-take c.args.entries.now c.loop-i.i e (omega arith) c.index-entries-i.is in
    let same = ap (λ p. record_size p (item e)) c.loop-i.invariant.2 in (
      omega (arith, more, same, c.loop-i.invariant.0),
      omega arith,
      c.as_slice-previous.ensures.value ∙ sym (key_behind-take c.args.entries.now c.loop-i.i e (omega arith)
          c.index-entries-i.is),
    )
