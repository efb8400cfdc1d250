use Rattle.std.proofs.Common.{◌∷◌, ◌++◌, refl, subst, sym}
use Rattle.gds_search.specs.PackedBlock.{IsPackedBlock}
use Rattle.gds_find.proofs.ScanLemmas.{next_own, some_and, stepped}
use Rattle.gds_find.proofs.scan.Cursor.step.Goals as goal

pub returns : goal.returns
returns c low items passed is =
    let n = next_own c.args.self.now is.left low (is.ahead low) in
    let read = some_and _ c.in_ok-end.field-0 c.in-Some.end
    (c.in_ok-end.ensures n.before n.behind n.own
    (subst (λ bytes. IsPackedBlock bytes 0 (n.before ++ n.own ∷ n.behind)) (sym c.as_slice.ensures.value) n.packed)
    n.end_is n.begins) c.in-Some.is in (
      refl,
      stepped items passed is.left c.args.self.now c.read_next.new.entry c.in-Some.end is.parts n read.0 read.1,
    )
