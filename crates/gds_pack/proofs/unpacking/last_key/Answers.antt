use Rattle.std.proofs.Common.{◌≡◌, ◌-◌, ◌∙◌, length, Some, [], sym, arith}
use Rattle.std.specs.Prelude.{slice_get}
use Rattle.std.proofs.lemmas.Option.{slice_get_within}
use Rattle.gds_pack.proofs.ListLemmas.{key_behind-last}
use Rattle.gds_pack.proofs.unpacking.last_key.Goals as goal

pub returns-in-Some : goal.returns-in-Some
returns-in-Some c =
    let list = c.args.entries.now in
    let e = c.in-Some.entry.now in
    let read : slice_get list (length list - 1) ≡ Some e = sym c.in-Some.ensures.value in
    let within = slice_get_within list (length list - 1) e read in
    c.as_slice.ensures.value ∙ sym (key_behind-last list (length list - 1) [] e (omega (arith, within)) read)
