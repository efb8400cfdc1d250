use Rattle.std.proofs.Common.{◌≡◌, ◌-◌, length, Some, false, sym, arith}
use Rattle.std.specs.Prelude.{slice_get}
use Rattle.std.proofs.lemmas.Option.{slice_get_within}
use Rattle.m_key.proofs.KeyEndLemmas.{zero_after-last}
use Rattle.m_key.proofs.key_end.ends_in_zero.Goals as goal

pub returns-in-Some : goal.returns-in-Some
returns-in-Some c =
    let bytes = c.args.bytes.now in
    let b = c.in-Some.b.now in
    let read : slice_get bytes (length bytes - 1) ≡ Some b = sym c.in-Some.ensures.value in
    let within = slice_get_within bytes (length bytes - 1) b read in
    sym (zero_after-last bytes false (length bytes - 1) b (omega (arith, within)) read)
