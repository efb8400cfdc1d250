use Rattle.std.proofs.Common.{◌≡◌, ℕ, ◌+◌, List, ◌++◌, length, take, ◌∙◌, sym, ap, subst, arith}
use Rattle.std.specs.Prelude.{Option, IfSome}
use Rattle.std.proofs.Math.Seq.{take-append_seam}
use Rattle.host_model.specs.Units.{IsUnit, unit_bytes}
use Rattle.integ_walk.proofs.ResultLemmas.{on_ok}
use Rattle.gds_law.proofs.UnitLemmas.{unit_is}
use Rattle.integ_walk.proofs.walker.Walker.read.Goals as goal

pub unit-requires : goal.unit-requires
unit-requires g c x tells =
    subst (IsUnit x (c.args.block + 1)) (omega (arith, c.deref_mut.ensures.len, c.deref_mut.ensures.value))
    (c.requires.unit x tells)

front : (n : ℕ) (out rest : List ℕ) → length out ≡ n → take n (out ++ rest) ≡ out
front n out rest e = ap (λ k. take k (out ++ rest)) (sym e) ∙ take-append_seam out rest

pub returns-clause-bytes : goal.returns-clause-bytes
returns-clause-bytes g c x tells =
    on_ok c.unit.result _ _ c.unit.ensures.bytes (λ found.
    let P : Option (List ℕ) → Type 0 = λ o. IfSome o (λ file. c.unit.new.out ≡ unit_bytes file (c.args.block + 1)) in
    let same : c.unit.new.out ≡ unit_bytes x (c.args.block + 1) = subst P tells found in
    front c.args.self.now.block.len c.unit.new.out _ (omega (arith, c.unit.ensures.len, c.deref_mut.ensures.len))
    ∙ same ∙ unit_is x c.args.block)
