-- A block that is put adds one block beside the maps at most, and a map none.
use Rattle.std.proofs.Common.{ℕ, ◌≡◌, ◌+◌, ◌*◌, ◌-◌, ◌%◌, ◌≤◌, ◌==◌, refl, sym, subst, arith, Bool}
use Rattle.std.specs.Prelude.{if◌then◌else◌, nat_lt, true, false, not, List, [], ◌∷◌, filter, length}
use Rattle.gds_epoch.specs.Waiting.{WaitingUnit, with_unit}
use Rattle.gds_draft.specs.Draft.{DraftState, with_block}
use Rattle.gds_base.specs.Spaces.{blocks_beside_maps, is_beside_maps}

-- So many units are kept by a test.
abbrev kept : List WaitingUnit → ℕ
kept units = length (filter is_beside_maps units)

abbrev kept_of : Bool → ℕ
kept_of true = 1
kept_of false = 0

kept_cons : (x : WaitingUnit) (units : List WaitingUnit) → kept (x ∷ units) ≡ kept_of (is_beside_maps x) + kept units
kept_cons x units = by (is_beside_maps x)
  where
    by : (t : Bool) → length (if t then x ∷ filter is_beside_maps units else filter is_beside_maps units)
        ≡ kept_of t + kept units
    by true = omega arith
    by false = omega arith

kept_with : (units : List WaitingUnit) (new : WaitingUnit)
    → kept (with_unit units new) ≤ kept_of (is_beside_maps new) + kept units
kept_with [] new = omega (arith, kept_cons new [])
kept_with (x ∷ units) new =
    by (nat_lt x.unit new.unit) (x.unit == new.unit) (kept_with units new)
  where
    by : (less equal : Bool) → kept (with_unit units new) ≤ kept_of (is_beside_maps new) + kept units
        → kept (if less then x ∷ with_unit units new else (new ∷ (if equal then units else x ∷ units)))
        ≤ kept_of (is_beside_maps new) + kept (x ∷ units)
    by true equal further = omega (arith, further, kept_cons x (with_unit units new), kept_cons x units)
    by false true further = omega (arith, kept_cons new units, kept_cons x units)
    by false false further = omega (arith, kept_cons new (x ∷ units))

at_most_one : (t : Bool) → kept_of t ≤ 1
at_most_one true = omega arith
at_most_one false = omega arith

-- A block that is put adds one at most.
pub one_beside : (draft : DraftState) (n : ℕ) (bytes : List ℕ)
    → blocks_beside_maps (with_block draft n bytes) ≤ blocks_beside_maps draft + 1
one_beside draft n bytes =
    let new : WaitingUnit = record { unit = n + 1; bytes = bytes } in
    omega (arith, kept_with draft.units new, at_most_one (is_beside_maps new))

-- A map adds none.
pub map_put : (draft : DraftState) (group : ℕ) (bytes : List ℕ)
    → blocks_beside_maps (with_block draft (512 * group) bytes) ≤ blocks_beside_maps draft
map_put draft group bytes =
    let new : WaitingUnit = record { unit = 512 * group + 1; bytes = bytes } in
    let whole : (512 * group + 1 - 1) % 512 ≡ 0 = omega arith in
    let none : is_beside_maps new ≡ false = subst (λ k. not (k == 0) ≡ false) (sym whole) refl in
    omega (
      arith,
      subst (λ t. kept (with_unit draft.units new) ≤ kept_of t + kept draft.units) none
          (kept_with draft.units new),
    )
