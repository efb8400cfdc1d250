-- What a list of units has of each block with one more unit put among them, and how many units it has then.
use Rattle.std.proofs.Common.{◌≡◌, ◌≢◌, ℕ, ◌+◌, ◌<◌, ◌≤◌, ◌==◌, Bool, true, false, List, [], ◌∷◌, length, refl, sym, ap}
use Rattle.std.proofs.Common.{subst, ◌∙◌, arith}
use Rattle.std.specs.Prelude.{if◌then◌else◌, nat_lt, Some, None}
use Rattle.std.specs.List.{All}
use Rattle.std.proofs.lemmas.Bool.{cond-false, cond-true, eq-eqb, eqb-false, eqb-true, ltb-false, ltb-true, ne_eqb}
use Rattle.std.proofs.lemmas.List.Elements.{All-head, All-tail}
use Rattle.gds_epoch.specs.Waiting.{IsRising, WaitingUnit, waiting_bytes, with_unit}
use Rattle.gds_epoch.proofs.PatchLemmas.{rising_first, rising_others}

-- A unit isn't there where no unit has its number.
pub none_of : (P : WaitingUnit → Type 0) (number : ℕ) → ((w : WaitingUnit) → P w → w.unit ≢ number)
    → (units : List WaitingUnit) → All P units → waiting_bytes units number ≡ None
none_of P number other [] all = refl
none_of P number other (x ∷ units) all =
    cond-false (x.unit == number) _ _ (ne_eqb x.unit number (other x (All-head P x units all)))
    ∙ none_of P number other units (All-tail P x units all)

-- the unit that was put
pub unit_there : (units : List WaitingUnit) (new : WaitingUnit)
    → waiting_bytes (with_unit units new) new.unit ≡ Some new.bytes
unit_there [] new = cond-true (new.unit == new.unit) _ _ (eq-eqb new.unit new.unit refl)
unit_there (x ∷ units) new = by (nat_lt x.unit new.unit) (x.unit == new.unit) refl (unit_there units new)
  where
    by : (less equal : Bool) → nat_lt x.unit new.unit ≡ less
        → waiting_bytes (with_unit units new) new.unit ≡ Some new.bytes
        → waiting_bytes
        (if less then x ∷ with_unit units new else (new ∷ (if equal then units else x ∷ units)))
        new.unit
        ≡ Some new.bytes
    by true equal below further =
        cond-false (x.unit == new.unit) _ _
        (ne_eqb x.unit new.unit (λ same. omega (arith, same, ltb-true x.unit new.unit below)))
        ∙ further
    by false equal behind further = cond-true (new.unit == new.unit) _ _ (eq-eqb new.unit new.unit refl)

-- and the others
pub others_there : (units : List WaitingUnit) (new : WaitingUnit) (number : ℕ) → number ≢ new.unit
    → waiting_bytes (with_unit units new) number ≡ waiting_bytes units number
others_there [] new number other = cond-false (new.unit == number) _ _ (ne_eqb new.unit number (λ e. other (sym e)))
others_there (x ∷ units) new number other =
    by (nat_lt x.unit new.unit) (x.unit == new.unit) refl (others_there units new number other)
  where
    not_new : (new.unit == number) ≡ false
    not_new = ne_eqb new.unit number (λ e. other (sym e))

    by : (less equal : Bool) → (x.unit == new.unit) ≡ equal
        → waiting_bytes (with_unit units new) number ≡ waiting_bytes units number
        → waiting_bytes
        (if less then x ∷ with_unit units new else (new ∷ (if equal then units else x ∷ units)))
        number
        ≡ waiting_bytes (x ∷ units) number
    by true equal is further = ap (λ o. if x.unit == number then Some x.bytes else o) further
    by false true is further =
        cond-false (new.unit == number) _ _ not_new
        ∙ sym (cond-false (x.unit == number) _ _
        (ne_eqb x.unit number (λ e. other (sym e ∙ eqb-true x.unit new.unit is))))
    by false false is further = cond-false (new.unit == number) _ _ not_new

-- There is one unit more at most,
pub one_more : (units : List WaitingUnit) (new : WaitingUnit) → length (with_unit units new) ≤ length units + 1
one_more [] new = omega arith
one_more (x ∷ units) new = by (nat_lt x.unit new.unit) (x.unit == new.unit) (one_more units new)
  where
    by : (less equal : Bool) → length (with_unit units new) ≤ length units + 1
        → length (if less then x ∷ with_unit units new else (new ∷ (if equal then units else x ∷ units)))
        ≤ length (x ∷ units) + 1
    by true equal further = omega (arith, further)
    by false true further = omega arith
    by false false further = omega arith

-- and as many as before where it was there.
pub as_many : (units : List WaitingUnit) (new : WaitingUnit) (old : List ℕ) → IsRising units
    → waiting_bytes units new.unit ≡ Some old → length (with_unit units new) ≡ length units
as_many [] new old rising had = absurd (let no : None ≡ Some old = had in cc)
as_many (x ∷ units) new old rising had =
    by (nat_lt x.unit new.unit) (x.unit == new.unit) refl refl
    (as_many units new old (rising_others x units rising))
  where
    not_above : new.unit < x.unit → waiting_bytes units new.unit ≡ None
    not_above less =
        none_of (λ w. x.unit < w.unit) new.unit (λ w above same. omega (arith, above, same, less)) units
        (rising_first x units rising)

    by : (less equal : Bool) → nat_lt x.unit new.unit ≡ less → (x.unit == new.unit) ≡ equal
        → (waiting_bytes units new.unit ≡ Some old → length (with_unit units new) ≡ length units)
        → length (if less then x ∷ with_unit units new else (new ∷ (if equal then units else x ∷ units)))
        ≡ length (x ∷ units)
    by true equal is_less is_equal further =
        let other : (x.unit == new.unit) ≡ false =
        ne_eqb x.unit new.unit (λ same. omega (arith, same, ltb-true x.unit new.unit is_less)) in
        let same = further (sym (cond-false (x.unit == new.unit) _ _ other) ∙ had) in
        omega (arith, same)
    by false true is_less is_equal further = omega arith
    by false false is_less other further =
        let less : new.unit < x.unit =
        omega (arith, eqb-false x.unit new.unit other, ltb-false x.unit new.unit is_less) in
        let no : None ≡ Some old =
        sym (not_above less) ∙ sym (cond-false (x.unit == new.unit) _ _ other) ∙ had in
        absurd cc

-- What holds of all units holds of one that is found.
pub found_has : (P : WaitingUnit → Type 0) (units : List WaitingUnit) (unit : ℕ) (bytes : List ℕ) → All P units
    → waiting_bytes units unit ≡ Some bytes → P (record { unit = unit; bytes = bytes })
found_has P [] unit bytes all found = absurd (let no : None ≡ Some bytes = found in cc)
found_has P (x ∷ units) unit bytes all found =
    by (x.unit == unit) refl (found_has P units unit bytes (All-tail P x units all))
  where
    by : (t : Bool) → (x.unit == unit) ≡ t
        → (waiting_bytes units unit ≡ Some bytes → P (record { unit = unit; bytes = bytes }))
        → P (record { unit = unit; bytes = bytes })
    by true same others =
        let own : Some x.bytes ≡ Some bytes = sym (cond-true (x.unit == unit) _ _ same) ∙ found in
        let is : x.bytes ≡ bytes = cc in
        subst (λ k. P (record { unit = k; bytes = bytes })) (eqb-true x.unit unit same)
        (subst (λ xs. P (record { unit = x.unit; bytes = xs })) is (All-head P x units all))
    by false other others = others (sym (cond-false (x.unit == unit) _ _ other) ∙ found)
