-- A file with units in their places, where one more is put among them.
use Rattle.std.proofs.Common.{◌≡◌, ◌≢◌, ℕ, zero, suc, ◌+◌, ◌-◌, ◌<◌, ◌≤◌, ◌==◌, true, false, List, [], ◌∷◌}
use Rattle.std.proofs.Common.{length, refl, sym, ap, subst, ◌∙◌, ⊎_elim, arith}
use Rattle.std.specs.Prelude.{All, Bool, if◌then◌else◌, nat_lt}
use Rattle.std.proofs.lemmas.Bool.{cases_lt, eqb-false, eqb-true, ltb-false, ltb-true, ne_eqb}
use Rattle.std.proofs.lemmas.List.{ext_get_or}
use Rattle.std.proofs.lemmas.List.Elements.{All-cons, All-head, All-tail}
use Rattle.std.proofs.lemmas.Nat.{row_fits}
use Rattle.host_model.specs.Disk.{written}
use Rattle.host_model.proofs.FileLemmas.{written-before}
use Rattle.gds_images.proofs.WrittenLemmas.{length-written_within, written_behind, written_within}
use Rattle.gds_epoch.specs.Waiting.{IsRising, LiesWithin, WaitingUnit, patched, place_of, size_of, with_plan, with_unit}

-- the numbers of all are above this one
abbrev IsBelow : ℕ → List WaitingUnit → Type 0
IsBelow number units = All (λ (w : WaitingUnit). number < w.unit) units

-- The first of rising units is below the others, and these rise.
pub rising_first : (first : WaitingUnit) (units : List WaitingUnit) → IsRising (first ∷ units)
    → IsBelow first.unit units
rising_first first units rising j d within = rising zero (suc j) d (omega arith) (omega (arith, within))

pub rising_others : (first : WaitingUnit) (units : List WaitingUnit) → IsRising (first ∷ units) → IsRising units
rising_others first units rising i j d less within =
    rising (suc i) (suc j) d (omega (arith, less)) (omega (arith, within))

rising_cons : (first : WaitingUnit) (units : List WaitingUnit) → IsBelow first.unit units → IsRising units
    → IsRising (first ∷ units)
rising_cons first units below rising zero zero d less within = absurd (omega (arith, less))
rising_cons first units below rising zero (suc j) d less within = below j d (omega (arith, within))
rising_cons first units below rising (suc i) zero d less within = absurd (omega (arith, less))
rising_cons first units below rising (suc i) (suc j) d less within =
    rising i j d (omega (arith, less)) (omega (arith, within))

below_less : (a b : ℕ) (units : List WaitingUnit) → a < b → IsBelow b units → IsBelow a units
below_less a b units less below j d within = omega (arith, less, below j d within)

-- Two units lie apart.
pub units_apart : (size a b : ℕ) → a < b → place_of size a + size_of size a ≤ place_of size b
units_apart size a b less = by_number (a == 0) refl
  where
    behind : (b == 0) ≡ false
    behind = ne_eqb b 0 (λ e. omega (arith, e, less))

    by_number : (t : Bool) → (a == 0) ≡ t → place_of size a + size_of size a ≤ place_of size b
    by_number true at_front = rw (at_front, behind) (omega arith)
    by_number false not_front =
        let more : a ≢ 0 = eqb-false a 0 not_front in
        rw (not_front, behind)
        (omega (arith, row_fits (a - 1) size (b - 1) size (omega (arith, more, less)) (omega arith)))

-- Writes into ranges that lie apart may be made in either order.
written_apart : (at to : ℕ) (first second file : List ℕ) → at + length first ≤ to → to + length second ≤ length file
    → written at first (written to second file) ≡ written to second (written at first file)
written_apart at to first second file apart fits =
    let M = written to second file in
    let N = written at first file in
    let M_long : length M ≡ length file = length-written_within to second file fits in
    let N_long : length N ≡ length file = length-written_within at first file (omega arith) in
    let L_fits : at + length first ≤ length M = omega arith in
    let R_fits : to + length second ≤ length N = omega arith in
    let long : length (written at first M) ≡ length file = length-written_within at first M L_fits ∙ M_long in
    let R_long : length (written to second N) ≡ length file = length-written_within to second N R_fits ∙ N_long in
    ext_get_or 0 (written at first M) (written to second N) (long ∙ sym R_long) (λ i below.
    let within : i < length file = omega (arith, below, long) in
    ⊎_elim
    (λ (before : i < at).
    written-before at first M i (omega (arith, within, M_long)) before
    ∙ written-before to second file i within (omega arith)
    ∙ sym (written-before to second N i (omega (arith, within, N_long)) (omega arith)
    ∙ written-before at first file i within before))
    (λ (from : at ≤ i).
    ⊎_elim
    (λ (inside : i < at + length first).
    written_within at first M i (omega arith) from inside
    ∙ sym (written-before to second N i (omega (arith, within, N_long)) (omega arith)
    ∙ written_within at first file i (omega arith) from inside))
    (λ (behind : at + length first ≤ i).
    written_behind at first M i L_fits behind
    ∙ ⊎_elim
    (λ (before : i < to).
    written-before to second file i within before
    ∙ sym (written-before to second N i (omega (arith, within, N_long)) before
    ∙ written_behind at first file i (omega arith) behind))
    (λ (from_too : to ≤ i).
    ⊎_elim
    (λ (inside : i < to + length second).
    written_within to second file i (omega arith) from_too inside
    ∙ sym (written_within to second N i (omega arith) from_too inside))
    (λ (behind_too : to + length second ≤ i).
    written_behind to second file i fits behind_too
    ∙ sym (written_behind to second N i R_fits behind_too ∙ written_behind at first file i (omega arith) behind))
    (cases_lt i (to + length second)))
    (cases_lt i to))
    (cases_lt i (at + length first)))
    (cases_lt i at))

-- A second write over the same range stays alone.
written_over : (at : ℕ) (first second file : List ℕ) → length first ≡ length second → at + length first ≤ length file
    → written at first (written at second file) ≡ written at first file
written_over at first second file same fits =
    let M = written at second file in
    let M_long : length M ≡ length file = length-written_within at second file (omega arith) in
    let L_fits : at + length first ≤ length M = omega arith in
    let long : length (written at first M) ≡ length file = length-written_within at first M L_fits ∙ M_long in
    ext_get_or 0 (written at first M) (written at first file) (long ∙ sym (length-written_within at first file fits))
    (λ i below.
    let within : i < length file = omega (arith, below, long) in
    ⊎_elim
    (λ (before : i < at).
    written-before at first M i (omega (arith, within, M_long)) before
    ∙ written-before at second file i within before ∙ sym (written-before at first file i within before))
    (λ (from : at ≤ i).
    ⊎_elim
    (λ (inside : i < at + length first).
    written_within at first M i (omega arith) from inside
    ∙ sym (written_within at first file i (omega arith) from inside))
    (λ (behind : at + length first ≤ i).
    written_behind at first M i L_fits behind ∙ written_behind at second file i (omega arith) (omega arith)
    ∙ sym (written_behind at first file i fits behind))
    (cases_lt i (at + length first)))
    (cases_lt i at))

-- one unit in its place
abbrev pub placed : ℕ → WaitingUnit → List ℕ → List ℕ
placed size unit file = written (place_of size unit.unit) unit.bytes file

placed_long : (size : ℕ) (unit : WaitingUnit) (file : List ℕ)
    → LiesWithin size (length file) unit → length (placed size unit file) ≡ length file
placed_long size unit file is = length-written_within (place_of size unit.unit) unit.bytes file is.within

-- A unit may be written before the units above it, or behind them.
placed_first : (size : ℕ) (unit : WaitingUnit) (units : List WaitingUnit) (file : List ℕ)
    → LiesWithin size (length file) unit → All (LiesWithin size (length file)) units → IsBelow unit.unit units
    → placed size unit (patched size units file) ≡ patched size units (placed size unit file)
placed_first size unit [] file is inside below = refl
placed_first size unit (x ∷ units) file is inside below =
    let head = All-head (LiesWithin size (length file)) x units inside in
    let same : length (placed size x file) ≡ length file = placed_long size x file head in
    let less = All-head (λ (w : WaitingUnit). unit.unit < w.unit) x units below in
    let apart = units_apart size unit.unit x.unit less in
    placed_first size unit units (placed size x file) (subst (λ n. LiesWithin size n unit) (sym same) is)
    (subst (λ n. All (LiesWithin size n) units) (sym same) (All-tail (LiesWithin size (length file)) x units inside))
    (All-tail (λ (w : WaitingUnit). unit.unit < w.unit) x units below)
    ∙ ap (patched size units)
    (written_apart (place_of size unit.unit) (place_of size x.unit) unit.bytes x.bytes file
    (omega (arith, apart, is.size)) head.within)

-- A unit that is put among rising ones is written over the file that has these in their places.
pub patched-with_unit : (size : ℕ) (units : List WaitingUnit) (new : WaitingUnit) (file : List ℕ)
    → LiesWithin size (length file) new → All (LiesWithin size (length file)) units → IsRising units
    → patched size (with_unit units new) file ≡ placed size new (patched size units file)
patched-with_unit size [] new file is inside rising = refl
patched-with_unit size (x ∷ units) new file is inside rising =
    by_order (nat_lt x.unit new.unit) (x.unit == new.unit) refl refl
    (patched-with_unit size units new (placed size x file) (subst (λ n. LiesWithin size n new) (sym same) is) rest
    (rising_others x units rising))
  where
    head : LiesWithin size (length file) x
    head = All-head (LiesWithin size (length file)) x units inside

    same : length (placed size x file) ≡ length file
    same = placed_long size x file head

    rest : All (LiesWithin size (length (placed size x file))) units
    rest = subst (λ n. All (LiesWithin size n) units) (sym same)
        (All-tail (LiesWithin size (length file)) x units inside)

    above : IsBelow x.unit units
    above = rising_first x units rising

    by_order : (less equal : Bool) → nat_lt x.unit new.unit ≡ less → (x.unit == new.unit) ≡ equal
        → patched size (with_unit units new) (placed size x file)
        ≡ placed size new (patched size units (placed size x file))
        → patched size (if less then x ∷ with_unit units new else (new ∷ (if equal then units else x ∷ units))) file
        ≡ placed size new (patched size (x ∷ units) file)
    by_order true equal is_less is_equal further = further
    by_order false true not_less is_equal further =
        let number : x.unit ≡ new.unit = eqb-true x.unit new.unit is_equal in
        let below : IsBelow new.unit units = subst (λ k. IsBelow k units) number above in
        let there : placed size x file ≡ written (place_of size new.unit) x.bytes file =
        ap (λ k. written (place_of size k) x.bytes file) number in
        let sizes : length new.bytes ≡ length x.bytes =
        is.size ∙ ap (size_of size) (sym number) ∙ sym head.size in
        sym (placed_first size new units (placed size x file) (subst (λ n. LiesWithin size n new) (sym same) is)
        rest below
        ∙ ap (patched size units)
        (ap (placed size new) there ∙ written_over (place_of size new.unit) new.bytes x.bytes file sizes is.within))
    by_order false false not_less not_equal further =
        let number : x.unit ≢ new.unit = eqb-false x.unit new.unit not_equal in
        let low : new.unit ≤ x.unit = ltb-false x.unit new.unit not_less in
        let less : new.unit < x.unit = omega (arith, number, low) in
        sym (placed_first size new (x ∷ units) file is inside
        (All-cons (λ (w : WaitingUnit). new.unit < w.unit) x units less (below_less new.unit x.unit units less above)))

-- the numbers still rise
below-with_unit : (number : ℕ) (units : List WaitingUnit) (new : WaitingUnit) → number < new.unit → IsBelow number units
    → IsBelow number (with_unit units new)
below-with_unit number [] new less below = All-cons (λ (w : WaitingUnit). number < w.unit) new [] less below
below-with_unit number (x ∷ units) new less below =
    by_order (nat_lt x.unit new.unit) (x.unit == new.unit) (below-with_unit number units new less others)
  where
    P : WaitingUnit → Type 0
    P w = number < w.unit

    first : number < x.unit
    first = All-head P x units below

    others : IsBelow number units
    others = All-tail P x units below

    by_order : (less_too equal : Bool) → IsBelow number (with_unit units new)
        → IsBelow number (if less_too then x ∷ with_unit units new else (new ∷ (if equal then units else x ∷ units)))
    by_order true equal further = All-cons P x (with_unit units new) first further
    by_order false true further = All-cons P new units less others
    by_order false false further = All-cons P new (x ∷ units) less below

pub rising-with_unit : (units : List WaitingUnit) (new : WaitingUnit) → IsRising units → IsRising (with_unit units new)
rising-with_unit [] new rising = λ i j d less within. absurd (omega (arith, less, within))
rising-with_unit (x ∷ units) new rising =
    by_order (nat_lt x.unit new.unit) (x.unit == new.unit) refl refl
    (rising-with_unit units new (rising_others x units rising))
  where
    above : IsBelow x.unit units
    above = rising_first x units rising

    by_order : (less equal : Bool) → nat_lt x.unit new.unit ≡ less → (x.unit == new.unit) ≡ equal
        → IsRising (with_unit units new)
        → IsRising (if less then x ∷ with_unit units new else (new ∷ (if equal then units else x ∷ units)))
    by_order true equal is_less is_equal further =
        rising_cons x (with_unit units new)
        (below-with_unit x.unit units new (ltb-true x.unit new.unit is_less) above) further
    by_order false true not_less is_equal further =
        rising_cons new units (subst (λ k. IsBelow k units) (eqb-true x.unit new.unit is_equal) above)
        (rising_others x units rising)
    by_order false false not_less not_equal further =
        let number : x.unit ≢ new.unit = eqb-false x.unit new.unit not_equal in
        let low : new.unit ≤ x.unit = ltb-false x.unit new.unit not_less in
        let less : new.unit < x.unit = omega (arith, number, low) in
        rising_cons new (x ∷ units)
        (All-cons (λ (w : WaitingUnit). new.unit < w.unit) x units less (below_less new.unit x.unit units less above))
        rising

-- What holds of a unit and of those that wait holds of all with it among them.
pub All-with_unit : (P : WaitingUnit → Type 0) (units : List WaitingUnit) (new : WaitingUnit) → P new → All P units
    → All P (with_unit units new)
All-with_unit P [] new is all = All-cons P new [] is all
All-with_unit P (x ∷ units) new is all =
    by_order (nat_lt x.unit new.unit) (x.unit == new.unit) (All-with_unit P units new is others)
  where
    others : All P units
    others = All-tail P x units all

    by_order : (less equal : Bool) → All P (with_unit units new)
        → All P (if less then x ∷ with_unit units new else (new ∷ (if equal then units else x ∷ units)))
    by_order true equal further = All-cons P x (with_unit units new) (All-head P x units all) further
    by_order false true further = All-cons P new units is others
    by_order false false further = All-cons P new (x ∷ units) is all

-- So a whole plan that is put is written over the file with the units that waited.
pub patched-with_plan : (size : ℕ) (units plan : List WaitingUnit) (file : List ℕ)
    → All (LiesWithin size (length file)) plan → All (LiesWithin size (length file)) units → IsRising units
    → patched size (with_plan units plan) file ≡ patched size plan (patched size units file)
patched-with_plan size units [] file fits inside rising = refl
patched-with_plan size units (new ∷ plan) file fits inside rising =
    let P : WaitingUnit → Type 0 = LiesWithin size (length file) in
    let is = All-head P new plan fits in
    patched-with_plan size (with_unit units new) plan file (All-tail P new plan fits)
    (All-with_unit P units new is inside) (rising-with_unit units new rising)
    ∙ ap (patched size plan) (patched-with_unit size units new file is inside rising)
