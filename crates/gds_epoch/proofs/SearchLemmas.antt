-- What a search finds among waiting units whose numbers rise, and what an edit at that place leaves.
use Rattle.std.proofs.Common.{◌≡◌, ℕ, zero, suc, ◌+◌, ◌-◌, ◌<◌, ◌≤◌, ◌≢◌, List, [], ◌∷◌, length, get_or}
use Rattle.std.proofs.Common.{set, map, take, drop, ◌++◌, Some, None, Result, Ok, Err, IfOk, IfErr, refl, sym, ap}
use Rattle.std.proofs.Common.{subst, arith, ◌∙◌}
use Rattle.std.specs.Prelude.{true, false, filter, nat_le}
use Rattle.std.specs.List.{insert}
use Rattle.std.specs.List.Sorted.{IsSearchInRange, IsBinarySearchResult, IsNonDecreasingBy, IsPartitionPoint}
use Rattle.std.specs.List.Sorted.{IsPartitionedBy}
use Rattle.std.proofs.lemmas.List.Sorted.{IsPartitionedBy-leb}
use Rattle.std.specs.Ordering.{nat_cmp, ordering_index}
use Rattle.std.proofs.lemmas.Cmp.{ranked}
use Rattle.std.proofs.lemmas.List.{get_or-map, get_or-take, length-take, map_push, get_or_default, length-map}
use Rattle.std.proofs.lemmas.List.{map-set, map-append, take-map, drop-map}
use Rattle.std.proofs.lemmas.List.Edits.{length-insert, get_or-insert_below, get_or-insert_at, get_or-insert_above}
use Rattle.std.proofs.lemmas.Bool.Decides.{nat_tests}
use Rattle.std.proofs.lemmas.Grind.{common_steps}
use Rattle.gds_epoch.specs.Waiting.{IsRising, WaitingUnit, waiting_bytes, with_plan, with_unit}
use Rattle.gds_epoch.specs.WaitingView.{IsAt, IsGapFor, number_at, unit_of, units_of}
use Rattle.gds_epoch.specs.declared.waiting.UnitBytes.{UnitBytes}

-- a unit of no bytes, where a list has none
abbrev pub no_unit : WaitingUnit
no_unit = record { unit = 0; bytes = [] }

-- no unit before the place has the number
abbrev NoneBefore : List WaitingUnit → ℕ → ℕ → Type 0
NoneBefore units number i = (j : ℕ) → j < i → number_at units j ≢ number

none_before_tail : (x : WaitingUnit) (units : List WaitingUnit) (number i : ℕ)
    → NoneBefore (x ∷ units) number (suc i) → NoneBefore units number i
none_before_tail x units number i none j below = none (suc j) (omega arith)

at_tail : (x : WaitingUnit) (units : List WaitingUnit) (number i : ℕ)
    → IsAt (x ∷ units) number (suc i) → IsAt units number i
at_tail x units number i at = record { in_range = omega (arith, at.in_range); has_number = at.has_number }

-- the bytes of a number that no unit has, and of the first unit that has it
bytes_absent : (units : List WaitingUnit) (number : ℕ)
    → NoneBefore units number (length units) → waiting_bytes units number ≡ None
bytes_absent [] number none = refl
bytes_absent (x ∷ units) number none =
    grind (
      arith,
      nat_tests,
      none 0 (omega arith),
      bytes_absent units number (none_before_tail x units number _ none),
    )

bytes_present : (units : List WaitingUnit) (number i : ℕ)
    → IsAt units number i → NoneBefore units number i
    → waiting_bytes units number ≡ Some (get_or units i no_unit).bytes
bytes_present [] number i at none = absurd (omega (arith, at.in_range))
bytes_present (x ∷ units) number zero at none = grind (arith, nat_tests, at.has_number)
bytes_present (x ∷ units) number (suc i) at none =
    grind (
      arith,
      nat_tests,
      none 0 (omega arith),
      bytes_present units number i (at_tail x units number i at) (none_before_tail x units number i none),
    )

-- A unit that is put over the first with its number, and one that is put before each with a greater one.
with_unit-set : (units : List WaitingUnit) (new : WaitingUnit) (i : ℕ)
    → IsAt units new.unit i → ((j : ℕ) → j < i → number_at units j < new.unit)
    → with_unit units new ≡ set units i new
with_unit-set [] new i at smaller = absurd (omega (arith, at.in_range))
with_unit-set (x ∷ units) new zero at smaller = grind (arith, nat_tests, at.has_number)
with_unit-set (x ∷ units) new (suc i) at smaller =
    grind (
      arith,
      nat_tests,
      smaller 0 (omega arith),
      with_unit-set units new i (at_tail x units new.unit i at) (λ j below. smaller (suc j) (omega arith)),
    )

with_unit-insert : (units : List WaitingUnit) (new : WaitingUnit) (i : ℕ)
    → i ≤ length units → ((j : ℕ) → j < i → number_at units j < new.unit)
    → (i < length units → new.unit < number_at units i)
    → with_unit units new ≡ insert units i new
with_unit-insert [] new zero in_range smaller greater = refl
with_unit-insert [] new (suc i) in_range smaller greater = absurd (omega (arith, in_range))
with_unit-insert (x ∷ units) new zero in_range smaller greater = grind (arith, nat_tests, greater (omega arith))
with_unit-insert (x ∷ units) new (suc i) in_range smaller greater =
    grind (
      arith,
      nat_tests,
      smaller 0 (omega arith),
      with_unit-insert units new i (omega arith) (λ j below. smaller (suc j) (omega arith))
          (λ below. greater (omega arith)),
    )

-- an element of a list that has some
element_of : {X : Type 0} (xs : List X) (i : ℕ) → i < length xs → X
element_of [] i below = absurd (omega arith)
element_of (x ∷ xs) i below = x

module _ (items : List UnitBytes) (rising : IsRising (units_of items)) (number : ℕ) where
  number_read : (i : ℕ) (d : UnitBytes) → i < length items → number_at (units_of items) i ≡ (get_or items i d).unit
  number_read i d below = ap (λ (x : WaitingUnit). x.unit) (get_or-map unit_of items i d no_unit below)

  numbers_rise : (i j : ℕ) → i ≤ j → j < length items → number_at (units_of items) i ≤ number_at (units_of items) j
  numbers_rise i j le below =
      let same : i ≡ j → number_at (units_of items) i ≡ number_at (units_of items) j =
      ap (number_at (units_of items)) in
      grind (arith, rising i j no_unit, same, length-map items unit_of)

  -- the comparisons with the number rise along the list, as a binary search asks
  comparisons_rise : IsNonDecreasingBy (λ (x : UnitBytes). ordering_index (nat_cmp x.unit number)) items
  comparisons_rise i j d le below =
      let rise : (get_or items i d).unit ≤ (get_or items j d).unit =
      omega (arith, numbers_rise i j le below, number_read i d (omega arith), number_read j d below) in
      grind (arith, nat_tests)

  -- a binary search ends at the number, or at the gap for it
  pub searched : (r : Result ℕ ℕ)
      → IsSearchInRange r (length items) → IsBinarySearchResult (λ (x : UnitBytes). nat_cmp x.unit number) items r
      → record { found : IfOk r (IsAt (units_of items) number); absent : IfErr r (IsGapFor (units_of items) number) }
  searched (Ok at) in_range equal =
      let some = element_of items at in_range in
      record {
        found = record {
          in_range = omega (arith, length-map items unit_of, in_range);
          has_number = number_read at some in_range ∙ ranked _ number _ (sym (equal some));
        };
        absent = tt;
      }
  searched (Err at) in_range parted =
      let point = parted comparisons_rise in
      record {
        found = tt;
        absent = record {
          in_range = omega (arith, length-map items unit_of, in_range);
          smaller_before = λ j below.
              let within : j < length items = omega (arith, in_range) in
              let some = element_of items j within in
              omega (arith, number_read j some within, ranked _ number _ (sym (point.0 j some (omega arith) below)));
          greater_after = λ j le below.
              let within : j < length items = omega (arith, below, length-map items unit_of) in
              let some = element_of items j within in
              omega (arith, number_read j some within, ranked _ number _ (sym (point.1 j some le within)));
        };
      }

module _ (units : List WaitingUnit) (rising : IsRising units) (number i : ℕ) (at : IsAt units number i) where
  smaller_before_at : (j : ℕ) → j < i → number_at units j < number
  smaller_before_at j below = omega (arith, rising j i no_unit below at.in_range, at.has_number)

  -- the bytes that wait are those at the place
  pub bytes_at : waiting_bytes units number ≡ Some (get_or units i no_unit).bytes
  bytes_at = bytes_present units number i at (λ j below same. omega (arith, smaller_before_at j below))

-- a number for which there is a gap doesn't wait
pub bytes_in_gap : (units : List WaitingUnit) (number i : ℕ)
    → IsGapFor units number i → waiting_bytes units number ≡ None
bytes_in_gap units number i gap =
    bytes_absent units number (λ j below same. grind (arith, gap.smaller_before j, gap.greater_after j))

module _ (units : List WaitingUnit) (rising : IsRising units) (new : WaitingUnit) (i : ℕ) where
  pub put_at : IsAt units new.unit i → set units i new ≡ with_unit units new
  put_at at = sym (with_unit-set units new i at (smaller_before_at units rising new.unit i at))

  pub put_in_gap : IsGapFor units new.unit i → insert units i new ≡ with_unit units new
  put_in_gap gap =
      sym (with_unit-insert units new i gap.in_range gap.smaller_before
      (λ below. gap.greater_after i (omega arith) below))

  -- either keeps the order
  pub rising_set : IsAt units new.unit i → IsRising (set units i new)
  rising_set at a b d lt in_range =
      grind (arith, common_steps, rising a b d, rising a i d, rising i b d, at.in_range, at.has_number)

  pub rising_insert : IsGapFor units new.unit i → IsRising (insert units i new)
  rising_insert gap a b d lt in_range =
      let all = insert units i new in
      let long = length-insert units i new gap.in_range in
      let number : ℕ → ℕ = λ k. (get_or all k d).unit in
      let old : ℕ → ℕ = λ k. (get_or units k d).unit in
      let unit = λ (x : WaitingUnit). x.unit in
      let under : (k : ℕ) → k < i → number k ≡ old k =
      λ k lt. ap unit (get_or-insert_below units i new d k lt gap.in_range) in
      let here : (k : ℕ) → k ≡ i → number k ≡ new.unit =
      λ k same. rw same (ap unit (get_or-insert_at units i new d gap.in_range)) in
      let over : (k : ℕ) → i < k → number k ≡ old (k - 1) =
      λ k gt. subst (λ q. number q ≡ old (k - 1)) {x = k - 1 + 1} (omega arith)
      (ap unit (get_or-insert_above units i new d (k - 1) (omega arith) gap.in_range)) in
      let smaller : (k : ℕ) → k < i → old k < new.unit =
      λ k lt. rw (get_or_default units k d no_unit (omega (arith, gap.in_range))) (gap.smaller_before k lt) in
      let greater : (k : ℕ) → i ≤ k → k < length units → new.unit < old k =
      λ k le lt. rw (get_or_default units k d no_unit lt) (gap.greater_after k le lt) in
      let rises : (k l : ℕ) → k < l → l < length units → old k < old l = λ k l lt within. rising k l d lt within in
      grind (
        arith,
        under a,
        here a,
        over a,
        under b,
        here b,
        over b,
        rises a b,
        rises a (b - 1),
        rises (a - 1) (b - 1),
        smaller a,
        greater (b - 1),
      )

-- the units of an edited vector
pub units_of-set : (items : List UnitBytes) (i : ℕ) (new : UnitBytes)
    → units_of (set items i new) ≡ set (units_of items) i (unit_of new)
units_of-set items i new = map-set unit_of items i new

pub units_of-insert : (items : List UnitBytes) (i : ℕ) (new : UnitBytes)
    → units_of (insert items i new) ≡ insert (units_of items) i (unit_of new)
units_of-insert items i new =
    map-append unit_of (take i items) (new ∷ drop i items)
    ∙ ap (λ front. front ++ unit_of new ∷ map unit_of (drop i items)) (sym (take-map unit_of i items))
    ∙ ap (λ back. take i (map unit_of items) ++ unit_of new ∷ back) (sym (drop-map unit_of i items))

-- units that are kept in a vector, as callers see them
module _ (items : List UnitBytes) (units : List WaitingUnit) (same : units_of items ≡ units)
    (rising : IsRising (units_of items)) where
  pub rising_units : IsRising units
  rising_units = subst IsRising same rising

  pub found_bytes : (number i : ℕ) (read : UnitBytes) (bytes : List ℕ)
      → IsAt units number i → read ≡ get_or items i read → bytes ≡ read.bytes.items
      → Some bytes ≡ waiting_bytes units number
  found_bytes number i read bytes at is bytes_are =
      let within : i < length items = omega (arith, ap length same, length-map items unit_of, at.in_range) in
      let found : get_or units i no_unit ≡ unit_of read =
      ap (λ us. get_or us i no_unit) (sym same) ∙ get_or-map unit_of items i read no_unit within
      ∙ ap unit_of (sym is) in
      ap Some (bytes_are ∙ ap (λ (x : WaitingUnit). x.bytes) (sym found))
      ∙ sym (bytes_at units rising_units number i at)

  module _ (new : UnitBytes) (i : ℕ) where
    pub units_put_at : IsAt units new.unit i → units_of (set items i new) ≡ with_unit units (unit_of new)
    units_put_at at =
        units_of-set items i new ∙ ap (λ us. set us i (unit_of new)) same
        ∙ put_at units rising_units (unit_of new) i at

    pub rising_put_at : IsAt units new.unit i → IsRising (units_of (set items i new))
    rising_put_at at =
        subst IsRising (sym (units_of-set items i new ∙ ap (λ us. set us i (unit_of new)) same))
        (rising_set units rising_units (unit_of new) i at)

    pub units_put_in_gap : (after : List UnitBytes) → after ≡ insert items i new
        → IsGapFor units new.unit i → units_of after ≡ with_unit units (unit_of new)
    units_put_in_gap after is gap =
        ap units_of is ∙ units_of-insert items i new ∙ ap (λ us. insert us i (unit_of new)) same
        ∙ put_in_gap units rising_units (unit_of new) i gap

    pub rising_put_in_gap : (after : List UnitBytes) → after ≡ insert items i new
        → IsGapFor units new.unit i → IsRising (units_of after)
    rising_put_in_gap after is gap =
        subst IsRising
        (sym (ap units_of is ∙ units_of-insert items i new ∙ ap (λ us. insert us i (unit_of new)) same))
        (rising_insert units rising_units (unit_of new) i gap)

-- The front of rising units up to a number is what the units above it leave.
filter_front : (items : List UnitBytes) (last k : ℕ)
    → ((j : ℕ) (d : UnitBytes) → j < k → j < length items → nat_le (get_or items j d).unit last ≡ true)
    → ((j : ℕ) (d : UnitBytes) → k ≤ j → j < length items → nat_le (get_or items j d).unit last ≡ false)
    → units_of (take k items) ≡ filter (λ (w : WaitingUnit). nat_le w.unit last) (units_of items)
filter_front [] last zero low high = refl
filter_front [] last (suc k) low high = refl
filter_front (x ∷ items) last zero low high =
    rw (high 0 x (omega arith) (omega arith))
    (filter_front items last zero (λ j d lt within. absurd (omega (arith, lt)))
    (λ j d le within. high (suc j) d (omega arith) (omega (arith, within))))
filter_front (x ∷ items) last (suc k) low high =
    rw (low 0 x (omega arith) (omega arith))
    (ap (λ us. unit_of x ∷ us)
    (filter_front items last k (λ j d lt within. low (suc j) d (omega (arith, lt)) (omega (arith, within)))
    (λ j d le within. high (suc j) d (omega (arith, le)) (omega (arith, within)))))

-- One unit more of a plan.
with_plan-push : (units plan : List WaitingUnit) (new : WaitingUnit)
    → with_plan units (plan ++ new ∷ []) ≡ with_unit (with_plan units plan) new
with_plan-push units [] new = refl
with_plan-push units (x ∷ plan) new = with_plan-push (with_unit units x) plan new

pub plan_more : (units now after : List WaitingUnit) (plan : List UnitBytes) (new : UnitBytes)
    → now ≡ with_plan units (units_of plan) → after ≡ with_unit now (unit_of new)
    → after ≡ with_plan units (units_of (plan ++ new ∷ []))
plan_more units now after plan new so_far put =
    put ∙ ap (λ us. with_unit us (unit_of new)) so_far
    ∙ sym (ap (with_plan units) (map_push unit_of plan new) ∙ with_plan-push units (units_of plan) (unit_of new))

-- The front up to a number is left, and rises.
module _ (items : List UnitBytes) (units : List WaitingUnit) (same : units_of items ≡ units)
    (rising : IsRising (units_of items)) (last k : ℕ) (left : List UnitBytes) (cut : left ≡ take k items) where
  pub units_dropped : IsPartitionPoint (λ (x : UnitBytes). nat_le x.unit last ≡ true)
      (λ (x : UnitBytes). nat_le x.unit last ≡ false) items k
      → units_of left ≡ filter (λ (w : WaitingUnit). nat_le w.unit last) units
  units_dropped point =
      ap units_of cut
      ∙ filter_front items last k (λ j d lt within. point.0 j d (omega arith) lt)
      (λ j d le within. point.1 j d le within)
      ∙ ap (filter (λ (w : WaitingUnit). nat_le w.unit last)) same

  pub rising_dropped : IsRising (units_of left)
  rising_dropped i j d less within =
      let front : units_of left ≡ take k (units_of items) = ap units_of cut ∙ sym (take-map unit_of k items) in
      let short : j < length (take k (units_of items)) = omega (arith, within, ap length front) in
      let in_front : j < k = omega (arith, short, length-take k (units_of items)) in
      let in_all : j < length (units_of items) = omega (arith, short, length-take k (units_of items)) in
      let all = rising i j d less in_all in
      let at : (m : ℕ) → m < k → get_or (units_of left) m d ≡ get_or (units_of items) m d =
      λ m lt. ap (λ us. get_or us m d) front ∙ get_or-take k (units_of items) m d lt in
      omega (
        arith,
        all,
        ap (λ (w : WaitingUnit). w.unit) (at i (omega arith)),
        ap (λ (w : WaitingUnit). w.unit) (at j in_front),
      )

-- Whether a unit's number is at most another falls along rising units.
pub numbers_part : (items : List UnitBytes) → IsRising (units_of items) → (last : ℕ)
    → IsPartitionedBy (λ (x : UnitBytes). nat_le x.unit last) items
numbers_part items rising last =
    IsPartitionedBy-leb (λ (x : UnitBytes). x.unit) items last (λ i j d le below.
    let first : (get_or items i d).unit ≡ number_at (units_of items) i =
    sym (number_read items rising 0 i d (omega arith)) in
    let second : (get_or items j d).unit ≡ number_at (units_of items) j =
    sym (number_read items rising 0 j d below) in
    omega (arith, numbers_rise items rising 0 i j le below, first, second))
