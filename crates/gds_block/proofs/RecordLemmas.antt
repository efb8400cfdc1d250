-- Laws of the records of a block: how they go on from an offset, and that they are the longest list.
use Rattle.std.proofs.Common.{ℕ, zero, suc, ◌≡◌, ◌+◌, ◌≤◌, Bool, true, false, List, [], ◌∷◌, length, drop, refl, sym}
use Rattle.std.proofs.Common.{◌∙◌, ap, arith, length-drop}
use Rattle.std.specs.Prelude.{if◌then◌else◌}
use Rattle.std.proofs.lemmas.Bool.{false_from_ne_true}
use Rattle.std.proofs.lemmas.Bool.Decides.{nat_tests}
use Rattle.gds_block.specs.Record.{Record, size_of, is_well_sized, first_record, records_up_to, records_from}
use Rattle.gds_block.specs.Record.{AreRecords}

-- A well-sized record has at least 5 bytes, and they are there.
pub record Fits (left : List ℕ) : Type 0 where
  pub least : 5 ≤ size_of left
  pub within : size_of left ≤ length left

pub Fits-from_well_sized : (level : ℕ) (left : List ℕ) → is_well_sized level left ≡ true → Fits left
Fits-from_well_sized level left h = record { least = grind (arith, nat_tests); within = grind (arith, nat_tests) }

if_same : {A : Type 0} (b : Bool) (x y z : A) → (b ≡ true → x ≡ y) → (if b then x else z) ≡ (if b then y else z)
if_same true x y z h = h refl
if_same false x y z h = refl

-- There are no more records than bytes, so each bound from their number on gives the same list.
pub records_up_to-enough : (n m level offset : ℕ) (left : List ℕ) → length left ≤ n → length left ≤ m
    → records_up_to n level offset left ≡ records_up_to m level offset left
records_up_to-enough zero zero level offset left h k = refl
records_up_to-enough zero (suc m) level offset [] h k = refl
records_up_to-enough zero (suc m) level offset (b ∷ left) h k = absurd (omega arith)
records_up_to-enough (suc n) zero level offset [] h k = refl
records_up_to-enough (suc n) zero level offset (b ∷ left) h k = absurd (omega arith)
records_up_to-enough (suc n) (suc m) level offset left h k =
    if_same (is_well_sized level left) _ _ []
    (λ w.
    let fits = Fits-from_well_sized level left w in
    let shorter : length (drop (size_of left) left) + 5 ≤ length left =
    omega (arith, length-drop (size_of left) left) in
    ap (λ rs. first_record offset left ∷ rs) (records_up_to-enough n m level (offset + size_of left)
    (drop (size_of left) left) (omega arith) (omega arith)))

module _ (level offset : ℕ) (left : List ℕ) where
  -- a well-sized record and those from its end
  pub records_from-first : is_well_sized level left ≡ true
      → records_from level offset left ≡ first_record offset left ∷ records_from level (offset + size_of left)
      (drop (size_of left) left)
  records_from-first w =
      let fits = Fits-from_well_sized level left w in
      let shorter : length (drop (size_of left) left) + 5 ≤ length left =
      omega (arith, length-drop (size_of left) left) in
      records_up_to-enough (length left) (suc (length left)) level offset left (omega arith) (omega arith)
      ∙ rw w (ap (λ rs. first_record offset left ∷ rs)
      (records_up_to-enough (length left) (length (drop (size_of left) left)) level (offset + size_of left)
      (drop (size_of left) left) (omega arith) (omega arith)))

  -- no record
  pub records_from-none : is_well_sized level left ≡ false → records_from level offset left ≡ []
  records_from-none w =
      records_up_to-enough (length left) (suc (length left)) level offset left (omega arith) (omega arith) ∙ rw w refl

are_some : (b : Bool) (level offset : ℕ) (left : List ℕ) (rs : List Record)
    → is_well_sized level left ≡ b
    → (b ≡ true → AreRecords level (offset + size_of left) (drop (size_of left) left) rs)
    → AreRecords level offset left (if b then first_record offset left ∷ rs else [])
are_some true level offset left rs e h = (e, refl, h refl)
are_some false level offset left rs e h = λ w. absurd (cc)

are_records_up_to : (n level offset : ℕ) (left : List ℕ) → length left ≤ n
    → AreRecords level offset left (records_up_to n level offset left)
are_records_up_to zero level offset [] h = λ w. absurd (cc)
are_records_up_to zero level offset (b ∷ left) h = absurd (omega arith)
are_records_up_to (suc n) level offset left h =
    are_some (is_well_sized level left) level offset left _ refl (λ w.
    let fits = Fits-from_well_sized level left w in
    are_records_up_to n level (offset + size_of left) (drop (size_of left) left)
    (omega (arith, length-drop (size_of left) left)))

-- The records are well-sized and follow one another, and no further one stands behind them.
pub AreRecords-records_from : (level offset : ℕ) (left : List ℕ)
    → AreRecords level offset left (records_from level offset left)
AreRecords-records_from level offset left = are_records_up_to (length left) level offset left (omega arith)

-- No other list is of that kind.
pub records_from-unique : (level offset : ℕ) (left : List ℕ) (rs : List Record) → AreRecords level offset left rs
    → rs ≡ records_from level offset left
records_from-unique level offset left [] h = sym (records_from-none level offset left (false_from_ne_true _ h))
records_from-unique level offset left (r ∷ rs) (w, e, h) =
    cc (
      records_from-first level offset left w,
      records_from-unique level (offset + size_of left) (drop (size_of left) left) rs h,
    )
