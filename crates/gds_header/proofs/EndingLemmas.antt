-- The kind that ends the reading is decided by the file's length and its first 8,192 bytes.
use Rattle.std.proofs.Common.{◌≡◌, ℕ, ◌+◌, ◌<◌, ◌≤◌, Bool, true, false, cond, ltb, List, [], ◌∷◌, ◌++◌, length}
use Rattle.std.proofs.Common.{length-take, take, drop, Option, Some, None, refl, sym, ap, ◌∙◌, arith, ⊎_elim, lit≤}
use Rattle.std.proofs.Common.{◌&&◌}
use Rattle.std.specs.Prelude.{find, filter, not, ◌||◌, ◌==◌, nat_lt, ◌%◌, slice_range}
use Rattle.std.specs.Option.{option_or}
use Rattle.std.specs.List.{list_any, list_all}
use Rattle.std.proofs.lemmas.Bool.{or_parts, and_parts, cases_lt, cond-true, cond-false, cases_Bool, lt-ltb, le-ltb}
use Rattle.std.proofs.lemmas.List.{take-take}
use Rattle.std.proofs.lemmas.Option.{same_Some}
use Rattle.std.proofs.lemmas.Slice.{between_is}
use Rattle.gds_block.proofs.FieldLemmas.{u32_at-front, u64_at-front}
use Rattle.gds_header.specs.Fields.{fields_of, image_length, file_length_of}
use Rattle.gds_header.specs.Kinds.{EndsAlone, IsDecidedByFront, IsWithinLimits, keeps_limits, holds, ends, kinds}
use Rattle.gds_header.specs.Kinds.{through_first, header_faults, ending_kind, unreadable, reserved_bytes}
use Rattle.gds_header.specs.declared.kind.HeaderKind.{HeaderKind}
use Rattle.gds_header.specs.declared.kind.HeaderKind.TheVariants.{ShortHeader, NotDatabase, BlockSizeNotMultiple}
use Rattle.gds_header.specs.declared.kind.HeaderKind.TheVariants.{BlockSizeTooLarge, NoBlocks, BadLimit, ShortFile}
use Rattle.gds_header.specs.declared.kind.HeaderKind.TheVariants.{LongFile, ReservedByte, BadTransactionNumber}
use Rattle.gds_header.specs.declared.header.Header.{Header}
use Rattle.std.proofs.lemmas.Bool.Decides.{nat_tests}

-- the first that passes is the last of the front up to it
find-through_first : {A : Type 0} (test : A → Bool) (xs : List A) → find test (through_first test xs) ≡ find test xs
find-through_first test [] = refl
find-through_first test (x ∷ xs) =
    let rest = find-through_first test xs in
    ⊎_elim (λ (e : test x ≡ true). rw (e, e)) (λ (e : test x ≡ false). rw (e, e) rest) (cases_Bool (test x))

find-filter : {A : Type 0} (p q : A → Bool) (xs : List A) → find p (filter q xs) ≡ find (λ x. p x && q x) xs
find-filter p q [] = refl
find-filter p q (x ∷ xs) =
    let rest = find-filter p q xs in
    ⊎_elim (λ (e : q x ≡ true). ⊎_elim (λ (f : p x ≡ true). rw (e, f)) (λ (f : p x ≡ false). rw (e, f) rest)
    (cases_Bool (p x))) (λ (e : q x ≡ false). ⊎_elim (λ (f : p x ≡ true). rw (e, f) rest)
    (λ (f : p x ≡ false). rw (e, f) rest) (cases_Bool (p x))) (cases_Bool (q x))

-- what stands within the front of a list
take-drop-front : {A : Type 0} (m n k : ℕ) (xs : List A) → n + m ≤ k → take m (drop n (take k xs)) ≡ take m (drop n xs)
take-drop-front m n k xs fits = ap (take m) (sym (between_is xs n k)) ∙ take-take m _ (drop n xs) (omega arith)

pub fields_of-front : (k : ℕ) (image : List ℕ) → 4352 ≤ k → fields_of (take k image) ≡ fields_of image
fields_of-front k image fits =
    let block_size = u32_at-front k image 8 (omega arith) in
    let total = u32_at-front k image 12 (omega arith) in
    let free = u32_at-front k image 16 (omega arith) in
    let extension = u32_at-front k image 20 (omega arith) in
    let limit = u32_at-front k image 24 (omega arith) in
    let key_max = u32_at-front k image 28 (omega arith) in
    let value_max = u32_at-front k image 32 (omega arith) in
    let tn = u64_at-front k image 40 (omega arith) in
    let master = take-drop-front 256 4096 k image (omega arith) in
    cc

pub unreadable-front : (k : ℕ) (image : List ℕ) → 4352 ≤ k → unreadable (take k image) ≡ unreadable image
unfolding unreadable
unreadable-front k image fits =
    let label = take-take 8 k image (omega arith) in
    let block_size = u32_at-front k image 8 (omega arith) in
    let total = u32_at-front k image 12 (omega arith) in
    let free = u32_at-front k image 16 (omega arith) in
    let extension = u32_at-front k image 20 (omega arith) in
    let limit = u32_at-front k image 24 (omega arith) in
    let key_max = u32_at-front k image 28 (omega arith) in
    let value_max = u32_at-front k image 32 (omega arith) in
    cc

option_or-cond : {A : Type 0} (b : Bool) (x : A) (rest other : Option A)
    → option_or (cond b (Some x) rest) other ≡ cond b (Some x) (option_or rest other)
option_or-cond true x rest other = refl
option_or-cond false x rest other = refl

ending_kind-find : (image : List ℕ) → ending_kind image ≡ find (λ k. ends k && holds image k) kinds
unfolding ending_kind header_faults
ending_kind-find image = find-through_first ends (filter (holds image) kinds) ∙ find-filter ends (holds image) kinds

-- A short file has no header, and else the header's own faults come before the file's length.
pub ending_kind-short : (image : List ℕ) → length image < 8192 → ending_kind image ≡ Some ShortHeader
ending_kind-short image short =
    let h : ltb (length image) 8192 ≡ true = lt-ltb _ _ short in ending_kind-find image ∙ rw h

ending_kind-long : (image : List ℕ) → 8192 ≤ length image
    → ending_kind image ≡ option_or (unreadable image)
    (cond (ltb (length image) (image_length image)) (Some ShortFile) None)
unfolding unreadable
ending_kind-long image long =
    let h : ltb (length image) 8192 ≡ false = le-ltb _ _ long in ending_kind-find image ∙ rw h (simp option_or-cond)

image_length-front : (k : ℕ) (image : List ℕ) → 4352 ≤ k → image_length (take k image) ≡ image_length image
image_length-front k image fits = ap file_length_of (fields_of-front k image fits)

pub ending_kind-front : IsDecidedByFront
ending_kind-front image =
    ⊎_elim
    (λ (short : length image < 8192). let h : ltb (length image) 8192 ≡ true = lt-ltb _ _ short in
    ending_kind-short image short ∙ sym (cond-true (ltb (length image) 8192) _ _ h))
    (λ (long : 8192 ≤ length image). let h : ltb (length image) 8192 ≡ false = le-ltb _ _ long in
    let same = unreadable-front 8192 image (lit≤ tt) in
    let length_same = image_length-front 8192 image (lit≤ tt) in
    ending_kind-long image long ∙ sym (cond-false (ltb (length image) 8192) _ _ h ∙ cc))
    (cases_lt (length image) 8192)

-- Where a header has no fault, none ends its reading.
pub ending_kind-none : (image : List ℕ) → header_faults image ≡ [] → ending_kind image ≡ None
unfolding ending_kind
ending_kind-none image none = ap (find ends) none

-- the bytes that must be 0 stand within the first 8,192
range-front : (a b k : ℕ) (xs : List ℕ) → b ≤ k → slice_range (take k xs) a b ≡ slice_range xs a b
range-front a b k xs within = between_is (take k xs) a b ∙ ap (drop a) (take-take b k xs within)
    ∙ sym (between_is xs a b)

pub reserved_bytes-front : (k : ℕ) (image : List ℕ) → 8192 ≤ k → reserved_bytes (take k image) ≡ reserved_bytes image
reserved_bytes-front k image within =
    let first = range-front 36 40 k image (omega arith) in
    let second = range-front 48 4096 k image (omega arith) in
    let third = range-front 4352 8192 k image (omega arith) in
    λ i. first i ++ second i ++ third i

find-none : {A : Type 0} (p q : A → Bool) (xs : List A) → list_any p xs ≡ false → find p (filter q xs) ≡ None
find-none p q [] none = refl
find-none p q (x ∷ xs) none =
    let parts = or_parts (p x) (list_any p xs) none in
    let rest = find-none p q xs parts.1 in
    ⊎_elim (λ (e : q x ≡ true). rw (e, parts.0) rest) (λ (e : q x ≡ false). rw e rest) (cases_Bool (q x))

-- Where some kinds end the reading and those behind them don't, the first of the former that is there
-- is alone.
ends_alone : {A : Type 0} (ending holding : A → Bool) (front back : List A) (x : A) → list_all ending front ≡ true
    → list_any ending back ≡ false → find ending (through_first ending (filter holding (front ++ back))) ≡ Some x
    → through_first ending (filter holding (front ++ back)) ≡ x ∷ []
ends_alone ending holding [] back x all none first =
    let nothing : find ending (through_first ending (filter holding back)) ≡ None =
    find-through_first ending (filter holding back) ∙ find-none ending holding back none in
    cc
ends_alone ending holding (y ∷ ys) back x all none first =
    let parts = and_parts (ending y) (list_all ending ys) all in
    ⊎_elim
    (λ (e : holding y ≡ true). let same : find ending (through_first ending (filter holding (y ∷ (ys ++ back))))
    ≡ Some y = rw (e, parts.0, parts.0) in rw (e, parts.0) (ap (λ z. z ∷ []) (same_Some y x (sym same ∙ first))))
    (λ (e : holding y ≡ false). rw e (ends_alone ending holding ys back x parts.1 none (rw e at first)))
    (cases_Bool (holding y))

pub ending_kind-alone : EndsAlone
unfolding ending_kind header_faults
ending_kind-alone image kind first =
    ends_alone ends (holds image) (ShortHeader ∷ NotDatabase ∷ BlockSizeNotMultiple ∷ BlockSizeTooLarge ∷ NoBlocks
    ∷ BadLimit ∷ ShortFile ∷ []) (LongFile ∷ ReservedByte ∷ BadTransactionNumber ∷ []) kind refl refl first

-- of a file that begins with a header's bytes
module _ (image front : List ℕ) (begins : take 8192 image ≡ front) (whole : length front ≡ 8192) where
  front_fits : 8192 ≤ length image
  front_fits = omega (arith, length-take 8192 image, ap length begins)

  pub ending_kind-unreadable : (kind : HeaderKind) → unreadable front ≡ Some kind → ending_kind image ≡ Some kind
  ending_kind-unreadable kind first =
      let h : ltb (length image) 8192 ≡ false = le-ltb _ _ front_fits in
      rw (ending_kind-front image, h, begins, first)

  pub ending_kind-readable : unreadable front ≡ None
      → ending_kind image ≡ cond (ltb (length image) (image_length front)) (Some ShortFile) None
  ending_kind-readable none =
      let h : ltb (length image) 8192 ≡ false = le-ltb _ _ front_fits in
      rw (ending_kind-front image, h, begins, none)

limits_kept : (h : Header) → (h.block_size == 0 || not (h.block_size % 512 == 0)) ≡ false
    → nat_lt 65024 h.block_size ≡ false → not (keeps_limits h) ≡ false → IsWithinLimits h
limits_kept h multiple large limits = record {
  block_multiple = grind (arith, nat_tests);
  block_from = grind (arith, nat_tests);
  block_to = grind (arith, nat_tests);
  limit_from = grind (arith, nat_tests);
  limit_to = grind (arith, nat_tests);
  total_from = grind (arith, nat_tests);
  total_to = grind (arith, nat_tests);
  extension_from = grind (arith, nat_tests);
  extension_to = grind (arith, nat_tests);
  key_from = grind (arith, nat_tests);
  key_to = grind (arith, nat_tests);
  keys_fit = grind (arith, nat_tests);
  value_fits = grind (arith, nat_tests);
}

-- where none of five is there, each test failed
none_of_five : {A : Type 0} (a b c d e : Bool) (v w x y z : A)
    → cond a (Some v) (cond b (Some w) (cond c (Some x) (cond d (Some y) (cond e (Some z) None)))) ≡ None
    → (a ≡ false) × (b ≡ false) × (c ≡ false) × (d ≡ false) × (e ≡ false)
none_of_five true b c d e v w x y z none = cc
none_of_five false true c d e v w x y z none = cc
none_of_five false false true d e v w x y z none = cc
none_of_five false false false true e v w x y z none = cc
none_of_five false false false false true v w x y z none = cc
none_of_five false false false false false v w x y z none = (refl, refl, refl, refl, refl)

pub within_limits : (bytes : List ℕ) → unreadable bytes ≡ None → IsWithinLimits (fields_of bytes)
unfolding unreadable
within_limits bytes none =
    let failed = none_of_five (holds bytes NotDatabase) (holds bytes BlockSizeNotMultiple)
    (holds bytes BlockSizeTooLarge) (holds bytes NoBlocks) (holds bytes BadLimit) _ _ _ _ _ none in
    limits_kept (fields_of bytes) failed.1 failed.2 failed.4
