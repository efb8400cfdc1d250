-- Headers with which nothing is wrong.
use Rattle.std.proofs.Common.{◌≡◌, ℕ, ◌+◌, ◌*◌, ◌<◌, ◌≤◌, ◌==◌, ◌%◌, ◌^◌, Bool, true, false, not, ◌||◌, List, []}
use Rattle.std.proofs.Common.{◌∷◌, ◌++◌, length, take, drop, filter, find, None, inl, inr, refl, sym, ap, ◌∙◌, arith}
use Rattle.std.proofs.Common.{length-drop}
use Rattle.std.specs.Prelude.{nat_eq, nat_lt, slice_range}
use Rattle.std.specs.List.{starts_with, list_any}
use Rattle.std.specs.Cmp.Lexicographic.{pointwise}
use Rattle.std.proofs.lemmas.Bool.{not_from_true, ne_eqb, le-ltb, ltb-false, or_from}
use Rattle.std.proofs.lemmas.List.{take-take, length-take-le}
use Rattle.std.proofs.Math.Nat.{mul-le-mul_right}
use Rattle.std.proofs.lemmas.Slice.{between_is}
use Rattle.gds_header.specs.declared.header.Header.{Header}
use Rattle.gds_header.specs.declared.kind.HeaderKind.{HeaderKind}
use Rattle.gds_header.specs.declared.kind.HeaderKind.TheVariants.{ShortHeader, NotDatabase, BlockSizeNotMultiple}
use Rattle.gds_header.specs.declared.kind.HeaderKind.TheVariants.{BlockSizeTooLarge, NoBlocks, BadLimit, ShortFile}
use Rattle.gds_header.specs.declared.kind.HeaderKind.TheVariants.{LongFile, ReservedByte, BadTransactionNumber}
use Rattle.gds_header.specs.Fields.{label, fields_of, block_of, image_length, file_length_of}
use Rattle.gds_header.specs.Kinds.{IsWithinLimits, keeps_limits, holds, ends, kinds, through_first, header_faults}
use Rattle.gds_header.specs.Kinds.{unreadable, reserved_bytes, groups_past, has_free}
use Rattle.gds_header.proofs.EndingLemmas.{within_limits, fields_of-front}
use Rattle.gds_header.proofs.WritingLemmas.{limits_tested}
use Rattle.gds_law.proofs.MembershipLemmas.{IsIn}
use Rattle.gds_sound.proofs.BlockLemmas.{through_nil, filter_nil, nil_filter}

-- Where no fault is told, no kind is there, and the other way.
pub none_of_header : (image : List ℕ) → header_faults image ≡ [] → (kind : HeaderKind) → IsIn kinds kind
    → holds image kind ≡ false
unfolding header_faults
none_of_header image h = filter_nil (holds image) kinds (through_nil ends (filter (holds image) kinds) h)

pub header_of_none : (image : List ℕ) → ((kind : HeaderKind) → IsIn kinds kind → holds image kind ≡ false)
    → header_faults image ≡ []
unfolding header_faults
header_of_none image none = ap (through_first ends) (nil_filter (holds image) kinds none)

find_none : {A : Type 0} (test : A → Bool) (xs : List A) → ((x : A) → IsIn xs x → test x ≡ false) → find test xs ≡ None
find_none test [] h = refl
find_none test (x ∷ xs) h = rw (h x (inl refl)) (find_none test xs (λ y i. h y (inr i)))

-- It is within the limits then.
pub limits_of : (image : List ℕ) → header_faults image ≡ [] → IsWithinLimits (fields_of image)
unfolding unreadable
limits_of image h =
    within_limits image (find_none (holds image) (NotDatabase ∷ BlockSizeNotMultiple ∷ BlockSizeTooLarge ∷ NoBlocks
    ∷ BadLimit ∷ []) (λ kind i. none_of_header image h kind (among kind i)))
  where
    among : (kind : HeaderKind)
        → IsIn (NotDatabase ∷ BlockSizeNotMultiple ∷ BlockSizeTooLarge ∷ NoBlocks ∷ BadLimit ∷ []) kind
        → IsIn kinds kind
    among kind (inl e) = inr (inl e)
    among kind (inr (inl e)) = inr (inr (inl e))
    among kind (inr (inr (inl e))) = inr (inr (inr (inl e)))
    among kind (inr (inr (inr (inl e)))) = inr (inr (inr (inr (inl e))))
    among kind (inr (inr (inr (inr (inl e))))) = inr (inr (inr (inr (inr (inl e)))))
    among kind (inr (inr (inr (inr (inr i))))) = absurd i

-- What is wrong depends on the file's length, its label, its fields, and the bytes that must be 0.
abbrev pub held : ℕ → Bool → Header → List ℕ → HeaderKind → Bool
held len labelled h reserved ShortHeader = nat_lt len 8192
held len labelled h reserved NotDatabase = not labelled
held len labelled h reserved BlockSizeNotMultiple = h.block_size == 0 || not (h.block_size % 512 == 0)
held len labelled h reserved BlockSizeTooLarge = nat_lt 65024 h.block_size
held len labelled h reserved NoBlocks = h.total == 0
held len labelled h reserved BadLimit = not (keeps_limits h)
held len labelled h reserved ShortFile = nat_lt len (file_length_of h)
held len labelled h reserved LongFile = nat_lt (file_length_of h) len
held len labelled h reserved ReservedByte =
    list_any (λ b. not (b == 0)) reserved || list_any (has_free h) (groups_past h)
held len labelled h reserved BadTransactionNumber = h.tn == 0 || nat_lt (2 ^ 63) h.tn

pub holds-held : (image : List ℕ) (kind : HeaderKind)
    → holds image kind
    ≡ held (length image) (starts_with nat_eq image label) (fields_of image) (reserved_bytes image) kind
holds-held image ShortHeader = refl
holds-held image NotDatabase = refl
holds-held image BlockSizeNotMultiple = refl
holds-held image BlockSizeTooLarge = refl
holds-held image NoBlocks = refl
holds-held image BadLimit = refl
holds-held image ShortFile = refl
holds-held image LongFile = refl
holds-held image ReservedByte = refl
holds-held image BadTransactionNumber = refl

-- A right header, said part by part.
pub record IsRightHeader (image : List ℕ) : Type 0 where
  pub long : 8192 ≤ length image
  pub labelled : starts_with nat_eq image label ≡ true
  pub limits : IsWithinLimits (fields_of image)
  pub len : length image ≡ image_length image
  pub reserved : list_any (λ b. not (b == 0)) (reserved_bytes image) ≡ false
  pub past : list_any (has_free (fields_of image)) (groups_past (fields_of image)) ≡ false
  pub some : 1 ≤ (fields_of image).tn
  pub small : (fields_of image).tn ≤ 2 ^ 63

pub right_header : (image : List ℕ) → IsRightHeader image → header_faults image ≡ []
right_header image r = header_of_none image by
  where
    by : (kind : HeaderKind) → IsIn kinds kind → holds image kind ≡ false
    by ShortHeader i = le-ltb (length image) 8192 r.long
    by NotDatabase i = not_from_true _ r.labelled
    by BlockSizeNotMultiple i = (limits_tested (fields_of image) r.limits).0
    by BlockSizeTooLarge i = (limits_tested (fields_of image) r.limits).1
    by NoBlocks i = (limits_tested (fields_of image) r.limits).2
    by BadLimit i = not_from_true _ (limits_tested (fields_of image) r.limits).3
    by ShortFile i = le-ltb (length image) (image_length image) (omega (arith, r.len))
    by LongFile i = le-ltb (image_length image) (length image) (omega (arith, r.len))
    by ReservedByte i = or_from _ _ r.reserved r.past
    by BadTransactionNumber i =
        or_from _ _ (ne_eqb (fields_of image).tn 0 (λ e. omega (arith, e, r.some)))
        (le-ltb (2 ^ 63) (fields_of image).tn r.small)

-- ---- files with the same first 8,192 bytes

range_front : (xs : List ℕ) (i j k : ℕ) → j ≤ k → slice_range (take k xs) i j ≡ slice_range xs i j
range_front xs i j k low =
    between_is (take k xs) i j ∙ ap (drop i) (take-take j k xs low) ∙ sym (between_is xs i j)

reserved_front : (image : List ℕ) → reserved_bytes (take 8192 image) ≡ reserved_bytes image
reserved_front image =
    let first = range_front image 36 40 8192 (omega arith) in
    let second = range_front image 48 4096 8192 (omega arith) in
    let third = range_front image 4352 8192 8192 (omega arith) in
    λ i. first i ++ second i ++ third i

-- Their fields are the same.
pub same_fields : (a b : List ℕ) → take 8192 a ≡ take 8192 b → fields_of a ≡ fields_of b
same_fields a b front =
    sym (fields_of-front 8192 a (omega arith)) ∙ ap fields_of front ∙ fields_of-front 8192 b (omega arith)

-- What is wrong with their headers is the same where they have one length.
pub same_header_faults : (a b : List ℕ) → length a ≡ length b → take 8192 a ≡ take 8192 b
    → header_faults a ≡ header_faults b
unfolding header_faults
same_header_faults a b len front =
    λ i. through_first ends (filter (λ kind. same kind i) kinds)
  where
    labels : starts_with nat_eq a label ≡ starts_with nat_eq b label
    labels =
        ap (λ xs. pointwise nat_eq label xs) (sym (take-take 8 8192 a (omega arith)) ∙ ap (take 8) front
        ∙ take-take 8 8192 b (omega arith))

    reserved : reserved_bytes a ≡ reserved_bytes b
    reserved = sym (reserved_front a) ∙ ap reserved_bytes front ∙ reserved_front b

    same : (kind : HeaderKind) → holds a kind ≡ holds b kind
    same kind =
        holds-held a kind ∙ (λ i. held (len i) (labels i) (same_fields a b front i) (reserved i) kind)
        ∙ sym (holds-held b kind)

-- ---- blocks of a file whose header is right

-- a part of a list, of the size that all parts before it and behind it have
part_length : (xs : List ℕ) (front n total size : ℕ) → n < total → front + total * size ≤ length xs
    → length (take size (drop (front + n * size) xs)) ≡ size
part_length xs front n total size low long =
    let fits : (n + 1) * size ≤ total * size = mul-le-mul_right size (omega (arith, low)) in
    length-take-le size (drop (front + n * size) xs)
    (omega (arith, fits, long, length-drop (front + n * size) xs))

-- Each block that the file has is whole.
pub block_whole : (image : List ℕ) (n : ℕ) → header_faults image ≡ [] → n < (fields_of image).total
    → length (block_of image n) ≡ (fields_of image).block_size
block_whole image n h low =
    part_length image 8192 n (fields_of image).total (fields_of image).block_size low
    (ltb-false (length image) (image_length image)
    (none_of_header image h ShortFile (inr (inr (inr (inr (inr (inr (inl refl)))))))))
