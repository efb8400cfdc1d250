-- A header with which nothing is wrong is written again as it was read, so that an image is the draft of no changes.
use Rattle.std.proofs.Common.{◌≡◌, ℕ, ◌+◌, ◌<◌, ◌≤◌, ◌==◌, Bool, true, false, not, List, [], ◌∷◌, ◌++◌, length, take}
use Rattle.std.proofs.Common.{drop, flat_map, get_or, inl, inr, refl, sym, ap, ◌∙◌, arith, lit≤, ⊎_elim}
use Rattle.std.specs.Prelude.{nat_eq, nat_lt, slice_range, None}
use Rattle.std.specs.List.{All, list_any, range_with_len, starts_with}
use Rattle.std.proofs.lemmas.Bool.{cases_lt, eqb-true, or_parts, ltb-false, lt-ltb, cond-true, true≢false, not-false}
use Rattle.std.proofs.lemmas.List.{length-drop, length-take-le, take-append-drop, take-take, drop-drop, drop_all}
use Rattle.std.proofs.lemmas.List.{get_or_past}
use Rattle.std.proofs.lemmas.List.Elements.{All-get_or, All-take, All-drop}
use Rattle.std.proofs.lemmas.List.Folds.{list_any-append}
use Rattle.std.proofs.lemmas.Nat.{le_bytes_4, le_bytes_8}
use Rattle.std.proofs.lemmas.Slice.Eq.{bytes_eq-Decides}
use Rattle.gds_block.specs.Fields.{u32_at, u32_bytes, u64_at, u64_bytes}
use Rattle.gds_block.proofs.FieldLemmas.{u32_at-front, u64_at-front}
use Rattle.gds_header.specs.declared.header.Header.{Header}
use Rattle.gds_header.specs.declared.kind.HeaderKind.{HeaderKind}
use Rattle.gds_header.specs.declared.kind.HeaderKind.TheVariants.{ShortHeader, NotDatabase, ShortFile, LongFile}
use Rattle.gds_header.specs.declared.kind.HeaderKind.TheVariants.{ReservedByte}
use Rattle.gds_header.specs.Fields.{fields_of, file_length_of, header_bytes, label, zeros}
use Rattle.gds_header.specs.Kinds.{groups_past, has_free, header_faults, holds, kinds, reserved_bytes}
use Rattle.gds_header.proofs.EndingLemmas.{fields_of-front, reserved_bytes-front}
use Rattle.gds_law.proofs.MembershipLemmas.{IsIn}
use Rattle.gds_sound.proofs.HeaderLemmas.{none_of_header}
use Rattle.gds_draft.specs.Drafted.{file_by, or_block}
use Rattle.gds_draft.specs.Laws.{NothingDrafted}
use Rattle.gds_draft.proofs.PieceLemmas.{flat_map_agree, front_and_pieces, piece}

-- bytes none of which is other than 0
pub all_zeros : (xs : List ℕ) → list_any (λ b. not (b == 0)) xs ≡ false → xs ≡ zeros (length xs)
unfolding zeros
all_zeros [] none = refl
all_zeros (x ∷ xs) none =
    let parts = or_parts (not (x == 0)) (list_any (λ b. not (b == 0)) xs) none in
    let rest = all_zeros xs parts.1 in
    let first : x ≡ 0 = by (x == 0) refl parts.0 in
    λ i. first i ∷ rest i
  where
    by : (t : Bool) → (x == 0) ≡ t → not t ≡ false → x ≡ 0
    by true is same = eqb-true x 0 is
    by false is same = absurd (true≢false same)

-- a piece and what stands behind it
joins : (xs piece rest : List ℕ) (at m end : ℕ) → at + m ≡ end → piece ≡ take m (drop at xs) → rest ≡ drop end xs
    → piece ++ rest ≡ drop at xs
joins xs piece rest at m end ends here behind =
    let rest_is : rest ≡ drop m (drop at xs) =
    behind ∙ ap (λ k. drop k xs) (sym ends) ∙ sym (drop-drop m at xs) in
    (λ i. here i ++ rest_is i) ∙ take-append-drop m (drop at xs)

module _ (xs : List ℕ) (bytes : All (λ b. b < 256) xs) where
  small : (m at i : ℕ) → get_or (take m (drop at xs)) i 0 < 256
  small m at i =
      let all = All-take (λ b. b < 256) m (drop at xs) (All-drop (λ b. b < 256) at xs bytes) in
      ⊎_elim
      (λ (within : i < length (take m (drop at xs))). All-get_or (λ b. b < 256) _ i 0 within all)
      (λ (past : length (take m (drop at xs)) ≤ i). omega (arith, get_or_past (take m (drop at xs)) i 0 past))
      (cases_lt i (length (take m (drop at xs))))

  piece_length : (m at : ℕ) → at + m ≤ length xs → length (take m (drop at xs)) ≡ m
  piece_length m at within = length-take-le m (drop at xs) (omega (arith, length-drop at xs))

  -- a number is written as it was read
  u32_again : (at : ℕ) → at + 4 ≤ length xs → u32_bytes (u32_at xs at) ≡ take 4 (drop at xs)
  unfolding u32_bytes u32_at
  u32_again at within =
      le_bytes_4 (take 4 (drop at xs)) (u32_at xs at) (piece_length 4 at within) (small 4 at)
      (sym (u32_at-front 4 (drop at xs) 0 (omega arith)))

  u64_again : (at : ℕ) → at + 8 ≤ length xs → u64_bytes (u64_at xs at) ≡ take 8 (drop at xs)
  unfolding u64_bytes u64_at
  u64_again at within =
      le_bytes_8 (take 8 (drop at xs)) (u64_at xs at) (piece_length 8 at within) (small 8 at)
      (sym (u64_at-front 8 (drop at xs) 0 (omega arith)))

  -- bytes none of which is other than 0 are written again
  zeros_again : (m at : ℕ) → at + m ≤ length xs → list_any (λ b. not (b == 0)) (take m (drop at xs)) ≡ false
      → zeros m ≡ take m (drop at xs)
  zeros_again m at within none = sym (all_zeros (take m (drop at xs)) none ∙ ap zeros (piece_length m at within))

  -- So are the 8,192 bytes of a header, with its label and zeros where it has no field.
  header_again : length xs ≡ 8192 → take 8 xs ≡ label → list_any (λ b. not (b == 0)) (reserved_bytes xs) ≡ false
      → header_bytes (fields_of xs) ≡ xs
  unfolding header_bytes
  header_again long labelled none =
      let p : ℕ → Bool = λ b. not (b == 0) in
      let h : Header = fields_of xs in
      let first = slice_range xs 36 40 in
      let second = slice_range xs 48 4096 in
      let third = slice_range xs 4352 8192 in
      let both = or_parts (list_any p (first ++ second)) (list_any p third)
      (sym (list_any-append p (first ++ second) third) ∙ none) in
      let each = or_parts (list_any p first) (list_any p second) (sym (list_any-append p first second) ∙ both.0) in
      let at_4352 = joins xs (zeros 3840) [] 4352 3840 8192 refl (zeros_again 3840 4352 (omega arith) both.1)
      (sym (drop_all 8192 xs (omega arith))) in
      let at_4096 = joins xs h.master _ 4096 256 4352 refl refl at_4352 in
      let at_48 = joins xs (zeros 4048) _ 48 4048 4096 refl (zeros_again 4048 48 (omega arith) each.1) at_4096 in
      let at_40 = joins xs (u64_bytes h.tn) _ 40 8 48 refl (u64_again 40 (omega arith)) at_48 in
      let at_36 = joins xs (zeros 4) _ 36 4 40 refl (zeros_again 4 36 (omega arith) each.0) at_40 in
      let at_32 = joins xs (u32_bytes h.value_max) _ 32 4 36 refl (u32_again 32 (omega arith)) at_36 in
      let at_28 = joins xs (u32_bytes h.key_max) _ 28 4 32 refl (u32_again 28 (omega arith)) at_32 in
      let at_24 = joins xs (u32_bytes h.limit) _ 24 4 28 refl (u32_again 24 (omega arith)) at_28 in
      let at_20 = joins xs (u32_bytes h.extension) _ 20 4 24 refl (u32_again 20 (omega arith)) at_24 in
      let at_16 = joins xs (u32_bytes h.free) _ 16 4 20 refl (u32_again 16 (omega arith)) at_20 in
      let at_12 = joins xs (u32_bytes h.total) _ 12 4 16 refl (u32_again 12 (omega arith)) at_16 in
      let at_8 = joins xs (u32_bytes h.block_size) _ 8 4 12 refl (u32_again 8 (omega arith)) at_12 in
      joins xs label _ 0 8 8 refl (sym labelled) at_8

module _ (image : List ℕ) (bytes : All (λ b. b < 256) image) (faultless : header_faults image ≡ []) where
  none : (kind : HeaderKind) → IsIn kinds kind → holds image kind ≡ false
  none = none_of_header image faultless

  has_header : 8192 ≤ length image
  has_header = ltb-false (length image) 8192 (none ShortHeader (inl refl))

  whole : length image ≡ file_length_of (fields_of image)
  whole =
      let not_short = ltb-false (length image) (file_length_of (fields_of image))
      (none ShortFile (inr (inr (inr (inr (inr (inr (inl refl)))))))) in
      let not_long = ltb-false (file_length_of (fields_of image)) (length image)
      (none LongFile (inr (inr (inr (inr (inr (inr (inr (inl refl))))))))) in
      omega (arith, not_short, not_long)

  labelled : take 8 (take 8192 image) ≡ label
  labelled =
      let is : starts_with nat_eq image label ≡ true = not-false _ (none NotDatabase (inr (inl refl))) in
      take-take 8 8192 image (lit≤ tt) ∙ sym ((bytes_eq-Decides label (take 8 image)).0 is)

  unmarked : list_any (λ b. not (b == 0)) (reserved_bytes (take 8192 image)) ≡ false
  unmarked =
      let parts = or_parts (list_any (λ b. not (b == 0)) (reserved_bytes image))
      (list_any (has_free (fields_of image)) (groups_past (fields_of image)))
      (none ReservedByte (inr (inr (inr (inr (inr (inr (inr (inr (inl refl)))))))))) in
      ap (list_any (λ b. not (b == 0))) (reserved_bytes-front 8192 image (lit≤ tt)) ∙ parts.0

  front_again : header_bytes (fields_of image) ≡ take 8192 image
  front_again =
      ap header_bytes (sym (fields_of-front 8192 image (lit≤ tt)))
      ∙ header_again (take 8192 image) (All-take (λ b. b < 256) 8192 image bytes)
      (length-take-le 8192 image has_header) labelled unmarked

  same_blocks : flat_map (λ n. or_block (fields_of image) image n None) (range_with_len 0 (fields_of image).total)
      ≡ flat_map (piece 8192 (fields_of image).block_size image) (range_with_len 0 (fields_of image).total)
  same_blocks =
      flat_map_agree (λ n. or_block (fields_of image) image n None)
      (piece 8192 (fields_of image).block_size image) 0 (fields_of image).total
      (λ n low high. cond-true (nat_lt n (fields_of image).total) _ _
      (lt-ltb n (fields_of image).total (omega (arith, high))))

  image_again : file_by (fields_of image) (λ n. or_block (fields_of image) image n None) ≡ image
  unfolding file_by
  image_again =
      (λ i. front_again i ++ same_blocks i)
      ∙ front_and_pieces 8192 (fields_of image).block_size image (fields_of image).total whole

pub nothing_changed : NothingDrafted
nothing_changed = image_again
