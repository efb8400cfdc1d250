-- The bytes of a header that must be 0 are 0 in the header's bytes.
use Rattle.std.proofs.Common.{◌≡◌, ℕ, ◌+◌, ◌==◌, Bool, false, not, ◌||◌, List, [], ◌∷◌, ◌++◌, length, length-append}
use Rattle.std.proofs.Common.{take, drop, refl, sym, ap, ◌∙◌}
use Rattle.std.specs.Prelude.{slice_range}
use Rattle.std.specs.List.{concat, list_any}
use Rattle.std.proofs.lemmas.List.{drop-drop, drop_at, take_at, drop-take, append-nil}
use Rattle.std.proofs.lemmas.List.Elements.{All-replicate}
use Rattle.std.proofs.lemmas.List.Folds.{list_any_none, list_any-append}
use Rattle.std.proofs.lemmas.Slice.{between_is}
use Rattle.gds_block.specs.Fields.{u32_bytes, u64_bytes}
use Rattle.gds_block.proofs.FieldLemmas.{length-u32_bytes, length-u64_bytes}
use Rattle.gds_header.specs.declared.header.Header.{Header}
use Rattle.gds_header.specs.Fields.{label, zeros, header_bytes}
use Rattle.gds_header.specs.Kinds.{reserved_bytes}
use Rattle.gds_new.proofs.HeaderLemmas.{length-zeros}

drop_pieces : (front back : List (List ℕ)) → drop (length (concat front)) (concat (front ++ back)) ≡ concat back
drop_pieces [] back = refl
drop_pieces (piece ∷ front) back =
    ap (λ n. drop n (piece ++ concat (front ++ back))) (length-append piece (concat front))
    ∙ sym (drop-drop (length (concat front)) (length piece) (piece ++ concat (front ++ back)))
    ∙ ap (drop (length (concat front))) (drop_at piece (concat (front ++ back)) (length piece) refl)
    ∙ drop_pieces front back

-- a piece behind others, as a range
piece_range : (whole piece : List ℕ) (front back : List (List ℕ)) (a b n : ℕ)
    → whole ≡ concat (front ++ (piece ∷ back)) → length (concat front) ≡ a → length piece ≡ n → b ≡ a + n
    → slice_range whole a b ≡ piece
piece_range whole piece front back a b n is before long end =
    between_is whole a b ∙ ap (λ m. drop a (take m whole)) end ∙ drop-take a n whole
    ∙ ap (λ xs. take n (drop a xs)) is
    ∙ ap (λ m. take n (drop m (concat (front ++ (piece ∷ back))))) (sym before)
    ∙ ap (take n) (drop_pieces front (piece ∷ back)) ∙ take_at piece (concat back) n long

abbrev nonzero : ℕ → Bool
nonzero b = not (b == 0)

zeros_none : (n : ℕ) → list_any nonzero (zeros n) ≡ false
unfolding zeros
zeros_none n = list_any_none nonzero _ (All-replicate (λ b. nonzero b ≡ false) n 0 refl)

none_in_three : (k m n : ℕ) (a b c : List ℕ) → a ≡ zeros k → b ≡ zeros m → c ≡ zeros n
    → list_any nonzero (a ++ b ++ c) ≡ false
none_in_three k m n a b c d e f =
    list_any-append nonzero (a ++ b) c
    ∙ ap (λ t. t || list_any nonzero c) (list_any-append nonzero a b)
    ∙ (λ i. (list_any nonzero (d i) || list_any nonzero (e i)) || list_any nonzero (f i))
    ∙ (λ i. (zeros_none k i || zeros_none m i) || zeros_none n i)

module _ (h : Header) where
  abbrev numbers : List (List ℕ)
  numbers =
      label ∷ u32_bytes h.block_size ∷ u32_bytes h.total ∷ u32_bytes h.free ∷ u32_bytes h.extension
      ∷ u32_bytes h.limit ∷ u32_bytes h.key_max ∷ u32_bytes h.value_max ∷ []

  abbrev front : List (List ℕ)
  front = numbers ++ (zeros 4 ∷ u64_bytes h.tn ∷ [])

  first_zeros : slice_range (header_bytes h) 36 40 ≡ zeros 4
  unfolding header_bytes
  first_zeros =
      piece_range (header_bytes h) (zeros 4) numbers (u64_bytes h.tn ∷ zeros 4048 ∷ h.master ∷ zeros 3840 ∷ []) 36 40 4
      refl (simp (length-append, length-u32_bytes, append-nil)) (length-zeros 4) refl

  second_zeros : slice_range (header_bytes h) 48 4096 ≡ zeros 4048
  unfolding header_bytes
  second_zeros =
      piece_range (header_bytes h) (zeros 4048) front (h.master ∷ zeros 3840 ∷ []) 48 4096 4048
      refl (simp (length-append, length-u32_bytes, length-u64_bytes, length-zeros, append-nil)) (length-zeros 4048) refl

  third_zeros : length h.master ≡ 256 → slice_range (header_bytes h) 4352 8192 ≡ zeros 3840
  unfolding header_bytes
  third_zeros master =
      piece_range (header_bytes h) (zeros 3840) (front ++ (zeros 4048 ∷ h.master ∷ [])) [] 4352 8192 3840
      refl (simp (length-append, length-u32_bytes, length-u64_bytes, length-zeros, append-nil, master))
      (length-zeros 3840) refl

  pub reserved_none : length h.master ≡ 256 → list_any (λ b. not (b == 0)) (reserved_bytes (header_bytes h)) ≡ false
  reserved_none master =
      none_in_three 4 4048 3840 (slice_range (header_bytes h) 36 40) (slice_range (header_bytes h) 48 4096)
      (slice_range (header_bytes h) 4352 8192) first_zeros second_zeros (third_zeros master)
