-- The file that a commit makes of bytes is made of bytes.
use Rattle.std.proofs.Common.{◌≡◌, ℕ, zero, suc, ◌+◌, ◌<◌, ◌≤◌, ◌^◌, Bool, true, false, List, [], ◌++◌, length}
use Rattle.std.proofs.Common.{take, drop, flat_map, refl, sym, ap, subst, ◌∙◌, arith, lit<}
use Rattle.std.specs.Prelude.{if◌then◌else◌, nat_lt, Option, Some, None}
use Rattle.std.specs.List.{All, range_with_len}
use Rattle.std.proofs.lemmas.List.Elements.{All-append, All-drop, All-from_recursion, All-nil, All-replicate, All-take}
use Rattle.gds_block.specs.Fields.{u32_bytes, u64_bytes}
use Rattle.gds_header.specs.declared.header.Header.{Header}
use Rattle.gds_header.specs.Fields.{block_of, fields_of, file_length_of, header_bytes, label, place_of, zeros}
use Rattle.gds_epoch.specs.Waiting.{HasBytes}
use Rattle.gds_file.specs.Stamp.{with_number}
use Rattle.gds_draft.specs.Committed.{CommittedIsBytes, IsCommitted, next_header}
use Rattle.gds_draft.specs.Draft.{DraftState, HoldsBytes, block_in}
use Rattle.gds_draft.specs.Drafted.{or_block}
use Rattle.gds_draft.specs.Laws.{IsDraftOf}
use Rattle.gds_draft.proofs.CommitLemmas.{committed_fields}
use Rattle.gds_draft.proofs.DraftLemmas.{drafted_read}
use Rattle.gds_draft.proofs.PieceLemmas.{front_and_pieces, piece}
use Rattle.gds_draft.proofs.UnitLemmas.{found_has}

abbrev Bytes : List ℕ → Type 0
Bytes xs = All (λ b. b < 256) xs

both : (xs ys : List ℕ) → Bytes xs → Bytes ys → Bytes (xs ++ ys)
both xs ys a b = All-append (λ b. b < 256) xs ys a b

bytes_zeros : (n : ℕ) → Bytes (zeros n)
unfolding zeros
bytes_zeros n = All-replicate (λ b. b < 256) n 0 (lit< tt)

-- ---- A header.

bytes_label : Bytes label
bytes_label =
    All-from_recursion (λ b. b < 256) label
    (lit< tt, (lit< tt, (lit< tt, (lit< tt, (lit< tt, (lit< tt, (lit< tt, (lit< tt, tt))))))))

bytes_u32 : (n : ℕ) → Bytes (u32_bytes n)
unfolding u32_bytes
bytes_u32 n =
    All-from_recursion (λ b. b < 256) (u32_bytes n) (omega arith, (omega arith, (omega arith, (omega arith, tt))))

bytes_u64 : (n : ℕ) → Bytes (u64_bytes n)
unfolding u64_bytes
bytes_u64 n =
    All-from_recursion (λ b. b < 256) (u64_bytes n) (
      omega arith,
      (
        omega arith,
        (
          omega arith,
          (
            omega arith,
            (omega arith, (omega arith, (omega arith, (omega arith, tt)))),
          ),
        ),
      ),
    )

bytes_of_header : (h : Header) → Bytes h.master → Bytes (header_bytes h)
unfolding header_bytes
bytes_of_header h master =
    both label _ bytes_label
    (both (u32_bytes h.block_size) _ (bytes_u32 h.block_size)
    (both (u32_bytes h.total) _ (bytes_u32 h.total)
    (both (u32_bytes h.free) _ (bytes_u32 h.free)
    (both (u32_bytes h.extension) _ (bytes_u32 h.extension)
    (both (u32_bytes h.limit) _ (bytes_u32 h.limit)
    (both (u32_bytes h.key_max) _ (bytes_u32 h.key_max)
    (both (u32_bytes h.value_max) _ (bytes_u32 h.value_max)
    (both (zeros 4) _ (bytes_zeros 4)
    (both (u64_bytes h.tn) _ (bytes_u64 h.tn)
    (both (zeros 4048) _ (bytes_zeros 4048)
    (both h.master _ master
    (both (zeros 3840) [] (bytes_zeros 3840) (All-nil (λ b. b < 256))))))))))))))

-- ---- A file.

-- pieces of bytes one behind another
bytes_of_pieces : (f : ℕ → List ℕ) (from n : ℕ) → ((k : ℕ) → from ≤ k → k < from + n → Bytes (f k))
    → Bytes (flat_map f (range_with_len from n))
bytes_of_pieces f from zero each = All-nil (λ b. b < 256)
bytes_of_pieces f from (suc n) each =
    both (f from) (flat_map f (range_with_len (from + 1) n)) (each from (omega arith) (omega arith))
    (bytes_of_pieces f (from + 1) n (λ k low high. each k (omega (arith, low)) (omega (arith, high))))

-- A file whose front and blocks are bytes is one of bytes.
bytes_of_file : (h : Header) (file : List ℕ) → length file ≡ file_length_of h → fields_of file ≡ h
    → Bytes (take 8192 file) → ((n : ℕ) → n < h.total → Bytes (block_of file n)) → Bytes file
bytes_of_file h file long fields front blocks =
    let each : (n : ℕ) → 0 ≤ n → n < 0 + h.total → Bytes (piece 8192 h.block_size file n) =
    λ n low high. subst (λ (g : Header). Bytes (take g.block_size (drop (place_of g n) file))) fields
    (blocks n (omega (arith, high))) in
    subst Bytes (front_and_pieces 8192 h.block_size file h.total long)
    (both (take 8192 file) _ front (bytes_of_pieces (piece 8192 h.block_size file) 0 h.total each))

bytes_of_block : (h : Header) (image : List ℕ) (n : ℕ) → Bytes image → Bytes (or_block h image n None)
bytes_of_block h image n bytes = by (nat_lt n (fields_of image).total)
  where
    by : (t : Bool) → Bytes (if t then block_of image n else zeros h.block_size)
    by true =
        All-take (λ b. b < 256) (fields_of image).block_size (drop (place_of (fields_of image) n) image)
        (All-drop (λ b. b < 256) (place_of (fields_of image) n) image bytes)
    by false = bytes_zeros h.block_size

bytes_with_number : (tn : ℕ) (block : List ℕ) → Bytes block → Bytes (with_number tn block)
bytes_with_number tn block bytes =
    both (take 8 block) _ (All-take (λ b. b < 256) 8 block bytes)
    (both (u64_bytes tn) _ (bytes_u64 tn) (All-drop (λ b. b < 256) (8 + length (u64_bytes tn)) block bytes))

module _ (image : List ℕ) (draft : DraftState) (file : List ℕ) (is : IsDraftOf image draft)
    (few : draft.header.tn < 2 ^ 63) (holds : HoldsBytes draft) (bytes : Bytes image)
    (made : IsCommitted draft image file) where
  block : (n : ℕ) → n < draft.header.total → (o : Option (List ℕ)) → block_in draft n ≡ o → Bytes (block_of file n)
  block n low (Some own) has =
      subst Bytes (sym (made.changed n own low has))
      (bytes_with_number draft.header.tn own (found_has HasBytes draft.units (n + 1) own holds.blocks has))
  block n low None none =
      let read = drafted_read image draft is in
      subst Bytes
      (sym (made.others n low none ∙ read.blocks n low ∙ ap (or_block draft.header image n) none))
      (bytes_of_block draft.header image n bytes)

  pub committed_made : Bytes file
  committed_made =
      bytes_of_file (next_header draft.header) file made.len (committed_fields image draft is few file made)
      (subst Bytes (sym made.front) (bytes_of_header (next_header draft.header) holds.master))
      (λ n low. block n low (block_in draft n) refl)

pub committed_is_bytes : CommittedIsBytes
committed_is_bytes image draft file is few holds bytes made = committed_made image draft file is few holds bytes made
