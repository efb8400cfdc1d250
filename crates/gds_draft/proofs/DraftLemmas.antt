-- The blocks of a draft, and the image with them.
use Rattle.std.proofs.Common.{◌≡◌, ℕ, ◌+◌, ◌*◌, ◌<◌, ◌≤◌, Bool, true, false, List, [], ◌∷◌, ◌++◌, length, take}
use Rattle.std.proofs.Common.{length-append, length-take, drop, flat_map, refl, sym, ap, ◌∙◌, arith, lit≤}
use Rattle.std.specs.Prelude.{if◌then◌else◌, nat_lt, ◌==◌, Some, None}
use Rattle.std.specs.List.{range_with_len, All}
use Rattle.std.proofs.lemmas.Bool.{ltb-true}
use Rattle.std.proofs.lemmas.List.{length-drop, length-take-le, take_at, drop_at, drop-drop}
use Rattle.std.proofs.lemmas.List.Elements.{All-nil, All-cons, All-head, All-tail}
use Rattle.std.proofs.lemmas.Nat.{row_fits}
use Rattle.gds_block.proofs.FieldLemmas.{length-u32_bytes, length-u64_bytes}
use Rattle.gds_header.specs.Fields.{block_of, fields_of, file_length_of, header_bytes, place_of, zeros}
use Rattle.gds_header.specs.declared.header.Header.{Header}
use Rattle.gds_header.proofs.EndingLemmas.{fields_of-front}
use Rattle.gds_epoch.specs.Waiting.{WaitingUnit, waiting_bytes, with_unit}
use Rattle.gds_epoch.proofs.PatchLemmas.{All-with_unit}
use Rattle.gds_new.proofs.PieceLemmas.{length-pieces, piece_at}
use Rattle.gds_new.proofs.HeaderLemmas.{length-header_bytes, length-zeros}
use Rattle.gds_draft.specs.Draft.{IsBlockOf}
use Rattle.gds_draft.specs.Drafted.{block_with, file_by, or_block}
use Rattle.gds_draft.specs.Laws.{DraftedReads}

-- Blocks of a file are blocks of a longer one with the same block size.
pub blocks_of_longer : (g h : Header) (units : List WaitingUnit) → h.block_size ≡ g.block_size → g.total ≤ h.total
    → All (IsBlockOf g) units → All (IsBlockOf h) units
blocks_of_longer g h [] size total all = All-nil (IsBlockOf h)
blocks_of_longer g h (w ∷ units) size total all =
    let first = All-head (IsBlockOf g) w units all in
    All-cons (IsBlockOf h) w units
    (record { from = first.from; to = omega (arith, total, first.to); size = first.size ∙ sym size })
    (blocks_of_longer g h units size total (All-tail (IsBlockOf g) w units all))

-- One more block of the file is put among them.
pub blocks_with : (h : Header) (units : List WaitingUnit) (block : ℕ) (bytes : List ℕ) → block < h.total
    → length bytes ≡ h.block_size → All (IsBlockOf h) units
    → All (IsBlockOf h) (with_unit units (record { unit = block + 1; bytes = bytes }))
blocks_with h units block bytes low size all =
    All-with_unit (IsBlockOf h) units (record { unit = block + 1; bytes = bytes })
    (record { from = omega arith; to = omega (arith, low); size = size }) all

-- ---- The length of each block.

-- a piece behind a front and behind other pieces
piece_long : (at size total n : ℕ) (xs : List ℕ) → length xs ≡ at + total * size → n < total
    → length (take size (drop (at + n * size) xs)) ≡ size
piece_long at size total n xs long low =
    length-take-le size (drop (at + n * size) xs)
    (omega (arith, long, length-drop (at + n * size) xs, row_fits n size total size low (omega arith)))

module _ (h : Header) (image : List ℕ) (long : file_length_of (fields_of image) ≡ length image)
    (same : h.block_size ≡ (fields_of image).block_size) where
  -- a block that the draft hasn't
  length-not_drafted : (n : ℕ) → length (or_block h image n None) ≡ h.block_size
  length-not_drafted n = by (nat_lt n (fields_of image).total) refl
    where
      by : (t : Bool) → nat_lt n (fields_of image).total ≡ t
          → length (if t then block_of image n else zeros h.block_size) ≡ h.block_size
      by true below =
          piece_long 8192 (fields_of image).block_size (fields_of image).total n image (sym long)
          (ltb-true n (fields_of image).total below)
          ∙ sym same
      by false behind = length-zeros h.block_size

  length-or_block : (n unit : ℕ) (units : List WaitingUnit) → All (IsBlockOf h) units
      → length (or_block h image n (waiting_bytes units unit)) ≡ h.block_size
  length-or_block n unit [] all = length-not_drafted n
  length-or_block n unit (w ∷ units) all =
      by (w.unit == unit) (length-or_block n unit units (All-tail (IsBlockOf h) w units all))
    where
      by : (t : Bool) → length (or_block h image n (waiting_bytes units unit)) ≡ h.block_size
          → length (or_block h image n (if t then Some w.bytes else waiting_bytes units unit)) ≡ h.block_size
      by true rest = (All-head (IsBlockOf h) w units all).size
      by false rest = rest

-- ---- A file by its header and its blocks.

-- a header that is read again is whole
length-bytes : (h : Header) → length (header_bytes h) ≡ 4096 + (length h.master + 3840)
unfolding header_bytes
length-bytes h = simp (length-append, length-u32_bytes, length-u64_bytes, length-zeros) (omega arith)

pub master_long : (h : Header) → fields_of (header_bytes h) ≡ h → length h.master ≡ 256
master_long h reads =
    let master = ap (λ (g : Header). length g.master) reads in
    omega (
      arith,
      master,
      length-take 256 (drop 4096 (header_bytes h)),
      length-drop 4096 (header_bytes h),
      length-bytes h,
    )

-- the block at a place behind a front
behind : (front rest : List ℕ) (at more size : ℕ) → length front ≡ at
    → take size (drop (at + more) (front ++ rest)) ≡ take size (drop more rest)
behind front rest at more size long =
    ap (take size) (sym (drop-drop more at (front ++ rest)) ∙ ap (drop more) (drop_at front rest at long))

module _ (h : Header) (block : ℕ → List ℕ) (reads : fields_of (header_bytes h) ≡ h)
    (even : (n : ℕ) → length (block n) ≡ h.block_size) where
  long : length (header_bytes h) ≡ 8192
  long = length-header_bytes h (master_long h reads)

  parts : file_by h block ≡ header_bytes h ++ flat_map block (range_with_len 0 h.total)
  unfolding file_by
  parts = refl

  pub front_of-file_by : take 8192 (file_by h block) ≡ header_bytes h
  front_of-file_by = ap (take 8192) parts ∙ take_at (header_bytes h) _ 8192 long

  pub fields_of-file_by : fields_of (file_by h block) ≡ h
  fields_of-file_by = sym (fields_of-front 8192 (file_by h block) (lit≤ tt)) ∙ ap fields_of front_of-file_by ∙ reads

  pub length-file_by : length (file_by h block) ≡ file_length_of h
  length-file_by =
      ap length parts
      ∙ length-append (header_bytes h) (flat_map block (range_with_len 0 h.total))
      ∙ omega (arith, long, length-pieces block h.block_size even 0 h.total)

  pub block_of-file_by : (n : ℕ) → n < h.total → block_of (file_by h block) n ≡ block n
  block_of-file_by n low =
      ap (λ (g : Header). take g.block_size (drop (place_of g n) (file_by h block))) fields_of-file_by
      ∙ ap (λ xs. take h.block_size (drop (place_of h n) xs)) parts
      ∙ behind (header_bytes h) (flat_map block (range_with_len 0 h.total)) 8192 (n * h.block_size) h.block_size long
      ∙ piece_at block h.block_size even 0 h.total n low ∙ ap block zero_before
    where
      zero_before : 0 + n ≡ n
      zero_before = omega arith

pub drafted_read : DraftedReads
drafted_read image draft is =
    let h : Header = draft.header in
    let even : (n : ℕ) → length (block_with draft image n) ≡ h.block_size =
    λ n. length-or_block h image is.long is.block_size n (n + 1) draft.units is.draft_is.blocks in
    record {
      front = front_of-file_by h (block_with draft image) is.draft_is.reads even;
      fields = fields_of-file_by h (block_with draft image) is.draft_is.reads even;
      blocks = block_of-file_by h (block_with draft image) is.draft_is.reads even;
      len = length-file_by h (block_with draft image) is.draft_is.reads even;
    }
