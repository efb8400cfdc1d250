-- The file that a commit leaves.
use Rattle.std.proofs.Common.{◌≡◌, ℕ, ◌+◌, ◌-◌, ◌*◌, ◌<◌, ◌≤◌, ◌==◌, false, List, ◌++◌, length, take, drop}
use Rattle.std.proofs.Common.{replicate, sym}
use Rattle.std.proofs.Common.{append_assoc, get_or, ap, subst, ◌∙◌, ⊎_elim, arith, length-take, length-drop, Some, None}
use Rattle.std.specs.Prelude.{All}
use Rattle.std.proofs.lemmas.Bool.{cases_lt, cond-false, ne_eqb}
use Rattle.std.proofs.lemmas.List.{drop-append-le, drop-replicate, drop-take, length-replicate, take-append-le}
use Rattle.std.proofs.lemmas.List.{take-replicate, take-take}
use Rattle.std.proofs.Math.Nat.{mul-le-mul_right}
use Rattle.std.proofs.Math.Seq.{drop-append-add}
use Rattle.std.proofs.lemmas.Nat.{row_fits}
use Rattle.host_model.specs.Disk.{written}
use Rattle.gds_header.specs.declared.header.Header.{Header}
use Rattle.gds_header.specs.Fields.{block_of, fields_of, file_length_of, header_bytes, image_length, place_of}
use Rattle.gds_images.specs.Outcome.{IsWhole}
use Rattle.gds_epoch.specs.Epoch.{database_of}
use Rattle.gds_epoch.specs.Waiting.{IsRising, LiesWithin, WaitingUnit, patched}
use Rattle.gds_file.specs.Stamp.{with_number}
use Rattle.gds_draft.specs.Committed.{IsCommitted, next_header}
use Rattle.gds_draft.specs.Draft.{DraftState, block_in}
use Rattle.gds_draft.specs.Drafted.{drafted}
use Rattle.gds_draft.specs.Laws.{IsDraftOf}
use Rattle.gds_units.specs.Plan.{IsCarriedOut, header_after}
use Rattle.gds_units.proofs.DropLemmas.{within_total}
use Rattle.gds_units.proofs.ExampleLemmas.{carried_image}
use Rattle.gds_units.proofs.PatchedLemmas.{take-patched}
use Rattle.gds_units.proofs.UnitLemmas.{held_by, held_other, held_waiting}
use Rattle.gds_base.specs.Commit.{IsPlanOf}
use Rattle.gds_base.specs.Drafting.{IsDraftFor}
use Rattle.gds_base.specs.Room.{HasZeros}
use Rattle.gds_base.proofs.PlanLemmas.{after, has_block, has_front, numbers, rising, sizes}
use Rattle.gds_base.proofs.ReadingLemmas.{behind_end, below_end, block_not_drafted}

-- ---- Zeros behind an image.

-- a piece of zeros within others
piece_of_zeros : (n at size : ℕ) (more : List ℕ) → at + size ≤ n
    → take size (drop at (replicate n 0 ++ more)) ≡ replicate size 0
piece_of_zeros n at size more within =
    let some : List ℕ = replicate n 0 in
    let long : length some ≡ n = length-replicate n 0 in
    ap (take size) (drop-append-le at some more (omega (arith, within, long)))
    ∙ take-append-le size (drop at some) more (omega (arith, within, long, length-drop at some))
    ∙ ap (take size) (drop-replicate at n 0) ∙ take-replicate size (n - at) 0 (omega (arith, within))

-- A block in a run of zeros that was written.
pub zeros_written : (h : Header) (total : ℕ) (old new : List ℕ) → file_length_of h ≤ length old
    → new ≡ written (file_length_of h) (replicate (place_of h total - file_length_of h) 0) old
    → HasZeros h total new
zeros_written h total old new long is n past low =
    let from = file_length_of h in
    let count = place_of h total - from in
    let front = take from old in
    let some : List ℕ = replicate count 0 in
    let rest = drop (from + length some) old in
    let behind : from ≤ place_of h n = omega (arith, mul-le-mul_right h.block_size past) in
    let at : place_of h n ≡ length front + (place_of h n - from) =
    omega (arith, behind, long, length-take from old) in
    let fits : place_of h n - from + h.block_size ≤ count =
    omega (arith, behind, row_fits n h.block_size total h.block_size low (omega arith)) in
    ap (λ xs. take h.block_size (drop (place_of h n) xs)) (is ∙ append_assoc front some rest)
    ∙ ap (λ k. take h.block_size (drop k (front ++ (some ++ rest)))) at
    ∙ ap (take h.block_size) (drop-append-add front (some ++ rest) (place_of h n - from))
    ∙ piece_of_zeros count (place_of h n - from) h.block_size rest fits

-- ---- Blocks as units.

-- what a front of a file holds
held_within : (place size whole : ℕ) (file : List ℕ) → place + size ≤ whole
    → take size (drop place (take whole file)) ≡ take size (drop place file)
held_within place size whole file within =
    sym (drop-take place size (take whole file)) ∙ ap (drop place) (take-take (place + size) whole file within)
    ∙ drop-take place size file

unit_is_block : (size n : ℕ) (file : List ℕ) → held_by size (n + 1) file ≡ take size (drop (8192 + n * size) file)
unit_is_block size n file =
    let other : (n + 1 == 0) ≡ false = ne_eqb (n + 1) 0 (λ e. omega (arith, e)) in
    let one : n + 1 - 1 ≡ n = omega arith in
    (λ i. take (cond-false (n + 1 == 0) 8192 size other i)
    (drop (cond-false (n + 1 == 0) 0 (8192 + (n + 1 - 1) * size) other i) file))
    ∙ ap (λ k. take size (drop (8192 + k * size) file)) one

-- ---- The file.

module _ (image : List ℕ) (draft : DraftState) (is : IsDraftOf image draft) (h : Header) (fields : fields_of image ≡ h)
    (whole : IsWhole image) (plan : List WaitingUnit) (planned : IsPlanOf draft plan) (fits : IsDraftFor h draft)
    (mid new file : List ℕ) (begins : database_of mid ≡ image) (zero : HasZeros h draft.header.total mid)
    (carried : IsCarriedOut h plan mid new) (made : database_of new ≡ file) (made_whole : IsWhole file)
    (made_fields : fields_of file ≡ next_header draft.header) where
  abbrev size : ℕ
  size = h.block_size

  abbrev long : ℕ
  long = file_length_of draft.header

  length_is : length file ≡ long
  length_is = sym made_whole.len ∙ ap file_length_of made_fields

  same_size : draft.header.block_size ≡ h.block_size
  same_size = fits.block_size

  reaches : long ≤ length mid
  reaches =
      omega (arith, length_is, ap length made, length-take (image_length new) new, carried.len)

  abbrev before : List ℕ
  before = take long mid

  before_long : length before ≡ long
  before_long = omega (arith, length-take long mid, reaches)

  inside : All (LiesWithin size long) plan
  inside k d less =
      let rows : draft.header.total * draft.header.block_size ≡ draft.header.total * size =
      ap (λ m. draft.header.total * m) same_size in
      let total : (header_after h plan).total ≡ draft.header.total =
      ap (λ (g : Header). g.total) (after h draft plan planned fits) in
      let unit = (get_or plan k d).unit in
      let low : unit ≤ draft.header.total = omega (arith, numbers h draft plan planned fits k d less, total) in
      let has = sizes h draft plan planned fits k d less in
      record {
        size = has;
        within = omega (arith, has, rows, within_total size draft.header.total unit low);
      }

  file_is : file ≡ patched size plan before
  file_is =
      sym made ∙ carried_image h plan mid new carried
      ∙ ap (λ (g : Header). take (file_length_of g) (patched size plan mid)) (after h draft plan planned fits)
      ∙ take-patched size long plan mid inside reaches

  inside_before : All (LiesWithin size (length before)) plan
  inside_before = subst (λ n. All (LiesWithin size n) plan) (sym before_long) inside

  rises : IsRising plan
  rises = rising h draft plan planned fits

  block_held : (n : ℕ) → block_of file n ≡ held_by size (n + 1) (patched size plan before)
  block_held n =
      ap (λ (g : Header). take g.block_size (drop (place_of g n) file)) made_fields
      ∙ ap (λ k. take k (drop (8192 + n * k) file)) same_size ∙ sym (unit_is_block size n file)
      ∙ ap (held_by size (n + 1)) file_is

  front : take 8192 file ≡ header_bytes (next_header draft.header)
  front =
      ap (take 8192) file_is
      ∙ held_waiting size 0 plan before (header_bytes (next_header draft.header)) rises inside_before
      (has_front h draft plan planned fits)

  changed : (n : ℕ) (bytes : List ℕ) → n < draft.header.total → block_in draft n ≡ Some bytes
      → block_of file n ≡ with_number draft.header.tn bytes
  changed n bytes low has =
      block_held n
      ∙ held_waiting size (n + 1) plan before (with_number draft.header.tn bytes) rises inside_before
      (has_block h draft plan planned fits n (Some bytes) has)

  fits_in : (n : ℕ) → n < draft.header.total → place_of h n + size ≤ long
  fits_in n low =
      let rows : draft.header.total * draft.header.block_size ≡ draft.header.total * size =
      ap (λ m. draft.header.total * m) same_size in
      omega (arith, rows, row_fits n size draft.header.total size low (omega arith))

  -- a block that the plan hasn't
  kept : (n : ℕ) → n < draft.header.total → block_in draft n ≡ None
      → block_of file n ≡ take size (drop (place_of h n) mid)
  kept n low none =
      block_held n
      ∙ held_other size (n + 1) plan before inside_before (has_block h draft plan planned fits n None none)
      ∙ unit_is_block size n before ∙ held_within (place_of h n) size long mid (fits_in n low)

  of_image : (n : ℕ) → n < h.total → take size (drop (place_of h n) mid) ≡ block_of image n
  of_image n low =
      let ends : length image ≡ file_length_of h = sym whole.len ∙ ap file_length_of fields in
      let within : place_of h n + size ≤ image_length mid =
      omega (
        arith,
        ends,
        ap length begins,
        length-take (image_length mid) mid,
        row_fits n size h.total size low (omega arith),
      ) in
      sym (held_within (place_of h n) size (image_length mid) mid within)
      ∙ ap (λ xs. take size (drop (place_of h n) xs)) begins
      ∙ sym (ap (λ (g : Header). take g.block_size (drop (place_of g n) image)) fields)

  others : (n : ℕ) → n < draft.header.total → block_in draft n ≡ None
      → block_of file n ≡ block_of (drafted draft image) n
  others n low none =
      kept n low none
      ∙ ⊎_elim
      (λ (there : n < h.total). below_end image h h n _ fields there (of_image n there))
      (λ (past : h.total ≤ n). behind_end image h h n _ fields past (zero n past low))
      (cases_lt n h.total)
      ∙ sym (block_not_drafted image draft is n low h same_size none)

  pub is_committed : IsCommitted draft image file
  is_committed = record { len = length_is; front = front; changed = changed; others = others }
