-- The records of a block stand in it at their offsets, each in 5 bytes of its own at least.
use Rattle.std.proofs.Common.{ℕ, zero, suc, ◌≡◌, ◌+◌, ◌-◌, ◌*◌, ◌≤◌, ◌<◌, Bool, true, false, List, [], length, get_or}
use Rattle.std.proofs.Common.{take, drop, refl, sym, ◌∙◌, ap, subst, arith, add-zero, add_comm, length-drop}
use Rattle.std.proofs.Common.{length-take}
use Rattle.std.specs.Prelude.{if◌then◌else◌, All, slice_range}
use Rattle.std.specs.List.{AllByRecursion}
use Rattle.std.proofs.lemmas.List.{same_lists, get_or-drop, get_or-take, drop-drop}
use Rattle.std.proofs.lemmas.List.Elements.{All-from_recursion}
use Rattle.gds_block.specs.Fields.{u16_at}
use Rattle.gds_block.specs.Block.{level_of, used_of}
use Rattle.gds_block.specs.Record.{StandsIn, bytes_left, size_of, is_well_sized, first_record, records_up_to}
use Rattle.gds_block.specs.Record.{records_from, records_of}
use Rattle.gds_block.proofs.RecordLemmas.{Fits-from_well_sized}

-- a property of the list that an `if` gives
when : {A : Type 0} (P : List A → Type 0) (b : Bool) (xs : List A) → (b ≡ true → P xs) → P [] → P (if b then xs else [])
when P true xs h k = h refl
when P false xs h k = k

-- a byte of the bytes left is one of the block
byte_of : (block : List ℕ) (used offset k i : ℕ) → offset + (k + i) < used
    → get_or (drop k (drop offset (take used block))) i 0 ≡ get_or (drop (offset + k) block) i 0
byte_of block used offset k i h =
    let same : offset + (k + i) ≡ offset + k + i = omega arith in
    get_or-drop k _ i 0 ∙ get_or-drop offset _ (k + i) 0 ∙ get_or-take used block (offset + (k + i)) 0 h
    ∙ ap (λ m. get_or block m 0) same ∙ sym (get_or-drop (offset + k) block i 0)

-- a part of the bytes left is one of the block
part_of : (block : List ℕ) (used offset k n : ℕ) → offset + (k + n) ≤ used → used ≤ length block
    → take n (drop (offset + k) block) ≡ drop k (take (k + n) (drop offset (take used block)))
part_of block used offset k n h l =
    let short : length (take n (drop (offset + k) block))
    ≡ length (drop k (take (k + n) (drop offset (take used block)))) = simp (length-take, length-drop) (omega arith) in
    same_lists _ _ short (λ i d j.
    let within : i < n = omega (arith, length-take n (drop (offset + k) block)) in
    let one : get_or (take n (drop (offset + k) block)) i d ≡ get_or block (offset + k + i) d =
    rw (get_or-take, get_or-drop) refl in
    let place : i + k < k + n = omega arith in
    let deep : offset + (k + i) < used = omega arith in
    let two : get_or (drop k (take (k + n) (drop offset (take used block)))) i d ≡ get_or block (offset + (k + i)) d =
    get_or-drop k _ i d ∙ get_or-take (k + n) _ (k + i) d (omega arith) ∙ get_or-drop offset _ (k + i) d
    ∙ get_or-take used block (offset + (k + i)) d deep in
    one ∙ ap (λ m. get_or block m d) (omega arith) ∙ sym two)

module _ (block : List ℕ) (used offset size : ℕ) (least : 5 ≤ size)
    (fits : size ≤ length (drop offset (take used block))) (whole : used ≤ length block) where
  ends_within : offset + size ≤ used
  ends_within = omega (arith, length-drop offset (take used block), length-take used block)

  length-body : length (drop 4 (take size (drop offset (take used block)))) + 4 ≡ size
  length-body =
      omega (
        arith,
        length-drop 4 (take size (drop offset (take used block))),
        length-take size (drop offset (take used block)),
      )

  size_there : u16_at (drop offset (take used block)) 0 ≡ u16_at block offset
  unfolding u16_at
  size_there =
      let inside = ends_within in
      cc (byte_of block used offset 0 0 (omega arith), byte_of block used offset 0 1 (omega arith), add-zero offset)

  count_there : u16_at (drop offset (take used block)) 2 ≡ u16_at block (offset + 2)
  unfolding u16_at
  count_there =
      let inside = ends_within in
      cc (byte_of block used offset 2 0 (omega arith), byte_of block used offset 2 1 (omega arith))

  within_there : offset + 4 + length (drop 4 (take size (drop offset (take used block)))) ≤ used
  within_there = omega (arith, length-body, ends_within)

  bytes_there : slice_range block (offset + 4)
      (offset + 4 + length (drop 4 (take size (drop offset (take used block)))))
      ≡ drop 4 (take size (drop offset (take used block)))
  bytes_there =
      let left = drop offset (take used block) in
      let n = length (drop 4 (take size left)) in
      let inside : offset + (4 + n) ≤ used = omega (arith, within_there) in
      let all : 4 + n ≡ size = omega (arith, length-body) in
      let long : offset + 4 + n - (offset + 4) ≡ n = omega arith in
      ap (λ m. take m (drop (offset + 4) block)) long ∙ part_of block used offset 4 n inside whole
      ∙ ap (λ m. drop 4 (take m left)) all

-- a well-sized record stands in the block
StandsIn-first : (block : List ℕ) (level offset : ℕ) → 16 ≤ offset → used_of block ≤ length block
    → is_well_sized level (bytes_left block offset) ≡ true
    → StandsIn block (first_record offset (bytes_left block offset))
StandsIn-first block level offset behind whole well =
    let left = bytes_left block offset in
    let size = size_of left in
    let fits = Fits-from_well_sized level left well in
    record {
      behind_head = behind;
      within = within_there block (used_of block) offset size fits.least fits.within whole;
      size =
          sym (size_there block (used_of block) offset size fits.least fits.within whole)
          ∙ sym (length-body block (used_of block) offset size fits.least fits.within whole) ∙ add_comm _ 4;
      tally = sym (count_there block (used_of block) offset size fits.least fits.within whole);
      bytes = bytes_there block (used_of block) offset size fits.least fits.within whole;
    }

all_up_to : (block : List ℕ) (level n offset : ℕ) → 16 ≤ offset → used_of block ≤ length block
    → AllByRecursion (StandsIn block) (records_up_to n level offset (bytes_left block offset))
all_up_to block level zero offset behind whole = tt
all_up_to block level (suc n) offset behind whole =
    let left = bytes_left block offset in
    when (AllByRecursion (StandsIn block)) (is_well_sized level left) _
    (λ well.
    let fits = Fits-from_well_sized level left well in
    let rest : AllByRecursion (StandsIn block)
    (records_up_to n level (offset + size_of left) (bytes_left block (offset + size_of left))) = all_up_to block level n
    (offset + size_of left) (omega arith) whole in (
      StandsIn-first block level offset behind whole well,
      subst (λ (more : List ℕ). AllByRecursion (StandsIn block) (records_up_to n level (offset + size_of left) more))
          (sym (drop-drop (size_of left) offset (take (used_of block) block))) rest,
    ))
    tt

-- each record of a block stands in it
pub All-records_of : (block : List ℕ) → used_of block ≤ length block → All (StandsIn block) (records_of block)
All-records_of block whole =
    All-from_recursion (StandsIn block) (records_of block)
    (all_up_to block (level_of block) (length (bytes_left block 16)) 16 (omega arith) whole)

few_up_to : (n level offset : ℕ) (left : List ℕ) → 5 * length (records_up_to n level offset left) ≤ length left
few_up_to zero level offset left = omega arith
few_up_to (suc n) level offset left =
    when (λ rs. 5 * length rs ≤ length left) (is_well_sized level left) _
    (λ well.
    let fits = Fits-from_well_sized level left well in
    omega (
      arith,
      few_up_to n level (offset + size_of left) (drop (size_of left) left),
      length-drop (size_of left) left,
    ))
    (omega arith)

-- Each record takes 5 bytes or more.
pub few_records : (level offset : ℕ) (left : List ℕ) → 5 * length (records_from level offset left) ≤ length left
few_records level offset left = few_up_to (length left) level offset left
