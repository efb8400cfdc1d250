-- A block of which the tail was moved, and where a piece was put before the tail.
use Rattle.std.proofs.Common.{ℕ, ◌≡◌, ◌+◌, ◌-◌, ◌≤◌, ◌<◌, List, [], ◌++◌, length, get_or, take, drop, sym}
use Rattle.std.proofs.Common.{◌∙◌, ap, arith, append_assoc, length-append, length-take, length-drop, subst}
use Rattle.std.specs.declared.result.Result.{Result}
use Rattle.std.specs.declared.result.Result.TheVariants.{Err}
use Rattle.std.proofs.lemmas.List.{take_at, drop_at, drop-drop, drop-take, take-take, get_or-take}
use Rattle.std.proofs.Math.Seq.{take-append-add}
use Rattle.std.proofs.lemmas.List.{take-append-drop}
use Rattle.gds_block.specs.Block.{version_of, used_of, tn_of}
use Rattle.gds_block.specs.Fields.{u64_at, u32_bytes, with_bytes}
use Rattle.gds_block.specs.Item.{Item}
use Rattle.gds_block.proofs.FieldLemmas.{u16_at-front, u64_at-front, u32_at-front, u32_at-here, length-with_bytes}
use Rattle.gds_block.proofs.FieldLemmas.{length-u32_bytes}
use Rattle.gds_pack.specs.Packed.{records_size, records_bytes, packed_size, key_behind}
use Rattle.gds_pack.specs.Packable.{ArePackable}
use Rattle.gds_pack.proofs.SizeLemmas.{length-records_bytes, records_size-append}
use Rattle.gds_search.specs.PackedBlock.{IsPackedBlock}
use Rattle.gds_edit.specs.Edited.{IsEdited, IsMoved, IsEdit}
use Rattle.gds_edit.specs.declared.error.EditError.{EditError}
use Rattle.gds_edit.specs.declared.error.EditError.TheVariants.{NoRoom}
use Rattle.gds_edit.proofs.PutLemmas.{take-with_bytes_below, drop-with_bytes_from}
use Rattle.gds_edit.proofs.PlaceLemmas.{left_before, used_parts, records_bytes-append}

-- ---- the head

byte_in_front : (x y : List ℕ) (i : ℕ) → i < 4 → take 4 x ≡ take 4 y → get_or x i 0 ≡ get_or y i 0
byte_in_front x y i h e =
    sym (get_or-take 4 x i 0 h) ∙ ap (λ xs. get_or xs i 0) e ∙ get_or-take 4 y i 0 h

version_stays : (x y : List ℕ) → take 4 x ≡ take 4 y → version_of x ≡ version_of y
version_stays x y e =
    sym (u16_at-front 4 x 0 (omega arith)) ∙ ap version_of e ∙ u16_at-front 4 y 0 (omega arith)

tn_stays : (x y : List ℕ) (n : ℕ) → 16 ≤ n → drop 8 (take n x) ≡ drop 8 (take n y) → tn_of x ≡ tn_of y
unfolding u64_at
tn_stays x y n h e =
    sym (u64_at-front n x 8 (omega arith)) ∙ ap (λ xs. u64_at xs 0) e ∙ u64_at-front n y 8 (omega arith)

-- ---- the move

module _ (old : List ℕ) (from to used : ℕ) (behind : 16 ≤ to) (in_order : from ≤ used) (room : used ≤ length old)
    (short : length old ≤ 65024) (fits : to + (used - from) ≤ length old) where
  abbrev copied : List ℕ
  copied = (take to old ++ take (used - from) (drop from old)) ++ drop (to + (used - from)) old

  length-front : length (take to old) ≡ to
  length-front = omega (arith, length-take to old)

  length-moved : length (take (used - from) (drop from old)) ≡ used - from
  length-moved = omega (arith, length-take (used - from) (drop from old), length-drop from old)

  length-copied : length copied ≡ length old
  length-copied =
      omega (
        arith,
        length-append (take to old ++ take (used - from) (drop from old)) (drop (to + (used - from)) old),
        length-append (take to old) (take (used - from) (drop from old)),
        length-front,
        length-moved,
        length-drop (to + (used - from)) old,
      )

  front-copied : take to copied ≡ take to old
  front-copied =
      ap (take to)
      (append_assoc (take to old) (take (used - from) (drop from old)) (drop (to + (used - from)) old))
      ∙ take_at (take to old) (take (used - from) (drop from old) ++ drop (to + (used - from)) old) to length-front

  tail-copied : take (used - from) (drop to copied) ≡ drop from (take used old)
  tail-copied =
      let n = used - from in
      let moved = take n (drop from old) in
      let whole : from + n ≡ used = omega arith in
      ap (λ xs. take n (drop to xs)) (append_assoc (take to old) moved (drop (to + n) old))
      ∙ ap (take n) (drop_at (take to old) (moved ++ drop (to + n) old) to length-front)
      ∙ take_at moved (drop (to + n) old) n length-moved
      ∙ sym (drop-take from n old)
      ∙ ap (λ m. drop from (take m old)) whole

  -- Where the used count is put over the copy, the tail has been moved.
  pub IsMoved-copied : (copy new : List ℕ) → copy ≡ copied
      → new ≡ with_bytes copy 4 (u32_bytes (to + (used - from))) → IsMoved old new from to used
  IsMoved-copied copy new e put =
      let n = used - from in
      let piece = u32_bytes (to + n) in
      let size = length-u32_bytes (to + n) in
      let long : length copy ≡ length old = ap length e ∙ length-copied in
      let inside : 4 + length piece ≤ length copy = omega arith in
      let eight : 8 ≡ 4 + length piece = omega arith in
      let whole : to ≡ 8 + (to - 8) = omega arith in
      let front : take to copy ≡ take to old = ap (take to) e ∙ front-copied in
      let behind_piece : (m : ℕ) → 8 ≤ m → drop m new ≡ drop m copy =
      λ m h. ap (drop m) put ∙ drop-with_bytes_from copy piece 4 inside m (omega arith) in
      record {
        fits = fits;
        len = ap length put ∙ length-with_bytes copy piece 4 inside ∙ long;
        ends =
            u32_at-here new (drop (4 + length piece) copy) 4 (to + n) (omega arith)
            (ap (drop 4) put ∙ drop_at (take 4 copy) (piece ++ drop (4 + length piece) copy) 4
            (omega (arith, length-take 4 copy)));
        first =
            ap (take 4) put ∙ take-with_bytes_below copy piece 4 inside 4 (omega arith)
            ∙ sym (take-take 4 to copy (omega arith)) ∙ ap (take 4) front ∙ take-take 4 to old (omega arith);
        front =
            ap (λ m. drop 8 (take m new)) whole ∙ drop-take 8 (to - 8) new
            ∙ ap (take (to - 8)) (behind_piece 8 (omega arith))
            ∙ sym (drop-take 8 (to - 8) copy) ∙ ap (λ m. drop 8 (take m copy)) (sym whole)
            ∙ ap (drop 8) front;
        moved =
            drop-take to n new ∙ ap (take n) (behind_piece to (omega arith)) ∙ ap (λ xs. take n (drop to xs)) e
            ∙ tail-copied;
      }

-- ---- the piece

module _ (old moved new : List ℕ) (from to used : ℕ) (m : IsMoved old moved from to used) (piece : List ℕ) (at : ℕ)
    (behind : 16 ≤ at) (ends : at + length piece ≡ to) (put : new ≡ with_bytes moved at piece) where
  inside : at + length piece ≤ length moved
  inside = omega (arith, m.fits, m.len)

  stays : (k : ℕ) → k ≤ at → take k new ≡ take k moved
  stays k h = ap (take k) put ∙ take-with_bytes_below moved piece at inside k h

  -- The head is as before but for the used count, which says where the tail ends.
  used_now : used_of new ≡ to + (used - from)
  used_now =
      sym (u32_at-front 16 new 4 (omega arith)) ∙ ap used_of (stays 16 behind) ∙ u32_at-front 16 moved 4 (omega arith)
      ∙ m.ends

  first_now : take 4 new ≡ take 4 old
  first_now = stays 4 (omega arith) ∙ m.first

  before_now : drop 8 (take at new) ≡ drop 8 (take at old)
  before_now =
      let below : at ≤ to = omega arith in
      let whole : at ≡ 8 + (at - 8) = omega arith in
      let up : to ≡ 8 + (to - 8) = omega arith in
      let part : (xs : List ℕ) → drop 8 (take at xs) ≡ take (at - 8) (drop 8 (take to xs)) =
      λ xs. ap (drop 8) (sym (take-take at to xs below)) ∙ ap (λ k. drop 8 (take k (take to xs))) whole
      ∙ drop-take 8 (at - 8) (take to xs) in
      ap (drop 8) (stays at (omega arith)) ∙ part moved ∙ ap (take (at - 8)) m.front ∙ sym (part old)

  tail_now : drop at (take (to + (used - from)) new) ≡ piece ++ drop from (take used old)
  tail_now =
      let more = drop (at + length piece) moved in
      let front : length (take at moved) ≡ at = omega (arith, length-take at moved, m.fits, m.len) in
      let size : to + (used - from) ≡ at + (length piece + (used - from)) = omega arith in
      let rest : take (used - from) more ≡ drop from (take used old) =
      ap (λ k. take (used - from) (drop k moved)) ends ∙ sym (drop-take to (used - from) moved) ∙ m.moved in
      ap (λ k. drop at (take k new)) size
      ∙ drop-take at (length piece + (used - from)) new
      ∙ ap (λ xs. take (length piece + (used - from)) (drop at xs)) put
      ∙ ap (take (length piece + (used - from))) (drop_at (take at moved) (piece ++ more) at front)
      ∙ take-append-add piece more (used - from)
      ∙ ap (λ xs. piece ++ xs) rest

  module _ (height : ℕ) (a b es : List Item) (packed : IsPackedBlock old height (a ++ b)) (place : at ≡ packed_size a)
      (all : used ≡ used_of old) (packable : ArePackable height (a ++ es))
      (same : piece ++ drop from (take used old) ≡ records_bytes (key_behind [] a) es) where
    front_now : take (records_size [] a) (drop 16 (take (to + (used - from)) new)) ≡ records_bytes [] a
    front_now =
        let rs = records_size [] a in
        let inside : at ≤ used_of old = omega (arith, used_parts old height a b packed) in
        let twice : (xs : List ℕ) → drop 16 xs ≡ drop 8 (drop 8 xs) = λ xs. sym (drop-drop 8 8 xs) in
        let part : (k : ℕ) (xs : List ℕ) → at ≤ k → take rs (drop 16 (take k xs)) ≡ drop 16 (take at xs) =
        λ k xs h. sym (drop-take 16 rs (take k xs)) ∙ ap (λ m. drop 16 (take m (take k xs))) (sym place)
        ∙ ap (drop 16) (take-take at k xs h) in
        part (to + (used - from)) new (omega arith)
        ∙ twice (take at new) ∙ ap (drop 8) before_now ∙ sym (twice (take at old))
        ∙ sym (part (used_of old) old inside)
        ∙ left_before old height a b packed

    back_now : drop at (take (to + (used - from)) new) ≡ records_bytes (key_behind [] a) es
    back_now = tail_now ∙ same

    records_now : drop 16 (take (to + (used - from)) new) ≡ records_bytes [] (a ++ es)
    records_now =
        let rs = records_size [] a in
        let left = drop 16 (take (to + (used - from)) new) in
        let behind_front : drop rs left ≡ records_bytes (key_behind [] a) es =
        drop-drop rs 16 (take (to + (used - from)) new) ∙ ap (λ m. drop m (take (to + (used - from)) new)) (sym place)
        ∙ back_now in
        sym (take-append-drop rs left) ∙ (λ k. front_now k ++ behind_front k) ∙ sym (records_bytes-append [] a es)

    long_now : length new ≡ length old
    long_now = ap length put ∙ length-with_bytes moved piece at inside ∙ m.len

    pub size_now : to + (used - from) ≡ packed_size (a ++ es)
    size_now =
        let ends_at = to + (used - from) in
        omega (
          arith,
          ap length back_now,
          length-drop at (take ends_at new),
          length-take ends_at new,
          long_now,
          m.fits,
          length-records_bytes (key_behind [] a) es,
          records_size-append [] a es,
        )

    pub IsEdited-put : IsEdited old new height (a ++ es)
    IsEdited-put = record {
      packed = record {
        is_block = record {
          head = omega (arith, long_now, m.fits);
          covered = omega (arith, used_now);
          within = omega (arith, used_now, long_now, m.fits);
        };
        room = omega (arith, long_now, packed.room);
        level = byte_in_front new old 3 (omega arith) first_now ∙ packed.level;
        used = used_now ∙ size_now;
        records = ap (λ k. drop 16 (take k new)) used_now ∙ records_now;
        packable = packable;
      };
      version = version_stays new old first_now;
      reserved = byte_in_front new old 2 (omega arith) first_now;
      tn = tn_stays new old at behind before_now;
    }

-- ---- bytes that a move keeps

take_in_front : (xs : List ℕ) (k i n : ℕ) → i + n ≤ k → take n (drop i (take k xs)) ≡ take n (drop i xs)
take_in_front xs k i n h =
    sym (drop-take i n (take k xs)) ∙ ap (drop i) (take-take (i + n) k xs h) ∙ drop-take i n xs

-- Bytes that stand in both, before the tail's new place and before the used count.
pub kept_bytes : (old moved : List ℕ) (from to used : ℕ) → IsMoved old moved from to used → (i n : ℕ) → 8 ≤ i
    → i + n ≤ to → i + n ≤ used → take n (drop i moved) ≡ take n (drop i (take used old))
kept_bytes old moved from to used m i n behind before inside =
    let whole : 8 + (i - 8) ≡ i = omega arith in
    let part : (xs : List ℕ) → take n (drop i xs) ≡ take n (drop (i - 8) (drop 8 (take to xs))) =
    λ xs. sym (take_in_front xs to i n before)
    ∙ ap (λ k. take n (drop k (take to xs))) (sym whole)
    ∙ ap (take n) (sym (drop-drop (i - 8) 8 (take to xs))) in
    part moved ∙ ap (λ xs. take n (drop (i - 8) xs)) m.front ∙ sym (part old) ∙ sym (take_in_front old used i n inside)

-- ---- the answer

pub IsEdit-refused : (old new : List ℕ) (height : ℕ) (es : List Item) (result : Result (Unit {0}) EditError)
    (e : EditError) → result ≡ Err e → e ≡ NoRoom → length old < packed_size es → IsEdit old new height es result
IsEdit-refused old new height es result e is full h =
    subst (IsEdit old new height es) (sym is) (record { done = tt; full = (full, h) })
