-- An entry's rest in place of another.
use Rattle.std.proofs.Common.{ℕ, zero, suc, ◌≡◌, ◌+◌, ◌-◌, ◌≤◌, ◌<◌, ◌^◌, min, List, [], ◌∷◌, ◌++◌, length, take, drop}
use Rattle.std.proofs.Common.{refl, sym}
use Rattle.std.proofs.Common.{inl, inr, ◌∙◌, ap, subst, arith, append_assoc, length-append, length-drop}
use Rattle.std.proofs.lemmas.Bool.{cases_order}
use Rattle.std.proofs.lemmas.List.{take_at, drop_at, drop-drop}
use Rattle.gds_block.specs.Block.{level_of, used_of}
use Rattle.gds_block.specs.Fields.{u16_at, u16_bytes, with_bytes}
use Rattle.gds_block.specs.Item.{Item}
use Rattle.gds_block.proofs.FieldLemmas.{length-u16_bytes}
use Rattle.m_key.specs.KeyEnd.{shared}
use Rattle.m_key.proofs.KeyEndLemmas.{shared-le}
use Rattle.gds_pack.specs.Packed.{record_size, record_bytes, records_bytes, packed_size, key_behind}
use Rattle.gds_pack.specs.Packable.{AreIndex, ArePackable}
use Rattle.gds_pack.proofs.SizeLemmas.{length-record_bytes, records_size-append}
use Rattle.gds_search.specs.PackedBlock.{IsPackedBlock}
use Rattle.gds_search.specs.Place.{IsPlaceFor}
use Rattle.gds_search.specs.declared.place.Place.{Place}
use Rattle.gds_search.proofs.OrderLemmas.{shared-itself}
use Rattle.gds_edit.specs.Reading.{StandsAt}
use Rattle.gds_edit.specs.Edited.{IsEdited, IsMoved}
use Rattle.gds_edit.proofs.PutLemmas.{with_bytes-then, with_bytes-kept}
use Rattle.gds_edit.proofs.PlaceLemmas.{record_bytes-parts, stands, stands_here, ends_here, size_here, count_here}
use Rattle.gds_edit.proofs.EditLemmas.{IsEdited-put, kept_bytes}

index_rest : (p : List ℕ) (a b : List Item) (e : Item) → AreIndex p (a ++ e ∷ b) → length e.rest ≡ 4
index_rest p [] [] e h = h.1
index_rest p [] (j ∷ b) e h = h.1
index_rest p (x ∷ []) b e h = index_rest x.key [] b e h.2
index_rest p (x ∷ y ∷ a) b e h = index_rest x.key (y ∷ a) b e h.2

-- Each rest of an index block is a pointer.
length-pointer : (height : ℕ) (a b : List Item) (e : Item) → ArePackable height (a ++ e ∷ b) → (height ≡ 0 → ⊥)
    → length e.rest ≡ 4
length-pointer zero a b e h above = absurd (above refl)
length-pointer (suc height) a b e h above = index_rest [] a b e h

module _ (old : List ℕ) (height : ℕ) (a b : List Item) (e : Item) (rest : List ℕ)
    (packed : IsPackedBlock old height (a ++ e ∷ b))
    (at n used to : ℕ) (place : at ≡ packed_size a) (all : used ≡ used_of old)
    (part : u16_at old (at + 2) + n ≡ length e.key) where
  abbrev other : Item
  other = record e { rest = rest }

  size_is : u16_at old at ≡ record_size (key_behind [] a) e
  size_is = ap (u16_at old) place ∙ size_here old height a b e packed

  count_is : u16_at old (at + 2) ≡ shared (key_behind [] a) e.key
  count_is = ap (λ k. u16_at old (k + 2)) place ∙ count_here old height a b e packed

  -- The entries with the other rest don't fit where the tail would pass the end.
  pub size_of_replaced : at + 4 + n + length rest + (used - (at + u16_at old at)) ≡ packed_size (a ++ other ∷ b)
  size_of_replaced =
      omega (
        arith,
        size_is,
        count_is,
        ends_here old height a b e packed,
        records_size-append [] a (other ∷ b),
      )

  module _ (moved new : List ℕ) (m : IsMoved old moved (at + u16_at old at) to used)
      (ends : to ≡ at + 4 + n + length rest)
      (put : new ≡ with_bytes (with_bytes moved at (u16_bytes (to - at))) (at + 4 + n) rest)
      (packable : ArePackable height (a ++ other ∷ b)) where
    -- the bytes from an offset of the record on
    from_record : (k : ℕ) → drop (at + k) (take used old)
        ≡ drop k (record_bytes (key_behind [] a) e ++ records_bytes e.key b)
    from_record k =
        sym (drop-drop k at (take used old))
        ∙ (λ j. drop k (drop (place j) (take (all j) old)))
        ∙ ap (drop k) (stands_here old height a b e packed)

    kept : take (2 + n) (drop (at + 2) moved) ≡ u16_bytes (shared (key_behind [] a) e.key)
        ++ drop (shared (key_behind [] a) e.key) e.key
    kept =
        let p = key_behind [] a in
        let s = shared p e.key in
        let one = u16_bytes (record_size p e) in
        let tail = e.rest ++ records_bytes e.key b in
        let ends_at = ends_here old height a b e packed in
        let long : length (u16_bytes s ++ drop s e.key) ≡ 2 + n =
        omega (
          arith,
          length-append (u16_bytes s) (drop s e.key),
          length-u16_bytes s,
          length-drop s e.key,
          count_is,
          shared-le p e.key,
        ) in
        kept_bytes old moved (at + u16_at old at) to used m (at + 2) (2 + n) (omega arith) (omega arith)
        (omega (arith, size_is, count_is))
        ∙ ap (take (2 + n)) (from_record 2)
        ∙ ap (λ xs. take (2 + n) (drop 2 xs)) (record_bytes-parts p e (records_bytes e.key b))
        ∙ ap (take (2 + n)) (drop_at one (u16_bytes s ++ (drop s e.key ++ tail)) 2 (length-u16_bytes (record_size p e)))
        ∙ ap (take (2 + n)) (sym (append_assoc (u16_bytes s) (drop s e.key) tail))
        ∙ take_at (u16_bytes s ++ drop s e.key) tail (2 + n) long

    pub IsEdited-replaced : IsEdited old new height (a ++ other ∷ b)
    IsEdited-replaced =
        let p = key_behind [] a in
        let s = shared p e.key in
        let size = u16_bytes (to - at) in
        let both = u16_bytes s ++ drop s e.key in
        let piece = (size ++ both) ++ rest in
        let tail = records_bytes e.key b in
        let le = shared-le p e.key in
        let two = length-u16_bytes (to - at) in
        let long : length both ≡ 2 + n =
        omega (
          arith,
          length-append (u16_bytes s) (drop s e.key),
          length-u16_bytes s,
          length-drop s e.key,
          count_is,
          le,
        ) in
        let front : length (size ++ both) ≡ 4 + n = omega (arith, length-append size both) in
        let all_long : length piece ≡ 4 + n + length rest = omega (arith, length-append (size ++ both) rest) in
        let room : to ≤ length moved = omega (arith, m.fits, m.len) in
        let one : with_bytes moved at size ≡ with_bytes moved at (size ++ both) =
        with_bytes-kept moved size at (omega arith) (2 + n) (omega arith)
        ∙ ap (λ k. with_bytes moved at (size ++ take (2 + n) (drop (at + k) moved))) two
        ∙ ap (λ xs. with_bytes moved at (size ++ xs)) kept in
        let written : new ≡ with_bytes moved at piece =
        put ∙ ap (λ xs. with_bytes xs (at + 4 + n) rest) one
        ∙ with_bytes-then moved (size ++ both) at (omega arith) rest (at + 4 + n) (omega arith) (omega arith) in
        let full : to - at ≡ record_size p other = omega (arith, count_is) in
        let behind : drop (at + u16_at old at) (take used old) ≡ tail =
        ap (λ k. drop (at + k) (take used old)) size_is ∙ from_record (record_size p e)
        ∙ drop_at (record_bytes p e) tail (record_size p e) (length-record_bytes p e) in
        let same : piece ++ drop (at + u16_at old at) (take used old) ≡ record_bytes p other ++ tail =
        (λ k. ((u16_bytes (full k) ++ both) ++ rest) ++ behind k)
        ∙ simp append_assoc refl
        ∙ sym (record_bytes-parts p other tail) in
        IsEdited-put old moved new (at + u16_at old at) to used m piece at (omega arith) (omega arith) written height a
        (e ∷ b) (other ∷ b) packed place all packable same

-- What is asked of `replace`.
module _ (old : List ℕ) (height : ℕ) (key : List ℕ) (es a b : List Item) (e : Item) (rest : List ℕ) (place : Place)
    (packed : IsPackedBlock old height es) (spot : IsPlaceFor es key place a (e ∷ b)) (keyed : height ≡ 0 → e.key ≡ key)
    (packable : ArePackable height (a ++ record e { rest = rest } ∷ b)) where
  parted : IsPackedBlock old height (a ++ e ∷ b)
  parted = subst (IsPackedBlock old height) spot.parts packed

  pub record_there : StandsAt old place.offset (used_of old)
  record_there =
      subst (λ (k : ℕ). StandsAt old k (used_of old)) (sym spot.offset) (stands old height a b e parted)

  count_there : u16_at old (place.offset + 2) ≡ shared (key_behind [] a) e.key
  count_there = ap (λ k. u16_at old (k + 2)) spot.offset ∙ count_here old height a b e parted

  size_there : u16_at old place.offset ≡ record_size (key_behind [] a) e
  size_there = ap (u16_at old) spot.offset ∙ size_here old height a b e parted

  -- In a leaf the place tells how long the entry's key is.
  key_there : height ≡ 0 → place.next_shared ≡ length e.key
  key_there leaf = spot.next_shares ∙ ap (shared e.key) (sym (keyed leaf)) ∙ shared-itself e.key

  pub has_key : height ≡ 0 → (u16_at old (place.offset + 2) ≤ place.next_shared)
      × (4 + (place.next_shared - u16_at old (place.offset + 2)) ≤ u16_at old place.offset)
  has_key leaf =
      let le = shared-le (key_behind [] a) e.key in
      let long = key_there leaf in
      (omega (arith, count_there, long), omega (arith, count_there, long, size_there))

  pub has_pointer : (height ≡ 0 → ⊥) → 8 ≤ u16_at old place.offset
  has_pointer above = omega (arith, size_there, length-pointer height a b e parted.packable above)

  by_level : (n : ℕ) → (height ≡ 0 → u16_at old (place.offset + 2) + n ≡ place.next_shared)
      → ((height ≡ 0 → ⊥) → n + 8 ≡ u16_at old place.offset) → u16_at old (place.offset + 2) + n ≡ length e.key
  by_level n in_leaf in_index =
      elim (cases_order height 0) [
        | inl leaf ↦ in_leaf leaf ∙ key_there leaf
        | inr d ↦
            let above : height ≡ 0 → ⊥ = λ e. elim d [ inl l ↦ omega (arith, l, e) | inr l ↦ omega (arith, l, e) ] in
            omega (
              arith,
              in_index above,
              size_there,
              count_there,
              length-pointer height a b e parted.packable above,
              shared-le (key_behind [] a) e.key,
            )
      ]

  module _ (level size count n used to : ℕ) (same : level ≡ level_of old) (sized : size ≡ u16_at old place.offset)
      (counted : count ≡ u16_at old (place.offset + 2)) (all : used ≡ used_of old)
      (in_leaf : level ≡ 0 → count + n ≡ place.next_shared) (in_index : (level ≡ 0 → ⊥) → n + 8 ≡ size)
      (ends : to ≡ min (place.offset + 4 + n + length rest) (2 ^ 64 - 1)) where
    key_part : u16_at old (place.offset + 2) + n ≡ length e.key
    key_part =
        let level_is : level ≡ height = same ∙ packed.level in
        by_level n (λ leaf. ap (λ k. k + n) (sym counted) ∙ in_leaf (level_is ∙ leaf))
        (λ above. in_index (λ leaf. above (sym level_is ∙ leaf)) ∙ sized)

    pub too_long : length old < to + (used - (place.offset + size))
        → length old < packed_size (a ++ record e { rest = rest } ∷ b)
    too_long h =
        omega (
          arith,
          size_of_replaced old height a b e rest parted place.offset n used to spot.offset all key_part,
          packed.room,
        )

    pub replaced : (moved new : List ℕ) → IsMoved old moved (place.offset + size) to used
        → new ≡ with_bytes (with_bytes moved place.offset (u16_bytes (to - place.offset))) (place.offset + 4 + n) rest
        → IsEdited old new height (a ++ record e { rest = rest } ∷ b)
    replaced moved new m put =
        let there = subst (λ (k : ℕ). IsMoved old moved (place.offset + k) to used) sized m in
        IsEdited-replaced old height a b e rest parted place.offset n used to spot.offset all key_part
        moved new there (omega (arith, m.fits, packed.room)) put packable
