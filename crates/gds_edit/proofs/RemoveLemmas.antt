-- An entry taken out, and the record behind it packed behind the key before both.
use Rattle.std.proofs.Common.{ℕ, ◌≡◌, ◌+◌, ◌-◌, ◌≤◌, List, [], ◌∷◌, ◌++◌, length, take, drop, sym}
use Rattle.std.proofs.Common.{inl, inr, ◌∙◌, ap, subst, arith, append_assoc, length-append, length-take, length-drop}
use Rattle.std.proofs.lemmas.Bool.{cases_lt}
use Rattle.std.proofs.lemmas.List.{drop-drop, drop-take, drop_all, take-append-drop}
use Rattle.std.proofs.lemmas.List.{take-append-le}
use Rattle.gds_block.specs.Block.{used_of}
use Rattle.gds_block.specs.Fields.{u16_at, u16_bytes, with_bytes}
use Rattle.gds_block.specs.Item.{Item}
use Rattle.gds_block.proofs.FieldLemmas.{length-u16_bytes}
use Rattle.m_key.specs.KeyEnd.{shared}
use Rattle.m_key.proofs.KeyEndLemmas.{shared-le, take-shared}
use Rattle.gds_pack.specs.Packed.{record_size, record_bytes, records_bytes, packed_size, key_behind}
use Rattle.gds_pack.specs.Packable.{ArePackable}
use Rattle.gds_pack.proofs.SizeLemmas.{records_size-append, key_behind-append}
use Rattle.gds_pack.proofs.BoundLemmas.{share}
use Rattle.gds_search.specs.PackedBlock.{IsPackedBlock}
use Rattle.gds_search.specs.Place.{IsPlaceFor}
use Rattle.gds_search.specs.declared.place.Place.{Place}
use Rattle.gds_edit.specs.Reading.{StandsAt}
use Rattle.gds_edit.specs.Edited.{IsEdited, IsMoved}
use Rattle.gds_edit.proofs.SharedLemmas.{shared-neighbours}
use Rattle.gds_edit.proofs.PutLemmas.{with_bytes-kept}
use Rattle.gds_edit.proofs.PlaceLemmas.{record_bytes-parts, record_bytes-behind, stands_here, ends_here}
use Rattle.gds_edit.proofs.PlaceLemmas.{stands, size_here, count_here}
use Rattle.gds_edit.proofs.EditLemmas.{IsEdited-put, kept_bytes}

-- The bytes that the second of two keys left out before and no longer leaves out are the first key's.
taken_bytes : (e n : List ℕ) (s : ℕ) → s ≤ shared e n
    → take (shared e n - s) (drop s e) ++ drop (shared e n) n ≡ drop s n
taken_bytes e n s h =
    let t = shared e n in
    let whole : s + (t - s) ≡ t = omega arith in
    let front : take (t - s) (drop s e) ≡ take (t - s) (drop s n) =
    sym (drop-take s (t - s) e) ∙ ap (λ k. drop s (take k e)) whole ∙ ap (drop s) (take-shared e n)
    ∙ ap (λ k. drop s (take k n)) (sym whole) ∙ drop-take s (t - s) n in
    let back : drop t n ≡ drop (t - s) (drop s n) = ap (λ k. drop k n) (sym whole) ∙ sym (drop-drop (t - s) s n) in
    (λ k. front k ++ back k) ∙ take-append-drop (t - s) (drop s n)

-- The last record goes.
module _ (old : List ℕ) (height : ℕ) (a : List Item) (e : Item) (packed : IsPackedBlock old height (a ++ e ∷ []))
    (at used : ℕ) (place : at ≡ packed_size a) (all : used ≡ used_of old) where
  pub IsEdited-last_gone : (new : List ℕ) → IsMoved old new used at used → ArePackable height (a ++ [])
      → IsEdited old new height (a ++ [])
  IsEdited-last_gone new m packable =
      let none : drop used (take used old) ≡ [] = drop_all used (take used old) (omega (arith, length-take used old)) in
      let same : new ≡ with_bytes new at [] =
      sym (take-append-drop at new) ∙ ap (λ k. take at new ++ drop k new) (omega arith) in
      IsEdited-put old new new used at used m [] at (omega arith) (omega arith) same height a (e ∷ []) [] packed place
      all packable none

module _ (old : List ℕ) (height : ℕ) (a b : List Item) (e n : Item)
    (packed : IsPackedBlock old height (a ++ e ∷ n ∷ b)) (at used : ℕ) (place : at ≡ packed_size a)
    (all : used ≡ used_of old) where
  abbrev pub more : ℕ
  more = shared e.key n.key - shared (key_behind [] a) e.key

  pub shares : shared (key_behind [] a) n.key + more ≡ shared e.key n.key
  shares =
      omega (
        arith,
        shared-neighbours (key_behind [] a) e.key n.key (share height a (n ∷ b) e packed.packable),
      )

  -- The gone record has the bytes.
  pub has_more : 4 + more ≤ record_size (key_behind [] a) e
  has_more = omega (arith, shared-le e.key n.key)

  -- the same block, parted one entry later
  later : IsPackedBlock old height ((a ++ e ∷ []) ++ n ∷ b)
  later = subst (IsPackedBlock old height) (sym (append_assoc a (e ∷ []) (n ∷ b))) packed

  size_later : packed_size (a ++ e ∷ []) ≡ at + record_size (key_behind [] a) e
  size_later = omega (arith, records_size-append [] a (e ∷ []))

  key_later : key_behind [] (a ++ e ∷ []) ≡ e.key
  key_later = key_behind-append [] a (e ∷ [])

  pub next_size : u16_at old (at + record_size (key_behind [] a) e) ≡ record_size e.key n
  next_size =
      ap (u16_at old) (sym size_later) ∙ size_here old height (a ++ e ∷ []) b n later
      ∙ ap (λ p. record_size p n) key_later

  pub next_count : u16_at old (at + record_size (key_behind [] a) e + 2) ≡ shared e.key n.key
  next_count =
      ap (λ k. u16_at old (k + 2)) (sym size_later) ∙ count_here old height (a ++ e ∷ []) b n later
      ∙ ap (λ p. shared p n.key) key_later

  pub next_stands : StandsAt old (at + record_size (key_behind [] a) e) (used_of old)
  next_stands = subst (λ (k : ℕ). StandsAt old k (used_of old)) size_later (stands old height (a ++ e ∷ []) b n later)

  tail_there : drop (at + record_size (key_behind [] a) e + 4) (take used old)
      ≡ drop (shared e.key n.key) n.key ++ (n.rest ++ records_bytes n.key b)
  tail_there =
      let end = at + record_size (key_behind [] a) e in
      let tail = records_bytes n.key b in
      sym (drop-drop 4 end (take used old))
      ∙ (λ k. drop 4 (drop (sym size_later k) (take (all k) old)))
      ∙ ap (drop 4) (stands_here old height (a ++ e ∷ []) b n later)
      ∙ ap (λ p. drop 4 (record_bytes p n ++ tail)) key_later
      ∙ record_bytes-behind e.key n tail 0 (omega (arith, shared-le e.key n.key))
      ∙ ap (λ k. drop k n.key ++ (n.rest ++ tail)) (omega arith)

  -- The gone record's bytes that stay.
  kept_there : (moved : List ℕ) → IsMoved old moved (at + record_size (key_behind [] a) e + 4) (at + 4 + more) used
      → take more (drop (at + 4) moved)
      ≡ take (shared e.key n.key - shared (key_behind [] a) n.key) (drop (shared (key_behind [] a) n.key) e.key)
  kept_there moved m =
      let p = key_behind [] a in
      let s = shared p e.key in
      let t = shared e.key n.key in
      let tail = records_bytes e.key (n ∷ b) in
      let le = shared-le e.key n.key in
      let ends = ends_here old height a (n ∷ b) e packed in
      kept_bytes old moved (at + record_size p e + 4) (at + 4 + more) used m (at + 4) more (omega arith) (omega arith)
      (omega (arith, has_more))
      ∙ ap (take more) (sym (drop-drop 4 at (take used old))
      ∙ (λ k. drop 4 (drop (place k) (take (all k) old)))
      ∙ ap (drop 4) (stands_here old height a (n ∷ b) e packed)
      ∙ record_bytes-behind p e tail 0 (omega (arith, shared-le p e.key))
      ∙ ap (λ k. drop k e.key ++ (e.rest ++ tail)) (omega arith))
      ∙ take-append-le more (drop s e.key) (e.rest ++ tail) (omega (arith, length-drop s e.key))
      ∙ elim (cases_lt s t) [
        | inl less ↦
            let same : s ≡ shared p n.key = omega (arith, shares) in
            ap (λ k. take (t - k) (drop k e.key)) same
        | inr no_less ↦
            let none : more ≡ 0 = omega arith in
            let none_there : t - shared p n.key ≡ 0 = omega (arith, shares) in
            ap (λ k. take k (drop s e.key)) none
            ∙ sym (ap (λ k. take k (drop (shared p n.key) e.key)) none_there)
      ]

  pub IsEdited-gone : (moved new : List ℕ)
      → IsMoved old moved (at + record_size (key_behind [] a) e + 4) (at + 4 + more) used
      → new ≡ with_bytes moved at (u16_bytes (record_size e.key n + more) ++ u16_bytes (shared e.key n.key - more))
      → ArePackable height (a ++ n ∷ b) → IsEdited old new height (a ++ n ∷ b)
  IsEdited-gone moved new m put packable =
      let p = key_behind [] a in
      let s = shared p n.key in
      let t = shared e.key n.key in
      let tail = records_bytes n.key b in
      let head = u16_bytes (record_size p n) ++ u16_bytes s in
      let taken = take (t - s) (drop s e.key) in
      let two : length head ≡ 4 =
      omega (
        arith,
        length-append (u16_bytes (record_size p n)) (u16_bytes s),
        length-u16_bytes (record_size p n),
        length-u16_bytes s,
      ) in
      let le_e = shared-le e.key n.key in
      let le_p = shared-le p n.key in
      let sized : record_size e.key n + more ≡ record_size p n = omega (arith, shares) in
      let counted : t - more ≡ s = omega (arith, shares) in
      let long : length taken ≡ more =
      omega (arith, length-take (t - s) (drop s e.key), length-drop s e.key, shares) in
      let room : at + 4 + more ≤ length moved = omega (arith, m.fits, m.len) in
      let written : new ≡ with_bytes moved at (head ++ taken) =
      put ∙ (λ k. with_bytes moved at (u16_bytes (sized k) ++ u16_bytes (counted k)))
      ∙ with_bytes-kept moved head at (omega arith) more (omega arith)
      ∙ ap (λ k. with_bytes moved at (head ++ take more (drop (at + k) moved))) two
      ∙ ap (λ xs. with_bytes moved at (head ++ xs)) (kept_there moved m) in
      let same : (head ++ taken) ++ drop (at + record_size p e + 4) (take used old) ≡ record_bytes p n ++ tail =
      ap (λ xs. (head ++ taken) ++ xs) tail_there
      ∙ append_assoc head taken (drop t n.key ++ (n.rest ++ tail))
      ∙ ap (λ xs. head ++ xs)
      (sym (append_assoc taken (drop t n.key) (n.rest ++ tail))
      ∙ ap (λ xs. xs ++ (n.rest ++ tail)) (taken_bytes e.key n.key s (omega (arith, shares))))
      ∙ append_assoc (u16_bytes (record_size p n)) (u16_bytes s) (drop s n.key ++ (n.rest ++ tail))
      ∙ sym (record_bytes-parts p n tail) in
      IsEdited-put old moved new (at + record_size p e + 4) (at + 4 + more) used m (head ++ taken) at (omega arith)
      (omega (arith, length-append head taken)) written height a (e ∷ n ∷ b) (n ∷ b) packed place all packable same

-- What is asked of `remove`.
module _ (old : List ℕ) (height : ℕ) (key : List ℕ) (es a : List Item) (e : Item) (place : Place)
    (packed : IsPackedBlock old height es) where
  parted : (b : List Item) → IsPlaceFor es key place a (e ∷ b) → IsPackedBlock old height (a ++ e ∷ b)
  parted b spot = subst (IsPackedBlock old height) spot.parts packed

  pub gone_stands : (b : List Item) → IsPlaceFor es key place a (e ∷ b) → StandsAt old place.offset (used_of old)
  gone_stands b spot =
      subst (λ (k : ℕ). StandsAt old k (used_of old)) (sym spot.offset) (stands old height a b e (parted b spot))

  gone_size : (b : List Item) → IsPlaceFor es key place a (e ∷ b)
      → u16_at old place.offset ≡ record_size (key_behind [] a) e
  gone_size b spot = ap (u16_at old) spot.offset ∙ size_here old height a b e (parted b spot)

  gone_count : (b : List Item) → IsPlaceFor es key place a (e ∷ b)
      → u16_at old (place.offset + 2) ≡ shared (key_behind [] a) e.key
  gone_count b spot = ap (λ k. u16_at old (k + 2)) spot.offset ∙ count_here old height a b e (parted b spot)

  module _ (used size : ℕ) (all : used ≡ used_of old) (sized : size ≡ u16_at old place.offset) where
    gone_end : (b : List Item) → IsPlaceFor es key place a (e ∷ b)
        → place.offset + size ≡ place.offset + record_size (key_behind [] a) e
    gone_end b spot = ap (λ k. place.offset + k) (sized ∙ gone_size b spot)

    ends_last : IsPlaceFor es key place a (e ∷ []) → place.offset + size ≡ used
    ends_last spot =
        omega (arith, gone_end [] spot, spot.offset, all, ends_here old height a [] e (parted [] spot))

    pub removed_last : (new : List ℕ) → IsMoved old new used place.offset used → place.offset + size ≡ used
        → (b : List Item) → IsPlaceFor es key place a (e ∷ b) → ArePackable height (a ++ b)
        → IsEdited old new height (a ++ b)
    removed_last new m last [] spot packable =
        IsEdited-last_gone old height a e (parted [] spot) place.offset used spot.offset all new m packable
    removed_last new m last (n ∷ b) spot packable =
        absurd (omega (
          arith,
          gone_end (n ∷ b) spot,
          spot.offset,
          all,
          last,
          ends_here old height a (n ∷ b) e (parted (n ∷ b) spot),
        ))

    pub next_there : (b : List Item) → IsPlaceFor es key place a (e ∷ b) → (place.offset + size ≡ used → ⊥)
        → StandsAt old (place.offset + size) used
    next_there [] spot ne = absurd (ne (ends_last spot))
    next_there (n ∷ b) spot ne =
        subst (StandsAt old (place.offset + size)) (sym all)
        (subst (λ (k : ℕ). StandsAt old k (used_of old)) (sym (gone_end (n ∷ b) spot))
        (next_stands old height a b e n (parted (n ∷ b) spot) place.offset used spot.offset all))

    module _ (count size_next count_next : ℕ) (counted : count ≡ u16_at old (place.offset + 2))
        (sized_next : size_next ≡ u16_at old (place.offset + size))
        (counted_next : count_next ≡ u16_at old (place.offset + size + 2)) where
      next_is : (b : List Item) (n : Item) → IsPlaceFor es key place a (e ∷ n ∷ b)
          → (size_next ≡ record_size e.key n) × (count_next ≡ shared e.key n.key)
      next_is b n spot =
          let there = parted (n ∷ b) spot in
          let end = gone_end (n ∷ b) spot in (
            sized_next ∙ ap (u16_at old) end ∙ next_size old height a b e n there place.offset used spot.offset all,
            counted_next ∙ ap (λ k. u16_at old (k + 2)) end
                ∙ next_count old height a b e n there place.offset used spot.offset all,
          )

      pub has_bytes : (b : List Item) → IsPlaceFor es key place a (e ∷ b) → (place.offset + size ≡ used → ⊥)
          → 4 + (count_next - count) ≤ size
      has_bytes [] spot ne = absurd (ne (ends_last spot))
      has_bytes (n ∷ b) spot ne =
          let next = next_is b n spot in
          omega (
            arith,
            has_more old height a b e n (parted (n ∷ b) spot) place.offset used spot.offset all,
            next.1,
            counted,
            gone_count (n ∷ b) spot,
            sized,
            gone_size (n ∷ b) spot,
          )

      pub removed_there : (moved new : List ℕ) (taken : ℕ) → taken ≡ count_next - count
          → IsMoved old moved (place.offset + size + 4) (place.offset + 4 + taken) used
          → new ≡ with_bytes moved place.offset (u16_bytes (size_next + taken) ++ u16_bytes (count_next - taken))
          → (b : List Item) → IsPlaceFor es key place a (e ∷ b) → ArePackable height (a ++ b)
          → (place.offset + size ≡ used → ⊥) → IsEdited old new height (a ++ b)
      removed_there moved new taken is m put [] spot packable ne = absurd (ne (ends_last spot))
      removed_there moved new taken is m put (n ∷ b) spot packable ne =
          let next = next_is b n spot in
          let extra : taken ≡ shared e.key n.key - shared (key_behind [] a) e.key =
          is ∙ (λ k. next.1 k - (counted ∙ gone_count (n ∷ b) spot) k) in
          let there = subst (λ (k : ℕ). IsMoved old moved (k + 4) (place.offset + 4 + taken) used)
          (gone_end (n ∷ b) spot) m in
          IsEdited-gone old height a b e n (parted (n ∷ b) spot) place.offset used spot.offset all moved new
          (subst (λ (k : ℕ). IsMoved old moved (place.offset + record_size (key_behind [] a) e + 4)
          (place.offset + 4 + k) used) extra there)
          (put ∙ (λ k. with_bytes moved place.offset
          (u16_bytes (next.0 k + extra k) ++ u16_bytes (next.1 k - extra k))))
          packable
