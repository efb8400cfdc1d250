-- An item that is set in the entries of a leaf, by their places.
use Rattle.std.proofs.Common.{◌≡◌, ◌⊎◌, ℕ, ◌+◌, ◌<◌, ◌≤◌, Bool, true, false, List, [], ◌∷◌, ◌++◌, length, take, drop}
use Rattle.std.proofs.Common.{Option, None, Some, inl, inr, refl, sym, ap, ◌∙◌, append-nil, arith}
use Rattle.std.specs.Prelude.{IfNone, IfSome, unwrap_or}
use Rattle.std.specs.List.{drop-map, insert, take-map}
use Rattle.std.proofs.Math.Seq.{drop-append_seam, take-append_seam}
use Rattle.std.proofs.lemmas.List.{drop-drop, length-append, length-map, length-take-le, map-append, take_all}
use Rattle.gds_block.specs.Item.{Item}
use Rattle.gds_pack.specs.declared.entry.Entry.{Entry}
use Rattle.gds_pack.specs.Entry.{item, items}
use Rattle.gds_pack.specs.Packed.{packed_size}
use Rattle.gds_splice.proofs.RunLemmas.{packed_size-more, place_is}
use Rattle.gds_insert.specs.Leaf.{left_behind, with_item}

-- ---- the place at an offset

-- what is known of a place that was looked for
abbrev pub IsFound : List Entry → ℕ → Option ℕ → Type 0
IsFound list offset o = IfSome o (λ i. (i < length list) × (packed_size (items (take i list)) ≡ offset))

abbrev pub IsNowhere : List Entry → ℕ → Option ℕ → Type 0
IsNowhere list offset o =
    IfNone o ((front : List Item) (e : Item) (back : List Item) → items list ≡ front ++ e ∷ back
    → packed_size front ≡ offset → ⊥)

module _ (list : List Entry) (offset : ℕ) (front : List Item) (size : packed_size front ≡ offset) where
  pub place_there : (back : List Item) (o : Option ℕ) → items list ≡ front ++ back → IsFound list offset o
      → IsNowhere list offset o → length front ≡ unwrap_or o (length list)
  place_there (e ∷ back) (Some i) is found none =
      place_is (items list) front back e i offset is size (omega (arith, found.0, length-map list item))
      (ap packed_size (take-map item i list) ∙ found.1)
  place_there (e ∷ back) None is found none = absurd (none front e back is size)
  place_there [] (Some i) is found none =
      let whole : items list ≡ front = is ∙ append-nil front in
      let all : take (length (items list)) (items list) ≡ items list =
      take_all (length (items list)) (items list) (omega arith) in
      let less = packed_size-more (items list) i (length (items list)) (omega (arith, found.0, length-map list item))
      (omega arith) in
      absurd (omega (
        arith,
        less,
        size,
        found.1,
        ap packed_size (all ∙ whole),
        ap packed_size (take-map item i list),
      ))
  place_there [] None is found none =
      sym (ap length (is ∙ append-nil front)) ∙ length-map list item

-- ---- an item there

-- The entry at a place was taken out, or none was.
abbrev pub IsKept : List Entry → ℕ → Bool → List Entry → Type 0
IsKept list at equal kept =
    ((equal ≡ true) × (kept ≡ take at list ++ drop (at + 1) list)) ⊎ ((equal ≡ false) × (kept ≡ list))

module _ (list : List Entry) (at : ℕ) (front back : List Item) (is : items list ≡ front ++ back)
    (long : length front ≡ at) where
  front_is : items (take at list) ≡ front
  front_is =
      sym (take-map item at list)
      ∙ ap (λ xs. take at xs) is
      ∙ ap (λ n. take n (front ++ back)) (sym long) ∙ take-append_seam front back

  back_is : items (drop at list) ≡ back
  back_is =
      sym (drop-map item at list)
      ∙ ap (λ xs. drop at xs) is
      ∙ ap (λ n. drop n (front ++ back)) (sym long) ∙ drop-append_seam front back

  left_is : items (drop (at + 1) list) ≡ left_behind true back
  left_is =
      ap items (sym (drop-drop 1 at list)) ∙ sym (drop-map item 1 (drop at list)) ∙ ap (λ xs. drop 1 xs) back_is
      ∙ first back
    where
      first : (xs : List Item) → drop 1 xs ≡ left_behind true xs
      first [] = refl
      first (x ∷ xs) = refl

  within : at ≤ length list
  within = omega (arith, sym long, length-append front back, ap length is, length-map list item)

  pub item_put : (equal : Bool) (kept : List Entry) (e : Entry) → IsKept list at equal kept
      → items (insert kept at e) ≡ with_item equal front back (item e)
  item_put equal kept e (inl (yes_equal, same)) =
      let first : List Entry = take at list in
      let last : List Entry = drop (at + 1) list in
      let there : length first ≡ at = length-take-le at list within in
      let two : insert (first ++ last) at e ≡ first ++ e ∷ last =
      (λ k. take (sym there k) (first ++ last) ++ e ∷ drop (sym there k) (first ++ last))
      ∙ (λ k. take-append_seam first last k ++ e ∷ drop-append_seam first last k) in
      ap (λ (xs : List Entry). items (insert xs at e)) same
      ∙ ap items two
      ∙ map-append item first (e ∷ last)
      ∙ (λ k. front_is k ++ item e ∷ left_is k)
      ∙ ap (λ t. with_item t front back (item e)) (sym yes_equal)
  item_put equal kept e (inr (unequal, same)) =
      ap (λ (xs : List Entry). items (insert xs at e)) same
      ∙ map-append item (take at list) (e ∷ drop at list)
      ∙ (λ k. front_is k ++ item e ∷ back_is k)
      ∙ ap (λ t. with_item t front back (item e)) (sym unequal)
