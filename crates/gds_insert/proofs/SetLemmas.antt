-- An item that is set in a leaf is set in the tree.
use Rattle.std.proofs.Common.{◌≡◌, ℕ, Bool, true, false, List, [], ◌∷◌, ◌++◌, inl, inr, refl, sym, ap, subst}
use Rattle.std.proofs.Common.{◌∙◌, append_assoc}
use Rattle.std.specs.Prelude.{◌⊎◌}
use Rattle.std.specs.Bool.{OnTrue}
use Rattle.gds_block.specs.Item.{Item}
use Rattle.gds_header.specs.Fields.{fields_of}
use Rattle.gds_law.specs.Path.{Steps}
use Rattle.gds_law.specs.Visit.{Visit}
use Rattle.gds_sound.specs.Sound.{Tree}
use Rattle.gds_search.specs.Place.{BeginsAt}
use Rattle.gds_search.specs.declared.place.Place.{Place}
use Rattle.gds_tree.specs.Below.{leaf_tree}
use Rattle.gds_tree.specs.Lawful as entries
use Rattle.gds_tree.specs.Lawful.{IsLawfulKey, IsLawfulRest, IsOfRole}
use Rattle.gds_tree.proofs.PartLemmas.{lawful_at}
use Rattle.gds_tree.proofs.TreeByLemmas.{leaf_by}
use Rattle.gds_file.specs.Change.{SetsItem}
use Rattle.gds_file.specs.FileLaws.{StandsAt}
use Rattle.gds_file.specs.Rewrite.{AreAllBusy}
use Rattle.gds_ancestors.specs.Ancestors.{Ancestor, items_before, items_behind, outer_blocks}
use Rattle.gds_ancestors.proofs.ContentLemmas.{whole_items}
use Rattle.gds_ancestors.proofs.VisitLemmas.{same_role}
use Rattle.gds_splice.specs.Parted.{LeafParts, TreeBecomes, items_around}
use Rattle.gds_splice.proofs.ImageLemmas.{image_of}
use Rattle.gds_splice.proofs.LeafLemmas.{becomes_in_any_order, leaf_may_part}
use Rattle.gds_insert.specs.Leaf.{IsLeafFor, left_behind, with_item}
use Rattle.gds_insert.specs.SetIn.{HasSet, MaySet}
use Rattle.gds_insert.proofs.LeafLemmas.{with_lawful}

module _ (file : List ℕ) (v : Visit) (t : Tree) (key rest : List ℕ) (place : Place) (steps : Steps)
    (above : List Ancestor) (leaf : Visit) (front back : List Item) (m : MaySet file v t key rest)
    (l : IsLeafFor file v t key place steps above leaf front back) where
  abbrev item : Item
  item = record { key = key; rest = rest }

  -- ---- the leaf with the item

  role : leaf.role ≡ v.role
  role = same_role file v leaf above 0 l.leads

  key_there : IsLawfulKey (fields_of file) leaf 0 key
  key_there = record {
    short = m.lawful_key.short;
    right = m.lawful_key.right;
    role = subst (λ r. IsOfRole r key) (sym role) m.lawful_key.role;
    above = l.holds.above;
    below = l.holds.below;
  }

  lawful : entries.IsLawful (fields_of file) leaf 0 (with_item place.is_equal front back item)
  lawful =
      with_lawful (fields_of file) leaf key rest m.is_key key_there
      (subst (λ r. IsLawfulRest (fields_of file) r 0 rest) (sym role) m.lawful_rest) place front back place.is_equal
      refl (lawful_at file leaf 0 (front ++ back) l.has) l.parts

  pub leaf_parts : LeafParts file v above leaf (with_item place.is_equal front back item) t.blocks
  leaf_parts =
      let inner : Tree = leaf_tree leaf (front ++ back) in
      let es : List Item = with_item place.is_equal front back item in
      subst (λ (x : Tree). LeafParts file v above leaf es x.blocks) (sym l.whole)
      (leaf_may_part file v leaf above inner es m.is_root m.maps l.leads
      (leaf_by file leaf (front ++ back) (image_of file m.maps) l.has) (subst (StandsAt file v) l.whole m.stands)
      (subst (λ (x : Tree). AreAllBusy file x.blocks) l.whole m.busy) lawful)

  -- ---- the items of the tree

  around_two : (p a x q : List Item) → p ++ (a ++ x) ++ q ≡ (p ++ a) ++ (x ++ q)
  around_two p a x q = ap (λ xs. xs ++ q) (sym (append_assoc p a x)) ∙ append_assoc (p ++ a) x q

  items_were : t.items ≡ (items_before above ++ front) ++ (back ++ items_behind above)
  items_were =
      ap (λ (x : Tree). x.items) l.whole
      ∙ whole_items above (leaf_tree leaf (front ++ back))
      ∙ around_two (items_before above) front back (items_behind above)

  abbrev Before : List Item → Type 0
  Before left =
      (t.items ≡ (items_before above ++ front) ++ (left ++ items_behind above))
      ⊎ ((old : List ℕ) × (t.items ≡ (items_before above ++ front)
      ++ record { key = key; rest = old } ∷ (left ++ items_behind above)))

  were : (equal : Bool) → place.is_equal ≡ equal → (b : List Item) → back ≡ b → Before (left_behind equal b)
  were false unequal b same =
      inl (items_were ∙ ap (λ xs. (items_before above ++ front) ++ (xs ++ items_behind above)) same)
  were true equal [] same =
      absurd (subst (λ xs. BeginsAt key xs) same (subst (λ s. OnTrue s (BeginsAt key back)) equal l.parts.equal))
  were true equal (e ∷ b) same =
      let own : e.key ≡ key =
      subst (λ xs. BeginsAt key xs) same (subst (λ s. OnTrue s (BeginsAt key back)) equal l.parts.equal) in
      inr (
        e.rest,
        items_were
            ∙ ap (λ xs. (items_before above ++ front) ++ (xs ++ items_behind above)) same
            ∙ ap (λ k. (items_before above ++ front)
            ++ record { key = k; rest = e.rest } ∷ (b ++ items_behind above)) own,
      )

  pub item_set : SetsItem t.items (items_around above (with_item place.is_equal front back item)) item
  item_set = record {
    front = items_before above ++ front;
    back = left_behind place.is_equal back ++ items_behind above;
    after = around_two (items_before above) front (item ∷ left_behind place.is_equal back) (items_behind above);
    before = were place.is_equal refl back refl;
  }

  pub leaf_is_set : (after : List ℕ) → TreeBecomes file after v (leaf.block ∷ outer_blocks above)
      (items_around above (with_item place.is_equal front back item)) → HasSet file after v t key rest
  leaf_is_set after b = record {
    items = items_around above (with_item place.is_equal front back item);
    sets = item_set;
    becomes = becomes_in_any_order file after v (leaf.block ∷ outer_blocks above) t.blocks
        (items_around above (with_item place.is_equal front back item)) leaf_parts.order b;
  }
