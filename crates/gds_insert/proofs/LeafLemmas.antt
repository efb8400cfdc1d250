-- The leaf at the end of a trail, and that it may have an item that is set.
use Rattle.std.proofs.Common.{◌≡◌, ℕ, ◌+◌, Bool, true, false, List, [], ◌∷◌, ◌++◌, length, None, Some}
use Rattle.std.proofs.Common.{inl, refl, sym, ap, subst, ◌∙◌, arith}
use Rattle.std.specs.Prelude.{All}
use Rattle.std.specs.Bool.{OnTrue}
use Rattle.std.proofs.lemmas.List.Elements.{All-from_recursion, recursion_from_All}
use Rattle.gds_block.specs.Block.{level_of}
use Rattle.gds_block.specs.Item.{Item}
use Rattle.gds_header.specs.declared.header.Header.{Header}
use Rattle.gds_header.specs.Fields.{block_of}
use Rattle.gds_law.specs.Path.{Steps}
use Rattle.gds_law.specs.Visit.{Visit}
use Rattle.gds_sound.specs.Sound.{Tree, sound_tree}
use Rattle.gds_edit.proofs.PackableLemmas.{ArePackable-with, ArePackable-more}
use Rattle.gds_pack.specs.Packable.{ArePackable}
use Rattle.gds_search.specs.Place.{BeginsAt, IsPlaceFor}
use Rattle.gds_search.specs.declared.place.Place.{Place}
use Rattle.gds_tree.specs.Below.{HasEntries, leaf_tree}
use Rattle.gds_tree.specs.Keeps.{IsImage}
use Rattle.gds_tree.specs.Lawful.{IsLawful, IsLawfulEntry, IsLawfulKey, IsLawfulRest}
use Rattle.gds_tree.specs.RightBlock.{IsDueLevel}
use Rattle.gds_tree.proofs.BelowLemmas.{all_left, all_right, all_both}
use Rattle.gds_tree.proofs.TreeByLemmas.{leaf_by}
use Rattle.gds_find.specs.Trail.{IsTrail}
use Rattle.gds_ancestors.specs.Ancestors.{Ancestor, steps_to, whole_with}
use Rattle.gds_ancestors.proofs.AlongLemmas.{ancestors_of}
use Rattle.gds_splice.proofs.ImageLemmas.{image_of}
use Rattle.gds_insert.specs.Leaf.{IsLeafFor, with_item}
use Rattle.gds_insert.specs.LeafLaws.{HasLeaf}
use Rattle.gds_insert.specs.SetIn.{MaySet}
use Rattle.m_key.specs.KeyEnd.{IsKey}

-- ---- at the end of a trail

module _ (file : List ℕ) (v : Visit) (t : Tree) (key rest : List ℕ) (m : MaySet file v t key rest) where
  whole_image : IsImage file
  whole_image = image_of file m.maps

  -- A root has a level, so that it is no leaf.
  not_leaf : (leaf : Visit) (es : List Item) → HasEntries file leaf 0 es → leaf ≡ v → ⊥
  not_leaf leaf es has same =
      let level : leaf.level ≡ None = ap (λ (w : Visit). w.level) same ∙ m.is_root.level in
      let due = subst (λ o. IsDueLevel o (level_of (block_of file leaf.block))) level has.right.head.level in
      omega (arith, due.0, has.level)

  pub leaf_of : (steps : Steps) (found : Bool) (place : Place) → IsTrail file v key steps found place
      → HasLeaf file v t key place steps
  leaf_of steps found place l =
      let height : level_of (block_of file v.block) ≡ length l.path + 0 = omega (arith, l.levels) in
      let a = ancestors_of file whole_image v l.leaf l.path 0 t m.is_root.number.within l.leads
      (ap (λ n. sound_tree file n v) (sym height) ∙ m.stands.sound) in
      let same : Some a.inner ≡ Some (leaf_tree l.leaf l.entries) =
      sym a.sound ∙ leaf_by file l.leaf l.entries whole_image l.has in
      let inner : a.inner ≡ leaf_tree l.leaf l.entries = cc in
      let es : List Item = l.before ++ l.behind in
      let parts : l.entries ≡ es = l.place_is.parts in
      let whole : t ≡ whole_with a.ancestors (leaf_tree l.leaf es) =
      a.whole ∙ ap (whole_with a.ancestors) (inner ∙ ap (leaf_tree l.leaf) parts) in
      let at : steps ≡ steps_to a.ancestors ++ (l.leaf.block, place.offset) ∷ [] =
      l.steps_are ∙ ap (λ p. p ++ (l.leaf.block, place.offset) ∷ []) (sym a.steps) in
      by a.ancestors (record {
        leads = a.lead;
        whole = whole;
        has = subst (HasEntries file l.leaf 0) parts l.has;
        holds = l.holds;
        parts = subst (λ xs. IsPlaceFor xs key place l.before l.behind) parts l.place_is;
        steps_are = at;
      })
    where
      by : (xs : List Ancestor) → IsLeafFor file v t key place steps xs l.leaf l.before l.behind
          → HasLeaf file v t key place steps
      by [] is = absurd (not_leaf l.leaf (l.before ++ l.behind) is.has is.leads)
      by (a ∷ above) is = record {
        above = a;
        further = above;
        leaf = l.leaf;
        before = l.before;
        behind = l.behind;
        is_leaf = is;
      }

-- ---- the entries with an item that is set

module _ (h : Header) (v : Visit) (key rest : List ℕ) (is_key : IsKey key) (lawful_key : IsLawfulKey h v 0 key)
    (lawful_rest : IsLawfulRest h v.role 0 rest) where
  abbrev item : Item
  item = record { key = key; rest = rest }

  lawful_item : IsLawfulEntry h v 0 item
  lawful_item = record { key = λ _. lawful_key; rest = lawful_rest }

  not_none : (a b : List Item) (e : Item) → a ++ e ∷ b ≡ [] → ⊥
  not_none [] b e empty = absurd (cc)
  not_none (x ∷ a) b e empty = absurd (cc)

  all_with : (a b : List Item) → All (IsLawfulEntry h v 0) a → All (IsLawfulEntry h v 0) b
      → ArePackable 0 (a ++ item ∷ b) → IsLawful h v 0 (a ++ item ∷ b)
  all_with a b before behind packable = record {
    packable = packable;
    each = All-from_recursion (IsLawfulEntry h v 0) (a ++ item ∷ b)
        (all_both (IsLawfulEntry h v 0) a (item ∷ b) (recursion_from_All (IsLawfulEntry h v 0) a before)
        (lawful_item, recursion_from_All (IsLawfulEntry h v 0) b behind));
    none = λ empty. absurd (not_none a b item empty);
  }

  all_of : (a b : List Item) → All (IsLawfulEntry h v 0) (a ++ b)
      → All (IsLawfulEntry h v 0) a × All (IsLawfulEntry h v 0) b
  all_of a b each =
      let all = recursion_from_All (IsLawfulEntry h v 0) (a ++ b) each in (
        All-from_recursion (IsLawfulEntry h v 0) a (all_left (IsLawfulEntry h v 0) a b all),
        All-from_recursion (IsLawfulEntry h v 0) b (all_right (IsLawfulEntry h v 0) a b all),
      )

  pub with_lawful : (place : Place) (a b : List Item) (equal : Bool) → place.is_equal ≡ equal
      → IsLawful h v 0 (a ++ b) → IsPlaceFor (a ++ b) key place a b → IsLawful h v 0 (with_item equal a b item)
  with_lawful place a b false unequal lawful spot =
      let parts = all_of a b lawful.each in
      all_with a b parts.0 parts.1
      (ArePackable-more key rest is_key 0 (a ++ b) a b place lawful.packable spot unequal (inl refl))
  with_lawful place a [] true equal lawful spot =
      absurd (subst (λ t. OnTrue t (BeginsAt key [])) equal spot.equal)
  with_lawful place a (e ∷ b) true equal lawful spot =
      let parts = all_of a (e ∷ b) lawful.each in
      let same : e.key ≡ key = subst (λ t. OnTrue t (BeginsAt key (e ∷ b))) equal spot.equal in
      all_with a b parts.0 (All-from_recursion (IsLawfulEntry h v 0) b
      (recursion_from_All (IsLawfulEntry h v 0) (e ∷ b) parts.1).1)
      (subst (λ k. ArePackable 0 (a ++ record { key = k; rest = rest } ∷ b)) same
      (ArePackable-with 0 a b e rest lawful.packable (inl refl)))
