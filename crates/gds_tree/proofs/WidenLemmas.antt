-- A sound tree is so within wider bounds too.
use Rattle.std.proofs.Common.{◌≡◌, ℕ, zero, suc, ◌<◌, List, [], ◌∷◌, Option, None, Some, inr, refl, sym}
use Rattle.std.proofs.Common.{ap, subst, ◌∙◌}
use Rattle.std.specs.List.{AllByRecursion}
use Rattle.std.proofs.lemmas.List.Elements.{All-weaker}
use Rattle.gds_block.specs.Block.{level_of}
use Rattle.gds_block.specs.Item.{Item}
use Rattle.gds_header.specs.declared.header.Header.{Header}
use Rattle.gds_header.specs.Fields.{fields_of, block_of}
use Rattle.gds_law.specs.Visit.{Visit}
use Rattle.gds_sound.specs.Sound.{Tree, sound_tree}
use Rattle.m_key.specs.Key.{AtMost}
use Rattle.gds_tree.specs.Lawful.{IsOfRole, IsAboveLow, IsBelowHigh, IsLawfulRest, IsLawfulEntry}
use Rattle.gds_tree.specs.RightBlock.{IsDueLevel, IsRightBlock}
use Rattle.gds_tree.specs.Below.{high_below, visit_below, trees_below, HasEntries}
use Rattle.gds_tree.specs.Keeps.{IsImage, IsLowerLow, IsHigherHigh, IsWider}
use Rattle.gds_tree.proofs.TestLemmas.{most_from, most_most, most_below, below_most}
use Rattle.gds_tree.proofs.BelowLemmas.{both_parts, some_both}
use Rattle.gds_tree.proofs.KeepLemmas.{pointers}
use Rattle.gds_tree.proofs.PartLemmas.{lawful_index}
use Rattle.gds_tree.proofs.TreeByLemmas.{leaf_by, index_by, by_leaf, by_index}

-- ---- bounds

pub most_same : (key : List ℕ) → AtMost key key
most_same key = most_from key key (inr refl)

pub above_wider : (level : ℕ) (wide low : Option (List ℕ)) (key : List ℕ) → IsLowerLow wide low
    → IsAboveLow level low key → IsAboveLow level wide key
above_wider level None low key w h = tt
above_wider level (Some a) None key w h = absurd w
above_wider zero (Some a) (Some b) key w h = most_most a b key w h
above_wider (suc level) (Some a) (Some b) key w h = most_below a b key w h

pub below_wider : (wide high : Option (List ℕ)) (key : List ℕ) → IsHigherHigh wide high → IsBelowHigh high key
    → IsBelowHigh wide key
below_wider None high key w h = tt
below_wider (Some a) None key w h = absurd w
below_wider (Some a) (Some b) key w h = below_most key b a h w

no_low : (wide low : Option (List ℕ)) → IsLowerLow wide low → low ≡ None → wide ≡ None
no_low None low w e = refl
no_low (Some a) None w e = absurd w
no_low (Some a) (Some b) w e = absurd (cc)

no_high : (wide high : Option (List ℕ)) → IsHigherHigh wide high → high ≡ None → wide ≡ None
no_high None high w e = refl
no_high (Some a) None w e = absurd w
no_high (Some a) (Some b) w e = absurd (cc)

high_wider : (wide high : Option (List ℕ)) (key : List ℕ) → IsHigherHigh wide high
    → IsHigherHigh (high_below wide key) (high_below high key)
high_wider wide high [] w = w
high_wider wide high (k ∷ key) w = most_same (k ∷ key)

-- ---- a block

entry_wider : (h : Header) (wide v : Visit) (level : ℕ) (e : Item) → IsWider wide v → IsLawfulEntry h v level e
    → IsLawfulEntry h wide level e
entry_wider h wide v level e w l = record {
  key = λ some.
      let k = l.key some in
      record {
        short = k.short;
        right = k.right;
        role = subst (λ role. IsOfRole role e.key) (sym w.role) k.role;
        above = above_wider level wide.low v.low e.key w.low k.above;
        below = below_wider wide.high v.high e.key w.high k.below;
      };
  rest = subst (λ role. IsLawfulRest h role level e.rest) (sym w.role) l.rest;
}

right_wider : (h : Header) (wide v : Visit) (block : List ℕ) (es : List Item) → IsWider wide v
    → IsRightBlock h v block es → IsRightBlock h wide block es
right_wider h wide v block es w right = record {
  head = record {
    stamped = right.head.stamped;
    level = subst (λ due. IsDueLevel due (level_of block)) (sym w.level) right.head.level;
    used = right.head.used;
    fits = right.head.fits;
  };
  found = right.found;
  lawful = record {
    packable = right.lawful.packable;
    each = All-weaker (IsLawfulEntry h v (level_of block)) (IsLawfulEntry h wide (level_of block))
        (λ e l. entry_wider h wide v (level_of block) e w l) es right.lawful.each;
    none = λ none.
        let m = right.lawful.none none in
        record {
          leaf = m.leaf;
          role = w.role ∙ m.role;
          low = no_low wide.low v.low w.low m.low;
          high = no_high wide.high v.high w.high m.high;
        };
  };
}

-- ---- trees

module _ (image : List ℕ) (i : IsImage image) where
  has_wider : (wide v : Visit) (level : ℕ) (es : List Item) → IsWider wide v → HasEntries image v level es
      → HasEntries image wide level es
  has_wider wide v level es w has = record {
    there = subst (λ n. n < (fields_of image).total) (sym w.block) has.there;
    level = ap (λ n. level_of (block_of image n)) w.block ∙ has.level;
    right = subst (λ n. IsRightBlock (fields_of image) wide (block_of image n) es) (sym w.block)
        (right_wider (fields_of image) wide v (block_of image v.block) es w has.right);
  }

  abbrev WidensAt : ℕ → Type 0
  WidensAt level = (wide v : Visit) (t : Tree) → IsWider wide v → v.block < (fields_of image).total
      → sound_tree image level v ≡ Some t → sound_tree image level wide ≡ Some t

  pub below_widened : (wide v : Visit) (level : ℕ) (wide_low low : Option (List ℕ)) (es : List Item) (t : Tree)
      → WidensAt level → wide.role ≡ v.role → IsHigherHigh wide.high v.high → IsLowerLow wide_low low
      → AllByRecursion (IsLawfulEntry (fields_of image) v (suc level)) es → trees_below image v level low es ≡ Some t
      → trees_below image wide level wide_low es ≡ Some t
  below_widened wide v level wide_low low [] t widens role high lower lawful h = h
  below_widened wide v level wide_low low (e ∷ es) t widens role high lower lawful h =
      let c : Visit = visit_below v level low e in
      let d : Visit = visit_below wide level wide_low e in
      let p = both_parts (sound_tree image level c) (trees_below image v level (Some e.key) es) t h in
      let pointer = pointers (fields_of image) v v.role level e.rest lawful.0.rest in
      let wider : IsWider d c = record {
        block = refl;
        role = role;
        level = refl;
        low = lower;
        high = high_wider wide.high v.high e.key high;
      } in
      some_both (sound_tree image level d) (trees_below image wide level (Some e.key) es) p.first p.second
      (widens d c p.first wider pointer.leads.within p.here)
      (below_widened wide v level (Some e.key) (Some e.key) es p.second widens role high (most_same e.key) lawful.1
      p.later)
      ∙ ap (λ w. Some w) (sym p.is)

  pub widened : (level : ℕ) → WidensAt level
  widened zero wide v t w low h =
      let p = by_leaf image v t i low h in
      leaf_by image wide p.es i (has_wider wide v 0 p.es w p.has)
      ∙ ap (λ n. Some (record { blocks = n ∷ []; items = p.es })) w.block ∙ ap (λ u. Some u) (sym p.is)
  widened (suc level) wide v t w low h =
      let p = by_index image v level t i low h in
      index_by image wide level p.es p.below i (has_wider wide v (suc level) p.es w p.has)
      (below_widened wide v level wide.low v.low p.es p.below (widened level) w.role w.high w.low
      (lawful_index image v (suc level) p.es p.has) p.trees)
      ∙ ap (λ n. Some (record { blocks = n ∷ p.below.blocks; items = p.below.items })) w.block
      ∙ ap (λ u. Some u) (sym p.is)
