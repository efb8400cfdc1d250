-- Full index blocks above a leaf are those of any image that has the same blocks and a sound tree of them.
use Rattle.std.proofs.Common.{◌≡◌, ℕ, zero, suc, ◌+◌, List, [], ◌∷◌, ◌++◌, length, Some, inl, inr, refl, sym, ap}
use Rattle.std.proofs.Common.{subst, ◌∙◌, arith}
use Rattle.std.specs.List.{AllByRecursion}
use Rattle.std.proofs.lemmas.List.Elements.{All-from_recursion, recursion_from_All}
use Rattle.gds_ancestors.specs.Ancestors.{Ancestor, AreAncestors, IsAncestor}
use Rattle.gds_ancestors.proofs.VisitLemmas.{number_of}
use Rattle.gds_block.specs.Block.{level_of}
use Rattle.gds_block.specs.Item.{Item}
use Rattle.gds_find.specs.Trail.{HoldsKey}
use Rattle.gds_header.specs.Fields.{block_of, fields_of}
use Rattle.gds_insert.specs.SetIn.{IsDeepFor}
use Rattle.gds_law.specs.Visit.{Visit}
use Rattle.gds_law.proofs.MembershipLemmas.{IsIn, in_left, in_right}
use Rattle.gds_pack.specs.Unpacked.{entries_of}
use Rattle.gds_sound.specs.Sound.{Tree, joined, sound_tree, tree_at}
use Rattle.gds_sound.proofs.TreeLemmas.{index_parts, leaf_parts, tree_level}
use Rattle.gds_splice.specs.Parting.{IsFull}
use Rattle.gds_tree.specs.Around.{around}
use Rattle.gds_tree.specs.Below.{HasEntries, low_behind, trees_below, visit_below}
use Rattle.gds_tree.specs.Keeps.{IsImage}
use Rattle.gds_tree.specs.Lawful.{IsTreeNumber}
use Rattle.gds_tree.proofs.BelowLemmas.{below_append, both_parts, joined_assoc}
use Rattle.gds_tree.proofs.TreeByLemmas.{by_index}

pub same_some : {A : Type 0} (a b : A) → Some a ≡ Some b → a ≡ b
same_some a b e = cc

-- a tree has the block that it stands on
pub own_block : (image : List ℕ) (level : ℕ) (v : Visit) (t : Tree) → sound_tree image level v ≡ Some t
    → IsIn t.blocks v.block
own_block image zero v t h =
    let p = leaf_parts image v t h in
    subst (λ (u : Tree). IsIn u.blocks v.block) p.is (inl refl)
own_block image (suc level) v t h =
    let p = index_parts image level v t h in
    subst (λ (u : Tree). IsIn u.blocks v.block) p.is (inl refl)

in_around : (a b c : Tree) (n : ℕ) → IsIn b.blocks n → IsIn (around a b c).blocks n
in_around a b c n i = in_left (a.blocks ++ b.blocks) c.blocks n (in_right a.blocks b.blocks n i)

-- An ancestor by its entries, where sound trees stand below them, and the tree below the one that leads down.
record HasBelow (image : List ℕ) (v : Visit) (level : ℕ) (front : List Item) (entry : Item) (back : List Item)
    (below : Tree) : Type 0 where
  left : Tree
  inner : Tree
  right : Tree
  is : IsAncestor image
      (record { visit = v; front = front; entry = entry; back = back; left = left; right = right })
      (visit_below v level (low_behind v.low front) entry) level
  sound : sound_tree image level (visit_below v level (low_behind v.low front) entry) ≡ Some inner
  whole : below ≡ around left inner right

has_below : (image : List ℕ) (v : Visit) (level : ℕ) (front : List Item) (entry : Item) (back : List Item)
    (below : Tree) → HasEntries image v (suc level) (front ++ entry ∷ back)
    → trees_below image v level v.low (front ++ entry ∷ back) ≡ Some below
    → HasBelow image v level front entry back below
has_below image v level front entry back below has h =
    let p = both_parts (trees_below image v level v.low front)
    (trees_below image v level (low_behind v.low front) (entry ∷ back)) below
    (sym (below_append image v level v.low front (entry ∷ back)) ∙ h) in
    let q = both_parts (sound_tree image level (visit_below v level (low_behind v.low front) entry))
    (trees_below image v level (Some entry.key) back) p.second p.later in
    record {
      left = p.first;
      inner = q.first;
      right = q.second;
      is = record { has = has; leads = refl; left = p.here; right = q.later };
      sound = q.here;
      whole = p.is ∙ ap (joined p.first) q.is ∙ sym (joined_assoc p.first q.first q.second);
    }

-- the root's level by the number of its descendants on the way
height_of : (image : List ℕ) (root w : Visit) (above : List Ancestor) (level : ℕ)
    → level_of (block_of image w.block) ≡ level → AreAncestors image root above w level
    → level_of (block_of image root.block) ≡ length above + level
height_of image root w [] level at lead =
    let own : level_of (block_of image root.block) ≡ level =
    ap (λ (u : Visit). level_of (block_of image u.block)) (sym lead) ∙ at in
    let same : level ≡ length {A = Ancestor} [] + level = omega arith in
    own ∙ same
height_of image root w (a ∷ above) level at lead =
    let up = height_of image root a.visit above (suc level) lead.0.has.level lead.1 in
    let more : length above + suc level ≡ length (a ∷ above) + level = omega arith in
    up ∙ more

-- The leaf to which a key belongs stands below a root of level 7, and all index blocks above it are full.
pub record IsDeepBelow (image : List ℕ) (root : Visit) (key : List ℕ) : Type 0 where
  pub above : List Ancestor
  pub leaf : Visit
  pub lead : AreAncestors image root above leaf 0
  pub holds : HoldsKey leaf key
  pub levels : length above ≡ 7
  pub full : AllByRecursion (IsFull (fields_of image)) above
  pub bottom : level_of (block_of image leaf.block) ≡ 0
  pub height : level_of (block_of image root.block) ≡ 7

pub deep_for : (image : List ℕ) (root : Visit) (key : List ℕ) → IsDeepBelow image root key → IsDeepFor image root key
deep_for image root key deep = record {
  above = deep.above;
  leaf = deep.leaf;
  lead = deep.lead;
  holds = deep.holds;
  deep = record {
    levels = omega (arith, deep.levels);
    full = All-from_recursion (IsFull (fields_of image)) deep.above deep.full;
  };
}

module _ (file image : List ℕ) (i : IsImage image)
    (block_size : (fields_of file).block_size ≡ (fields_of image).block_size)
    (key_max : (fields_of file).key_max ≡ (fields_of image).key_max) (root : Visit) (t : Tree)
    (number : IsTreeNumber (fields_of image).total root.block)
    (kept : (n : ℕ) → IsIn t.blocks n → block_of file n ≡ block_of image n) where
  record Carried (above : List Ancestor) (w : Visit) (level : ℕ) : Type 0 where
    own : List Ancestor
    lead : AreAncestors image root own w level
    full : AllByRecursion (IsFull (fields_of image)) own
    count : length own ≡ length above
    inner : Tree
    sound : sound_tree image level w ≡ Some inner
    within : (n : ℕ) → IsIn inner.blocks n → IsIn t.blocks n

  carried : (above : List Ancestor) (w : Visit) (level height : ℕ) → height ≡ length above + level
      → sound_tree image height root ≡ Some t → AreAncestors file root above w level
      → AllByRecursion (IsFull (fields_of file)) above → Carried above w level
  carried [] w level height same stands lead full =
      let own : level ≡ height = omega (arith, same) in
      record {
        own = [];
        lead = lead;
        full = tt;
        count = refl;
        inner = t;
        sound = (λ j. sound_tree image (own j) (lead j)) ∙ stands;
        within = λ n there. there;
      }
  carried (a ∷ above) w level height same stands lead full =
      let v : Visit = a.visit in
      let es : List Item = a.front ++ a.entry ∷ a.back in
      let up = carried above v (suc level) height (omega (arith, same)) stands lead.1 full.1 in
      let x = by_index image v level up.inner i
      (number_of image root v up.own (suc level) number up.lead).within up.sound in
      let here : block_of file v.block ≡ block_of image v.block =
      kept v.block (up.within v.block (own_block image (suc level) v up.inner up.sound)) in
      let entries : x.es ≡ es =
      same_some x.es es (sym x.has.right.found ∙ ap entries_of (sym here) ∙ lead.0.has.right.found) in
      let d = has_below image v level a.front a.entry a.back x.below
      (subst (HasEntries image v (suc level)) entries x.has)
      (ap (trees_below image v level v.low) (sym entries) ∙ x.trees) in
      let own : Ancestor = record {
        visit = v;
        front = a.front;
        entry = a.entry;
        back = a.back;
        left = d.left;
        right = d.right;
      } in
      record {
        own = own ∷ up.own;
        lead = (subst (λ (u : Visit). IsAncestor image own u level) (sym lead.0.leads) d.is, up.lead);
        full = (omega (arith, full.0, block_size, key_max), up.full);
        count = omega (arith, up.count);
        inner = d.inner;
        sound = ap (sound_tree image level) lead.0.leads ∙ d.sound;
        within = λ n there.
            up.within n (subst (λ (u : Tree). IsIn u.blocks n) (sym x.is)
            (inr (subst (λ (u : Tree). IsIn u.blocks n) (sym d.whole) (in_around d.left d.inner d.right n there))));
      }

  top_level : (above : List Ancestor) (leaf : Visit) → AreAncestors file root above leaf 0 → length above ≡ 7
      → level_of (block_of file root.block) ≡ 7
  top_level [] leaf lead seven = absurd (omega (arith, seven))
  top_level (a ∷ above) leaf lead seven =
      let count : length above + 1 ≡ 7 = omega (arith, seven) in
      height_of file root a.visit above 1 lead.0.has.level lead.1 ∙ count

  pub deep_carried : tree_at image root ≡ Some t → (key : List ℕ) → IsDeepFor file root key
      → IsDeepBelow image root key
  deep_carried stands key deep =
      let seven : length deep.above ≡ 7 = omega (arith, deep.deep.levels) in
      let here : block_of file root.block ≡ block_of image root.block =
      kept root.block (own_block image (level_of (block_of image root.block)) root t stands) in
      let height : level_of (block_of image root.block) ≡ 7 =
      ap level_of (sym here) ∙ top_level deep.above deep.leaf deep.lead seven in
      let zero_more : 7 ≡ length deep.above + 0 = omega (arith, seven) in
      let c = carried deep.above deep.leaf 0 (level_of (block_of image root.block)) (height ∙ zero_more) stands
      deep.lead
      (recursion_from_All (IsFull (fields_of file)) deep.above deep.deep.full) in
      record {
        above = c.own;
        leaf = deep.leaf;
        lead = c.lead;
        holds = deep.holds;
        levels = omega (arith, c.count, seven);
        full = c.full;
        bottom = tree_level image 0 deep.leaf c.inner c.sound;
        height = height;
      }
