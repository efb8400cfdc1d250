-- A sound tree stays sound in an image that keeps its blocks.
use Rattle.std.proofs.Common.{◌≡◌, ℕ, zero, suc, ◌<◌, ◌≤◌, List, [], ◌∷◌, ◌++◌, length, Option, Some, sym}
use Rattle.std.proofs.Common.{ap, subst, ◌∙◌, arith}
use Rattle.std.specs.Prelude.{⊤}
use Rattle.std.specs.List.{AllByRecursion}
use Rattle.std.proofs.lemmas.List.Elements.{recursion_from_All, All-from_recursion}
use Rattle.gds_block.specs.Block.{level_of}
use Rattle.gds_block.specs.Fields.{u32_at}
use Rattle.gds_block.specs.Item.{Item}
use Rattle.gds_header.specs.declared.header.Header.{Header}
use Rattle.gds_header.specs.Fields.{fields_of, block_of}
use Rattle.gds_law.specs.Visit.{TreeRole, directory, global, Visit}
use Rattle.gds_pack.specs.Packed.{packed_size}
use Rattle.gds_sound.specs.Sound.{Tree, sound_tree}
use Rattle.gds_tree.specs.Lawful.{IsPointer, IsLawfulRest, IsLawfulEntry, IsLawful}
use Rattle.gds_tree.specs.RightBlock.{IsRightBlock}
use Rattle.gds_tree.specs.Below.{visit_below, trees_below, HasEntries}
use Rattle.gds_tree.specs.Keeps.{IsImage, KeepsSizes}
use Rattle.gds_tree.proofs.BelowLemmas.{all_left, all_right, both_parts, some_both, first_block}
use Rattle.gds_tree.proofs.TreeByLemmas.{leaf_by, index_by, by_leaf, by_index}

-- ---- a right block under another header

-- A rest that is a pointer leads below a total.
abbrev pub Reaches : ℕ → TreeRole → ℕ → List ℕ → Type 0
Reaches total (global name) zero rest = ⊤
Reaches total role level rest = u32_at rest 0 < total

rest_kept : (h g : Header) (role : TreeRole) (level : ℕ) (rest : List ℕ) → g.value_max ≡ h.value_max
    → IsLawfulRest h role level rest → Reaches g.total role level rest → IsLawfulRest g role level rest
rest_kept h g (global name) zero rest same l r = omega arith
rest_kept h g directory level rest same l r =
    record { size = l.size; leads = record { positive = l.leads.positive; within = r; no_map = l.leads.no_map } }
rest_kept h g (global name) (suc level) rest same l r =
    record { size = l.size; leads = record { positive = l.leads.positive; within = r; no_map = l.leads.no_map } }

-- the limits of keys and values are the same
pub record SameLimits (h g : Header) : Type 0 where
  block_size : g.block_size ≡ h.block_size
  key_max : g.key_max ≡ h.key_max
  value_max : g.value_max ≡ h.value_max
  tn : h.tn ≤ g.tn

entry_kept : (h g : Header) (v : Visit) (level : ℕ) (e : Item) → SameLimits h g → IsLawfulEntry h v level e
    → Reaches g.total v.role level e.rest → IsLawfulEntry g v level e
entry_kept h g v level e same l r = record {
  key = λ some.
      let k = l.key some in
      record {
        short = subst (λ n. length e.key ≤ n) (sym same.key_max) k.short;
        right = k.right;
        role = k.role;
        above = k.above;
        below = k.below;
      };
  rest = rest_kept h g v.role level e.rest same.value_max l.rest r;
}

abbrev pub Reach : ℕ → TreeRole → ℕ → List Item → Type 0
Reach total role level es = AllByRecursion (λ (e : Item). Reaches total role level e.rest) es

each_kept : (h g : Header) (v : Visit) (level : ℕ) (es : List Item) → SameLimits h g
    → AllByRecursion (IsLawfulEntry h v level) es → Reach g.total v.role level es
    → AllByRecursion (IsLawfulEntry g v level) es
each_kept h g v level [] same l r = tt
each_kept h g v level (e ∷ es) same l r = (entry_kept h g v level e same l.0 r.0, each_kept h g v level es same l.1 r.1)

right_kept : (h g : Header) (v : Visit) (block : List ℕ) (es : List Item) → SameLimits h g → IsRightBlock h v block es
    → Reach g.total v.role (level_of block) es → IsRightBlock g v block es
right_kept h g v block es same right reach =
    let head = right.head in
    let low = head.stamped.tn in
    let tn = same.tn in
    record {
      head = record {
        stamped = record {
          version = head.stamped.version;
          reserved = head.stamped.reserved;
          tn = omega arith;
        };
        level = head.level;
        used = head.used;
        fits = subst (λ n. packed_size es ≤ n) (sym same.block_size) head.fits;
      };
      found = right.found;
      lawful = record {
        packable = right.lawful.packable;
        each = All-from_recursion (IsLawfulEntry g v (level_of block)) es
            (each_kept h g v (level_of block) es same
            (recursion_from_All (IsLawfulEntry h v (level_of block)) es right.lawful.each) reach);
        none = right.lawful.none;
      };
    }

-- ---- what a tree reaches

abbrev pub Low : ℕ → List ℕ → Type 0
Low total blocks = AllByRecursion (λ n. n < total) blocks

abbrev pub Kept : List ℕ → List ℕ → List ℕ → Type 0
Kept old new blocks = AllByRecursion (λ n. block_of new n ≡ block_of old n) blocks

abbrev pub Roots : ℕ → TreeRole → List Item → Type 0
Roots total directory items = AllByRecursion (λ (e : Item). u32_at e.rest 0 < total) items
Roots total (global name) items = ⊤

pub roots_left : (total : ℕ) (role : TreeRole) (xs ys : List Item) → Roots total role (xs ++ ys) → Roots total role xs
roots_left total directory xs ys h = all_left (λ (e : Item). u32_at e.rest 0 < total) xs ys h
roots_left total (global name) xs ys h = tt

pub roots_right : (total : ℕ) (role : TreeRole) (xs ys : List Item) → Roots total role (xs ++ ys) → Roots total role ys
roots_right total directory xs ys h = all_right (λ (e : Item). u32_at e.rest 0 < total) xs ys h
roots_right total (global name) xs ys h = tt

leaf_reach : (total : ℕ) (role : TreeRole) (es : List Item) → Roots total role es → Reach total role 0 es
leaf_reach total directory es h = h
leaf_reach total (global name) [] h = tt
leaf_reach total (global name) (e ∷ es) h = (tt, leaf_reach total (global name) es tt)

pub index_reach : (total : ℕ) (role : TreeRole) (level : ℕ) (es : List Item)
    → AllByRecursion (λ (e : Item). u32_at e.rest 0 < total) es → Reach total role (suc level) es
index_reach total directory level es h = h
index_reach total (global name) level es h = h

pub pointers : (h : Header) (v : Visit) (role : TreeRole) (level : ℕ) (rest : List ℕ)
    → IsLawfulRest h role (suc level) rest → IsPointer h rest
pointers h v directory level rest l = l
pointers h v (global name) level rest l = l

-- ---- trees

module _ (old new : List ℕ) (a : IsImage old) (b : IsImage new) (sizes : KeepsSizes old new) where
  pub same_limits : SameLimits (fields_of old) (fields_of new)
  same_limits = record {
    block_size = sizes.block_size;
    key_max = sizes.key_max;
    value_max = sizes.value_max;
    tn = sizes.tn;
  }

  pub entries_kept : (v : Visit) (level : ℕ) (es : List Item) → HasEntries old v level es
      → v.block < (fields_of new).total → block_of new v.block ≡ block_of old v.block
      → Reach (fields_of new).total v.role level es → HasEntries new v level es
  entries_kept v level es has low same reach = record {
    there = low;
    level = ap level_of same ∙ has.level;
    right = subst (λ block. IsRightBlock (fields_of new) v block es) (sym same)
        (right_kept (fields_of old) (fields_of new) v (block_of old v.block) es same_limits has.right
        (subst (λ n. Reach (fields_of new).total v.role n es) (sym has.level) reach));
  }

  -- what is to be shown of the trees of a level
  abbrev pub StaysAt : ℕ → Type 0
  StaysAt level = (c : Visit) (t : Tree) → c.block < (fields_of old).total → sound_tree old level c ≡ Some t
      → Low (fields_of new).total t.blocks → Roots (fields_of new).total c.role t.items → Kept old new t.blocks
      → sound_tree new level c ≡ Some t

  pub record BelowKept (v : Visit) (level : ℕ) (low : Option (List ℕ)) (es : List Item) (t : Tree) : Type 0 where
    pub trees : trees_below new v level low es ≡ Some t
    pub reach : AllByRecursion (λ (e : Item). u32_at e.rest 0 < (fields_of new).total) es

  pub below_kept : (v : Visit) (level : ℕ) (low : Option (List ℕ)) (es : List Item) (t : Tree) → StaysAt level
      → AllByRecursion (IsLawfulEntry (fields_of old) v (suc level)) es → trees_below old v level low es ≡ Some t
      → Low (fields_of new).total t.blocks → Roots (fields_of new).total v.role t.items → Kept old new t.blocks
      → BelowKept v level low es t
  below_kept v level low [] t stays lawful h within roots kept = record { trees = h; reach = tt }
  below_kept v level low (e ∷ es) t stays lawful h within roots kept =
      let total : ℕ = (fields_of new).total in
      let c : Visit = visit_below v level low e in
      let p = both_parts (sound_tree old level c) (trees_below old v level (Some e.key) es) t h in
      let within' = subst (λ (w : Tree). Low total w.blocks) p.is within in
      let roots' = subst (λ (w : Tree). Roots total v.role w.items) p.is roots in
      let kept' = subst (λ (w : Tree). Kept old new w.blocks) p.is kept in
      let pointer = pointers (fields_of old) v v.role level e.rest lawful.0.rest in
      let first = all_left (λ n. n < total) p.first.blocks p.second.blocks within' in
      let one = stays c p.first pointer.leads.within p.here first
      (roots_left total v.role p.first.items p.second.items roots')
      (all_left (λ n. block_of new n ≡ block_of old n) p.first.blocks p.second.blocks kept') in
      let more = below_kept v level (Some e.key) es p.second stays lawful.1 p.later
      (all_right (λ n. n < total) p.first.blocks p.second.blocks within')
      (roots_right total v.role p.first.items p.second.items roots')
      (all_right (λ n. block_of new n ≡ block_of old n) p.first.blocks p.second.blocks kept') in
      let head = first_block old level c p.first p.here in
      record {
        trees = some_both _ _ p.first p.second one more.trees ∙ ap (λ w. Some w) (sym p.is);
        reach = ((subst (Low total) (sym head.1) first).0, more.reach);
      }

  pub tree_kept : (level : ℕ) → StaysAt level
  tree_kept zero v t low h within roots kept =
      let p = by_leaf old v t a low h in
      let within' = subst (λ (w : Tree). Low (fields_of new).total w.blocks) p.is within in
      let roots' = subst (λ (w : Tree). Roots (fields_of new).total v.role w.items) p.is roots in
      let kept' = subst (λ (w : Tree). Kept old new w.blocks) p.is kept in
      leaf_by new v p.es b (entries_kept v 0 p.es p.has within'.0 kept'.0
      (leaf_reach (fields_of new).total v.role p.es roots')) ∙ ap (λ w. Some w) (sym p.is)
  tree_kept (suc level) v t low h within roots kept =
      let p = by_index old v level t a low h in
      let within' = subst (λ (w : Tree). Low (fields_of new).total w.blocks) p.is within in
      let roots' = subst (λ (w : Tree). Roots (fields_of new).total v.role w.items) p.is roots in
      let kept' = subst (λ (w : Tree). Kept old new w.blocks) p.is kept in
      let lawful = recursion_from_All (IsLawfulEntry (fields_of old) v (level_of (block_of old v.block))) p.es
      p.has.right.lawful.each in
      let below = below_kept v level v.low p.es p.below (tree_kept level)
      (subst (λ n. AllByRecursion (IsLawfulEntry (fields_of old) v n) p.es) p.has.level lawful) p.trees within'.1 roots'
      kept'.1 in
      index_by new v level p.es p.below b
      (entries_kept v (suc level) p.es p.has within'.0 kept'.0
      (index_reach (fields_of new).total v.role level p.es below.reach))
      below.trees ∙ ap (λ w. Some w) (sym p.is)

-- ---- entries that are lawful under another header

reaches_more : (h : Header) (total : ℕ) (role : TreeRole) (level : ℕ) (rest : List ℕ) → h.total ≤ total
    → IsLawfulRest h role level rest → Reaches total role level rest
reaches_more h total (global name) zero rest more l = tt
reaches_more h total directory level rest more l = let low = l.leads.within in omega arith
reaches_more h total (global name) (suc level) rest more l = let low = l.leads.within in omega arith

reach_more : (h : Header) (total : ℕ) (v : Visit) (level : ℕ) (es : List Item) → h.total ≤ total
    → AllByRecursion (IsLawfulEntry h v level) es → Reach total v.role level es
reach_more h total v level [] more l = tt
reach_more h total v level (e ∷ es) more l =
    (reaches_more h total v.role level e.rest more l.0.rest, reach_more h total v level es more l.1)

pub lawful_kept : (h g : Header) (v : Visit) (level : ℕ) (es : List Item) → SameLimits h g → h.total ≤ g.total
    → IsLawful h v level es → IsLawful g v level es
lawful_kept h g v level es same more l =
    let each = recursion_from_All (IsLawfulEntry h v level) es l.each in
    record {
      packable = l.packable;
      each = All-from_recursion (IsLawfulEntry g v level) es
          (each_kept h g v level es same each (reach_more h g.total v level es more each));
      none = l.none;
    }
