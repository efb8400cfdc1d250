-- The two laws of kept trees.
use Rattle.std.proofs.Common.{◌≡◌, ℕ, ◌<◌, ◌≤◌, List, Some, arith}
use Rattle.std.proofs.lemmas.List.Elements.{recursion_from_All}
use Rattle.gds_block.specs.Fields.{u32_at}
use Rattle.gds_block.specs.Item.{Item}
use Rattle.gds_header.specs.Fields.{fields_of, block_of}
use Rattle.gds_law.specs.Visit.{TreeRole, directory, global, Visit}
use Rattle.gds_sound.specs.Sound.{Tree, sound_tree}
use Rattle.gds_tree.specs.Keeps.{IsImage, KeepsSizes, KeepsBlocks, RootsBelow, IsWithinTotal}
use Rattle.gds_tree.proofs.BelowLemmas.{all_weaker}
use Rattle.gds_tree.proofs.KeepLemmas.{Low, Roots, tree_kept}
use Rattle.gds_tree.proofs.PartLemmas.{low_blocks, rooted}

-- ---- where the total is no smaller

pub low_more : (n m : ℕ) (blocks : List ℕ) → n ≤ m → Low n blocks → Low m blocks
low_more n m blocks h l = all_weaker (λ k. k < n) (λ k. k < m) blocks (λ k low. omega arith) l

pub roots_more : (n m : ℕ) (role : TreeRole) (items : List Item) → n ≤ m → Roots n role items → Roots m role items
roots_more n m directory items h l =
    all_weaker (λ (e : Item). u32_at e.rest 0 < n) (λ (e : Item). u32_at e.rest 0 < m) items (λ e low. omega arith) l
roots_more n m (global name) items h l = tt

pub grown : (old new : List ℕ) (v : Visit) (level : ℕ) (t : Tree) → IsImage old → IsImage new → KeepsSizes old new
    → (fields_of old).total ≤ (fields_of new).total → v.block < (fields_of old).total
    → sound_tree old level v ≡ Some t → KeepsBlocks old new t.blocks → sound_tree new level v ≡ Some t
grown old new v level t a b sizes more low h kept =
    tree_kept old new a b sizes level v t low h
    (low_more (fields_of old).total (fields_of new).total t.blocks more (low_blocks old a level v t low h))
    (roots_more (fields_of old).total (fields_of new).total v.role t.items more (rooted old a level v t low h))
    (recursion_from_All (λ n. block_of new n ≡ block_of old n) t.blocks kept)

-- ---- where it is above what the tree has

roots_by : (total : ℕ) (role : TreeRole) (items : List Item) → RootsBelow total role items → Roots total role items
roots_by total directory items h = recursion_from_All (λ (e : Item). u32_at e.rest 0 < total) items h
roots_by total (global name) items h = tt

pub cut : (old new : List ℕ) (v : Visit) (level : ℕ) (t : Tree) → IsImage old → IsImage new → KeepsSizes old new
    → IsWithinTotal (fields_of new).total v.role t → v.block < (fields_of old).total
    → sound_tree old level v ≡ Some t → KeepsBlocks old new t.blocks → sound_tree new level v ≡ Some t
cut old new v level t a b sizes within low h kept =
    tree_kept old new a b sizes level v t low h
    (recursion_from_All (λ n. n < (fields_of new).total) t.blocks within.blocks)
    (roots_by (fields_of new).total v.role t.items within.roots)
    (recursion_from_All (λ n. block_of new n ≡ block_of old n) t.blocks kept)
