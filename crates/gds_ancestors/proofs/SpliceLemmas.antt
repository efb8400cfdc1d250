-- Other entries in the place of some of an index block.
use Rattle.std.proofs.Common.{◌≡◌, ℕ, suc, List, [], ◌∷◌, ◌++◌, Option, Some, refl, ◌∙◌, arith}
use Rattle.std.specs.List.{AllByRecursion}
use Rattle.std.proofs.lemmas.List.Elements.{All-from_recursion}
use Rattle.gds_block.specs.Item.{Item}
use Rattle.gds_header.specs.Fields.{fields_of, block_of}
use Rattle.gds_law.specs.Visit.{Visit}
use Rattle.gds_sound.specs.Sound.{Tree, joined, sound_tree}
use Rattle.gds_tree.specs.Lawful.{IsLawful}
use Rattle.gds_tree.specs.Around.{around}
use Rattle.gds_tree.specs.Below.{low_behind, trees_below, HasEntries, index_tree}
use Rattle.gds_tree.specs.Keeps.{IsImage, KeepsSizes, KeepsBlocks}
use Rattle.gds_tree.proofs.BelowLemmas.{some_both, below_append}
use Rattle.gds_tree.proofs.PartLemmas.{lawful_at}
use Rattle.gds_tree.proofs.ReplaceLemmas.{NoHigher, below_replaced}
use Rattle.gds_tree.proofs.TreeByLemmas.{index_by}

-- ---- the trees below three parts

pub three_parts : (image : List ℕ) (w : Visit) (level : ℕ) (low : Option (List ℕ)) (a put b : List Item)
    (before middle behind : Tree) → trees_below image w level low a ≡ Some before
    → trees_below image w level (low_behind low a) put ≡ Some middle
    → trees_below image w level (low_behind low (a ++ put)) b ≡ Some behind
    → trees_below image w level low (a ++ put ++ b) ≡ Some (around before middle behind)
three_parts image w level low a put b before middle behind first second third =
    below_append image w level low (a ++ put) b
    ∙ some_both (trees_below image w level low (a ++ put)) _ (joined before middle) behind
    (below_append image w level low a put
    ∙ some_both (trees_below image w level low a) _ before middle first second) third

-- ---- the last part had another lower bound

same_sizes : (image : List ℕ) → KeepsSizes image image
same_sizes image = record { block_size = refl; key_max = refl; value_max = refl; tn = omega arith }

same_blocks : (image blocks : List ℕ) → KeepsBlocks image image blocks
same_blocks image blocks = All-from_recursion (λ n. block_of image n ≡ block_of image n) blocks (each blocks)
  where
    each : (xs : List ℕ) → AllByRecursion (λ n. block_of image n ≡ block_of image n) xs
    each [] = tt
    each (x ∷ xs) = (refl, each xs)

pub spliced : (image : List ℕ) (w : Visit) (level : ℕ) (a taken put b : List Item) (before middle behind : Tree)
    → IsImage image → IsLawful (fields_of image) w (suc level) (a ++ taken ++ b)
    → IsLawful (fields_of image) w (suc level) (a ++ put ++ b) → NoHigher put taken
    → trees_below image w level w.low a ≡ Some before
    → trees_below image w level (low_behind w.low a) put ≡ Some middle
    → trees_below image w level (low_behind w.low (a ++ taken)) b ≡ Some behind
    → trees_below image w level w.low (a ++ put ++ b) ≡ Some (around before middle behind)
spliced image w level a taken put b before middle behind i was now higher first second third =
    below_replaced image image w level a taken b put i i was now before middle behind (same_sizes image) (omega arith)
    first third (same_blocks image before.blocks) (same_blocks image behind.blocks) second higher

pub spliced_sound : (image : List ℕ) (w : Visit) (level : ℕ) (a taken put b : List Item) (before middle behind : Tree)
    → IsImage image → IsLawful (fields_of image) w (suc level) (a ++ taken ++ b)
    → HasEntries image w (suc level) (a ++ put ++ b) → NoHigher put taken
    → trees_below image w level w.low a ≡ Some before
    → trees_below image w level (low_behind w.low a) put ≡ Some middle
    → trees_below image w level (low_behind w.low (a ++ taken)) b ≡ Some behind
    → sound_tree image (suc level) w ≡ Some (index_tree w (around before middle behind))
spliced_sound image w level a taken put b before middle behind i was has higher first second third =
    index_by image w level (a ++ put ++ b) (around before middle behind) i has
    (spliced image w level a taken put b before middle behind i was (lawful_at image w (suc level) (a ++ put ++ b) has)
    higher first second third)
