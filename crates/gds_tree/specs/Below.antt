-- What stands below the entries of a block: its children, and their trees.
use Rattle.std.specs.Prelude.{◌≡◌, ℕ, zero, suc, ◌+◌, ◌<◌, List, [], ◌∷◌, Option, Some, option_map, option_and_then}
use Rattle.gds_block.specs.Block.{level_of}
use Rattle.gds_block.specs.Fields.{u32_at}
use Rattle.gds_block.specs.Item.{Item}
use Rattle.gds_header.specs.Fields.{fields_of, block_of}
use Rattle.gds_law.specs.Visit.{TreeRole, directory, global, Visit, Child}
use Rattle.gds_pack.specs.Packed.{record_size}
use Rattle.gds_sound.specs.Sound.{Tree, joined, sound_tree, root_of}
use Rattle.gds_tree.specs.RightBlock.{IsRightBlock}

-- the upper bound below an entry with a key: the key, and below the star, which has none, that of the block itself
abbrev pub high_below : Option (List ℕ) → List ℕ → Option (List ℕ)
high_below high [] = high
high_below high (b ∷ bytes) = Some (b ∷ bytes)

-- the visit with a key as its upper bound, and as its lower one
abbrev pub below_key : Visit → List ℕ → Visit
below_key v key = record { block = v.block; role = v.role; level = v.level; low = v.low; high = Some key }

abbrev pub from_key : Visit → List ℕ → Visit
from_key v key = record { block = v.block; role = v.role; level = v.level; low = Some key; high = v.high }

-- an entry without its key, as the star of a block whose upper bound the key is, and with another key
abbrev pub as_star : Item → Item
as_star e = record { key = []; rest = e.rest }

abbrev pub with_key : List ℕ → Item → Item
with_key key e = record { key = key; rest = e.rest }

-- where an entry of an index block leads, whose children have this level, and below which the keys have this lower
-- bound
abbrev pub visit_below : Visit → ℕ → Option (List ℕ) → Item → Visit
visit_below v level low e = record {
  block = u32_at e.rest 0;
  role = v.role;
  level = Some level;
  low = low;
  high = high_below v.high e.key;
}

-- the children by entries one after another, the first of which stands at an offset behind a key
abbrev pub index_children : Visit → ℕ → ℕ → List ℕ → Option (List ℕ) → List Item → List Child
index_children v level offset previous low [] = []
index_children v level offset previous low (e ∷ es) =
    record { offset = offset; visit = visit_below v level low e }
    ∷ index_children v level (offset + record_size previous e) e.key (Some e.key) es

abbrev pub directory_children : ℕ → List ℕ → List Item → List Child
directory_children offset previous [] = []
directory_children offset previous (e ∷ es) =
    record { offset = offset; visit = root_of e } ∷ directory_children (offset + record_size previous e) e.key es

abbrev pub leaf_children : TreeRole → List Item → List Child
leaf_children directory entries = directory_children 16 [] entries
leaf_children (global name) entries = []

-- the children of a block of a level with these entries: the blocks below in an index block, the roots of globals in a
-- level-0 block of the directory, and none in one of a global
abbrev pub children_by : Visit → ℕ → List Item → List Child
children_by v zero entries = leaf_children v.role entries
children_by v (suc level) entries = index_children v level 16 [] v.low entries

-- the lower bound below an entry that stands behind these
abbrev pub low_behind : Option (List ℕ) → List Item → Option (List ℕ)
low_behind low [] = low
low_behind low (e ∷ es) = low_behind (Some e.key) es

-- two trees together, where both are there
abbrev pub both : Option Tree → Option Tree → Option Tree
both a b = option_and_then (λ t. option_map (joined t) b) a

-- the sound trees below entries of an index block one after another, whose children have this level, together
abbrev pub trees_below : List ℕ → Visit → ℕ → Option (List ℕ) → List Item → Option Tree
trees_below image v level low [] = Some (record { blocks = []; items = [] })
trees_below image v level low (e ∷ es) =
    both (sound_tree image level (visit_below v level low e)) (trees_below image v level (Some e.key) es)

-- The block of a visit is there, has this level, and is right with these entries.
pub record HasEntries (image : List ℕ) (v : Visit) (height : ℕ) (entries : List Item) : Type 0 where
  pub there : v.block < (fields_of image).total
  pub level : level_of (block_of image v.block) ≡ height
  pub right : IsRightBlock (fields_of image) v (block_of image v.block) entries

-- the tree of a level-0 block, and that of an index block with what stands below it
abbrev pub leaf_tree : Visit → List Item → Tree
leaf_tree v entries = record { blocks = v.block ∷ []; items = entries }

abbrev pub index_tree : Visit → Tree → Tree
index_tree v below = joined (record { blocks = v.block ∷ []; items = [] }) below
