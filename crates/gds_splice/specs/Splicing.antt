-- Entries in the place of neighbouring children of an index block.
use Rattle.std.specs.Prelude.{◌≡◌, ◌≢◌, ◌⊎◌, ◌+◌, ◌*◌, ◌<◌, ◌≤◌, ℕ, suc, nat_eq, All, List, [], ◌∷◌, ◌++◌, length, Some}
use Rattle.std.specs.List.{IsDistinct}
use Rattle.gds_block.specs.Item.{Item}
use Rattle.gds_draft.specs.Draft.{DraftState}
use Rattle.gds_header.specs.Fields.{fields_of}
use Rattle.gds_header.specs.declared.header.Header.{Header}
use Rattle.gds_law.specs.Visit.{Visit}
use Rattle.gds_pack.specs.Packed.{key_behind, packed_size}
use Rattle.gds_sound.specs.Sound.{Tree}
use Rattle.m_key.specs.Key.{AtMost}
use Rattle.gds_tree.specs.Around.{around}
use Rattle.gds_tree.specs.Below.{HasEntries, low_behind, trees_below}
use Rattle.gds_tree.specs.Lawful.{IsLawfulEntry}
use Rattle.gds_tree.specs.Lawful as entries
use Rattle.gds_file.specs.FileLaws.{IsLawful}
use Rattle.gds_file.specs.Rewrite.{AreAllBusy}
use Rattle.gds_split.specs.Pieces.{starred}
use Rattle.gds_ancestors.specs.Ancestors.{Ancestor, AreAncestors, steps_to}
use Rattle.gds_find.specs.Trail.{steps_of}
use Rattle.gds_find.specs.declared.trail.Step.{Step}
use Rattle.gds_splice.specs.NewKeys.{put_before, with_new_keys}
use Rattle.gds_splice.specs.Parted.{IsRoot, MayPart, TreeBecomes, items_around, part_blocks}
use Rattle.gds_splice.specs.Parting.{IsTooDeep, blocks_needed, blocks_taken}
use Rattle.gds_splice.specs.Writing.{HasMore}

-- The entries of an index block of which some neighbouring ones go: those before them, they themselves, and those
-- behind, with the trees that stand below those before and below those behind.
pub record Span : Type 0 where
  pub front : List Item
  pub gone : List Item
  pub back : List Item
  pub left : Tree
  pub right : Tree

-- the entries with others in the place of those that go, of which the last is the star, whatever key it had
abbrev pub spliced_entries : Span → List Item → List Item
spliced_entries p put = starred (p.front ++ put ++ p.back)

-- Entries may stand in the place of neighbouring children of an index block, to which ancestors lead from a root. Sound
-- trees stand below them, they are lawful with the others, and the last of them isn't above the last that goes, unless
-- nothing stands behind. No block of the tree with them is there twice, and all are busy.
pub record MaySplice (file : List ℕ) (root : Visit) (above : List Ancestor) (v : Visit) (level : ℕ) (p : Span)
    (put : List Item) (middle : Tree) : Type 0 where
  pub is_root : IsRoot file root
  pub lead : AreAncestors file root above v (suc level)
  pub has : HasEntries file v (suc level) (p.front ++ p.gone ++ p.back)
  pub left : trees_below file v level v.low p.front ≡ Some p.left
  pub middle_is : trees_below file v level (low_behind v.low p.front) put ≡ Some middle
  pub right : trees_below file v level (low_behind v.low (p.front ++ p.gone)) p.back ≡ Some p.right
  pub each : All (IsLawfulEntry (fields_of file) v (suc level)) put
  pub lawful : entries.IsLawful (fields_of file) v (suc level) (spliced_entries p put)
  pub no_higher : p.back ≢ [] → (put ≡ []) ⊎ AtMost (key_behind [] put) (key_behind [] p.gone)
  pub distinct : IsDistinct nat_eq (part_blocks above v (around p.left middle p.right))
  pub busy : AreAllBusy file (part_blocks above v (around p.left middle p.right))
  pub maps : IsLawful file

-- Then the index block may get them: it stays one block with them or goes into pieces.
abbrev pub SplicedMayPart : Type 0
SplicedMayPart =
    (file : List ℕ) (root : Visit) (above : List Ancestor) (v : Visit) (level : ℕ) (p : Span) (put : List Item)
    (middle : Tree) → MaySplice file root above v level p put middle
    → MayPart file root above v (suc level) (spliced_entries p put) (around p.left middle p.right)

-- the entries that are put with keys which none of those that go has, where the star's key is the empty one
abbrev pub new_entries : Span → List Item → List Item
new_entries p put = with_new_keys p.gone (put_before p.back put)

-- ---- the whole way up

-- Entries may stand in the place of so many children of an index block, and these steps lead to the record of the first
-- of those. At most two of them have keys that none of those children has.
pub record IsToSplice (file : List ℕ) (root : Visit) (above : List Ancestor) (v : Visit) (level : ℕ) (p : Span)
    (put : List Item) (middle : Tree) (steps : List Step) (taken : ℕ) : Type 0 where
  pub may : MaySplice file root above v level p put middle
  pub leads : steps_of steps ≡ steps_to above ++ (v.block, packed_size p.front) ∷ []
  pub count : length p.gone ≡ taken
  pub some : p.gone ≢ []
  pub few : length (new_entries p put) ≤ 2

-- Whichever children those are, the tree of the root is sound with the others in their place.
abbrev pub SplicesAt : List Step → ℕ → List Item → List ℕ → List ℕ → Type 0
SplicesAt steps taken put before after =
    (root : Visit) (above : List Ancestor) (v : Visit) (level : ℕ) (p : Span) (middle : Tree)
    → IsToSplice before root above v level p put middle steps taken
    → TreeBecomes before after root (part_blocks above v (around p.left middle p.right))
    (items_around above (around p.left middle p.right).items)

-- Where no key is new, a draft gets at most one block that it hadn't, and its header stays.
abbrev pub SplicesInPlace : List Step → ℕ → List Item → DraftState → DraftState → List ℕ → Type 0
SplicesInPlace steps taken put old new file =
    (root : Visit) (above : List Ancestor) (v : Visit) (level : ℕ) (p : Span) (middle : Tree)
    → IsToSplice file root above v level p put middle steps taken → new_entries p put ≡ [] → HasMore old new 1

-- There are no such children, or some key is new and too few blocks are free.
abbrev pub CannotSplice : List Step → ℕ → List Item → List ℕ → Type 0
CannotSplice steps taken put file =
    (root : Visit) (above : List Ancestor) (v : Visit) (level : ℕ) (p : Span) (middle : Tree)
    → IsToSplice file root above v level p put middle steps taken
    → (new_entries p put ≡ [])
    ⊎ (blocks_taken (suc level) above + blocks_needed (suc (suc level)) above ≤ (fields_of file).free) → ⊥

-- Some key is new, the entries don't fit the index block, that is full, and the tree above it is too deep.
pub record IsTooDeepFor (h : Header) (above : List Ancestor) (level : ℕ) (p : Span) (put : List Item) : Type 0 where
  pub new : new_entries p put ≢ []
  pub more : h.block_size < packed_size (spliced_entries p put)
  pub full : h.block_size < packed_size (p.front ++ p.gone ++ p.back) + 2 * (8 + h.key_max)
  pub deep : IsTooDeep h above (suc level)

-- Whichever children those are, that is so.
abbrev pub CannotGrowAt : List Step → ℕ → List Item → List ℕ → Type 0
CannotGrowAt steps taken put file =
    (root : Visit) (above : List Ancestor) (v : Visit) (level : ℕ) (p : Span) (middle : Tree)
    → IsToSplice file root above v level p put middle steps taken → IsTooDeepFor (fields_of file) above level p put
