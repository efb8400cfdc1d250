-- A block of a tree that gets other entries, or goes into pieces, and what its ancestors do then.
use Rattle.std.specs.Prelude.{◌≡◌, ℕ, suc, ◌<◌, ◌≤◌, List, [], ◌∷◌, ◌++◌, length, Option, Some}
use Rattle.gds_block.specs.Item.{Item}
use Rattle.gds_header.specs.Fields.{fields_of}
use Rattle.gds_law.specs.Visit.{Visit}
use Rattle.gds_sound.specs.Sound.{Tree, sound_tree}
use Rattle.gds_tree.specs.Around.{around}
use Rattle.gds_tree.specs.Below.{HasEntries}
use Rattle.gds_tree.specs.Lawful as entries
use Rattle.gds_file.specs.FileLaws.{IsLawful, StandsAt}
use Rattle.gds_file.specs.Reshape.{Reshapes}
use Rattle.gds_file.specs.Rewrite.{AreAllBusy, Rewrites}
use Rattle.gds_split.specs.Pieces.{AreInAnyOrder, GoInto, HasPieces, IsVisitBelow, Piece, numbers_of, pieces_above}
use Rattle.gds_ancestors.specs.Ancestors.{Ancestor, AreAncestors, outer_blocks, whole_with}
use Rattle.gds_splice.specs.Parted.{GoesOn, HasRoom, IsPackedAt, IsParted, IsRoot, LeafParts, MayPart, TakenAll}
use Rattle.gds_splice.specs.Parted.{TakesAll, TreeBecomes, WritesPieces, items_around, part_blocks}

-- Free blocks are taken from a lawful file.
abbrev pub AllAreTaken : Type 0
AllAreTaken =
    (before after numbers : List ℕ) → IsLawful before → TakesAll before after numbers → TakenAll before after numbers

-- The pieces of lawful entries that are written are there.
abbrev pub PiecesAreThere : Type 0
PiecesAreThere =
    (before after fresh : List ℕ) (v w : Visit) (level : ℕ) (low : Option (List ℕ)) (es : List Item)
    (pieces : List Piece) (key : List ℕ)
    → IsLawful before → IsVisitBelow v low key w → entries.IsLawful (fields_of before) w level es
    → GoInto (fields_of before).total es pieces → WritesPieces before after fresh level pieces
    → HasPieces after v level low pieces key

-- A level-0 block of the tree of a root may get other entries that are lawful at its visit.
abbrev pub LeafMayPart : Type 0
LeafMayPart =
    (file : List ℕ) (root v : Visit) (above : List Ancestor) (inner : Tree) (es : List Item)
    → IsRoot file root → IsLawful file → AreAncestors file root above v 0 → sound_tree file 0 v ≡ Some inner
    → StandsAt file root (whole_with above inner) → AreAllBusy file (whole_with above inner).blocks
    → entries.IsLawful (fields_of file) v 0 es → LeafParts file root above v es (whole_with above inner).blocks

-- A block stays one: it is written with the entries, and with them the tree of the root is sound.
abbrev pub StaysOne : Type 0
StaysOne =
    (before after : List ℕ) (root : Visit) (above : List Ancestor) (v : Visit) (level : ℕ) (es : List Item)
    (below : Tree)
    → MayPart before root above v level es below → Rewrites before after (v.block ∷ []) → HasEntries after v level es
    → TreeBecomes before after root (part_blocks above v below) (items_around above below.items)

-- The block has the entries where they are packed in it.
abbrev pub BlockIsThere : Type 0
BlockIsThere =
    (before after : List ℕ) (root : Visit) (above : List Ancestor) (v : Visit) (level : ℕ) (es : List Item)
    (below : Tree)
    → MayPart before root above v level es below → Rewrites before after (v.block ∷ [])
    → IsPackedAt after v.block level es → HasEntries after v level es

-- It goes into pieces, of which the first keeps its number and the others take free blocks.
abbrev pub GoesIntoPieces : Type 0
GoesIntoPieces =
    (before after : List ℕ) (root : Visit) (a : Ancestor) (above : List Ancestor) (v : Visit) (level : ℕ)
    (es : List Item) (below : Tree) (fresh : List ℕ) (pieces : List Piece)
    → MayPart before root (a ∷ above) v level es below → GoInto (fields_of before).total es pieces
    → numbers_of pieces ≡ v.block ∷ fresh → WritesPieces before after fresh level pieces
    → GoesOn before after root a above v level pieces below

-- What the index block above has to do then is to put the entries that lead to the pieces in the place of its one: with
-- these it may itself stay one block or go into pieces.
abbrev pub AncestorMayPart : Type 0
AncestorMayPart =
    (file : List ℕ) (root : Visit) (a : Ancestor) (above : List Ancestor) (child : Visit) (level : ℕ)
    (pieces : List Piece) (below : Tree) → (p : IsParted file root a above child level pieces below)
    → MayPart file root above a.visit (suc level) (a.front ++ pieces_above level pieces a.entry.key ++ a.back)
    (around a.left p.over.tree a.right)

-- What becomes of the tree by that has become of it.
abbrev pub AncestorBecomes : Type 0
AncestorBecomes =
    (before after : List ℕ) (root : Visit) (a : Ancestor) (above : List Ancestor) (child : Visit) (level : ℕ)
    (pieces : List Piece) (below : Tree) → (p : IsParted before root a above child level pieces below)
    → TreeBecomes before after root (part_blocks above a.visit (around a.left p.over.tree a.right))
    (items_around above (around a.left p.over.tree a.right).items)
    → TreeBecomes before after root (p.over.tree.blocks ++ outer_blocks (a ∷ above))
    (items_around (a ∷ above) below.items)

-- What becomes of a tree after a change of its blocks has become of it.
abbrev pub BecomesBehind : Type 0
BecomesBehind =
    (before mid after : List ℕ) (root : Visit) (first second : List ℕ) (items : List Item)
    → Reshapes before mid first second → TreeBecomes mid after root second items
    → TreeBecomes before after root first items

-- Only which old blocks there are counts, and not in which order.
abbrev pub BecomesInAnyOrder : Type 0
BecomesInAnyOrder =
    (before after : List ℕ) (root : Visit) (old others : List ℕ) (items : List Item) → AreInAnyOrder old others
    → TreeBecomes before after root old items → TreeBecomes before after root others items

-- A root goes into pieces, all of which take free blocks, and leads to them, one level higher.
abbrev pub RootIsRaised : Type 0
RootIsRaised =
    (before mid after : List ℕ) (root v : Visit) (level : ℕ) (es : List Item) (below : Tree) (pieces : List Piece)
    → MayPart before root [] v (suc level) es below → GoInto (fields_of before).total es pieces
    → WritesPieces before mid (numbers_of pieces) (suc level) pieces → Rewrites mid after (v.block ∷ [])
    → HasEntries after v (suc (suc level)) (pieces_above (suc level) pieces [])
    → TreeBecomes before after root (part_blocks [] v below) (items_around [] below.items)

-- It has them where they are packed in it, and is of level 7 at most.
abbrev pub RaisedRootIsThere : Type 0
RaisedRootIsThere =
    (before mid after : List ℕ) (root v : Visit) (level : ℕ) (es : List Item) (below : Tree) (pieces : List Piece)
    → MayPart before root [] v (suc level) es below → GoInto (fields_of before).total es pieces
    → WritesPieces before mid (numbers_of pieces) (suc level) pieces → Rewrites mid after (v.block ∷ [])
    → suc level < 7 → IsPackedAt after v.block (suc (suc level)) (pieces_above (suc level) pieces [])
    → HasEntries after v (suc (suc level)) (pieces_above (suc level) pieces [])

-- The entries that lead to at most three pieces have room in the place of the one, if the block goes into pieces.
abbrev pub PartedHasRoom : Type 0
PartedHasRoom =
    (file : List ℕ) (root : Visit) (a : Ancestor) (above : List Ancestor) (child : Visit) (level : ℕ)
    (pieces : List Piece) (below : Tree) → IsParted file root a above child level pieces below → length pieces ≤ 3
    → HasRoom (fields_of file) a (pieces_above level pieces a.entry.key)
