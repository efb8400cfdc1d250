-- A block whose entries go into several blocks, and the entries above that lead to them.
use Rattle.std.specs.Prelude.{◌≡◌, ◌≢◌, ℕ, zero, suc, ◌^◌, ◌<◌, ◌≤◌, ◌==◌, List, [], ◌∷◌, ◌++◌, map, flat_map, All}
use Rattle.std.specs.Prelude.{Option, Some}
use Rattle.std.specs.List.{count_by}
use Rattle.gds_block.specs.Fields.{u32_bytes}
use Rattle.gds_block.specs.Item.{Item}
use Rattle.gds_header.specs.Fields.{fields_of, block_of}
use Rattle.gds_header.specs.declared.header.Header.{Header}
use Rattle.gds_law.specs.Visit.{Visit}
use Rattle.gds_pack.specs.Packed.{packed_size, block_bytes, key_behind, first_key}
use Rattle.gds_sound.specs.Sound.{Tree, sound_tree}
use Rattle.gds_tree.specs.Below.{as_star, high_below, visit_below, trees_below, HasEntries, index_tree}
use Rattle.gds_tree.specs.Lawful.{IsTreeNumber, IsLawful}

-- One of the blocks that the entries of another go into: its number, and the entries that it takes.
pub record Piece : Type 0 where
  pub number : ℕ
  pub entries : List Item

-- the entries of pieces one after another, and the numbers of their blocks
abbrev pub entries_in : List Piece → List Item
entries_in pieces = flat_map (λ p. p.entries) pieces

abbrev pub numbers_of : List Piece → List ℕ
numbers_of pieces = map (λ p. p.number) pieces

-- The entries of a block go into one piece or more, each of which takes some of them and has a number that a tree may
-- have in a file with so many blocks.
pub record GoInto (total : ℕ) (entries : List Item) (pieces : List Piece) : Type 0 where
  pub whole : entries_in pieces ≡ entries
  pub any : pieces ≢ []
  pub some : All (λ p. p.entries ≢ []) pieces
  pub numbered : All (λ p. IsTreeNumber total p.number) pieces

-- the key that parts entries of a block from those behind them: at level 0 the first key behind, and above it the last
-- key before
abbrev pub parting_key : ℕ → List Item → List Item → List ℕ
parting_key zero front behind = first_key behind
parting_key (suc level) front behind = key_behind [] front

-- entries of which the last is the star
abbrev pub starred : List Item → List Item
starred [] = []
starred (e ∷ []) = as_star e ∷ []
starred (e ∷ f ∷ es) = e ∷ starred (f ∷ es)

-- the entries of a piece as they stand in its block: above level 0 the last of them is the star there
abbrev pub own_entries : ℕ → List Item → List Item
own_entries zero entries = entries
own_entries (suc level) entries = starred entries

-- the entry with a key that leads to a block
abbrev pub entry_to : ℕ → List ℕ → Item
entry_to number key = record { key = key; rest = u32_bytes number }

-- the key above a piece: the one that parts it from the pieces behind it, and for the last one the key of the entry
-- that led to the whole, which is empty where that was the star
abbrev pub key_above : ℕ → Piece → List Piece → List ℕ → List ℕ
key_above level p [] key = key
key_above level p (q ∷ pieces) key = parting_key level p.entries (entries_in (q ∷ pieces))

-- the entries of the block above that lead to pieces of this level
abbrev pub pieces_above : ℕ → List Piece → List ℕ → List Item
pieces_above level [] key = []
pieces_above level (p ∷ pieces) key =
    entry_to p.number (key_above level p pieces key) ∷ pieces_above level pieces key

-- A visit has the role of another one and the bounds of what stands below an entry with this key there, behind this
-- lower bound.
pub record IsVisitBelow (v : Visit) (low : Option (List ℕ)) (key : List ℕ) (w : Visit) : Type 0 where
  pub same_role : w.role ≡ v.role
  pub lower : w.low ≡ low
  pub upper : w.high ≡ high_below v.high key

-- This holds of each piece, at the visit to which the entry above leads and with the entries that stand there.
abbrev pub EachPiece : (Visit → List Item → Type 0) → Visit → ℕ → Option (List ℕ) → List Piece → List ℕ → Type 0
EachPiece P v level low [] key = Unit {0}
EachPiece P v level low (p ∷ pieces) key =
    P (visit_below v level low (entry_to p.number (key_above level p pieces key))) (own_entries level p.entries)
    × EachPiece P v level (Some (key_above level p pieces key)) pieces key

-- The entries of the pieces are lawful in their blocks.
abbrev pub AreLawfulPieces : Header → Visit → ℕ → Option (List ℕ) → List Piece → List ℕ → Type 0
AreLawfulPieces h v level low pieces key = EachPiece (λ w es. IsLawful h w level es) v level low pieces key

-- The blocks of the pieces are there, with their entries.
abbrev pub HasPieces : List ℕ → Visit → ℕ → Option (List ℕ) → List Piece → List ℕ → Type 0
HasPieces image v level low pieces key = EachPiece (λ w es. HasEntries image w level es) v level low pieces key

-- A piece is packed into its block: its entries fit, and the block's transaction number is below the header's.
pub record IsWritten (image : List ℕ) (level : ℕ) (p : Piece) : Type 0 where
  pub tn : ℕ
  pub bytes : block_of image p.number
      ≡ block_bytes (own_entries level p.entries) level tn (fields_of image).block_size
  pub fits : packed_size (own_entries level p.entries) ≤ (fields_of image).block_size
  pub before : tn < (fields_of image).tn
  pub small : tn < 2 ^ 64

-- Two lists have each number equally often.
abbrev pub AreInAnyOrder : List ℕ → List ℕ → Type 0
AreInAnyOrder a b = (n : ℕ) → count_by (λ m. m == n) a ≡ count_by (λ m. m == n) b

-- Sound trees stand below the entries that lead to the pieces: with the items that stood below the whole, and with the
-- blocks of the pieces beside those that stood below it.
pub record HasPieceTrees (image : List ℕ) (v : Visit) (level : ℕ) (low : Option (List ℕ)) (pieces : List Piece)
    (key : List ℕ) (below : Tree) : Type 0 where
  pub tree : Tree
  pub sound : trees_below image v level low (pieces_above level pieces key) ≡ Some tree
  pub items : tree.items ≡ below.items
  pub blocks : AreInAnyOrder tree.blocks (numbers_of pieces ++ below.blocks)

-- A root of a level gets one level higher: its entries lead to the pieces now, and its tree is sound.
pub record IsRaised (image : List ℕ) (v : Visit) (level : ℕ) (pieces : List Piece) (below : Tree) : Type 0 where
  pub over : HasPieceTrees image v level v.low pieces [] below
  pub raised : sound_tree image (suc level) v ≡ Some (index_tree v over.tree)
