-- A sound file stays sound where trees are changed into sound ones.
use Rattle.std.specs.Prelude.{◌≡◌, ℕ, ◌^◌, ◌<◌, nat_eq, List, [], ◌∷◌, ◌++◌, length, Some}
use Rattle.std.specs.List.{IsDistinct}
use Rattle.gds_block.specs.Item.{Item}
use Rattle.gds_header.specs.Fields.{fields_of}
use Rattle.gds_header.specs.Kinds.{header_faults}
use Rattle.gds_law.specs.Visit.{Visit, directory_root}
use Rattle.gds_sound.specs.Sound.{Tree, tree_at, root_of, IsSound}
use Rattle.gds_file.specs.Maps.{AreLawfulMaps}
use Rattle.gds_file.specs.Reshape.{Reshapes}
use Rattle.gds_file.specs.Stamp.{IsStamped}

-- Nothing is wrong with the header, and the maps are lawful.
pub record IsLawful (image : List ℕ) : Type 0 where
  pub header : header_faults image ≡ []
  pub maps : AreLawfulMaps image

-- A sound tree stands at a visit, and no block is in it twice.
pub record StandsAt (image : List ℕ) (root : Visit) (tree : Tree) : Type 0 where
  pub sound : tree_at image root ≡ Some tree
  pub distinct : IsDistinct nat_eq tree.blocks

-- No tree changes, as where the file grows.
abbrev pub NoTreeChanges : Type 0
NoTreeChanges =
    (before after : List ℕ) (directory : Tree) (globals : List Tree) → IsSound before directory globals
    → Reshapes before after [] [] → IsLawful after → IsSound after directory globals

-- The tree of one global changes.
abbrev pub GlobalChanges : Type 0
GlobalChanges =
    (before after : List ℕ) (directory : Tree) (left right : List Tree) (old new : Tree) (front back : List Item)
    (entry : Item)
    → IsSound before directory (left ++ old ∷ right)
    → directory.items ≡ front ++ entry ∷ back → length front ≡ length left
    → Reshapes before after old.blocks new.blocks → StandsAt after (root_of entry) new → IsLawful after
    → IsSound after directory (left ++ new ∷ right)

-- The directory's tree changes, and its entries stay.
abbrev pub DirectoryChanges : Type 0
DirectoryChanges =
    (before after : List ℕ) (old new : Tree) (globals : List Tree)
    → IsSound before old globals
    → Reshapes before after old.blocks new.blocks → StandsAt after directory_root new → new.items ≡ old.items
    → IsLawful after → IsSound after new globals

-- An entry comes into the directory, and a tree for its global.
abbrev pub EntryComes : Type 0
EntryComes =
    (before after : List ℕ) (old new tree : Tree) (left right : List Tree) (front back : List Item) (entry : Item)
    → IsSound before old (left ++ right)
    → old.items ≡ front ++ back → length front ≡ length left → new.items ≡ front ++ entry ∷ back
    → Reshapes before after old.blocks (new.blocks ++ tree.blocks)
    → tree_at after directory_root ≡ Some new → tree_at after (root_of entry) ≡ Some tree
    → IsDistinct nat_eq (new.blocks ++ tree.blocks)
    → IsLawful after → IsSound after new (left ++ tree ∷ right)

-- An entry goes, and its global's tree.
abbrev pub EntryGoes : Type 0
EntryGoes =
    (before after : List ℕ) (old new tree : Tree) (left right : List Tree) (front back : List Item) (entry : Item)
    → IsSound before old (left ++ tree ∷ right)
    → old.items ≡ front ++ entry ∷ back → length front ≡ length left → new.items ≡ front ++ back
    → Reshapes before after (old.blocks ++ tree.blocks) new.blocks → StandsAt after directory_root new
    → IsLawful after → IsSound after new (left ++ right)

-- The transaction numbers of a commit change no tree.
abbrev pub StampKeepsTrees : Type 0
StampKeepsTrees =
    (draft file : List ℕ) (directory : Tree) (globals : List Tree) → IsSound draft directory globals
    → IsStamped draft file → (fields_of draft).tn < 2 ^ 63 → IsSound file directory globals
