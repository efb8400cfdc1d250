-- A SET and a KILL, said of the items of a file's globals.
use Rattle.std.specs.Prelude.{◌≡◌, ℕ, ◌<◌, List, [], ◌∷◌, ◌++◌, length, All}
use Rattle.m_key.specs.Globals.{Globals, Place, set_value, kill, after}
use Rattle.m_key.specs.KeyParts.{name_part}
use Rattle.gds_block.specs.Item.{Item}
use Rattle.gds_sound.specs.Stands.{StandsFor}
use Rattle.gds_sound.specs.Sound.{Tree, IsSound}
use Rattle.gds_file.specs.Change.{items_in, item_at, SetsItem, items_outside}

-- Where one item is set, the file stands for the map after a SET of its node.
abbrev pub SetItemIsSet : Type 0
SetItemIsSet =
    (old new : List ℕ) (directory directory' : Tree) (globals globals' : List Tree) (m : Globals) (p : Place)
    (value : List ℕ)
    → IsSound old directory globals → StandsFor old m → IsSound new directory' globals' → All (λ b. b < 256) new
    → SetsItem (items_in globals) (items_in globals') (item_at p.node value)
    → StandsFor new (after m (set_value p value))

-- Where the items of a node and of its descendants go, it stands for the map after a KILL of the node.
abbrev pub ItemsOutsideAreKill : Type 0
ItemsOutsideAreKill =
    (old new : List ℕ) (directory directory' : Tree) (globals globals' : List Tree) (m : Globals) (p : Place)
    → IsSound old directory globals → StandsFor old m → IsSound new directory' globals'
    → items_in globals' ≡ items_outside p.node (items_in globals)
    → StandsFor new (after m (kill p))

-- An item that is set in the tree of one global is set among the items of all.
abbrev pub SetInOneTree : Type 0
SetInOneTree =
    (left right : List Tree) (old new : Tree) (item : Item) → SetsItem old.items new.items item
    → SetsItem (items_in (left ++ old ∷ right)) (items_in (left ++ new ∷ right)) item

-- So is the one item of a tree that comes.
abbrev pub SetInNewTree : Type 0
SetInNewTree =
    (left right : List Tree) (tree : Tree) (item : Item) → tree.items ≡ item ∷ []
    → SetsItem (items_in (left ++ right)) (items_in (left ++ tree ∷ right)) item

-- A KILL takes items of the tree of its node's global alone.
abbrev pub KillInOneTree : Type 0
KillInOneTree =
    (image : List ℕ) (directory old new : Tree) (left right : List Tree) (front back : List Item) (entry : Item)
    (p : Place)
    → IsSound image directory (left ++ old ∷ right) → All (λ b. b < 256) image
    → directory.items ≡ front ++ entry ∷ back → length front ≡ length left → name_part entry.key ≡ p.node.name
    → new.items ≡ items_outside p.node old.items
    → items_in (left ++ new ∷ right) ≡ items_outside p.node (items_in (left ++ old ∷ right))

-- Where it takes all of them, the tree goes.
abbrev pub KillOfOneTree : Type 0
KillOfOneTree =
    (image : List ℕ) (directory tree : Tree) (left right : List Tree) (front back : List Item) (entry : Item)
    (p : Place)
    → IsSound image directory (left ++ tree ∷ right) → All (λ b. b < 256) image
    → directory.items ≡ front ++ entry ∷ back → length front ≡ length left → name_part entry.key ≡ p.node.name
    → items_outside p.node tree.items ≡ []
    → items_in (left ++ right) ≡ items_outside p.node (items_in (left ++ tree ∷ right))
