-- What is found of the nodes of a database.
use Rattle.std.specs.Prelude.{◌≡◌, ℕ, Contains, List, [], ◌∷◌, ◌++◌, Option, None, Some}
use Rattle.std.specs.FinMap.{get}
use Rattle.m_key.specs.Globals.{Globals, Place}
use Rattle.gds_block.specs.Fields.{u32_at}
use Rattle.gds_block.specs.Item.{Item}
use Rattle.gds_sound.specs.Stands.{StandsFor}

-- The node has this value, or none, in each map that the image stands for.
abbrev pub HasValue : List ℕ → Place → Option (List ℕ) → Type 0
HasValue image p value = (m : Globals) → StandsFor image m → get m p ≡ value

-- the key of a global in the directory
abbrev pub name_key : List ℕ → List ℕ
name_key name = name ++ 0 ∷ 0 ∷ []

-- The item of this key names this root, or there is none and no item has the key.
abbrev pub IsRootOf : List Item → List ℕ → Option ℕ → Type 0
IsRootOf items key (Some root) =
    (rest : List ℕ) × Contains items (record { key = key; rest = rest }) × (u32_at rest 0 ≡ root)
IsRootOf items key None = (rest : List ℕ) → Contains items (record { key = key; rest = rest }) → ⊥
