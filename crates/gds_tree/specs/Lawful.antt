-- Which entries a block may have at a visit.
use Rattle.std.specs.Prelude.{◌≡◌, ◌≢◌, ℕ, zero, suc, ◌<◌, ◌≤◌, ◌%◌, List, [], length, All, Option, None, Some}
use Rattle.gds_block.specs.Fields.{u32_at}
use Rattle.gds_block.specs.Item.{Item}
use Rattle.gds_header.specs.declared.header.Header.{Header}
use Rattle.m_key.specs.Key.{AtMost, Below}
use Rattle.m_key.specs.KeyParts.{name_part, subscript_parts}
use Rattle.gds_law.specs.Key.{key_fault}
use Rattle.gds_law.specs.Visit.{TreeRole, directory, global, Visit}
use Rattle.gds_pack.specs.Packable.{ArePackable}

-- The number of a block that a tree may have in a file with so many blocks: it is above 0 and below them, and no map's.
pub record IsTreeNumber (total n : ℕ) : Type 0 where
  pub positive : 0 < n
  pub within : n < total
  pub no_map : n % 512 ≢ 0

-- The rest of an entry is a pointer to such a block.
pub record IsPointer (h : Header) (rest : List ℕ) : Type 0 where
  pub size : length rest ≡ 4
  pub leads : IsTreeNumber h.total (u32_at rest 0)

-- A rest is a value in a level-0 block of a global, and a pointer in the directory and in index blocks.
abbrev pub IsLawfulRest : Header → TreeRole → ℕ → List ℕ → Type 0
IsLawfulRest h (global name) zero rest = length rest ≤ h.value_max
IsLawfulRest h role level rest = IsPointer h rest

-- The key has no subscript in the directory, and its name in a global.
abbrev pub IsOfRole : TreeRole → List ℕ → Type 0
IsOfRole directory key = subscript_parts key ≡ []
IsOfRole (global name) key = name_part key ≡ name

-- A key isn't below its block's lower bound, and above level 0 it isn't equal to it.
abbrev pub IsAboveLow : ℕ → Option (List ℕ) → List ℕ → Type 0
IsAboveLow level None key = Unit {0}
IsAboveLow zero (Some low) key = AtMost low key
IsAboveLow (suc level) (Some low) key = Below low key

-- It is below the upper one.
abbrev pub IsBelowHigh : Option (List ℕ) → List ℕ → Type 0
IsBelowHigh None key = Unit {0}
IsBelowHigh (Some high) key = Below key high

-- A key that an entry of a block of this level may have at a visit: of at most so many bytes as the header allows, with
-- a right name and right subscripts, of the tree's role, and within the bounds.
pub record IsLawfulKey (h : Header) (v : Visit) (level : ℕ) (key : List ℕ) : Type 0 where
  pub short : length key ≤ h.key_max
  pub right : key_fault key ≡ None
  pub role : IsOfRole v.role key
  pub above : IsAboveLow level v.low key
  pub below : IsBelowHigh v.high key

-- An entry that a block of this level may have: its key is lawful, unless it is the star, which has none, and so is its
-- rest.
pub record IsLawfulEntry (h : Header) (v : Visit) (level : ℕ) (e : Item) : Type 0 where
  pub key : e.key ≢ [] → IsLawfulKey h v level e.key
  pub rest : IsLawfulRest h v.role level e.rest

-- Where a block may be without entries: at level 0, in the directory, without bounds.
pub record MayBeEmpty (v : Visit) (level : ℕ) : Type 0 where
  pub leaf : level ≡ 0
  pub role : v.role ≡ directory
  pub low : v.low ≡ None
  pub high : v.high ≡ None

-- The entries that a block of this level may have at a visit: their keys are whole and rise, above level 0 the last is
-- the star and no other is, each entry is lawful, and there are some but where there may be none.
pub record IsLawful (h : Header) (v : Visit) (level : ℕ) (entries : List Item) : Type 0 where
  pub packable : ArePackable level entries
  pub each : All (IsLawfulEntry h v level) entries
  pub none : entries ≡ [] → MayBeEmpty v level
