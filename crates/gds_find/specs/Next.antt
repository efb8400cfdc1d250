-- The first item of a tree from a bound on.
use Rattle.std.specs.Prelude.{◌≡◌, ℕ, Bool, true, false, All, List, ◌∷◌, ◌++◌, Option, Some}
use Rattle.std.specs.declared.ops.Bound.{Bound}
use Rattle.std.specs.declared.ops.Bound.TheVariants.{Included, Excluded, Unbounded}
use Rattle.gds_block.specs.Item.{Item}
use Rattle.gds_law.specs.Visit.{Visit}
use Rattle.gds_sound.specs.Sound.{Tree, tree_at}
use Rattle.m_key.specs.Key.{AtMost, Below}
use Rattle.m_key.specs.KeyEnd.{IsKey}
use Rattle.gds_find.specs.Trail.{HoldsKey}

-- The key is one of those from a bound on, or it stands before them.
abbrev pub IsFrom : Bound (List ℕ) → List ℕ → Type 0
IsFrom (Included least) key = AtMost least key
IsFrom (Excluded below) key = Below below key
IsFrom Unbounded key = Unit {0}

abbrev pub IsBefore : Bound (List ℕ) → List ℕ → Type 0
IsBefore (Included least) key = Below key least
IsBefore (Excluded below) key = AtMost key below
IsBefore Unbounded key = ⊥

-- It is the first of these items whose key is one of those from a bound on.
pub record IsFirstFor (items : List Item) (from : Bound (List ℕ)) (e : Item) : Type 0 where
  pub before : List Item
  pub behind : List Item
  pub parts : items ≡ before ++ e ∷ behind
  pub passed : All (λ i. IsBefore from i.key) before
  pub from_there : IsFrom from e.key

-- The first of these items from a bound on is this one, where one was found, and else all stand before the bound.
abbrev pub IsFirstFrom : List Item → Bound (List ℕ) → Bool → Item → Type 0
IsFirstFrom items from true e = IsFirstFor items from e
IsFirstFrom items from false e = All (λ i. IsBefore from i.key) items

-- The key of a bound is whole and lies in the bounds of a visit.
pub record IsKeyWithin (v : Visit) (key : List ℕ) : Type 0 where
  pub is_key : IsKey key
  pub holds : HoldsKey v key

-- So does that of a bound, where it has one.
abbrev pub IsBoundWithin : Visit → Bound (List ℕ) → Type 0
IsBoundWithin v (Included least) = IsKeyWithin v least
IsBoundWithin v (Excluded below) = IsKeyWithin v below
IsBoundWithin v Unbounded = Unit {0}

-- A sound tree stands at a visit, whose block and due level these are, and the key of the bound, where it has one, is
-- whole and lies in the visit's bounds.
pub record HasTreeFrom (file : List ℕ) (v : Visit) (block : ℕ) (due : Option ℕ) (from : Bound (List ℕ)) : Type 0 where
  pub block_is : v.block ≡ block
  pub level_is : v.level ≡ due
  pub tree : Tree
  pub sound : tree_at file v ≡ Some tree
  pub within : IsBoundWithin v from
