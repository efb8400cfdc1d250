-- What a trail says of the items of the tree that it goes down in.
use Rattle.std.specs.Prelude.{◌≡◌, ◌+◌, ◌≤◌, ℕ, Bool, true, false, All, Contains, List, [], ◌∷◌, ◌++◌}
use Rattle.std.specs.Prelude.{Option, None, Some, Result}
use Rattle.host_model.specs.Failures.{Failures}
use Rattle.host_model.specs.Files.{Contents}
use Rattle.gds_base.specs.Ending.{EndsReading}
use Rattle.gds_base.specs.declared.error.BaseError.{BaseError}
use Rattle.gds_block.specs.Item.{Item}
use Rattle.gds_units.specs.Reading.{OnlyRead}
use Rattle.gds_units.specs.State.{UnitsState}
use Rattle.m_key.specs.Key.{Below}

-- Where a key is found, the first of these items has it and the others are above it; else all are.
abbrev pub BeginsFound : Bool → List ℕ → List Item → Type 0
BeginsFound false key items = All (λ e. Below key e.key) items
BeginsFound true key [] = ⊥
BeginsFound true key (e ∷ items) = (e.key ≡ key) × All (λ e. Below key e.key) items

-- The items in two parts at a key: those before are below it, and it is found at the first of those behind or else all
-- of them are above it.
pub record PartsItems (items : List Item) (key : List ℕ) (found : Bool) : Type 0 where
  pub before : List Item
  pub behind : List Item
  pub parts : items ≡ before ++ behind
  pub below : All (λ e. Below e.key key) before
  pub begins : BeginsFound found key behind

-- This is the value that an item with the key has, or there is none and no item has the key.
abbrev pub IsValueOf : List Item → List ℕ → Option (List ℕ) → Type 0
IsValueOf items key (Some value) = Contains items (record { key = key; rest = value })
IsValueOf items key None = (value : List ℕ) → Contains items (record { key = key; rest = value }) → ⊥

-- Once what a call lent is given back the base was only read, by one call of the host at most, and the call ended as
-- one that reads: `Changed` has this cause.
pub record EndsGiving {H T : Type 0} (told : H → Option Contents) (moment : H → ℕ) (counts : H → Failures)
    (left_since : H → ℕ → Contents → Type 0) (old new : UnitsState H) (changed : Type 0) (result : Result T BaseError)
    : Type 0 where
  pub read : OnlyRead told moment counts left_since old new
  pub ends : EndsReading (counts old.host) (counts new.host) changed result
  pub calls : moment new.host ≤ moment old.host + 1
