-- What a block on the way of a key says: where the way goes on, or where it ends.
use Rattle.std.specs.Prelude.{◌≡◌, ◌<◌, ◌-◌, ◌++◌, ℕ, suc, Bool, List, Option, None, Some}
use Rattle.gds_block.specs.Block.{level_of}
use Rattle.gds_block.specs.Item.{Item}
use Rattle.gds_header.specs.Fields.{block_of}
use Rattle.gds_law.specs.Path.{Steps, child_at}
use Rattle.gds_law.specs.Visit.{Visit}
use Rattle.gds_search.specs.Child.{IsChild}
use Rattle.gds_search.specs.Place.{IsPlace}
use Rattle.gds_search.specs.declared.place.Place.{Place}
use Rattle.gds_tree.specs.Below.{HasEntries}
use Rattle.gds_tree.specs.RightBlock.{IsDueLevel}
use Rattle.gds_find.specs.Trail.{HasTreeFor, IsTrail}
use Rattle.gds_find.specs.declared.turning.Turn.{Turn}
use Rattle.gds_find.specs.declared.turning.Turn.TheVariants.{Down, Here}

-- how many blocks a way has at most from one on of which this level is due
abbrev pub most_blocks : Option ℕ → ℕ
most_blocks None = 8
most_blocks (Some level) = suc level

-- where in its block the record begins by which the way goes on, or at which it ends
abbrev pub offset_of : Turn → ℕ
offset_of (Down level offset block) = offset
offset_of (Here offset place) = offset

-- A way goes down from an index block of a level that may be due.
abbrev pub IsDueTurn : Option ℕ → Turn → Type 0
IsDueTurn due (Down level offset block) = (0 < level) × IsDueLevel due level
IsDueTurn due (Here offset place) = Unit {0}

-- It is what a block of a level with these entries says of a key: in an index block the child that the key leads to,
-- in a level-0 block the key's place.
abbrev pub IsTurn : ℕ → List Item → List ℕ → Turn → Type 0
IsTurn height es key (Down level offset block) =
    (level ≡ height) × (0 < height) × IsChild es key (record { offset = offset; block = block })
IsTurn height es key (Here offset place) = (height ≡ 0) × (offset ≡ place.offset) × IsPlace es key place

-- The way of a key goes on from the block of a visit, which has this level, by the record at this offset: to this
-- block, where a sound tree stands that is one level lower, and in whose bounds the key lies.
pub record LeadsDown (file : List ℕ) (v : Visit) (key : List ℕ) (level offset block : ℕ) : Type 0 where
  pub child : Visit
  pub leads : child_at file v offset ≡ Some child
  pub own_level : level_of (block_of file v.block) ≡ level
  pub next_level : suc (level_of (block_of file child.block)) ≡ level
  pub tree : HasTreeFor file child block (Some (level - 1)) key

-- The way of a key ends in the block of a visit, which has level 0, at this place.
pub record EndsHere (file : List ℕ) (v : Visit) (key : List ℕ) (offset : ℕ) (place : Place) : Type 0 where
  pub offset_is : offset ≡ place.offset
  pub entries : List Item
  pub has : HasEntries file v 0 entries
  pub place_is : IsPlace entries key place

-- It is what the block of a visit says of a key.
abbrev pub TurnsAt : List ℕ → Visit → List ℕ → Turn → Type 0
TurnsAt file v key (Down level offset block) = LeadsDown file v key level offset block
TurnsAt file v key (Here offset place) = EndsHere file v key offset place

-- The steps behind the old ones are the trail of a key from a visit on.
abbrev pub TrailsOn : List ℕ → Visit → List ℕ → Steps → Steps → Bool → Place → Type 0
TrailsOn file v key old new found place =
    (more : Steps) × (new ≡ old ++ more) × IsTrail file v key more found place
