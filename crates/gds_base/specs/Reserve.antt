-- A file that gets more free blocks.
use Rattle.std.specs.Prelude.{◌≡◌, ◌≢◌, ◌⊎◌, ◌+◌, ◌*◌, ◌/◌, ◌<◌, ◌≤◌, ℕ, List, length, nat_lt, take, Option, Some}
use Rattle.std.specs.Prelude.{Result, Err}
use Rattle.host_model.specs.Failures.{Failures}
use Rattle.host_model.specs.Files.{Contents}
use Rattle.gds_block.specs.Block.{HasHead}
use Rattle.gds_bitmap.specs.declared.state.State.TheVariants.{New}
use Rattle.gds_bitmap.specs.Bitmap.{fresh_state, state_at}
use Rattle.gds_header.specs.declared.header.Header.{Header}
use Rattle.gds_header.specs.Kinds.{has_free}
use Rattle.gds_file.specs.FileLaws.{IsLawful}
use Rattle.gds_file.specs.Grow.{Grows}
use Rattle.gds_file.specs.Room.{grown_free, groups_in, new_maps}
use Rattle.gds_units.specs.Reading.{OnlyRead}
use Rattle.gds_units.specs.State.{UnitsState}
use Rattle.gds_draft.specs.Draft.{DraftState, block_in}
use Rattle.gds_base.specs.Ending.{EndsReading}
use Rattle.gds_base.specs.Spaces.{present_in}
use Rattle.gds_base.specs.declared.error.BaseError.{BaseError}
use Rattle.gds_base.specs.declared.error.BaseError.TheVariants.{Full}

-- The draft and the image with it are as they were, or the file has grown. The maps are lawful.
pub record Reserves (old new : DraftState) (before after : List ℕ) : Type 0 where
  pub grows : (new ≡ old) ⊎ Grows before after new.header.total
  pub lawful : IsLawful after

-- A call read the base alone, and of the draft's header no more than the total, the free count and the master map are
-- others. The draft has at most the maps of the new groups and one more block that it hadn't.
pub record OnlyGrows {H : Type 0} (told : H → Option Contents) (moment : H → ℕ) (counts : H → Failures)
    (left_since : H → ℕ → Contents → Type 0) (old new : UnitsState H) (before after : DraftState) : Type 0 where
  pub read : OnlyRead told moment counts left_since old new
  pub header : after.header
      ≡ record before.header { total = after.header.total; free = after.header.free; master = after.header.master }
  pub total : before.header.total ≤ after.header.total
  pub more : length after.units ≤ length before.units + (1 + new_maps before.header.total after.header.total)

-- A call that reads, and may also find the file full.
abbrev pub EndsReserving : Failures → Failures → Type 0 → Result (Unit {0}) BaseError → Type 0
EndsReserving before now changed (Err Full) = Unit {0}
EndsReserving before now changed result = EndsReading before now changed result

-- ---- its parts

-- The header of a file that has so many blocks now. In the master map the groups that got blocks have a free one where
-- they have any but their map.
pub record GrowsHeader (old new : Header) (total : ℕ) : Type 0 where
  pub fields : new ≡ record old { total = total; free = grown_free old total; master = new.master }
  pub before : (group : ℕ) → group < old.total / 512 → has_free new group ≡ has_free old group
  pub came : (group : ℕ) → old.total / 512 ≤ group → group < groups_in total
      → has_free new group ≡ nat_lt 1 (present_in new group)
  pub past : (group : ℕ) → groups_in total ≤ group → has_free new group ≡ has_free old group

-- Of a map the places from one on and below another are new. The others keep their states, and the head stays.
pub record GetsPlaces (old new : List ℕ) (from to : ℕ) : Type 0 where
  pub came : (k : ℕ) → from ≤ k → k < to → state_at new k ≡ New
  pub before : (k : ℕ) → k < from → state_at new k ≡ state_at old k
  pub past : (k : ℕ) → to ≤ k → state_at new k ≡ state_at old k
  pub head : take 16 new ≡ take 16 old
  pub len : length new ≡ length old

-- It is the map of a group that has so many blocks, all of them new.
pub record IsNewMap (map : List ℕ) (tn present : ℕ) : Type 0 where
  pub head : HasHead map 255 144 tn
  pub states : (k : ℕ) → k < 512 → state_at map k ≡ fresh_state present k

-- A draft has such a map for a group.
pub record HasNewMap (draft : DraftState) (tn group : ℕ) : Type 0 where
  pub map : List ℕ
  pub has : block_in draft (512 * group) ≡ Some map
  pub new : IsNewMap map tn (present_in draft.header group)

-- It has got one for each group from one on and below another, and else has what it had.
pub record GetsMaps (before after : DraftState) (tn from to : ℕ) : Type 0 where
  pub header : after.header ≡ before.header
  pub maps : (group : ℕ) → from ≤ group → group < to → HasNewMap after tn group
  pub others : (n : ℕ) → ((group : ℕ) → from ≤ group → group < to → n ≢ 512 * group)
      → block_in after n ≡ block_in before n
