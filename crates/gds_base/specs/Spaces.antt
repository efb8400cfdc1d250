-- Blocks that are taken from the free ones and given back, and a file that gets more of them.
use Rattle.std.specs.Prelude.{◌≡◌, ◌≢◌, ◌*◌, ◌-◌, ◌≤◌, ◌<◌, ◌/◌, ◌%◌, ◌==◌, ℕ, Bool, true, false, not, List, IsTrue, min}
use Rattle.std.specs.Prelude.{filter, length}
use Rattle.gds_bitmap.specs.Bitmap.{is_free_at, IsFirstFree, Marks, NoneFree}
use Rattle.gds_bitmap.specs.declared.state.State.TheVariants.{Recycled}
use Rattle.gds_draft.specs.Draft.{DraftState}
use Rattle.gds_epoch.specs.Waiting.{WaitingUnit}
use Rattle.gds_header.specs.declared.header.Header.{Header}
use Rattle.gds_header.specs.Fields.{block_of}
use Rattle.gds_header.specs.Kinds.{groups_of, has_free}
use Rattle.gds_law.specs.Maps.{map_of}
use Rattle.gds_file.specs.FileLaws.{IsLawful}
use Rattle.gds_file.specs.Free.{Frees}
use Rattle.gds_file.specs.Maps.{is_busy}
use Rattle.gds_file.specs.Take.{Takes}
use Rattle.gds_file.specs.TakeLaws.{IsFree}

-- The free block of least number is taken, and the maps are lawful again.
pub record TakesLeast (before after : List ℕ) (n : ℕ) : Type 0 where
  pub free : IsFree before n
  pub least : (m : ℕ) → IsFree before m → n ≤ m
  pub takes : Takes before after n
  pub lawful : IsLawful after

-- A block that is no map is free, as one that was used, and no other block but its group's map is another. One that was
-- busy has become free, and lawful maps stay so.
pub record Recycles (before after : List ℕ) (n : ℕ) : Type 0 where
  pub pair : Marks (map_of before (n / 512)) (map_of after (n / 512)) (n % 512) Recycled
  pub others : (m : ℕ) → m ≢ 512 * (n / 512) → block_of after m ≡ block_of before m
  pub frees : IsTrue (is_busy before n) → Frees before after n
  pub lawful : IsLawful before → IsLawful after

-- The master map says of this group of the file that it has a free block, and of none before it.
pub record IsFirstGroup (h : Header) (group : ℕ) : Type 0 where
  pub within : group < groups_of h
  pub has : has_free h group ≡ true
  pub first : (g : ℕ) → g < group → has_free h g ≡ false

-- It says so of no group of the file.
abbrev pub NoGroup : Header → Type 0
NoGroup h = (g : ℕ) → g < groups_of h → has_free h g ≡ false

-- how many blocks of a group the file has
abbrev pub present_in : Header → ℕ → ℕ
present_in h group = min (h.total - 512 * group) 512

-- By the header and this map the free block of least number is in this group, in this place, which isn't the map's.
pub record IsFirstPlace (h : Header) (map : List ℕ) (group place : ℕ) : Type 0 where
  pub some : 0 < h.free
  pub group_is : IsFirstGroup h group
  pub within : place < present_in h group
  pub no_map : place ≢ 0
  pub free : IsFirstFree map place

-- Whether one of so many places of a map is free is this.
abbrev pub HasFreeBelow : List ℕ → ℕ → Bool → Type 0
HasFreeBelow map present true = (place : ℕ) × (place < present) × IsTrue (is_free_at map place)
HasFreeBelow map present false = NoneFree map present

-- A unit is that of a block that is no map: unit n + 1 is block n.
abbrev pub is_beside_maps : WaitingUnit → Bool
is_beside_maps w = not ((w.unit - 1) % 512 == 0)

-- how many blocks a draft has that are no maps
abbrev pub blocks_beside_maps : DraftState → ℕ
blocks_beside_maps draft = length (filter is_beside_maps draft.units)
