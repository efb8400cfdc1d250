-- The shape that reorganising gives a file without faults.
use Rattle.std.specs.Prelude.{◌≡◌, ◌≢◌, ◌⊎◌, ℕ, ◌+◌, ◌-◌, ◌*◌, ◌/◌, ◌%◌, ◌==◌, ◌<◌, ◌≤◌, Bool, ◌&&◌, not, min, max}
use Rattle.std.specs.Prelude.{List, [], ◌∷◌, ◌++◌, length, take, drop, map, filter, fold, Option, None, Some, unwrap_or}
use Rattle.std.specs.Prelude.{if◌then◌else◌}
use Rattle.std.specs.List.{AllByRecursion, filter_map, range_with_len}
use Rattle.gds_block.specs.Block.{level_of}
use Rattle.gds_header.specs.Fields.{fields_of, block_of}
use Rattle.gds_block.specs.Item.{Item}
use Rattle.gds_pack.specs.Packed.{packed_size}
use Rattle.gds_pack.specs.Unpacked.{entries_of}
use Rattle.gds_law.specs.Visit.{Visit, Child}
use Rattle.gds_law.specs.Path.{Steps, visit_at, children_at, AreKept}

-- where the kept paths lead, in reading order, and the level of a block
abbrev pub visits_of : List ℕ → List Steps → List Visit
visits_of image kept = filter_map (visit_at image) kept

abbrev pub level_at : List ℕ → Visit → ℕ
level_at image v = level_of (block_of image v.block)

-- the items of a block, the star's with the empty key
abbrev pub packed_at : List ℕ → Visit → List Item
packed_at image v = unwrap_or (entries_of (block_of image v.block)) []

-- what a fill factor lets a level-0 block have
abbrev pub filled : List ℕ → ℕ → ℕ
filled image fill = (fields_of image).block_size * fill / 100

-- neighbours under one parent
abbrev pub neighbours : List Child → List (Visit × Visit)
neighbours [] = []
neighbours (c ∷ []) = []
neighbours (c ∷ d ∷ cs) = (c.visit, d.visit) ∷ neighbours (d ∷ cs)

-- what two blocks need together: of two index blocks the left one's star takes the key that parts them
abbrev pub leaves_together : List ℕ → Visit × Visit → ℕ
leaves_together image (a, b) = packed_size (packed_at image a ++ packed_at image b)

abbrev pub with_last_key : List ℕ → List Item → List Item
with_last_key key items =
    take (length items - 1) items
    ++ map (λ star. record { key = key; rest = star.rest }) (drop (length items - 1) items)

abbrev pub indexes_together : List ℕ → Visit × Visit → ℕ
indexes_together image (a, b) =
    packed_size (with_last_key (unwrap_or a.high []) (packed_at image a) ++ packed_at image b)

-- Two neighbouring level-0 blocks need more than the fill factor lets one have, and two index blocks more than a block.
abbrev pub HasFullLeaves : List ℕ → ℕ → Visit → Type 0
HasFullLeaves image fill v =
    level_at image v ≡ 1
    → AllByRecursion (λ pair. filled image fill < leaves_together image pair) (neighbours (children_at image v))

abbrev pub HasFullIndexes : List ℕ → Visit → Type 0
HasFullIndexes image v =
    2 ≤ level_at image v
    → AllByRecursion (λ pair. (fields_of image).block_size < indexes_together image pair)
    (neighbours (children_at image v))

-- A level-0 block needs no more than the fill factor lets it have, or has one record.
abbrev pub IsNotOverfull : List ℕ → ℕ → Visit → Type 0
IsNotOverfull image fill v =
    level_at image v ≡ 0 → (packed_size (packed_at image v) ≤ filled image fill) ⊎ (length (packed_at image v) ≡ 1)

-- A root above level 1 has more than its star record.
abbrev pub IsNotAlone : List ℕ → Visit → Type 0
IsNotAlone image v = v.level ≡ None → 2 ≤ level_at image v → length (packed_at image v) ≢ 1

-- the k-th number above 0 that is no multiple of 512, k from 1 on
abbrev pub number_of : ℕ → ℕ
number_of k = k + (k - 1) / 511

-- The k-th kept block has the k-th such number. Else this is the first place at which it hasn't, counted from 1.
abbrev pub misplaced_from : ℕ → List ℕ → Option ℕ
misplaced_from k [] = None
misplaced_from k (block ∷ blocks) = if block == number_of k then misplaced_from (k + 1) blocks else Some k

abbrev pub misplaced : List Visit → Option ℕ
misplaced visits = misplaced_from 1 (map (λ v. v.block) visits)

-- no block is overfull
abbrev pub AreSplit : List ℕ → ℕ → List Visit → Type 0
AreSplit image fill visits = AllByRecursion (IsNotOverfull image fill) visits

-- no two neighbours could be one, and no root could be its child
pub record AreJoined (image : List ℕ) (fill : ℕ) (visits : List Visit) : Type 0 where
  pub leaves : AllByRecursion (HasFullLeaves image fill) visits
  pub indexes : AllByRecursion (HasFullIndexes image) visits
  pub roots : AllByRecursion (IsNotAlone image) visits

-- The file is tidy for a fill factor: there is nothing left to split, to join or to place.
pub record IsTidy (image : List ℕ) (fill : ℕ) : Type 0 where
  pub kept : List Steps
  pub are_kept : AreKept image kept
  pub split : AreSplit image fill (visits_of image kept)
  pub joined : AreJoined image fill (visits_of image kept)
  pub placed : misplaced (visits_of image kept) ≡ None
