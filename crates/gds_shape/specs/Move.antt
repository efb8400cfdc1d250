-- One move of reorganising, said of the file before and after it.
use Rattle.std.specs.Prelude.{◌≡◌, ◌⊎◌, ℕ, ◌+◌, ◌-◌, ◌*◌, ◌%◌, ◌==◌, ◌<◌, ◌≤◌, Bool, not, IsTrue, List, [], length}
use Rattle.std.specs.Prelude.{take, filter, None, Some, IfSome, bytes_eq, Contains, if◌then◌else◌}
use Rattle.std.specs.List.{list_any, range_with_len}
use Rattle.m_key.specs.Node.{Node}
use Rattle.m_key.specs.Key.{key_bytes}
use Rattle.m_key.specs.Globals.{Globals}
use Rattle.gds_block.specs.Block.{used_of}
use Rattle.gds_header.specs.Fields.{fields_of, block_of}
use Rattle.gds_law.specs.Visit.{Visit, TreeRole, directory, global}
use Rattle.gds_law.specs.Record.{is_below}
use Rattle.gds_law.specs.Path.{Steps, visit_at, AreKept}
use Rattle.gds_sound.specs.Stands.{StandsFor}
use Rattle.gds_shape.specs.Shape.{visits_of, level_at, AreSplit, AreJoined, misplaced}

-- how many level-0 blocks there are
abbrev pub leaf_count : List ℕ → List Visit → ℕ
leaf_count image visits = length (filter (λ v. level_at image v == 0) visits)

-- A split: some level-0 block is overfull, and then there is one more of them.
pub record Splits (old new : List ℕ) (fill : ℕ) (before after : List Visit) : Type 0 where
  pub due : AreSplit old fill before → ⊥
  pub one_more : leaf_count new after ≡ leaf_count old before + 1

-- A join: no block is overfull before and after, something could be joined, and there is one block less.
pub record Joins (old new : List ℕ) (fill : ℕ) (before after : List Visit) : Type 0 where
  pub split_before : AreSplit old fill before
  pub split_after : AreSplit new fill after
  pub due : AreJoined old fill before → ⊥
  pub one_less : length after + 1 ≡ length before

-- A place: nothing is left to split or to join before and after, and all blocks stand in their places afterwards or the
-- first that doesn't comes later.
pub record Places (old new : List ℕ) (fill : ℕ) (before after : List Visit) : Type 0 where
  pub split_before : AreSplit old fill before
  pub split_after : AreSplit new fill after
  pub joined_before : AreJoined old fill before
  pub joined_after : AreJoined new fill after
  pub first : ℕ
  pub due : misplaced before ≡ Some first
  pub later : IfSome (misplaced after) (λ next. first < next)

-- a unit of a file: its header, or one of its blocks
abbrev pub is_changed : List ℕ → List ℕ → ℕ → Bool
is_changed old new n = not (bytes_eq (block_of old n) (block_of new n))

abbrev pub changed_units : List ℕ → List ℕ → ℕ
changed_units old new =
    (if bytes_eq (take 8192 old) (take 8192 new) then 0 else 1)
    + length (filter (is_changed old new) (range_with_len 0 (fields_of old).total))

-- One move: both files have no fault and stand for one map, the transaction number is one more, the file may have
-- grown, all
-- other fields of the header but the free count and the master map stay, and one thing was mended. Where the total
-- stays at most 64 units differ.
pub record IsMove (old new : List ℕ) (fill : ℕ) : Type 0 where
  pub map : Globals
  pub stands_before : StandsFor old map
  pub stands_after : StandsFor new map
  pub tn : (fields_of new).tn ≡ (fields_of old).tn + 1
  pub grown : (fields_of old).total ≤ (fields_of new).total
  pub others : fields_of new ≡ record (fields_of old) {
    total = (fields_of new).total;
    tn = (fields_of new).tn;
    free = (fields_of new).free;
    master = (fields_of new).master;
  }
  pub mends :
      let before = visits_of old stands_before.kept in
      let after = visits_of new stands_after.kept in
      Splits old new fill before after ⊎ (Joins old new fill before after ⊎ Places old new fill before after)
  pub few : (fields_of new).total ≡ (fields_of old).total → changed_units old new ≤ 64
