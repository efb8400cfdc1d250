-- The state of a walk: the header, the bytes of its set of blocks, the count of its faults and the links that are still
-- to be followed.
use Rattle.std.specs.Prelude.{◌≡◌, ◌<◌, ◌≤◌, ◌+◌, ◌*◌, ◌/◌, ℕ, List, ◌∷◌, ◌++◌, length, Contains, Result, OnOk, OnErr}
use Rattle.gds_block.specs.Block.{level_of}
use Rattle.gds_header.specs.declared.header.Header.{Header}
use Rattle.gds_header.specs.Kinds.{IsWithinLimits}
use Rattle.gds_law.specs.declared.fault.Fault.{Fault}
use Rattle.gds_law.specs.Block.{faults_of_block, children_of}
use Rattle.gds_law.specs.Path.{Steps, AreKept, AreReached}
use Rattle.gds_law.specs.Rank.{rank}
use Rattle.gds_law.specs.Sink.{IsCut}
use Rattle.gds_law.specs.Tree.{tree_faults}
use Rattle.gds_law.specs.Visit.{Visit}
use Rattle.integ_walk.specs.BlockSet.{has_block, free_below}
use Rattle.integ_walk.specs.Link.{Link, path_to, links_of}
use Rattle.integ_walk.specs.Progress.{HasCome}

pub record State : Type 0 where
  pub header : Header
  pub used : List ℕ
  pub count : ℕ
  pub links : List Link

-- the state before a link is followed
abbrev pub with_link : Link → State → State
with_link link s = record s { links = link ∷ s.links }

-- the state behind the block of a visit, once its bytes were read
abbrev pub entered : State → Visit → Steps → List ℕ → State
entered s v path bytes = record {
  header = s.header;
  used = s.used;
  count = s.count + length (faults_of_block s.header path v bytes);
  links = links_of path v.block (level_of bytes) (children_of s.header v bytes) ++ s.links;
}

-- The link leads to a block of the file, by a path that leaves room for those below it.
pub record IsSound (h : Header) (link : Link) : Type 0 where
  pub within : link.child.visit.block < h.total
  pub short : length (path_to link) + rank link.child.visit ≤ 15

-- no less than a block's faults and children together, and what a walk may still find
abbrev pub most_of_block : Header → ℕ
most_of_block h = 9 + 23 * h.block_size

abbrev pub work_left : State → ℕ
work_left s = free_below s.used s.header.total * most_of_block s.header + length s.links

-- What holds of any file's bytes.
pub record IsState (s : State) : Type 0 where
  pub limits : IsWithinLimits s.header
  pub room : length s.used ≡ (s.header.total + 7) / 8
  pub sound : (link : Link) → Contains s.links link → IsSound s.header link
  pub few : s.count + work_left s ≤ s.header.total * most_of_block s.header

-- What holds of this file's: the list of faults had the old ones at the start and has the new ones now.
pub record IsOn (image : List ℕ) (kept reached : List Steps) (old new : List Fault) (s : State) : Type 0 where
  pub faults : List Fault
  pub listed : new ≡ old ++ faults
  pub counted : s.count ≡ length faults
  pub come : HasCome image kept reached faults (has_block s.used) s.links

-- A part of a walk of this file, from one state and list of faults to others. Where it is refused, some of the first of
-- all its faults were told since the start.
abbrev pub ComesOn : {T E : Type 0} → List ℕ → List Fault → State → List Fault → State → Result T E → Type 0
ComesOn image old s new t result =
    (kept reached : List Steps) (start : List Fault) → AreKept image kept → AreReached image kept reached
    → IsOn image kept reached start old s
    → OnOk result (IsOn image kept reached start new t)
    × OnErr result (IsCut start new (tree_faults image kept reached))

-- The same of the part with which a walk begins.
abbrev pub Begins : {T E : Type 0} → List ℕ → List Fault → List Fault → State → Result T E → Type 0
Begins image old new t result =
    (kept reached : List Steps) → AreKept image kept → AreReached image kept reached
    → OnOk result (IsOn image kept reached old new t) × OnErr result (IsCut old new (tree_faults image kept reached))
