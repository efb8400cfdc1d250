-- How far the lines of a script were answered.
use Rattle.std.specs.Prelude.{◌≡◌, ℕ, ◌+◌, ◌≤◌, List, [], ◌∷◌, ◌++◌}
use Rattle.std.specs.Prelude.{Contains, length, take, Option, Some, Result, Ok, Err}
use Rattle.std.specs.Prelude.{MatchResult}
use Rattle.host_model.specs.Files.{Contents}
use Rattle.host_model.specs.Moments.{EachLeft, LeavesOnly}
use Rattle.m_key.specs.Globals.{Change, Globals, after_all}
use Rattle.gds_base.specs.Finds.{Finds}
use Rattle.gds_sound.specs.Stands.{StandsFor}
use Rattle.gds_units.specs.State.{UnitsState, image_of}
use Rattle.gds_script.specs.declared.answer.Answer.{Answer}
use Rattle.gds_script.specs.declared.answer.Answer.TheVariants.{Epoch}
use Rattle.gds_run.specs.declared.error.RunError.{RunError}
use Rattle.gds_run.specs.declared.error.RunError.TheVariants.{SayFault}
use Rattle.gds_script.specs.Answer.{answer_lines, answer_text}
use Rattle.gds_script.specs.Finding.{FindsOne}
use Rattle.gds_script.specs.Made.{AreMade, IsKept}
use Rattle.gds_script.specs.Said.{Accepts, IsAfterPrefix, with_change}
use Rattle.gds_script.specs.Script.{Runs, State, start_of}

-- What a run began with: the host, the image and the map that it stands for, what was said before, and the lines.
pub record Origin (H : Type 0) : Type 0 where
  pub host : H
  pub image : List ℕ
  pub map : Globals
  pub said : List ℕ
  pub script : List (List ℕ)

-- Lines that were answered: those whose answers were said, and those whose answers wait.
pub record Answered : Type 0 where
  pub told_lines : List (List ℕ)
  pub told : List Answer
  pub told_changes : List Change
  pub waiting_lines : List (List ℕ)
  pub waiting : List Answer
  pub waiting_changes : List Change

module _ {H : Type 0} (tells : H → Option Contents) (moment : H → ℕ) (left_since : H → ℕ → Contents → Type 0)
    (o : Origin H) where
  -- These lines of the script are left. Those before them were answered on an open database, by a run: some answers
  -- were said, and the others wait, as these bytes. So many changes were made, and a crash leaves the map after a
  -- prefix of them.
  pub record Progress (rest : List (List ℕ)) (base : UnitsState H) (waits : List ℕ) (changes : ℕ) : Type 0 where
    pub done : Answered
    pub script_is : o.script ≡ (done.told_lines ++ done.waiting_lines) ++ rest
    pub state : State
    pub runs : Runs (start_of o.image o.map) (done.told_lines ++ done.waiting_lines) (done.told ++ done.waiting) state
    pub told_made : AreMade done.told_lines done.told done.told_changes
    pub waiting_made : AreMade done.waiting_lines done.waiting done.waiting_changes
    pub map_is : state.map ≡ after_all o.map (done.told_changes ++ done.waiting_changes)
    pub count_is : state.changes ≡ length (done.told_changes ++ done.waiting_changes)
    -- what is there
    pub contents : Contents
    pub host_tells : tells base.host ≡ Some contents
    pub said_is : contents.said ≡ o.said ++ answer_lines done.told
    pub image_is : image_of base ≡ Some state.image
    pub stands : StandsFor state.image state.map
    pub waiting_is : waits ≡ answer_lines done.waiting
    pub changes_are : changes ≡ state.changes
    -- what a crash leaves
    pub each : EachLeft moment left_since base.host (FindsOne
        (IsKept o.map (done.told ++ done.waiting) (done.told_changes ++ done.waiting_changes)
        (length done.told_changes))
        (o.said ++ answer_lines done.told))
    pub only : LeavesOnly moment left_since o.host base.host (IsAfterPrefix o.script o.map o.said)

  -- Some first lines were answered by a run, of whose answers some first bytes were said. A crash leaves the map after
  -- a prefix of the changes.
  pub record IsCutShort (host : H) : Type 0 where
    pub lines : List (List ℕ)
    pub rest : List (List ℕ)
    pub script_is : o.script ≡ lines ++ rest
    pub answers : List Answer
    pub state : State
    pub runs : Runs (start_of o.image o.map) lines answers state
    pub contents : Contents
    pub host_tells : tells host ≡ Some contents
    pub n : ℕ
    pub said_is : contents.said ≡ o.said ++ take n (answer_lines answers)
    pub only : LeavesOnly moment left_since o.host host (IsAfterPrefix o.script o.map o.said)

  -- How answering a line ends: it is answered, or it stands before the lines that are left; or its answer or one before
  -- it could not be said.
  abbrev pub GoesOn : {T : Type 0} → List ℕ → List (List ℕ) → UnitsState H → List ℕ → ℕ → Result T RunError → Type 0
  GoesOn line rest base waits changes (Ok value) = Progress rest base waits changes
  GoesOn line rest base waits changes (Err SayFault) = IsCutShort base.host
  GoesOn line rest base waits changes (Err error) = Progress (line ∷ rest) base waits changes

  -- The same of all lines: where they end early, some are left.
  abbrev pub GoesThrough : {T : Type 0} → List (List ℕ) → UnitsState H → List ℕ → ℕ → Result T RunError → Type 0
  GoesThrough rest base waits changes (Ok value) = Progress rest base waits changes
  GoesThrough rest base waits changes (Err SayFault) = IsCutShort base.host
  GoesThrough rest base waits changes (Err error) = (left : List (List ℕ)) × Progress left base waits changes

  -- How asking for the next line ends: nothing changes, but that what waits may be said.
  abbrev pub Asked : {T : Type 0} → List (List ℕ) → UnitsState H → List ℕ → ℕ → Result T RunError → Type 0
  Asked rest base waits changes (Err SayFault) = IsCutShort base.host
  Asked rest base waits changes result = Progress rest base waits changes

  -- How saying what waits ends.
  abbrev pub Says : {T : Type 0} → List (List ℕ) → UnitsState H → List ℕ → ℕ → Result T RunError → Type 0
  Says rest base waits changes result =
      MatchResult result (λ _. Progress rest base waits changes) (λ _. IsCutShort base.host)

  -- All lines were answered and all answers said. The database file is the last image, of which the next opening finds
  -- the map.
  pub record IsWhole (host : H) : Type 0 where
    pub answers : List Answer
    pub state : State
    pub runs : Runs (start_of o.image o.map) o.script answers state
    pub contents : Contents
    pub host_tells : tells host ≡ Some contents
    pub said_is : contents.said ≡ o.said ++ answer_lines answers
    pub file_is : contents.db ≡ state.image
    pub stands : StandsFor state.image state.map
    pub only : LeavesOnly moment left_since o.host host (IsAfterPrefix o.script o.map o.said)
    pub each : EachLeft moment left_since host (Finds state.map contents.said)

  -- How a run ends: it is whole, or it was cut short.
  abbrev pub Ends : {T : Type 0} → H → Result T RunError → Type 0
  Ends host result = MatchResult result (λ _. IsWhole host) (λ _. IsCutShort host)
