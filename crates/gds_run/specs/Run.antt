-- What a run says, what it leaves of the files, and what a crash leaves on the way.
use Rattle.std.specs.Prelude.{◌≡◌, ◌⊎◌, ℕ, IsSomeAnd, List, [], ◌++◌, take, Option, Some}
use Rattle.std.specs.Option.{ForSome}
use Rattle.host_model.specs.Files.{Contents}
use Rattle.host_model.specs.Told.{TellsOn}
use Rattle.m_key.specs.Globals.{Globals}
use Rattle.gds_base.specs.Finds.{Finds}
use Rattle.gds_images.specs.Recovered.{recovered}
use Rattle.gds_recovery.specs.Found.{FindsSame, LeavesSinceBarrier}
use Rattle.gds_sound.specs.Stands.{StandsFor}
use Rattle.gds_script.specs.declared.answer.Answer.{Answer}
use Rattle.gds_script.specs.Answer.{answer_lines}
use Rattle.gds_script.specs.Said.{IsAfterPrefix}
use Rattle.gds_script.specs.Script.{Runs, State, script_of, start_of}

-- An opening finds this image of the files, which stands for this map.
pub record Opens (c : Contents) (image : List ℕ) (m : Globals) : Type 0 where
  pub recovers : recovered c.db c.images ≡ Some image
  pub stands : StandsFor image m

-- It finds none that stands for a map.
abbrev pub FindsNoMap : Contents → Type 0
FindsNoMap c = (image : List ℕ) (m : Globals) → Opens c image m → ⊥

-- All lines of the input were answered, and what was said are the answers. The database file is the last image, and the
-- next opening finds the map for which that stands.
pub record IsRun (input : List ℕ) (before now : Contents) : Type 0 where
  pub image : List ℕ
  pub map : Globals
  pub opens : Opens before image map
  pub answers : List Answer
  pub state : State
  pub runs : Runs (start_of image map) (script_of input) answers state
  pub said : now.said ≡ before.said ++ answer_lines answers
  pub file : now.db ≡ state.image
  pub stands : StandsFor state.image state.map
  pub finds : Finds state.map now.said now

-- Some first lines were answered, and some first bytes of the answers were said.
pub record IsBrokenRun (input : List ℕ) (before now : Contents) : Type 0 where
  pub image : List ℕ
  pub map : Globals
  pub opens : Opens before image map
  pub lines : List (List ℕ)
  pub rest : List (List ℕ)
  pub script_is : script_of input ≡ lines ++ rest
  pub answers : List Answer
  pub state : State
  pub runs : Runs (start_of image map) lines answers state
  pub n : ℕ
  pub said : now.said ≡ before.said ++ take n (answer_lines answers)

-- Nothing was said, or the run was broken off.
abbrev pub Breaks : List ℕ → Contents → Contents → Type 0
Breaks input before now = (now.said ≡ before.said) ⊎ IsBrokenRun input before now

module _ {H : Type 0} (moment : H → ℕ) (left_since : H → ℕ → Contents → Type 0) where
  -- Where an opening found a map before, each crash since both files are stable leaves it after a prefix of the
  -- answered changes; or the run ended before, for this reason.
  abbrev pub LeavesPrefixes : Type 0 → List ℕ → Contents → H → H → Type 0
  LeavesPrefixes early input before old new =
      (image : List ℕ) (m : Globals) → Opens before image m
      → LeavesSinceBarrier moment left_since early old new (IsAfterPrefix (script_of input) m before.said)

  -- Of the files the next opening finds the same, at the end and at each moment, those of which it finds nothing stay
  -- as they are, and nothing was said.
  pub record LeavesAlone (told : H → Option Contents) (early : Type 0) (old new : H) (before : Contents) : Type 0 where
    pub now : IsSomeAnd (told new) (FindsSame before)
    pub crash : LeavesSinceBarrier moment left_since early old new (FindsSame before)
