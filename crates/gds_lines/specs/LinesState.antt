-- Where a reader of lines stands, and what a call of it leaves.
use Rattle.std.specs.Prelude.{◌≡◌, ◌↔◌, ◌+◌, ◌<◌, ◌≤◌, ℕ, Bool, List, ◌++◌, length, Option, Some, Result, is_err}
use Rattle.std.specs.Prelude.{OnSome, IfOk, OnOk}
use Rattle.std.specs.Result.{IsErrOf}
use Rattle.host_model.specs.Failures.{Rose}
use Rattle.host_model.specs.Told.{TellsOn}
use Rattle.gds_lines.specs.declared.TheConstants.{INPUT_LIMIT}
use Rattle.gds_lines.specs.declared.error.LinesError.{LinesError}
use Rattle.gds_lines.specs.declared.error.LinesError.TheVariants.{InputFault, InputTooLong}
use Rattle.gds_lines.specs.Lines.{after_first_line}

-- what is left of the text, and what the source itself has left of it, where the source tells its bytes; how many
-- bytes of the text are passed, those of the lines that were given and their line ends; how many were taken from the
-- source; whether a line was refused; and how often the source has failed
pub record LinesState : Type 0 where
  pub left : Option (List ℕ)
  pub untaken : Option (List ℕ)
  pub passed : ℕ
  pub taken : ℕ
  pub refused : Bool
  pub failures : ℕ

-- The second text is the end of the first.
abbrev pub IsEnd : List ℕ → List ℕ → Type 0
IsEnd text end = (front : List ℕ) × (text ≡ front ++ end)

-- The source gave bytes off its front, and so many more were counted: the count and what is left together stay the
-- same.
pub record Counts (counted_before counted_now : ℕ) (before now : List ℕ) : Type 0 where
  pub given : IsEnd before now
  pub counted : counted_now + length now ≡ counted_before + length before

-- what a call for the next line leaves
pub record LineTaken {T : Type 0} (old : LinesState) (result : Result (Option T) LinesError) (new : LinesState)
    : Type 0 where
  -- the first line is off the text
  pub left : OnOk result (TellsOn old.left new.left (λ text rest. rest ≡ after_first_line text))
  -- whatever came of it, the bytes that were taken are those that the source has no longer
  pub counts : TellsOn old.untaken new.untaken (Counts old.taken new.taken)
  -- what the source has left is the end of the text that is left, and what is passed and left is what was taken and
  -- what the source has left
  pub ahead : TellsOn new.untaken new.left (λ rest text. Counts new.passed new.taken text rest)
  -- each line has a byte at least, or its line end
  pub passed : IfOk result (λ line. OnSome line (old.passed < new.passed))
  pub onward : old.passed ≤ new.passed
  pub behind : new.passed ≤ new.taken
  pub short : OnOk result (new.taken ≤ INPUT_LIMIT)
  pub refused : new.refused ≡ is_err result
  pub too_long : IsErrOf result InputTooLong ↔ (INPUT_LIMIT < new.taken)
  pub fault : IsErrOf result InputFault → Rose old.failures new.failures
  pub taken : old.taken ≤ new.taken
  pub failures : old.failures ≤ new.failures

-- The reader reads this input: it took as many bytes as the source gave of it.
abbrev pub Reads : List ℕ → LinesState → Type 0
Reads input lines = TellsOn (Some input) lines.untaken (Counts 0 lines.taken)

-- Of the input more bytes were taken than the limit.
abbrev pub IsAboveLimit : List ℕ → List ℕ → Type 0
IsAboveLimit input untaken = INPUT_LIMIT + length untaken < length input
