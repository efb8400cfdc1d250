-- A line of the input, as it was read.
use Rattle.std.specs.Prelude.{◌≡◌, ◌⊎◌, ◌↔◌, ℕ, ◌<◌, ◌≤◌, false, List}
use Rattle.std.specs.Prelude.{IfErr, IfOk, OnOk, OnSome, Option, None, Some, Result}
use Rattle.host_model.specs.Failures.{Rose}
use Rattle.host_model.specs.Told.{TellsOn}
use Rattle.gds_lines.specs.declared.TheConstants.{INPUT_LIMIT}
use Rattle.gds_lines.specs.Lines.{after_first_line}
use Rattle.gds_lines.specs.LinesState.{Counts, LinesState}
use Rattle.gds_words.specs.Script.{Asks, Request, epoch}
use Rattle.gds_run.specs.declared.error.RunError.{RunError}
use Rattle.gds_run.specs.declared.error.RunError.TheVariants.{InputFault, InputTooLong, Memory}
use Rattle.gds_run.specs.Request.{change_request, question_request}
use Rattle.gds_run.specs.declared.line.Line.{Line}
use Rattle.gds_run.specs.declared.line.Line.TheVariants as line

-- what these bytes ask for, or that they ask for nothing
abbrev pub Means : List ℕ → Line → Type 0
Means bytes (line.Changes change) = Asks bytes (change_request change)
Means bytes (line.Asks question) = Asks bytes (question_request question)
Means bytes line.Epoch = Asks bytes epoch
Means bytes line.Bad = (request : Request) → Asks bytes request → ⊥

abbrev pub MeansNext : Option (List ℕ) → Option Line → Type 0
MeansNext (Some bytes) (Some line) = Means bytes line
MeansNext None None = Unit {0}
MeansNext bytes line = ⊥

-- What reading a line leaves of the reader: the line is off the text, and of the source no more was taken than is
-- counted. After want of memory the line may be off too.
pub record IsAfterLine {T : Type 0} (old new : LinesState) (result : Result (Option T) RunError) : Type 0 where
  pub left : OnOk result (TellsOn old.left new.left (λ text rest. rest ≡ after_first_line text))
  pub counts : TellsOn old.untaken new.untaken (Counts old.taken new.taken)
  pub passed : IfOk result (λ line. OnSome line (old.passed < new.passed))
  pub onward : old.passed ≤ new.passed
  pub short : OnOk result (new.passed ≤ INPUT_LIMIT)
  pub refused : OnOk result (new.refused ≡ false)
  pub too_long : IfErr result (λ error. (error ≡ InputTooLong) ↔ (INPUT_LIMIT < new.taken))
  pub taken : OnOk result (new.taken ≤ INPUT_LIMIT)
  pub fault : IfErr result (λ error. error ≡ InputFault → Rose old.failures new.failures)
  pub which : IfErr result (λ error. (error ≡ Memory) ⊎ ((error ≡ InputFault) ⊎ (error ≡ InputTooLong)))
  pub failures : old.failures ≤ new.failures
