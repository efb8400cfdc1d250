-- What a request about a node is answered, and what a change leaves.
use Rattle.std.specs.Prelude.{◌≡◌, ℕ, ◌+◌, None, OnErr, Option, Result, Some}
use Rattle.host_model.specs.Files.{Contents}
use Rattle.host_model.specs.Told.{TellsOn}
use Rattle.m_key.specs.Reference.{node_of}
use Rattle.gds_sound.specs.Stands.{StandsFor}
use Rattle.gds_units.specs.Durable.{KeepsOrStores}
use Rattle.gds_units.specs.State.{UnitsState, WhereTold, image_of}
use Rattle.gds_words.specs.Script.{Request}
use Rattle.gds_words.specs.Script as asked
use Rattle.gds_script.specs.declared.answer.Answer.{Answer}
use Rattle.gds_script.specs.declared.answer.Answer.TheVariants.{Done}
use Rattle.gds_script.specs.Script.{Answers, State}
use Rattle.gds_run.specs.declared.error.RunError.{RunError}
use Rattle.gds_run.specs.declared.change.Change.{Change}
use Rattle.gds_run.specs.declared.change.Change.TheVariants as change
use Rattle.gds_run.specs.declared.question.Question.{Question}
use Rattle.gds_run.specs.declared.question.Question.TheVariants as question

-- what a change and a question ask for
abbrev pub change_request : Change → Request
change_request (change.Set reference value) = asked.set (node_of reference) value.items
change_request (change.Kill reference) = asked.kill (node_of reference)

abbrev pub question_request : Question → Request
question_request (question.Value reference) = asked.get (node_of reference)
question_request (question.Next reference first) = asked.order (node_of reference) first
question_request (question.Data reference) = asked.data_of (node_of reference)
question_request (question.Node reference) = asked.query (node_of reference)

-- the state is that of the image, where the image is told
pub record IsStateOf {H : Type 0} (base : UnitsState H) (state : State) : Type 0 where
  pub image_is : image_of base ≡ Some state.image
  pub stands : StandsFor state.image state.map

module _ {H : Type 0} (old new : UnitsState H) where
  -- A request is answered so and leaves the image.
  abbrev pub IsAnswered : Request → Answer → Type 0
  IsAnswered request answer =
      (image_of new ≡ image_of old)
      × ((state : State) → IsStateOf old state → Answers request state answer state)

  -- A change is made, or refused with an answer.
  abbrev pub IsMadeOrRefused : Request → Option Answer → Type 0
  IsMadeOrRefused request None =
      (before : State) → IsStateOf old before
      → (after : State) × Answers request before Done after × (after.changes ≡ before.changes + 1)
      × IsStateOf new after
  IsMadeOrRefused request (Some answer) = IsAnswered request answer

-- What a change leaves of an open database, which was told: nothing was said, and a crash leaves what was found before,
-- or the image as it was.
pub record LeavesAfterChange {H T : Type 0} (told : H → Option Contents) (moment : H → ℕ)
    (left_since : H → ℕ → Contents → Type 0) (old new : UnitsState H) (result : Result T RunError) : Type 0 where
  pub image : OnErr result (image_of new ≡ image_of old)
  pub said : TellsOn (told old.host) (told new.host) (λ c d. d.said ≡ c.said)
  pub any_moment : WhereTold told old (λ c image. KeepsOrStores moment left_since image c.said old.host new.host)
