-- Changes and questions ask for no epoch.
use Rattle.gds_script.specs.declared.answer.Answer.{Answer}
use Rattle.gds_script.specs.Script.{Answers, State}
use Rattle.gds_script.proofs.EpochLemmas.{AsksOther, asked_no_epoch}
use Rattle.gds_script.proofs.KeptLemmas.{IsNoEpoch}
use Rattle.gds_run.specs.declared.change.Change.{Change}
use Rattle.gds_run.specs.declared.change.Change.TheVariants as change
use Rattle.gds_run.specs.declared.question.Question.{Question}
use Rattle.gds_run.specs.declared.question.Question.TheVariants as question
use Rattle.gds_run.specs.Request.{change_request, question_request}

change_other : (asked : Change) → AsksOther (change_request asked)
change_other (change.Set reference value) = tt
change_other (change.Kill reference) = tt

pub change_no_epoch : (asked : Change) (old new : State) (answer : Answer)
    → Answers (change_request asked) old answer new → IsNoEpoch answer
change_no_epoch asked old new answer is = asked_no_epoch (change_request asked) old new answer (change_other asked) is

question_other : (asked : Question) → AsksOther (question_request asked)
question_other (question.Value reference) = tt
question_other (question.Next reference first) = tt
question_other (question.Data reference) = tt
question_other (question.Node reference) = tt

pub question_no_epoch : (asked : Question) (old new : State) (answer : Answer)
    → Answers (question_request asked) old answer new → IsNoEpoch answer
question_no_epoch asked old new answer is =
    asked_no_epoch (question_request asked) old new answer (question_other asked) is
