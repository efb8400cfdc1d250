use Rattle.std.proofs.Common.{◌∙◌, None, Some, ap, option_map, refl}
use Rattle.m_key.specs.Reference.{place_of}
use Rattle.gds_script.specs.declared.answer.Answer.TheVariants.{Undefined, Value}
use Rattle.gds_units.specs.State.{image_of}
use Rattle.gds_run.proofs.QuestionLemmas.{no_error, value_told}
use Rattle.gds_run.proofs.question.value_of.Goals as goal

pub returns-in-Ok-Some-clause-answer : goal.returns-in-Ok-Some-clause-answer
returns-in-Ok-Some-clause-answer g c =
    let value = c.in-Ok-Some.value in
    value_told c.args.base.now c.get.new.base (place_of c.args.reference.now) c.header-header.ensures.fields
    (ap image_of c.get.ensures.read.rest) (λ long. no_error (c.in-Ok-Some.ensures.too_long.1 long))
    (Some value.items) (Value value) refl
    (λ image is m stands. c.in-Ok-Some.ensures.value image is m stands
    ∙ ap (option_map (λ v. v.items)) c.in-Ok-Some.field-0-is)

pub returns-in-Ok-None-clause-answer : goal.returns-in-Ok-None-clause-answer
returns-in-Ok-None-clause-answer g c =
    value_told c.args.base.now c.get.new.base (place_of c.args.reference.now) c.header-header.ensures.fields
    (ap image_of c.get.ensures.read.rest) (λ long. no_error (c.in-Ok-None.ensures.too_long.1 long))
    None Undefined tt
    (λ image is m stands. c.in-Ok-None.ensures.value image is m stands
    ∙ ap (option_map (λ v. v.items)) c.in-Ok-None.field-0-is)
