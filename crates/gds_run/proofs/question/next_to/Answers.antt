use Rattle.std.proofs.Common.{◌∙◌, None, Some, ap, option_map, refl}
use Rattle.m_key.specs.Reference.{place_of}
use Rattle.gds_globals.specs.Questions.{next_of}
use Rattle.gds_script.specs.declared.answer.Answer.TheVariants.{End, Next}
use Rattle.gds_units.specs.State.{image_of}
use Rattle.gds_run.proofs.QuestionLemmas.{next_told, no_error}
use Rattle.gds_run.proofs.question.next_to.Goals as goal

pub returns-in-Ok-Some-clause-answer : goal.returns-in-Ok-Some-clause-answer
returns-in-Ok-Some-clause-answer g c =
    let next = c.in-Ok-Some.next in
    next_told c.args.base.now c.order.new.base (place_of c.args.reference.now) c.header-header.ensures.fields
    (ap image_of c.order.ensures.read.rest) (λ long. no_error (c.in-Ok-Some.ensures.too_long.1 long))
    c.args.first (Some (next_of next)) (Next next) refl
    (λ image is m stands. c.in-Ok-Some.ensures.next image is m stands
    ∙ ap (option_map next_of) c.in-Ok-Some.field-0-is)

pub returns-in-Ok-None-clause-answer : goal.returns-in-Ok-None-clause-answer
returns-in-Ok-None-clause-answer g c =
    next_told c.args.base.now c.order.new.base (place_of c.args.reference.now) c.header-header.ensures.fields
    (ap image_of c.order.ensures.read.rest) (λ long. no_error (c.in-Ok-None.ensures.too_long.1 long))
    c.args.first None End tt
    (λ image is m stands. c.in-Ok-None.ensures.next image is m stands
    ∙ ap (option_map next_of) c.in-Ok-None.field-0-is)
