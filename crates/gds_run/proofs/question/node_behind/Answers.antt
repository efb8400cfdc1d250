use Rattle.std.proofs.Common.{◌∙◌, None, Some, ap, option_map, refl}
use Rattle.m_key.specs.Reference.{place_of}
use Rattle.gds_script.specs.declared.answer.Answer.TheVariants.{End, Node}
use Rattle.gds_units.specs.State.{image_of}
use Rattle.gds_run.proofs.QuestionLemmas.{no_error, node_told}
use Rattle.gds_run.proofs.question.node_behind.Goals as goal

pub returns-in-Ok-Some-clause-answer : goal.returns-in-Ok-Some-clause-answer
returns-in-Ok-Some-clause-answer g c =
    let next = c.in-Ok-Some.reference in
    node_told c.args.base.now c.query.new.base (place_of c.args.reference.now) c.header-header.ensures.fields
    (ap image_of c.query.ensures.read.rest) (λ long. no_error (c.in-Ok-Some.ensures.too_long.1 long))
    (Some (place_of next)) (Node next) refl
    (λ image is m stands. c.in-Ok-Some.ensures.next image is m stands
    ∙ ap (option_map place_of) c.in-Ok-Some.field-0-is)

pub returns-in-Ok-None-clause-answer : goal.returns-in-Ok-None-clause-answer
returns-in-Ok-None-clause-answer g c =
    node_told c.args.base.now c.query.new.base (place_of c.args.reference.now) c.header-header.ensures.fields
    (ap image_of c.query.ensures.read.rest) (λ long. no_error (c.in-Ok-None.ensures.too_long.1 long))
    None End tt
    (λ image is m stands. c.in-Ok-None.ensures.next image is m stands
    ∙ ap (option_map place_of) c.in-Ok-None.field-0-is)
