use Rattle.std.proofs.Common.{ap}
use Rattle.m_key.specs.Reference.{place_of}
use Rattle.gds_units.specs.State.{image_of}
use Rattle.gds_run.proofs.QuestionLemmas.{data_told, no_error}
use Rattle.gds_run.proofs.question.data_at.Goals as goal

pub returns-in-Ok-clause-answer : goal.returns-in-Ok-clause-answer
returns-in-Ok-clause-answer g c =
    data_told c.args.base.now c.data.new.base (place_of c.args.reference.now) c.header-header.ensures.fields
    (ap image_of c.data.ensures.read.rest) (λ long. no_error (c.in-Ok.ensures.too_long.1 long))
    c.in-Ok.data c.in-Ok.ensures.found
