use Rattle.std.proofs.Common.{◌-◌, List, Some, length, ap, ◌∙◌, arith}
use Rattle.std.specs.Prelude.{slice_get}
use Rattle.std.specs.Option.{option_copied}
use Rattle.gds_header.specs.declared.header.Header.{Header}
use Rattle.gds_find.specs.declared.trail.Step.{Step}
use Rattle.gds_find.proofs.ValueLemmas.{last_block, no_last}
use Rattle.gds_find.proofs.value.leaf_of.Goals as goal

pub returns-in_err-step-clause-found : goal.returns-in_err-step-clause-found
returns-in_err-step-clause-found c path block offset low is =
    absurd (no_last c.args.trail.now.steps.items path block offset (option_copied c.last.result)
    (c.last.ensures.value ∙ ap (λ (xs : List Step). slice_get xs (length xs - 1)) c.as_slice.ensures.value) is
    (ap option_copied c.in_err-step.was))

pub returns-then-step-header-clause-found : goal.returns-then-step-header-clause-found
returns-then-step-header-clause-found c path block offset low is =
    let own = last_block c.args.trail.now.steps.items path block offset (option_copied c.last.result)
    c.in_ok-step.step.now
    (c.last.ensures.value ∙ ap (λ (xs : List Step). slice_get xs (length xs - 1)) c.as_slice.ensures.value) is
    (ap option_copied c.in_ok-step.was) in
    absurd (omega (
      arith,
      own,
      low,
      c.if-step-header.true,
      ap (λ (h : Header). h.total) c.header.ensures.header,
    ))

pub returns-clause-found : goal.returns-clause-found
returns-clause-found c path block offset low is =
    ap (λ n. Some n)
    (last_block c.args.trail.now.steps.items path block offset (option_copied c.last.result) c.in_ok-step.step.now
    (c.last.ensures.value ∙ ap (λ (xs : List Step). slice_get xs (length xs - 1)) c.as_slice.ensures.value) is
    (ap option_copied c.in_ok-step.was))
