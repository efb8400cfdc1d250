use Rattle.std.proofs.Common.{[], arith}
use Rattle.gds_ancestors.proofs.StepLemmas.{path_of, step_count, same_entry}
use Rattle.gds_ancestors.proofs.laws.steps_of_ancestors.Goals as goal

pub returns-clause-lead : goal.returns-clause-lead
returns-clause-lead c = λ image root w above level i lead. path_of image i root w above level lead

pub returns-clause-count : goal.returns-clause-count
returns-clause-count c = step_count

pub returns-clause-entry : goal.returns-clause-entry
returns-clause-entry c = λ a e b c f d same size.
    let r = same_entry [] a e b c f d same (omega arith) in
    (r.front, r.entry, r.back)
