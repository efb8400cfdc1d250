use Rattle.std.proofs.lemmas.List.Elements.{All-from_recursion}
use Rattle.gds_header.specs.Fields.{fields_of}
use Rattle.gds_tree.specs.Lawful.{IsTreeNumber}
use Rattle.gds_ancestors.specs.Ancestors.{outer_blocks}
use Rattle.gds_ancestors.proofs.VisitLemmas.{same_role, due_level, number_of, outer_numbered}
use Rattle.gds_ancestors.proofs.laws.visit_of_ancestors.Goals as goal

pub returns-clause-role : goal.returns-clause-role
returns-clause-role c = same_role

pub returns-clause-level : goal.returns-clause-level
returns-clause-level c = λ image root w a above level lead. due_level image a w level lead.0

pub returns-clause-number : goal.returns-clause-number
returns-clause-number c = number_of

pub returns-clause-outer : goal.returns-clause-outer
returns-clause-outer c = λ image root w above level i n lead.
    All-from_recursion (IsTreeNumber (fields_of image).total) (outer_blocks above)
    (outer_numbered image i root w above level n lead)
