use Rattle.std.specs.Prelude.{suc}
use Rattle.std.proofs.lemmas.List.Elements.{recursion_from_All}
use Rattle.gds_header.specs.Fields.{fields_of}
use Rattle.gds_tree.specs.Lawful.{IsLawfulEntry}
use Rattle.gds_tree.proofs.KeptTreeLemmas.{grown, cut}
use Rattle.gds_tree.proofs.ReplaceLemmas.{forest_grown}
use Rattle.gds_tree.proofs.tree_laws.kept_tree.Goals as goal

pub returns-clause-grown : goal.returns-clause-grown
returns-clause-grown c = grown

pub returns-clause-cut : goal.returns-clause-cut
returns-clause-cut c = cut

pub returns-clause-below : goal.returns-clause-below
returns-clause-below c = λ old new v level low es t i j sizes more lawful h kept.
    forest_grown old new v level low es t i j sizes more
    (recursion_from_All (IsLawfulEntry (fields_of old) v (suc level)) es lawful) h kept
