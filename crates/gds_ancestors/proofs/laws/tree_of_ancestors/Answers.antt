use Rattle.gds_ancestors.proofs.UpwardLemmas.{tree_of_root}
use Rattle.gds_ancestors.proofs.laws.tree_of_ancestors.Goals as goal

pub returns : goal.returns
returns c = λ image root w above level inner i lead h. tree_of_root image i root w above level inner lead h
