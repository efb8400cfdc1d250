use Rattle.gds_ancestors.proofs.AlongLemmas.{ancestors_of}
use Rattle.gds_ancestors.proofs.laws.ancestors_of_path.Goals as goal

pub returns : goal.returns
returns c = λ image root w path level t i low leads h. ancestors_of image i root w path level t low leads h
