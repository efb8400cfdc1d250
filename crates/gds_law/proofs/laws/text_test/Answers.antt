use Rattle.gds_law.proofs.NumberLemmas.{text_test}
use Rattle.gds_law.proofs.laws.text_test.Goals as goal

pub returns : goal.returns
returns c = text_test
