use Rattle.gds_law.proofs.KeyLemmas.{key_test}
use Rattle.gds_law.proofs.laws.key_test.Goals as goal

pub returns : goal.returns
returns c = key_test
