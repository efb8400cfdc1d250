use Rattle.gds_law.proofs.NumberLemmas.{bytes_test}
use Rattle.gds_law.proofs.laws.bytes_test.Goals as goal

pub returns : goal.returns
returns c = bytes_test
