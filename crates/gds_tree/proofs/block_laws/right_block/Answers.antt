use Rattle.gds_tree.proofs.RightLemmas.{right_from}
use Rattle.gds_tree.proofs.FaultlessLemmas.{no_kinds}
use Rattle.gds_tree.proofs.block_laws.right_block.Goals as goal

pub returns-clause-entries : goal.returns-clause-entries
returns-clause-entries c = λ h v block limits long none. right_from h v block limits.key_to long none

pub returns-clause-faultless : goal.returns-clause-faultless
returns-clause-faultless c = no_kinds
