use Rattle.gds_law.proofs.KeptLemmas.{one_fault_list}
use Rattle.gds_law.proofs.path_laws.fault_lists.Goals as goal

pub returns : goal.returns
returns c = one_fault_list
