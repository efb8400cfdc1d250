use Rattle.gds_tree.proofs.JoinLemmas.{entry_parted}
use Rattle.gds_tree.proofs.entry_laws.parted_entry.Goals as goal

pub returns : goal.returns
returns c = entry_parted
