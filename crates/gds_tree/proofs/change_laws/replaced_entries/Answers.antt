use Rattle.gds_tree.proofs.ReplaceLemmas.{replaced}
use Rattle.gds_tree.proofs.change_laws.replaced_entries.Goals as goal

pub returns : goal.returns
returns c = replaced
