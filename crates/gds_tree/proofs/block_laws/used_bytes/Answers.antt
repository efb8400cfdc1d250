use Rattle.gds_tree.proofs.UsedLemmas.{same_children, same_items, same_entries, same_faultless}
use Rattle.gds_tree.proofs.block_laws.used_bytes.Goals as goal

pub returns-clause-children : goal.returns-clause-children
returns-clause-children c = same_children

pub returns-clause-items : goal.returns-clause-items
returns-clause-items c = same_items

pub returns-clause-entries : goal.returns-clause-entries
returns-clause-entries c = same_entries

pub returns-clause-faultless : goal.returns-clause-faultless
returns-clause-faultless c = same_faultless
