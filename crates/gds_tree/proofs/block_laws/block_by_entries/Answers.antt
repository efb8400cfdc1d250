use Rattle.gds_tree.proofs.FaultlessLemmas.{records_are, children_right, items_right, within_block}
use Rattle.gds_tree.proofs.BytesLemmas.{used_bytes_are}
use Rattle.gds_tree.proofs.block_laws.block_by_entries.Goals as goal

pub returns-clause-children : goal.returns-clause-children
returns-clause-children c = children_right

pub returns-clause-items : goal.returns-clause-items
returns-clause-items c = items_right

pub returns-clause-bytes : goal.returns-clause-bytes
returns-clause-bytes c = λ h v block es limits right long all.
    used_bytes_are block es all (within_block h v block es limits right long) (records_are h v block es limits right)
    right.head.used
