use Rattle.gds_remove.proofs.node.put_left.Goals as goal

pub returns-clause-one : goal.returns-clause-one
returns-clause-one g c =
    record { header = c.put_entries.ensures.more.header; more = c.put_entries.ensures.beside }
