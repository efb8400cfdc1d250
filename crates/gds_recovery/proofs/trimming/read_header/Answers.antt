use Rattle.std.proofs.Common.{arith}
use Rattle.gds_recovery.proofs.TrimLemmas.{short_unreadable}
use Rattle.gds_recovery.proofs.trimming.read_header.Goals as goal

pub returns-then-db_length-clause-none : goal.returns-then-db_length-clause-none
returns-then-db_length-clause-none g c x tells =
    let test = c.if-db_length.true in
    let same = c.requires x tells in
    short_unreadable x.db (omega arith)
