use Rattle.std.proofs.Common.{◌∙◌}
use Rattle.gds_recovery.proofs.StayLemmas.{stays_read, stays_then}
use Rattle.gds_recovery.proofs.TrimLemmas.{ends_reading}
use Rattle.gds_recovery.proofs.trimming.trim.Goals as goal

pub returns-in_err-trim_to-in-Some-clause-stays : goal.returns-in_err-trim_to-in-Some-clause-stays
returns-in_err-trim_to-in-Some-clause-stays g c =
    stays_then (stays_read c.read_header.ensures.read c.read_header.ensures.crash c.requires.stable)
    c.trim_to.ensures.stays

pub returns-in_ok-trim_to-in-Some-clause-stays : goal.returns-in_ok-trim_to-in-Some-clause-stays
returns-in_ok-trim_to-in-Some-clause-stays g c =
    stays_then (stays_read c.read_header.ensures.read c.read_header.ensures.crash c.requires.stable)
    c.trim_to.ensures.stays

pub returns-in_ok-trim_to-in-Some-clause-opened : goal.returns-in_ok-trim_to-in-Some-clause-opened
returns-in_ok-trim_to-in-Some-clause-opened g c x tells =
    c.in_ok-trim_to-in-Some.ensures.opened x (c.read_header.ensures.read.told ∙ tells)

pub returns-in-None-clause-unsound : goal.returns-in-None-clause-unsound
returns-in-None-clause-unsound g c x tells =
    let none = rw c.in-None.is at c.in_ok-header.ensures.none in
    ends_reading x (c.requires.closed x tells) (none x tells)
