use Rattle.std.proofs.Common.{arith}
use Rattle.gds_images.proofs.reading.read_gate.Goals as goal

pub returns-clause-gate : goal.returns-clause-gate
returns-clause-gate g c x tells epoch images =
    let whole = c.requires.told x tells in
    let within = c.requires.within in
    c.in_ok-gate_of.ensures.gate x.images epoch images (omega arith) (c.in_ok-count.ensures.bytes x tells)
