use Rattle.gds_images.proofs.ChainLemmas.{ends_at_gate}
use Rattle.gds_images.proofs.laws.ends_at_its_gate.Goals as goal

pub returns : goal.returns
returns c = ends_at_gate
