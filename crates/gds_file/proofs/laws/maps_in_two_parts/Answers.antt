use Rattle.gds_file.proofs.RightMapLemmas.{maps_in_two_parts}
use Rattle.gds_file.proofs.laws.maps_in_two_parts.Goals as goal

pub returns : goal.returns
returns c = maps_in_two_parts
