use Rattle.gds_images.proofs.FirstLemmas.{IsPast}
use Rattle.gds_images.proofs.group.images_length.Given as goal

abbrev pub invariant-loop : goal.invariant-loop
invariant-loop l = IsPast l.count l.counter l.bytes l.rest
