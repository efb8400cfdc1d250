use Rattle.gds_new.proofs.ReadLemmas.{nothing_ends, whole_read}
use Rattle.gds_new.proofs.laws.new_is_whole.Goals as goal

pub returns : goal.returns
returns c = λ h limits. record { readable = nothing_ends h limits; len = whole_read h limits }
