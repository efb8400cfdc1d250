use Rattle.gds_splice.proofs.AncestorLemmas.{ancestor_becomes, ancestor_may_part, parted_has_room}
use Rattle.gds_splice.proofs.laws.ancestor_may_part.Goals as goal

pub returns-clause-may : goal.returns-clause-may
returns-clause-may c = ancestor_may_part

pub returns-clause-becomes : goal.returns-clause-becomes
returns-clause-becomes c = ancestor_becomes

pub returns-clause-room : goal.returns-clause-room
returns-clause-room c = parted_has_room
