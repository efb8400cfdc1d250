use Rattle.gds_file.proofs.RoomLemmas.{room_by_header, extended_has_room}
use Rattle.gds_file.proofs.laws.grown_room.Goals as goal

pub returns-clause-by_header : goal.returns-clause-by_header
returns-clause-by_header c = room_by_header

pub returns-clause-extended : goal.returns-clause-extended
returns-clause-extended c = extended_has_room
