-- What clauses see of a group's map as it is read.
use Rattle.integ.specs.GroupMap.{GroupMap}
use Rattle.integ.specs.declared.group.Group.{Group}

abbrev pub map_of : Group → GroupMap
map_of g = record { header = g.header.now; number = g.number; bytes = g.map.now; used = g.used.now }
