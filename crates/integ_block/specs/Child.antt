-- What contracts see of a child.
use Rattle.gds_law.specs.Visit as law
use Rattle.gds_law.specs.Visit.{visit_of}
use Rattle.integ_block.specs.declared.at.Child.{Child}

abbrev pub child_of : Child → law.Child
child_of c = record { offset = c.offset; visit = visit_of c.visit }
