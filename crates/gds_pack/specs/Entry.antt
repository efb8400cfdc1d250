-- What clauses see of an `Entry`.
use Rattle.std.specs.Prelude.{List, map}
use Rattle.gds_block.specs.Item.{Item}
use Rattle.gds_pack.specs.declared.entry.Entry.{Entry}

abbrev pub item : Entry → Item
item e = record { key = e.key.items; rest = e.rest.items }

abbrev pub items : List Entry → List Item
items list = map item list
