use Rattle.gds_globals.proofs.SetLemmas.{set_in_global, set_is_in_map}
use Rattle.gds_globals.proofs.NewGlobalLemmas.{set_in_new_global}
use Rattle.gds_globals.proofs.laws.item_of_global.Goals as goal

pub returns-clause-map : goal.returns-clause-map
returns-clause-map c = set_is_in_map

pub returns-clause-global : goal.returns-clause-global
returns-clause-global c = set_in_global

pub returns-clause-new_global : goal.returns-clause-new_global
returns-clause-new_global c = set_in_new_global
