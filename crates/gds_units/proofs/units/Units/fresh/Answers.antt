use Rattle.gds_units.proofs.OpeningLemmas.{fresh_units, units_are}
use Rattle.gds_units.proofs.units.Units.fresh.Goals as goal

pub invariant_of-result : goal.invariant_of-result
invariant_of-result g c =
    units_are g.H.Host.told g.H.Host.moment g.H.Host.left_since c.args.host c.args.header c.new.result.units
    c.args.room.before c.file_length-length.result c.new.ensures c.requires.room c.file_length-length.ensures
    (fresh_units g.H.Host.told g.H.Host.moment g.H.Host.left_since c.args.host c.args.header c.requires.limits
    c.requires.whole c.requires.stable)
