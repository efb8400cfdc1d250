use Rattle.gds_units.proofs.OpeningLemmas.{opened_whole}
use Rattle.gds_units.proofs.units.Units.open.Goals as goal

pub fresh-requires-clause-whole : goal.fresh-requires-clause-whole
fresh-requires-clause-whole g c =
    opened_whole (g.H.Host.told c.args.host) (g.H.Host.told c.recover.new.host) c.in-Ok-recover.header
    c.recover.ensures.untold c.in-Ok-recover.ensures.opened
