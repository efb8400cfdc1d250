use Rattle.gds_units.proofs.CreatingLemmas.{made_holds, made_limits, none_come}
use Rattle.gds_units.proofs.units.Units.create.Goals as goal

pub returns-in_default-clause-any_moment : goal.returns-in_default-clause-any_moment
returns-in_default-clause-any_moment g c x tells each =
    none_come g.met.H.Host.longer g.met.H.Host.said_stays c.args.header.now c.args.host x tells each

pub fresh-requires-clause-limits : goal.fresh-requires-clause-limits
fresh-requires-clause-limits g c =
    made_limits c.args.header.now c.in-Ok-create_files.header c.requires c.in-Ok-create_files.ensures.header

pub fresh-requires-clause-whole : goal.fresh-requires-clause-whole
fresh-requires-clause-whole g c =
    made_holds c.args.header.now c.in-Ok-create_files.header c.requires c.in-Ok-create_files.ensures.header
    (g.H.Host.told c.args.host) (g.H.Host.told c.create_files.new.host) c.create_files.ensures.untold
    c.in-Ok-create_files.ensures.made
