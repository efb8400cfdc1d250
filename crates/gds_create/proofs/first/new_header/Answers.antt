use Rattle.std.proofs.Common.{arith}
use Rattle.gds_create.proofs.BlockLemmas.{header_is}
use Rattle.gds_create.proofs.first.new_header.Goals as goal

pub returns-clause-new : goal.returns-clause-new
returns-clause-new c =
    header_is c.args.header.now c.div_ceil.result c.first_master.result (omega (arith, c.div_ceil.ensures))
    c.first_master.ensures
