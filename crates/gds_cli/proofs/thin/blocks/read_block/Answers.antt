use Rattle.std.proofs.Common.{◌<◌, length, arith}
use Rattle.gds_cli.proofs.BlockLemmas.{read_whole}
use Rattle.gds_cli.proofs.thin.blocks.read_block.Goals as goal

pub returns-then-branch-block-clause-changed : goal.returns-then-branch-block-clause-changed
returns-then-branch-block-clause-changed g c _ x tells head within =
    let short : c.in_ok-read.field-0 < length c.args.block.now = omega arith in
    read_whole c.args.header.now _ _ c.args.number c.in_ok-read.field-0 _ c.read.new.out x tells
    c.in_ok-read.ensures.bytes (cc) c.requires head within short
