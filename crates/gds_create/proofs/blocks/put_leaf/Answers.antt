use Rattle.gds_create.proofs.BlockLemmas.{leaf_is}
use Rattle.gds_create.proofs.blocks.put_leaf.Goals as goal

pub returns : goal.returns
returns c =
    leaf_is c.args.header.now c.args.out.now c.write_head.new.out c.requires.zeros c.write_head.ensures.written
