use Rattle.gds_create.proofs.BlockLemmas.{root_is}
use Rattle.gds_create.proofs.blocks.put_root.Goals as goal

pub returns : goal.returns
returns c =
    root_is c.args.header.now c.args.out.now c.write_head.new.out c.put_bytes.new.out c.requires.zeros
    c.write_head.ensures.written c.put_bytes.ensures
