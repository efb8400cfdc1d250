use Rattle.gds_create.proofs.BlockLemmas.{map_is}
use Rattle.gds_create.proofs.blocks.put_map.Goals as goal

pub returns : goal.returns
returns c =
    map_is c.args.header.now c.args.group c.args.out.now c.write_head.new.out c.put_bytes.new.out c.first_pairs.result
    c.requires.zeros c.write_head.ensures.written c.first_pairs.ensures c.put_bytes.ensures
