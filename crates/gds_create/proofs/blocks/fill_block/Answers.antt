use Rattle.std.proofs.Common.{◌∙◌}
use Rattle.gds_header.proofs.WritingLemmas.{zeros-replicate}
use Rattle.gds_create.proofs.BlockLemmas.{block_leaf, block_map, block_root, block_zeros}
use Rattle.gds_create.proofs.blocks.fill_block.Goals as goal

pub returns-then-block-eq0 : goal.returns-then-block-eq0
returns-then-block-eq0 c =
    c.put_map.ensures ∙ block_map c.args.header.now c.args.block c.if-block-eq0.true

pub returns-then-block-eq1 : goal.returns-then-block-eq1
returns-then-block-eq1 c =
    c.put_root.ensures ∙ block_root c.args.header.now c.args.block c.if-block-eq0.false c.if-block-eq1.true

pub returns-then-block-eq2 : goal.returns-then-block-eq2
returns-then-block-eq2 c =
    c.put_leaf.ensures
    ∙ block_leaf c.args.header.now c.args.block c.if-block-eq0.false c.if-block-eq1.false c.if-block-eq2.true

pub returns-else-block-eq2 : goal.returns-else-block-eq2
returns-else-block-eq2 c =
    zeros-replicate c.fill.new.self _ c.args.header.now.block_size (c.fill.ensures.after (λ y same. same))
    c.requires.room
    ∙ block_zeros c.args.header.now c.args.block c.if-block-eq0.false c.if-block-eq1.false c.if-block-eq2.false
