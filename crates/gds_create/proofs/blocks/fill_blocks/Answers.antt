use Rattle.std.proofs.Common.{◌≡◌, ◌≤◌, ◌+◌, ◌*◌, ◌∙◌, arith, drop, length, length-drop, length-take}
use Rattle.gds_create.proofs.BlockLemmas.{block_filled, blocks_begin, blocks_end, within_blocks}
use Rattle.gds_create.proofs.blocks.fill_blocks.Goals as goal

pub loop-i-init : goal.loop-i-init
loop-i-init c = blocks_begin c.args.header.now c.args.first c.args.header.now.block_size c.args.out.now

pub loop-i-preserved : goal.loop-i-preserved
loop-i-preserved c =
    let i = c.loop-i.i in
    let size = c.args.header.now.block_size in
    let out = c.loop-i.out in
    let at = i * size in
    let fits : at + size ≤ length out = omega (
      arith,
      within_blocks i c.args.count size c.loop-i-test.true,
      c.loop-i.auto.out,
      c.requires.room,
    ) in
    let len : length c.fill_block.new.out ≡ size = omega (
      arith,
      c.fill_block.auto.out,
      length-take size (drop at out),
      length-drop at out,
    ) in
    block_filled c.args.header.now c.args.first i size out c.fill_block.new.out c.loop-i.invariant fits len
    c.fill_block.ensures

pub returns : goal.returns
returns c =
    let test = c.loop-i-test.false in
    blocks_end c.args.header.now c.args.first c.loop-i.i c.args.count c.args.header.now.block_size c.loop-i.out
    (omega (arith, c.loop-i.auto.i-end)) (c.loop-i.auto.out ∙ c.requires.room) c.loop-i.invariant
