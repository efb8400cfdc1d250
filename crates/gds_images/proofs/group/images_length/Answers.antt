use Rattle.std.proofs.Common.{refl, arith}
use Rattle.gds_images.proofs.FirstLemmas.{all_past, image_within, none_past, one_more_past}
use Rattle.gds_images.proofs.group.images_length.Goals as goal

pub loop-init : goal.loop-init
loop-init c = none_past c.args.count c.args.bytes.now c.requires

pub u32_at-len-requires : goal.u32_at-len-requires
u32_at-len-requires c =
    let within = image_within c.args.count c.loop.counter _ c.args.bytes.now c.loop.rest.now c.loop.invariant
    c.loop-test.true refl in
    omega arith

pub slice_bounds-rest-count : goal.slice_bounds-rest-count
slice_bounds-rest-count c =
    image_within c.args.count c.loop.counter c.u32_at-len.result c.args.bytes.now c.loop.rest.now c.loop.invariant
    c.loop-test.true c.u32_at-len.ensures

pub loop-preserved : goal.loop-preserved
loop-preserved c =
    one_more_past c.args.count c.loop.counter c.u32_at-len.result c.args.bytes.now c.loop.rest.now c.loop.invariant
    c.loop-test.true c.u32_at-len.ensures

pub slice_bounds-rest-start : goal.slice_bounds-rest-start
slice_bounds-rest-start c =
    image_within c.args.count c.loop.counter c.u32_at-len.result c.args.bytes.now c.loop.rest.now c.loop.invariant
    c.loop-test.true c.u32_at-len.ensures

pub returns : goal.returns
returns c = all_past c.args.count c.loop.counter c.args.bytes.now c.loop.rest.now c.loop.invariant c.loop-test.false
