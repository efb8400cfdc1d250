use Rattle.std.proofs.Common.{arith}
use Rattle.gds_epoch.specs.WaitingView.{unit_of}
use Rattle.gds_units.proofs.KeepingLemmas.{added_of, found_kept, kept_of, old_of, size_from, size_to, unit_within}
use Rattle.gds_units.proofs.units.committing.keep_one.Goals as goal

pub returns-then-is_some-clause-kept : goal.returns-then-is_some-clause-kept
returns-then-is_some-clause-kept g c =
    found_kept c.args.block_size c.args.epoch_length c.args.images.now c.args.waiting.now.units
    (unit_of c.args.unit.now) c.find.result c.requires.kept c.requires.size
    c.if-is_some.ensures c.find.ensures.bytes

pub keep_unit-requires-clause-within : goal.keep_unit-requires-clause-within
keep_unit-requires-clause-within g c x tells =
    let size = c.args.block_size in
    let unit = c.args.unit.now.unit in
    let fits = unit_within size c.args.epoch_length unit c.requires.kept.blocks
    (omega (arith, c.place_of-at.ensures, c.if-at-epoch_length.false)) in
    let before = c.requires.old x tells in
    omega (arith, fits, c.place_of-at.ensures, c.len.ensures, c.requires.size, before.long)

pub returns-clause-old : goal.returns-clause-old
returns-clause-old g c =
    let size = c.args.block_size in
    let unit = c.args.unit.now.unit in
    let fits = unit_within size c.args.epoch_length unit c.requires.kept.blocks
    (omega (arith, c.place_of-at.ensures, c.if-at-epoch_length.false)) in
    old_of (g.H.Host.told c.args.host.now) c.place_of-at.result c.len.result c.args.images.now c.keep_unit.new.images
    c.keep_unit.result c.args.epoch_length c.keep_unit.ensures.added c.keep_unit.ensures.err
    (omega (arith, c.len.ensures, c.requires.size, size_from size unit c.requires.kept.some))
    (omega (arith, c.len.ensures, c.requires.size, size_to size unit c.requires.kept.short))
    (omega (arith, fits, c.place_of-at.ensures, c.len.ensures, c.requires.size)) c.requires.old

pub returns-clause-added : goal.returns-clause-added
returns-clause-added g c =
    added_of (g.H.Host.told c.args.host.now) c.place_of-at.result c.len.result c.args.images.now c.keep_unit.new.images
    c.keep_unit.result c.keep_unit.ensures.added c.keep_unit.ensures.err

pub returns-clause-kept : goal.returns-clause-kept
returns-clause-kept g c =
    kept_of (g.H.Host.told c.args.host.now) c.place_of-at.result c.len.result c.args.images.now c.keep_unit.new.images
    c.keep_unit.result c.args.block_size c.args.epoch_length (unit_of c.args.unit.now) c.place_of-at.ensures
    (omega (arith, c.len.ensures)) c.keep_unit.ensures.added
