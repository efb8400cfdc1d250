use Rattle.std.proofs.Common.{◌≡◌, ◌-◌, ◌∙◌, length, take, drop, sym, ap, subst, arith, length-take, length-drop}
use Rattle.std.specs.Prelude.{replicate}
use Rattle.std.proofs.lemmas.List.{drop_all}
use Rattle.gds_block.specs.Block.{IsBlock, used_of}
use Rattle.gds_block.specs.Record.{records_of}
use Rattle.gds_pack.specs.Entry.{items}
use Rattle.gds_pack.specs.Unpacked.{entries_of}
use Rattle.gds_pack.proofs.PackLemmas.{written_block}
use Rattle.gds_pack.proofs.ReadLemmas.{used_of-block_bytes, IsBlock-block_bytes, records_of-block_bytes}
use Rattle.gds_pack.proofs.ReadLemmas.{entries_of-block_bytes}
use Rattle.gds_pack.proofs.packing.pack.Goals as goal

pub returns-clause-written : goal.returns-clause-written
returns-clause-written c =
    let end = c.write_records-end.result in
    let room = length c.args.out.now in
    let written = c.write_head.new.out in
    let back = drop end written in
    let long : length (take (length written - end) back) ≡ room - end =
    omega (arith, length-take (length written - end) back, length-drop end written) in
    written_block (items c.args.list.now) c.args.level c.args.tn end room c.args.out.now c.write_records-end.new.out
    written
    c.write_records-end.ensures.end c.write_records-end.ensures.written (omega arith) c.write_head.ensures.written
    c.clear.new.bytes _ (c.clear.ensures ∙ ap (λ n. replicate n 0) long)
    (drop_all (length written - end) back (omega (arith, length-drop end written)))

pub returns-clause-is_block : goal.returns-clause-is_block
returns-clause-is_block c =
    let is = items c.args.list.now in
    subst IsBlock (sym (returns-clause-written c))
    (IsBlock-block_bytes is c.args.level c.args.tn (length c.args.out.now) c.requires.fits c.requires.room)

pub returns-clause-used : goal.returns-clause-used
returns-clause-used c =
    ap used_of (returns-clause-written c) ∙ used_of-block_bytes (items c.args.list.now) c.args.level c.args.tn
    (length c.args.out.now) c.requires.fits c.requires.room

pub returns-clause-reads_back : goal.returns-clause-reads_back
returns-clause-reads_back c =
    ap entries_of (returns-clause-written c)
    ∙ entries_of-block_bytes (items c.args.list.now) c.args.level c.args.tn (length c.args.out.now) c.requires.fits
    c.requires.room c.requires.packable

pub returns-clause-records : goal.returns-clause-records
returns-clause-records c =
    ap records_of (returns-clause-written c)
    ∙ records_of-block_bytes (items c.args.list.now) c.args.level c.args.tn (length c.args.out.now) c.requires.fits
    c.requires.room c.requires.packable
