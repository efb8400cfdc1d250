use Rattle.std.proofs.Common.{ap, ◌∙◌}
use Rattle.std.proofs.lemmas.Result.{on_ok_weaker}
use Rattle.gds_pack.specs.Entry.{items}
use Rattle.gds_pack.specs.Packed.{block_bytes}
use Rattle.gds_splice.proofs.EntriesPutLemmas.{entries_put, more_by_put}
use Rattle.gds_splice.proofs.writing.put_packed.Goals as goal

pub returns-clause-put : goal.returns-clause-put
returns-clause-put g c =
    on_ok_weaker c.put.result (λ put image is.
    entries_put image c.args.draft.now c.put.new.draft c.args.n c.args.level c.args.base.now.header.block_size
    (items c.args.entries.now) c.pack.new.out (c.hold_draft.ensures image is) c.requires.draft.block_size
    (c.pack.ensures.written ∙ ap (block_bytes (items c.args.entries.now) c.args.level 0) c.requires.room)
    c.requires.fits (put image is)) c.put.ensures.put

pub returns-clause-more : goal.returns-clause-more
returns-clause-more g c =
    more_by_put c.put.result c.args.draft.now c.put.new.draft c.args.n c.pack.new.out c.header-drafted.ensures.draft
    c.put.ensures.units c.put.ensures.err
