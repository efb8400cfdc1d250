use Rattle.std.proofs.Common.{Bool, List, sym, ap, ◌∙◌, arith}
use Rattle.std.specs.Global.{Vec}
use Rattle.std.proofs.lemmas.List.{length-map}
use Rattle.std.proofs.lemmas.Result.{IfOk-weaker}
use Rattle.host_model.proofs.FailureLemmas.{NeverFell-refl}
use Rattle.gds_draft.specs.Drafted.{drafted}
use Rattle.gds_header.specs.declared.header.Header.{Header}
use Rattle.gds_pack.specs.Entry.{item, items}
use Rattle.gds_pack.specs.declared.entry.Entry.{Entry}
use Rattle.gds_splice.proofs.DraftingLemmas.{ends_exit, same_header, same_image}
use Rattle.gds_splice.proofs.EntriesPutLemmas.{drafted_fields}
use Rattle.gds_remove.proofs.CuttingLemmas.{ends_on}
use Rattle.gds_remove.proofs.NodeLemmas.{ends_changed}
use Rattle.gds_remove.proofs.TakeOutLemmas.{cannot_put_out, none_there, nothing_read, takes_out}
use Rattle.gds_remove.proofs.WritesLemmas.{OnlyWrites-one, OnlyWrites-read, OnlyWrites-then}
use Rattle.gds_remove.proofs.children.take_out.Goals as goal

pub returns-in_err-entries-clause-ends : goal.returns-in_err-entries-clause-ends
returns-in_err-entries-clause-ends g c =
    let now = g.H.Host.failures c.args.base.now.host in
    ends_exit (Vec Entry) Bool now now (g.H.Host.failures c.read_level.new.base.host) _ _
    c.in_err-entries.field-0.0 c.from_residual.result (NeverFell-refl now)
    (λ none image is. nothing_read (drafted c.args.draft.now image) c.args.n c.args.level c.args.offset (none image is))
    c.from_residual.ensures.1 c.in_err-entries.ensures.ends

pub returns-then-not-remove_at-clause-ends : goal.returns-then-not-remove_at-clause-ends
returns-then-not-remove_at-clause-ends g c =
    let h = g.H.Host in
    ends_changed Bool (h.failures c.args.base.now.host) (h.failures c.read_level.new.base.host) _ c.changed.result
    c.changed.ensures (λ image is. none_there (drafted c.args.draft.now image) c.args.n c.args.level c.args.offset
    (items c.in_ok-entries.entries.items) (items c.remove_at.new.entries.items)
    (c.in_ok-entries.ensures.entries image is) c.remove_at.result c.remove_at.ensures c.if-not-remove_at.true)

pub returns-clause-taken : goal.returns-clause-taken
returns-clause-taken g c =
    let h = g.H.Host in
    let es : List Entry = c.in_ok-entries.entries.items in
    IfOk-weaker c.put_children.result _ _
    (λ empty put image is. takes_out (drafted c.args.draft.now image) c.args.n c.args.level c.args.offset (items es)
    (items c.remove_at.new.entries.items) (c.in_ok-entries.ensures.entries image is) c.remove_at.result
    c.remove_at.ensures (drafted c.put_children.new.draft image) c.len-count.result empty
    (omega (arith, c.len-count.ensures, length-map es item, c.in_ok-entries.entries.ok.0))
    (put image (same_image h.told h.moment h.failures h.left_since c.args.base.now c.read_level.new.base
    c.in_ok-entries.ensures.read ∙ is)))
    c.put_children.ensures.put

pub returns-clause-drafts : goal.returns-clause-drafts
returns-clause-drafts g c =
    let h = g.H.Host in
    OnlyWrites-then h.told h.moment h.failures h.left_since c.args.base.now c.read_level.new.base c.read_level.new.base
    c.args.draft.now c.args.draft.now c.put_children.new.draft 0 1
    (OnlyWrites-read h.told h.moment h.failures h.left_since c.args.base.now c.read_level.new.base c.args.draft.now
    c.in_ok-entries.ensures.read)
    (OnlyWrites-one h.told h.moment h.failures h.left_since c.read_level.new.base c.args.draft.now
    c.put_children.new.draft c.put_children.ensures.one)

pub returns-clause-ends : goal.returns-clause-ends
returns-clause-ends g c =
    let h = g.H.Host in
    let read = c.in_ok-entries.ensures.read in
    ends_on Bool (h.failures c.args.base.now.host) (h.failures c.read_level.new.base.host)
    (h.failures c.read_level.new.base.host) _ _ c.put_children.result read.read.failures
    (λ cannot image is. cannot_put_out (drafted c.args.draft.now image) c.args.n c.args.level c.args.offset
    (items c.in_ok-entries.entries.items) (items c.remove_at.new.entries.items)
    (c.in_ok-entries.ensures.entries image is) c.remove_at.result c.remove_at.ensures c.read_level.new.base.header
    c.len-count.result
    (ap (λ (x : Header). x.block_size) (drafted_fields image c.args.draft.now (c.hold_draft.ensures image is))
    ∙ c.requires.block_size
    ∙ ap (λ (x : Header). x.block_size)
    (sym (same_header h.told h.moment h.failures h.left_since c.args.base.now c.read_level.new.base read)))
    cannot)
    c.put_children.ensures.ends
