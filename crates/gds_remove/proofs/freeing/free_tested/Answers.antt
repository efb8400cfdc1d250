use Rattle.std.proofs.Common.{◌∙◌, sym, subst}
use Rattle.std.proofs.lemmas.Bool.{false≢true}
use Rattle.std.proofs.lemmas.Result.{on_ok_weaker}
use Rattle.gds_draft.specs.Drafted.{drafted}
use Rattle.gds_header.specs.declared.header.Header.{Header}
use Rattle.gds_tree.specs.Lawful.{IsTreeNumber}
use Rattle.gds_splice.proofs.EntriesPutLemmas.{drafted_fields}
use Rattle.gds_remove.proofs.LeavesLemmas.{leaves_freed}
use Rattle.gds_remove.proofs.NodeLemmas.{ends_changed}
use Rattle.gds_remove.proofs.WritesLemmas.{OnlyWrites-drafts}
use Rattle.gds_remove.proofs.freeing.free_tested.Goals as goal

pub returns-then-not-may_be_in_tree-clause-ends : goal.returns-then-not-may_be_in_tree-clause-ends
returns-then-not-may_be_in_tree-clause-ends g c =
    let now = g.H.Host.failures c.args.base.now.host in
    ends_changed (Unit {0}) now now _ c.changed.result c.changed.ensures (λ image is lawful number.
    false≢true (sym c.if-not-may_be_in_tree.true ∙ c.may_be_in_tree.ensures.1
    (subst (λ (h : Header). IsTreeNumber h.total c.args.n)
    (drafted_fields image c.args.draft.now (c.hold_draft.ensures image is) ∙ sym c.header.ensures.header) number)))

pub returns-clause-freed : goal.returns-clause-freed
returns-clause-freed g c =
    on_ok_weaker c.free_block.result (λ freed image is lawful number busy.
    leaves_freed (drafted c.args.draft.now image) (drafted c.free_block.new.draft image) c.args.n (freed image is)
    lawful busy) c.free_block.ensures.freed

pub returns-clause-drafts : goal.returns-clause-drafts
returns-clause-drafts g c =
    let h = g.H.Host in
    OnlyWrites-drafts h.told h.moment h.failures h.left_since c.args.base.now c.free_block.new.self c.args.draft.now
    c.free_block.new.draft 1 c.free_block.ensures.drafts c.free_block.ensures.maps
