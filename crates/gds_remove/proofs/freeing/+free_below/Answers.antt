use Rattle.std.proofs.Common.{◌+◌, ◌-◌, ℕ, List, drop, length, sym, ap, ◌∙◌}
use Rattle.std.proofs.Common.{subst}
use Rattle.host_model.proofs.FailureLemmas.{NeverFell-refl}
use Rattle.gds_block.specs.Fields.{u32_at}
use Rattle.gds_draft.specs.Drafted.{drafted}
use Rattle.gds_pack.specs.Entry.{item, items}
use Rattle.gds_pack.specs.declared.entry.Entry.{Entry}
use Rattle.std.specs.Global.{Vec}
use Rattle.gds_remove.specs.Block.{AreEntriesAt, CannotFree, FreesBelow, FreesOne}
use Rattle.gds_remove.specs.Cut.{NoneStands}
use Rattle.gds_splice.proofs.DraftingLemmas.{ends_exit, same_image}
use Rattle.gds_remove.proofs.FreeingLemmas.{cannot_below, cannot_one, cannot_point, not_read_none}
use Rattle.gds_remove.proofs.FreeingLemmas.{so_far_all, so_far_at, so_far_end, so_far_next, so_far_none}
use Rattle.gds_remove.proofs.NodeLemmas.{ends_changed}
use Rattle.gds_remove.proofs.WritesLemmas.{OnlyWrites-read, OnlyWrites-then}
use Rattle.gds_remove.proofs.freeing.+free_below.Goals as goal

pub loop-entry-init : goal.loop-entry-init
loop-entry-init g t c =
    let h = g.H.Host in record {
      only = OnlyWrites-read h.told h.moment h.failures h.left_since c.args.base.now c.read_level.new.base
          c.args.draft.now c.in_ok-entries.ensures.read;
      frees = λ image is. so_far_none (drafted c.args.draft.now image) c.args.n c.args.level
          (items c.deref-entry-items.result.now)
          (subst (λ (es : List Entry). AreEntriesAt c.args.n c.args.level (items es) (drafted c.args.draft.now image))
          (sym c.deref-entry-items.ensures.value) (c.in_ok-entries.ensures.entries image is));
    }

pub returns-in_err-entries-clause-ends : goal.returns-in_err-entries-clause-ends
returns-in_err-entries-clause-ends g t c =
    let now = g.H.Host.failures c.args.base.now.host in
    ends_exit (Vec Entry) (Unit {0}) now now (g.H.Host.failures c.read_level.new.base.host) _ _
    c.in_err-entries.field-0.0 c.from_residual.result (NeverFell-refl now)
    (λ none image is. not_read_none (drafted c.args.draft.now image) c.args.n c.args.level c.if-level-eq0.false
    (none image is))
    c.from_residual.ensures.1 c.in_err-entries.ensures.ends

pub returns-in_default-clause-ends : goal.returns-in_default-clause-ends
returns-in_default-clause-ends g t c =
    let h = g.H.Host in
    let e : Entry = c.entry-item.result in
    let entries : List Entry = c.deref-entry-items.result.now in
    let k : ℕ = c.loop-entry.entry-index in
    ends_changed (Unit {0}) (h.failures c.args.base.now.host) (h.failures c.loop-entry.base.host) _ c.changed.result
    c.changed.ensures (λ image is.
    let before : List ℕ = drafted c.args.draft.now image in
    let now : List ℕ = drafted c.loop-entry.draft image in
    cannot_point before now c.args.n (item e) (items (drop (k + 1) entries)) c.args.level c.if-level-eq0.false
    (so_far_at before now c.args.n c.args.level entries k e c.loop-entry-test.true c.entry-item.is
    (c.loop-entry.invariant.frees image is)) (λ size. c.in_default.ensures (ap length c.deref.ensures.value ∙ size)))

pub returns-in_err-free_below-clause-ends : goal.returns-in_err-free_below-clause-ends
returns-in_err-free_below-clause-ends g t c =
    let h = g.H.Host in
    let e : Entry = c.entry-item.result in
    let entries : List Entry = c.deref-entry-items.result.now in
    let k : ℕ = c.loop-entry.entry-index in
    let only = c.loop-entry.invariant.only in
    ends_exit (Unit {0}) (Unit {0}) (h.failures c.args.base.now.host) (h.failures c.loop-entry.base.host)
    (h.failures c.free_below.new.base.host) _ _ c.in_err-free_below.field-0.0
    c.from_residual-in_err-free_below.result only.read.read.failures
    (λ none image is.
    let before : List ℕ = drafted c.args.draft.now image in
    let now : List ℕ = drafted c.loop-entry.draft image in
    cannot_below before now c.args.n (item e) (items (drop (k + 1) entries)) c.args.level c.if-level-eq0.false
    (so_far_at before now c.args.n c.args.level entries k e c.loop-entry-test.true c.entry-item.is
    (c.loop-entry.invariant.frees image is))
    (subst (λ child. NoneStands child (c.args.level - 1) now)
    (c.in-Some.ensures.1 ∙ ap (λ bs. u32_at bs 0) c.deref.ensures.value)
    (none image (same_image h.told h.moment h.failures h.left_since c.args.base.now c.loop-entry.base only.read
    ∙ is))))
    c.from_residual-in_err-free_below.ensures.1 c.in_err-free_below.ensures.ends

pub returns-in_err-free_tested-clause-ends : goal.returns-in_err-free_tested-clause-ends
returns-in_err-free_tested-clause-ends g t c =
    let h = g.H.Host in
    let e : Entry = c.entry-item.result in
    let entries : List Entry = c.deref-entry-items.result.now in
    let k : ℕ = c.loop-entry.entry-index in
    let only = c.loop-entry.invariant.only in
    let then = OnlyWrites-then h.told h.moment h.failures h.left_since c.args.base.now c.loop-entry.base
    c.free_below.new.base c.args.draft.now c.loop-entry.draft c.free_below.new.draft 0 0 only
    c.in_ok-free_below.ensures.drafts in
    ends_exit (Unit {0}) (Unit {0}) (h.failures c.args.base.now.host) (h.failures c.free_below.new.base.host)
    (h.failures c.free_tested.new.base.host) _ _ c.in_err-free_tested.field-0.0
    c.from_residual-in_err-free_tested.result then.read.read.failures
    (λ cannot image is.
    let before : List ℕ = drafted c.args.draft.now image in
    let now : List ℕ = drafted c.loop-entry.draft image in
    let mid : List ℕ = drafted c.free_below.new.draft image in
    let same = same_image h.told h.moment h.failures h.left_since c.args.base.now c.loop-entry.base only.read in
    cannot_one before now c.args.n (item e) (items (drop (k + 1) entries)) mid c.args.level c.if-level-eq0.false
    (so_far_at before now c.args.n c.args.level entries k e c.loop-entry-test.true c.entry-item.is
    (c.loop-entry.invariant.frees image is))
    (subst (λ child. FreesBelow child (c.args.level - 1) now mid)
    (c.in-Some.ensures.1 ∙ ap (λ bs. u32_at bs 0) c.deref.ensures.value)
    (c.in_ok-free_below.ensures.freed image (same ∙ is)))
    (subst (λ child. CannotFree child mid)
    (c.in-Some.ensures.1 ∙ ap (λ bs. u32_at bs 0) c.deref.ensures.value)
    (cannot image (same_image h.told h.moment h.failures h.left_since c.args.base.now c.free_below.new.base then.read
    ∙ is))))
    c.from_residual-in_err-free_tested.ensures.1 c.in_err-free_tested.ensures.ends

pub loop-entry-preserved : goal.loop-entry-preserved
loop-entry-preserved g t c =
    let h = g.H.Host in
    let e : Entry = c.entry-item.result in
    let entries : List Entry = c.deref-entry-items.result.now in
    let k : ℕ = c.loop-entry.entry-index in
    let only = c.loop-entry.invariant.only in
    let then = OnlyWrites-then h.told h.moment h.failures h.left_since c.args.base.now c.loop-entry.base
    c.free_below.new.base c.args.draft.now c.loop-entry.draft c.free_below.new.draft 0 0 only
    c.in_ok-free_below.ensures.drafts in record {
      only = OnlyWrites-then h.told h.moment h.failures h.left_since c.args.base.now c.free_below.new.base
          c.free_tested.new.base c.args.draft.now c.free_below.new.draft c.free_tested.new.draft 0 0 then
          c.in_ok-free_tested.ensures.drafts;
      frees = λ image is.
          let before : List ℕ = drafted c.args.draft.now image in
          let now : List ℕ = drafted c.loop-entry.draft image in
          let mid : List ℕ = drafted c.free_below.new.draft image in
          let after : List ℕ = drafted c.free_tested.new.draft image in
          let same = same_image h.told h.moment h.failures h.left_since c.args.base.now c.loop-entry.base only.read in
          so_far_next before now c.args.n (item e) (items (drop (k + 1) entries)) mid after c.args.level
          (so_far_at before now c.args.n c.args.level entries k e c.loop-entry-test.true c.entry-item.is
          (c.loop-entry.invariant.frees image is))
          (subst (λ child. FreesBelow child (c.args.level - 1) now mid)
          (c.in-Some.ensures.1 ∙ ap (λ bs. u32_at bs 0) c.deref.ensures.value)
          (c.in_ok-free_below.ensures.freed image (same ∙ is)))
          (subst (λ child. FreesOne child mid after)
          (c.in-Some.ensures.1 ∙ ap (λ bs. u32_at bs 0) c.deref.ensures.value)
          (c.in_ok-free_tested.ensures.freed image
          (same_image h.told h.moment h.failures h.left_since c.args.base.now c.free_below.new.base then.read ∙ is)));
    }

pub returns-clause-freed : goal.returns-clause-freed
returns-clause-freed g t c image is =
    let before : List ℕ = drafted c.args.draft.now image in
    let now : List ℕ = drafted c.loop-entry.draft image in
    so_far_all before now c.args.n c.args.level c.if-level-eq0.false
    (so_far_end before now c.args.n c.args.level c.deref-entry-items.result.now c.loop-entry.entry-index
    c.loop-entry-test.false (c.loop-entry.invariant.frees image is))
