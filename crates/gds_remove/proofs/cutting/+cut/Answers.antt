use Rattle.std.proofs.Common.{◌≡◌, ◌-◌, ◌∷◌, ◌++◌, [], ℕ, Bool, true, false, List, None, Some}
use Rattle.std.proofs.Common.{refl, ap, ◌∙◌, subst, arith}
use Rattle.std.specs.Global.{Vec}
use Rattle.std.specs.Vec.Iter.{into_iter_items}
use Rattle.std.specs.Prelude.{option_map}
use Rattle.std.proofs.lemmas.List.{length-map, nil_from_length}
use Rattle.std.proofs.lemmas.Result.{IfOk-weaker}
use Rattle.host_model.proofs.FailureLemmas.{NeverFell-refl}
use Rattle.gds_block.specs.Fields.{u32_at}
use Rattle.gds_block.specs.Item.{Item}
use Rattle.gds_draft.specs.Drafted.{drafted}
use Rattle.gds_pack.specs.Entry.{item, items}
use Rattle.gds_pack.specs.declared.entry.Entry.{Entry}
use Rattle.gds_splice.proofs.DraftingLemmas.{OnlyRead-then, ends_exit, same_image}
use Rattle.gds_remove.specs.Child.{PrunesChild}
use Rattle.gds_remove.specs.Cut.{CutsAt}
use Rattle.gds_remove.specs.Range.{Left, Range, left_of, range_of}
use Rattle.gds_remove.proofs.CuttingLemmas.{all_cut, at_rest, begins, cannot_go_on, cannot_put}
use Rattle.gds_remove.proofs.CuttingLemmas.{cut_writes_on, ends_cut, ends_on}
use Rattle.gds_remove.proofs.CuttingLemmas.{goes_on, level_up, no_entries}
use Rattle.gds_remove.proofs.PruneLemmas.{Takes, all_gone, cannot_cut, cannot_free, nothing_pruned, some_kept}
use Rattle.gds_remove.proofs.PruneLemmas.{takes_of}
use Rattle.gds_remove.proofs.SoleLemmas.{cannot_take, cut_one, none_below, not_free, take_one}
use Rattle.gds_remove.specs.Sole.{IsSole}
use Rattle.gds_remove.specs.declared.sole.SoleChild.{SoleChild}
use Rattle.gds_base.specs.Drafting.{WithDraft}
use Rattle.std.specs.Prelude.{IfSome}
use Rattle.std.proofs.Common.{Option, sym}
use Rattle.gds_remove.proofs.cutting.+cut.Goals as goal

-- ---- prune

pub prune-returns-in_default-clause-pruned : goal.prune-returns-in_default-clause-pruned
prune-returns-in_default-clause-pruned g t c = λ image is.
    let left : Left = left_of c.args.left.now in
    let after : Left = left_of c.next_part.new.self in
    nothing_pruned c.args.level (item c.args.entry.now) left after (drafted c.args.draft.now image)
    (takes_of left after c.as_slice.result.now c.args.entry.now.key.items (option_map range_of c.next_part.result) None
    c.as_slice.ensures.value (ap (option_map range_of) c.in_default.is) c.next_part.ensures.part)

pub prune-returns-in_err-cut-clause-ends : goal.prune-returns-in_err-cut-clause-ends
prune-returns-in_err-cut-clause-ends g t c =
    let now = g.H.Host.failures c.args.base.now.host in
    let left : Left = left_of c.args.left.now in
    let after : Left = left_of c.next_part.new.self in
    let part : Range = range_of c.in-Some.part in
    let takes : Takes left c.args.entry.now.key.items after (Some part) =
    takes_of left after c.as_slice.result.now c.args.entry.now.key.items (option_map range_of c.next_part.result)
    (Some part) c.as_slice.ensures.value (ap (option_map range_of) c.in-Some.is) c.next_part.ensures.part in
    ends_exit Bool Bool now now (g.H.Host.failures c.cut.new.base.host) _ _ c.in_err-cut.field-0.0
    c.from_residual.result (NeverFell-refl now)
    (λ cannot image is. cannot_cut c.args.level (item c.args.entry.now) left after (drafted c.args.draft.now image) part
    takes c.in-Some-pointer_of.child (c.in-Some-pointer_of.ensures.1 ∙ ap (λ bs. u32_at bs 0) c.deref.ensures.value)
    (cannot image is))
    c.from_residual.ensures.1 c.in_err-cut.ensures.ends

pub prune-returns-then-not-branch-clause-pruned : goal.prune-returns-then-not-branch-clause-pruned
prune-returns-then-not-branch-clause-pruned g t c = λ image is.
    let left : Left = left_of c.args.left.now in
    let after : Left = left_of c.next_part.new.self in
    let part : Range = range_of c.in-Some.part in
    let before : List ℕ = drafted c.args.draft.now image in
    let now : List ℕ = drafted c.cut.new.draft image in
    let takes : Takes left c.args.entry.now.key.items after (Some part) =
    takes_of left after c.as_slice.result.now c.args.entry.now.key.items (option_map range_of c.next_part.result)
    (Some part) c.as_slice.ensures.value (ap (option_map range_of) c.in-Some.is) c.next_part.ensures.part in
    some_kept c.args.level (item c.args.entry.now) left after before part takes c.in-Some-pointer_of.child
    (c.in-Some-pointer_of.ensures.1 ∙ ap (λ bs. u32_at bs 0) c.deref.ensures.value) now
    (subst (λ b. CutsAt c.in-Some-pointer_of.child c.args.level part b before now) c.if-not-branch.true
    (c.in_ok-cut.ensures.cut image is))

pub prune-returns-in_err-free_tested-clause-ends : goal.prune-returns-in_err-free_tested-clause-ends
prune-returns-in_err-free_tested-clause-ends g t c =
    let h = g.H.Host in
    let left : Left = left_of c.args.left.now in
    let after : Left = left_of c.next_part.new.self in
    let part : Range = range_of c.in-Some.part in
    let takes : Takes left c.args.entry.now.key.items after (Some part) =
    takes_of left after c.as_slice.result.now c.args.entry.now.key.items (option_map range_of c.next_part.result)
    (Some part) c.as_slice.ensures.value (ap (option_map range_of) c.in-Some.is) c.next_part.ensures.part in
    let read = c.in_ok-cut.ensures.drafts.read in
    ends_exit (Unit {0}) Bool (h.failures c.args.base.now.host) (h.failures c.cut.new.base.host)
    (h.failures c.free_tested.new.base.host) _ _ c.in_err-free_tested.field-0.0
    c.from_residual-in_err-free_tested.result read.read.failures
    (λ cannot image is.
    let before : List ℕ = drafted c.args.draft.now image in
    let mid : List ℕ = drafted c.cut.new.draft image in
    cannot_free c.args.level (item c.args.entry.now) left after before part takes c.in-Some-pointer_of.child
    (c.in-Some-pointer_of.ensures.1 ∙ ap (λ bs. u32_at bs 0) c.deref.ensures.value) mid
    (subst (λ b. CutsAt c.in-Some-pointer_of.child c.args.level part b before mid) c.if-not-branch.false
    (c.in_ok-cut.ensures.cut image is))
    (cannot image (same_image h.told h.moment h.failures h.left_since c.args.base.now c.cut.new.base read ∙ is)))
    c.from_residual-in_err-free_tested.ensures.1 c.in_err-free_tested.ensures.ends

pub prune-returns-clause-pruned : goal.prune-returns-clause-pruned
prune-returns-clause-pruned g t c = λ image is.
    let h = g.H.Host in
    let left : Left = left_of c.args.left.now in
    let after : Left = left_of c.next_part.new.self in
    let part : Range = range_of c.in-Some.part in
    let before : List ℕ = drafted c.args.draft.now image in
    let mid : List ℕ = drafted c.cut.new.draft image in
    let takes : Takes left c.args.entry.now.key.items after (Some part) =
    takes_of left after c.as_slice.result.now c.args.entry.now.key.items (option_map range_of c.next_part.result)
    (Some part) c.as_slice.ensures.value (ap (option_map range_of) c.in-Some.is) c.next_part.ensures.part in
    let read = c.in_ok-cut.ensures.drafts.read in
    all_gone c.args.level (item c.args.entry.now) left after before part takes c.in-Some-pointer_of.child
    (c.in-Some-pointer_of.ensures.1 ∙ ap (λ bs. u32_at bs 0) c.deref.ensures.value) mid
    (drafted c.free_tested.new.draft image)
    (subst (λ b. CutsAt c.in-Some-pointer_of.child c.args.level part b before mid) c.if-not-branch.false
    (c.in_ok-cut.ensures.cut image is))
    (c.in_ok-free_tested.ensures.freed image
    (same_image h.told h.moment h.failures h.left_since c.args.base.now c.cut.new.base read ∙ is))

-- ---- cut

pub cut-returns-then-is_all-clause-cut : goal.cut-returns-then-is_all-clause-cut
cut-returns-then-is_all-clause-cut g t c = λ image is.
    all_cut (drafted c.args.draft.now image) (drafted c.free_below.new.draft image) c.args.n c.args.level
    (range_of c.args.range) (c.is_all.ensures.0 c.if-is_all.true) (c.in_ok-free_below.ensures.freed image is)

pub cut-returns-in_err-sole-clause-ends : goal.cut-returns-in_err-sole-clause-ends
cut-returns-in_err-sole-clause-ends g t c =
    let now = g.H.Host.failures c.args.base.now.host in
    ends_exit (Option SoleChild) Bool now now (g.H.Host.failures c.sole_child.new.base.host) _ _
    c.in_err-sole.field-0.0 c.from_residual-in_err-sole.result (NeverFell-refl now)
    (λ none image is. absurd (let e : None ≡ Some image = sym none ∙ is in cc))
    c.from_residual-in_err-sole.ensures.1 c.in_err-sole.ensures.ends

pub cut-returns-clause-cut : goal.cut-returns-clause-cut
cut-returns-clause-cut g t c =
    let h = g.H.Host in
    let found = subst (λ o. IfSome o (λ sole. WithDraft c.args.base.now c.args.draft.now
    (IsSole c.args.n c.args.level (range_of c.args.range) sole))) c.in-Some.is c.in_ok-sole.ensures.sole in
    IfOk-weaker c.cut_sole.result _ _
    (λ empty cuts image is. cuts image
    (same_image h.told h.moment h.failures h.left_since c.args.base.now c.sole_child.new.base c.in_ok-sole.ensures.read
    ∙ is) (found image is))
    c.cut_sole.ensures.cut

pub cut-returns-clause-ends : goal.cut-returns-clause-ends
cut-returns-clause-ends g t c =
    let h = g.H.Host in
    let read = c.in_ok-sole.ensures.read in
    let found = subst (λ o. IfSome o (λ sole. WithDraft c.args.base.now c.args.draft.now
    (IsSole c.args.n c.args.level (range_of c.args.range) sole))) c.in-Some.is c.in_ok-sole.ensures.sole in
    ends_on Bool (h.failures c.args.base.now.host) (h.failures c.sole_child.new.base.host)
    (h.failures c.cut_sole.new.base.host) _ _ c.cut_sole.result read.read.failures
    (λ cannot image is. cannot image
    (same_image h.told h.moment h.failures h.left_since c.args.base.now c.sole_child.new.base read ∙ is)
    (found image is))
    c.cut_sole.ensures.ends

-- ---- the whole range below one child

pub cut_sole-returns-in_err-cut-clause-ends : goal.cut_sole-returns-in_err-cut-clause-ends
cut_sole-returns-in_err-cut-clause-ends g t c =
    let now = g.H.Host.failures c.args.base.now.host in
    ends_exit Bool Bool now now (g.H.Host.failures c.cut.new.base.host) _ _ c.in_err-cut.field-0.0
    c.from_residual.result (NeverFell-refl now)
    (λ cannot image is found. none_below c.args.n c.args.level (c.args.level - 1)
    (level_up c.args.level c.requires.index) (range_of c.args.range) c.args.sole (drafted c.args.draft.now image) found
    (cannot image is))
    c.from_residual.ensures.1 c.in_err-cut.ensures.ends

pub cut_sole-returns-then-not-branch-clause-cut : goal.cut_sole-returns-then-not-branch-clause-cut
cut_sole-returns-then-not-branch-clause-cut g t c = λ image is found.
    let before : List ℕ = drafted c.args.draft.now image in
    let now : List ℕ = drafted c.cut.new.draft image in
    cut_one c.args.n c.args.level (c.args.level - 1) (level_up c.args.level c.requires.index) (range_of c.args.range)
    c.args.sole before found now
    (subst (λ b. CutsAt c.args.sole.block (c.args.level - 1) (range_of c.args.range) b before now)
    c.if-not-branch.true (c.in_ok-cut.ensures.cut image is))

pub cut_sole-returns-in_err-free_tested-clause-ends : goal.cut_sole-returns-in_err-free_tested-clause-ends
cut_sole-returns-in_err-free_tested-clause-ends g t c =
    let h = g.H.Host in
    let read = c.in_ok-cut.ensures.drafts.read in
    ends_exit (Unit {0}) Bool (h.failures c.args.base.now.host) (h.failures c.cut.new.base.host)
    (h.failures c.free_tested.new.base.host) _ _ c.in_err-free_tested.field-0.0
    c.from_residual-in_err-free_tested.result read.read.failures
    (λ cannot image is found.
    let before : List ℕ = drafted c.args.draft.now image in
    let mid : List ℕ = drafted c.cut.new.draft image in
    not_free c.args.n c.args.level (c.args.level - 1) (level_up c.args.level c.requires.index) (range_of c.args.range)
    c.args.sole before found mid
    (subst (λ b. CutsAt c.args.sole.block (c.args.level - 1) (range_of c.args.range) b before mid)
    c.if-not-branch.false (c.in_ok-cut.ensures.cut image is))
    (cannot image (same_image h.told h.moment h.failures h.left_since c.args.base.now c.cut.new.base read ∙ is)))
    c.from_residual-in_err-free_tested.ensures.1 c.in_err-free_tested.ensures.ends

pub cut_sole-returns-clause-cut : goal.cut_sole-returns-clause-cut
cut_sole-returns-clause-cut g t c =
    let h = g.H.Host in
    let read = c.in_ok-cut.ensures.drafts.read in
    let later = OnlyRead-then h.told h.moment h.failures h.left_since c.args.base.now c.cut.new.base
    c.free_tested.new.base read c.in_ok-free_tested.ensures.drafts.read in
    IfOk-weaker c.take_out.result _ _
    (λ empty takes image is found.
    let before : List ℕ = drafted c.args.draft.now image in
    let mid : List ℕ = drafted c.cut.new.draft image in
    take_one c.args.n c.args.level (c.args.level - 1) (level_up c.args.level c.requires.index) (range_of c.args.range)
    c.args.sole before found mid
    (subst (λ b. CutsAt c.args.sole.block (c.args.level - 1) (range_of c.args.range) b before mid)
    c.if-not-branch.false (c.in_ok-cut.ensures.cut image is))
    (drafted c.free_tested.new.draft image)
    (c.in_ok-free_tested.ensures.freed image
    (same_image h.told h.moment h.failures h.left_since c.args.base.now c.cut.new.base read ∙ is))
    (drafted c.take_out.new.draft image) empty
    (takes image
    (same_image h.told h.moment h.failures h.left_since c.args.base.now c.free_tested.new.base later ∙ is)))
    c.take_out.ensures.taken

pub cut_sole-returns-clause-ends : goal.cut_sole-returns-clause-ends
cut_sole-returns-clause-ends g t c =
    let h = g.H.Host in
    let read = c.in_ok-cut.ensures.drafts.read in
    let later = OnlyRead-then h.told h.moment h.failures h.left_since c.args.base.now c.cut.new.base
    c.free_tested.new.base read c.in_ok-free_tested.ensures.drafts.read in
    ends_on Bool (h.failures c.args.base.now.host) (h.failures c.free_tested.new.base.host)
    (h.failures c.take_out.new.base.host) _ _ c.take_out.result later.read.failures
    (λ cannot image is found.
    let before : List ℕ = drafted c.args.draft.now image in
    let mid : List ℕ = drafted c.cut.new.draft image in
    cannot_take c.args.n c.args.level (c.args.level - 1) (level_up c.args.level c.requires.index)
    (range_of c.args.range) c.args.sole before found mid
    (subst (λ b. CutsAt c.args.sole.block (c.args.level - 1) (range_of c.args.range) b before mid)
    c.if-not-branch.false (c.in_ok-cut.ensures.cut image is))
    (drafted c.free_tested.new.draft image)
    (c.in_ok-free_tested.ensures.freed image
    (same_image h.told h.moment h.failures h.left_since c.args.base.now c.cut.new.base read ∙ is))
    (cannot image
    (same_image h.told h.moment h.failures h.left_since c.args.base.now c.free_tested.new.base later ∙ is)))
    c.take_out.ensures.ends

-- ---- one child after another

pub cut_children-returns-in_err-entries-clause-ends : goal.cut_children-returns-in_err-entries-clause-ends
cut_children-returns-in_err-entries-clause-ends g t c =
    let now = g.H.Host.failures c.args.base.now.host in
    ends_exit (Vec Entry) Bool now now (g.H.Host.failures c.read_level.new.base.host) _ _
    c.in_err-entries.field-0.0 c.from_residual.result (NeverFell-refl now)
    (λ none image is. no_entries (drafted c.args.draft.now image) c.args.n c.args.level (c.args.level - 1)
    (level_up c.args.level c.requires.index) (none image is))
    c.from_residual.ensures.1 c.in_err-entries.ensures.ends

pub cut_children-loop-entry-init : goal.cut_children-loop-entry-init
cut_children-loop-entry-init g t c =
    let h = g.H.Host in
    let es : List Entry = c.in_ok-entries.entries.items in
    begins c.args.n c.args.level (c.args.level - 1) (level_up c.args.level c.requires.index) (range_of c.args.range)
    h.told h.moment h.failures h.left_since c.args.base.now c.read_level.new.base c.args.draft.now c.len-count.result
    (items c.new-kept.result.items) (items es) (items (into_iter_items c.into_iter-entry-iterator.result))
    (left_of (record { range = c.args.range; is_past = false })) c.in_ok-entries.ensures.read
    c.in_ok-entries.ensures.entries
    (omega (arith, c.len-count.ensures, length-map es item, c.in_ok-entries.entries.ok.0))
    (ap items c.new-kept.ensures.items) (ap items c.into_iter-entry-iterator.ensures.into_iter_gives.0) refl

pub cut_children-returns-in_err-prune-clause-drafts : goal.cut_children-returns-in_err-prune-clause-drafts
cut_children-returns-in_err-prune-clause-drafts g t c =
    let h = g.H.Host in
    cut_writes_on c.args.n c.args.level (c.args.level - 1) (level_up c.args.level c.requires.index)
    (range_of c.args.range) h.told h.moment h.failures h.left_since c.args.base.now c.loop-entry.base c.prune.new.base
    c.args.draft.now c.loop-entry.draft c.prune.new.draft c.len-count.result (items c.loop-entry.kept.items)
    (items (into_iter_items c.loop-entry.entry-iterator)) (left_of c.loop-entry.left) (left_of c.prune.new.left)
    c.loop-entry.invariant c.in_err-prune.ensures.fewer c.in_err-prune.ensures.drafts

pub cut_children-returns-in_err-prune-clause-ends : goal.cut_children-returns-in_err-prune-clause-ends
cut_children-returns-in_err-prune-clause-ends g t c =
    let h = g.H.Host in
    let is = level_up c.args.level c.requires.index in
    let e : Item = item c.in-Some.entry in
    let kept : List Item = items c.loop-entry.kept.items in
    let rest : List Item = items (into_iter_items c.next.new.self) in
    let left : Left = left_of c.loop-entry.left in
    let so_far = at_rest c.args.n c.args.level (c.args.level - 1) is (range_of c.args.range) h.told h.moment h.failures
    h.left_since c.args.base.now c.loop-entry.base c.args.draft.now c.loop-entry.draft c.len-count.result kept kept
    (items (into_iter_items c.loop-entry.entry-iterator)) (e ∷ rest) left refl (ap items c.in-Some.ensures.steps.0)
    c.loop-entry.invariant in
    ends_exit Bool Bool (h.failures c.args.base.now.host) (h.failures c.loop-entry.base.host)
    (h.failures c.prune.new.base.host) _ _ c.in_err-prune.field-0.0 c.from_residual-in_err-prune.result
    c.loop-entry.invariant.only.read.read.failures
    (cannot_go_on c.args.n c.args.level (c.args.level - 1) is (range_of c.args.range) h.told h.moment h.failures
    h.left_since c.args.base.now c.loop-entry.base c.args.draft.now c.loop-entry.draft c.len-count.result kept e rest
    left so_far)
    c.from_residual-in_err-prune.ensures.1 c.in_err-prune.ensures.ends

pub cut_children-loop-entry-preserved-in_ok-keep : goal.cut_children-loop-entry-preserved-in_ok-keep
cut_children-loop-entry-preserved-in_ok-keep g t c =
    let h = g.H.Host in
    let is = level_up c.args.level c.requires.index in
    let e : Item = item c.in-Some.entry in
    let kept : List Item = items c.loop-entry.kept.items in
    let rest : List Item = items (into_iter_items c.next.new.self) in
    let left : Left = left_of c.loop-entry.left in
    let later : Left = left_of c.prune.new.left in
    let so_far = at_rest c.args.n c.args.level (c.args.level - 1) is (range_of c.args.range) h.told h.moment h.failures
    h.left_since c.args.base.now c.loop-entry.base c.args.draft.now c.loop-entry.draft c.len-count.result kept kept
    (items (into_iter_items c.loop-entry.entry-iterator)) (e ∷ rest) left refl (ap items c.in-Some.ensures.steps.0)
    c.loop-entry.invariant in
    let next = goes_on c.args.n c.args.level (c.args.level - 1) is (range_of c.args.range) h.told h.moment h.failures
    h.left_since c.args.base.now c.loop-entry.base c.prune.new.base c.args.draft.now c.loop-entry.draft
    c.prune.new.draft c.len-count.result kept e rest left later false so_far
    (λ image told. subst (λ b. PrunesChild (c.args.level - 1) e left b (drafted c.loop-entry.draft image)
    (drafted c.prune.new.draft image)) c.if-not-branch.true (c.in_ok-prune.ensures.pruned image told))
    c.in_ok-prune.ensures.left c.in_ok-prune.ensures.fewer c.in_ok-prune.ensures.drafts in
    at_rest c.args.n c.args.level (c.args.level - 1) is (range_of c.args.range) h.told h.moment h.failures
    h.left_since c.args.base.now c.prune.new.base c.args.draft.now c.prune.new.draft c.len-count.result
    (kept ++ e ∷ []) (items c.keep.new.kept.items) rest rest later c.in_ok-keep.ensures refl next

pub cut_children-returns-in_err-keep-clause-drafts : goal.cut_children-returns-in_err-keep-clause-drafts
cut_children-returns-in_err-keep-clause-drafts g t c =
    let h = g.H.Host in
    cut_writes_on c.args.n c.args.level (c.args.level - 1) (level_up c.args.level c.requires.index)
    (range_of c.args.range) h.told h.moment h.failures h.left_since c.args.base.now c.loop-entry.base c.prune.new.base
    c.args.draft.now c.loop-entry.draft c.prune.new.draft c.len-count.result (items c.loop-entry.kept.items)
    (items (into_iter_items c.loop-entry.entry-iterator)) (left_of c.loop-entry.left) (left_of c.prune.new.left)
    c.loop-entry.invariant c.in_ok-prune.ensures.fewer c.in_ok-prune.ensures.drafts

pub cut_children-loop-entry-preserved : goal.cut_children-loop-entry-preserved
cut_children-loop-entry-preserved g t c =
    let h = g.H.Host in
    let is = level_up c.args.level c.requires.index in
    let e : Item = item c.in-Some.entry in
    let kept : List Item = items c.loop-entry.kept.items in
    let rest : List Item = items (into_iter_items c.next.new.self) in
    let left : Left = left_of c.loop-entry.left in
    let later : Left = left_of c.prune.new.left in
    let so_far = at_rest c.args.n c.args.level (c.args.level - 1) is (range_of c.args.range) h.told h.moment h.failures
    h.left_since c.args.base.now c.loop-entry.base c.args.draft.now c.loop-entry.draft c.len-count.result kept kept
    (items (into_iter_items c.loop-entry.entry-iterator)) (e ∷ rest) left refl (ap items c.in-Some.ensures.steps.0)
    c.loop-entry.invariant in
    goes_on c.args.n c.args.level (c.args.level - 1) is (range_of c.args.range) h.told h.moment h.failures
    h.left_since c.args.base.now c.loop-entry.base c.prune.new.base c.args.draft.now c.loop-entry.draft
    c.prune.new.draft c.len-count.result kept e rest left later true so_far
    (λ image told. subst (λ b. PrunesChild (c.args.level - 1) e left b (drafted c.loop-entry.draft image)
    (drafted c.prune.new.draft image)) c.if-not-branch.false (c.in_ok-prune.ensures.pruned image told))
    c.in_ok-prune.ensures.left c.in_ok-prune.ensures.fewer c.in_ok-prune.ensures.drafts

pub cut_children-returns-clause-cut : goal.cut_children-returns-clause-cut
cut_children-returns-clause-cut g t c =
    let h = g.H.Host in
    let is = level_up c.args.level c.requires.index in
    let kept : List Item = items c.loop-entry.kept.items in
    let left : Left = left_of c.loop-entry.left in
    let over : into_iter_items c.loop-entry.entry-iterator ≡ [] = nil_from_length
    (into_iter_items c.loop-entry.entry-iterator)
    (omega (arith, c.loop-entry.entry-iterator.rest.ok.0, c.in-None.ensures.steps.0)) in
    let all = at_rest c.args.n c.args.level (c.args.level - 1) is (range_of c.args.range) h.told h.moment h.failures
    h.left_since c.args.base.now c.loop-entry.base c.args.draft.now c.loop-entry.draft c.len-count.result kept kept
    (items (into_iter_items c.loop-entry.entry-iterator)) [] left refl (ap items over) c.loop-entry.invariant in
    IfOk-weaker c.put_children.result _ _
    (λ empty put. ends_cut c.args.n c.args.level (c.args.level - 1) is (range_of c.args.range) h.told h.moment
    h.failures h.left_since c.args.base.now c.loop-entry.base c.args.draft.now c.loop-entry.draft
    c.put_children.new.draft c.len-count.result kept left empty all put) c.put_children.ensures.put

pub cut_children-returns-clause-ends : goal.cut_children-returns-clause-ends
cut_children-returns-clause-ends g t c =
    let h = g.H.Host in
    let is = level_up c.args.level c.requires.index in
    let kept : List Item = items c.loop-entry.kept.items in
    let left : Left = left_of c.loop-entry.left in
    let over : into_iter_items c.loop-entry.entry-iterator ≡ [] = nil_from_length
    (into_iter_items c.loop-entry.entry-iterator)
    (omega (arith, c.loop-entry.entry-iterator.rest.ok.0, c.in-None.ensures.steps.0)) in
    let all = at_rest c.args.n c.args.level (c.args.level - 1) is (range_of c.args.range) h.told h.moment h.failures
    h.left_since c.args.base.now c.loop-entry.base c.args.draft.now c.loop-entry.draft c.len-count.result kept kept
    (items (into_iter_items c.loop-entry.entry-iterator)) [] left refl (ap items over) c.loop-entry.invariant in
    ends_on Bool (h.failures c.args.base.now.host) (h.failures c.loop-entry.base.host)
    (h.failures c.loop-entry.base.host) _ _ c.put_children.result c.loop-entry.invariant.only.read.read.failures
    (cannot_put c.args.n c.args.level (c.args.level - 1) is (range_of c.args.range) h.told h.moment h.failures
    h.left_since c.args.base.now c.loop-entry.base c.args.draft.now c.loop-entry.draft c.len-count.result kept left all
    c.requires.draft c.hold_draft.ensures)
    c.put_children.ensures.ends
