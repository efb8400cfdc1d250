use Rattle.std.proofs.Common.{rules, ◌≡◌, ◌∙◌, Bool, true, false}
use Rattle.host_model.proofs.FailureLemmas.{NeverFell-refl}
use Rattle.gds_splice.proofs.DraftingLemmas.{ends_exit, same_image}
use Rattle.gds_units.specs.State.{image_of}
use Rattle.m_key.specs.Reference.{node_of, place_of}
use Rattle.gds_globals.proofs.EndingLemmas.{read_last}
use Rattle.gds_globals.proofs.TakingLemmas.{cannot_drop, cannot_there, none_left, some_left}
use Rattle.gds_globals.proofs.taking.kill_in_draft.Goals as goal

pub returns-in_err-kill_in-clause-ends : goal.returns-in_err-kill_in-clause-ends
returns-in_err-kill_in-clause-ends g c =
    let h = g.H.Host in
    let a = h.failures c.args.base.now.host in
    ends_exit Bool _ a a (h.failures c.kill_in.new.base.host) _ _ c.in_err-kill_in.field-0.0 c.from_residual.result
    (NeverFell-refl a)
    (cannot_there (image_of c.args.base.now) c.args.draft.now c.kill_in.new.draft (place_of c.args.reference.now)
    c.args.root)
    c.from_residual.ensures.1 c.in_err-kill_in.ensures.ends

pub returns-then-not-branch-clause-killed : goal.returns-then-not-branch-clause-killed
returns-then-not-branch-clause-killed g c =
    let some : c.in_ok-kill_in.field-0 ≡ false = search rules in
    some_left (image_of c.args.base.now) c.args.draft.now c.kill_in.new.draft (place_of c.args.reference.now)
    c.args.root c.args.key.now c.deref.result.now c.requires.key
    (c.deref.ensures.0 ∙ c.past_key-past.ensures (node_of c.args.reference.now) c.requires.key)
    c.in_ok-kill_in.field-0 c.in_ok-kill_in.ensures.killed some

pub returns-clause-killed : goal.returns-clause-killed
returns-clause-killed g c =
    let h = g.H.Host in
    let none : c.in_ok-kill_in.field-0 ≡ true = search rules in
    let same = same_image h.told h.moment h.failures h.left_since c.args.base.now c.kill_in.new.base
    c.kill_in.ensures.drafts.read in
    none_left (image_of c.args.base.now) c.args.draft.now c.kill_in.new.draft (place_of c.args.reference.now)
    c.args.root c.args.key.now c.deref.result.now c.requires.key
    (c.deref.ensures.0 ∙ c.past_key-past.ensures (node_of c.args.reference.now) c.requires.key)
    c.in_ok-kill_in.field-0 c.in_ok-kill_in.ensures.killed none (image_of c.kill_in.new.base) same
    c.drop_global.result c.drop_global.new.draft c.drop_global.ensures.dropped

pub returns-clause-ends : goal.returns-clause-ends
returns-clause-ends g c =
    let h = g.H.Host in
    let none : c.in_ok-kill_in.field-0 ≡ true = search rules in
    let read = c.kill_in.ensures.drafts.read in
    let same = same_image h.told h.moment h.failures h.left_since c.args.base.now c.kill_in.new.base read in
    read_last (h.failures c.args.base.now.host) (h.failures c.kill_in.new.base.host)
    (h.failures c.drop_global.new.base.host) _ _ read.read.failures
    (cannot_drop (image_of c.args.base.now) c.args.draft.now c.kill_in.new.draft (place_of c.args.reference.now)
    c.args.root c.args.key.now c.deref.result.now c.requires.key
    (c.deref.ensures.0 ∙ c.past_key-past.ensures (node_of c.args.reference.now) c.requires.key)
    c.in_ok-kill_in.field-0 c.in_ok-kill_in.ensures.killed none (image_of c.kill_in.new.base) same)
    c.drop_global.result c.drop_global.ensures.ends
