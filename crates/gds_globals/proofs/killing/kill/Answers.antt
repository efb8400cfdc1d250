use Rattle.std.proofs.Common.{◌∙◌, Err, ap, subst}
use Rattle.std.specs.Prelude.{IfNone, IfSome}
use Rattle.std.specs.Option.{ForSome}
use Rattle.std.proofs.lemmas.Result.{on_ok_weaker}
use Rattle.gds_base.specs.declared.error.BaseError.TheVariants.{TnSpent}
use Rattle.gds_splice.proofs.DraftingLemmas.{same_image}
use Rattle.gds_units.specs.State.{image_of}
use Rattle.m_key.specs.Reference.{node_of, place_of}
use Rattle.gds_globals.proofs.CrashLemmas.{commit_kept, commit_moments, read_moments}
use Rattle.gds_globals.proofs.DifferLemmas.{told_differs}
use Rattle.gds_globals.proofs.KillEndingLemmas.{committed_kill, not_nothing, nothing_kept}
use Rattle.gds_globals.proofs.KillEndingLemmas.{nothing_taken, same_error}
use Rattle.gds_globals.specs.Kill.{IsAfterKill, IsNothingThere}
use Rattle.gds_globals.specs.Killing.{IsReadyKill}
use Rattle.gds_globals.proofs.killing.kill.Goals as goal

pub returns-in_err-draft-clause-spent : goal.returns-in_err-draft-clause-spent
returns-in_err-draft-clause-spent g c is =
    c.in_err-draft.ensures.spent
    (ap Err (same_error c.from_residual.result c.in_err-draft.field-0.0 TnSpent c.from_residual.ensures.1 is))

pub returns-in_err-draft-clause-any_moment : goal.returns-in_err-draft-clause-any_moment
returns-in_err-draft-clause-any_moment g c =
    let h = g.H.Host in
    read_moments h.told h.moment h.failures h.left_since c.args.base.now c.draft_kill.new.base
    c.draft_kill.ensures.read c.header-limits.ensures.found

pub returns-in_default-clause-map : goal.returns-in_default-clause-map
returns-in_default-clause-map g c =
    let h = g.H.Host in
    nothing_taken (image_of c.args.base.now) (image_of c.draft_kill.new.base) (place_of c.args.reference.now)
    (same_image h.told h.moment h.failures h.left_since c.args.base.now c.draft_kill.new.base
    c.draft_kill.ensures.read)
    (subst (λ o. IfNone o (ForSome (image_of c.args.base.now) (IsNothingThere (node_of c.args.reference.now))))
    c.in_default.is c.in_ok-draft.ensures.nothing)

pub returns-in_default-clause-nothing : goal.returns-in_default-clause-nothing
returns-in_default-clause-nothing g c image is none = c.draft_kill.ensures.read

pub returns-in_default-clause-kept : goal.returns-in_default-clause-kept
returns-in_default-clause-kept g c =
    let h = g.H.Host in
    nothing_kept h.told h.moment h.failures h.left_since c.args.base.now c.draft_kill.new.base
    c.draft_kill.ensures.read c.header-limits.ensures.found

pub returns-in_default-clause-any_moment : goal.returns-in_default-clause-any_moment
returns-in_default-clause-any_moment g c =
    let h = g.H.Host in
    read_moments h.told h.moment h.failures h.left_since c.args.base.now c.draft_kill.new.base
    c.draft_kill.ensures.read c.header-limits.ensures.found

pub returns-clause-map : goal.returns-clause-map
returns-clause-map g c =
    let h = g.H.Host in
    let p = place_of c.args.reference.now in
    let same = same_image h.told h.moment h.failures h.left_since c.args.base.now c.draft_kill.new.base
    c.draft_kill.ensures.read in
    on_ok_weaker c.commit.result
    (told_differs (image_of c.args.base.now) (image_of c.draft_kill.new.base) (image_of c.commit.new.self)
    c.in-Some.draft (IsAfterKill p) same
    (committed_kill (image_of c.args.base.now) c.args.base.now.header p c.in-Some.draft
    (subst (λ o. IfSome o (IsReadyKill (image_of c.args.base.now) c.args.base.now.header p)) c.in-Some.is
    c.in_ok-draft.ensures.ready)
    c.header-limits.ensures.fields (λ image is. c.hold_draft.ensures image (same ∙ is))))
    c.commit.ensures.image

pub returns-clause-nothing : goal.returns-clause-nothing
returns-clause-nothing g c =
    let p = place_of c.args.reference.now in
    let ready = subst (λ o. IfSome o (IsReadyKill (image_of c.args.base.now) c.args.base.now.header p)) c.in-Some.is
    c.in_ok-draft.ensures.ready in
    on_ok_weaker c.commit.result
    (λ _ image is none.
    absurd (not_nothing (image_of c.args.base.now) p.node c.header-limits.ensures.faultless
    c.header-limits.ensures.bytes ready.takes image is none)) c.commit.ensures.header

pub returns-clause-kept : goal.returns-clause-kept
returns-clause-kept g c =
    let h = g.H.Host in
    on_ok_weaker c.commit.result
    (commit_kept h.told h.moment h.failures h.left_since c.args.base.now c.draft_kill.new.base
    c.draft_kill.ensures.read c.commit.new.self) c.commit.ensures.kept

pub returns-clause-any_moment : goal.returns-clause-any_moment
returns-clause-any_moment g c =
    let h = g.H.Host in
    commit_moments h.told h.moment h.failures h.left_since c.args.base.now c.draft_kill.new.base
    c.draft_kill.ensures.read c.commit.new.self c.header-limits.ensures.found c.commit.ensures.any_moment
