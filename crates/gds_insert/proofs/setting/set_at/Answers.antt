use Rattle.std.proofs.Common.{◌≡◌, Bool}
use Rattle.std.proofs.lemmas.Result.{on_ok_weaker}
use Rattle.host_model.proofs.FailureLemmas.{NeverFell-refl}
use Rattle.gds_draft.specs.Drafted.{drafted}
use Rattle.gds_units.specs.State.{image_of}
use Rattle.gds_splice.proofs.DraftingLemmas.{same_image}
use Rattle.gds_splice.proofs.EndingLemmas.{parting_ends, reading_exit}
use Rattle.gds_insert.specs.Setting.{CannotSetAt, IsDeepAt, SetsAt}
use Rattle.gds_insert.proofs.AfterLemmas.{when_false, when_true}
use Rattle.gds_insert.proofs.SettingLemmas.{cannot_there, moved, sets_there}
use Rattle.gds_insert.proofs.setting.set_at.Goals as goal

pub returns-in_err-set_in_place-clause-ends : goal.returns-in_err-set_in_place-clause-ends
returns-in_err-set_in_place-clause-ends g c =
    let a = c.args in
    let parts = c.in-Some.ensures.cases in
    let first = g.H.Host.failures a.base.now.host in
    reading_exit Bool Unit first first (g.H.Host.failures c.set_in_place.new.base.host) _ _ _
    c.in_err-set_in_place.field-0.0 c.from_residual.result (NeverFell-refl first)
    (λ none image is. cannot_there a.steps.now c.in-Some.above.now c.in-Some.leaf.now a.place.now a.key.now a.rest.now
    parts.0 (drafted a.draft.now image) (none image is)) c.from_residual.ensures.1
    c.in_err-set_in_place.ensures.ends

pub returns-then-branch-clause-set : goal.returns-then-branch-clause-set
returns-then-branch-clause-set g c = λ image is.
    let a = c.args in
    sets_there a.steps.now c.in-Some.above.now c.in-Some.leaf.now a.place.now a.key.now a.rest.now
    c.in-Some.ensures.cases.0 (drafted a.draft.now image) (drafted c.set_in_place.new.draft image)
    (when_true c.in_ok-set_in_place.field-0 c.if-branch.true c.in_ok-set_in_place.ensures.set image is)

pub returns-clause-set : goal.returns-clause-set
returns-clause-set g c =
    let h = g.H.Host in
    let a = c.args in
    let p = c.set_in_place in
    on_ok_weaker c.set_in_pieces.result (moved
    (λ steps d image. SetsAt steps a.place.now a.key.now a.rest.now (drafted d image)
    (drafted c.set_in_pieces.new.draft image)) (image_of a.base.now) (image_of p.new.base) a.draft.now p.new.draft
    a.steps.now _
    (same_image h.told h.moment h.failures h.left_since a.base.now p.new.base p.ensures.drafts.read)
    (when_false c.in_ok-set_in_place.field-0 c.if-branch.false c.in_ok-set_in_place.ensures.full)
    c.in-Some.ensures.cases.0) c.set_in_pieces.ensures.set

pub returns-clause-ends : goal.returns-clause-ends
returns-clause-ends g c =
    let h = g.H.Host in
    let a = c.args in
    let p = c.set_in_place in
    let same = same_image h.told h.moment h.failures h.left_since a.base.now p.new.base p.ensures.drafts.read in
    let kept : p.new.draft ≡ a.draft.now =
    when_false c.in_ok-set_in_place.field-0 c.if-branch.false c.in_ok-set_in_place.ensures.full in
    parting_ends Unit (h.failures a.base.now.host) (h.failures p.new.base.host)
    (h.failures c.set_in_pieces.new.base.host) _ _ _ _ c.set_in_pieces.result p.ensures.drafts.read.read.failures
    (moved (λ steps d image. CannotSetAt steps a.place.now a.key.now a.rest.now (drafted d image))
    (image_of a.base.now) (image_of p.new.base) a.draft.now p.new.draft a.steps.now _ same kept
    c.in-Some.ensures.cases.0)
    (moved (λ steps d image. IsDeepAt steps a.place.now a.key.now a.rest.now (drafted d image))
    (image_of a.base.now) (image_of p.new.base) a.draft.now p.new.draft a.steps.now _ same kept
    c.in-Some.ensures.cases.0) c.set_in_pieces.ensures.ends
