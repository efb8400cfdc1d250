use Rattle.std.proofs.Common.{refl}
use Rattle.std.proofs.lemmas.Result.{on_ok_weaker}
use Rattle.host_model.proofs.FailureLemmas.{NeverFell-refl}
use Rattle.gds_units.specs.State.{image_of}
use Rattle.gds_splice.proofs.DraftingLemmas.{same_image}
use Rattle.gds_splice.proofs.EndingLemmas.{parting_ends, reading_exit}
use Rattle.gds_insert.proofs.SettingLemmas.{adds_few, all_deep_in, all_set_in, cannot_set_in, none_found}
use Rattle.gds_insert.proofs.setting.set_in.Goals as goal

pub returns-in_err-find-clause-ends : goal.returns-in_err-find-clause-ends
returns-in_err-find-clause-ends g c =
    let a = c.args in
    let first = g.H.Host.failures a.base.now.host in
    reading_exit Unit Unit first first (g.H.Host.failures c.find.new.base.host) _ _ _ c.in_err-find.field-0.0
    c.from_residual.result (NeverFell-refl first)
    (none_found (image_of a.base.now) (image_of a.base.now) refl a.draft.now a.root a.key.now a.value.now)
    c.from_residual.ensures.1 c.in_err-find.ensures.ends

pub returns-clause-set : goal.returns-clause-set
returns-clause-set g c =
    let h = g.H.Host in
    let a = c.args in
    let t = c.find.new.trail in
    let same = same_image h.told h.moment h.failures h.left_since a.base.now c.find.new.base c.find.ensures.read in
    on_ok_weaker c.set_at.result (all_set_in (image_of a.base.now) (image_of c.find.new.base) same a.draft.now a.root
    a.key.now a.value.now t.steps.items c.deref.result.now c.deref.ensures.0 t.found t.place
    c.in_ok-find.ensures.found c.set_at.new.draft) c.set_at.ensures.set

pub returns-clause-few : goal.returns-clause-few
returns-clause-few g c =
    let h = g.H.Host in
    let a = c.args in
    let t = c.find.new.trail in
    let same = same_image h.told h.moment h.failures h.left_since a.base.now c.find.new.base c.find.ensures.read in
    on_ok_weaker c.set_at.result (λ _. adds_few (image_of a.base.now) (image_of c.find.new.base) same a.draft.now
    a.root a.key.now a.value.now t.steps.items c.deref.result.now c.deref.ensures.0 t.found t.place
    c.in_ok-find.ensures.found c.set_at.new.draft c.set_at.ensures.drafts.more) c.set_at.ensures.set

pub returns-clause-ends : goal.returns-clause-ends
returns-clause-ends g c =
    let h = g.H.Host in
    let a = c.args in
    let t = c.find.new.trail in
    let same = same_image h.told h.moment h.failures h.left_since a.base.now c.find.new.base c.find.ensures.read in
    parting_ends Unit (h.failures a.base.now.host) (h.failures c.find.new.base.host)
    (h.failures c.set_at.new.base.host) _ _ _ _ c.set_at.result c.find.ensures.read.read.failures
    (cannot_set_in (image_of a.base.now) (image_of c.find.new.base) same a.draft.now a.root a.key.now a.value.now
    t.steps.items c.deref.result.now c.deref.ensures.0 t.found t.place c.in_ok-find.ensures.found)
    (all_deep_in (image_of a.base.now) (image_of c.find.new.base) same a.draft.now a.root a.key.now a.value.now
    t.steps.items c.deref.result.now c.deref.ensures.0 t.found t.place c.in_ok-find.ensures.found)
    c.set_at.ensures.ends
