use Rattle.std.proofs.Common.{◌<◌, ℕ, Option}
use Rattle.std.proofs.lemmas.List.Elements.{All-from_get_or}
use Rattle.gds_splice.proofs.DraftingLemmas.{same_image}
use Rattle.gds_splice.proofs.EndingLemmas.{parting_ends, reading_exit}
use Rattle.gds_units.specs.State.{image_of}
use Rattle.host_model.proofs.FailureLemmas.{NeverFell-refl}
use Rattle.m_key.specs.Reference.{place_of}
use Rattle.gds_globals.proofs.SettingLemmas.{either_cannot, either_deep, either_set, old_cannot, old_deep, old_set}
use Rattle.gds_globals.proofs.setting.set_in_draft.Goals as goal

pub returns-in_err-root-clause-ends : goal.returns-in_err-root-clause-ends
returns-in_err-root-clause-ends g c =
    let now = g.H.Host.failures c.args.base.now.host in
    reading_exit (Option ℕ) (Unit {0}) now now (g.H.Host.failures c.root_of.new.base.host) _ _ _ c.in_err-root.field-0.0
    c.from_residual.result (NeverFell-refl now)
    (λ cannot image is d globals s enough. cannot image is d s.directory_tree)
    c.from_residual.ensures.1 c.in_err-root.ensures.ends

pub returns-in-Some-clause-set : goal.returns-in-Some-clause-set
returns-in-Some-clause-set g c =
    let h = g.H.Host in
    let same = same_image h.told h.moment h.failures h.left_since c.args.base.now c.root_of.new.base
    c.root_of.ensures.read in
    old_set (image_of c.args.base.now) (image_of c.root_of.new.base) same c.args.draft.now c.args.draft.now
    c.hold_draft.ensures (place_of c.args.reference.now) c.args.key.now c.args.value.now c.requires.key c.requires.short
    c.requires.small (All-from_get_or (λ b. b < 256) c.args.key.now 0 (λ i lt. (c.type_inv.key i).fits)) c.set_in.result
    c.set_in.new.draft c.in-Some.root c.in_ok-root.field-0 c.in-Some.is c.in_ok-root.ensures.root c.set_in.ensures.set

pub returns-in-Some-clause-ends : goal.returns-in-Some-clause-ends
returns-in-Some-clause-ends g c =
    let h = g.H.Host in
    let read = c.root_of.ensures.read in
    let same = same_image h.told h.moment h.failures h.left_since c.args.base.now c.root_of.new.base read in
    let bytes = All-from_get_or (λ b. b < 256) c.args.key.now 0 (λ i lt. (c.type_inv.key i).fits) in
    parting_ends (Unit {0}) (h.failures c.args.base.now.host) (h.failures c.root_of.new.base.host)
    (h.failures c.set_in.new.base.host) _ _ _ _ c.set_in.result read.read.failures
    (old_cannot (image_of c.args.base.now) (image_of c.root_of.new.base) same c.args.draft.now c.args.draft.now
    c.hold_draft.ensures (place_of c.args.reference.now) c.args.key.now c.args.value.now c.requires.key c.requires.short
    c.requires.small bytes c.in-Some.root c.in_ok-root.field-0 c.in-Some.is c.in_ok-root.ensures.root)
    (old_deep (image_of c.args.base.now) (image_of c.root_of.new.base) same c.args.draft.now c.args.draft.now
    c.hold_draft.ensures (place_of c.args.reference.now) c.args.key.now c.args.value.now c.requires.key c.requires.short
    c.requires.small bytes c.in-Some.root c.in_ok-root.field-0 c.in-Some.is c.in_ok-root.ensures.root)
    c.set_in.ensures.ends

pub returns-in-None-clause-set : goal.returns-in-None-clause-set
returns-in-None-clause-set g c =
    let h = g.H.Host in
    let same = same_image h.told h.moment h.failures h.left_since c.args.base.now c.root_of.new.base
    c.root_of.ensures.read in
    either_set (image_of c.args.base.now) (image_of c.root_of.new.base) same c.args.draft.now c.args.draft.now
    c.hold_draft.ensures (place_of c.args.reference.now) c.args.key.now c.args.value.now c.requires.key c.requires.short
    c.requires.small (All-from_get_or (λ b. b < 256) c.args.key.now 0 (λ i lt. (c.type_inv.key i).fits))
    c.in_ok-root.field-0 c.in-None.is c.in_ok-root.ensures.root c.set_in_new.result c.set_in_new.new.draft
    c.set_in_new.ensures.set

pub returns-in-None-clause-ends : goal.returns-in-None-clause-ends
returns-in-None-clause-ends g c =
    let h = g.H.Host in
    let read = c.root_of.ensures.read in
    let same = same_image h.told h.moment h.failures h.left_since c.args.base.now c.root_of.new.base read in
    let bytes = All-from_get_or (λ b. b < 256) c.args.key.now 0 (λ i lt. (c.type_inv.key i).fits) in
    parting_ends (Unit {0}) (h.failures c.args.base.now.host) (h.failures c.root_of.new.base.host)
    (h.failures c.set_in_new.new.base.host) _ _ _ _ c.set_in_new.result read.read.failures
    (either_cannot (image_of c.args.base.now) (image_of c.root_of.new.base) same c.args.draft.now c.args.draft.now
    c.hold_draft.ensures (place_of c.args.reference.now) c.args.key.now c.args.value.now c.requires.key c.requires.short
    c.requires.small bytes c.in_ok-root.field-0 c.in-None.is c.in_ok-root.ensures.root)
    (either_deep (image_of c.args.base.now) (image_of c.root_of.new.base) same c.args.draft.now c.args.draft.now
    c.hold_draft.ensures (place_of c.args.reference.now) c.args.key.now c.args.value.now c.requires.key c.requires.short
    c.requires.small bytes c.in_ok-root.field-0 c.in-None.is c.in_ok-root.ensures.root)
    c.set_in_new.ensures.ends
