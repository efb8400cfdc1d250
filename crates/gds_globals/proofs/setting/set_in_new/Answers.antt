use Rattle.std.proofs.Common.{◌<◌, ℕ, ◌∙◌, ap, arith, length, subst, sym}
use Rattle.std.proofs.lemmas.List.Elements.{All-from_get_or}
use Rattle.gds_splice.proofs.AboveLemmas.{number_bytes}
use Rattle.gds_draft.specs.Drafted.{drafted}
use Rattle.gds_splice.proofs.DraftingLemmas.{same_image}
use Rattle.gds_splice.proofs.EndingLemmas.{parting_ends, reading_exit}
use Rattle.host_model.proofs.FailureLemmas.{NeverFell-refl}
use Rattle.gds_units.specs.State.{image_of}
use Rattle.m_key.specs.KeyEnd.{IsKey}
use Rattle.m_key.specs.Reference.{is_node, node_of, place_of}
use Rattle.m_key.proofs.NodeEndLemmas.{IsKey-key_bytes}
use Rattle.gds_globals.proofs.NewGlobalLemmas.{lawful_file}
use Rattle.gds_globals.proofs.SettingLemmas.{new_cannot, new_deep, new_set}
use Rattle.gds_globals.proofs.setting.set_in_new.Goals as goal

pub plant-requires-clause-key : goal.plant-requires-clause-key
plant-requires-clause-key g c =
    subst IsKey (sym c.requires.key)
    (IsKey-key_bytes (node_of c.args.reference.now) (is_node c.args.reference.now)
    (omega (arith, ap length c.requires.key, c.requires.short, c.header-limits.ensures.draft.limits.key_to)))

pub returns-clause-set : goal.returns-clause-set
returns-clause-set g c =
    let h = g.H.Host in
    let same = same_image h.told h.moment h.failures h.left_since c.args.base.now c.plant.new.base
    c.plant.ensures.drafts.read in
    new_set (image_of c.args.base.now) (image_of c.plant.new.base) same c.args.draft.now c.plant.new.draft
    c.hold_draft.ensures (place_of c.args.reference.now) c.args.key.now c.args.value.now c.requires.key c.requires.short
    c.requires.small (All-from_get_or (λ b. b < 256) c.args.key.now 0 (λ i lt. (c.type_inv.key i).fits))
    c.in_ok-root.root c.deref.result.now _ (c.deref.ensures.0 ∙ c.directory_key-name.ensures.key)
    (c.to_le_bytes.ensures ∙ number_bytes c.in_ok-root.root) c.in_ok-root.ensures.planted c.set_in.result
    c.set_in.new.draft c.set_in.ensures.set

pub returns-in_err-root-clause-ends : goal.returns-in_err-root-clause-ends
returns-in_err-root-clause-ends g c =
    let now = g.H.Host.failures c.args.base.now.host in
    reading_exit ℕ (Unit {0}) now now (g.H.Host.failures c.plant.new.base.host) _ _ _ c.in_err-root.field-0.0
    c.from_residual.result (NeverFell-refl now)
    (λ cannot image is d globals s none enough.
    cannot image is (lawful_file (drafted c.args.draft.now image) d globals s) (omega (arith, enough)))
    c.from_residual.ensures.1 c.in_err-root.ensures.ends

pub returns-clause-ends : goal.returns-clause-ends
returns-clause-ends g c =
    let h = g.H.Host in
    let read = c.plant.ensures.drafts.read in
    let same = same_image h.told h.moment h.failures h.left_since c.args.base.now c.plant.new.base read in
    let bytes = All-from_get_or (λ b. b < 256) c.args.key.now 0 (λ i lt. (c.type_inv.key i).fits) in
    let name = c.deref.ensures.0 ∙ c.directory_key-name.ensures.key in
    let pointer = c.to_le_bytes.ensures ∙ number_bytes c.in_ok-root.root in
    parting_ends (Unit {0}) (h.failures c.args.base.now.host) (h.failures c.plant.new.base.host)
    (h.failures c.set_in.new.base.host) _ _ _ _ c.set_in.result read.read.failures
    (new_cannot (image_of c.args.base.now) (image_of c.plant.new.base) same c.args.draft.now c.plant.new.draft
    c.hold_draft.ensures (place_of c.args.reference.now) c.args.key.now c.args.value.now c.requires.key c.requires.short
    c.requires.small bytes c.in_ok-root.root c.deref.result.now _ name pointer c.in_ok-root.ensures.planted)
    (new_deep (image_of c.args.base.now) (image_of c.plant.new.base) same c.args.draft.now c.plant.new.draft
    c.hold_draft.ensures (place_of c.args.reference.now) c.args.key.now c.args.value.now c.requires.key c.requires.short
    c.requires.small bytes c.in_ok-root.root c.deref.result.now _ name pointer c.in_ok-root.ensures.planted)
    c.set_in.ensures.ends
