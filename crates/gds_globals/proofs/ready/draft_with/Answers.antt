use Rattle.std.proofs.Common.{◌≡◌, ◌<◌, ◌∙◌, Err, None, Ok, ap, arith, length, subst}
use Rattle.std.specs.Prelude.{◌↔◌}
use Rattle.std.specs.Option.{ForSome}
use Rattle.gds_base.specs.declared.error.BaseError.TheVariants.{Full}
use Rattle.gds_file.specs.Room.{room_of}
use Rattle.gds_globals.specs.Ending.{MayCommit}
use Rattle.gds_header.specs.declared.header.Header.{Header}
use Rattle.gds_shape.specs.Depth.{IsDeep}
use Rattle.gds_splice.proofs.DraftingLemmas.{OnlyRead-then, same_image}
use Rattle.gds_units.specs.State.{image_of}
use Rattle.m_key.specs.Key.{key_bytes}
use Rattle.m_key.specs.Reference.{node_of, place_of}
use Rattle.gds_globals.proofs.AskLemmas.{empty_of}
use Rattle.gds_globals.proofs.DraftingLemmas.{has_room, parting_exit, reserving_exit}
use Rattle.gds_globals.proofs.ReadyLemmas.{deep_then, faultless_then, few_units, leads_then, never_changed, used_then}
use Rattle.gds_globals.proofs.ready.draft_with.Goals as goal

pub returns-in_err-reserve32-clause-ends : goal.returns-in_err-reserve32-clause-ends
returns-in_err-reserve32-clause-ends g c =
    let h = g.H.Host in
    let e = c.in_err-reserve32.field-0.0 in
    let k = length (key_bytes (node_of c.args.reference.now)) in
    let may : MayCommit c.args.base.now.header k (length c.args.value.now) =
    ((omega (arith, ap length c.requires.key, c.requires.short), c.requires.small), c.requires.unspent) in
    let C = image_of c.args.base.now ≡ None in
    let D = ForSome (image_of c.args.base.now) (λ image. IsDeep image (node_of c.args.reference.now)) in
    reserving_exit c.args.base.now.header k (length c.args.value.now) C D may (Unit {0}) _
    (h.failures c.args.base.now.host) (h.failures c.reserve32.new.self.host) (h.failures c.reserve32.new.self.host) C
    (λ none. none) e c.from_residual.result
    (subst (λ (x : Header). (Err e ≡ Err Full) ↔ (room_of x < 32)) c.draft-draft.ensures.header
    c.in_err-reserve32.ensures.full) c.from_residual.ensures.1 c.in_err-reserve32.ensures.ends

pub returns-in_err-set_in_draft-clause-read : goal.returns-in_err-set_in_draft-clause-read
returns-in_err-set_in_draft-clause-read g c =
    let h = g.H.Host in
    OnlyRead-then h.told h.moment h.failures h.left_since c.args.base.now c.reserve32.new.self c.set_in_draft.new.base
    c.reserve32.ensures.drafts.read c.set_in_draft.ensures.drafts.read

pub returns-in_err-set_in_draft-clause-ends : goal.returns-in_err-set_in_draft-clause-ends
returns-in_err-set_in_draft-clause-ends g c =
    let h = g.H.Host in
    let k = length (key_bytes (node_of c.args.reference.now)) in
    let may : MayCommit c.args.base.now.header k (length c.args.value.now) =
    ((omega (arith, ap length c.requires.key, c.requires.short), c.requires.small), c.requires.unspent) in
    let told = image_of c.args.base.now in
    let C = told ≡ None in
    let D = ForSome told (λ image. IsDeep image (node_of c.args.reference.now)) in
    let a = h.failures c.args.base.now.host in
    let b = h.failures c.reserve32.new.self.host in
    let d = h.failures c.set_in_draft.new.base.host in
    let read = c.reserve32.ensures.drafts.read in
    let same = same_image h.told h.moment h.failures h.left_since c.args.base.now c.reserve32.new.self read in
    let room = has_room c.args.base.now.header k (length c.args.value.now) C D may (Unit {0}) (Unit {0}) a b d (Ok tt)
    (subst (λ (x : Header). (Ok tt ≡ Err Full) ↔ (room_of x < 32)) c.draft-draft.ensures.header
    c.in_ok-reserve32.ensures.full) (λ e. cc) in
    let empty = empty_of told c.draft-draft.result c.args.base.now.header c.draft-draft.ensures.header
    c.draft-draft.ensures.none c.header-limits.ensures.fields c.hold_draft.ensures in
    parting_exit c.args.base.now.header k (length c.args.value.now) C D may (Unit {0}) _ a b d room read.read.failures
    _ _
    (λ cannot. never_changed told c.draft-draft.result c.reserve32.new.draft (place_of c.args.reference.now) empty
    c.header-limits.ensures.faultless c.header-limits.ensures.bytes c.in_ok-reserve32.ensures.reserved
    c.in_ok-reserve32.ensures.enough (λ image is. cannot image (same ∙ is)))
    (λ deep. deep_then told c.draft-draft.result c.reserve32.new.draft (place_of c.args.reference.now) empty
    c.header-limits.ensures.faultless c.header-limits.ensures.bytes c.in_ok-reserve32.ensures.reserved
    (λ image is. deep image (same ∙ is)))
    c.in_err-set_in_draft.field-0.0 c.from_residual-in_err-set_in_draft.result
    c.from_residual-in_err-set_in_draft.ensures.1 c.in_err-set_in_draft.ensures.ends

pub returns-clause-faultless : goal.returns-clause-faultless
returns-clause-faultless g c =
    let h = g.H.Host in
    let told = image_of c.args.base.now in
    let same = same_image h.told h.moment h.failures h.left_since c.args.base.now c.reserve32.new.self
    c.reserve32.ensures.drafts.read in
    let empty = empty_of told c.draft-draft.result c.args.base.now.header c.draft-draft.ensures.header
    c.draft-draft.ensures.none c.header-limits.ensures.fields c.hold_draft.ensures in
    faultless_then told c.draft-draft.result c.reserve32.new.draft (place_of c.args.reference.now) empty
    c.header-limits.ensures.faultless c.header-limits.ensures.bytes c.in_ok-reserve32.ensures.reserved
    c.set_in_draft.new.draft c.args.value.now (λ image is. c.in_ok-set_in_draft.ensures.set image (same ∙ is))

pub returns-clause-map : goal.returns-clause-map
returns-clause-map g c =
    let h = g.H.Host in
    let told = image_of c.args.base.now in
    let same = same_image h.told h.moment h.failures h.left_since c.args.base.now c.reserve32.new.self
    c.reserve32.ensures.drafts.read in
    let last = same_image h.told h.moment h.failures h.left_since c.reserve32.new.self c.set_in_draft.new.base
    c.set_in_draft.ensures.drafts.read in
    let empty = empty_of told c.draft-draft.result c.args.base.now.header c.draft-draft.ensures.header
    c.draft-draft.ensures.none c.header-limits.ensures.fields c.hold_draft.ensures in
    let tn = ap (λ (x : Header). x.tn) c.set_in_draft.ensures.drafts.header
    ∙ ap (λ (x : Header). x.tn) c.reserve32.ensures.drafts.header
    ∙ ap (λ (x : Header). x.tn) c.draft-draft.ensures.header in
    leads_then told c.draft-draft.result c.reserve32.new.draft (place_of c.args.reference.now) empty
    c.header-limits.ensures.faultless c.header-limits.ensures.bytes c.in_ok-reserve32.ensures.reserved
    c.set_in_draft.new.draft c.args.value.now (λ image is. c.in_ok-set_in_draft.ensures.set image (same ∙ is))
    (λ image is. c.hold_draft-3.ensures image (last ∙ same ∙ is)) c.hold_bytes.ensures
    (omega (arith, tn, c.requires.unspent))

pub returns-clause-read : goal.returns-clause-read
returns-clause-read g c =
    let h = g.H.Host in
    OnlyRead-then h.told h.moment h.failures h.left_since c.args.base.now c.reserve32.new.self c.set_in_draft.new.base
    c.reserve32.ensures.drafts.read c.set_in_draft.ensures.drafts.read

pub returns-clause-few : goal.returns-clause-few
returns-clause-few g c =
    let none = ap length c.draft-draft.ensures.none in
    let from = ap (λ (x : Header). x.total) c.draft-draft.ensures.header in
    let to = ap (λ (x : Header). x.total) c.set_in_draft.ensures.drafts.header in
    few_units _ _ _ _ _ _ _ _ none c.reserve32.ensures.drafts.more c.set_in_draft.ensures.drafts.more from to

pub returns-clause-used : goal.returns-clause-used
returns-clause-used g c =
    let h = g.H.Host in
    let told = image_of c.args.base.now in
    let same = same_image h.told h.moment h.failures h.left_since c.args.base.now c.reserve32.new.self
    c.reserve32.ensures.drafts.read in
    let empty = empty_of told c.draft-draft.result c.args.base.now.header c.draft-draft.ensures.header
    c.draft-draft.ensures.none c.header-limits.ensures.fields c.hold_draft.ensures in
    used_then told c.draft-draft.result c.reserve32.new.draft (place_of c.args.reference.now) empty
    c.header-limits.ensures.faultless c.header-limits.ensures.bytes c.in_ok-reserve32.ensures.reserved
    (λ image is. c.hold_draft-2.ensures image (same ∙ is)) c.args.base.now.header c.draft-draft.ensures.header
    c.set_in_draft.new.draft c.set_in_draft.ensures.drafts.header c.in_ok-set_in_draft.ensures.free
