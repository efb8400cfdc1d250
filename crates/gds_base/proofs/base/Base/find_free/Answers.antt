use Rattle.std.proofs.Common.{◌<◌, ◌∙◌, sym, subst}
use Rattle.gds_bitmap.specs.Bitmap.{IsFirstFree}
use Rattle.gds_draft.specs.Drafted.{drafted}
use Rattle.gds_draft.proofs.DraftLemmas.{drafted_read}
use Rattle.gds_base.proofs.PlaceLemmas.{none_in_groups, none_in_map, first_not_own}
use Rattle.gds_base.proofs.base.Base.find_free.Goals as goal

pub returns-in_default-clause-ends : goal.returns-in_default-clause-ends
returns-in_default-clause-ends g c x tells lawful some =
    let draft = c.args.draft.now in
    let h = c.header.result.now in
    let fields = (drafted_read x draft (c.hold_draft.ensures x tells)).fields in
    none_in_groups (drafted draft x) h (fields ∙ sym c.header.ensures.header) lawful
    (subst (λ f. 0 < f.free) (sym c.header.ensures.header) some) c.in_default.ensures.none

pub returns-in_default-first_free-clause-ends : goal.returns-in_default-first_free-clause-ends
returns-in_default-first_free-clause-ends g c x tells lawful some =
    let draft = c.args.draft.now in
    let h = c.header.result.now in
    let fields = (drafted_read x draft (c.hold_draft.ensures x tells)).fields in
    none_in_map (drafted draft x) h (fields ∙ sym c.header.ensures.header) lawful c.deref.result.now c.in-Some.group
    c.present_in.result (c.deref.ensures.value ∙ c.in_ok-map.ensures.map x tells) c.in-Some.ensures.found
    c.present_in.ensures c.in_default-first_free.ensures.none

pub returns-then-place-eq0-clause-ends : goal.returns-then-place-eq0-clause-ends
returns-then-place-eq0-clause-ends g c x tells lawful some =
    let draft = c.args.draft.now in
    let h = c.header.result.now in
    let fields = (drafted_read x draft (c.hold_draft.ensures x tells)).fields in
    first_not_own (drafted draft x) h (fields ∙ sym c.header.ensures.header) lawful c.deref.result.now c.in-Some.group
    c.present_in.result (c.deref.ensures.value ∙ c.in_ok-map.ensures.map x tells) c.in-Some.ensures.found
    c.present_in.ensures
    (subst (IsFirstFree c.deref.result.now) c.if-place-eq0.true c.in-Some-first_free.ensures.found)
