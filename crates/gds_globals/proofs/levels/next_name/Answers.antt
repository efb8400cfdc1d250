use Rattle.std.proofs.Common.{◌∙◌, [], Err, None, Some, ap, map, subst, sym}
use Rattle.std.specs.Prelude.{option_map}
use Rattle.std.specs.declared.ops.Bound.TheVariants.{Excluded}
use Rattle.std.proofs.lemmas.Result.{err_from_is_err_and}
use Rattle.host_model.proofs.FailureLemmas.{NeverFell-refl}
use Rattle.gds_sound.specs.Questions.{name}
use Rattle.gds_units.specs.State.{image_of}
use Rattle.m_key.specs.KeyEnd.{IsKey}
use Rattle.m_key.specs.Reference.{name_bytes, node_of, node_subscript_of, place_of}
use Rattle.gds_globals.specs.First.{IsFirstUnder}
use Rattle.gds_globals.proofs.AnswerLemmas.{name_answer}
use Rattle.gds_globals.proofs.AskLemmas.{empty_of}
use Rattle.gds_globals.proofs.EndingLemmas.{passed_on}
use Rattle.gds_globals.proofs.LookingLemmas.{InTree, name_told, never_odd_name}
use Rattle.gds_globals.proofs.levels.next_name.Goals as goal

pub returns-in_err-found-clause-ends : goal.returns-in_err-found-clause-ends
returns-in_err-found-clause-ends g c =
    let h = g.H.Host in
    let told = image_of c.args.base.now in
    let draft = c.draft-draft.result in
    let empty = empty_of told draft c.args.base.now.header c.draft-draft.ensures.header c.draft-draft.ensures.none
    c.header-header.ensures.fields c.hold_draft.ensures in
    let faultless = c.header-header.ensures.faultless in
    let p = place_of c.args.reference.now in
    let key = c.deref.result.now in
    let same = c.deref.ensures.0 ∙ c.directory_key-key.ensures.key in
    let whole = subst IsKey (sym c.deref.ensures.0) c.directory_key-key.ensures.whole in
    let exit = err_from_is_err_and c.from_residual.result c.from_residual.ensures.1 in
    let before = h.failures c.args.base.now.host in
    passed_on _ _ before before (h.failures c.first_under.new.base.host) _ _ (NeverFell-refl before)
    (never_odd_name told draft empty faultless c.header-header.ensures.bytes p key same whole) c.first_under.result
    c.from_residual.result c.in_err-found.field-0.0 c.first_under.ensures.ends c.in_err-found.was
    (exit.1 ∙ ap Err exit.2)

pub returns-in_default-clause-next : goal.returns-in_default-clause-next
returns-in_default-clause-next g c =
    let told = image_of c.args.base.now in
    let draft = c.draft-draft.result in
    let empty = empty_of told draft c.args.base.now.header c.draft-draft.ensures.header c.draft-draft.ensures.none
    c.header-header.ensures.fields c.hold_draft.ensures in
    let faultless = c.header-header.ensures.faultless in
    let p = place_of c.args.reference.now in
    let key = c.deref.result.now in
    let same = c.deref.ensures.0 ∙ c.directory_key-key.ensures.key in
    let whole = subst IsKey (sym c.deref.ensures.0) c.directory_key-key.ensures.whole in
    name_answer told c.args.reference.now (ap (map node_subscript_of) c.requires) None
    (name_told told draft empty faultless c.header-header.ensures.bytes p key same whole None
    (subst (λ o. InTree told draft 1 (Excluded key) [] (λ items.
    IsFirstUnder items (Excluded key) [] (option_map node_of o))) c.in_default.is c.in_ok-found.ensures.first))

pub returns-clause-next : goal.returns-clause-next
returns-clause-next g c =
    let told = image_of c.args.base.now in
    let draft = c.draft-draft.result in
    let empty = empty_of told draft c.args.base.now.header c.draft-draft.ensures.header c.draft-draft.ensures.none
    c.header-header.ensures.fields c.hold_draft.ensures in
    let faultless = c.header-header.ensures.faultless in
    let p = place_of c.args.reference.now in
    let key = c.deref.result.now in
    let same = c.deref.ensures.0 ∙ c.directory_key-key.ensures.key in
    let whole = subst IsKey (sym c.deref.ensures.0) c.directory_key-key.ensures.whole in
    let found = c.in-Some.found in
    name_answer told c.args.reference.now (ap (map node_subscript_of) c.requires) (Some (name (name_bytes found.name)))
    (name_told told draft empty faultless c.header-header.ensures.bytes p key same whole (Some found)
    (subst (λ o. InTree told draft 1 (Excluded key) [] (λ items.
    IsFirstUnder items (Excluded key) [] (option_map node_of o))) c.in-Some.is c.in_ok-found.ensures.first))
