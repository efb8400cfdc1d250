use Rattle.std.proofs.Common.{◌∙◌, ℕ, Bor, Err, List, ap, subst}
use Rattle.std.specs.Prelude.{IfOk, option_map}
use Rattle.std.specs.Range.Bound.{bound_map}
use Rattle.std.proofs.lemmas.Result.{err_from_is_err_and}
use Rattle.host_model.proofs.FailureLemmas.{NeverFell-refl}
use Rattle.gds_units.specs.State.{image_of}
use Rattle.m_key.specs.Reference.{node_of, place_of}
use Rattle.gds_globals.specs.First.{AreOfNodes, IsFirstUnder}
use Rattle.gds_globals.proofs.AskLemmas.{Directory, empty_of, never_changed}
use Rattle.gds_globals.proofs.EndingLemmas.{passed_on, read_last}
use Rattle.gds_globals.proofs.LookingLemmas.{InTree, firsts_told, never_odd, nowhere_first}
use Rattle.gds_globals.proofs.looking.node_from.Goals as goal

pub returns-in_err-root-clause-ends : goal.returns-in_err-root-clause-ends
returns-in_err-root-clause-ends g c =
    let h = g.H.Host in
    let told = image_of c.args.base.now in
    let draft = c.draft-draft.result in
    let empty = empty_of told draft c.args.base.now.header c.draft-draft.ensures.header c.draft-draft.ensures.none
    c.header-header.ensures.fields c.hold_draft.ensures in
    let faultless = c.header-header.ensures.faultless in
    let p = place_of c.args.reference.now in
    let exit = err_from_is_err_and c.from_residual.result c.from_residual.ensures.1 in
    let before = h.failures c.args.base.now.host in
    passed_on _ _ before before (h.failures c.root_of.new.base.host) _ _ (NeverFell-refl before)
    (never_changed told draft empty faultless p) c.root_of.result c.from_residual.result c.in_err-root.field-0.0
    c.root_of.ensures.ends c.in_err-root.was (exit.1 ∙ ap Err exit.2)

pub returns-in_default-clause-first : goal.returns-in_default-clause-first
returns-in_default-clause-first g c =
    let from = bound_map (λ (key : Bor (List ℕ)). key.now) c.args.from in
    let told = image_of c.args.base.now in
    let draft = c.draft-draft.result in
    let empty = empty_of told draft c.args.base.now.header c.draft-draft.ensures.header c.draft-draft.ensures.none
    c.header-header.ensures.fields c.hold_draft.ensures in
    let faultless = c.header-header.ensures.faultless in
    let p = place_of c.args.reference.now in
    nowhere_first told draft empty faultless c.header-header.ensures.bytes p
    (subst (Directory told draft empty faultless p) c.in_default.is c.in_ok-root.ensures.root) from c.args.front.now

pub returns-clause-first : goal.returns-clause-first
returns-clause-first g c =
    let told = image_of c.args.base.now in
    let draft = c.draft-draft.result in
    let empty = empty_of told draft c.args.base.now.header c.draft-draft.ensures.header c.draft-draft.ensures.none
    c.header-header.ensures.fields c.hold_draft.ensures in
    let faultless = c.header-header.ensures.faultless in
    let p = place_of c.args.reference.now in
    let from = (bound_map (λ (key : Bor (List ℕ)). key.now) c.args.from) in
    let front = c.args.front.now in
    let leads = subst (Directory told draft empty faultless p) c.in-Some.is c.in_ok-root.ensures.root in
    firsts_told told draft empty faultless c.header-header.ensures.bytes p c.in-Some.root leads from c.requires front
    c.first_under.result
    (subst (λ t. IfOk c.first_under.result (λ o. InTree t draft c.in-Some.root from front
    (λ items. IsFirstUnder items from front (option_map node_of o)))) (ap image_of c.root_of.ensures.read.rest)
    c.first_under.ensures.first)

pub returns-clause-ends : goal.returns-clause-ends
returns-clause-ends g c =
    let h = g.H.Host in
    let told = image_of c.args.base.now in
    let draft = c.draft-draft.result in
    let empty = empty_of told draft c.args.base.now.header c.draft-draft.ensures.header c.draft-draft.ensures.none
    c.header-header.ensures.fields c.hold_draft.ensures in
    let faultless = c.header-header.ensures.faultless in
    let p = place_of c.args.reference.now in
    let from = (bound_map (λ (key : Bor (List ℕ)). key.now) c.args.from) in
    let front = c.args.front.now in
    let leads = subst (Directory told draft empty faultless p) c.in-Some.is c.in_ok-root.ensures.root in
    read_last (h.failures c.args.base.now.host) (h.failures c.root_of.new.base.host)
    (h.failures c.first_under.new.base.host) _ _ c.root_of.ensures.read.read.failures
    (λ odd.
    never_odd told draft empty faultless c.header-header.ensures.bytes p c.in-Some.root leads from c.requires front
    (subst (λ t. InTree t draft c.in-Some.root from front (λ items. AreOfNodes items → ⊥))
    (ap image_of c.root_of.ensures.read.rest) odd)) c.first_under.result c.first_under.ensures.ends
