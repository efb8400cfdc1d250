use Rattle.std.proofs.Common.{◌≡◌, ◌≤◌, ◌+◌, ◌∙◌, ℕ, Bool, Err, List, None, ap, ap₂, length, refl, subst, sym}
use Rattle.std.specs.Prelude.{if◌then◌else◌, is_some, option_map}
use Rattle.std.specs.declared.ops.Bound.TheVariants.{Excluded, Included}
use Rattle.std.proofs.lemmas.Result.{err_from_is_err_and}
use Rattle.host_model.proofs.FailureLemmas.{NeverFell-refl}
use Rattle.gds_units.specs.Laws.{OnlyRead-then}
use Rattle.gds_units.specs.State.{image_of}
use Rattle.m_key.specs.Key.{key_bytes, lead_bytes}
use Rattle.m_key.specs.KeyEnd.{IsKey}
use Rattle.m_key.specs.Reference.{node_of, place_of}
use Rattle.m_key.proofs.NodeEndLemmas.{IsKey-key_bytes}
use Rattle.gds_globals.specs.First.{AreOfNodes, IsFirstUnder}
use Rattle.gds_globals.proofs.AnswerLemmas.{data_answer, lead_front}
use Rattle.gds_globals.proofs.AskLemmas.{Directory, empty_of, never_changed}
use Rattle.gds_globals.proofs.EndingLemmas.{passed_on}
use Rattle.gds_globals.proofs.LookingLemmas.{InTree, first_told, never_odd, nowhere_first}
use Rattle.gds_globals.proofs.questions.data_of_key.Goals as goal

pub returns-in_err-root-clause-ends : goal.returns-in_err-root-clause-ends
returns-in_err-root-clause-ends g c =
    let h = g.H.Host in
    let told = image_of c.args.base.now in
    let draft = c.draft-draft.result in
    let empty = empty_of told draft c.args.base.now.header c.draft-draft.ensures.header c.draft-draft.ensures.none
    c.header-header.ensures.fields c.hold_draft.ensures in
    let faultless = c.header-header.ensures.faultless in
    let p = place_of c.args.reference.now in
    let exit = err_from_is_err_and c.from_residual.result c.from_residual.ensures.1 in
    let before = h.failures c.args.base.now.host in
    passed_on _ _ before before (h.failures c.root_of.new.base.host) _ _ (NeverFell-refl before)
    (never_changed told draft empty faultless p) c.root_of.result c.from_residual.result c.in_err-root.field-0.0
    c.root_of.ensures.ends c.in_err-root.was (exit.1 ∙ ap Err exit.2)

pub returns-in_default-clause-found : goal.returns-in_default-clause-found
returns-in_default-clause-found g c =
    let told = image_of c.args.base.now in
    let draft = c.draft-draft.result in
    let empty = empty_of told draft c.args.base.now.header c.draft-draft.ensures.header c.draft-draft.ensures.none
    c.header-header.ensures.fields c.hold_draft.ensures in
    let faultless = c.header-header.ensures.faultless in
    let p = place_of c.args.reference.now in
    let none = subst (Directory told draft empty faultless p) c.in_default.is c.in_ok-root.ensures.root in
    let bytes = c.header-header.ensures.bytes in
    let key = key_bytes p.node in
    let lead = lead_bytes p.node in
    data_answer told c.args.reference.now key lead refl refl None None
    (nowhere_first told draft empty faultless bytes p none (Included key) key)
    (nowhere_first told draft empty faultless bytes p none (Excluded key) lead) 0 refl

pub returns-in_err-own-clause-ends : goal.returns-in_err-own-clause-ends
returns-in_err-own-clause-ends g c =
    let h = g.H.Host in
    let told = image_of c.args.base.now in
    let draft = c.draft-draft.result in
    let empty = empty_of told draft c.args.base.now.header c.draft-draft.ensures.header c.draft-draft.ensures.none
    c.header-header.ensures.fields c.hold_draft.ensures in
    let faultless = c.header-header.ensures.faultless in
    let p = place_of c.args.reference.now in
    let whole = subst IsKey (sym c.requires.key) (IsKey-key_bytes p.node p.right
    (subst (λ (k : List ℕ). length k ≤ 255) c.requires.key c.requires.short)) in
    let leads = subst (Directory told draft empty faultless p) c.in-Some.is c.in_ok-root.ensures.root in
    let exit = err_from_is_err_and c.from_residual-in_err-own.result c.from_residual-in_err-own.ensures.1 in
    passed_on _ _ (h.failures c.args.base.now.host) (h.failures c.root_of.new.base.host)
    (h.failures c.first_under.new.base.host) _ _ c.root_of.ensures.read.read.failures
    (λ odd.
    never_odd told draft empty faultless c.header-header.ensures.bytes p c.in-Some.root leads (Included c.args.key.now)
    whole c.args.key.now
    (subst (λ t. InTree t draft c.in-Some.root (Included c.args.key.now) c.args.key.now (λ items. AreOfNodes items → ⊥))
    (ap image_of c.root_of.ensures.read.rest) odd)) c.first_under.result c.from_residual-in_err-own.result
    c.in_err-own.field-0.0 c.first_under.ensures.ends c.in_err-own.was (exit.1 ∙ ap Err exit.2)

pub returns-in_err-below-clause-read : goal.returns-in_err-below-clause-read
returns-in_err-below-clause-read g c =
    let h = g.H.Host in
    OnlyRead-then h.told h.moment h.failures h.left_since c.args.base.now c.first_under.new.base
    c.first_under-2.new.base
    (OnlyRead-then h.told h.moment h.failures h.left_since c.args.base.now c.root_of.new.base c.first_under.new.base
    c.root_of.ensures.read c.first_under.ensures.read) c.first_under-2.ensures.read

pub returns-in_err-below-clause-ends : goal.returns-in_err-below-clause-ends
returns-in_err-below-clause-ends g c =
    let h = g.H.Host in
    let told = image_of c.args.base.now in
    let draft = c.draft-draft.result in
    let empty = empty_of told draft c.args.base.now.header c.draft-draft.ensures.header c.draft-draft.ensures.none
    c.header-header.ensures.fields c.hold_draft.ensures in
    let faultless = c.header-header.ensures.faultless in
    let p = place_of c.args.reference.now in
    let whole = subst IsKey (sym c.requires.key) (IsKey-key_bytes p.node p.right
    (subst (λ (k : List ℕ). length k ≤ 255) c.requires.key c.requires.short)) in
    let leads = subst (Directory told draft empty faultless p) c.in-Some.is c.in_ok-root.ensures.root in
    let exit = err_from_is_err_and c.from_residual-in_err-below.result c.from_residual-in_err-below.ensures.1 in
    let read = OnlyRead-then h.told h.moment h.failures h.left_since c.args.base.now c.root_of.new.base
    c.first_under.new.base c.root_of.ensures.read c.first_under.ensures.read in
    let lead = c.lead_of.result.now in
    passed_on _ _ (h.failures c.args.base.now.host) (h.failures c.first_under.new.base.host)
    (h.failures c.first_under-2.new.base.host) _ _ read.read.failures
    (λ odd.
    never_odd told draft empty faultless c.header-header.ensures.bytes p c.in-Some.root leads (Excluded c.args.key.now)
    whole lead
    (subst (λ t. InTree t draft c.in-Some.root (Excluded c.args.key.now) lead (λ items. AreOfNodes items → ⊥))
    (ap image_of read.rest) odd)) c.first_under-2.result c.from_residual-in_err-below.result
    c.in_err-below.field-0.0 c.first_under-2.ensures.ends c.in_err-below.was (exit.1 ∙ ap Err exit.2)

pub returns-clause-found : goal.returns-clause-found
returns-clause-found g c =
    let h = g.H.Host in
    let told = image_of c.args.base.now in
    let draft = c.draft-draft.result in
    let empty = empty_of told draft c.args.base.now.header c.draft-draft.ensures.header c.draft-draft.ensures.none
    c.header-header.ensures.fields c.hold_draft.ensures in
    let faultless = c.header-header.ensures.faultless in
    let p = place_of c.args.reference.now in
    let whole = subst IsKey (sym c.requires.key) (IsKey-key_bytes p.node p.right
    (subst (λ (k : List ℕ). length k ≤ 255) c.requires.key c.requires.short)) in
    let leads = subst (Directory told draft empty faultless p) c.in-Some.is c.in_ok-root.ensures.root in
    let bytes = c.header-header.ensures.bytes in
    let read = OnlyRead-then h.told h.moment h.failures h.left_since c.args.base.now c.root_of.new.base
    c.first_under.new.base c.root_of.ensures.read c.first_under.ensures.read in
    let key = c.args.key.now in
    let lead = c.lead_of.result.now in
    let own : c.is_some.result ≡ is_some c.in_ok-own.own = cc (c.is_some.ensures) in
    let below : c.is_some-2.result ≡ is_some c.in_ok-below.below = cc (c.is_some-2.ensures) in
    data_answer told c.args.reference.now key lead c.requires.key
    (lead_front p.node key lead c.requires.key c.lead_of.ensures) c.in_ok-own.own c.in_ok-below.below
    (first_told told draft empty faultless bytes p c.in-Some.root leads (Included key) whole key c.in_ok-own.own
    (subst (λ t. InTree t draft c.in-Some.root (Included key) key
    (λ items. IsFirstUnder items (Included key) key (option_map node_of c.in_ok-own.own)))
    (ap image_of c.root_of.ensures.read.rest) c.in_ok-own.ensures.first))
    (first_told told draft empty faultless bytes p c.in-Some.root leads (Excluded key) whole lead c.in_ok-below.below
    (subst (λ t. InTree t draft c.in-Some.root (Excluded key) lead
    (λ items. IsFirstUnder items (Excluded key) lead (option_map node_of c.in_ok-below.below)))
    (ap image_of read.rest) c.in_ok-below.ensures.first)) c.data_of.result
    (c.data_of.ensures ∙ ap₂ (λ (a b : Bool). (if a then 1 else 0) + (if b then 10 else 0)) own below)
