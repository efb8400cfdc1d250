use Rattle.std.proofs.Common.{rules, ◌≡◌, ◌≤◌, ◌<◌, ◌^◌, ◌∙◌, ℕ, Option, None, ap, subst, arith, filter}
use Rattle.std.proofs.Common.{length}
use Rattle.host_model.proofs.FailureLemmas.{NeverFell-refl}
use Rattle.gds_base.specs.Spaces.{is_beside_maps}
use Rattle.gds_header.specs.declared.header.Header.{Header}
use Rattle.gds_splice.proofs.DraftingLemmas.{OnlyRead-then, same_image}
use Rattle.gds_units.specs.State.{image_of}
use Rattle.m_key.specs.Key.{key_bytes}
use Rattle.m_key.specs.Reference.{node_of, place_of}
use Rattle.gds_globals.proofs.AskLemmas.{empty_of}
use Rattle.gds_globals.proofs.KillEndingLemmas.{read_exit}
use Rattle.gds_globals.proofs.KillReadyLemmas.{faultless_then, leads_then, never_changed, never_without, nothing_told}
use Rattle.gds_globals.proofs.KillReadyLemmas.{something_told}
use Rattle.gds_globals.proofs.RootLemmas.{Roots}
use Rattle.gds_globals.proofs.killing.draft_kill.Goals as goal

pub returns-in_err-root-clause-ends : goal.returns-in_err-root-clause-ends
returns-in_err-root-clause-ends g c =
    let h = g.H.Host in
    let told = image_of c.args.base.now in
    let k = length (key_bytes (node_of c.args.reference.now)) in
    let a = h.failures c.args.base.now.host in
    let empty = empty_of told c.draft-draft.result c.args.base.now.header c.draft-draft.ensures.header
    c.draft-draft.ensures.none c.header.ensures.fields c.hold_draft.ensures in
    let short : k ≤ c.args.base.now.header.key_max = search rules in
    read_exit c.args.base.now.header k (told ≡ None) _ short (Option ℕ) _ a a (h.failures c.root_within.new.base.host)
    (NeverFell-refl a)
    (never_without told c.draft-draft.result empty c.header.ensures.faultless c.header.ensures.bytes
    (place_of c.args.reference.now))
    c.in_err-root.field-0.0 c.from_residual-in_err-root.result c.from_residual-in_err-root.ensures.1
    c.in_err-root.ensures.ends

pub returns-in_default-clause-nothing : goal.returns-in_default-clause-nothing
returns-in_default-clause-nothing g c =
    let told = image_of c.args.base.now in
    let p = place_of c.args.reference.now in
    let empty = empty_of told c.draft-draft.result c.args.base.now.header c.draft-draft.ensures.header
    c.draft-draft.ensures.none c.header.ensures.fields c.hold_draft.ensures in
    nothing_told told c.draft-draft.result empty c.header.ensures.faultless c.header.ensures.bytes p
    (subst (Roots told c.draft-draft.result p) c.in_default.is c.in_ok-root.ensures.root)

pub returns-then-header-ge-LAST_NUMBER-clause-spent :
    goal.returns-then-header-ge-LAST_NUMBER-clause-spent
returns-then-header-ge-LAST_NUMBER-clause-spent g c e =
    let told = image_of c.args.base.now in
    let p = place_of c.args.reference.now in
    let empty = empty_of told c.draft-draft.result c.args.base.now.header c.draft-draft.ensures.header
    c.draft-draft.ensures.none c.header.ensures.fields c.hold_draft.ensures in
    something_told told c.draft-draft.result empty c.header.ensures.faultless c.header.ensures.bytes p c.in-Some.root
    (subst (Roots told c.draft-draft.result p) c.in-Some.is c.in_ok-root.ensures.root)

pub returns-in_err-kill_in_draft-clause-read : goal.returns-in_err-kill_in_draft-clause-read
returns-in_err-kill_in_draft-clause-read g c =
    let h = g.H.Host in
    OnlyRead-then h.told h.moment h.failures h.left_since c.args.base.now c.root_within.new.base
    c.kill_in_draft.new.base c.root_within.ensures.read c.kill_in_draft.ensures.drafts.read

pub returns-in_err-kill_in_draft-clause-ends : goal.returns-in_err-kill_in_draft-clause-ends
returns-in_err-kill_in_draft-clause-ends g c =
    let h = g.H.Host in
    let told = image_of c.args.base.now in
    let k = length (key_bytes (node_of c.args.reference.now)) in
    let p = place_of c.args.reference.now in
    let read = c.root_within.ensures.read in
    let same = same_image h.told h.moment h.failures h.left_since c.args.base.now c.root_within.new.base read in
    let empty = empty_of told c.draft-draft.result c.args.base.now.header c.draft-draft.ensures.header
    c.draft-draft.ensures.none c.header.ensures.fields c.hold_draft.ensures in
    let short : k ≤ c.args.base.now.header.key_max = search rules in
    read_exit c.args.base.now.header k (told ≡ None) _ short (Unit {0}) _ (h.failures c.args.base.now.host)
    (h.failures c.root_within.new.base.host) (h.failures c.kill_in_draft.new.base.host) read.read.failures
    (λ cannot.
    never_changed told c.draft-draft.result empty c.header.ensures.faultless c.header.ensures.bytes p c.in-Some.root
    (subst (Roots told c.draft-draft.result p) c.in-Some.is c.in_ok-root.ensures.root)
    (λ image is. cannot image (same ∙ is)))
    c.in_err-kill_in_draft.field-0.0 c.from_residual-in_err-kill_in_draft.result
    c.from_residual-in_err-kill_in_draft.ensures.1 c.in_err-kill_in_draft.ensures.ends

pub returns-clause-ready : goal.returns-clause-ready
returns-clause-ready g c =
    let h = g.H.Host in
    let told = image_of c.args.base.now in
    let p = place_of c.args.reference.now in
    let same = same_image h.told h.moment h.failures h.left_since c.args.base.now c.root_within.new.base
    c.root_within.ensures.read in
    let last = same_image h.told h.moment h.failures h.left_since c.root_within.new.base c.kill_in_draft.new.base
    c.kill_in_draft.ensures.drafts.read in
    let empty = empty_of told c.draft-draft.result c.args.base.now.header c.draft-draft.ensures.header
    c.draft-draft.ensures.none c.header.ensures.fields c.hold_draft.ensures in
    let faultless = c.header.ensures.faultless in
    let bytes = c.header.ensures.bytes in
    let roots = subst (Roots told c.draft-draft.result p) c.in-Some.is c.in_ok-root.ensures.root in
    let drafts = c.kill_in_draft.ensures.drafts in
    let fields = drafts.header
    ∙ ap (λ (x : Header). record x {
      free = c.kill_in_draft.new.draft.header.free;
      master = c.kill_in_draft.new.draft.header.master;
    }) c.draft-draft.ensures.header in
    let unspent : c.args.base.now.header.tn < 2 ^ 63 =
    omega (arith, c.if-header-ge-LAST_NUMBER.false, ap (λ (x : Header). x.tn) c.header.ensures.header) in
    record {
      unspent = unspent;
      header = fields;
      few = omega (
        arith,
        drafts.more,
        ap (λ us. length (filter is_beside_maps us)) c.draft-draft.ensures.none,
      );
      faultless = faultless_then told c.draft-draft.result empty faultless bytes p c.in-Some.root roots
          c.kill_in_draft.new.draft (λ image is. c.in_ok-kill_in_draft.ensures.killed image (same ∙ is));
      leads = leads_then told c.draft-draft.result empty faultless bytes p c.in-Some.root roots
          c.kill_in_draft.new.draft (λ image is. c.in_ok-kill_in_draft.ensures.killed image (same ∙ is))
          (λ image is. c.hold_draft-2.ensures image (last ∙ same ∙ is))
          (omega (arith, ap (λ (x : Header). x.tn) fields, unspent));
      takes = something_told told c.draft-draft.result empty faultless bytes p c.in-Some.root roots;
    }

pub returns-clause-read : goal.returns-clause-read
returns-clause-read g c =
    let h = g.H.Host in
    OnlyRead-then h.told h.moment h.failures h.left_since c.args.base.now c.root_within.new.base
    c.kill_in_draft.new.base c.root_within.ensures.read c.kill_in_draft.ensures.drafts.read
