use Rattle.std.proofs.Common.{◌≡◌, ◌+◌, ◌≤◌, ◌∷◌, ◌++◌, [], false, List, ℕ, Option, length, ap, ◌∙◌, subst, arith}
use Rattle.std.specs.Prelude.{IfSome, ◌==◌}
use Rattle.std.proofs.lemmas.Result.{on_ok_weaker}
use Rattle.host_model.proofs.FailureLemmas.{NeverFell-refl}
use Rattle.gds_draft.specs.Drafted.{drafted}
use Rattle.gds_header.specs.declared.header.Header.{Header}
use Rattle.gds_splice.specs.OneUp.{TellsOne}
use Rattle.gds_splice.specs.declared.parts.Parts.{Parts}
use Rattle.gds_find.specs.declared.trail.Step.{Step}
use Rattle.gds_splice.proofs.DraftingLemmas.{same_image}
use Rattle.gds_splice.proofs.EndingLemmas.{parting_ends, parting_exit}
use Rattle.gds_splice.proofs.EntriesPutLemmas.{drafted_fields}
use Rattle.gds_splice.proofs.PartingLemmas.{cannot_on, cannot_one, ends_one, grows_on, upwards_here, upwards_on}
use Rattle.gds_splice.proofs.parting.+part.Goals as goal

pub returns-in_err-own-clause-ends : goal.returns-in_err-own-clause-ends
returns-in_err-own-clause-ends g t c =
    let now = g.H.Host.failures c.args.base.now.host in
    let steps : List Step = c.args.steps.now in
    let outer : List Step = c.in-Some.outer.now in
    let step : Step = c.in-Some.step.now in
    let is : steps ≡ outer ++ step ∷ [] = c.in-Some.ensures.cases.0 in
    let top : c.is_empty.result ≡ (length outer == 0) = c.is_empty.ensures in
    parting_exit (Option Parts) (Unit {0}) now now (g.H.Host.failures c.tell_one.new.base.host) _ _ _ _
    c.in_err-own.field-0.0 c.from_residual.result (NeverFell-refl now)
    (λ cannot image told. cannot_one (drafted c.args.draft.now image) steps outer step c.is_empty.result
    c.args.parts.now is top (cannot image told))
    (λ ends image told. ends_one (drafted c.args.draft.now image) steps outer step c.is_empty.result
    c.args.parts.now is top (ends image told))
    c.from_residual.ensures.1 c.in_err-own.ensures.ends

pub returns-in_default-2-clause-parted : goal.returns-in_default-2-clause-parted
returns-in_default-2-clause-parted g t c image told =
    let steps : List Step = c.args.steps.now in
    let outer : List Step = c.in-Some.outer.now in
    let step : Step = c.in-Some.step.now in
    let is : steps ≡ outer ++ step ∷ [] = c.in-Some.ensures.cases.0 in
    let top : c.is_empty.result ≡ (length outer == 0) = c.is_empty.ensures in
    let file : List ℕ = drafted c.args.draft.now image in
    let after : List ℕ = drafted c.tell_one.new.draft image in
    upwards_here file steps outer step c.is_empty.result c.args.parts.now is top after
    (subst (λ own. TellsOne step c.is_empty.result c.args.parts.now own file after) c.in_default-2.is
    (c.in_ok-own.ensures.told image told))

pub returns-clause-parted : goal.returns-clause-parted
returns-clause-parted g t c =
    let h = g.H.Host in
    let steps : List Step = c.args.steps.now in
    let outer : List Step = c.in-Some.outer.now in
    let step : Step = c.in-Some.step.now in
    let is : steps ≡ outer ++ step ∷ [] = c.in-Some.ensures.cases.0 in
    let top : c.is_empty.result ≡ (length outer == 0) = c.is_empty.ensures in
    let up = subst (λ own. IfSome own (λ _. (c.is_empty.result ≡ false)
    × (c.args.draft.now.header.free ≤ c.tell_one.new.draft.header.free + 2))) c.in-Some-2.is c.in_ok-own.ensures.up in
    on_ok_weaker c.part.result (λ rest image told.
    let file : List ℕ = drafted c.args.draft.now image in
    let mid : List ℕ = drafted c.tell_one.new.draft image in
    upwards_on file steps outer step c.is_empty.result c.args.parts.now is top mid c.in-Some-2.own up.0
    (subst (λ own. TellsOne step c.is_empty.result c.args.parts.now own file mid) c.in-Some-2.is
    (c.in_ok-own.ensures.told image told))
    (drafted c.part.new.draft image)
    (rest image (same_image h.told h.moment h.failures h.left_since c.args.base.now c.tell_one.new.base
    c.in_ok-own.ensures.drafts.read ∙ told)))
    c.part.ensures.parted

pub returns-clause-ends : goal.returns-clause-ends
returns-clause-ends g t c =
    let h = g.H.Host in
    let steps : List Step = c.args.steps.now in
    let outer : List Step = c.in-Some.outer.now in
    let step : Step = c.in-Some.step.now in
    let is : steps ≡ outer ++ step ∷ [] = c.in-Some.ensures.cases.0 in
    let top : c.is_empty.result ≡ (length outer == 0) = c.is_empty.ensures in
    let read = c.in_ok-own.ensures.drafts.read in
    let up = subst (λ own. IfSome own (λ _. (c.is_empty.result ≡ false)
    × (c.args.draft.now.header.free ≤ c.tell_one.new.draft.header.free + 2))) c.in-Some-2.is c.in_ok-own.ensures.up in
    parting_ends (Unit {0}) (h.failures c.args.base.now.host) (h.failures c.tell_one.new.base.host)
    (h.failures c.part.new.base.host) _ _ _ _ c.part.result read.read.failures
    (λ cannot image told.
    let file : List ℕ = drafted c.args.draft.now image in
    let mid : List ℕ = drafted c.tell_one.new.draft image in
    let told' = same_image h.told h.moment h.failures h.left_since c.args.base.now c.tell_one.new.base read ∙ told in
    cannot_on file steps outer step c.is_empty.result c.args.parts.now is top mid c.in-Some-2.own up.0
    (subst (λ own. TellsOne step c.is_empty.result c.args.parts.now own file mid) c.in-Some-2.is
    (c.in_ok-own.ensures.told image told))
    (omega (
      arith,
      up.1,
      ap (λ (x : Header). x.free) (drafted_fields image c.args.draft.now (c.hold_draft.ensures image told)),
      ap (λ (x : Header). x.free)
          (drafted_fields image c.tell_one.new.draft (c.hold_draft-2.ensures image told')),
    ))
    (cannot image told'))
    (λ grows image told.
    let file : List ℕ = drafted c.args.draft.now image in
    let mid : List ℕ = drafted c.tell_one.new.draft image in
    let told' = same_image h.told h.moment h.failures h.left_since c.args.base.now c.tell_one.new.base read ∙ told in
    grows_on file steps outer step c.is_empty.result c.args.parts.now is top mid c.in-Some-2.own up.0
    (subst (λ own. TellsOne step c.is_empty.result c.args.parts.now own file mid) c.in-Some-2.is
    (c.in_ok-own.ensures.told image told))
    (grows image told'))
    c.part.ensures.ends
