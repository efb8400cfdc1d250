use Rattle.std.proofs.Common.{◌≡◌, List, ℕ, sym, ◌∙◌, subst}
use Rattle.m_text.specs.FrontSubscripts.{ListStandsAt}
use Rattle.m_text.proofs.ReferenceLemmas.{tail_of}
use Rattle.m_text.proofs.reference.read_list.Goals as goal
use Rattle.m_number.proofs.TextLemmas.{front_taken}

pub returns-clause-only : goal.returns-clause-only
returns-clause-only c =
    let only = rw c.in-Some-2.is at c.in_ok-items.ensures.only in
    let taken = c.in-Some.ensures.cases in
    λ inside rest ss right count e h.
    let same : inside ≡ c.in-Some.inside.now =
    tail_of 40 40 inside c.in-Some.inside.now (sym e
    ∙ front_taken 40 c.args.text.now c.in-Some.inside.now taken.0 taken.1) in
    let P : List ℕ → Type 0 = λ t. ListStandsAt t ss rest in
    only ss rest right count (subst P same h)
