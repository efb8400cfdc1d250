use Rattle.std.proofs.Common.{List, ℕ, take, sym, subst}
use Rattle.m_key.specs.Node.{IsName}
use Rattle.m_text.proofs.ReferenceLemmas.{name_taken}
use Rattle.m_text.proofs.reference.read_name.Goals as goal

pub returns-in_err-name-clause-none : goal.returns-in_err-name-clause-none
returns-in_err-name-clause-none c =
    let text : List ℕ = c.args.text.now in
    let P : ℕ → Type 0 = λ n. IsName (take n text) in
    rw c.from_residual.ensures (λ name rest is e.
    let taken : IsName (take c.longest_name-len.result text) =
    subst P (sym c.longest_name-len.ensures.value) (name_taken name text rest is e) in
    let wrong = c.in_err-name.ensures.variant.1 taken in
    cc)
