use Rattle.std.proofs.Common.{List, ℕ, length, sym, subst, arith}
use Rattle.std.proofs.lemmas.List.{take_all}
use Rattle.m_text.specs.Grammar.{IsReferenceText}
use Rattle.gds_words.proofs.script.read_whole_reference.Goals as goal

pub returns-in_default-clause-none : goal.returns-in_default-clause-none
returns-in_default-clause-none c =
    let text : List ℕ = c.args.text.now in
    let whole = take_all (length text) text (omega arith) in
    let none = rw c.in_default.is at c.in_ok-reference.ensures.none in
    λ node h. none (length text) node (subst (λ (t : List ℕ). IsReferenceText t node) (sym whole) h)

pub returns-then-len-text-clause-none : goal.returns-then-len-text-clause-none
returns-then-len-text-clause-none c =
    let text : List ℕ = c.args.text.now in
    let whole = take_all (length text) text (omega arith) in
    let longest = rw c.in-Some.is at c.in_ok-reference.ensures.longest in
    λ node h.
    let least =
    longest (length text) node (omega arith) (subst (λ (t : List ℕ). IsReferenceText t node) (sym whole) h) in
    absurd (omega (arith, least))
