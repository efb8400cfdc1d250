use Rattle.std.proofs.Common.{◌≡◌, List, [], ℕ, length, sym, ap, ◌∙◌, subst}
use Rattle.std.proofs.lemmas.List.{nil_from_length}
use Rattle.std.proofs.lemmas.Bool.{eqb-true, eqb-false}
use Rattle.std.proofs.Common.{Some}
use Rattle.m_text.specs.Grammar.{IsValueText}
use Rattle.m_text.specs.Front.{string_at}
use Rattle.m_text.proofs.ValueLemmas.{value_of_number, value_of_string, no_value, string_whole, no_string_none}
use Rattle.m_text.proofs.ValueLemmas.{no_string_rest, canonical_some, canonical_none}
use Rattle.m_text.proofs.value.read_value.Goals as goal

pub returns-then-is_some-clause-some : goal.returns-then-is_some-clause-some
returns-then-is_some-clause-some c =
    let text : List ℕ = c.args.text.now in
    let p = canonical_some c.parse_canonical.result text c.parse_canonical.ensures.some (sym c.if-is_some.ensures) in
    let P : List ℕ → Type 0 = λ v. IsValueText text v in
    subst P (sym c.in_ok-from_slice.ensures.items) (value_of_number p.0 text p.1 p.2)

pub returns-in_default-clause-none : goal.returns-in_default-clause-none
returns-in_default-clause-none c =
    let text : List ℕ = c.args.text.now in
    let none = rw c.in_default.is at c.in_ok-rest.ensures in
    λ value. no_value text value (canonical_none c.parse_canonical.result c.parse_canonical.ensures.none
    (sym c.if-is_some.ensures)) (no_string_none text value none)

pub returns-then-is_empty-clause-some : goal.returns-then-is_empty-clause-some
returns-then-is_empty-clause-some c =
    let text : List ℕ = c.args.text.now in
    let rest : List ℕ = c.in-Some.rest.now in
    let new : List ℕ = c.read_string.new.out.items in
    let found = rw c.in-Some.is at c.in_ok-rest.ensures in
    let whole : string_at text ≡ Some (new, rest) =
    string_whole c.new-value.result.items text new rest c.new-value.ensures.items found in
    let empty : rest ≡ [] = nil_from_length rest (eqb-true (length rest) 0 (sym c.if-is_empty.ensures)) in
    value_of_string text new (whole ∙ ap (λ (r : List ℕ). Some (new, r)) empty)

pub returns-else-is_empty-clause-none : goal.returns-else-is_empty-clause-none
returns-else-is_empty-clause-none c =
    let text : List ℕ = c.args.text.now in
    let rest : List ℕ = c.in-Some.rest.now in
    let new : List ℕ = c.read_string.new.out.items in
    let found = rw c.in-Some.is at c.in_ok-rest.ensures in
    let whole : string_at text ≡ Some (new, rest) =
    string_whole c.new-value.result.items text new rest c.new-value.ensures.items found in
    λ value. no_value text value (canonical_none c.parse_canonical.result c.parse_canonical.ensures.none
    (sym c.if-is_some.ensures)) (no_string_rest text new rest value whole
    (eqb-false (length rest) 0 (sym c.if-is_empty.ensures)))
