use Rattle.std.proofs.Common.{◌≡◌, ◌∷◌, [], List, ℕ, ◌==◌, length, vec_len, Some, refl, sym, ap, ◌∙◌}
use Rattle.std.proofs.lemmas.Bool.{eqb-true}
use Rattle.std.proofs.lemmas.Slice.Eq.{bytes_eq-Decides}
use Rattle.m_text.specs.Front.{string_at}
use Rattle.m_text.specs.FrontSubscripts.{null}
use Rattle.m_text.proofs.FoundLemmas.{pair_of}
use Rattle.m_text.proofs.ValueLemmas.{string_whole}
use Rattle.m_text.proofs.SubscriptLemmas.{none_read, string_stands}
use Rattle.m_text.proofs.NullReferenceLemmas.{null_read, empty_list}
use Rattle.m_text.proofs.null_reference.is_last_null.Goals as goal

pub returns-in_default-clause-no : goal.returns-in_default-clause-no
returns-in_default-clause-no c =
    let none = rw c.in_default.is at c.in_ok-rest.ensures in
    λ h. absurd (none_read c.args.text.now [] (41 ∷ []) none (null_read c.args.text.now h))

pub returns-then-is_empty-clause-yes : goal.returns-then-is_empty-clause-yes
returns-then-is_empty-clause-yes c =
    let text : List ℕ = c.args.text.now in
    let new : List ℕ = c.read_string.new.out.items in
    let rest : List ℕ = c.in-Some.rest.now in
    let found = rw c.in-Some.is at c.in_ok-rest.ensures in
    let whole : string_at text ≡ Some (new, rest) =
    string_whole c.clear.new.self.items text new rest c.clear.ensures.items found in
    let none : length new ≡ 0 =
    sym c.read_string.new.out.ok.0
    ∙ eqb-true (vec_len c.read_string.new.out) 0 (sym c.is_empty.ensures ∙ c.if-is_empty.true) in
    λ is.
    let end : rest ≡ 41 ∷ [] =
    (bytes_eq-Decides rest c.as_slice.result.now).0 (sym c.eq.ensures ∙ is) ∙ c.as_slice.ensures in
    string_stands text [] (41 ∷ []) null
    (whole ∙ ap (λ (t : List ℕ). Some (t, rest)) (empty_list new none) ∙ ap (λ (t : List ℕ). Some ([], t)) end) refl

pub returns-then-is_empty-clause-no : goal.returns-then-is_empty-clause-no
returns-then-is_empty-clause-no c =
    let text : List ℕ = c.args.text.now in
    let new : List ℕ = c.read_string.new.out.items in
    let rest : List ℕ = c.in-Some.rest.now in
    let found = rw c.in-Some.is at c.in_ok-rest.ensures in
    let whole : string_at text ≡ Some (new, rest) =
    string_whole c.clear.new.self.items text new rest c.clear.ensures.items found in
    λ h.
    let both = pair_of new rest [] (41 ∷ []) (sym whole ∙ null_read text h) in
    c.eq.ensures ∙ (bytes_eq-Decides rest c.as_slice.result.now).1 (both.1 ∙ sym c.as_slice.ensures)

pub returns-else-is_empty-clause-no : goal.returns-else-is_empty-clause-no
returns-else-is_empty-clause-no c =
    let text : List ℕ = c.args.text.now in
    let new : List ℕ = c.read_string.new.out.items in
    let rest : List ℕ = c.in-Some.rest.now in
    let found = rw c.in-Some.is at c.in_ok-rest.ensures in
    let whole : string_at text ≡ Some (new, rest) =
    string_whole c.clear.new.self.items text new rest c.clear.ensures.items found in
    λ h.
    let both = pair_of new rest [] (41 ∷ []) (sym whole ∙ null_read text h) in
    c.is_empty.ensures ∙ ap (λ (n : ℕ). n == 0) (c.read_string.new.out.ok.0 ∙ ap length both.0)
