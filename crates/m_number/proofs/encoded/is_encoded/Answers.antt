use Rattle.std.proofs.Common.{◌++◌, [], ◌∷◌, ap, ◌∙◌, subst, arith}
use Rattle.std.proofs.lemmas.Bool.{eqb-true}
use Rattle.std.proofs.lemmas.List.{nil_from_length}
use Rattle.m_number.proofs.EncodedLemmas.{IsEncoded, encoded_at, encoded_never, encoded_zero, encoded_plus}
use Rattle.m_number.proofs.EncodedLemmas.{encoded_minus}
use Rattle.m_number.proofs.EncodedLemmas.{encoded_none, encoded_alone, encoded_open}
use Rattle.m_number.proofs.encoded.is_encoded.Goals as goal

pub returns-in_default : goal.returns-in_default
returns-in_default c = encoded_never (encoded_none c.args.bytes.now c.in_default.ensures.cases)

pub returns-then-first : goal.returns-then-first
returns-then-first c =
    let bytes = c.in-Some.ensures.cases.0 ∙ ap (λ b. b ∷ c.in-Some.rest.now) c.if-first.true in
    encoded_at bytes c.is_empty.ensures (encoded_zero c.in-Some.rest.now)

pub returns-then-first-gt128 : goal.returns-then-first-gt128
returns-then-first-gt128 c =
    encoded_at c.in-Some.ensures.cases.0 c.is_nonzero.ensures
    (encoded_plus c.in-Some.first.now c.in-Some.rest.now c.if-first-gt128.true)

pub returns-in_default-split_last : goal.returns-in_default-split_last
returns-in_default-split_last c =
    let first = c.in-Some.first.now in
    let none = nil_from_length c.in-Some.rest.now c.in_default-split_last.ensures.cases in
    let bytes = c.in-Some.ensures.cases.0 ∙ ap (λ xs. first ∷ xs) none in
    encoded_never (λ h. encoded_alone first (omega arith) (subst IsEncoded bytes h))

pub returns-then-last : goal.returns-then-last
returns-then-last c =
    let first = c.in-Some.first.now in
    let packed = c.in-Some-split_last.packed.now in
    let bytes =
    c.in-Some.ensures.cases.0 ∙ ap (λ xs. first ∷ xs) c.in-Some-split_last.ensures.cases.0
    ∙ ap (λ b. first ∷ (packed ++ b ∷ [])) c.if-last.true in
    encoded_at bytes c.is_nonzero-then-last.ensures (encoded_minus first packed (omega arith))

pub returns-else-last : goal.returns-else-last
returns-else-last c =
    let first = c.in-Some.first.now in
    let packed = c.in-Some-split_last.packed.now in
    let last = c.in-Some-split_last.last.now in
    let bytes = c.in-Some.ensures.cases.0 ∙ ap (λ xs. first ∷ xs) c.in-Some-split_last.ensures.cases.0 in (
      λ t. absurd (c.if-last.false (eqb-true last 255 t)),
      λ h. absurd (encoded_open first packed last (omega arith) c.if-last.false (subst IsEncoded bytes h)),
    )
