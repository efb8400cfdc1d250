use Rattle.std.proofs.Common.{ℕ, List, ◌∷◌, length, sym, ap, ◌∙◌, arith}
use Rattle.std.proofs.lemmas.Int.{ints}
use Rattle.std.proofs.lemmas.List.{nil_from_length}
use Rattle.m_number.proofs.BytesLemmas.{same_numeral, byte_count}
use Rattle.m_number.proofs.NumberLemmas.{made}
use Rattle.m_number.proofs.PackedLemmas.{zero_shape, plus_shape, minus_shape, alone}
use Rattle.m_number.proofs.bytes.candidate.Goals as goal

pub returns-in_err-first : goal.returns-in_err-first
returns-in_err-first c n h bytes =
    let none = c.in_err-first.ensures.cases in
    let same = ap length bytes in
    let count = byte_count n h in
    absurd (omega arith)

pub returns-then-first : goal.returns-then-first
returns-then-first c n h bytes =
    let rest = c.in_ok-first.rest.now in
    let l = zero_shape n h rest (bytes ∙ c.in_ok-first.ensures.cases.0 ∙ ap (λ (b : ℕ). b ∷ rest) c.if-first.true) in
    let e = h.zero_exponent l in
    made c.new-then-first.result _ n
    (same_numeral _ n (sym (h.zero_sign l)) (c.new.ensures ∙ sym (nil_from_length n.digits l)) (omega (arith, ints))) h
    c.new-then-first.ensures.some c.new-then-first.ensures.none

pub returns-then-first-gt128 : goal.returns-then-first-gt128
returns-then-first-gt128 c n h bytes =
    let s = plus_shape n h c.in_ok-first.first.now c.in_ok-first.rest.now c.if-first-gt128.true (bytes
    ∙ c.in_ok-first.ensures.cases.0) in
    c.nonzero.ensures n h s.sign s.some s.head s.rest

pub returns-in_err-packed : goal.returns-in_err-packed
returns-in_err-packed c n h bytes =
    let first = c.in_ok-first.first.now in
    let none = nil_from_length c.in_ok-first.rest.now c.in_err-packed.ensures.cases in
    absurd (alone n h first (omega arith) (bytes ∙ c.in_ok-first.ensures.cases.0
    ∙ ap (λ (xs : List ℕ). first ∷ xs) none))

pub returns : goal.returns
returns c n h bytes =
    let first = c.in_ok-first.first.now in
    let s = minus_shape n h first c.in_ok-packed.packed.now c.in_ok-packed.field-0-0.now (omega arith)
    (bytes ∙ c.in_ok-first.ensures.cases.0 ∙ ap (λ (xs : List ℕ). first ∷ xs) c.in_ok-packed.ensures.cases.0) in
    c.nonzero-2.ensures n h s.sign s.some s.head s.rest
