use Rattle.std.proofs.Common.{◌≡◌, ◌∷◌, [], ◌≤◌, List, ℕ, length, take, Some, sym, ap, ◌∙◌, arith}
use Rattle.std.proofs.lemmas.List.{take_all}
use Rattle.std.proofs.lemmas.List.Sums.{prefix_len-le-length}
use Rattle.std.specs.Char.{is_ascii_digit}
use Rattle.m_text.specs.Grammar.{code_value}
use Rattle.m_text.proofs.PieceLemmas.{code_at-few, code_at-many, code_at-great, code_at-some}
use Rattle.m_text.proofs.reading.read_code.Goals as goal

pub split_at-requires : goal.split_at-requires
split_at-requires c = omega (arith, c.digits_len-count.ensures, prefix_len-le-length is_ascii_digit c.args.text.now)

pub returns-then-count-eq0 : goal.returns-then-count-eq0
returns-then-count-eq0 c =
    sym (code_at-few c.args.text.now c.digits_len-count.result c.digits_len-count.ensures (omega arith))

pub returns-then-count-gt3 : goal.returns-then-count-gt3
returns-then-count-gt3 c =
    sym (code_at-many c.args.text.now c.digits_len-count.result c.digits_len-count.ensures (omega arith))

value_of : (value index : ℕ) (digits front : List ℕ) → value ≡ code_value (take index digits) → length digits ≤ index
    → digits ≡ front → value ≡ code_value front
value_of value index digits front v l e = v ∙ ap code_value (take_all index digits l ∙ e)

pub returns-then-value-gt255 : goal.returns-then-value-gt255
returns-then-value-gt255 c =
    let n : ℕ = c.digits_len-count.result in
    let value : c.loop-digit.value ≡ code_value (take n c.args.text.now) =
    value_of c.loop-digit.value c.loop-digit.digit-index c.split_at.result.0.now (take n c.args.text.now)
    c.loop-digit.invariant.value (omega arith) c.split_at.ensures.front in
    sym (code_at-great c.args.text.now n c.digits_len-count.ensures (omega (arith, value)))

pub returns : goal.returns
returns c =
    let n : ℕ = c.digits_len-count.result in
    let value : c.loop-digit.value ≡ code_value (take n c.args.text.now) =
    value_of c.loop-digit.value c.loop-digit.digit-index c.split_at.result.0.now (take n c.args.text.now)
    c.loop-digit.invariant.value (omega arith) c.split_at.ensures.front in
    ap (λ (v : ℕ). Some (v ∷ [], c.split_at.result.1.now)) value
    ∙ ap (λ (r : List ℕ). Some (code_value (take n c.args.text.now) ∷ [], r)) c.split_at.ensures.back
    ∙ sym (code_at-some c.args.text.now n c.digits_len-count.ensures (omega arith) (omega arith) (omega (arith, value)))
