use Rattle.std.proofs.Common.{◌+◌, ◌-◌, ℕ, List, ◌++◌, length, take, sym, ap, ◌∙◌, arith}
use Rattle.std.proofs.lemmas.Int.{ints}
use Rattle.std.proofs.lemmas.List.{take_rest, append-nil}
use Rattle.m_number.proofs.TextLemmas.{read_pointed, read_whole}
use Rattle.m_number.proofs.text.candidate_of_large.Goals as goal

pub returns-then-whole-size : goal.returns-then-whole-size
returns-then-whole-size c n h sign text start =
    let s = c.args.size.now in
    let w = c.whole_len-whole.result in
    let p = read_pointed n h s w text start c.whole_len-whole.ensures.value c.if-whole-size.true in
    c.number_of.ensures n h sign
    (p.0 ∙ ap (λ (xs : List ℕ). take w s ++ xs) (sym (take_rest s (w + 1))))
    (omega (arith, ints, p.1))

pub returns-else-whole-size : goal.returns-else-whole-size
returns-else-whole-size c n h sign text start =
    let s = c.args.size.now in
    let z = c.end_zeros_len.result in
    let p = read_whole n h s c.whole_len-whole.result z text start c.whole_len-whole.ensures.value
    c.end_zeros_len.ensures.value c.if-whole-size.false in
    c.number_of-else-whole-size.ensures n h sign (p.0
    ∙ sym (append-nil (take (length s - z) s))) (omega (arith, ints, p.1))
