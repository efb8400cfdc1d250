use Rattle.std.proofs.Common.{sym, ◌∙◌, arith}
use Rattle.std.proofs.lemmas.Int.{ints}
use Rattle.std.proofs.lemmas.List.{take_rest}
use Rattle.m_number.proofs.TextLemmas.{read_fraction, front_taken}
use Rattle.m_number.proofs.text.candidate_of_size.Goals as goal

pub returns-in-Some : goal.returns-in-Some
returns-in-Some c n h sign text =
    let f = c.in-Some.fraction.now in
    let z = c.zeros_len-zeros.result in
    let taken = c.in-Some.ensures.cases in
    let p = read_fraction n h f z (text
    ∙ front_taken 46 c.args.size.now f taken.0 taken.1) c.zeros_len-zeros.ensures.value in
    c.number_of.ensures n h sign (p.0 ∙ sym (take_rest f z)) (omega (arith, ints, p.1, taken.2))
