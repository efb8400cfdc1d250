use Rattle.std.proofs.Common.{◌∙◌}
use Rattle.m_number.proofs.TextLemmas.{behind_sign, without_sign, front_taken, no_front}
use Rattle.m_number.proofs.text.candidate.Goals as goal

pub returns-in-Some : goal.returns-in-Some
returns-in-Some c n h text =
    let taken = c.in-Some.ensures.cases in
    let p = behind_sign n c.in-Some.size.now (text
    ∙ front_taken 45 c.args.text.now c.in-Some.size.now taken.0 taken.1) in
    c.candidate_of_size.ensures n h p.0 p.1

pub returns-in-None : goal.returns-in-None
returns-in-None c n h text =
    let p = without_sign n c.args.text.now text (no_front 45 c.args.text.now c.in-None.ensures.cases) in
    c.candidate_of_size-in-None.ensures n h p.0 p.1
