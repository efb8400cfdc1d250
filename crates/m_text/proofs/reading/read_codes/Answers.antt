use Rattle.std.proofs.Common.{◌∷◌, [], ◌++◌, List, ℕ, Some, sym, ap, ◌∙◌}
use Rattle.m_text.specs.Front.{with_front, code_at}
use Rattle.m_text.proofs.PieceLemmas.{code_at-shortens}
use Rattle.m_text.proofs.SeparatedLemmas.{list_step}
use Rattle.m_text.proofs.reading.read_codes.Goals as goal
use Rattle.m_number.proofs.TextLemmas.{front_taken}

pub loop-code-preserved : goal.loop-code-preserved
loop-code-preserved c =
    let taken = c.in-Some-strip_prefix.ensures.cases in
    let more = front_taken 44 c.in-Some.after.now c.in-Some-strip_prefix.more.now taken.0 taken.1 in
    sym (list_step code_at 44 code_at-shortens c.loop-code.out.items c.push.new.self.items c.loop-code.rest.now
    c.in-Some-strip_prefix.more.now (ap (with_front c.loop-code.out.items) (sym c.in-Some.ensures)
    ∙ ap (λ (t : List ℕ). Some (c.loop-code.out.items ++ c.in-Some.code ∷ [], t)) more
    ∙ ap (λ (t : List ℕ). Some (t, 44 ∷ c.in-Some-strip_prefix.more.now)) (sym c.in_ok-push.ensures.items)))
    ∙ c.loop-code.invariant
