use Rattle.std.proofs.Common.{List, ℕ, Some, sym, ap, ◌∙◌}
use Rattle.m_text.specs.Front.{piece_at}
use Rattle.m_text.proofs.PieceLemmas.{piece_at-shortens}
use Rattle.m_text.proofs.SeparatedLemmas.{list_step, item_shorter}
use Rattle.m_text.proofs.reading.read_string.Goals as goal
use Rattle.m_number.proofs.TextLemmas.{front_taken}

pub loop-after-smaller : goal.loop-after-smaller
loop-after-smaller c =
    let found = rw c.in-Some.is at c.in_ok-after.ensures in
    let taken = c.in-Some-strip_prefix.ensures.cases in
    item_shorter piece_at 95 piece_at-shortens c.loop-after.out.items c.read_piece.new.out.items c.loop-after.rest.now
    c.in-Some-strip_prefix.more.now (found
    ∙ ap (λ (t : List ℕ). Some (
      c.read_piece.new.out.items,
      t,
    )) (front_taken 95 c.in-Some.after.now c.in-Some-strip_prefix.more.now taken.0 taken.1))

pub loop-after-preserved : goal.loop-after-preserved
loop-after-preserved c =
    let found = rw c.in-Some.is at c.in_ok-after.ensures in
    let taken = c.in-Some-strip_prefix.ensures.cases in
    let more = front_taken 95 c.in-Some.after.now c.in-Some-strip_prefix.more.now taken.0 taken.1 in
    sym (list_step piece_at 95 piece_at-shortens c.loop-after.out.items c.read_piece.new.out.items c.loop-after.rest.now
    c.in-Some-strip_prefix.more.now (found ∙ ap (λ (t : List ℕ). Some (c.read_piece.new.out.items, t)) more))
    ∙ c.loop-after.invariant
