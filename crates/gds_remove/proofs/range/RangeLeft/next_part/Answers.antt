use Rattle.std.proofs.Common.{◌≡◌, List, Option, None, Some, ℕ, Bool, true, false, sym, ap, ◌∙◌, subst}
use Rattle.std.proofs.lemmas.Bool.{false≢true}
use Rattle.gds_remove.specs.Range.{Left, TakesPart, bytes_of, left_of}
use Rattle.gds_remove.proofs.RangeLemmas.{none_before, none_past, some_part}
use Rattle.gds_remove.proofs.range.RangeLeft.next_part.Goals as goal
use Rattle.gds_remove.proofs.range.RangeLeft.next_part.Goals.{then-is_past, else-is_past}

pub returns-then-self-clause-part : goal.returns-then-self-clause-part
returns-then-self-clause-part c = λ range from l.
    none_past range from c.args.key.now (left_of c.args.self.now) l c.if-self.true

pub returns-then-is_before-clause-part : goal.returns-then-is_before-clause-part
returns-then-is_before-clause-part c = λ range from l.
    none_before range from c.args.key.now (left_of c.args.self.now) l (c.is_before.ensures.before c.if-is_before.true)

pub returns-clause-part : goal.returns-clause-part
returns-clause-part c = λ range from l.
    let left : Left = left_of c.args.self.now in
    let past : Bool = c.ends_below-is_past.result in
    let high : Option (List ℕ) = bytes_of c.if-is_past.high in
    let whole : past ≡ true → high ≡ left.high = elim c.if-is_past.branch [
      | then-is_past w ↦ λ is. ap bytes_of w.high-is
      | else-is_past w ↦ λ is. absurd (false≢true (sym w.if-is_past.false ∙ is))
    ] in
    let none : past ≡ false → high ≡ None = elim c.if-is_past.branch [
      | then-is_past w ↦ λ is. absurd (false≢true (sym is ∙ w.if-is_past.true))
      | else-is_past w ↦ λ is. ap bytes_of w.high-is
    ] in
    let part = some_part range from c.args.key.now left past high l (c.is_before.ensures.reached c.if-is_before.false)
    c.ends_below-is_past.ensures.ends c.ends_below-is_past.ensures.goes_on whole none in
    subst (λ (low : Option (List ℕ)). TakesPart range from c.args.key.now
    (record { low = low; high = left.high; past = past })
    (Some (record { low = bytes_of c.take-low.result; high = high })))
    (sym (ap bytes_of c.take-low.ensures.after))
    (subst (λ (low : Option (List ℕ)). TakesPart range from c.args.key.now
    (record { low = None; high = left.high; past = past })
    (Some (record { low = low; high = high })))
    (sym (ap bytes_of c.take-low.ensures.value)) part)
