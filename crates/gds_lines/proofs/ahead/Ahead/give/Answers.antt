use Rattle.std.proofs.Common.{arith, ◌-◌, ◌+◌, ◌≤◌, length, take, drop, ◌≡◌, ap, sym, ◌∙◌, Some, length-take}
use Rattle.std.proofs.lemmas.List.{take-take}
use Rattle.std.proofs.lemmas.List.Edits.{length-between}
use Rattle.std.specs.Str.Lines.{strip_carriage_return}
use Rattle.gds_lines.specs.Lines.{given}
use Rattle.gds_lines.proofs.PartLemmas.{slice_range-rest, slice_range-front}
use Rattle.gds_lines.proofs.LineLemmas.{next_line-ended}
use Rattle.gds_lines.specs.Ahead.{held}
use Rattle.gds_lines.proofs.ahead.Ahead.give.Goals as goal

pub returns-clause-rest : goal.returns-clause-rest
returns-clause-rest c =
    let s = c.args.self.now in
    let long : length (held s) ≡ s.to - s.from =
    length-between s.buffer.items s.from s.to (omega (arith, s.within, s.buffer.ok.0)) in
    slice_range-rest s.buffer.items s.from s.to (c.args.end + 1) (omega arith)
    ∙ ap (λ n. drop (n + 1) (held s)) c.requires.first

pub returns-clause-line : goal.returns-clause-line
returns-clause-line c =
    let s = c.args.self.now in
    let end = c.args.end in
    let len = c.given_len-len.result in
    let long : length (held s) ≡ s.to - s.from =
    length-between s.buffer.items s.from s.to (omega (arith, s.within, s.buffer.ok.0)) in
    let short : len ≤ end = omega (arith, length-take end c.held.result.now, c.given_len-len.ensures.within) in
    ap Some
    (slice_range-front s.buffer.items s.from s.to len (omega arith)
    ∙ sym (take-take len end (held s) short)
    ∙ ap (λ l. take len (take end l)) (sym c.held.ensures)
    ∙ c.given_len-len.ensures.given
    ∙ ap (λ l. given (strip_carriage_return (take end l))) c.held.ensures
    ∙ ap (λ n. given (strip_carriage_return (take n (held s)))) c.requires.first)
    ∙ sym (next_line-ended (held s) (omega arith))
