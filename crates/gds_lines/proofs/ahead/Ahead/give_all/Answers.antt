use Rattle.std.proofs.Common.{arith, ◌-◌, ◌+◌, length, ◌≡◌, ap, sym, ◌∙◌, slice_range, min, Some}
use Rattle.std.proofs.lemmas.List.Edits.{length-between}
use Rattle.gds_lines.proofs.LineLemmas.{next_line-unended}
use Rattle.gds_lines.proofs.PartLemmas.{slice_range-cut}
use Rattle.gds_lines.specs.Ahead.{held}
use Rattle.gds_lines.proofs.ahead.Ahead.give_all.Goals as goal

pub returns-clause-line : goal.returns-clause-line
returns-clause-line c =
    let s = c.args.self.now in
    let long : length (held s) ≡ s.to - s.from =
    length-between s.buffer.items s.from s.to (omega (arith, s.within, s.buffer.ok.0)) in
    let cut = ap (λ n. slice_range s.buffer.items s.from (s.from + min n 1048577)) (c.len-len.ensures ∙ long) in
    ap Some (ap (λ n. slice_range s.buffer.items s.from (s.from + n)) c.min.ensures ∙ cut
    ∙ slice_range-cut s.buffer.items s.from s.to 1048577)
    ∙ sym (next_line-unended (held s) c.requires (omega arith))
