use Rattle.std.proofs.Common.{sym, arith, length, ◌≤◌}
use Rattle.std.proofs.lemmas.List.{take_all}
use Rattle.std.proofs.lemmas.List.Edits.{length-between}
use Rattle.gds_lines.specs.Ahead.{held}
use Rattle.gds_lines.proofs.PartLemmas.{slice_range-front}
use Rattle.gds_lines.proofs.ahead.Ahead.shorten.Goals as goal

pub returns-then-self-gt-HELD_LIMIT-clause-cut : goal.returns-then-self-gt-HELD_LIMIT-clause-cut
returns-then-self-gt-HELD_LIMIT-clause-cut c =
    let s = c.args.self.now in
    slice_range-front s.buffer.items s.from s.to 1048578 (omega arith)

pub returns-else-self-gt-HELD_LIMIT-clause-cut : goal.returns-else-self-gt-HELD_LIMIT-clause-cut
returns-else-self-gt-HELD_LIMIT-clause-cut c =
    let s = c.args.self.now in
    let short : length (held s) ≤ 1048578 =
    omega (arith, length-between s.buffer.items s.from s.to (omega (arith, s.within, s.buffer.ok.0))) in
    sym (take_all 1048578 (held s) short)
