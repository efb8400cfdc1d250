use Rattle.std.proofs.Common.{◌+◌, ◌-◌, ◌≤◌, ◌^◌, length}
use Rattle.host_model.specs.Told.{TellsOn}
use Rattle.gds_lines.specs.Lines.{line_len}
use Rattle.gds_lines.specs.Ahead.{held, text_left}
use Rattle.gds_lines.specs.LinesState.{Counts}
use Rattle.gds_lines.proofs.LineLemmas.{LooksAs}
use Rattle.gds_lines.proofs.finding.find_line.Given as goal

-- What is left looks to a reader as at the call. The first `scanned` bytes that are held have no line end.
abbrev pub invariant-loop-end : goal.invariant-loop-end
invariant-loop-end g l = record {
  seen : TellsOn (text_left l.fn.ahead (g.I.Source.left l.fn.source))
      (text_left l.ahead (g.I.Source.left l.source)) LooksAs;
  counts : TellsOn (g.I.Source.left l.fn.source) (g.I.Source.left l.source) (Counts l.fn.taken l.taken);
  scanned : l.scanned ≤ line_len (held l.ahead);
  behind : length (held l.ahead) ≤ l.taken;
  onward : l.fn.taken + length (held l.ahead) ≤ l.taken + length (held l.fn.ahead);
  taken : l.fn.taken ≤ l.taken;
  within : l.taken ≤ 2 ^ 40;
  failures : g.I.Source.failures l.fn.source ≤ g.I.Source.failures l.source;
}

-- Each piece has a byte at least.
abbrev pub decreases-loop-end : goal.decreases-loop-end
decreases-loop-end g l = 2 ^ 40 - l.taken
