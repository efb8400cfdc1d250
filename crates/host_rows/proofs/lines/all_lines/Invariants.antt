use Rattle.std.proofs.Common.{◌≡◌, ◌++◌, ◌-◌, ◌≤◌, ◌^◌, map, IsFalse}
use Rattle.std.specs.Str.Lines.{lines}
use Rattle.host_model.specs.Told.{TellsOn}
use Rattle.gds_lines.specs.Lines.{given}
use Rattle.host_rows.proofs.lines.all_lines.Given as goal

-- The lines so far, and those of what is left, are the lines of the text.
abbrev pub invariant-loop-all : goal.invariant-loop-all
invariant-loop-all g l = record {
  so_far : TellsOn (g.I.Source.left l.fn.source) l.reader.left
      (λ text rest. map given (lines text) ≡ map (λ line. line.items) l.all.items ++ map given (lines rest));
  goes : IsFalse l.reader.refused;
  passed : l.reader.passed ≤ 2 ^ 40;
}

abbrev pub decreases-loop-all : goal.decreases-loop-all
decreases-loop-all g l = 2 ^ 40 - l.reader.passed
