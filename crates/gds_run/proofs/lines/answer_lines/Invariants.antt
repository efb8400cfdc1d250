use Rattle.std.proofs.Common.{◌≡◌, ◌≤◌, ◌-◌, ℕ, List, false, IsFalse, Ok, Option, Some}
use Rattle.gds_lines.specs.declared.TheConstants.{INPUT_LIMIT}
use Rattle.gds_run.specs.Ending.{EndsScript}
use Rattle.gds_run.specs.Progress.{Origin, Progress}
use Rattle.gds_script.specs.Script.{script_of}
use Rattle.gds_run.proofs.lines.answer_lines.Given as goal

-- The lines of what is left of the text are left of the script.
abbrev pub invariant-loop-line : goal.invariant-loop-line
invariant-loop-line g l = record {
  going : l.session.base.stopped ≡ false;
  reading : IsFalse l.lines.refused;
  few : l.session.changes ≤ l.lines.passed;
  short : l.lines.passed ≤ INPUT_LIMIT;
  taken : l.lines.taken ≤ INPUT_LIMIT;
  run : (o : Origin g.row.H.Denot) (text : List ℕ) → l.fn.lines.left ≡ Some text
      → Progress g.H.Host.told g.H.Host.moment g.H.Host.left_since o (script_of text) l.fn.session.base
      l.fn.session.waiting.items l.fn.session.changes
      → (left : List ℕ) × (l.lines.left ≡ Some left) × Progress g.H.Host.told g.H.Host.moment g.H.Host.left_since o
      (script_of left) l.session.base l.session.waiting.items l.session.changes;
  ends : EndsScript {T = Unit {0}} g.H.Host.told g.H.Host.failures l.fn.session.base l.session.base l.fn.lines l.lines
      (Ok tt);
}

abbrev pub decreases-loop-line : goal.decreases-loop-line
decreases-loop-line g l = INPUT_LIMIT - l.lines.passed
