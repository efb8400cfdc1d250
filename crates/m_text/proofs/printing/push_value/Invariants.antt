use Rattle.std.proofs.Common.{◌≡◌, ◌++◌, length, take}
use Rattle.m_text.specs.Written.{runs_of, more_runs_text, value_text}
use Rattle.m_text.proofs.printing.push_value.Given as goal

abbrev pub invariant-loop-rest : goal.invariant-loop-rest
invariant-loop-rest l = record {
  text : l.out.items ++ more_runs_text (runs_of l.rest) ≡ l.fn.out.items ++ value_text l.value;
  begins : take (length l.fn.out.items) l.out.items ≡ l.fn.out.items;
}

abbrev pub decreases-loop-rest : goal.decreases-loop-rest
decreases-loop-rest l = length l.rest
