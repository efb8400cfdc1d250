use Rattle.std.proofs.Common.{◌≡◌, ◌+◌, drop}
use Rattle.std.specs.Prelude.{option_map}
use Rattle.m_key.specs.KeyEnd.{end_in}
use Rattle.m_key.proofs.key_end.end_in.Given as goal

abbrev pub invariant-loop-i : goal.invariant-loop-i
invariant-loop-i l = option_map (λ n. l.i + n) (end_in l.zero (drop l.i l.body)) ≡ end_in l.after_zero l.body
