use Rattle.std.proofs.Common.{◌≡◌, ◌^◌, ◌<◌, take}
use Rattle.m_text.specs.Grammar.{code_value}
use Rattle.m_text.proofs.reading.read_code.Given as goal

abbrev pub invariant-loop-digit : goal.invariant-loop-digit
invariant-loop-digit l = record {
  value : l.value ≡ code_value (take l.digit-index l.digits);
  bound : l.value < 10 ^ l.digit-index;
}
