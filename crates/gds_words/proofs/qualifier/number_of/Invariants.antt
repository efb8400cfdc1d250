use Rattle.std.proofs.Common.{◌≡◌, ◌^◌, ◌<◌, take}
use Rattle.m_text.specs.Grammar.{code_value}
use Rattle.gds_words.proofs.qualifier.number_of.Given as goal

abbrev pub invariant-loop-digit : goal.invariant-loop-digit
invariant-loop-digit l = record {
  value : l.value ≡ code_value (take l.digit-index l.text);
  bound : l.value < 10 ^ l.digit-index;
}
