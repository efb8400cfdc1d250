use Rattle.std.proofs.Common.{◌≡◌, ◌∷◌, ◌++◌, length, take, flat_map}
use Rattle.m_text.specs.Grammar.{doubled}
use Rattle.m_text.proofs.quoting.push_quoted.Given as goal

abbrev pub invariant-loop-at : goal.invariant-loop-at
invariant-loop-at l = record {
  text : l.out.items ++ flat_map doubled l.rest ≡ l.fn.out.items ++ 34 ∷ flat_map doubled l.run;
  begins : take (length l.fn.out.items) l.out.items ≡ l.fn.out.items;
}

abbrev pub decreases-loop-at : goal.decreases-loop-at
decreases-loop-at l = length l.rest
