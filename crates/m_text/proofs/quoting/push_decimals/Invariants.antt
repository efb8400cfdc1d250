use Rattle.std.proofs.Common.{◌≡◌, ◌∷◌, ◌++◌, length, take, map, flat_map}
use Rattle.m_text.specs.Written.{decimal}
use Rattle.m_text.proofs.quoting.push_decimals.Given as goal

abbrev pub invariant-loop-byte : goal.invariant-loop-byte
invariant-loop-byte l = record {
  text : l.out.items ≡ l.fn.out.items ++ flat_map (λ text. 44 ∷ text) (map decimal (take l.byte-index l.bytes));
  begins : take (length l.fn.out.items) l.out.items ≡ l.fn.out.items;
}
