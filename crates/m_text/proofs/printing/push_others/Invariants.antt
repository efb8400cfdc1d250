use Rattle.std.proofs.Common.{◌≡◌, ◌∷◌, ◌++◌, length, take, map, flat_map}
use Rattle.m_key.specs.Reference.{node_subscript_of}
use Rattle.m_text.specs.Written.{subscript_text}
use Rattle.m_text.proofs.printing.push_others.Given as goal

abbrev pub invariant-loop-subscript : goal.invariant-loop-subscript
invariant-loop-subscript l = record {
  text : l.out.items
      ≡ l.fn.out.items
      ++ flat_map (λ text. 44 ∷ text) (map subscript_text
      (map node_subscript_of (take l.subscript-index l.subscripts)));
  begins : take (length l.fn.out.items) l.out.items ≡ l.fn.out.items;
}
