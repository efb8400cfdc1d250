use Rattle.std.proofs.Common.{◌≡◌, ◌<◌, ◌++◌, ◌∷◌, [], List, length, map, vec_len}
use Rattle.std.specs.List.{AllByRecursion}
use Rattle.m_key.specs.Node.{NodeSubscript, IsSubscript}
use Rattle.m_key.specs.Reference.{node_subscript_of}
use Rattle.m_text.specs.FrontSubscripts.{null, ListStandsAt}
use Rattle.m_text.proofs.NullReferenceLemmas.{NullStandsAfter}
use Rattle.m_text.proofs.null_reference.read_before_null.Given as goal

abbrev pub invariant-loop-i : goal.invariant-loop-i
invariant-loop-i l = record {
  count : vec_len l.items ≡ l._i;
  back : (ss : List NodeSubscript) → ListStandsAt l.rest ss []
      → ListStandsAt l.text (map node_subscript_of l.items.items ++ ss) [];
  forth : (ss : List NodeSubscript) → AllByRecursion IsSubscript ss → length ss < 31
      → ListStandsAt l.text (ss ++ null ∷ []) [] → NullStandsAfter l.rest l._i;
}
