use Rattle.std.proofs.Common.{◌≡◌, ◌≤◌, ◌++◌, List, ℕ, length, map, vec_len}
use Rattle.std.specs.List.{AllByRecursion}
use Rattle.m_key.specs.Node.{NodeSubscript, IsSubscript}
use Rattle.m_key.specs.Reference.{node_subscript_of}
use Rattle.m_text.specs.FrontSubscripts.{ListStandsAt, ListStandsAfter}
use Rattle.m_text.proofs.subscripts.read_subscripts.Given as goal

abbrev pub invariant-loop-i : goal.invariant-loop-i
invariant-loop-i l = record {
  count : vec_len l.items ≡ l._i;
  back : (ss : List NodeSubscript) (rest : List ℕ) → ListStandsAt l.rest ss rest
      → ListStandsAt l.text (map node_subscript_of l.items.items ++ ss) rest;
  forth : (ss : List NodeSubscript) (rest : List ℕ) → AllByRecursion IsSubscript ss → length ss ≤ 31
      → ListStandsAt l.text ss rest → ListStandsAfter l.rest l._i rest;
}
