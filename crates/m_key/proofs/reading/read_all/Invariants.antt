use Rattle.std.proofs.Common.{◌≡◌, ◌≤◌, ◌++◌, length, map, flat_map, vec_len}
use Rattle.m_key.specs.Key.{ended}
use Rattle.m_key.specs.Reference.{node_subscript_of}
use Rattle.m_key.proofs.reading.read_all.Given as goal

-- the subscripts so far and what is left are all
abbrev pub invariant-loop-rest : goal.invariant-loop-rest
invariant-loop-rest l = record {
  count : vec_len l.items ≤ 31;
  read : flat_map ended (map node_subscript_of l.items.items) ++ l.rest ≡ l.bytes;
}

abbrev pub decreases-loop-rest : goal.decreases-loop-rest
decreases-loop-rest l = length l.rest
