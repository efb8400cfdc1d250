use Rattle.std.proofs.Common.{take, flat_map}
use Rattle.m_key.specs.Key.{ended}
use Rattle.m_key.specs.Reference.{node_subscript_of}
use Rattle.m_key.specs.Written.{Appends}
use Rattle.m_key.proofs.key.Written.put_subscripts.Given as goal

-- the subscripts so far are written
abbrev pub invariant-loop-subscript : goal.invariant-loop-subscript
invariant-loop-subscript l =
    Appends l.initial.self l.self (flat_map (λ s. ended (node_subscript_of s)) (take l.subscript-index l.subscripts))
