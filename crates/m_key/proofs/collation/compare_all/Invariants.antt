use Rattle.std.proofs.Common.{◌≡◌, drop}
use Rattle.std.specs.Cmp.Lexicographic.{slice_cmp}
use Rattle.std.specs.Ordering.{on}
use Rattle.m_key.specs.Collation.{subscript_cmp}
use Rattle.m_key.specs.Reference.{node_subscript_of}
use Rattle.m_key.proofs.collation.compare_all.Given as goal

-- what is left decides
abbrev pub invariant-loop-i : goal.invariant-loop-i
invariant-loop-i l =
    slice_cmp (on node_subscript_of subscript_cmp) l.a l.b
    ≡ slice_cmp (on node_subscript_of subscript_cmp) (drop l.i l.a) (drop l.i l.b)
