use Rattle.std.proofs.Common.{sym, ◌∙◌, arith}
use Rattle.std.specs.Ordering.{on}
use Rattle.m_key.specs.Collation.{subscript_cmp}
use Rattle.m_key.specs.Reference.{node_subscript_of}
use Rattle.m_key.proofs.CollationLemmas.{slice_cmp-end}
use Rattle.m_key.proofs.collation.compare_all.Goals as goal

pub returns : goal.returns
returns c = c.cmp.ensures
    ∙ sym (c.loop-i.invariant
    ∙ slice_cmp-end (on node_subscript_of subscript_cmp) c.args.a.now c.args.b.now c.loop-i.i (omega arith))
