use Rattle.std.proofs.Common.{sym, ap₂, ◌∙◌, nat_cmp}
use Rattle.std.specs.Cmp.Lexicographic.{slice_cmp}
use Rattle.std.specs.Ordering.{on}
use Rattle.m_key.specs.Collation.{subscript_cmp, reference_cmp}
use Rattle.m_key.specs.Reference.{node_subscript_of, subscript_list}
use Rattle.m_key.proofs.CollationLemmas.{then_decided, then_next, slice_cmp-map}
use Rattle.m_key.proofs.collation.compare.Goals as goal

pub returns-then-is_ne : goal.returns-then-is_ne
unfolding reference_cmp
returns-then-is_ne c =
    then_decided _ _ _ (c.cmp-names.ensures
    ∙ ap₂ (slice_cmp nat_cmp) c.bytes.ensures c.bytes-2.ensures) (sym c.is_ne.ensures ∙ c.if-is_ne.true)

pub returns : goal.returns
unfolding reference_cmp
returns c =
    then_next _ _ _ _ (c.cmp-names.ensures
    ∙ ap₂ (slice_cmp nat_cmp) c.bytes.ensures c.bytes-2.ensures) (sym c.is_ne.ensures ∙ c.if-is_ne.false)
    (c.compare_all.ensures
    ∙ ap₂ (slice_cmp (on node_subscript_of subscript_cmp)) c.as_slice.ensures.items c.as_slice-2.ensures.items
    ∙ sym (slice_cmp-map node_subscript_of subscript_cmp (subscript_list c.args.a.now.subscripts)
    (subscript_list c.args.b.now.subscripts)))
