use Rattle.std.proofs.Common.{ℕ, List, IfOk, IfNone, subst}
use Rattle.gds_cli.specs.Thin.{Valued, IsLeaf}
use Rattle.gds_cli.specs.Leaf.{IsListed}
use Rattle.gds_cli.proofs.LeafReadingLemmas.{none_weaker}
use Rattle.gds_cli.proofs.thin.leaf.read_leaf.Goals as goal

pub returns-clause-none : goal.returns-clause-none
returns-clause-none c =
    let h = c.args.header.now in
    let block = c.args.block.now in
    none_weaker c.read_nodes.result ((vs : List Valued) → IsListed h block vs → ⊥)
    ((vs : List Valued) → IsLeaf h block vs → ⊥)
    (λ none vs leaf. none vs (record { whole = leaf.whole; records = leaf.records }))
    (subst
    (λ (b : List ℕ). IfOk c.read_nodes.result (λ o. IfNone o ((vs : List Valued) → IsListed h b vs → ⊥)))
    c.in-Some.ensures.1 c.read_nodes.ensures.none)
