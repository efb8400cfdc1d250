use Rattle.std.proofs.Common.{◌<◌, ◌∙◌, List, map, eqb, sym, ap, subst, arith}
use Rattle.std.specs.List.{AllZip, IsDistinct}
use Rattle.gds_cli.specs.declared.thin.leaf.LeafNode.{LeafNode}
use Rattle.gds_cli.specs.declared.thin.directory.ThinTree.{ThinTree}
use Rattle.gds_cli.specs.Leaf.{valued}
use Rattle.gds_cli.specs.Directory.{AreTrees, blocks_in}
use Rattle.gds_cli.specs.Thin.{IsGlobal}
use Rattle.gds_cli.proofs.DirectoryLemmas.{top_leaf, leaves_found, not_distinct, no_trees}
use Rattle.gds_cli.proofs.thin.directory.read_leaves.Goals as goal

pub returns-in_default-2-clause-none : goal.returns-in_default-2-clause-none
returns-in_default-2-clause-none g c x tells head directory globals thin =
    let many : 1 < c.args.header.now.total = omega (arith, head.limits.total_from) in
    let lead = (rw c.in-Some.is at c.in_ok-number.ensures.some) x tells head many in
    let none = rw c.in_default-2.is at c.in_ok-entries.ensures.none in
    none directory
    (top_leaf c.args.header.now x.db x.images c.in-Some.number c.read_below.new.block directory globals head lead
    thin)

pub returns-in_default-3-clause-none : goal.returns-in_default-3-clause-none
returns-in_default-3-clause-none g c x tells head directory globals thin =
    let many : 1 < c.args.header.now.total = omega (arith, head.limits.total_from) in
    let lead = (rw c.in-Some.is at c.in_ok-number.ensures.some) x tells head many in
    let has = rw c.in-Some-2.is at c.in_ok-entries.ensures.some in
    let none =
    (rw c.in_default-3.is at c.in_ok-trees.ensures.none) x (c.in_ok-number.ensures.host.read.told ∙ tells) head in
    no_trees c.args.header.now x.db x.images c.in-Some.number c.read_below.new.block
    (map valued c.in-Some-2.entries.items) directory globals head lead has
    (λ gs all. none gs
    (subst (λ (ns : List LeafNode). AllZip (IsGlobal x.db) (map valued ns) gs) (sym c.deref.ensures.value) all))
    thin

pub returns-in_default-4-clause-none : goal.returns-in_default-4-clause-none
returns-in_default-4-clause-none g c x tells head directory globals thin =
    let many : 1 < c.args.header.now.total = omega (arith, head.limits.total_from) in
    let lead = (rw c.in-Some.is at c.in_ok-number.ensures.some) x tells head many in
    let has = rw c.in-Some-2.is at c.in_ok-entries.ensures.some in
    let found =
    (rw c.in-Some-3.is at c.in_ok-trees.ensures.some) x (c.in_ok-number.ensures.host.read.told ∙ tells) head in
    let none = rw c.in_default-4.is at c.in_ok-leaves.ensures.none in
    not_distinct c.args.header.now x.db x.images c.in-Some.number c.read_below.new.block
    (map valued c.in-Some-2.entries.items) directory globals c.in-Some-3.trees.items head lead has
    (subst (λ (ns : List LeafNode). AreTrees x.db (map valued ns) c.in-Some-3.trees.items) c.deref.ensures.value found)
    (λ distinct. none
    (subst (λ (ts : List ThinTree). IsDistinct eqb (blocks_in c.in-Some.number ts))
    (sym c.deref-2.ensures.value) distinct))
    thin

pub returns-clause-some : goal.returns-clause-some
returns-clause-some g c x tells head =
    let many : 1 < c.args.header.now.total = omega (arith, head.limits.total_from) in
    let lead = (rw c.in-Some.is at c.in_ok-number.ensures.some) x tells head many in
    let has = rw c.in-Some-2.is at c.in_ok-entries.ensures.some in
    let found =
    (rw c.in-Some-3.is at c.in_ok-trees.ensures.some) x (c.in_ok-number.ensures.host.read.told ∙ tells) head in
    let numbers = rw c.in-Some-4.is at c.in_ok-leaves.ensures.some in
    let distinct = rw c.in-Some-4.is at c.in_ok-leaves.ensures.distinct in
    leaves_found c.args.header.now x.db c.in-Some.number c.read_below.new.block
    (map valued c.in-Some-2.entries.items) c.in-Some-3.trees.items c.in-Some-4.leaves.items head lead has
    (subst (λ (ns : List LeafNode). AreTrees x.db (map valued ns) c.in-Some-3.trees.items) c.deref.ensures.value found)
    (subst (λ (ts : List ThinTree). IsDistinct eqb (blocks_in c.in-Some.number ts)) c.deref-2.ensures.value distinct)
    (numbers ∙ ap (map (λ (t : ThinTree). t.leaf)) c.deref-2.ensures.value)
