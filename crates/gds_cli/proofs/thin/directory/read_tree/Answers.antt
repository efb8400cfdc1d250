use Rattle.std.proofs.Common.{◌<◌, List, map, subst, sym, arith}
use Rattle.gds_cli.specs.declared.thin.leaf.LeafNode.{LeafNode}
use Rattle.gds_cli.specs.Thin.{root_of}
use Rattle.gds_cli.specs.Leaf.{valued}
use Rattle.gds_cli.specs.Directory.{AreNodesOf}
use Rattle.m_key.specs.Reference.{name_bytes}
use Rattle.gds_cli.proofs.DirectoryLemmas.{number_within, global_star, global_of, is_tree, global_leaf, no_global}
use Rattle.gds_cli.proofs.thin.directory.read_tree.Goals as goal

pub returns-in_default-2-clause-none : goal.returns-in_default-2-clause-none
returns-in_default-2-clause-none g c x tells head vs global =
    let e = c.in-Some.ensures in
    let below : c.in-Some.root < c.args.header.now.total =
    omega (arith, e.1, number_within c.args.header.now (root_of (valued c.args.entry.now)) e.0.root) in
    let none = rw c.in_default-2.is at c.in_ok-leaf.ensures.none in
    none x tells head below
    (global_star c.args.header.now x.db
    (valued c.args.entry.now) c.in-Some.root 0 c.args.block.now head e.1 vs global)

pub returns-in_default-3-clause-none : goal.returns-in_default-3-clause-none
returns-in_default-3-clause-none g c x tells head vs global =
    let e = c.in-Some.ensures in
    let below : c.in-Some.root < c.args.header.now.total =
    omega (arith, e.1, number_within c.args.header.now (root_of (valued c.args.entry.now)) e.0.root) in
    let lead = (rw c.in-Some-2.is at c.in_ok-leaf.ensures.some) x tells head below in
    let none = rw c.in_default-3.is at c.in_ok-nodes.ensures.none in
    none vs
    (global_leaf c.args.header.now x.db
    (valued c.args.entry.now) c.in-Some.root c.in-Some-2.leaf c.read_below.new.block head e.1 vs lead global)

pub returns-then-are_nodes_of-clause-some : goal.returns-then-are_nodes_of-clause-some
returns-then-are_nodes_of-clause-some g c x tells head =
    let e = c.in-Some.ensures in
    let below : c.in-Some.root < c.args.header.now.total =
    omega (arith, e.1, number_within c.args.header.now (root_of (valued c.args.entry.now)) e.0.root) in
    let lead = (rw c.in-Some-2.is at c.in_ok-leaf.ensures.some) x tells head below in
    let has = rw c.in-Some-3.is at c.in_ok-nodes.ensures.some in
    let nodes =
    subst
    (λ (ns : List LeafNode). AreNodesOf c.args.header.now (name_bytes c.args.entry.now.reference.name)
    (map valued ns)) c.deref.ensures.value (c.are_nodes_of.ensures.0 c.if-are_nodes_of.true) in (
      is_tree c.args.header.now x.db
          (valued c.args.entry.now) c.in-Some.root c.in-Some-2.leaf c.read_below.new.block head e.1 lead,
      (
        map valued c.in-Some-3.nodes.items,
        global_of c.args.header.now x.db
            (valued c.args.entry.now) c.in-Some.root c.in-Some-2.leaf c.read_below.new.block head e.1
            (map valued c.in-Some-3.nodes.items) e.0 lead has nodes,
      ),
    )

pub returns-clause-none : goal.returns-clause-none
returns-clause-none g c x tells head vs global =
    let e = c.in-Some.ensures in
    let below : c.in-Some.root < c.args.header.now.total =
    omega (arith, e.1, number_within c.args.header.now (root_of (valued c.args.entry.now)) e.0.root) in
    let lead = (rw c.in-Some-2.is at c.in_ok-leaf.ensures.some) x tells head below in
    let has = rw c.in-Some-3.is at c.in_ok-nodes.ensures.some in
    no_global c.args.header.now x.db
    (valued c.args.entry.now) c.in-Some.root c.in-Some-2.leaf c.read_below.new.block head e.1 vs
    (map valued c.in-Some-3.nodes.items) lead has
    (λ nodes.
    let yes =
    c.are_nodes_of.ensures.1
    (subst
    (λ (ns : List LeafNode). AreNodesOf c.args.header.now (name_bytes c.args.entry.now.reference.name)
    (map valued ns)) (sym c.deref.ensures.value) nodes) in
    let no = c.if-are_nodes_of.false in
    cc)
    global
