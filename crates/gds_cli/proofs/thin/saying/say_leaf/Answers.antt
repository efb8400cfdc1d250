use Rattle.std.proofs.Common.{◌≡◌, ◌∙◌, map, flat_map, sym, ap, subst}
use Rattle.std.proofs.lemmas.Result.{err_from_is_err_and}
use Rattle.m_text.specs.Extract.{zwr_node}
use Rattle.gds_cli.specs.Leaf.{valued}
use Rattle.gds_cli.specs.Thin.{IsLeaf}
use Rattle.gds_cli.proofs.LeafLemmas.{one_leaf}
use Rattle.gds_cli.proofs.SayingLemmas.{on_break, front_none, said_same}
use Rattle.gds_cli.proofs.thin.saying.say_leaf.Goals as goal

pub returns-in_err-read_block-clause-said : goal.returns-in_err-read_block-clause-said
returns-in_err-read_block-clause-said g c x tells vs head at =
    let p = err_from_is_err_and c.from_residual.result c.from_residual.ensures.1 in
    on_break x (flat_map zwr_node vs) _ p.0 _ p.1
    (front_none x _ (flat_map zwr_node vs) (c.in_err-read_block.ensures.host.read.told ∙ tells))

pub returns-in_err-nodes-clause-said : goal.returns-in_err-nodes-clause-said
returns-in_err-nodes-clause-said g c x tells vs head at =
    let p = err_from_is_err_and c.from_residual-in_err-nodes.result c.from_residual-in_err-nodes.ensures.1 in
    on_break x (flat_map zwr_node vs) _ p.0 _ p.1
    (front_none x _ (flat_map zwr_node vs) (c.in_ok-read_block.ensures.host.read.told ∙ tells))

pub returns-in-Some-clause-said : goal.returns-in-Some-clause-said
returns-in-Some-clause-said g c x tells vs head at =
    let bytes = c.in_ok-read_block.ensures.bytes x tells head at.within in
    let has = rw c.in-Some.is at c.in_ok-nodes.ensures.some in
    let same : map valued c.in-Some.nodes.items ≡ vs =
    one_leaf c.args.header.now c.read_block.new.block _ vs has
    (subst (λ b. IsLeaf c.args.header.now b vs) (sym bytes) at.leaf) in
    said_same x (flat_map zwr_node (map valued c.deref.result.now)) (flat_map zwr_node vs) _ _
    (ap (λ ns. flat_map zwr_node (map valued ns)) c.deref.ensures.value ∙ ap (flat_map zwr_node) same)
    (c.say_nodes.ensures.said x (c.in_ok-read_block.ensures.host.read.told ∙ tells))

pub returns-in-None-clause-said : goal.returns-in-None-clause-said
returns-in-None-clause-said g c x tells vs head at =
    let bytes = c.in_ok-read_block.ensures.bytes x tells head at.within in
    let none = rw c.in-None.is at c.in_ok-nodes.ensures.none in
    absurd (none vs (subst (λ b. IsLeaf c.args.header.now b vs) (sym bytes) at.leaf))

pub returns-in-None-clause-changed : goal.returns-in-None-clause-changed
returns-in-None-clause-changed g c _ x tells vs head at =
    let bytes = c.in_ok-read_block.ensures.bytes x tells head at.within in
    let none = rw c.in-None.is at c.in_ok-nodes.ensures.none in
    none vs (subst (λ b. IsLeaf c.args.header.now b vs) (sym bytes) at.leaf)
