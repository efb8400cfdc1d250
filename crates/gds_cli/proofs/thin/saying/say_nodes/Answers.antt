use Rattle.std.proofs.Common.{◌≡◌, ◌<◌, ◌≤◌, ◌∙◌, length, map, take, drop, get_or, flat_map, Some, sym, ap, take_all}
use Rattle.std.proofs.lemmas.List.{get_or-map, length-map}
use Rattle.std.proofs.lemmas.Result.{err_from_is_err_and}
use Rattle.host_model.specs.Files.{saying}
use Rattle.host_model.proofs.FailureLemmas.{NeverFell-trans}
use Rattle.m_text.specs.Extract.{zwr_node}
use Rattle.gds_cli.specs.Leaf.{valued}
use Rattle.gds_cli.proofs.SayingLemmas.{on_break, front_whole, front_line, said_line, texts_split}
use Rattle.gds_cli.proofs.thin.saying.say_nodes.Goals as goal

pub returns-in_err-write_node-clause-said : goal.returns-in_err-write_node-clause-said
returns-in_err-write_node-clause-said g c x tells =
    let vs = map valued c.args.nodes.now in
    let i = c.loop-node.node-index in
    let p = err_from_is_err_and c.from_residual.result c.from_residual.ensures.1 in
    on_break x (flat_map zwr_node vs) _ p.0 _ p.1
    (front_whole x _ (flat_map zwr_node (take i vs)) (flat_map zwr_node (drop i vs)) _
    (c.loop-node.invariant.said x tells) (texts_split zwr_node vs i))

pub returns-in_err-say_line-clause-said : goal.returns-in_err-say_line-clause-said
returns-in_err-say_line-clause-said g c x tells =
    let vs = map valued c.args.nodes.now in
    let i = c.loop-node.node-index in
    let item = c.node-item.result in
    let within : i < length vs = rw length-map c.loop-node-test.true in
    let is : valued item ≡ get_or vs i (valued item) =
    sym
    (get_or-map valued c.args.nodes.now i item (valued item) c.loop-node-test.true ∙ ap valued (sym c.node-item.is))
    in
    let p = err_from_is_err_and c.from_residual-in_err-say_line.result c.from_residual-in_err-say_line.ensures.1 in
    on_break x (flat_map zwr_node vs) _ p.0 _ p.1
    (front_line zwr_node x _ vs i (valued item) c.deref.result.now within is
    (c.deref.ensures.value ∙ c.in_ok-write_node.ensures)
    (c.in_err-say_line.ensures.said _ (c.loop-node.invariant.said x tells)))

pub loop-node-preserved : goal.loop-node-preserved
loop-node-preserved g c = record {
  said = λ x tells.
      let vs = map valued c.args.nodes.now in
      let i = c.loop-node.node-index in
      let item = c.node-item.result in
      let within : i < length vs = rw length-map c.loop-node-test.true in
      let is : valued item ≡ get_or vs i (valued item) =
      sym
      (get_or-map valued c.args.nodes.now i item (valued item) c.loop-node-test.true
      ∙ ap valued (sym c.node-item.is)) in
      said_line zwr_node x _ vs i (valued item) c.deref.result.now within is
      (c.deref.ensures.value ∙ c.in_ok-write_node.ensures)
      (c.in_ok-say_line.ensures.said _ (c.loop-node.invariant.said x tells));
  failures = NeverFell-trans _ _ _ c.loop-node.invariant.failures c.in_ok-say_line.ensures.blamed.failures;
}

pub returns-clause-said : goal.returns-clause-said
returns-clause-said g c x tells =
    let vs = map valued c.args.nodes.now in
    let i = c.loop-node.node-index in
    let all : length vs ≤ i = rw length-map c.loop-node-test.false in
    c.loop-node.invariant.said x tells ∙ ap (λ xs. Some (saying x (flat_map zwr_node xs))) (take_all i vs all)
