use Rattle.std.proofs.Common.{◌<◌, ◌≤◌, ◌∙◌, [], length, get_or, flat_map, Some, refl, ap, take_all, arith}
use Rattle.std.proofs.lemmas.Result.{err_from_is_err_and}
use Rattle.host_model.specs.Files.{saying}
use Rattle.host_model.proofs.FailureLemmas.{NeverFell-trans}
use Rattle.m_text.specs.Extract.{zwr_node}
use Rattle.gds_cli.specs.Leaf.{IsLeafAt}
use Rattle.gds_cli.proofs.SayingLemmas.{on_break, front_line, said_line, zip_at, zip_length, get_or_same}
use Rattle.gds_cli.proofs.thin.saying.say_leaves.Goals as goal

pub returns-in_err-say_leaf-clause-said : goal.returns-in_err-say_leaf-clause-said
returns-in_err-say_leaf-clause-said g c x tells globals head all =
    let i = c.loop-leaf.leaf-index in
    let vs = get_or globals i [] in
    let within : i < length globals =
    omega
    (arith, zip_length (IsLeafAt c.args.header.now x.db) c.args.leaves.now globals all, c.loop-leaf-test.true) in
    let p = err_from_is_err_and c.from_residual.result c.from_residual.ensures.1 in
    on_break x (flat_map (flat_map zwr_node) globals) _ p.0 _ p.1
    (front_line (flat_map zwr_node) x _ globals i vs (flat_map zwr_node vs) within (get_or_same globals i within) refl
    (c.in_err-say_leaf.ensures.said _ (c.loop-leaf.invariant.said x tells globals head all) vs head
    (zip_at (IsLeafAt c.args.header.now x.db) c.args.leaves.now globals i 0 [] all c.loop-leaf-test.true)))

pub returns-in_err-say_leaf-clause-changed : goal.returns-in_err-say_leaf-clause-changed
returns-in_err-say_leaf-clause-changed g c =
    let p = err_from_is_err_and c.from_residual.result c.from_residual.ensures.1 in
    rw (p.1, p.2) (λ is x tells globals head all.
    let i = c.loop-leaf.leaf-index in
    let vs = get_or globals i [] in
    c.in_err-say_leaf.ensures.changed is _ (c.loop-leaf.invariant.said x tells globals head all) vs head
    (zip_at (IsLeafAt c.args.header.now x.db) c.args.leaves.now globals i 0 [] all c.loop-leaf-test.true))

pub loop-leaf-preserved : goal.loop-leaf-preserved
loop-leaf-preserved g c = record {
  said = λ x tells globals head all.
      let i = c.loop-leaf.leaf-index in
      let vs = get_or globals i [] in
      let within : i < length globals =
      omega
      (arith, zip_length (IsLeafAt c.args.header.now x.db) c.args.leaves.now globals all, c.loop-leaf-test.true) in
      said_line (flat_map zwr_node) x _ globals i vs (flat_map zwr_node vs) within (get_or_same globals i within) refl
      (c.in_ok-say_leaf.ensures.said _ (c.loop-leaf.invariant.said x tells globals head all) vs head
      (zip_at (IsLeafAt c.args.header.now x.db) c.args.leaves.now globals i 0 [] all c.loop-leaf-test.true));
  failures = NeverFell-trans _ _ _ c.loop-leaf.invariant.failures c.in_ok-say_leaf.ensures.blamed.failures;
}

pub returns-clause-said : goal.returns-clause-said
returns-clause-said g c x tells globals head all =
    let i = c.loop-leaf.leaf-index in
    let done : length globals ≤ i =
    omega
    (arith, zip_length (IsLeafAt c.args.header.now x.db) c.args.leaves.now globals all, c.loop-leaf-test.false) in
    c.loop-leaf.invariant.said x tells globals head all
    ∙ ap (λ xs. Some (saying x (flat_map (flat_map zwr_node) xs))) (take_all i globals done)
