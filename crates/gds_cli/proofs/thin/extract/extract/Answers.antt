use Rattle.std.proofs.Common.{◌∙◌, ◌++◌, [], List, ℕ, codes, flat_map, refl, sym, ap, subst, append-nil}
use Rattle.std.proofs.lemmas.Result.{err_from_is_err_and}
use Rattle.std.specs.List.{AllZip}
use Rattle.m_text.specs.Extract.{head_lines, zwr_node}
use Rattle.gds_cli.specs.Leaf.{IsLeafAt}
use Rattle.gds_cli.proofs.SayingLemmas.{front_first, front_more, said_both, none_told}
use Rattle.gds_cli.proofs.ExtractLemmas.{breaks_before, breaks_off, ends_err, leaves_here, the_map, is_thin, map_text}
use Rattle.gds_cli.proofs.thin.extract.extract.Goals as goal

pub returns-in_default-clause-told : goal.returns-in_default-clause-told
returns-in_default-clause-told g c x tells =
    ((rw c.in_default.is at c.in_ok-thin.ensures.none) x tells, c.in_ok-thin.ensures.host.read.told ∙ tells)

pub returns-in_err-block-clause-told : goal.returns-in_err-block-clause-told
returns-in_err-block-clause-told g c x tells =
    let p = err_from_is_err_and c.from_residual-in_err-block.result c.from_residual-in_err-block.ensures.1 in
    ends_err c.args.stamp.now x _ p.0 _ p.1
    (breaks_before c.args.stamp.now x _ (c.in_ok-thin.ensures.host.read.told ∙ tells))

pub returns-in_err-say_head-clause-told : goal.returns-in_err-say_head-clause-told
returns-in_err-say_head-clause-told g c x tells =
    let found = (rw c.in-Some.is at c.in_ok-thin.ensures.some) x tells in
    let head = head_lines c.args.stamp.now (codes "ZWR") in
    let nodes = flat_map (flat_map zwr_node) found.globals in
    let p = err_from_is_err_and c.from_residual-in_err-say_head.result c.from_residual-in_err-say_head.ensures.1 in
    ends_err c.args.stamp.now x _ p.0 _ p.1
    (breaks_off c.args.stamp.now _ _ x _ found
    (front_first x _ head nodes (head ++ nodes)
    (c.in_err-say_head.ensures.said x (c.in_ok-thin.ensures.host.read.told ∙ tells)) refl))

pub returns-in_err-say_leaves-clause-told : goal.returns-in_err-say_leaves-clause-told
returns-in_err-say_leaves-clause-told g c x tells =
    let found = (rw c.in-Some.is at c.in_ok-thin.ensures.some) x tells in
    let head = head_lines c.args.stamp.now (codes "ZWR") in
    let nodes = flat_map (flat_map zwr_node) found.globals in
    let p = err_from_is_err_and c.from_residual-in_err-say_leaves.result c.from_residual-in_err-say_leaves.ensures.1 in
    let all =
    subst (λ (ns : List ℕ). AllZip (IsLeafAt c.in-Some.thin.header x.db) ns found.globals)
    (sym c.deref.ensures.value) (leaves_here x.db x.images _ _ found) in
    let front =
    c.in_err-say_leaves.ensures.said _
    (c.in_ok-say_head.ensures.said x (c.in_ok-thin.ensures.host.read.told ∙ tells)) found.globals found.header all
    in
    ends_err c.args.stamp.now x _ p.0 _ p.1
    (breaks_off c.args.stamp.now _ _ x _ found
    (front_more x _ head nodes [] (head ++ nodes) front (ap (λ t. head ++ t) (sym (append-nil nodes)))))

pub returns-in_err-say_leaves-clause-changed : goal.returns-in_err-say_leaves-clause-changed
returns-in_err-say_leaves-clause-changed g c =
    let p = err_from_is_err_and c.from_residual-in_err-say_leaves.result c.from_residual-in_err-say_leaves.ensures.1 in
    rw (p.1, p.2) (λ is. none_told (g.H.Host.told c.args.host.now) (λ x tells.
    let found = (rw c.in-Some.is at c.in_ok-thin.ensures.some) x tells in
    let all =
    subst (λ (ns : List ℕ). AllZip (IsLeafAt c.in-Some.thin.header x.db) ns found.globals)
    (sym c.deref.ensures.value) (leaves_here x.db x.images _ _ found) in
    c.in_err-say_leaves.ensures.changed is _
    (c.in_ok-say_head.ensures.said x (c.in_ok-thin.ensures.host.read.told ∙ tells)) found.globals found.header all))

pub returns-clause-told : goal.returns-clause-told
returns-clause-told g c x tells =
    let found = (rw c.in-Some.is at c.in_ok-thin.ensures.some) x tells in
    let head = head_lines c.args.stamp.now (codes "ZWR") in
    let nodes = flat_map (flat_map zwr_node) found.globals in
    let all =
    subst (λ (ns : List ℕ). AllZip (IsLeafAt c.in-Some.thin.header x.db) ns found.globals)
    (sym c.deref.ensures.value) (leaves_here x.db x.images _ _ found) in
    let said =
    c.in_ok-say_leaves.ensures.said _
    (c.in_ok-say_head.ensures.said x (c.in_ok-thin.ensures.host.read.told ∙ tells)) found.globals found.header all
    in
    let m = the_map x.db x.images _ _ found in
    let thin = is_thin x.db x.images _ _ found in
    (m, thin, said_both x _ head nodes _ said (map_text x.db x.images _ _ found m c.args.stamp.now thin))
