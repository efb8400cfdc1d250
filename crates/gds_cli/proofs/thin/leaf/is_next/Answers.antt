use Rattle.std.proofs.Common.{arith}
use Rattle.std.proofs.lemmas.Bool.{eq-eqb, le-ltb}
use Rattle.gds_cli.proofs.LeafRecordLemmas.{next_at_end, next_past, next_apart}
use Rattle.gds_cli.proofs.thin.leaf.is_next.Goals as goal

pub returns-then-count-previous : goal.returns-then-count-previous
returns-then-count-previous c =
    let same = c.if-count-previous.true in
    next_at_end c.args.previous.now c.args.key.now c.args.count c.requires.shared c.requires.within_previous
    c.requires.within_key
    _ (eq-eqb _ _ same) same c.if-count-key.true

pub returns-else-count-previous : goal.returns-else-count-previous
returns-else-count-previous c =
    let other = c.if-count-previous.false in
    next_apart c.args.previous.now c.args.key.now c.args.count c.requires.shared c.requires.within_previous
    c.requires.within_key
    (omega arith) (omega arith)

pub returns-else-count-key : goal.returns-else-count-key
returns-else-count-key c =
    let past = c.if-count-key.false in
    next_past c.args.previous.now c.args.key.now c.args.count c.requires.shared c.requires.within_previous
    c.requires.within_key
    _ (le-ltb _ _ past) past
