use Rattle.std.proofs.Common.{◌∙◌, sym, arith}
use Rattle.m_key.specs.Key.{key_bytes}
use Rattle.gds_block.specs.View.{record_of}
use Rattle.gds_cli.proofs.LeafRecordLemmas.{not_endless, not_next, known, within_previous}
use Rattle.gds_cli.proofs.thin.leaf.split_record.Goals as goal

pub returns-then-previous-count-clause-none : goal.returns-then-previous-count-clause-none
returns-then-previous-count-clause-none c n value p s =
    let w = within_previous c.args.key_max c.args.previous.now (key_bytes n) value (record_of c.args.view) s in
    absurd (omega (arith, w, c.if-previous-count.true))

pub returns-in_err-end-clause-none : goal.returns-in_err-end-clause-none
returns-in_err-end-clause-none c =
    rw c.from_residual.ensures
    (λ n value p s.
    not_endless c.args.key_max c.args.previous.now (record_of c.args.view) n value p s
    c.in_err-end.ensures.value)

pub returns-then-is_next-clause-only : goal.returns-then-is_next-clause-only
returns-then-is_next-clause-only c n value p s =
    let k = known c.args.key_max c.args.previous.now (record_of c.args.view) n value p s c.in_ok-end.end
    c.in_ok-end.ensures.value in
    let key = c.join_key-key.ensures in
    let front = c.split_at.ensures.front in
    k.bytes ∙ (cc)

pub returns-else-is_next-clause-none : goal.returns-else-is_next-clause-none
returns-else-is_next-clause-none c n value p s =
    let k = known c.args.key_max c.args.previous.now (record_of c.args.view) n value p s c.in_ok-end.end
    c.in_ok-end.ensures.value in
    let key = c.join_key-key.ensures in
    let front = c.split_at.ensures.front in
    not_next c.is_next.result c.args.view.count c.args.previous.now c.as_slice.result.now
    (key_bytes n) c.is_next.ensures c.if-is_next.false
    (c.as_slice.ensures.value ∙ sym (k.bytes ∙ (cc))) s.exact s.above
