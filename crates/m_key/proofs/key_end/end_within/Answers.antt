use Rattle.std.proofs.Common.{◌∙◌, None, Some, ap, ◌+◌, length}
use Rattle.std.specs.Prelude.{option_map, nat_le}
use Rattle.std.proofs.lemmas.Bool.{cond-true, cond-false, le-leb, lt-leb}
use Rattle.m_key.specs.KeyEnd.{end_in}
use Rattle.m_key.proofs.KeyEndLemmas.{key_len-end_within}
use Rattle.m_key.proofs.key_end.end_within.Goals as goal

pub returns-in_err-len-clause-key : goal.returns-in_err-len-clause-key
returns-in_err-len-clause-key c =
    rw c.from_residual.ensures
    (key_len-end_within c.args.limit c.args.front.now c.args.body.now None
    (c.in_err-len.ensures.value ∙ ap (λ z. end_in z c.args.body.now) c.ends_in_zero.ensures))

pub returns-then-front-len-clause-key : goal.returns-then-front-len-clause-key
returns-then-front-len-clause-key c open_front =
    key_len-end_within c.args.limit c.args.front.now c.args.body.now (Some c.in_ok-len.len)
    (c.in_ok-len.ensures.value ∙ ap (λ z. end_in z c.args.body.now) c.ends_in_zero.ensures) open_front
    ∙ ap (option_map (λ n. length c.args.front.now + n))
    (cond-false (nat_le (length c.args.front.now + c.in_ok-len.len) c.args.limit) _ _
    (lt-leb _ _ c.if-front-len.true))

pub returns-clause-key : goal.returns-clause-key
returns-clause-key c open_front =
    key_len-end_within c.args.limit c.args.front.now c.args.body.now (Some c.in_ok-len.len)
    (c.in_ok-len.ensures.value ∙ ap (λ z. end_in z c.args.body.now) c.ends_in_zero.ensures) open_front
    ∙ ap (option_map (λ n. length c.args.front.now + n))
    (cond-true (nat_le (length c.args.front.now + c.in_ok-len.len) c.args.limit) _ _
    (le-leb _ _ c.if-front-len.false))
