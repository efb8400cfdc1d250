use Rattle.std.proofs.Common.{◌≡◌, ◌++◌, ◌∷◌, List, ℕ, codes, refl, sym, ap, arith}
use Rattle.std.proofs.lemmas.Grind.{common_steps}
use Rattle.std.proofs.lemmas.Result.{err_from_is_err_and}
use Rattle.m_text.specs.Extract.{line, head_lines}
use Rattle.gds_cli.proofs.SayingLemmas.{on_break, front_first, said_last}
use Rattle.gds_cli.proofs.thin.saying.say_head.Goals as goal

pub returns-in_err-say_line-clause-said : goal.returns-in_err-say_line-clause-said
returns-in_err-say_line-clause-said g c x tells =
    let p = err_from_is_err_and c.from_residual-in_err-say_line.result c.from_residual-in_err-say_line.ensures.1 in
    on_break x (head_lines c.args.stamp.now (codes "ZWR")) _ p.0 _ p.1
    (front_first x _ (line (codes "GT.M MUPIP EXTRACT")) (line (c.args.stamp.now ++ 32 ∷ codes "ZWR")) _
    (c.in_err-say_line.ensures.said x tells) refl)

pub returns-clause-said : goal.returns-clause-said
returns-clause-said g c x tells =
    let text : c.deref.result.now ≡ line (c.args.stamp.now ++ 32 ∷ codes "ZWR") = grind (arith, common_steps) in
    said_last x (line (codes "GT.M MUPIP EXTRACT")) c.deref.result.now (head_lines c.args.stamp.now (codes "ZWR")) _ _
    (c.say_line-2.ensures.said _ (c.in_ok-say_line.ensures.said x tells))
    (ap (λ (t : List ℕ). line (codes "GT.M MUPIP EXTRACT") ++ t) (sym text))
