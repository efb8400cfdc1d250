use Rattle.std.proofs.Common.{◌∙◌, Err, Option, ap, inl, inr, subst}
use Rattle.std.proofs.lemmas.Result.{err_from_is_err_and}
use Rattle.std.specs.Prelude.{IfOk}
use Rattle.std.specs.Option.{ForSome}
use Rattle.host_model.specs.Files.{Contents}
use Rattle.gds_recovery.specs.Found.{IsOpened}
use Rattle.gds_recovery.proofs.BarrierLemmas.{past_barrier}
use Rattle.gds_recovery.proofs.recovery.recover.Goals as goal

pub returns-in_err-barrier-clause-any_moment : goal.returns-in_err-barrier-clause-any_moment
returns-in_err-barrier-clause-any_moment g c x tells =
    let exit = err_from_is_err_and c.from_residual.result c.from_residual.ensures.1 in
    inl (exit.1 ∙ ap Err exit.2, c.barrier.ensures.same)

pub returns-clause-any_moment : goal.returns-clause-any_moment
returns-clause-any_moment g c x tells =
    inr (past_barrier g.met.H.Host.longer c.in_ok-barrier.ensures.clock c.barrier.ensures.same
    (c.recover_stable.ensures.stays.crash x (c.barrier.ensures.told ∙ tells)))

pub returns-clause-opened : goal.returns-clause-opened
returns-clause-opened g c =
    let h = g.H.Host in
    let new = c.recover_stable.new.host in
    let P : Option Contents → Type 0 =
    λ told. IfOk c.recover_stable.result (λ header. ForSome told (λ x. ForSome (h.told new) (IsOpened x header))) in
    subst P c.barrier.ensures.told c.recover_stable.ensures.opened
