use Rattle.std.proofs.Common.{◌∙◌, sym}
use Rattle.std.proofs.lemmas.Result.{err_from_is_err_and}
use Rattle.gds_cli.proofs.SayingLemmas.{none_told}
use Rattle.gds_cli.proofs.ExtractLemmas.{finds}
use Rattle.gds_cli.proofs.thin.extract.find_thin.Goals as goal

pub returns-in_err-leaves-clause-changed : goal.returns-in_err-leaves-clause-changed
returns-in_err-leaves-clause-changed g c =
    let p = err_from_is_err_and c.from_residual-in_err-leaves.result c.from_residual-in_err-leaves.ensures.1 in
    rw (p.1, p.2) (λ is. none_told (g.H.Host.told c.args.host.now) (λ x tells.
    let head = (rw c.in-Some.is at c.in_ok-header.ensures.some) x (c.in_ok-is_closed.ensures.host.read.told ∙ tells) in
    c.in_err-leaves.ensures.changed is x
    (c.in_ok-header.ensures.host.read.told ∙ (c.in_ok-is_closed.ensures.host.read.told ∙ tells)) head))

pub returns-in_default-2-clause-none : goal.returns-in_default-2-clause-none
returns-in_default-2-clause-none g c x tells m thin =
    let head = (rw c.in-Some.is at c.in_ok-header.ensures.some) x (c.in_ok-is_closed.ensures.host.read.told ∙ tells) in
    let none =
    (rw c.in_default-2.is at c.in_ok-leaves.ensures.none) x
    (c.in_ok-header.ensures.host.read.told ∙ (c.in_ok-is_closed.ensures.host.read.told ∙ tells)) head in
    none thin.directory thin.globals thin.thin

pub returns-clause-some : goal.returns-clause-some
returns-clause-some g c x tells =
    let head = (rw c.in-Some.is at c.in_ok-header.ensures.some) x (c.in_ok-is_closed.ensures.host.read.told ∙ tells) in
    let found =
    (rw c.in-Some-2.is at c.in_ok-leaves.ensures.some) x
    (c.in_ok-header.ensures.host.read.told ∙ (c.in_ok-is_closed.ensures.host.read.told ∙ tells)) head in
    finds x.db x.images c.in-Some.header c.in-Some-2.leaves.items head
    (sym (c.in_ok-is_closed.ensures.value x tells) ∙ c.if-not-branch.false) found
