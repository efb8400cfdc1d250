use Rattle.std.proofs.Common.{◌∙◌}
use Rattle.std.proofs.lemmas.Result.{on_ok_weaker}
use Rattle.host_model.specs.declared.host.FileNo.TheVariants.{Db, Images}
use Rattle.host_model.proofs.OutcomeLemmas.{each_settled, told_is}
use Rattle.host_model.specs.Disk.{Settles}
use Rattle.host_model.proofs.order.barrier.Goals as goal

pub returns-clause-stable : goal.returns-clause-stable
returns-clause-stable g c =
    let h = g.H.Host in
    let mid = c.sync.new.self in
    let new = c.sync-2.new.self in
    on_ok_weaker c.sync-2.result
    (λ settled now tells.
    let db : Settles Db now.db (h.left_since new (h.moment new)) =
    told_is (h.told mid) now (λ x. Settles Db x.db (h.left_since new (h.moment new)))
    (c.in_ok-sync.ensures.kept.told ∙ tells) settled in
    let images : Settles Images now.images (h.left_since mid (h.moment mid)) =
    told_is (h.told c.args.host.now) now (λ x. Settles Images x.images (h.left_since mid (h.moment mid)))
    tells c.in_ok-sync.ensures.settled in
    each_settled now (h.left_since new (h.moment new)) db (λ x left. images x (c.sync-2.ensures.kept.crash x left))
    (λ x left. g.met.H.Host.said_stays new now x
    (c.sync-2.ensures.kept.told ∙ c.in_ok-sync.ensures.kept.told ∙ tells) left))
    c.sync-2.ensures.settled
