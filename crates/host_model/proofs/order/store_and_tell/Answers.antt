use Rattle.std.proofs.Common.{inr, ◌∙◌, ap}
use Rattle.host_model.specs.declared.host.FileNo.TheVariants.{Db, Images}
use Rattle.host_model.specs.Files.{Contents, Says, saying}
use Rattle.host_model.specs.Order.{with_front}
use Rattle.host_model.specs.Told.{TellsOn}
use Rattle.host_model.proofs.ChainLemmas.{come_said, come_saying}
use Rattle.host_model.proofs.OrderLemmas.{both_stored, first_stored, second_stored}
use Rattle.host_model.proofs.OutcomeLemmas.{told_said, told_written, when_ok}
use Rattle.host_model.proofs.order.store_and_tell.Goals as goal

pub returns-in_err-store-clause-any_moment : goal.returns-in_err-store-clause-any_moment
returns-in_err-store-clause-any_moment g c now tells =
    (first_stored g.met.H.Host.longer now c.args.first.now c.args.second.now c.args.done.now c.args.host.now
    c.store.new.host (c.requires now tells) c.store.ensures.any_moment).only

pub returns-in_err-store-2-clause-any_moment : goal.returns-in_err-store-2-clause-any_moment
returns-in_err-store-2-clause-any_moment g c now tells =
    (second_stored g.met.H.Host.longer now c.args.first.now c.args.second.now c.args.done.now c.args.host.now
    c.store.new.host c.store-2.new.host (c.requires now tells) c.store.ensures.any_moment
    (c.in_ok-store.ensures.settled now tells) c.store-2.ensures.any_moment).only

pub returns-clause-any_moment : goal.returns-clause-any_moment
returns-clause-any_moment g c now tells =
    let first = c.args.first.now in
    let second = c.args.second.now in
    let done = c.args.done.now in
    let told = told_written Images 0 first (g.H.Host.told c.args.host.now)
    (g.H.Host.told c.store.new.host) now tells c.in_ok-store.ensures.told in
    let both = both_stored g.met.H.Host.longer now first second done c.args.host.now c.store.new.host
    c.store-2.new.host (c.requires now tells) c.store.ensures.any_moment (c.in_ok-store.ensures.settled now tells)
    c.store-2.ensures.any_moment (c.in_ok-store-2.ensures.settled (with_front Images first now) told) in
    (come_saying g.met.H.Host.longer done both c.say.ensures.called (λ x is. inr (inr is))).only

pub returns-clause-told : goal.returns-clause-told
returns-clause-told g c =
    let h = g.H.Host in
    let first = c.args.first.now in
    let second = c.args.second.now in
    let done = c.args.done.now in
    when_ok (λ r. TellsOn (h.told c.store-2.new.host) (h.told c.say.new.self) (Says done r)) c.say.result
    c.say.ensures.said (λ x said now tells.
    let told = told_written Images 0 first (h.told c.args.host.now) (h.told c.store.new.host) now tells
    c.in_ok-store.ensures.told in
    let told_both = told_written Db 0 second (h.told c.store.new.host) (h.told c.store-2.new.host)
    (with_front Images first now) told c.in_ok-store-2.ensures.told in
    told_said done (h.told c.store-2.new.host) (h.told c.say.new.self)
    (with_front Db second (with_front Images first now)) told_both said)

pub returns-clause-stable : goal.returns-clause-stable
returns-clause-stable g c =
    let h = g.H.Host in
    let first = c.args.first.now in
    let second = c.args.second.now in
    let done = c.args.done.now in
    when_ok (λ r. TellsOn (h.told c.store-2.new.host) (h.told c.say.new.self) (Says done r)) c.say.result
    c.say.ensures.said (λ x said now tells.
    let one = with_front Images first now in
    let two = with_front Db second one in
    let told = told_written Images 0 first (h.told c.args.host.now) (h.told c.store.new.host) now tells
    c.in_ok-store.ensures.told in
    let told_both = told_written Db 0 second (h.told c.store.new.host) (h.told c.store-2.new.host) one told
    c.in_ok-store-2.ensures.told in
    let told_done = told_said done (h.told c.store-2.new.host) (h.told c.say.new.self) two told_both said in
    let both = both_stored g.met.H.Host.longer now first second done c.args.host.now c.store.new.host
    c.store-2.new.host (c.requires now tells) c.store.ensures.any_moment (c.in_ok-store.ensures.settled now tells)
    c.store-2.ensures.any_moment (c.in_ok-store-2.ensures.settled one told) in
    let come = come_said g.met.H.Host.longer done two both c.say.ensures.crash c.say.ensures.called
    g.met.H.Host.said_stays told_both told_done (λ x is. inr (inr is)) in
    λ y left. let is = come.each y left in is.2 ∙ ap (λ (k : Contents). saying k done) is.1)
