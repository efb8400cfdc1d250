use Rattle.std.proofs.Common.{◌≡◌, ◌∙◌, ◌++◌, ℕ, List, ap, subst}
use Rattle.host_model.specs.Files.{Contents, saying}
use Rattle.host_model.specs.Moments.{LeavesOnly}
use Rattle.host_model.proofs.FrameLemmas.{TellsOn-some}
use Rattle.gds_epoch.specs.WaitingView.{units_of}
use Rattle.gds_units.specs.Durable.{IsStored, Stores}
use Rattle.gds_units.specs.Plan.{image_after}
use Rattle.gds_units.proofs.ExampleLemmas.{each_now, stored_said, way_begun, way_said, way_stored}
use Rattle.gds_units.proofs.example.change_and_tell.Goals as goal

pub returns-in_err-make_durable-clause-any_moment : goal.returns-in_err-make_durable-clause-any_moment
returns-in_err-make_durable-clause-any_moment g c x tells file is =
    let h = g.H.Host in
    let old = c.args.units.now in
    let mid = c.make_durable.new.units in
    let next = image_after old.header (units_of c.args.first.units.items) file in
    let done : List ℕ = c.args.done.now in
    let begun = way_begun h.told h.moment h.left_since g.met.H.Host.longer old.host x file next done mid.host
    (c.make_durable.ensures.any_moment x tells file is) in
    begun

pub returns-in_err-change_on-clause-any_moment : goal.returns-in_err-change_on-clause-any_moment
returns-in_err-change_on-clause-any_moment g c x tells file is =
    let h = g.H.Host in
    let old = c.args.units.now in
    let mid = c.make_durable.new.units in
    let next = image_after old.header (units_of c.args.first.units.items) file in
    let done : List ℕ = c.args.done.now in
    let begun = way_begun h.told h.moment h.left_since g.met.H.Host.longer old.host x file next done mid.host
    (c.make_durable.ensures.any_moment x tells file is) in
    let new = c.change_on.new.units in
    let at = TellsOn-some (h.told old.host) (h.told mid.host) (λ a b. b.said ≡ a.said) x tells
    c.make_durable.ensures.said in
    let stored : IsStored h.moment h.left_since next x.said mid.host =
    c.in_ok-make_durable.ensures.stored x tells file is in
    let stays : LeavesOnly h.moment h.left_since mid.host new.host (Stores next x.said) =
    subst (λ text. IsStored h.moment h.left_since next text mid.host
    → LeavesOnly h.moment h.left_since mid.host new.host (Stores next text)) at.2
    (c.change_on.ensures.any_moment at.0 at.1 next (c.in_ok-make_durable.ensures.image x tells file is)) stored in
    let way = way_stored h.told h.moment h.left_since g.met.H.Host.longer old.host x file next done mid.host new.host
    begun stays in
    way

pub returns-in_err-say-clause-any_moment : goal.returns-in_err-say-clause-any_moment
returns-in_err-say-clause-any_moment g c x tells file is =
    let h = g.H.Host in
    let old = c.args.units.now in
    let mid = c.make_durable.new.units in
    let next = image_after old.header (units_of c.args.first.units.items) file in
    let done : List ℕ = c.args.done.now in
    let begun = way_begun h.told h.moment h.left_since g.met.H.Host.longer old.host x file next done mid.host
    (c.make_durable.ensures.any_moment x tells file is) in
    let new = c.change_on.new.units in
    let at = TellsOn-some (h.told old.host) (h.told mid.host) (λ a b. b.said ≡ a.said) x tells
    c.make_durable.ensures.said in
    let stored : IsStored h.moment h.left_since next x.said mid.host =
    c.in_ok-make_durable.ensures.stored x tells file is in
    let stays : LeavesOnly h.moment h.left_since mid.host new.host (Stores next x.said) =
    subst (λ text. IsStored h.moment h.left_since next text mid.host
    → LeavesOnly h.moment h.left_since mid.host new.host (Stores next text)) at.2
    (c.change_on.ensures.any_moment at.0 at.1 next (c.in_ok-make_durable.ensures.image x tells file is)) stored in
    let way = way_stored h.told h.moment h.left_since g.met.H.Host.longer old.host x file next done mid.host new.host
    begun stays in
    let then = TellsOn-some (h.told mid.host) (h.told new.host) (λ a b. b.said ≡ a.said) at.0 at.1
    c.change_on.ensures.said in
    let stored_now = each_now h.told h.moment h.left_since g.met.H.Host.longer mid.host new.host (Stores next x.said)
    stays in
    way_said h.told h.moment h.left_since g.met.H.Host.longer old.host x file next done new.host c.say.new.self.host way
    stored_now (c.say.ensures.any_moment then.0 then.1)

pub returns-clause-any_moment : goal.returns-clause-any_moment
returns-clause-any_moment g c x tells file is =
    let h = g.H.Host in
    let old = c.args.units.now in
    let mid = c.make_durable.new.units in
    let next = image_after old.header (units_of c.args.first.units.items) file in
    let done : List ℕ = c.args.done.now in
    let begun = way_begun h.told h.moment h.left_since g.met.H.Host.longer old.host x file next done mid.host
    (c.make_durable.ensures.any_moment x tells file is) in
    let new = c.change_on.new.units in
    let at = TellsOn-some (h.told old.host) (h.told mid.host) (λ a b. b.said ≡ a.said) x tells
    c.make_durable.ensures.said in
    let stored : IsStored h.moment h.left_since next x.said mid.host =
    c.in_ok-make_durable.ensures.stored x tells file is in
    let stays : LeavesOnly h.moment h.left_since mid.host new.host (Stores next x.said) =
    subst (λ text. IsStored h.moment h.left_since next text mid.host
    → LeavesOnly h.moment h.left_since mid.host new.host (Stores next text)) at.2
    (c.change_on.ensures.any_moment at.0 at.1 next (c.in_ok-make_durable.ensures.image x tells file is)) stored in
    let way = way_stored h.told h.moment h.left_since g.met.H.Host.longer old.host x file next done mid.host new.host
    begun stays in
    let then = TellsOn-some (h.told mid.host) (h.told new.host) (λ a b. b.said ≡ a.said) at.0 at.1
    c.change_on.ensures.said in
    let stored_now = each_now h.told h.moment h.left_since g.met.H.Host.longer mid.host new.host (Stores next x.said)
    stays in
    way_said h.told h.moment h.left_since g.met.H.Host.longer old.host x file next done new.host c.say.new.self.host way
    stored_now (c.say.ensures.any_moment then.0 then.1)

pub returns-clause-stored : goal.returns-clause-stored
returns-clause-stored g c x tells file is =
    let h = g.H.Host in
    let old = c.args.units.now in
    let mid = c.make_durable.new.units in
    let next = image_after old.header (units_of c.args.first.units.items) file in
    let done : List ℕ = c.args.done.now in
    let begun = way_begun h.told h.moment h.left_since g.met.H.Host.longer old.host x file next done mid.host
    (c.make_durable.ensures.any_moment x tells file is) in
    let new = c.change_on.new.units in
    let at = TellsOn-some (h.told old.host) (h.told mid.host) (λ a b. b.said ≡ a.said) x tells
    c.make_durable.ensures.said in
    let stored : IsStored h.moment h.left_since next x.said mid.host =
    c.in_ok-make_durable.ensures.stored x tells file is in
    let stays : LeavesOnly h.moment h.left_since mid.host new.host (Stores next x.said) =
    subst (λ text. IsStored h.moment h.left_since next text mid.host
    → LeavesOnly h.moment h.left_since mid.host new.host (Stores next text)) at.2
    (c.change_on.ensures.any_moment at.0 at.1 next (c.in_ok-make_durable.ensures.image x tells file is)) stored in
    let way = way_stored h.told h.moment h.left_since g.met.H.Host.longer old.host x file next done mid.host new.host
    begun stays in
    let then = TellsOn-some (h.told mid.host) (h.told new.host) (λ a b. b.said ≡ a.said) at.0 at.1
    c.change_on.ensures.said in
    let stored_now = each_now h.told h.moment h.left_since g.met.H.Host.longer mid.host new.host (Stores next x.said)
    stays in
    let last = TellsOn-some (h.told new.host) (h.told c.say.new.self.host) (λ a b. b ≡ saying a done) then.0 then.1
    c.in_ok-say.ensures.said in
    stored_said h.told h.moment h.left_since g.met.H.Host.longer old.host x file next done new.host c.say.new.self.host
    stored_now (c.say.ensures.any_moment then.0 then.1)
    (λ y left. g.met.H.Host.said_stays c.say.new.self.host last.0 y last.1 left
    ∙ ap (λ (z : Contents). z.said) last.2 ∙ ap (λ text. text ++ done) (then.2 ∙ at.2))
