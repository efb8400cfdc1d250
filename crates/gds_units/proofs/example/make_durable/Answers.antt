use Rattle.std.proofs.Common.{◌≡◌, ap, subst}
use Rattle.std.specs.Prelude.{option_map}
use Rattle.std.proofs.lemmas.Result.{on_ok_weaker}
use Rattle.host_model.proofs.FrameLemmas.{TellsOn-some}
use Rattle.gds_epoch.specs.Epoch.{database_of}
use Rattle.gds_epoch.specs.WaitingView.{units_of}
use Rattle.gds_units.specs.Durable.{IsStored, KeepsOrStores}
use Rattle.gds_units.specs.Plan.{image_after}
use Rattle.gds_units.proofs.ExampleLemmas.{carried_told, one_of, or_or}
use Rattle.gds_units.proofs.example.make_durable.Goals as goal

pub returns-in_err-commit-clause-any_moment : goal.returns-in_err-commit-clause-any_moment
returns-in_err-commit-clause-any_moment g c x tells file is =
    let h = g.H.Host in
    let old = c.args.units.now in
    let plan = units_of c.args.plan.units.items in
    one_of h.told h.moment h.left_since g.met.H.Host.longer old.host c.commit.new.self.host (database_of file)
    (image_after old.header plan file) x.said
    (c.commit.ensures.any_moment x tells (database_of file) (ap (option_map database_of) is))

pub returns-clause-stored : goal.returns-clause-stored
returns-clause-stored g c =
    on_ok_weaker c.epoch.result (λ stored x tells file is.
    let h = g.H.Host in
    let old = c.args.units.now in
    let mid = c.commit.new.self in
    let plan = units_of c.args.plan.units.items in
    let next = image_after old.header plan file in
    let at = TellsOn-some (h.told old.host) (h.told mid.host) (λ a b. b.said ≡ a.said) x tells c.commit.ensures.said in
    subst (λ text. IsStored h.moment h.left_since next text c.epoch.new.self.host) at.2
    (stored at.0 at.1 next (carried_told old.header plan old mid file is c.in_ok-commit.ensures.file)))
    c.epoch.ensures.stored

pub returns-clause-any_moment : goal.returns-clause-any_moment
returns-clause-any_moment g c x tells file is =
    let h = g.H.Host in
    let old = c.args.units.now in
    let mid = c.commit.new.self in
    let plan = units_of c.args.plan.units.items in
    let next = image_after old.header plan file in
    let at = TellsOn-some (h.told old.host) (h.told mid.host) (λ a b. b.said ≡ a.said) x tells c.commit.ensures.said in
    or_or h.told h.moment h.left_since g.met.H.Host.longer old.host mid.host c.epoch.new.self.host
    (database_of file) next
    x.said (c.commit.ensures.any_moment x tells (database_of file) (ap (option_map database_of) is))
    (subst (λ text. KeepsOrStores h.moment h.left_since next text mid.host c.epoch.new.self.host) at.2
    (c.epoch.ensures.any_moment at.0 at.1 next
    (carried_told old.header plan old mid file is c.in_ok-commit.ensures.file)))
