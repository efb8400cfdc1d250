use Rattle.gds_units.proofs.ExampleLemmas.{stays_stored, stored_on}
use Rattle.gds_units.proofs.example.change_on.Goals as goal

pub returns-in_err-grow-clause-any_moment : goal.returns-in_err-grow-clause-any_moment
returns-in_err-grow-clause-any_moment g c x tells image is stored =
    let h = g.H.Host in
    stays_stored h.told h.moment h.left_since g.met.H.Host.longer c.args.units.now.host c.grow.new.self.host image
    x.said
    stored (c.grow.ensures.any_moment x tells image is)

pub returns-clause-any_moment : goal.returns-clause-any_moment
returns-clause-any_moment g c x tells image is stored =
    let h = g.H.Host in
    let old = c.args.units.now in
    let mid = c.grow.new.self in
    stored_on h.told h.moment h.left_since g.met.H.Host.longer old mid c.commit.new.self.host c.grow.ensures.image
    c.grow.ensures.said c.commit.ensures.any_moment x tells image is
    (stays_stored h.told h.moment h.left_since g.met.H.Host.longer old.host mid.host image x.said stored
    (c.grow.ensures.any_moment x tells image is))
