use Rattle.gds_find.proofs.TrailLemmas.{from_none, on_ok_weaker}
use Rattle.gds_find.proofs.finding.find.Goals as goal

pub returns-clause-found : goal.returns-clause-found
returns-clause-found g c =
    on_ok_weaker _ _ c.go_down.result
    (λ finds image told v tree. from_none _ v c.args.key.now c.clear.new.self.items c.go_down.new.trail.steps.items
    c.go_down.new.trail.found c.go_down.new.trail.place c.clear.ensures (finds image told v tree))
    c.go_down.ensures.found
