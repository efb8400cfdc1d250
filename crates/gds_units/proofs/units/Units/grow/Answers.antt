use Rattle.std.proofs.Common.{ap, subst, inl}
use Rattle.gds_units.specs.Durable.{Keeps}
use Rattle.gds_units.specs.State.{UnitsState, WhereTold}
use Rattle.gds_units.proofs.DurableLemmas.{keeps_or, kept_now, when_ok_always, where_moments, where_stored}
use Rattle.gds_units.proofs.units.Units.grow.Goals.{else-file_length-self, then-file_length-self+in_ok-epoch}
use Rattle.gds_units.proofs.units.Units.grow.Goals as goal

pub returns-clause-kept : goal.returns-clause-kept
returns-clause-kept g c =
    let h = g.H.Host in
    let new = c.grow_behind.new.self.host in
    let later = c.grow_behind.ensures.any_moment in
    elim c.if-file_length-self.branch [
      | then-file_length-self+in_ok-epoch w ↦
          let mid = w.epoch.new.self in
          when_ok_always c.grow_behind.result
          (where_stored h.told h.moment h.left_since g.met.H.Host.longer c.args.self.now mid new
          (ap (λ (s : UnitsState g.row.H.Denot). s.file) w.epoch.ensures.same) w.epoch.ensures.said
          (subst (λ (s : UnitsState g.row.H.Denot). WhereTold h.told s
          (λ x image. Keeps h.moment h.left_since s.host new)) w.self-is later)
          w.in_ok-epoch.ensures.stored)
      | else-file_length-self w ↦
          when_ok_always c.grow_behind.result
          (λ x tells image is. inl (kept_now h.moment h.left_since g.met.H.Host.longer c.args.self.now.host
          c.args.self.now.host new
          (subst (λ (s : UnitsState g.row.H.Denot). WhereTold h.told s
          (λ x image. Keeps h.moment h.left_since s.host new)) w.self-is later x tells image is)))
    ]

pub returns-clause-any_moment : goal.returns-clause-any_moment
returns-clause-any_moment g c =
    let h = g.H.Host in
    let new = c.grow_behind.new.self.host in
    let later = c.grow_behind.ensures.any_moment in
    elim c.if-file_length-self.branch [
      | then-file_length-self+in_ok-epoch w ↦
          let mid = w.epoch.new.self in
          where_moments h.told h.moment h.left_since g.met.H.Host.longer c.args.self.now mid new
          (ap (λ (s : UnitsState g.row.H.Denot). s.file) w.epoch.ensures.same) w.epoch.ensures.said
          (subst (λ (s : UnitsState g.row.H.Denot). WhereTold h.told s
          (λ x image. Keeps h.moment h.left_since s.host new)) w.self-is later)
          w.epoch.ensures.any_moment
      | else-file_length-self w ↦
          λ x tells image is. keeps_or h.moment h.left_since image x.said c.args.self.now.host new
          (subst (λ (s : UnitsState g.row.H.Denot). WhereTold h.told s
          (λ x image. Keeps h.moment h.left_since s.host new)) w.self-is later x tells image is)
    ]
