use Rattle.std.proofs.Common.{◌∙◌, ap, inl, subst, sym, arith}
use Rattle.std.specs.Prelude.{All}
use Rattle.std.proofs.lemmas.List.{length-map}
use Rattle.host_model.specs.Told.{TellsOn}
use Rattle.gds_epoch.specs.Epoch.{IsKept}
use Rattle.gds_epoch.specs.WaitingView.{unit_of, units_of}
use Rattle.gds_units.specs.Durable.{KeepsOrStores, KeptAllOrStored}
use Rattle.gds_units.specs.Held.{AreUnits}
use Rattle.gds_units.specs.Plan.{IsCarriedOut, IsPlan, header_after}
use Rattle.gds_units.specs.State.{UnitsState, WhereTold, file_with}
use Rattle.gds_units.proofs.DurableLemmas.{keeps_none, keeps_or}
use Rattle.gds_units.proofs.CarriedLemmas.{file_carried_out, length-now, read_as_before, read_keeps, units_carried}
use Rattle.gds_units.proofs.ReadingLemmas.{after_reading}
use Rattle.gds_units.proofs.units.Units.commit.Goals as goal

pub returns-then-self-clause-any_moment : goal.returns-then-self-clause-any_moment
returns-then-self-clause-any_moment g c =
    let h = g.H.Host in
    let u = c.self.inside in
    subst (λ (s : UnitsState g.row.H.Denot). WhereTold h.told s
    (λ x image. KeepsOrStores h.moment h.left_since image x.said s.host s.host)) c.self.view_is
    (λ x tells image is. keeps_or h.moment h.left_since image x.said u.host u.host
    (keeps_none h.moment h.left_since u.host (c.self.invariant.found x tells)))

pub returns-in_default-clause-any_moment : goal.returns-in_default-clause-any_moment
returns-in_default-clause-any_moment g c =
    let h = g.H.Host in
    let u = c.self.inside in
    subst (λ (s : UnitsState g.row.H.Denot). WhereTold h.told s
    (λ x image. KeepsOrStores h.moment h.left_since image x.said s.host u.host)) c.self.view_is
    (λ x tells image is. keeps_or h.moment h.left_since image x.said u.host u.host
    (keeps_none h.moment h.left_since u.host (c.self.invariant.found x tells)))

pub invariant_of-self-in_err-keep_plan : goal.invariant_of-self-in_err-keep_plan
invariant_of-self-in_err-keep_plan g c =
    let h = g.H.Host in
    let u = c.self.inside in
    let e = c.keep_plan.ensures in
    subst (λ us. AreUnits h.told h.moment h.left_since c.keep_plan.new.host u.header us c.keep_plan.new.images
    u.epoch_length u.extent u.is_stopped) (sym c.reserve.ensures.same)
    (subst (λ images. AreUnits h.told h.moment h.left_since c.keep_plan.new.host u.header u.waiting.units images
    u.epoch_length u.extent u.is_stopped) (sym c.in_err-keep_plan.ensures.err)
    (after_reading u.host c.keep_plan.new.host u.header u.waiting.units u.before u.epoch_length u.extent u.is_stopped
    c.self.invariant e.read.told e.crash.stays))

pub returns-in_err-keep_plan-clause-any_moment : goal.returns-in_err-keep_plan-clause-any_moment
returns-in_err-keep_plan-clause-any_moment g c =
    let h = g.H.Host in
    let u = c.self.inside in
    let e = c.keep_plan.ensures in
    subst (λ (s : UnitsState g.row.H.Denot). WhereTold h.told s
    (λ x image. KeepsOrStores h.moment h.left_since image x.said s.host c.keep_plan.new.host)) c.self.view_is
    (λ x tells image is. keeps_or h.moment h.left_since image x.said u.host c.keep_plan.new.host
    (read_keeps u.host c.keep_plan.new.host u.header u.waiting.units u.before u.epoch_length u.extent u.is_stopped
    c.self.invariant e.read.told e.crash x tells))

pub invariant_of-self-2 : goal.invariant_of-self-2
invariant_of-self-2 g c =
    let u = c.self.inside in
    let e = c.keep_plan.ensures in
    let plan = units_of c.args.plan.units.items in
    let is : IsPlan u.header u.extent plan =
    subst (λ (s : UnitsState g.row.H.Denot). IsPlan s.header s.extent plan) (sym c.self.view_is) c.requires in
    let is_next = c.header_of-header.ensures
    ∙ ap (λ items. header_after u.header (units_of items)) c.deref.ensures.value in
    units_carried u.host c.keep_plan.new.host u.header u.waiting.units u.before u.epoch_length u.extent u.is_stopped
    c.self.invariant e.read.told e.crash plan is c.header_of-header.result c.reserve.new.self.units
    c.drop_above.new.self.units c.put_all_reserved.new.self.units is_next c.reserve.ensures.same
    c.drop_above.ensures.dropped c.drop_above.ensures.rising c.put_all_reserved.ensures.put
    c.keep_plan.new.images e.added
    (subst (λ items. All (IsKept u.header.block_size u.epoch_length c.keep_plan.new.images) (units_of items))
    c.deref-2.ensures.value c.in_ok-keep_plan.ensures.kept)
    e.old

pub returns-clause-file : goal.returns-clause-file
returns-clause-file g c =
    let h = g.H.Host in
    let u = c.self.inside in
    let e = c.keep_plan.ensures in
    let plan = units_of c.args.plan.units.items in
    let is : IsPlan u.header u.extent plan =
    subst (λ (s : UnitsState g.row.H.Denot). IsPlan s.header s.extent plan) (sym c.self.view_is) c.requires in
    let is_next = c.header_of-header.ensures
    ∙ ap (λ items. header_after u.header (units_of items)) c.deref.ensures.value in
    subst (λ (s : UnitsState g.row.H.Denot). TellsOn s.file (file_with c.header_of-header.result.block_size
    c.put_all_reserved.new.self.units (h.told c.keep_plan.new.host)) (IsCarriedOut s.header plan)) c.self.view_is
    (file_carried_out u.host c.keep_plan.new.host u.header u.waiting.units u.before u.epoch_length u.extent u.is_stopped
    c.self.invariant e.read.told e.crash plan is c.header_of-header.result c.reserve.new.self.units
    c.drop_above.new.self.units c.put_all_reserved.new.self.units is_next c.reserve.ensures.same
    c.drop_above.ensures.dropped c.drop_above.ensures.rising c.put_all_reserved.ensures.put)

pub returns-clause-changed : goal.returns-clause-changed
returns-clause-changed g c =
    let u = c.self.inside in
    let plan = units_of c.args.plan.units.items in
    let is : IsPlan u.header u.extent plan =
    subst (λ (s : UnitsState g.row.H.Denot). IsPlan s.header s.extent plan) (sym c.self.view_is) c.requires in
    let is_next = c.header_of-header.ensures
    ∙ ap (λ items. header_after u.header (units_of items)) c.deref.ensures.value in
    let short = length-now u.header c.header_of-header.result plan u.waiting.units c.reserve.new.self.units
    c.drop_above.new.self.units c.put_all_reserved.new.self.units is_next c.reserve.ensures.same
    c.drop_above.ensures.dropped c.put_all_reserved.ensures.put u.extent is c.self.invariant.places.inside in
    omega (
      arith,
      short,
      length-map c.args.plan.units.items unit_of,
      ap (λ (s : UnitsState g.row.H.Denot). s.changed) c.self.view_is,
    )

pub returns-clause-kept : goal.returns-clause-kept
returns-clause-kept g c =
    let h = g.H.Host in
    let u = c.self.inside in
    let e = c.keep_plan.ensures in
    subst (λ (s : UnitsState g.row.H.Denot). WhereTold h.told s
    (λ x image. KeptAllOrStored h.moment h.left_since image x.said s.host c.keep_plan.new.host)) c.self.view_is
    (λ x tells image is. inl (read_as_before u.host c.keep_plan.new.host u.header u.waiting.units u.before
    u.epoch_length u.extent u.is_stopped c.self.invariant e.read.told e.crash x tells))

pub returns-clause-any_moment : goal.returns-clause-any_moment
returns-clause-any_moment g c =
    let h = g.H.Host in
    let u = c.self.inside in
    let e = c.keep_plan.ensures in
    subst (λ (s : UnitsState g.row.H.Denot). WhereTold h.told s
    (λ x image. KeepsOrStores h.moment h.left_since image x.said s.host c.keep_plan.new.host)) c.self.view_is
    (λ x tells image is. keeps_or h.moment h.left_since image x.said u.host c.keep_plan.new.host
    (read_keeps u.host c.keep_plan.new.host u.header u.waiting.units u.before u.epoch_length u.extent u.is_stopped
    c.self.invariant e.read.told e.crash x tells))
