use Rattle.std.proofs.Common.{◌≡◌, ◌∙◌, Err, ap, arith, sym, subst}
use Rattle.std.proofs.lemmas.Result.{err_from_is_err_and}
use Rattle.std.specs.Option.{ForSome}
use Rattle.host_model.specs.Files.{Contents}
use Rattle.host_model.proofs.FrameLemmas.{TellsOn-then}
use Rattle.gds_epoch.specs.WaitingView.{units_of}
use Rattle.gds_header.specs.declared.header.Header.{Header}
use Rattle.gds_header.specs.Fields.{place_of}
use Rattle.gds_draft.specs.Committed.{next_header}
use Rattle.gds_units.specs.Plan.{IsPlan, header_after}
use Rattle.gds_base.specs.Room.{HasZeros}
use Rattle.gds_units.proofs.DurableLemmas.{keeps_none, keeps_or}
use Rattle.gds_base.proofs.CommittedLemmas.{committed, plan_long}
use Rattle.gds_base.proofs.MomentLemmas.{commit_ends, kept_then, moments_then, untold_before}
use Rattle.gds_base.proofs.PlanLemmas.{after, may_be_carried_out}
use Rattle.gds_base.proofs.commit.commit_units.Goals as goal

pub returns-in_err-plan-clause-any_moment : goal.returns-in_err-plan-clause-any_moment
returns-in_err-plan-clause-any_moment g c x tells image is =
    let h = g.H.Host in
    let host = c.args.units.now.host in
    keeps_or h.moment h.left_since image x.said host host
    (keeps_none h.moment h.left_since host (c.header-header.ensures.found x tells))

pub commit-requires : goal.commit-requires
commit-requires g c =
    let plan = units_of c.in_ok-plan.plan.units.items in
    let total = ap (λ (f : Header). place_of c.args.units.now.header f.total) c.header.ensures.header in
    subst (λ (f : Header). IsPlan f c.make_room.new.units.extent plan) (sym c.make_room.ensures.header)
    (may_be_carried_out c.args.units.now.header c.args.draft plan c.in_ok-plan.ensures c.requires.draft
    c.make_room.new.units.extent (omega (arith, total, c.in_ok-make_room.ensures.extent)))

pub returns-in_err-commit-clause-any_moment : goal.returns-in_err-commit-clause-any_moment
returns-in_err-commit-clause-any_moment g c =
    let h = g.H.Host in
    moments_then h.told h.moment h.left_since g.met.H.Host.longer c.args.units.now c.make_room.new.units
    c.commit.new.self.host c.make_room.ensures.image c.make_room.ensures.said c.make_room.ensures.any_moment
    c.commit.ensures.any_moment

pub returns-in_err-commit-clause-said : goal.returns-in_err-commit-clause-said
returns-in_err-commit-clause-said g c =
    let h = g.H.Host in
    let later : Contents → Contents → Type 0 = λ a b. b.said ≡ a.said in
    TellsOn-then (h.told c.args.units.now.host) (h.told c.make_room.new.units.host) (h.told c.commit.new.self.host)
    later later later (λ x y z first second. second ∙ first) c.make_room.ensures.said c.commit.ensures.said

pub returns-in_err-commit-clause-ends : goal.returns-in_err-commit-clause-ends
returns-in_err-commit-clause-ends g c =
    let h = g.H.Host in
    let old = c.args.units.now in
    let mid = c.make_room.new.units in
    let new = c.commit.new.self in
    let result = c.from_residual-in_err-commit.result in
    let exit = err_from_is_err_and result c.from_residual-in_err-commit.ensures.1 in
    commit_ends (h.failures old.host) (h.failures mid.host) (h.failures new.host) old mid new (h.told old.host)
    (h.told mid.host) c.make_room.ensures.failures c.in_ok-make_room.ensures.ends.0 c.in_ok-make_room.ensures.ends.1
    (untold_before (h.told old.host) (h.told mid.host) (λ a b. b.said ≡ a.said) c.make_room.ensures.said)
    c.in_err-commit.field-0.0 result c.in_err-commit.ensures.ends (exit.1 ∙ ap Err exit.2)

pub returns-clause-image : goal.returns-clause-image
returns-clause-image g c =
    let e = c.header-header.ensures in
    let next = c.header-next.ensures in
    let old = c.args.units.now in
    let mid = c.make_room.new.units in
    let plan = units_of c.in_ok-plan.plan.units.items in
    let planned = c.in_ok-plan.ensures in
    let new_header : c.commit.new.self.header ≡ next_header c.args.draft.header =
    c.in_ok-commit.ensures.header ∙ ap (λ (f : Header). header_after f plan) c.make_room.ensures.header
    ∙ after old.header c.args.draft plan planned c.requires.draft in
    let zero = subst (λ (f : Header). ForSome mid.file (HasZeros old.header f.total)) c.header.ensures.header
    c.in_ok-make_room.ensures.zeros in
    committed old mid c.commit.new.self c.args.draft plan planned c.requires.draft c.requires.image e.image e.fields
    c.make_room.ensures.header c.make_room.ensures.image zero c.in_ok-commit.ensures.file new_header next.image
    next.fields

pub returns-clause-changed : goal.returns-clause-changed
returns-clause-changed g c =
    omega (
      arith,
      c.in_ok-commit.ensures.changed,
      c.make_room.ensures.changed,
      plan_long c.args.draft c.in_ok-plan.plan.units.items c.in_ok-plan.ensures,
    )

pub returns-clause-kept : goal.returns-clause-kept
returns-clause-kept g c =
    let h = g.H.Host in
    kept_then h.told h.moment h.left_since g.met.H.Host.longer c.args.units.now c.make_room.new.units
    c.commit.new.self.host c.make_room.ensures.image c.make_room.ensures.said c.in_ok-make_room.ensures.kept
    c.in_ok-commit.ensures.kept

pub returns-clause-any_moment : goal.returns-clause-any_moment
returns-clause-any_moment g c =
    let h = g.H.Host in
    moments_then h.told h.moment h.left_since g.met.H.Host.longer c.args.units.now c.make_room.new.units
    c.commit.new.self.host c.make_room.ensures.image c.make_room.ensures.said c.make_room.ensures.any_moment
    c.commit.ensures.any_moment

pub returns-clause-said : goal.returns-clause-said
returns-clause-said g c =
    let h = g.H.Host in
    let later : Contents → Contents → Type 0 = λ a b. b.said ≡ a.said in
    TellsOn-then (h.told c.args.units.now.host) (h.told c.make_room.new.units.host) (h.told c.commit.new.self.host)
    later later later (λ x y z first second. second ∙ first) c.make_room.ensures.said c.commit.ensures.said
