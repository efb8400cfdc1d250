use Rattle.std.proofs.Common.{◌≡◌, ◌<◌, ◌^◌, ap, refl, subst, sym, arith}
use Rattle.std.proofs.lemmas.Result.{on_ok_weaker}
use Rattle.std.specs.Option.{ForSome}
use Rattle.host_model.specs.Moments.{EachLeft}
use Rattle.host_model.proofs.FrameLemmas.{TellsOn-same}
use Rattle.gds_draft.specs.Drafted.{drafted}
use Rattle.gds_draft.specs.Laws.{IsDraftOf}
use Rattle.gds_header.specs.declared.header.Header.{Header}
use Rattle.gds_units.specs.Durable.{KeepsOrStores, KeptAllOrStored}
use Rattle.gds_units.specs.Held.{IsRecoverable}
use Rattle.gds_units.specs.State.{UnitsState, WhereTold, image_of}
use Rattle.gds_units.proofs.DurableLemmas.{keeps_none, keeps_or}
use Rattle.gds_base.specs.Drafting.{IsDraftFor}
use Rattle.gds_base.specs.Faultless.{IsFaultless}
use Rattle.gds_base.proofs.CommittedLemmas.{stays_base}
use Rattle.gds_base.proofs.base.Base.commit.Goals as goal

pub returns-then-header-ge-LAST_NUMBER-clause-any_moment :
    goal.returns-then-header-ge-LAST_NUMBER-clause-any_moment
returns-then-header-ge-LAST_NUMBER-clause-any_moment g c x tells image is =
    let h = g.H.Host in
    let host = c.args.self.now.host in
    let found = subst (λ (s : UnitsState g.row.H.Denot). ForSome (h.told s.host)
    (λ _. EachLeft h.moment h.left_since s.host IsRecoverable)) c.self.view_is c.header.ensures.found in
    keeps_or h.moment h.left_since image x.said host host (keeps_none h.moment h.left_since host (found x tells))

pub returns-then-header-ge-LAST_NUMBER-clause-said :
    goal.returns-then-header-ge-LAST_NUMBER-clause-said
returns-then-header-ge-LAST_NUMBER-clause-said g c =
    let told = g.H.Host.told c.args.self.now.host in
    TellsOn-same told told (λ a b. b.said ≡ a.said) (λ x. refl) refl

pub invariant_of-self : goal.invariant_of-self
invariant_of-self g c =
    let e = c.commit_units.ensures in
    let few : c.args.draft.header.tn < 2 ^ 63 = omega (
      arith,
      c.if-header-ge-LAST_NUMBER.false,
      ap (λ (f : Header). f.tn) c.header.ensures.header,
      ap (λ (s : UnitsState g.row.H.Denot). s.header.tn) c.self.view_is,
      c.requires.draft.tn,
    ) in
    stays_base c.args.draft c.self.inside.units c.commit_units.new.units c.self.inside.room.items
    c.commit_units.result few c.hold_bytes.ensures c.self.invariant
    (subst (λ (s : UnitsState g.row.H.Denot). IsDraftFor s.header c.args.draft) (sym c.self.view_is) c.requires.draft)
    (subst (λ (s : UnitsState g.row.H.Denot). ForSome (image_of s) (λ image. IsDraftOf image c.args.draft))
    (sym c.self.view_is) c.hold_draft.ensures)
    (subst (λ (s : UnitsState g.row.H.Denot). ForSome (image_of s)
    (λ image. IsFaultless (drafted c.args.draft image))) (sym c.self.view_is) c.requires.faultless)
    e.header e.image e.err e.none

pub returns-clause-kept : goal.returns-clause-kept
returns-clause-kept g c =
    let h = g.H.Host in
    on_ok_weaker c.commit_units.result (subst (λ (s : UnitsState g.row.H.Denot). WhereTold h.told s (λ x image.
    KeptAllOrStored h.moment h.left_since image x.said s.host c.commit_units.new.units.host)) c.self.view_is)
    c.commit_units.ensures.kept

pub returns-clause-any_moment : goal.returns-clause-any_moment
returns-clause-any_moment g c =
    let h = g.H.Host in
    subst (λ (s : UnitsState g.row.H.Denot). WhereTold h.told s (λ x image.
    KeepsOrStores h.moment h.left_since image x.said s.host c.commit_units.new.units.host)) c.self.view_is
    c.commit_units.ensures.any_moment
