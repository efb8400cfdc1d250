use Rattle.std.proofs.Common.{ℕ, ◌≡◌, ◌+◌, ◌*◌, List, arith, length, sym, ap, subst}
use Rattle.gds_draft.specs.Draft.{DraftState}
use Rattle.gds_draft.proofs.UnitLemmas.{one_more}
use Rattle.gds_base.specs.Reserve.{GetsMaps, IsNewMap}
use Rattle.gds_base.specs.Spaces.{present_in}
use Rattle.gds_base.proofs.NewMapLemmas.{one_more_map}
use Rattle.gds_base.proofs.growing.put_new_maps.Goals as goal

pub loop-group-preserved : goal.loop-group-preserved
loop-group-preserved c =
    let first = c.args.draft.now in
    let group : ℕ = c.loop-group.group in
    let map : List ℕ = c.in_ok-map.map.items in
    let put = c.in_ok-put_vec.ensures.put in
    record {
      maps = subst (λ d. GetsMaps first d c.args.tn c.args.from (group + 1)) (sym put)
          (one_more_map first c.loop-group.draft c.args.tn c.args.from group map (omega arith)
          c.header-header.ensures.draft c.loop-group.invariant.maps
          (subst (λ h. IsNewMap map c.args.tn (present_in h group)) c.header.ensures.header c.in_ok-map.ensures.new));
      more = omega (
        arith,
        c.loop-group.invariant.more,
        one_more c.loop-group.draft.units (record { unit = 512 * group + 1; bytes = map }),
        ap (λ (d : DraftState). length d.units) put,
      );
    }

pub returns-clause-maps : goal.returns-clause-maps
returns-clause-maps c =
    let end : c.loop-group.group ≡ c.args.to = omega arith in
    subst (GetsMaps c.args.draft.now c.loop-group.draft c.args.tn c.args.from) end c.loop-group.invariant.maps
