use Rattle.std.proofs.Common.{◌≡◌, ◌+◌, false, List, [], ◌∷◌, get_or, drop, sym, ◌∙◌, ap, subst, arith}
use Rattle.std.specs.Prelude.{map}
use Rattle.std.proofs.lemmas.Result.{err_from_is_err_and}
use Rattle.gds_law.specs.Maps.{fault_of}
use Rattle.gds_law.specs.declared.kind.FaultKind.{FaultKind}
use Rattle.gds_law.specs.declared.kind.FaultKind.TheVariants.{ShortHeader}
use Rattle.gds_law.specs.declared.sink.SinkTrouble.TheVariants.{Failed}
use Rattle.gds_law.proofs.SinkLemmas.{Reached, Reached-more, WasTold-refused}
use Rattle.integ.specs.Standing.{standing}
use Rattle.integ.proofs.StandingLemmas.{standing-yes, standing-not}
use Rattle.integ.proofs.telling.tell_standing.Goals as goal
use Rattle.integ.proofs.telling.tell_standing.Goals.{then-stands+in_ok-tell, else-stands}

pub loop-kind-preserved : goal.loop-kind-preserved
loop-kind-preserved g c =
    let block = c.args.block in
    let kinds = c.args.kinds.now in
    let i = c.loop-kind.kind-index in
    let k = get_or kinds i (ShortHeader, false) in
    let told = g.F.FaultSink.listed in
    let so : (ks : List FaultKind) → standing (drop i kinds) ≡ ks
    → Reached (told c.args.sink.now) (told c.loop-kind.sink) (map (fault_of block) ks)
    (map (fault_of block) (standing kinds)) c.loop-kind.count =
    λ (ks : List FaultKind) (e : standing (drop i kinds) ≡ ks).
    subst (λ (ks : List FaultKind). Reached (told c.args.sink.now) (told c.loop-kind.sink) (map (fault_of block) ks)
    (map (fault_of block) (standing kinds)) c.loop-kind.count) e c.loop-kind.invariant.told in
    elim c.if-stands.branch [
      | then-stands+in_ok-tell w ↦
          let e = standing-yes kinds i (ShortHeader, false) c.loop-kind-test.true w.if-stands.true in
          record {
            told = Reached-more _ (told c.loop-kind.sink) _ (fault_of block k.0 ∷ []) _
                (map (fault_of block) (standing kinds)) c.loop-kind.count _ (so _ e)
                (ap told w.sink-is ∙ w.in_ok-tell.ensures.faults.all) w.count-is;
            few = omega arith;
            failures = omega (arith, w.in_ok-tell.ensures.failures, ap g.F.FaultSink.failures w.sink-is);
          }
      | else-stands w ↦
          let e = standing-not kinds i (ShortHeader, false) c.loop-kind-test.true w.if-stands.false in
          record {
            told = rw (w.sink-is, w.count-is) (so _ e);
            few = omega arith;
            failures = omega (arith, ap g.F.FaultSink.failures w.sink-is);
          }
    ]

pub returns-in_err-tell-clause-told : goal.returns-in_err-tell-clause-told
returns-in_err-tell-clause-told g c =
    let block = c.args.block in
    let kinds = c.args.kinds.now in
    let i = c.loop-kind.kind-index in
    let k = get_or kinds i (ShortHeader, false) in
    let told = g.F.FaultSink.listed in
    let e = standing-yes kinds i (ShortHeader, false) c.loop-kind-test.true c.if-stands.true in
    let p = err_from_is_err_and c.from_residual.result c.from_residual.ensures.1 in
    WasTold-refused told g.F.FaultSink.failures c.args.sink.now c.loop-kind.sink c.tell.new.sink
    (fault_of block k.0 ∷ []) (map (fault_of block) (standing (drop (i + 1) kinds)))
    (map (fault_of block) (standing kinds)) c.loop-kind.count Failed _ c.from_residual.result Failed p.0
    (subst (λ (ks : List FaultKind). Reached (told c.args.sink.now) (told c.loop-kind.sink)
    (map (fault_of block) ks) (map (fault_of block) (standing kinds)) c.loop-kind.count) e
    c.loop-kind.invariant.told)
    c.loop-kind.invariant.failures c.in_err-tell.ensures p.1 (λ e. sym p.2 ∙ e)
