use Rattle.std.proofs.Common.{◌≡◌, ◌+◌, ◌-◌, List, [], ◌∷◌, ◌++◌, sym, ◌∙◌, ap, subst, arith}
use Rattle.std.specs.Prelude.{Some, None}
use Rattle.std.proofs.lemmas.Result.{err_from_is_err_and}
use Rattle.gds_law.specs.Maps.{fault_of, map_number}
use Rattle.gds_law.specs.declared.fault.Fault.{Fault}
use Rattle.gds_law.specs.declared.sink.SinkTrouble.TheVariants.{Failed}
use Rattle.gds_law.proofs.SinkLemmas.{Reached, Reached-more, WasTold-refused}
use Rattle.integ.specs.GroupMap.{faults_in}
use Rattle.integ.specs.GroupView.{map_of}
use Rattle.integ.proofs.GroupLemmas.{faults_in-next, faults_in-end, faults_at-is}
use Rattle.integ.proofs.TellLemmas.{counted-end, told-end}
use Rattle.integ.proofs.group.Group.tell_four.Goals as goal
use Rattle.integ.proofs.group.Group.tell_four.Goals.{in-Some+in_ok-tell, in_default}

pub loop-k-preserved : goal.loop-k-preserved
loop-k-preserved g c =
    let m = map_of c.args.self.now in
    let k = c.loop-k.k in
    let end = c.args.first + 4 in
    let told = g.F.FaultSink.listed in
    let whole = faults_in m c.args.first 4 in
    let next = faults_in-next m k end c.loop-k-test.true in
    let so : (xs : List Fault) → faults_in m k (end - k) ≡ xs
    → Reached (told c.args.sink.now) (told c.loop-k.sink) xs whole c.loop-k.count =
    λ (xs : List Fault) (e : faults_in m k (end - k) ≡ xs). subst
    (λ (xs : List Fault). Reached (told c.args.sink.now) (told c.loop-k.sink) xs whole c.loop-k.count) e
    c.loop-k.invariant.told in
    elim c.match-fault_at.branch [
      | in-Some+in_ok-tell w ↦
          let here = faults_at-is m k (Some w.in-Some.kind) (rw w.in-Some.is at c.fault_at.ensures) in
          record {
            told = Reached-more _ (told c.loop-k.sink) _ (fault_of (map_number m.number + k) w.in-Some.kind ∷ []) _
                whole c.loop-k.count _
                (so _ (next ∙ ap (λ xs. xs ++ faults_in m (k + 1) (end - (k + 1))) here))
                (ap told w.sink-is ∙ w.in_ok-tell.ensures.faults.all) w.count-is;
            few = omega arith;
            failures = omega (arith, w.in_ok-tell.ensures.failures, ap g.F.FaultSink.failures w.sink-is);
          }
      | in_default w ↦
          let here = faults_at-is m k None (rw w.in_default.is at c.fault_at.ensures) in
          record {
            told = rw (w.sink-is, w.count-is) (so _ (next ∙ ap (λ xs. xs ++ faults_in m (k + 1) (end - (k + 1))) here));
            few = omega arith;
            failures = omega (arith, ap g.F.FaultSink.failures w.sink-is);
          }
    ]

pub returns-in_err-tell-clause-told : goal.returns-in_err-tell-clause-told
returns-in_err-tell-clause-told g c =
    let m = map_of c.args.self.now in
    let k = c.loop-k.k in
    let end = c.args.first + 4 in
    let told = g.F.FaultSink.listed in
    let whole = faults_in m c.args.first 4 in
    let here = faults_at-is m k (Some c.in-Some.kind) (rw c.in-Some.is at c.fault_at.ensures) in
    let next = faults_in-next m k end c.loop-k-test.true ∙ ap (λ xs. xs ++ faults_in m (k + 1) (end - (k + 1))) here in
    let p = err_from_is_err_and c.from_residual.result c.from_residual.ensures.1 in
    WasTold-refused told g.F.FaultSink.failures c.args.sink.now c.loop-k.sink c.tell.new.sink
    (fault_of (map_number m.number + k) c.in-Some.kind ∷ []) (faults_in m (k + 1) (end - (k + 1))) whole
    c.loop-k.count Failed _ c.from_residual.result Failed p.0
    (subst (λ (xs : List Fault). Reached (told c.args.sink.now) (told c.loop-k.sink) xs whole c.loop-k.count) next
    c.loop-k.invariant.told)
    c.loop-k.invariant.failures c.in_err-tell.ensures p.1 (λ e. sym p.2 ∙ e)

pub returns-clause-told : goal.returns-clause-told
returns-clause-told g c =
    told-end g.F.FaultSink.listed g.F.FaultSink.failures c.args.sink.now c.loop-k.sink _ _ c.loop-k.count
    c.loop-k.count Failed c.loop-k.invariant.told
    (faults_in-end (map_of c.args.self.now) c.loop-k.k (c.args.first + 4) c.loop-k-test.false)
    c.loop-k.invariant.failures

pub returns-clause-count : goal.returns-clause-count
returns-clause-count g c =
    (counted-end _ _ _ _ c.loop-k.count c.loop-k.invariant.told
    (faults_in-end (map_of c.args.self.now) c.loop-k.k (c.args.first + 4) c.loop-k-test.false)).1
