use Rattle.std.proofs.Common.{◌≡◌, ◌+◌, ◌-◌, ◌*◌, ◌<◌, List, [], ◌++◌, get_or, take, drop, sym, ◌∙◌, ap, subst}
use Rattle.std.proofs.Common.{arith, length-take, length-drop}
use Rattle.std.proofs.lemmas.Result.{err_from_is_err_and}
use Rattle.gds_bitmap.proofs.CountLemmas.{part_byte}
use Rattle.gds_law.specs.declared.fault.Fault.{Fault}
use Rattle.gds_law.specs.declared.sink.SinkTrouble.TheVariants.{Failed}
use Rattle.gds_law.proofs.SinkLemmas.{Reached, Reached-more, WasTold-refused}
use Rattle.integ.specs.GroupMap.{faults_in, pair_faults}
use Rattle.integ.specs.GroupView.{map_of}
use Rattle.integ.proofs.GroupLemmas.{faults_in-four, faults_in-end, four-none}
use Rattle.integ.proofs.TellLemmas.{counted-end, told-end}
use Rattle.integ.proofs.group.Group.tell_pairs.Goals as goal
use Rattle.integ.proofs.group.Group.tell_pairs.Goals.{then-place-whole+in_ok-count, else-place-whole+else-not-are_right}

pub loop-place-preserved : goal.loop-place-preserved
loop-place-preserved g c =
    let m = map_of c.args.self.now in
    let i = c.loop-place.place in
    let told = g.F.FaultSink.listed in
    let whole = pair_faults m in
    let left = faults_in m (4 * (i + 1)) (512 - 4 * (i + 1)) in
    let map = c.args.self.now.map.now in
    let within : i < 128 = omega (arith, c.loop-place-test.true, length-take 128 (drop 16 map)) in
    let next = faults_in-four m i within in
    let so : (xs : List Fault) → faults_in m (4 * i) (512 - 4 * i) ≡ xs
    → Reached (told c.args.sink.now) (told c.loop-place.sink) xs whole c.loop-place.count =
    λ (xs : List Fault) (e : faults_in m (4 * i) (512 - 4 * i) ≡ xs). subst
    (λ (xs : List Fault). Reached (told c.args.sink.now) (told c.loop-place.sink) xs whole c.loop-place.count) e
    c.loop-place.invariant.told in
    elim c.if-place-whole.branch [
      | then-place-whole+in_ok-count w ↦
          record {
            told = Reached-more _ (told c.loop-place.sink) _ (faults_in m (4 * i) 4) left whole c.loop-place.count _
                (so _ next) (ap told w.sink-is ∙ w.in_ok-count.ensures.told.faults.all)
                (omega (arith, w.count-is, w.in_ok-count.ensures.count));
            few = omega (arith, w.count-is, w.in_ok-count.ensures.few);
            failures = omega (arith, w.in_ok-count.ensures.told.failures, ap g.F.FaultSink.failures w.sink-is);
          }
      | else-place-whole+else-not-are_right w ↦
          let byte = part_byte map 128 i within in
          let none : faults_in m (4 * i) 4 ≡ [] =
          four-none m i (get_or (take 128 (drop 16 map)) i 0) w.used_of_four.result
          (omega (arith, w.if-place-whole.false, c.present-whole.ensures)) byte w.used_of_four.ensures.bits
          (w.are_right.ensures.0 w.if-not-are_right.false) in
          record {
            told = rw (w.sink-is, w.count-is) (so _ (next ∙ ap (λ xs. xs ++ left) none));
            few = omega (arith, w.count-is);
            failures = omega (arith, ap g.F.FaultSink.failures w.sink-is);
          }
    ]

pub returns-in_err-count-clause-told : goal.returns-in_err-count-clause-told
returns-in_err-count-clause-told g c =
    let m = map_of c.args.self.now in
    let i = c.loop-place.place in
    let told = g.F.FaultSink.listed in
    let whole = pair_faults m in
    let left = faults_in m (4 * (i + 1)) (512 - 4 * (i + 1)) in
    let within : i < 128 = omega (arith, c.loop-place-test.true, length-take 128 (drop 16 c.args.self.now.map.now)) in
    let p = err_from_is_err_and c.from_residual.result c.from_residual.ensures.1 in
    WasTold-refused told g.F.FaultSink.failures c.args.sink.now c.loop-place.sink c.tell_four.new.sink
    (faults_in m (4 * i) 4) left whole c.loop-place.count Failed _ c.from_residual.result Failed p.0
    (subst (λ (xs : List Fault). Reached (told c.args.sink.now) (told c.loop-place.sink) xs whole
    c.loop-place.count) (faults_in-four m i within) c.loop-place.invariant.told)
    c.loop-place.invariant.failures c.in_err-count.ensures.told p.1 (λ e. sym p.2 ∙ e)

pub returns-clause-told : goal.returns-clause-told
returns-clause-told g c =
    let map = c.args.self.now.map.now in
    told-end g.F.FaultSink.listed g.F.FaultSink.failures c.args.sink.now c.loop-place.sink _ _ c.loop-place.count
    c.loop-place.count Failed c.loop-place.invariant.told
    (faults_in-end (map_of c.args.self.now) (4 * c.loop-place.place) 512
    (omega (arith, c.loop-place-test.false, length-take 128 (drop 16 map), length-drop 16 map)))
    c.loop-place.invariant.failures

pub returns-clause-count : goal.returns-clause-count
returns-clause-count g c =
    let map = c.args.self.now.map.now in
    (counted-end _ _ _ _ c.loop-place.count c.loop-place.invariant.told
    (faults_in-end (map_of c.args.self.now) (4 * c.loop-place.place) 512
    (omega (arith, c.loop-place-test.false, length-take 128 (drop 16 map), length-drop 16 map)))).1
