use Rattle.std.proofs.Common.{ℕ, ◌≡◌, ◌+◌, ◌-◌, ◌*◌, List, ◌++◌, refl, sym, ◌∙◌, ap, subst, arith}
use Rattle.std.specs.Prelude.{Some}
use Rattle.std.proofs.lemmas.Result.{err_from_is_err_and}
use Rattle.host_model.specs.Units.{unit_bytes}
use Rattle.gds_law.specs.Maps.{map_faults}
use Rattle.gds_law.specs.declared.fault.Fault.{Fault}
use Rattle.gds_law.proofs.SinkLemmas.{Reached, Reached-none, Reached-more, IsCut-stop, IsCut-more, Grew-ok, Grew-err}
use Rattle.integ.specs.GroupMap.{GroupMap, in_use, faults_of, free_count}
use Rattle.integ.specs.Maps.{groups_in}
use Rattle.integ.proofs.TellLemmas.{counted-end}
use Rattle.integ.proofs.MapLemmas.{group_of, groups_in-next, groups_in-end, groups_in-all, free_before-none}
use Rattle.integ.proofs.MapLemmas.{free_before-next, free_before-all, map-unit, group-here, groups-is, some_at}
use Rattle.integ.proofs.maps.tell_maps.Goals as goal

pub unit-requires : goal.unit-requires
unit-requires g c x tells =
    map-unit c.args.header.now x (c.requires.header x (sym c.loop-number.invariant.image ∙ tells)) c.loop-number.number
    (omega (arith, c.loop-number-test.true, c.div_ceil-number-end.ensures)) _ c.loop-number.invariant.block

pub loop-number-init : goal.loop-number-init
loop-number-init g c = record {
  told = λ x tells.
      let whole = map_faults x (in_use c.args.used.now) in
      let e = groups-is c.args.header.now x c.div_ceil-number-end.result (c.requires.header x tells)
      c.div_ceil-number-end.ensures in
      let old = g.F.FaultSink.listed c.args.sink.now in
      subst (λ (xs : List Fault). Reached old old xs whole 0)
      (sym (groups_in-all x c.args.used.now c.div_ceil-number-end.result e)) (Reached-none old whole);
  free = λ x tells. sym (free_before-none x);
  few = omega arith;
  free_few = omega arith;
  block = c.requires.block;
  image = refl;
  read = g.met.U.UnitSource.not_read c.args.units.now;
  reads = omega arith;
  says = omega arith;
}

pub loop-number-preserved : goal.loop-number-preserved
loop-number-preserved g c =
    let n = c.loop-number.number in
    let end = c.div_ceil-number-end.result in
    let used = c.args.used.now in
    let h = c.args.header.now in
    let m : GroupMap = record { header = h; number = n; bytes = c.unit.new.out; used = used } in
    let same : (x : List ℕ) → g.U.UnitSource.image c.args.units.now ≡ Some x → group_of x used n ≡ m =
    λ (x : List ℕ) (tells : g.U.UnitSource.image c.args.units.now ≡ Some x).
    group-here h x used c.unit.new.out n (c.requires.header x tells)
    (some_at (g.U.UnitSource.image c.loop-number.units) (λ file. c.unit.new.out ≡ unit_bytes file (512 * n + 1)) x
    (c.loop-number.invariant.image ∙ tells) c.in_ok-unit.ensures.bytes) in
    record {
      told = λ x tells.
          let next : groups_in x used n (end - n) ≡ faults_of m ++ groups_in x used (n + 1) (end - (n + 1)) =
          groups_in-next x used n end c.loop-number-test.true
          ∙ ap (λ k. faults_of k ++ groups_in x used (n + 1) (end - (n + 1))) (same x tells) in
          let so = subst (λ (xs : List Fault). Reached (g.F.FaultSink.listed c.args.sink.now)
          (g.F.FaultSink.listed c.loop-number.sink) xs (map_faults x (in_use used)) c.loop-number.maps.faults)
          next (c.loop-number.invariant.told x tells) in
          Reached-more _ (g.F.FaultSink.listed c.loop-number.sink) _ (faults_of m) _ (map_faults x (in_use used))
          c.loop-number.maps.faults _ so c.in_ok-told.ensures.told.faults.all
          (omega (arith, c.in_ok-told.ensures.count));
      free = λ x tells. omega (
        arith,
        c.loop-number.invariant.free x tells,
        c.in_ok-told.ensures.free,
        free_before-next x used n,
        ap free_count (same x tells),
      );
      few = omega (arith, c.in_ok-told.ensures.few);
      free_few = omega (arith, c.in_ok-told.ensures.within);
      block = c.unit.ensures.len ∙ c.loop-number.invariant.block;
      image = c.in_ok-unit.ensures.image ∙ c.loop-number.invariant.image;
      read = g.met.U.UnitSource.read_on _ _ _ c.loop-number.invariant.read c.in_ok-unit.ensures.read;
      reads = omega (arith, c.in_ok-unit.ensures.failures);
      says = omega (arith, c.in_ok-told.ensures.told.failures);
    }

pub returns-in_err-unit-clause-told : goal.returns-in_err-unit-clause-told
returns-in_err-unit-clause-told g c x tells =
    let p = err_from_is_err_and c.from_residual.result c.from_residual.ensures.1 in
    let old = g.F.FaultSink.listed c.args.sink.now in
    let now = g.F.FaultSink.listed c.loop-number.sink in
    Grew-err old now _ c.from_residual.result p.0 p.1
    (IsCut-stop old now now _ _ c.loop-number.maps.faults (c.loop-number.invariant.told x tells) refl)

pub returns-in_err-told-clause-told : goal.returns-in_err-told-clause-told
returns-in_err-told-clause-told g c x tells =
    let n = c.loop-number.number in
    let end = c.div_ceil-number-end.result in
    let used = c.args.used.now in
    let h = c.args.header.now in
    let m : GroupMap = record { header = h; number = n; bytes = c.unit.new.out; used = used } in
    let same = group-here h x used c.unit.new.out n (c.requires.header x tells)
    (some_at (g.U.UnitSource.image c.loop-number.units) (λ file. c.unit.new.out ≡ unit_bytes file (512 * n + 1)) x
    (c.loop-number.invariant.image ∙ tells) c.in_ok-unit.ensures.bytes) in
    let next : groups_in x used n (end - n) ≡ faults_of m ++ groups_in x used (n + 1) (end - (n + 1)) =
    groups_in-next x used n end c.loop-number-test.true
    ∙ ap (λ k. faults_of k ++ groups_in x used (n + 1) (end - (n + 1))) same in
    let so = subst (λ (xs : List Fault). Reached (g.F.FaultSink.listed c.args.sink.now)
    (g.F.FaultSink.listed c.loop-number.sink) xs (map_faults x (in_use used)) c.loop-number.maps.faults) next
    (c.loop-number.invariant.told x tells) in
    let old = g.F.FaultSink.listed c.args.sink.now in
    let now = g.F.FaultSink.listed c.tell_all.new.sink in
    let p = err_from_is_err_and c.from_residual-in_err-told.result c.from_residual-in_err-told.ensures.1 in
    Grew-err old now _ c.from_residual-in_err-told.result p.0 p.1
    (IsCut-more old (g.F.FaultSink.listed c.loop-number.sink) now (faults_of m) _ _ c.loop-number.maps.faults so
    c.in_err-told.ensures.told.faults.some)

pub returns-clause-told : goal.returns-clause-told
returns-clause-told g c x tells =
    Grew-ok _ _ _ c.loop-number.maps
    (counted-end _ _ _ _ c.loop-number.maps.faults (c.loop-number.invariant.told x tells)
    (groups_in-end x c.args.used.now c.loop-number.number c.div_ceil-number-end.result c.loop-number-test.false)).0

pub returns-clause-count : goal.returns-clause-count
returns-clause-count g c x tells =
    (counted-end _ _ _ _ c.loop-number.maps.faults (c.loop-number.invariant.told x tells)
    (groups_in-end x c.args.used.now c.loop-number.number c.div_ceil-number-end.result c.loop-number-test.false)).1

pub returns-clause-free : goal.returns-clause-free
returns-clause-free g c x tells =
    let n : c.loop-number.number ≡ c.div_ceil-number-end.result =
    omega (arith, c.loop-number-test.false, c.loop-number.auto.number-end) in
    c.loop-number.invariant.free x tells
    ∙ free_before-all x c.loop-number.number
    (groups-is c.args.header.now x c.loop-number.number (c.requires.header x tells)
    (n ∙ c.div_ceil-number-end.ensures))
