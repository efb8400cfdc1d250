use Rattle.std.proofs.Common.{◌≡◌, ◌+◌, List, [], ◌∷◌, get_or, drop, sym, ◌∙◌, ap, subst, arith}
use Rattle.std.specs.Prelude.{filter}
use Rattle.std.proofs.lemmas.Result.{err_from_is_err_and}
use Rattle.gds_law.specs.Record.{holds}
use Rattle.gds_law.specs.declared.kind.FaultKind.{FaultKind}
use Rattle.gds_law.specs.declared.kind.FaultKind.TheVariants.{ShortHeader}
use Rattle.gds_law.specs.declared.sink.SinkTrouble.TheVariants.{Failed}
use Rattle.gds_law.proofs.SinkLemmas.{Reached, Reached-more, WasTold-refused}
use Rattle.integ_block.specs.BlockReading.{reading, faults_at}
use Rattle.integ_block.specs.Entry.{seen}
use Rattle.integ_block.proofs.KindLemmas.{found-yes, found-not}
use Rattle.integ_block.proofs.entry.Entry.tell.Goals as goal
use Rattle.integ_block.proofs.entry.Entry.tell.Goals.{then-holds+in_ok-tell, else-holds}

pub loop-kind-preserved : goal.loop-kind-preserved
loop-kind-preserved g c =
    let e = c.args.self.now in
    let b = reading e.record.reading in
    let path = e.record.reading.at.now.path in
    let offset = e.record.view.offset in
    let test = holds b (seen e.record) in
    let kinds = c.args.kinds.now in
    let i = c.loop-kind.kind-index in
    let told = g.F.FaultSink.listed in
    let whole = faults_at b path offset (filter test kinds) in
    let so : (ks : List FaultKind) → filter test (drop i kinds) ≡ ks
    → Reached (told c.args.sink.now) (told c.loop-kind.sink) (faults_at b path offset ks) whole c.loop-kind.count =
    λ (ks : List FaultKind) (e : filter test (drop i kinds)
    ≡ ks). subst (λ (ks : List FaultKind). Reached (told c.args.sink.now) (told c.loop-kind.sink)
    (faults_at b path offset ks) whole c.loop-kind.count) e c.loop-kind.invariant.told in
    elim c.if-holds.branch [
      | then-holds+in_ok-tell w ↦
          let e = found-yes test kinds i ShortHeader c.loop-kind-test.true (sym c.holds.ensures ∙ w.if-holds.true) in
          record {
            told = Reached-more _ (told c.loop-kind.sink) _ (faults_at b path offset (get_or kinds i ShortHeader ∷ []))
                _ whole c.loop-kind.count _ (so _ e) (ap told w.sink-is ∙ w.in_ok-tell.ensures.faults.all) w.count-is;
            few = omega arith;
            failures = omega (arith, w.in_ok-tell.ensures.failures, ap g.F.FaultSink.failures w.sink-is);
          }
      | else-holds w ↦
          let e = found-not test kinds i ShortHeader c.loop-kind-test.true (sym c.holds.ensures ∙ w.if-holds.false) in
          record {
            told = rw (w.sink-is, w.count-is) (so _ e);
            few = omega arith;
            failures = omega (arith, ap g.F.FaultSink.failures w.sink-is);
          }
    ]

pub returns-in_err-tell-clause-told : goal.returns-in_err-tell-clause-told
returns-in_err-tell-clause-told g c =
    let e = c.args.self.now in
    let b = reading e.record.reading in
    let path = e.record.reading.at.now.path in
    let offset = e.record.view.offset in
    let test = holds b (seen e.record) in
    let kinds = c.args.kinds.now in
    let i = c.loop-kind.kind-index in
    let told = g.F.FaultSink.listed in
    let whole = faults_at b path offset (filter test kinds) in
    let first = found-yes test kinds i ShortHeader c.loop-kind-test.true (sym c.holds.ensures ∙ c.if-holds.true) in
    let p = err_from_is_err_and c.from_residual.result c.from_residual.ensures.1 in
    WasTold-refused told g.F.FaultSink.failures c.args.sink.now c.loop-kind.sink c.tell.new.sink
    (faults_at b path offset (get_or kinds i ShortHeader ∷ []))
    (faults_at b path offset (filter test (drop (i + 1) kinds))) whole c.loop-kind.count Failed _
    c.from_residual.result Failed p.0
    (subst (λ (ks : List FaultKind). Reached (told c.args.sink.now) (told c.loop-kind.sink) (faults_at b path offset ks)
    whole c.loop-kind.count) first c.loop-kind.invariant.told)
    c.loop-kind.invariant.failures c.in_err-tell.ensures p.1 (λ e. sym p.2 ∙ e)
