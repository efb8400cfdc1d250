use Rattle.std.proofs.Common.{◌≡◌, false, List, [], ◌∷◌, get_or, drop, sym, ◌∙◌, ap, subst, refl, arith}
use Rattle.std.specs.List.{list_any}
use Rattle.gds_law.specs.Block.{head_holds}
use Rattle.gds_law.specs.Kinds.{ends}
use Rattle.gds_law.specs.declared.kind.FaultKind.{FaultKind}
use Rattle.gds_law.specs.declared.kind.FaultKind.TheVariants.{ShortHeader}
use Rattle.integ_block.specs.BlockReading.{reading, faults_at}
use Rattle.std.proofs.lemmas.Result.{err_from_is_err_and}
use Rattle.gds_law.specs.declared.sink.SinkTrouble.TheVariants.{Failed}
use Rattle.gds_law.proofs.SinkLemmas.{Reached, Reached-more, WasTold-refused}
use Rattle.integ_block.proofs.KindLemmas.{kept, left-not, left-yes, left-first}
use Rattle.integ_block.proofs.reading.BlockReading.tell_head.Goals as goal
use Rattle.integ_block.proofs.reading.BlockReading.tell_head.Goals.{then-head_holds+in_ok-tell+else-ends}
use Rattle.integ_block.proofs.reading.BlockReading.tell_head.Goals.{else-head_holds}

pub loop-kind-preserved : goal.loop-kind-preserved
loop-kind-preserved g c =
    let b = reading c.args.self.now in
    let path = c.args.self.now.at.now.path in
    let test = head_holds b c.args.bytes.now in
    let kinds = c.args.kinds.now in
    let i = c.loop-kind.kind-index in
    let k = get_or kinds i ShortHeader in
    let told = g.F.FaultSink.listed in
    let whole = faults_at b path 0 (kept ends test kinds) in
    let inv = c.loop-kind.invariant in
    let within = c.loop-kind-test.true in
    let so : (ks : List FaultKind) → kept ends test (drop i kinds) ≡ ks
    → Reached (told c.args.sink.now) (told c.loop-kind.sink) (faults_at b path 0 ks) whole c.loop-kind.count =
    λ (ks : List FaultKind) (e : kept ends test (drop i kinds)
    ≡ ks). subst (λ (ks : List FaultKind). Reached (told c.args.sink.now) (told c.loop-kind.sink)
    (faults_at b path 0 ks) whole c.loop-kind.count) e inv.told in
    elim c.if-head_holds.branch [
      | then-head_holds+in_ok-tell+else-ends w ↦
          let open_still : ends k ≡ false = sym w.ends.ensures ∙ w.if-ends.false in
          let e = left-yes ends test kinds i ShortHeader within (sym c.head_holds.ensures
          ∙ w.if-head_holds.true) open_still in
          record {
            told = Reached-more _ (told c.loop-kind.sink) _ (faults_at b path 0 (k ∷ [])) _ whole c.loop-kind.count _
                (so _ e) (ap told w.sink-is ∙ w.in_ok-tell.ensures.faults.all) w.count-is;
            any = sym (ap (list_any ends) e ∙ rw open_still refl) ∙ inv.any;
            few = omega arith;
            failures = omega (arith, w.in_ok-tell.ensures.failures, ap g.F.FaultSink.failures w.sink-is);
          }
      | else-head_holds w ↦
          let e = left-not ends test kinds i ShortHeader within (sym c.head_holds.ensures ∙ w.if-head_holds.false) in
          record {
            told = rw (w.sink-is, w.count-is) (so _ e);
            any = sym (ap (list_any ends) e) ∙ inv.any;
            few = omega arith;
            failures = omega (arith, ap g.F.FaultSink.failures w.sink-is);
          }
    ]

pub returns-in_err-tell-clause-told : goal.returns-in_err-tell-clause-told
returns-in_err-tell-clause-told g c =
    let b = reading c.args.self.now in
    let path = c.args.self.now.at.now.path in
    let test = head_holds b c.args.bytes.now in
    let kinds = c.args.kinds.now in
    let i = c.loop-kind.kind-index in
    let told = g.F.FaultSink.listed in
    let whole = faults_at b path 0 (kept ends test kinds) in
    let first =
    left-first ends test kinds i ShortHeader c.loop-kind-test.true (sym c.head_holds.ensures
    ∙ c.if-head_holds.true) in
    let p = err_from_is_err_and c.from_residual.result c.from_residual.ensures.1 in
    WasTold-refused told g.F.FaultSink.failures c.args.sink.now c.loop-kind.sink c.tell.new.sink
    (faults_at b path 0 (get_or kinds i ShortHeader ∷ [])) (faults_at b path 0 first.0) whole c.loop-kind.count Failed _
    c.from_residual.result Failed p.0
    (subst (λ (ks : List FaultKind). Reached (told c.args.sink.now) (told c.loop-kind.sink) (faults_at b path 0 ks)
    whole c.loop-kind.count) first.1 c.loop-kind.invariant.told)
    c.loop-kind.invariant.failures c.in_err-tell.ensures p.1 (λ e. sym p.2 ∙ e)
