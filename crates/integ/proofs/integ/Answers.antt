use Rattle.std.proofs.Common.{[], ◌∷◌, ◌++◌, refl, sym, ◌∙◌, ap, subst}
use Rattle.gds_law.specs.Maps.{fault_of}
use Rattle.gds_law.specs.Sink.{IsCut}
use Rattle.gds_law.specs.declared.kind.FaultKind.{FaultKind}
use Rattle.gds_law.proofs.SinkLemmas.{OnErr-any}
use Rattle.integ.proofs.IntegLemmas.{ending-told, ending-refused, none-told, one-map}
use Rattle.integ.proofs.integ.Goals as goal

pub returns-in_err-opened-clause-refused : goal.returns-in_err-opened-clause-refused
returns-in_err-opened-clause-refused g c x tells =
    OnErr-any c.from_residual.result _ (none-told x (g.F.FaultSink.listed c.args.sink.now))

pub tell_open-requires-clause-opens : goal.tell_open-requires-clause-opens
tell_open-requires-clause-opens g c x tells =
    rw c.in-Ok.is at (c.in_ok-opened.ensures.opens x (sym c.in_ok-opened.ensures.image ∙ tells))

pub returns-in_err-tell-in-Err-clause-refused : goal.returns-in_err-tell-in-Err-clause-refused
returns-in_err-tell-in-Err-clause-refused g c x tells =
    let old = g.F.FaultSink.listed c.args.sink.now in
    let new = g.F.FaultSink.listed c.tell.new.sink in
    OnErr-any c.from_residual-in_err-tell-in-Err.result _
    (ending-refused x c.in-Err.kind (rw c.in-Err.is at (c.in_ok-opened.ensures.opens x tells)) old new
    (subst (λ (k : FaultKind). IsCut old new (fault_of 0 k ∷ [])) c.from.ensures
    c.in_err-tell-in-Err.ensures.faults.some))

pub returns-in_ok-tell-in-Err-clause-told : goal.returns-in_ok-tell-in-Err-clause-told
returns-in_ok-tell-in-Err-clause-told g c x tells =
    let old = g.F.FaultSink.listed c.args.sink.now in
    ending-told x c.in-Err.kind (rw c.in-Err.is at (c.in_ok-opened.ensures.opens x tells)) old
    (g.F.FaultSink.listed c.tell.new.sink)
    (c.in_ok-tell-in-Err.ensures.faults.all ∙ ap (λ k. old ++ fault_of 0 k ∷ []) c.from.ensures)

pub returns-in-Ok-clause-one_map : goal.returns-in-Ok-clause-one_map
returns-in-Ok-clause-one_map g c is x tells =
    one-map x _ _ 0 (c.in_ok-opened.ensures.are_bytes x tells)
    (rw is at (c.tell_open.ensures.told x (c.in_ok-opened.ensures.image ∙ tells))) refl
