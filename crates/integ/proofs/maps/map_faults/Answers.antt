use Rattle.std.proofs.Common.{[], ◌∷◌, ◌++◌, refl, sym, ap}
use Rattle.std.proofs.lemmas.Result.{err_from_is_err_and}
use Rattle.gds_law.specs.Maps.{map_faults, count_faults, fault_of}
use Rattle.gds_law.specs.declared.kind.FaultKind.TheVariants.{WrongFreeCount}
use Rattle.gds_law.proofs.SinkLemmas.{IsCut-none, IsCut-front, IsCut-behind, Grew-err}
use Rattle.integ.specs.GroupMap.{in_use}
use Rattle.integ.proofs.MapLemmas.{count-wrong}
use Rattle.integ.proofs.maps.map_faults.Goals as goal

pub returns-in_err-block-clause-told : goal.returns-in_err-block-clause-told
returns-in_err-block-clause-told g c x tells =
    let p = err_from_is_err_and c.from_residual.result c.from_residual.ensures.1 in
    Grew-err _ _ _ c.from_residual.result p.0 p.1 (IsCut-none _ _)

pub returns-in_err-told-clause-told : goal.returns-in_err-told-clause-told
returns-in_err-told-clause-told g c x tells =
    let p = err_from_is_err_and c.from_residual-in_err-told.result c.from_residual-in_err-told.ensures.1 in
    Grew-err _ _ _ c.from_residual-in_err-told.result p.0 p.1
    (IsCut-front (g.F.FaultSink.listed c.args.sink.now) (g.F.FaultSink.listed c.tell_maps.new.sink)
    (map_faults x (in_use c.args.used.now)) (count_faults x) _ refl
    (c.in_err-told.ensures.told x tells).some)

pub returns-in_err-tell-clause-told : goal.returns-in_err-tell-clause-told
returns-in_err-tell-clause-told g c x tells =
    let p = err_from_is_err_and c.from_residual-in_err-tell.result c.from_residual-in_err-tell.ensures.1 in
    Grew-err _ _ _ c.from_residual-in_err-tell.result p.0 p.1
    (IsCut-behind (g.F.FaultSink.listed c.args.sink.now) (g.F.FaultSink.listed c.tell_maps.new.sink)
    (g.F.FaultSink.listed c.tell.new.sink) (map_faults x (in_use c.args.used.now))
    (fault_of 0 WrongFreeCount ∷ []) _
    (c.in_ok-told.ensures.told x tells).all
    (ap (λ xs. map_faults x (in_use c.args.used.now) ++ xs)
    (sym (count-wrong c.args.header.now x c.in_ok-told.told.free (c.requires.header x tells)
    (c.in_ok-told.ensures.free x tells) c.if-told-header.false)))
    c.in_err-tell.ensures.faults.some)
