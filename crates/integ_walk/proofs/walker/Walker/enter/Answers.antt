use Rattle.std.proofs.Common.{◌≡◌, ◌++◌, length, ◌∙◌, ap, arith}
use Rattle.std.proofs.lemmas.Result.{err_from_is_err_and}
use Rattle.gds_header.specs.declared.header.Header.{Header}
use Rattle.gds_header.specs.Fields.{block_of}
use Rattle.gds_law.specs.Block.{faults_of_block}
use Rattle.gds_law.specs.Visit.{visit_of}
use Rattle.gds_law.proofs.SinkLemmas.{IsCut-none, IsCut-all, Grew-err}
use Rattle.integ_walk.specs.declared.walker.Walker.{Walker}
use Rattle.integ_walk.proofs.ChildLemmas.{faults_few}
use Rattle.integ_walk.proofs.UnitLemmas.{is_unit}
use Rattle.integ_walk.proofs.walker.Walker.enter.Goals as goal

pub read-requires-clause-unit : goal.read-requires-clause-unit
read-requires-clause-unit g c x tells =
    let head = c.requires.header x tells in
    is_unit x c.args.at.visit.block (length c.args.self.now.block.items) head.readable
    (omega (arith, c.requires.within, ap (λ (h : Header). h.total) head.same))
    (omega (arith, c.requires.buffer, ap (λ (h : Header). h.block_size) head.same))

pub returns-in_err-read-clause-told : goal.returns-in_err-read-clause-told
returns-in_err-read-clause-told g c x tells =
    let p = err_from_is_err_and c.from_residual.result c.from_residual.ensures.1 in
    Grew-err _ _ _ c.from_residual.result p.0 p.1 (IsCut-none _ _)

pub overflow_add-self : goal.overflow_add-self
overflow_add-self g c =
    let bytes = c.deref.result.now in
    let few = faults_few c.args.header.now c.args.at.path (visit_of c.args.at.visit) bytes in
    let faults : c.read.new.self.faults ≡ c.args.self.now.faults =
    ap (λ (w : Walker). w.faults) c.in_ok-read.ensures.others in
    let size : length bytes ≡ c.args.header.now.block_size =
    omega (
      arith,
      c.deref.ensures.len,
      c.in_ok-read.ensures.buffer,
      c.requires.buffer,
      ap length c.deref.ensures.value,
    ) in
    omega (arith, few, faults, size, c.in_ok-self.ensures.count, c.requires.fits)

pub returns-in_err-push-clause-told : goal.returns-in_err-push-clause-told
returns-in_err-push-clause-told g c x tells =
    let p = err_from_is_err_and c.from_residual-in_err-push.result c.from_residual-in_err-push.ensures.1 in
    let bytes : c.deref.result.now ≡ block_of x c.args.at.visit.block = c.deref.ensures.value
    ∙ c.in_ok-read.ensures.bytes x tells in
    Grew-err _ _ _ c.from_residual-in_err-push.result p.0 p.1
    (IsCut-all _ _ _ (c.in_ok-self.ensures.told.faults.all
    ∙ (λ i. g.F.FaultSink.listed c.args.sink.now
    ++ faults_of_block c.args.header.now c.args.at.path (visit_of c.args.at.visit) (bytes i))))
