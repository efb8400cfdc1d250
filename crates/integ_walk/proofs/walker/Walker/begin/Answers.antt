use Rattle.std.proofs.Common.{◌≡◌, [], ◌++◌, sym, ap, subst, ◌∙◌, arith}
use Rattle.gds_header.specs.Fields.{block_of}
use Rattle.gds_law.specs.Block.{faults_of_block}
use Rattle.gds_law.specs.Path.{Steps}
use Rattle.gds_law.specs.Sink.{IsCut}
use Rattle.gds_law.specs.Visit.{directory_root}
use Rattle.integ_walk.specs.Frame.{state_of}
use Rattle.integ_walk.specs.Walker.{IsState, entered}
use Rattle.integ_walk.proofs.ResultLemmas.{on_ok, at_ok, at_err, either}
use Rattle.integ_walk.proofs.StateLemmas.{state_new, behind, state_entered, on_at, on_root, on_rooting}
use Rattle.integ_walk.proofs.walker.Walker.begin.Goals as goal

pub returns-clause-state : goal.returns-clause-state
returns-clause-state g c =
    let s = state_of c.args.header.now c.args.self.now in
    let used = c.insert.new.self.bytes.items in
    let bytes = c.enter.new.self.block.items in
    on_ok c.enter.result _ _ c.enter.ensures.entered (λ e.
    let first : state_of c.args.header.now c.enter.new.self ≡ behind s directory_root [] bytes used =
    e ∙ ap (λ (p : Steps). entered (record s { used = used }) directory_root p bytes) c.new-path.ensures in
    subst IsState (sym first)
    (state_entered s directory_root [] bytes used
    (state_new s c.requires.limits c.requires.room c.requires.faults c.requires.links)
    (omega (arith, c.enter.ensures.buffer, c.requires.buffer)) (omega arith) (omega (
      arith,
      c.requires.limits.total_from,
    ))
    c.insert.ensures.blocks (c.requires.none 1) c.insert.ensures.room).0)

pub returns-clause-on : goal.returns-clause-on
returns-clause-on g c x tells kept reached ak ar =
    let s = state_of c.args.header.now c.args.self.now in
    let used = c.insert.new.self.bytes.items in
    let old = g.F.FaultSink.listed c.args.sink.now in
    let new = g.F.FaultSink.listed c.enter.new.sink in
    let header = c.requires.header x tells in
    let told = c.enter.ensures.told x tells in
    let due : faults_of_block s.header c.new-path.result directory_root (block_of x 1)
    ≡ faults_of_block s.header [] directory_root (block_of x 1) =
    ap (λ (p : Steps). faults_of_block s.header p directory_root (block_of x 1)) c.new-path.ensures in
    either c.enter.result _ _
    (λ v e.
    let bytes = at_ok c.enter.result v _ e (c.enter.ensures.read x tells) in
    let state = at_ok c.enter.result v _ e c.enter.ensures.entered
    ∙ (λ i. entered (record s { used = used }) directory_root (c.new-path.ensures i) (bytes i)) in
    let listed = at_ok c.enter.result v _ e told.all ∙ ap (λ fs. old ++ fs) due in
    on_at x kept reached ak ar old _ new _ (state_of c.args.header.now c.enter.new.self) listed state
    (on_root x kept reached ak ar old s used header c.requires.none c.insert.ensures.blocks c.requires.faults
    c.requires.links))
    (λ y e. on_rooting x kept reached ak ar old s used header c.requires.none c.insert.ensures.blocks c.requires.faults
    c.requires.links new
    (subst (IsCut old new) due (at_err c.enter.result y _ e told.some)))
