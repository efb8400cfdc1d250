use Rattle.std.proofs.Common.{◌≤◌, ap, ◌∙◌, arith}
use Rattle.gds_law.proofs.KeptLemmas.{some_kept, some_reached}
use Rattle.gds_law.proofs.SinkLemmas.{OnErr-any}
use Rattle.integ_walk.specs.BlockSet.{has_block}
use Rattle.integ_walk.specs.Frame.{state_of}
use Rattle.std.proofs.Math.Nat.{mul-le-mul}
use Rattle.integ_walk.specs.Walker.{most_of_block}
use Rattle.integ_walk.proofs.StateLemmas.{on_end}
use Rattle.integ_walk.proofs.walk.Goals as goal

pub returns-in_err-begin-clause-refused : goal.returns-in_err-begin-clause-refused
returns-in_err-begin-clause-refused g c x tells =
    OnErr-any c.from_residual-in_err-begin.result _
    (λ kept reached ak ar. (c.in_err-begin.ensures.on x tells kept reached ak ar).1)

pub returns-in_err-step-clause-refused : goal.returns-in_err-step-clause-refused
returns-in_err-step-clause-refused g c x tells =
    OnErr-any c.from_residual-in_err-step.result _ (λ kept reached ak ar.
    (c.in_err-step.ensures.on x (c.loop-walker.invariant.image
    ∙ tells) kept reached (g.F.FaultSink.listed c.args.sink.now) ak ar
    (c.loop-walker.invariant.on x tells kept reached ak ar)).1)

pub loop-walker-preserved : goal.loop-walker-preserved
loop-walker-preserved g c =
    record {
      state = c.in_ok-step.ensures.state;
      buffer = omega (
        arith,
        c.in_ok-step.ensures.buffer,
        c.loop-walker.invariant.buffer,
      );
      on = λ x tells kept reached ak ar.
          (c.in_ok-step.ensures.on x (c.loop-walker.invariant.image
          ∙ tells) kept reached (g.F.FaultSink.listed c.args.sink.now) ak ar
          (c.loop-walker.invariant.on x tells kept reached ak ar)).0;
      image = c.in_ok-step.ensures.cause.image ∙ c.loop-walker.invariant.image;
      read = omega (arith, c.in_ok-step.ensures.cause.read, c.loop-walker.invariant.read);
      source = g.met.U.UnitSource.read_on _ _ _ c.loop-walker.invariant.source c.in_ok-step.ensures.source;
      say = omega (arith, c.in_ok-step.ensures.cause.say, c.loop-walker.invariant.say);
    }

-- The lists of kept and reached paths are there by law.
pub returns-clause-walked : goal.returns-clause-walked
returns-clause-walked g c x tells =
    let kept = some_kept x in
    let reached = some_reached x kept.0 in
    let start = g.F.FaultSink.listed c.args.sink.now in
    let now = g.F.FaultSink.listed c.step.new.sink in
    let on = (c.in_ok-step.ensures.on x (c.loop-walker.invariant.image ∙ tells) kept.0 reached.0 start kept.1 reached.1
    (c.loop-walker.invariant.on x tells kept.0 reached.0 kept.1 reached.1)).0 in
    let end = on_end x kept.0 reached.0 kept.1 reached.1 start now (state_of c.args.header.now c.step.new.self)
    (c.in_ok-step.ensures.end c.if-branch.false) on in
    record {
      kept = kept.0;
      reached = reached.0;
      are_kept = kept.1;
      are_reached = reached.1;
      faults = end.0;
      counted = c.into_seen.ensures.faults ∙ end.1;
      blocks = λ b low. ap (λ bytes. has_block bytes b) c.into_seen.ensures.used ∙ end.2 b;
    }

pub returns-clause-few : goal.returns-clause-few
returns-clause-few g c =
    let state = c.in_ok-step.ensures.state in
    let size : most_of_block (state_of c.args.header.now c.step.new.self).header ≤ 1495561 =
    omega (arith, state.limits.block_to) in
    let blocks : (state_of c.args.header.now c.step.new.self).header.total ≤ 1048576 =
    omega (arith, state.limits.total_to, state.limits.limit_to) in
    let most = mul-le-mul blocks size in
    omega (arith, c.into_seen.ensures.faults, state.few, most)
