use Rattle.std.proofs.Common.{arith}
use Rattle.std.specs.Range.Bound.{bound_map}
use Rattle.gds_find.specs.Fork.{front_of}
use Rattle.gds_find.proofs.StartLemmas.{first_taken, front_same, none_there, some_there}
use Rattle.gds_find.proofs.forking.take_from.Goals as goal

pub returns-then-start-used : goal.returns-then-start-used
returns-then-start-used g c es is_key packed used =
    none_there es (bound_map (λ key. key.now) c.args.from) c.in-Some.start (c.in-Some.ensures 0 es is_key packed)
    (omega (arith, used, c.if-start-used.true))

pub returns-in_default-record_at : goal.returns-in_default-record_at
returns-in_default-record_at g c es is_key packed used =
    let from = bound_map (λ key. key.now) c.args.from in
    let at = some_there es from c.in-Some.start (c.in-Some.ensures 0 es is_key packed)
    (omega (arith, used, c.if-start-used.false)) in
    c.in_default-record_at.ensures 0 es at.0 at.2 at.1 packed at.3.parts at.3.offset_is
    (front_same at.0 at.1 at.2 (front_of from) c.front_of.result.now c.front_of.ensures at.3.shares)

pub returns : goal.returns
returns g c es is_key packed used =
    let from = bound_map (λ key. key.now) c.args.from in
    let at = some_there es from c.in-Some.start (c.in-Some.ensures 0 es is_key packed)
    (omega (arith, used, c.if-start-used.false)) in
    let found = c.in-Some-record_at.ensures 0 es at.0 at.2 at.1 packed at.3.parts at.3.offset_is
    (front_same at.0 at.1 at.2 (front_of from) c.front_of.result.now c.front_of.ensures at.3.shares) in
    first_taken es from c.in-Some.start at.0 at.1 at.2 at.3 _ _ packed used found.2 _ found.0 found.1
    c.in_ok-take.ensures
