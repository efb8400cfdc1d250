use Rattle.std.proofs.Common.{rules, ◌∙◌, ap, arith}
use Rattle.gds_block.specs.Block.{level_of}
use Rattle.gds_search.specs.Place.{IsPlace}
use Rattle.gds_find.proofs.TurningLemmas.{child_within, has_child, no_child, some_child}
use Rattle.gds_find.proofs.turning.turn_in.Goals as goal

pub returns-in_err-child-clause-turn : goal.returns-in_err-child-clause-turn
returns-in_err-child-clause-turn c height es is_key due packed =
    let place : IsPlace es c.args.key.now c.in_ok-place.place = search rules in
    let level = c.level-level.ensures ∙ ap level_of c.in_ok-view.ensures.1 in
    let found = has_child c.args.bytes.now c.args.key.now es is_key height c.in_ok-place.place c.child_at.result packed
    (λ e. c.if-level-eq0.false (level ∙ e)) place c.child_at.ensures in
    absurd (no_child es c.args.key.now c.child_at.result found c.in_err-child.was)

pub returns-then-child-bytes-clause-turn : goal.returns-then-child-bytes-clause-turn
returns-then-child-bytes-clause-turn c height es is_key due packed =
    let place : IsPlace es c.args.key.now c.in_ok-place.place = search rules in
    let level = c.level-level.ensures ∙ ap level_of c.in_ok-view.ensures.1 in
    let found = has_child c.args.bytes.now c.args.key.now es is_key height c.in_ok-place.place c.child_at.result packed
    (λ e. c.if-level-eq0.false (level ∙ e)) place c.child_at.ensures in
    let child = some_child es c.args.key.now c.child_at.result c.in_ok-child.child found c.in_ok-child.was in
    omega (
      arith,
      c.if-child-bytes.true,
      child_within c.args.bytes.now c.args.key.now es is_key height c.in_ok-child.child packed child,
    )

pub returns-clause-turn : goal.returns-clause-turn
returns-clause-turn c height es is_key due packed =
    let place : IsPlace es c.args.key.now c.in_ok-place.place = search rules in
    let level = c.level-level.ensures ∙ ap level_of c.in_ok-view.ensures.1 in
    let found = has_child c.args.bytes.now c.args.key.now es is_key height c.in_ok-place.place c.child_at.result packed
    (λ e. c.if-level-eq0.false (level ∙ e)) place c.child_at.ensures in
    let child = some_child es c.args.key.now c.child_at.result c.in_ok-child.child found c.in_ok-child.was in
    (level ∙ packed.level, omega (arith, packed.level, level, c.if-level-eq0.false), child)
