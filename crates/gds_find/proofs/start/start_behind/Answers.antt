use Rattle.std.proofs.Common.{rules, sym}
use Rattle.std.proofs.lemmas.Bool.{not-false, not-true}
use Rattle.gds_search.specs.Place.{IsPlace}
use Rattle.gds_search.proofs.ReadingLemmas.{entry_stands}
use Rattle.gds_find.proofs.RecordLemmas.{end_at}
use Rattle.gds_find.proofs.StartLemmas.{has_key, start_above, start_behind}
use Rattle.gds_find.proofs.start.start_behind.Goals as goal

pub returns-then-not-place : goal.returns-then-not-place
returns-then-not-place c height es is_key packed =
    let place : IsPlace es c.args.key.now c.in_ok-place.place = search rules in
    start_above es c.args.key.now c.in_ok-place.place place (not-true c.in_ok-place.place.is_equal c.if-not-place.true)

pub returns-in_err-record : goal.returns-in_err-record
returns-in_err-record c height es is_key packed =
    let place : IsPlace es c.args.key.now c.in_ok-place.place = search rules in
    let has = has_key es c.args.key.now c.in_ok-place.place place
    (not-false c.in_ok-place.place.is_equal c.if-not-place.false) in
    absurd (c.in_err-record.ensures.found _ packed.is_block
    (entry_stands c.args.bytes.now height es has.before has.behind has.own packed has.parts) has.offset_is)

pub returns : goal.returns
returns c height es is_key packed =
    let place : IsPlace es c.args.key.now c.in_ok-place.place = search rules in
    let has = has_key es c.args.key.now c.in_ok-place.place place
    (not-false c.in_ok-place.place.is_equal c.if-not-place.false) in
    let x = c.in_ok-record.ensures.found _ packed.is_block
    (entry_stands c.args.bytes.now height es has.before has.behind has.own packed has.parts) has.offset_is in
    start_behind es c.args.key.now c.in_ok-place.place height _ is_key packed.packable has
    (sym (end_at has.before has.own c.in_ok-place.place.offset c.in_ok-record.record.body.now has.offset_is x.1))
