use Rattle.gds_insert.proofs.EditLemmas.{inserted, replaced}
use Rattle.gds_insert.proofs.in_place.edit.Goals as goal

pub returns-then-place : goal.returns-then-place
returns-then-place c =
    replaced c.args.bytes.now c.replace.new.block c.args.place.now c.args.key.now c.args.rest.now c.replace.result
    c.if-place.true c.replace.ensures.replaced

pub returns-else-place : goal.returns-else-place
returns-else-place c =
    inserted c.args.bytes.now c.insert.new.block c.args.place.now c.args.key.now c.args.rest.now c.insert.result
    c.if-place.false c.insert.ensures.inserted
