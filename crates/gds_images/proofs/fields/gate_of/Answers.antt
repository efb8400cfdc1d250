use Rattle.std.proofs.Common.{◌+◌, length, ap, arith, sym, ◌∙◌}
use Rattle.std.proofs.lemmas.Bool.{eqb-false}
use Rattle.gds_images.specs.Reading.{read_on}
use Rattle.gds_images.proofs.FrontLemmas.{gate_opened, gate_shut, gate_size_missing}
use Rattle.gds_images.proofs.fields.gate_of.Goals as goal

pub returns-then-front-eq0-clause-gate : goal.returns-then-front-eq0-clause-gate
returns-then-front-eq0-clause-gate c file epoch images within is =
    let some = eqb-false (length c.args.front.now) 0 (sym c.is_empty.ensures ∙ c.if-is_empty.false) in
    gate_shut file c.args.front.now c.args.gate epoch images c.requires.some within is (omega arith) c.if-front-eq0.true

pub returns-then-front-lt-GATE_LENGTH-clause-gate : goal.returns-then-front-lt-GATE_LENGTH-clause-gate
returns-then-front-lt-GATE_LENGTH-clause-gate c file epoch images within is =
    let some = eqb-false (length c.args.front.now) 0 (sym c.is_empty.ensures ∙ c.if-is_empty.false) in
    gate_size_missing file c.args.front.now c.args.gate epoch images c.requires.some within is (omega arith)
    c.if-front-eq0.false c.if-front-lt-GATE_LENGTH.true

pub returns-clause-gate : goal.returns-clause-gate
returns-clause-gate c file epoch images within is =
    gate_opened file c.args.front.now c.args.gate epoch images c.requires.some within is c.if-front-eq0.false
    c.if-front-lt-GATE_LENGTH.false
    ∙ ap (read_on file epoch images (c.args.gate + 9)) (sym c.u64_at.ensures)
