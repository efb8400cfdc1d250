use Rattle.std.proofs.Common.{[], ap, sym, ◌∙◌}
use Rattle.gds_block.specs.Fields.{u64_at}
use Rattle.gds_images.specs.Reading.{read_on}
use Rattle.gds_images.proofs.FrontLemmas.{bad_label, closed_start, long_epoch, no_epoch, no_gate, no_size, open_start}
use Rattle.gds_images.proofs.fields.start_of.Goals as goal

pub returns-then-not-starts_with-clause-start : goal.returns-then-not-starts_with-clause-start
returns-then-not-starts_with-clause-start c file is =
    bad_label file c.args.front.now c.args.db_length is (sym c.starts_with.ensures.value ∙ c.if-not-starts_with.true)

pub returns-then-front-le8-clause-start : goal.returns-then-front-le8-clause-start
returns-then-front-le8-clause-start c file is =
    no_gate file c.args.front.now c.args.db_length is (sym c.starts_with.ensures.value ∙ c.if-not-starts_with.false)
    c.if-front-le8.true

pub returns-then-front-eq0-clause-start : goal.returns-then-front-eq0-clause-start
returns-then-front-eq0-clause-start c file is =
    closed_start file c.args.front.now c.args.db_length is
    (sym c.starts_with.ensures.value ∙ c.if-not-starts_with.false)
    c.if-front-le8.false c.if-front-eq0.true

pub returns-then-front-lt17-clause-start : goal.returns-then-front-lt17-clause-start
returns-then-front-lt17-clause-start c file is =
    no_size file c.args.front.now c.args.db_length is (sym c.starts_with.ensures.value ∙ c.if-not-starts_with.false)
    c.if-front-eq0.false c.if-front-le8.false c.if-front-lt17.true

pub returns-then-front-lt-START_LENGTH-clause-start : goal.returns-then-front-lt-START_LENGTH-clause-start
returns-then-front-lt-START_LENGTH-clause-start c file is =
    no_epoch file c.args.front.now c.args.db_length is (sym c.starts_with.ensures.value ∙ c.if-not-starts_with.false)
    c.if-front-eq0.false c.if-front-lt17.false c.if-front-lt-START_LENGTH.true

pub returns-then-db_length-epoch_length-clause-start : goal.returns-then-db_length-epoch_length-clause-start
returns-then-db_length-epoch_length-clause-start c file is =
    long_epoch file c.args.front.now c.args.db_length is (sym c.starts_with.ensures.value ∙ c.if-not-starts_with.false)
    c.if-front-eq0.false c.if-front-lt-START_LENGTH.false
    (let e = c.u64_at-epoch_length.ensures in let lt = c.if-db_length-epoch_length.true in rw (← e) lt)

pub returns-clause-start : goal.returns-clause-start
returns-clause-start c file is =
    let e = c.u64_at-epoch_length.ensures in
    open_start file c.args.front.now c.args.db_length is (sym c.starts_with.ensures.value ∙ c.if-not-starts_with.false)
    c.if-front-eq0.false c.if-front-lt-START_LENGTH.false (rw (← e) c.if-db_length-epoch_length.false)
    ∙ ap (λ n. read_on file n [] 25 (u64_at c.args.front.now 9)) (sym e)
    ∙ ap (read_on file c.u64_at-epoch_length.result [] 25) (sym c.u64_at.ensures)
