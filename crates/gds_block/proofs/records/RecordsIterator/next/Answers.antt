use Rattle.std.proofs.Common.{length, ap, rules, arith}
use Rattle.std.proofs.lemmas.Slice.{between_to_end}
use Rattle.gds_block.proofs.RecordLemmas.{records_from-first}
use Rattle.gds_block.proofs.records.RecordsIterator.next.Goals as goal

pub returns-clause-steps : goal.returns-clause-steps
returns-clause-steps c =
    let fields = c.self.inside in
    let well = c.in_ok-size.ensures in
    cc (
      records_from-first fields.level fields.offset fields.left.now well.0,
      between_to_end c.split_at.result.0.now 4 (length c.split_at.result.0.now) (omega arith),
    )

pub returns-clause-goes : goal.returns-clause-goes
returns-clause-goes c =
    let steps = ap length (returns-clause-steps c) in
    search rules
