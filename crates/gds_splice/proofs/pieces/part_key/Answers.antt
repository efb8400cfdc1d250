use Rattle.std.proofs.Common.{◌-◌, ◌∙◌, [], ap, sym, arith}
use Rattle.gds_pack.specs.Entry.{items}
use Rattle.gds_pack.specs.declared.entry.Entry.{Entry}
use Rattle.gds_splice.proofs.CuttingLemmas.{last_key, last_starred, own_index, parting_index}
use Rattle.gds_splice.proofs.pieces.part_key.Goals as goal

pub returns-clause-key : goal.returns-clause-key
returns-clause-key c =
    let run = c.args.run.now.items in
    c.key_from-key.ensures ∙ c.as_slice-2.ensures.value
    ∙ sym (last_key run (c.len-last.result - 1) c.index.result.now [] (omega arith) c.index.ensures)
    ∙ sym (parting_index c.args.level (items run) (items c.args.behind.now) c.if-level-eq0.false)

pub returns-clause-own : goal.returns-clause-own
returns-clause-own c =
    let run = c.args.run.now.items in
    let old : Entry = c.index_mut.result.now in
    last_starred run (c.len-last.result - 1) old (record { key = c.new.result; rest = old.rest }) (omega arith)
    c.index_mut.ensures.value (ap (λ k. record { key = k; rest = old.rest.items }) c.new.ensures)
    ∙ sym (own_index c.args.level (items run) c.if-level-eq0.false)
