use Rattle.std.proofs.Common.{◌+◌, ◌*◌, arith, rules}
use Rattle.gds_new.specs.NewDatabase.{byte_of_bits, group_starts_free}
use Rattle.gds_create.proofs.BlockLemmas.{all_master, filled_more}
use Rattle.gds_create.proofs.first.first_master.Goals as goal

pub loop-i-preserved : goal.loop-i-preserved
loop-i-preserved c =
    let len = c.loop-i.invariant.len in
    record {
      len = search rules;
      right = filled_more (λ i. byte_of_bits (λ j. group_starts_free c.args.header.now (8 * i + j))) c.loop-i.master
          c.loop-i.i c.master_byte.result (omega arith) c.master_byte.ensures c.loop-i.invariant.right;
    }

pub returns : goal.returns
returns c =
    let test = c.loop-i-test.false in
    all_master c.args.header.now c.loop-i.i c.loop-i.master (omega (arith, c.loop-i.auto.i-end))
    c.loop-i.invariant.len c.loop-i.invariant.right
