use Rattle.std.proofs.Common.{◌+◌, ◌*◌, ◌∙◌, arith, rules}
use Rattle.gds_new.specs.NewDatabase.{byte_of_states, first_state}
use Rattle.gds_create.proofs.BlockLemmas.{all_pairs, filled_more, same_pairs}
use Rattle.gds_create.proofs.first.first_pairs.Goals as goal

pub loop-i-preserved : goal.loop-i-preserved
loop-i-preserved c =
    let len = c.loop-i.invariant.len in
    let h = c.args.header.now in
    let group = c.args.group in
    record {
      len = search rules;
      right = filled_more (λ i. byte_of_states (λ j. first_state h (512 * group + (4 * i + j)))) c.loop-i.pairs
          c.loop-i.i c.pairs_byte.result (omega arith)
          (c.pairs_byte.ensures ∙ same_pairs (first_state h) (512 * group) (4 * c.loop-i.i))
          c.loop-i.invariant.right;
    }

pub returns : goal.returns
returns c =
    let test = c.loop-i-test.false in
    all_pairs c.args.header.now c.args.group c.loop-i.i c.loop-i.pairs (omega (arith, c.loop-i.auto.i-end))
    c.loop-i.invariant.len c.loop-i.invariant.right
