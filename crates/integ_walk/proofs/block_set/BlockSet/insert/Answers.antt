use Rattle.std.proofs.Common.{◌≡◌, ◌==◌, not, ap, ◌∙◌, ◌%◌, ◌/◌, arith}
use Rattle.std.specs.Prelude.{slice_index}
use Rattle.std.specs.Int.{bit_at}
use Rattle.std.proofs.lemmas.Grind.{get_or_default_zero}
use Rattle.integ_walk.proofs.BitLemmas.{is_new, one_more}
use Rattle.integ_walk.proofs.block_set.BlockSet.insert.Goals as goal

pub returns-clause-is_new : goal.returns-clause-is_new
returns-clause-is_new c =
    let bytes = c.args.self.now.bytes.items in
    let place = c.args.block / 8 in
    let read : c.index_mut-byte.result.now ≡ slice_index bytes place =
    c.index_mut-byte.ensures.value ∙ get_or_default_zero bytes place _ (omega (arith, c.requires)) in
    is_new c.index_mut-byte.result.now (c.args.block % 8) (omega arith)
    ∙ ap (λ byte. not (bit_at byte (c.args.block % 8) == 1)) read

pub returns-clause-blocks : goal.returns-clause-blocks
returns-clause-blocks c b =
    let bytes = c.args.self.now.bytes.items in
    let place = c.args.block / 8 in
    one_more bytes c.index_mut-byte.result.now c.args.block b (omega (arith, c.requires))
    (c.index_mut-byte.ensures.value ∙ get_or_default_zero bytes place _ (omega (arith, c.requires)))
