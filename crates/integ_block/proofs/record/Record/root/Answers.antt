use Rattle.std.proofs.Common.{length, ap, arith, length-take}
use Rattle.std.specs.Prelude.{◌==◌, not}
use Rattle.std.specs.List.{prefix_len}
use Rattle.integ_block.proofs.record.Record.root.Goals as goal

-- A key's name is no longer than the key.
pub key_from-requires : goal.key_from-requires
key_from-requires c =
    let key = c.as_slice.result.now in
    omega (
      arith,
      c.as_slice.ensures.fits,
      ap length c.name_part.ensures,
      length-take (prefix_len (λ b. not (b == 0)) key) key,
    )
