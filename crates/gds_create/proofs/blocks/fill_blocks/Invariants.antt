use Rattle.std.proofs.Common.{◌≡◌, ◌*◌, take}
use Rattle.gds_create.specs.Blocks.{new_blocks}
use Rattle.gds_create.proofs.blocks.fill_blocks.Given as goal

-- the blocks up to here are in their places
abbrev pub invariant-loop-i : goal.invariant-loop-i
invariant-loop-i l = take (l.i * l.size) l.out ≡ new_blocks l.header l.first l.i
