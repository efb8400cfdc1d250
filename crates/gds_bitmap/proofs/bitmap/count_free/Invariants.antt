use Rattle.std.proofs.Common.{◌≡◌, ◌*◌}
use Rattle.gds_bitmap.specs.Pairs.{count_below}
use Rattle.gds_bitmap.specs.Bitmap.{is_free_at}
use Rattle.gds_bitmap.proofs.bitmap.count_free.Given as goal

-- the blocks of the bytes so far are counted
abbrev pub invariant-loop-byte : goal.invariant-loop-byte
invariant-loop-byte l = l.count ≡ count_below (is_free_at l.map) (4 * l.byte-index)
