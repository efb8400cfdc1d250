use Rattle.std.proofs.Common.{◌*◌}
use Rattle.gds_bitmap.specs.Bitmap.{NoneFree}
use Rattle.gds_bitmap.proofs.bitmap.first_free.Given as goal

-- no block of the bytes so far is free
abbrev pub invariant-loop-place : goal.invariant-loop-place
invariant-loop-place l = NoneFree l.map (4 * l.place)
