use Rattle.std.proofs.Common.{◌≡◌, ◌≢◌, ◌-◌, ◌<◌, ◌^◌, ℕ, [], min, take}
use Rattle.gds_pack.specs.Packed.{packed_size, key_behind}
use Rattle.gds_pack.specs.Entry.{items}
use Rattle.gds_splice.proofs.sizes.place_at.Given as goal

abbrev pub invariant-loop-i : goal.invariant-loop-i
invariant-loop-i l = record {
  size : l.size ≡ min (packed_size (items (take l.i l.entries))) (2 ^ 64 - 1);
  previous : l.previous ≡ key_behind [] (items (take l.i l.entries));
  none : (k : ℕ) → k < l.i → packed_size (items (take k l.entries)) ≢ l.offset;
}
