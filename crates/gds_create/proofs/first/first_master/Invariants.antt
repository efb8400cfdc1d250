use Rattle.std.proofs.Common.{◌≡◌, ◌+◌, ◌*◌, length, map, take}
use Rattle.std.specs.List.{range_with_len}
use Rattle.gds_new.specs.NewDatabase.{byte_of_bits, group_starts_free}
use Rattle.gds_create.proofs.first.first_master.Given as goal

-- the bytes up to here are right
abbrev pub invariant-loop-i : goal.invariant-loop-i
invariant-loop-i l = record {
  len : length l.master ≡ 256;
  right : take l.i l.master
      ≡ map (λ i. byte_of_bits (λ j. group_starts_free l.header (8 * i + j))) (range_with_len 0 l.i);
}
