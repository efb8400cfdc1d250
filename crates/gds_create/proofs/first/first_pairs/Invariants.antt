use Rattle.std.proofs.Common.{◌≡◌, ◌+◌, ◌*◌, length, map, take}
use Rattle.std.specs.List.{range_with_len}
use Rattle.gds_new.specs.NewDatabase.{byte_of_states, first_state}
use Rattle.gds_create.proofs.first.first_pairs.Given as goal

-- the bytes up to here are right
abbrev pub invariant-loop-i : goal.invariant-loop-i
invariant-loop-i l = record {
  len : length l.pairs ≡ 128;
  right : take l.i l.pairs
      ≡ map (λ i. byte_of_states (λ j. first_state l.header (512 * l.group + (4 * i + j)))) (range_with_len 0 l.i);
}
