use Rattle.std.proofs.Common.{◌≡◌, ◌/◌, ◌<◌, ◌≤◌, ℕ, nat_lt}
use Rattle.gds_header.specs.Kinds.{has_free}
use Rattle.gds_file.specs.Room.{grown_free}
use Rattle.gds_base.specs.Spaces.{present_in}
use Rattle.gds_base.proofs.growing.grown_header.Given as goal

-- the groups so far are marked
abbrev pub invariant-loop-group : goal.invariant-loop-group
invariant-loop-group l = record {
  fields : l.header ≡ record l.fn.old {
    total = l.fn.total;
    free = grown_free l.fn.old l.fn.total;
    master = l.header.master;
  };
  before : (g : ℕ) → g < l.fn.old.total / 512 → has_free l.header g ≡ has_free l.fn.old g;
  came : (g : ℕ) → l.fn.old.total / 512 ≤ g → g < l.group → has_free l.header g ≡ nat_lt 1 (present_in l.header g);
  past : (g : ℕ) → l.group ≤ g → has_free l.header g ≡ has_free l.fn.old g;
}
