use Rattle.std.proofs.Common.{◌≡◌, ℕ, eqb, take}
use Rattle.std.specs.List.{IsDistinct, list_any}
use Rattle.std.specs.BTreeSet.{contains}
use Rattle.std.specs.Ordering.{nat_cmp}
use Rattle.gds_cli.proofs.thin.distinct.are_distinct.Given as goal

-- the numbers so far are distinct, and they are the set's
abbrev pub invariant-loop-number : goal.invariant-loop-number
invariant-loop-number l = record {
  distinct : IsDistinct eqb (take l.number-index l.numbers);
  same : (q : ℕ) → contains nat_cmp l.seen q ≡ list_any (eqb q) (take l.number-index l.numbers);
}
