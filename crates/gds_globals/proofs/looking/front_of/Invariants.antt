use Rattle.std.proofs.Common.{◌≡◌, ◌+◌, ◌<◌, ◌≤◌, ◌-◌, ◌∷◌, ◌++◌, ℕ, [], List, length}
use Rattle.std.specs.Prelude.{All}
use Rattle.gds_globals.proofs.looking.front_of.Given as goal

abbrev pub invariant-loop-end : goal.invariant-loop-end
invariant-loop-end l =
    (l.end ≤ length l.key - 2)
    × ((front last : List ℕ) → l.key ≡ (front ++ 0 ∷ []) ++ (last ++ 0 ∷ 0 ∷ []) → All (λ b. 0 < b) last
    → length front + 1 ≤ l.end)

abbrev pub decreases-loop-end : goal.decreases-loop-end
decreases-loop-end l = l.end
