-- What a crash leaves of an opening, after which the host was only read.
use Rattle.std.proofs.Common.{◌≡◌, ℕ, ◌≤◌, Option, Some, Result, Ok, inr, subst, sym}
use Rattle.host_model.specs.Files.{Contents}
use Rattle.host_model.specs.Moments.{EachLeft, LeavesTheSame}
use Rattle.host_model.specs.Told.{TellsOn}
use Rattle.host_model.proofs.FrameLemmas.{TellsOn-some}
use Rattle.host_model.proofs.MomentLemmas.{same_only}
use Rattle.gds_recovery.specs.Found.{FindsSame}
use Rattle.gds_recovery.proofs.BarrierLemmas.{barrier_past, past_more}
use Rattle.gds_units.specs.Opening.{IsStable, KeepsOpening, host_after}
use Rattle.gds_units.specs.State.{UnitsState}
use Rattle.gds_units.specs.declared.error.Returned.{Returned}

module _ {H : Type 0} (told : H → Option Contents) (moment : H → ℕ) (left_since : H → ℕ → Contents → Type 0)
    (longer : (host : H) (t u : ℕ) (c : Contents) → t ≤ u → left_since host u c → left_since host t c) where
  -- A stable host leaves what it tells.
  stable_finds : (old mid : H) (c : Contents) → told old ≡ Some c → TellsOn (told old) (told mid) FindsSame
      → IsStable told moment left_since mid → EachLeft moment left_since mid (FindsSame c)
  stable_finds old mid c tells same stable d left =
      let now = TellsOn-some (told old) (told mid) FindsSame c tells same in
      subst (FindsSame c) (sym (stable now.0 now.1 d left)) now.2

  -- However the look for faults ends
  pub opening_keeps : (old : H) (units : UnitsState H) (r : Result (UnitsState H) (Returned H)) (c : Contents)
      → told old ≡ Some c → KeepsOpening moment left_since old (Ok units) c
      → TellsOn (told old) (told units.host) FindsSame → IsStable told moment left_since units.host
      → LeavesTheSame moment left_since units.host (host_after r) → KeepsOpening moment left_since old r c
  opening_keeps old units r c tells keeps same stable stays =
      inr (past_more longer (λ d is. is) (barrier_past (λ none. none) keeps)
      (same_only moment left_since units.host (host_after r) (FindsSame c) stays
      (stable_finds old units.host c tells same stable)))
