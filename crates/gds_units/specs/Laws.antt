-- That reading of units composes, as the laws of a source say it.
use Rattle.std.proofs.Common.{ℕ, Option, refl, ap, ◌∙◌}
use Rattle.host_model.specs.Failures.{Failures}
use Rattle.host_model.specs.Files.{Contents}
use Rattle.host_model.proofs.FrameLemmas.{WasRead-refl, WasRead-then}
use Rattle.host_model.proofs.MomentLemmas.{LeavesTheSame-refl, LeavesTheSame-trans}
use Rattle.gds_units.specs.Reading.{OnlyRead}
use Rattle.gds_units.specs.State.{UnitsState}

module _ {H : Type 0} (told : H → Option Contents) (moment : H → ℕ) (counts : H → Failures)
    (left_since : H → ℕ → Contents → Type 0) where
  pub OnlyRead-refl : (units : UnitsState H) → OnlyRead told moment counts left_since units units
  OnlyRead-refl units = record {
    rest = refl;
    read = WasRead-refl told counts units.host;
    crash = LeavesTheSame-refl moment left_since units.host;
  }

  pub OnlyRead-then : (a b c : UnitsState H) → OnlyRead told moment counts left_since a b
      → OnlyRead told moment counts left_since b c → OnlyRead told moment counts left_since a c
  OnlyRead-then a b c first second = record {
    rest = second.rest ∙ ap (λ (s : UnitsState H). record s { host = c.host }) first.rest;
    read = WasRead-then told counts a.host b.host c.host first.read second.read;
    crash = LeavesTheSame-trans moment left_since a.host b.host c.host first.crash second.crash;
  }
