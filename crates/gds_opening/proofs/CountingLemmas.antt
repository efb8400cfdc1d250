-- What the count that INTEG answers says of an image's faults.
use Rattle.std.proofs.Common.{◌≡◌, ℕ, List, [], ◌∷◌, length, refl, sym, subst, ◌∙◌, arith}
use Rattle.gds_law.specs.Faults.{AreFaults}
use Rattle.gds_law.specs.declared.fault.Fault.{Fault}
use Rattle.gds_sound.proofs.PairLemmas.{readings_agree}
use Rattle.gds_base.specs.Faultless.{IsFaultless}
use Rattle.integ.specs.Integ.{IsToldWhole}
use Rattle.gds_opening.specs.Opening.{HasFaults}

-- A file of which so many faults were told has so many.
pub told_faults : (file : List ℕ) (old new : List Fault) (n : ℕ) → IsToldWhole file old new n → HasFaults n file
told_faults file old new n told = record { faults = told.faults; are = told.are; counted = told.counted }

nil_length : (faults : List Fault) → length faults ≡ 0 → faults ≡ []
nil_length [] h = refl
nil_length (fault ∷ faults) h = absurd (omega (arith, h))

-- One that has none has the empty list of faults.
pub no_faults : (file : List ℕ) (n : ℕ) → n ≡ 0 → HasFaults n file → AreFaults file []
no_faults file n none has = subst (AreFaults file) (nil_length has.faults (sym has.counted ∙ none)) has.are

-- So it is sound.
pub faultless : (file : List ℕ) → AreFaults file [] → IsFaultless file
faultless file none =
    let sound = (readings_agree file).sound none in
    record { directory = sound.0; globals = sound.1; sound = sound.2 }
