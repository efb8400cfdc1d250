-- How a call ends that parts a block, and what each answer is blamed on.
use Rattle.std.specs.Prelude.{Result, Ok, Err}
use Rattle.host_model.specs.Failures.{Failures, Rose}
use Rattle.gds_base.specs.declared.error.BaseError.{BaseError}
use Rattle.gds_base.specs.declared.error.BaseError.TheVariants.{Changed, Memory, ReadFault, TooDeep}

-- As one that reads does, or the tree would be too deep, which says something of it.
abbrev pub EndsParting : {T : Type 0} → Failures → Failures → Type 0 → Type 0 → Result T BaseError → Type 0
EndsParting before now changed deep (Ok value) = Unit {0}
EndsParting before now changed deep (Err Memory) = Unit {0}
EndsParting before now changed deep (Err ReadFault) = Rose before.read now.read
EndsParting before now changed deep (Err (Changed unit)) = changed
EndsParting before now changed deep (Err TooDeep) = deep
EndsParting before now changed deep (Err _) = ⊥
