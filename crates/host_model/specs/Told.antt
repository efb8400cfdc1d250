-- What is known of a thing that may tell what it holds and need not.
use Rattle.std.specs.Prelude.{Option, None, Some, IsSomeAnd}

-- What told before tells now too, and the two stand in this relation. Of what didn't tell nothing is said.
abbrev pub TellsOn : {A : Type 0} → Option A → Option A → (A → A → Type 0) → Type 0
TellsOn None now R = Unit {0}
TellsOn (Some before) now R = IsSomeAnd now (R before)
