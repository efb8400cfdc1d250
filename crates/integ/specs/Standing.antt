-- Kinds of faults that are asked one after another.
use Rattle.std.specs.Prelude.{Bool, List, map, filter}
use Rattle.gds_law.specs.declared.kind.FaultKind.{FaultKind}

-- those of the kinds that stand
abbrev pub standing : List (FaultKind × Bool) → List FaultKind
standing kinds = map (λ asked. asked.0) (filter (λ asked. asked.1) kinds)
