-- What clauses see of the types in which a block and its records are read.
use Rattle.std.specs.Prelude.{ℕ, List, map}
use Rattle.gds_law.specs.BlockReading as law
use Rattle.gds_law.specs.Block.{fault_at}
use Rattle.gds_law.specs.declared.fault.Fault.{Fault}
use Rattle.gds_law.specs.declared.kind.FaultKind.{FaultKind}
use Rattle.gds_law.specs.Visit.{visit_of}
use Rattle.integ_block.specs.declared.reading.BlockReading.{BlockReading}

abbrev pub reading : BlockReading → law.BlockReading
reading r = record { header = r.header.now; visit = visit_of r.at.now.visit; level = r.level; used = r.used }

-- the faults of these kinds at an offset
abbrev pub faults_at : law.BlockReading → List (ℕ × ℕ) → ℕ → List FaultKind → List Fault
faults_at b path offset kinds = map (fault_at b path) (map (λ kind. (offset, kind)) kinds)
