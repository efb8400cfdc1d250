-- The text in which a list of faults is told.
use Rattle.std.specs.Prelude.{ℕ, List, [], ◌∷◌, ◌++◌, length, flat_map, codes}
use Rattle.std.specs.Fmt.{decimal}
use Rattle.gds_law.specs.declared.fault.Fault.{Fault}
use Rattle.gds_law.specs.Line as law
use Rattle.gds_cli.specs.declared.fault_text.Subject.{Subject}
use Rattle.gds_cli.specs.declared.fault_text.Subject.TheVariants.{File, Map, Tree}

-- what a fault is about, as the law of faults has it
abbrev pub meant : Subject → law.Subject
meant File = law.file
meant Map = law.map
meant Tree = law.tree

-- the line of a fault, with the byte that ends it
unfoldable pub fault_line : Fault → List ℕ
fault_line f = law.line_of f ++ 10 ∷ []

-- the line that says how many they are
abbrev pub count_line : ℕ → List ℕ
count_line count = codes "FAULTS " ++ decimal count ++ 10 ∷ []

-- a line for each fault, and then how many they are
unfoldable pub fault_text : List Fault → List ℕ
fault_text faults = flat_map fault_line faults ++ count_line (length faults)
