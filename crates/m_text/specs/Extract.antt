-- The texts of an extract of a globals map, whose nodes stand in collation. Byte 10 ends each line.
use Rattle.std.specs.Prelude.{ℕ, List, [], ◌∷◌, ◌++◌, flat_map, codes}
use Rattle.std.specs.FinMap.{entries}
use Rattle.m_key.specs.Globals.{Globals, Place}
use Rattle.m_text.specs.Written.{value_text, reference_text}

abbrev pub line : List ℕ → List ℕ
line text = text ++ 10 ∷ []

-- the two lines before the nodes
abbrev pub head_lines : List ℕ → List ℕ → List ℕ
head_lines stamp format = line (codes "GT.M MUPIP EXTRACT") ++ line (stamp ++ 32 ∷ format)

-- a node as one line: the reference, '=' and the value
abbrev pub zwr_node : Place × List ℕ → List ℕ
zwr_node (place, value) = line (reference_text place.node ++ 61 ∷ value_text value)

-- a node as two lines: the reference, and the value's bytes as they are
abbrev pub go_node : Place × List ℕ → List ℕ
go_node (place, value) = line (reference_text place.node) ++ line value

unfoldable pub zwr : Globals → List ℕ → List ℕ
zwr m stamp = head_lines stamp (codes "ZWR") ++ flat_map zwr_node (entries m)

unfoldable pub go : Globals → List ℕ → List ℕ
go m stamp = head_lines stamp (codes "GLO") ++ flat_map go_node (entries m)
