-- The order of nodes, said on the numbers and strings of their subscripts and not on keys.
use Rattle.std.specs.Prelude.{◌≡◌, List, ◌++◌}
use Rattle.std.specs.Ordering.{nat_cmp, ordering_then}
use Rattle.std.specs.Cmp.Lexicographic.{slice_cmp}
use Rattle.std.specs.declared.cmp.Ordering.{Ordering}
use Rattle.std.specs.declared.cmp.Ordering.TheVariants.{Less, Greater}
use Rattle.m_number.specs.Order.{number_cmp}
use Rattle.m_key.specs.Node.{Node, NodeSubscript, number, string}

-- numbers before strings, numbers by value, strings by bytes
abbrev pub subscript_cmp : NodeSubscript → NodeSubscript → Ordering
subscript_cmp (number a) (number b) = number_cmp a b
subscript_cmp (number a) (string t) = Less
subscript_cmp (string s) (number b) = Greater
subscript_cmp (string s) (string t) = slice_cmp nat_cmp s t

-- names by bytes, then the subscripts one after another, where a list that ends first is less: a node
-- stands before its descendants
unfoldable pub reference_cmp : Node → Node → Ordering
reference_cmp a b =
    ordering_then (slice_cmp nat_cmp a.name b.name) (slice_cmp subscript_cmp a.subscripts b.subscripts)

-- b is a or a descendant of a: it has a's name, and its subscripts begin with a's
pub record Leads (a b : Node) : Type 0 where
  pub name : b.name ≡ a.name
  pub subscripts : (rest : List NodeSubscript) × (b.subscripts ≡ a.subscripts ++ rest)
