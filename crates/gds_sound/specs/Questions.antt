-- What is asked of a map of globals.
use Rattle.std.specs.Prelude.{ℕ, ◌+◌, ◌-◌, Bool, false, ◌&&◌, nat_lt, List, length, take, map, Option, None, Some, find}
use Rattle.std.specs.Prelude.{option_map, option_and_then, slice_get, bytes_eq, if◌then◌else◌}
use Rattle.std.specs.List.{list_any}
use Rattle.std.specs.Option.{option_map_or}
use Rattle.std.specs.Ordering.{nat_cmp, is_lt, is_eq}
use Rattle.std.specs.Cmp.Lexicographic.{slice_cmp}
use Rattle.std.specs.FinMap.{entries}
use Rattle.m_key.specs.Node.{Node, NodeSubscript}
use Rattle.m_key.specs.Collation.{subscript_cmp, reference_cmp}
use Rattle.m_key.specs.Globals.{Globals, Place, is_led}

-- the nodes that have a value, in collation
abbrev pub places_of : Globals → List Place
places_of m = map (λ e. e.0) (entries m)

-- a begins b, which is longer
abbrev pub is_under : Node → Node → Bool
is_under a b = is_led a b && nat_lt (length a.subscripts) (length b.subscripts)

-- what comes next on a level: the name of a global, or a subscript
pub data Next : Type 0 where
  name : List ℕ → Next
  subscript : NodeSubscript → Next

-- the subscript of a node at a place
abbrev pub subscript_of : ℕ → Place → Option Next
subscript_of n p = option_map subscript (slice_get p.node.subscripts n)

-- the least subscript of the nodes under one
abbrev pub first_under : Globals → Node → Option Next
first_under m a = option_and_then (subscript_of (length a.subscripts)) (find (λ p. is_under a p.node) (places_of m))

-- the least subscript above s of the nodes under one
abbrev pub is_behind : NodeSubscript → ℕ → Place → Bool
is_behind s n p = option_map_or (λ t. is_lt (subscript_cmp s t)) (slice_get p.node.subscripts n) false

abbrev pub next_under : Globals → Node → NodeSubscript → Option Next
next_under m a s =
    option_and_then (subscript_of (length a.subscripts))
    (find (λ p. is_under a p.node && is_behind s (length a.subscripts) p) (places_of m))

-- the least name above one
abbrev pub next_name : Globals → List ℕ → Option Next
next_name m own =
    option_map (λ p. name p.node.name) (find (λ p. is_lt (slice_cmp nat_cmp own p.node.name)) (places_of m))

-- ORDER: the first subscript under a node, or what comes next on its level
abbrev pub next_from : Globals → Node → Option NodeSubscript → Option Next
next_from m r None = next_name m r.name
next_from m r (Some last) =
    next_under m (record { name = r.name; subscripts = take (length r.subscripts - 1) r.subscripts }) last

abbrev pub order_of : Globals → Node → Bool → Option Next
order_of m r first =
    if first then first_under m r else next_from m r (slice_get r.subscripts (length r.subscripts - 1))

-- DATA: 1 where the node has a value, and 10 more where one under it has
abbrev pub data_of : Globals → Node → ℕ
data_of m r =
    (if list_any (λ p. is_eq (reference_cmp r p.node)) (places_of m) then 1 else 0)
    + (if list_any (λ p. is_under r p.node) (places_of m) then 10 else 0)

-- QUERY: the next node of the same global
abbrev pub query_of : Globals → Node → Option Place
query_of m r = find (λ p. bytes_eq p.node.name r.name && is_lt (reference_cmp r p.node)) (places_of m)
