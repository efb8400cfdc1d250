-- The globals map: what value each node has, and what a SET and a KILL make of it.
use Rattle.std.specs.Prelude.{ℕ, Bool, not, ◌&&◌, List, [], ◌∷◌, bytes_eq}
use Rattle.std.specs.List.{starts_with}
use Rattle.std.specs.Ordering.{on, eq_by_cmp}
use Rattle.std.specs.FinMap.{FinMap, insert, retain_keys}
use Rattle.std.specs.declared.cmp.Ordering.{Ordering}
use Rattle.m_key.specs.Node.{Node, IsNode}
use Rattle.m_key.specs.Collation.{subscript_cmp, reference_cmp}

-- a node that there is
pub record Place : Type 0 where
  pub node : Node
  pub right : IsNode node

abbrev pub place_cmp : Place → Place → Ordering
place_cmp = on (λ p. p.node) reference_cmp

abbrev pub Globals : Type 0
Globals = FinMap place_cmp (List ℕ)

pub data Change : Type 0 where
  set_value : Place → List ℕ → Change
  kill : Place → Change

-- whether b is a or a descendant of a
abbrev pub is_led : Node → Node → Bool
is_led a b = bytes_eq b.name a.name && starts_with (eq_by_cmp subscript_cmp) b.subscripts a.subscripts

-- a SET gives a node a value, and a KILL takes the values of a node and of its descendants
unfoldable pub after : Globals → Change → Globals
after m (set_value p value) = insert m p value
after m (kill p) = retain_keys m (λ q. not (is_led p.node q.node))

-- the changes one after another
abbrev pub after_all : Globals → List Change → Globals
after_all m [] = m
after_all m (change ∷ changes) = after_all (after m change) changes
