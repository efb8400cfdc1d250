-- What stands first from a bound on: in the items of a tree, and among the nodes of a map.
use Rattle.std.specs.Prelude.{◌≡◌, ℕ, All, Contains, List, [], ◌∷◌, ◌++◌, length, Option, None, Some, ◌⊎◌}
use Rattle.std.specs.declared.ops.Bound.{Bound}
use Rattle.std.specs.declared.ops.Bound.TheVariants.{Included, Excluded, Unbounded}
use Rattle.m_key.specs.Globals.{Globals, Place}
use Rattle.m_key.specs.Key.{AtMost, key_bytes, past_bytes}
use Rattle.m_key.specs.KeyEnd.{IsKey}
use Rattle.m_key.specs.Node.{Node, IsNode}
use Rattle.gds_block.specs.Item.{Item}
use Rattle.gds_find.specs.Next.{IsBefore, IsFirstFor, IsFrom}
use Rattle.gds_sound.specs.Questions.{places_of}
use Rattle.gds_sound.specs.Stands.{StandsFor}

-- A key begins with these bytes.
abbrev pub Begins : List ℕ → List ℕ → Type 0
Begins front key = (rest : List ℕ) × (key ≡ front ++ rest)

-- It is the key of a node.
abbrev pub IsKeyOfNode : List ℕ → Type 0
IsKeyOfNode key = (n : Node) × IsNode n × (key_bytes n ≡ key)

-- The first item from a bound on has this node's key, which begins with a front. Or there is no such item, or its key
-- begins otherwise.
abbrev pub IsFirstUnder : List Item → Bound (List ℕ) → List ℕ → Option Node → Type 0
IsFirstUnder items from front (Some n) =
    (rest : List ℕ) × IsFirstFor items from (record { key = key_bytes n; rest = rest }) × Begins front (key_bytes n)
IsFirstUnder items from front None =
    All (λ i. IsBefore from i.key) items ⊎ ((e : Item) × IsFirstFor items from e × (Begins front e.key → ⊥))

-- The places of a map in the global of this name: each has a whole key, and stands before a bound or at or behind a
-- node.
abbrev pub AreBehind : Globals → List ℕ → Bound (List ℕ) → Node → Type 0
AreBehind m name from n =
    (q : Place) → Contains (places_of m) q → q.node.name ≡ name
    → IsKey (key_bytes q.node) × (IsBefore from (key_bytes q.node) ⊎ AtMost (key_bytes n) (key_bytes q.node))

-- The first of them from a bound on is this one, whose key begins with a front. Or there is none, or it is one whose
-- key begins otherwise.
abbrev pub IsFirstNode : Globals → List ℕ → Bound (List ℕ) → List ℕ → Option Place → Type 0
IsFirstNode m name from front (Some p) =
    Contains (places_of m) p × (p.node.name ≡ name) × IsKey (key_bytes p.node) × IsFrom from (key_bytes p.node)
    × Begins front (key_bytes p.node) × AreBehind m name from p.node
IsFirstNode m name from front None =
    ((q : Place) → Contains (places_of m) q → q.node.name ≡ name
    → IsKey (key_bytes q.node) × IsBefore from (key_bytes q.node))
    ⊎ ((n : Node) × IsNode n × IsFrom from (key_bytes n) × (Begins front (key_bytes n) → ⊥) × AreBehind m name from n)

-- A bound at which the keys of a node and its descendants end, where no key has more than 255 bytes.
abbrev pub IsPast : Node → Bound (List ℕ) → Type 0
IsPast n (Included least) = least ≡ past_bytes n ++ 0 ∷ 0 ∷ []
IsPast n (Excluded below) = (below ≡ key_bytes n) × (length (key_bytes n) ≡ 255)
IsPast n Unbounded = ⊥

-- The key of a bound is whole.
abbrev pub IsWhole : Bound (List ℕ) → Type 0
IsWhole (Included least) = IsKey least
IsWhole (Excluded below) = IsKey below
IsWhole Unbounded = Unit {0}

-- In each map that an image stands for, this is the first node of a global from a bound on, if its key begins with a
-- front.
abbrev pub FindsFirst : List ℕ → List ℕ → Bound (List ℕ) → List ℕ → Option Place → Type 0
FindsFirst image name from front found = (m : Globals) → StandsFor image m → IsFirstNode m name from front found

-- The same from a bound on at which the keys of a node and its descendants end.
abbrev pub FindsPast : List ℕ → Node → List ℕ → Option Place → Type 0
FindsPast image n front found =
    (from : Bound (List ℕ)) × IsPast n from × FindsFirst image n.name from front found

-- The keys of all these items are those of nodes.
abbrev pub AreOfNodes : List Item → Type 0
AreOfNodes items = (e : Item) → Contains items e → IsKeyOfNode e.key
