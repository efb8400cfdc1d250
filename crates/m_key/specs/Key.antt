-- The bytes of a node's key.
use Rattle.std.specs.Prelude.{ℕ, ◌-◌, ◌==◌, List, [], ◌∷◌, ◌++◌, length, take, flat_map, IsTrue, if◌then◌else◌}
use Rattle.std.specs.Ordering.{nat_cmp, is_lt, is_le}
use Rattle.std.specs.Cmp.Lexicographic.{slice_cmp}
use Rattle.m_number.specs.Bytes.{bytes_of}
use Rattle.m_key.specs.Node.{Node, NodeSubscript, number, string}

-- a byte of a string, so that no byte 0 stands in it
abbrev pub escaped : ℕ → List ℕ
escaped b = if b == 0 then 1 ∷ 1 ∷ [] else if b == 1 then 1 ∷ 2 ∷ [] else b ∷ []

abbrev pub subscript_bytes : NodeSubscript → List ℕ
subscript_bytes (number n) = bytes_of n
subscript_bytes (string text) = 0xFF ∷ flat_map escaped text

-- what stands for a subscript in a key: its bytes, ended by 0
abbrev pub ended : NodeSubscript → List ℕ
ended s = subscript_bytes s ++ 0 ∷ []

-- the key but for its last byte
unfoldable pub lead_bytes : Node → List ℕ
lead_bytes n = n.name ++ 0 ∷ flat_map ended n.subscripts

abbrev pub key_bytes : Node → List ℕ
key_bytes n = lead_bytes n ++ 0 ∷ []

-- the same bytes as `lead_bytes`, with the last of them, which is 0, as 1
abbrev pub past_bytes : Node → List ℕ
past_bytes n = take (length (lead_bytes n) - 1) (lead_bytes n) ++ 1 ∷ []

-- bytes compared one after another, where a list that ends first is less
abbrev pub AtMost : List ℕ → List ℕ → Type 0
AtMost xs ys = IsTrue (is_le (slice_cmp nat_cmp xs ys))

abbrev pub Below : List ℕ → List ℕ → Type 0
Below xs ys = IsTrue (is_lt (slice_cmp nat_cmp xs ys))
