-- The keys of globals in the directory.
use Rattle.std.proofs.Common.{◌≡◌, ℕ, ◌<◌, ◌≤◌, ◌==◌, Bool, true, false, cond, List, [], ◌∷◌, ◌++◌, length}
use Rattle.std.proofs.Common.{drop, flat_map, None}
use Rattle.std.specs.Prelude.{All}
use Rattle.std.proofs.Common.{sym, ap, subst, ◌∙◌, arith}
use Rattle.std.specs.List.{onto_first}
use Rattle.std.proofs.lemmas.List.{length-append}
use Rattle.std.proofs.lemmas.List.Elements.{All-append, All-from_recursion, recursion_from_All}
use Rattle.m_key.specs.Key.{ended, key_bytes}
use Rattle.m_key.specs.KeyEnd.{IsKey}
use Rattle.m_key.specs.KeyParts.{name_part, pieces, subscript_parts}
use Rattle.m_key.specs.Node.{Node, IsName, IsNode, IsSubscript}
use Rattle.m_key.proofs.KeyLemmas.{NoZero-name, key-is}
use Rattle.m_key.proofs.NumberLemmas.{numbers}
use Rattle.gds_law.specs.Key.{key_fault}
use Rattle.gds_law.proofs.KeyLemmas.{key_test}
use Rattle.m_key.proofs.KeyPartLemmas.{Bytes, bytes_front, first_piece, pieces-alone, subscript_parts-is}
use Rattle.m_key.proofs.KeyPartLemmas.{two_zeros, whole_pieces}
use Rattle.m_key.proofs.NodeEndLemmas.{IsKey-key_bytes}
use Rattle.gds_sound.proofs.PairLemmas.{key_name}
use Rattle.gds_globals.specs.Node.{name_key}

-- the node of a name without subscripts
abbrev pub bare : List ℕ → Node
bare name = record { name = name; subscripts = [] }

pub bare_right : (name : List ℕ) → IsName name → IsNode (bare name)
bare_right name is = record { name = is; count = omega arith; subscripts = All-from_recursion IsSubscript [] tt }

-- It has this key.
pub bare_key : (name : List ℕ) → key_bytes (bare name) ≡ name_key name
bare_key name = key-is (bare name)

pub is_name_key : (name : List ℕ) → IsName name → IsKey (name_key name)
is_name_key name is =
    let long = length-append name (0 ∷ 0 ∷ []) in
    subst IsKey (bare_key name)
    (IsKey-key_bytes (bare name) (bare_right name is)
    (omega (arith, ap length (bare_key name), long, is.count)))

pub name_of_key : (name : List ℕ) → IsName name → name_part (name_key name) ≡ name
name_of_key name is = ap name_part (sym (bare_key name)) ∙ key_name (bare name) (bare_right name is)

abbrev first_of : List ℕ → List (List ℕ) → List ℕ
first_of other [] = other
first_of other (xs ∷ more) = xs

-- bytes that are one piece
only_piece : (xs piece : List ℕ) → pieces xs ≡ piece ∷ [] → xs ≡ piece
only_piece [] piece h = cc
only_piece (x ∷ xs) piece h = by (x == 0) (pieces xs) (first_piece xs) (only_piece xs) h
  where
    by : (t : Bool) (all : List (List ℕ)) → all ≡ name_part xs ∷ drop 1 (pieces xs)
        → ((p : List ℕ) → all ≡ p ∷ [] → xs ≡ p)
        → cond t ([] ∷ all) (onto_first x all) ≡ piece ∷ [] → x ∷ xs ≡ piece
    by true [] some more e = absurd (cc)
    by true (p ∷ ps) some more e =
        let none : p ∷ ps ≡ [] = ap (drop 1) e in
        absurd (cc)
    by false [] some more e = absurd (cc)
    by false (p ∷ ps) some more e =
        let none : ps ≡ [] = ap (drop 1) e in
        let rest : xs ≡ p = more p (λ i. p ∷ none i) in
        let first : (x ∷ p) ∷ ps ≡ piece ∷ [] = e in
        (λ i. x ∷ rest i) ∙ ap (first_of piece) first

-- a key without subscripts is that of its name
pub plain_key : (key : List ℕ) → IsKey key → subscript_parts key ≡ [] → key ≡ name_key (name_part key)
plain_key key is none =
    let front = two_zeros key is.whole in
    let one : pieces front.0 ≡ name_part key ∷ [] =
    whole_pieces front.0 ∙ ap (λ k. name_part k ∷ subscript_parts k) (sym front.1) ∙ ap (λ l. name_part key ∷ l) none in
    front.1 ∙ ap name_key (only_piece front.0 (name_part key) one)

-- The key of a name has no subscripts, and no bytes but those that stand in the keys of its nodes.
pub no_parts_of_name : (name : List ℕ) → IsName name → subscript_parts (name_key name) ≡ []
no_parts_of_name name is =
    let some = NoZero-name numbers (bare name) (bare_right name is) in
    subscript_parts-is name ∙ ap (drop 1) (pieces-alone name (All-from_recursion (λ b. 0 < b) name some))

pub name_no_longer : (n : Node) → length (name_key n.name) ≤ length (key_bytes n)
name_no_longer n =
    let rest : List ℕ = flat_map ended n.subscripts ++ 0 ∷ [] in
    omega (
      arith,
      ap length (key-is n),
      length-append n.name (0 ∷ rest),
      length-append n.name (0 ∷ 0 ∷ []),
      length-append (flat_map ended n.subscripts) (0 ∷ []),
    )

pub no_fault_of_name : (n : Node) → IsNode n → All (λ b. b < 256) (key_bytes n) → key_fault (name_key n.name) ≡ None
no_fault_of_name n right bytes =
    let rest : List ℕ = flat_map ended n.subscripts ++ 0 ∷ [] in
    let own : Bytes n.name =
    bytes_front n.name (0 ∷ rest) (subst Bytes (key-is n) (recursion_from_All (λ b. b < 256) (key_bytes n) bytes)) in
    let zeros : All (λ b. b < 256) (0 ∷ 0 ∷ []) =
    All-from_recursion (λ b. b < 256) (0 ∷ 0 ∷ []) (omega arith, (omega arith, tt)) in
    (key_test (name_key n.name) (is_name_key n.name right.name).whole
    (All-append (λ b. b < 256) n.name (0 ∷ 0 ∷ []) (All-from_recursion (λ b. b < 256) n.name own) zeros)).1
    (bare n.name, bare_right n.name right.name, bare_key n.name)
