-- Where the key of a node ends: with its first two neighbouring zero bytes.
use Rattle.std.proofs.Common.{ℕ, suc, ◌≡◌, ◌+◌, ◌≤◌, ◌<◌, Bool, true, false, true≢false, List, [], ◌∷◌, ◌++◌, length}
use Rattle.std.proofs.Common.{Some, refl, sym, ◌∙◌, ap, arith, append_assoc, append-nil, length-append, flat_map}
use Rattle.std.specs.Prelude.{◌==◌}
use Rattle.std.proofs.lemmas.Bool.{ne_eqb}
use Rattle.std.proofs.lemmas.List.Elements.{recursion_from_All}
use Rattle.m_key.specs.Node.{Node, NodeSubscript, IsSubscript, IsNode, is_word}
use Rattle.m_key.specs.Key.{subscript_bytes, ended, key_bytes}
use Rattle.m_key.specs.KeyEnd.{key_len, end_in, IsKey}
use Rattle.m_key.proofs.KeyEndLemmas.{key_len-end_in}
use Rattle.m_key.proofs.ZeroLemmas.{NoZero}
use Rattle.m_key.proofs.KeyLemmas.{Right, key-is, ended-more, NoZero-subscript, NoZero-name, begun}
use Rattle.m_key.proofs.NumberLemmas.{numbers}

step : (z : Bool) (b m : ℕ) (bytes : List ℕ) → 0 < b → end_in false bytes ≡ Some m → end_in z (b ∷ bytes) ≡ Some (suc m)
step true b m bytes h e = let t : (b == 0) ≡ false = ne_eqb b 0 (λ f. omega (arith, f)) in rw (t, e) refl
step false b m bytes h e = let t : (b == 0) ≡ false = ne_eqb b 0 (λ f. omega (arith, f)) in rw (t, e) refl

-- bytes without a zero, ended by one
part : (z : Bool) (xs rest : List ℕ) (m : ℕ) → NoZero xs → 0 < length xs → end_in true rest ≡ Some m
    → end_in z (xs ++ 0 ∷ rest) ≡ Some (length xs + 1 + m)
part z [] rest m n h e = absurd (omega arith)
part z (x ∷ []) rest m n h e = step z x (suc m) (0 ∷ rest) n.0 (rw e refl) ∙ ap Some (omega arith)
part z (x ∷ y ∷ xs) rest m n h e =
    step z x (length (y ∷ xs) + 1 + m) ((y ∷ xs) ++ 0 ∷ rest) n.0 (part false (y ∷ xs) rest m n.1 (omega arith) e)
    ∙ ap Some (omega arith)

parts : (ss : List NodeSubscript) (rest : List ℕ) → Right ss
    → end_in true (flat_map ended ss ++ 0 ∷ rest) ≡ Some (length (flat_map ended ss) + 1)
parts [] rest h = refl
parts (s ∷ ss) rest h =
    let b = begun numbers s h.0 in
    let some : 0 < length (subscript_bytes s) = omega (arith, ap length b.is) in
    ap (end_in true) (ended-more s ss (0 ∷ rest))
    ∙ part true (subscript_bytes s) (flat_map ended ss ++ 0 ∷ rest) (length (flat_map ended ss) + 1)
    (NoZero-subscript numbers s h.0) some (parts ss rest h.1)
    ∙ ap Some (omega (arith, length-append (ended s) (flat_map ended ss), length-append (subscript_bytes s) (0 ∷ [])))

word_some : (bs : List ℕ) → is_word bs ≡ true → 0 < length bs
word_some [] h = absurd (true≢false (sym h))
word_some (b ∷ bs) h = omega arith

-- a node's key has its first two neighbouring zero bytes at its end
one_end : (n : Node) (rest : List ℕ) → IsNode n → end_in false (key_bytes n ++ rest) ≡ Some (length (key_bytes n))
one_end n rest p =
    let subs = flat_map ended n.subscripts in
    let bytes : key_bytes n ++ rest ≡ n.name ++ 0 ∷ (subs ++ 0 ∷ rest) =
    ap (λ l. l ++ rest) (key-is n) ∙ append_assoc n.name (0 ∷ (subs ++ 0 ∷ [])) rest
    ∙ ap (λ l. n.name ++ 0 ∷ l) (append_assoc subs (0 ∷ []) rest) in
    let long : length (key_bytes n) ≡ length n.name + 1 + (length subs + 1) =
    omega (arith, ap length (key-is n), length-append n.name (0 ∷ (subs ++ 0 ∷ [])), length-append subs (0 ∷ [])) in
    ap (end_in false) bytes
    ∙ part false n.name (subs ++ 0 ∷ rest) (length subs + 1) (NoZero-name numbers n p) (word_some n.name p.name.word)
    (parts n.subscripts rest (recursion_from_All IsSubscript n.subscripts p.subscripts))
    ∙ ap Some (sym long)

-- A node's key stands at the front of bytes that begin with it.
pub key_len-key_bytes : (n : Node) (rest : List ℕ) → IsNode n
    → key_len (key_bytes n ++ rest) ≡ Some (length (key_bytes n))
key_len-key_bytes n rest p = key_len-end_in (key_bytes n ++ rest) ∙ one_end n rest p

pub IsKey-key_bytes : (n : Node) → IsNode n → length (key_bytes n) ≤ 255 → IsKey (key_bytes n)
IsKey-key_bytes n p short = record {
  whole = ap key_len (sym (append-nil (key_bytes n))) ∙ key_len-key_bytes n [] p;
  short = short;
}
