-- What stands at the front of a key's bytes is known from them.
use Rattle.std.proofs.Common.{◌≡◌, ℕ, ◌+◌, ◌<◌, ◌≤◌, List, [], ◌∷◌, ◌++◌, length, drop, map, refl, sym, ap, ap₂, subst}
use Rattle.std.proofs.Common.{◌∙◌, arith, flat_map, append_assoc, All, length-append, Option, None, Some, IfNone}
use Rattle.std.specs.Prelude.{slice_index}
use Rattle.std.proofs.lemmas.List.Elements.{recursion_from_All}
use Rattle.std.proofs.lemmas.List.Concat.{flat_map-append}
use Rattle.m_number.specs.Numeral.{Numeral, IsNumeral}
use Rattle.m_number.specs.Text.{text_of}
use Rattle.m_number.specs.Bytes.{bytes_of}
use Rattle.m_key.specs.declared.subscript.Subscript.{Subscript}
use Rattle.m_key.specs.Node.{Node, NodeSubscript, number, string, IsText, IsSubscript, IsNode}
use Rattle.m_key.specs.Key.{escaped, subscript_bytes, ended, lead_bytes, key_bytes}
use Rattle.m_key.specs.Reference.{node_subscript_of, is_subscript}
use Rattle.m_key.proofs.ZeroLemmas.{NoZero, split-ended}
use Rattle.m_key.proofs.EscapeLemmas.{escaped-split, escaped-begun, escaped-injective}
use Rattle.m_key.proofs.KeyLemmas as keys
use Rattle.m_key.proofs.KeyLemmas.{Right}
use Rattle.m_key.proofs.NumberLemmas.{numbers}

-- what is left to undo
undone : (done t rest : List ℕ) → flat_map escaped t ≡ flat_map escaped done ++ rest
    → (more : List ℕ) × (flat_map escaped more ≡ rest)
undone [] t rest e = (t, e)
undone (d ∷ ds) [] rest e =
    absurd (escaped-begun d (flat_map escaped ds ++ rest) (sym (append_assoc (escaped d) (flat_map escaped ds) rest)
    ∙ sym e))
undone (d ∷ ds) (x ∷ xs) rest e =
    undone ds xs rest (escaped-split x d (flat_map escaped xs) (flat_map escaped ds ++ rest) (e
    ∙ append_assoc (escaped d) (flat_map escaped ds) rest)).1

pub not_escaped : (done rest t : List ℕ) → 0 < length rest → ((b : ℕ) (r : List ℕ) → escaped b ++ r ≡ rest → ⊥)
    → flat_map escaped t ≡ flat_map escaped done ++ rest → ⊥
not_escaped done rest t some none e = by_more (undone done t rest e)
  where
    by_more : (more : List ℕ) × (flat_map escaped more ≡ rest) → ⊥
    by_more ([], f) = let h : 0 ≡ length rest = ap length f in absurd (omega arith)
    by_more (m ∷ ms, f) = none m (flat_map escaped ms) f

no_zero : (xs : List ℕ) → All (λ b. 0 < b) xs → NoZero xs
no_zero xs f = recursion_from_All (λ b. 0 < b) xs f

pub has_zero : (xs ys : List ℕ) → NoZero (xs ++ 0 ∷ ys) → ⊥
has_zero [] ys h = omega (arith, h.0)
has_zero (x ∷ xs) ys h = has_zero xs ys h.1

-- what is left of subscripts, some of which were read
pub record Left (done ss : List NodeSubscript) (rest : List ℕ) : Type 0 where
  pub more : List NodeSubscript
  pub all : ss ≡ done ++ more
  pub right : Right more
  pub bytes : flat_map ended more ++ 0 ∷ [] ≡ rest

left_of : (done ss : List NodeSubscript) (rest : List ℕ) → Right done → Right ss
    → flat_map ended ss ++ 0 ∷ [] ≡ flat_map ended done ++ rest → Left done ss rest
left_of [] ss rest p q e = record { more = ss; all = refl; right = q; bytes = e }
left_of (d ∷ ds) [] rest p q e =
    absurd (keys.no_end numbers d (0 ∷ (flat_map ended ds ++ rest)) [] p.0 (sym (keys.ended-more d ds rest) ∙ sym e))
left_of (d ∷ ds) (s ∷ ss) rest p q e =
    let r = keys.split-all numbers s d ss ds (0 ∷ []) rest q.0 p.0 e in
    let l = left_of ds ss rest p.1 q.1 r.1 in
    record { more = l.more; all = λ i. r.0 i ∷ l.all i; right = l.right; bytes = l.bytes }

Right-read : (items : List Subscript) → Right (map node_subscript_of items)
Right-read [] = tt
Right-read (s ∷ ss) = (is_subscript s, Right-read ss)

pub left : (items : List Subscript) (ss : List NodeSubscript) (rest bytes : List ℕ)
    → flat_map ended (map node_subscript_of items) ++ rest ≡ bytes → All IsSubscript ss
    → flat_map ended ss ++ 0 ∷ [] ≡ bytes → Left (map node_subscript_of items) ss rest
left items ss rest bytes read q e =
    left_of (map node_subscript_of items) ss rest (Right-read items) (recursion_from_All IsSubscript ss q) (e
    ∙ sym read)

-- a 32nd
pub none_past_31 : (done ss : List NodeSubscript) (rest : List ℕ) → Left done ss rest → (rest ≡ 0 ∷ [] → ⊥)
    → length done ≡ 31 → length ss ≤ 31 → ⊥
none_past_31 done ss rest l other full few = past l.more l.bytes (ap length l.all ∙ length-append done l.more)
  where
    past : (more : List NodeSubscript) → flat_map ended more ++ 0 ∷ [] ≡ rest → length ss ≡ length done + length more
        → ⊥
    past [] e g = other (sym e)
    past (m ∷ ms) e g = absurd (omega arith)

-- the bytes up to the first 0 are no subscript's
pub none_read : (done ss : List NodeSubscript) (rest part more : List ℕ) → Left done ss rest → (rest ≡ 0 ∷ [] → ⊥)
    → part ++ 0 ∷ more ≡ rest → All (λ b. 0 < b) part
    → ((s : NodeSubscript) → IsSubscript s → subscript_bytes s ≡ part → ⊥) → ⊥
none_read done ss rest part more l other split f none = read_by l.more l.right l.bytes
  where
    read_by : (left : List NodeSubscript) → Right left → flat_map ended left ++ 0 ∷ [] ≡ rest → ⊥
    read_by [] p e = other (sym e)
    read_by (m ∷ ms) p e =
        none m p.0
        (split-ended (subscript_bytes m) part (flat_map ended ms ++ 0 ∷ []) more
        (keys.NoZero-subscript numbers m p.0) (no_zero part f)
        (sym (keys.ended-more m ms (0 ∷ [])) ∙ e ∙ sym split)).0

-- no byte 0 is left
pub none_ended : (done ss : List NodeSubscript) (rest : List ℕ) → Left done ss rest → All (λ b. 0 < b) rest → ⊥
none_ended done ss rest l f = has_zero (flat_map ended l.more) [] (subst NoZero (sym l.bytes) (no_zero rest f))

-- one subscript more was read
pub read_more : (done : List NodeSubscript) (s : NodeSubscript) (rest bytes part more : List ℕ)
    → flat_map ended done ++ rest ≡ bytes → part ++ 0 ∷ more ≡ rest → subscript_bytes s ≡ part
    → flat_map ended (done ++ s ∷ []) ++ more ≡ bytes
read_more done s rest bytes part more e split f =
    ap (λ l. l ++ more) (flat_map-append ended done (s ∷ []))
    ∙ append_assoc (flat_map ended done) (flat_map ended (s ∷ [])) more
    ∙ ap (λ l. flat_map ended done ++ l) (keys.ended-more s [] more ∙ ap (λ l. l ++ 0 ∷ more) f ∙ split)
    ∙ e

-- a text that is no string was escaped from nothing else
pub not_string : (slice text t bytes : List ℕ) → slice ≡ text
    → ((0 < length slice) × ((n : Numeral) → IsNumeral n → text_of n ≡ slice → ⊥) → ⊥) → flat_map escaped text ≡ bytes
    → IsText t → flat_map escaped t ≡ bytes → ⊥
not_string slice text t bytes same other e p f =
    let g : t ≡ slice = escaped-injective t text (f ∙ sym e) ∙ sym same in
    other (subst (λ (l : List ℕ). 0 < length l) g p.not_null, λ n q h. p.no_number n q (h ∙ sym g))

-- bytes that begin with FF are a string's or nothing's
pub no_subscript : (bytes slice : List ℕ) → slice ≡ drop 1 bytes → slice_index bytes 0 ≡ 255
    → ((t : List ℕ) → IsText t → flat_map escaped t ≡ slice → ⊥) → (s : NodeSubscript) → IsSubscript s
    → subscript_bytes s ≡ bytes → ⊥
no_subscript bytes slice same h none (number n) p e =
    let f : slice_index (bytes_of n) 0 ≡ 255 = ap (λ l. slice_index l 0) e ∙ h in
    absurd (omega (arith, numbers.first n p))
no_subscript bytes slice same h none (string t) p e = none t p (ap (drop 1) e ∙ sym same)

pub none_weaker : {T : Type 0} (o : Option T) (A B : Type 0) → (A → B) → IfNone o A → IfNone o B
none_weaker None A B f h = f h
none_weaker (Some x) A B f h = h

-- the name stands up to the first 0
pub name_front : (n : Node) (key front more : List ℕ) → IsNode n → key_bytes n ≡ key → front ++ 0 ∷ more ≡ key
    → All (λ b. 0 < b) front → (n.name ≡ front) × (flat_map ended n.subscripts ++ 0 ∷ [] ≡ more)
name_front n key front more p e split f =
    split-ended n.name front (flat_map ended n.subscripts ++ 0 ∷ []) more (keys.NoZero-name numbers n p)
    (no_zero front f)
    (sym (keys.key-is n) ∙ e ∙ sym split)

-- each key has a byte 0
pub key_has_zero : (n : Node) (key : List ℕ) → key_bytes n ≡ key → All (λ b. 0 < b) key → ⊥
key_has_zero n key e f = has_zero (lead_bytes n) [] (subst NoZero (sym e) (no_zero key f))

-- a key is made of its parts
pub key_made : (name front : List ℕ) (ss : List NodeSubscript) (key more : List ℕ) → front ++ 0 ∷ more ≡ key
    → name ≡ front → flat_map ended ss ++ 0 ∷ [] ≡ more → key_bytes (record { name = name; subscripts = ss }) ≡ key
key_made name front ss key more split e f =
    keys.key-is (record { name = name; subscripts = ss })
    ∙ ap₂ (λ l m. l ++ 0 ∷ m) e f
    ∙ split
