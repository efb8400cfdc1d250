-- A key has no fault of its name and its subscripts exactly where it is a node's.
use Rattle.std.proofs.Common.{◌≡◌, ℕ, zero, suc, ◌<◌, ◌≤◌, Bool, true, false, cond, List, [], ◌∷◌, ◌++◌}
use Rattle.std.proofs.Common.{length, map, refl, sym, ap, subst, ◌∙◌, ◌⊎◌, inl, inr, ◌↔◌, arith}
use Rattle.std.proofs.Common.{flat_map, Option, None, Some}
use Rattle.std.specs.Prelude.{All, slice_index, ◌==◌, not, nat_lt}
use Rattle.std.specs.List.{AllByRecursion, join_with_byte}
use Rattle.std.specs.Option.{option_or}
use Rattle.std.proofs.lemmas.Bool.{cases_Bool, cases_lt, cond-true, cond-false}
use Rattle.std.proofs.lemmas.Bool.{lt-ltb, le-ltb, eqb-true, ne_eqb, false≢true, false_from_ne_true}
use Rattle.std.proofs.lemmas.List.{length-map}
use Rattle.std.proofs.lemmas.List.Elements.{recursion_from_All, All-from_recursion}
use Rattle.std.proofs.lemmas.List.Splits.{join_with_byte-slice_split}
use Rattle.m_number.specs.Bytes.{bytes_of}
use Rattle.m_number.proofs.BytesLemmas.{byte_count, first_bound}
use Rattle.m_key.specs.Node.{Node, NodeSubscript, number, string, IsSubscript, IsNode}
use Rattle.m_key.specs.Key.{escaped, subscript_bytes, key_bytes}
use Rattle.m_key.proofs.ZeroLemmas.{NoZero}
use Rattle.m_key.proofs.KeyLemmas as keys
use Rattle.m_key.proofs.KeyLemmas.{Right}
use Rattle.m_key.proofs.NumberLemmas.{numbers}
use Rattle.m_key.specs.KeyEnd.{key_len}
use Rattle.gds_law.specs.Number.{is_number_text, is_number_bytes}
use Rattle.m_key.specs.Node.{is_name}
use Rattle.m_key.specs.KeyParts.{name_part, pieces, subscript_parts, unescaped}
use Rattle.m_key.proofs.EscapeLemmas.{escaped-plain}
use Rattle.m_key.proofs.KeyPartLemmas.{is_name-Decides, pieces-joined, Bytes, bytes_pieces, bytes_rest, bytes_front}
use Rattle.m_key.proofs.KeyPartLemmas.{two_zeros, joined_key, subscript_parts-is, whole_pieces}
use Rattle.m_key.proofs.UnescapeLemmas.{unescaped_again, text_again}
use Rattle.gds_law.specs.Key.{is_text, subscript_fault, first_fault, key_fault}
use Rattle.gds_law.specs.declared.kind.FaultKind.{FaultKind}
use Rattle.gds_law.specs.declared.kind.FaultKind.TheVariants.{BadName, TooManySubscripts, BadNumber, BadString}
use Rattle.gds_law.specs.declared.kind.FaultKind.TheVariants.{NullSubscript}
use Rattle.gds_law.proofs.NumberLemmas.{text_test, bytes_test}

-- ---- subscripts

-- a subscript's bytes have no fault
number_fault : (b : ℕ) (rest : List ℕ) → b < 255 → is_number_bytes (b ∷ rest) ≡ true → subscript_fault (b ∷ rest) ≡ None
number_fault b rest l t =
    cond-true (not (b ==
    255)) (cond (is_number_bytes (b ∷ rest)) None (Some BadNumber)) _ (ap not (ne_eqb b 255 (λ e. omega arith)))
    ∙ cond-true (is_number_bytes (b ∷ rest)) None (Some BadNumber) t

number_right : (bytes : List ℕ) → 1 ≤ length bytes → slice_index bytes 0 < 255 → is_number_bytes bytes ≡ true
    → subscript_fault bytes ≡ None
number_right [] some first t = absurd (omega arith)
number_right (b ∷ rest) some first t = number_fault b rest first t

string_fault : (bytes : List ℕ) → 0 < length bytes
    → subscript_fault (255 ∷ bytes) ≡ cond (is_text (unescaped bytes)) None (Some BadString)
string_fault bytes some =
    cond-false (length bytes ==
    0) (Some NullSubscript) (cond (is_text (unescaped bytes)) None (Some BadString))
    (ne_eqb (length bytes) 0 (λ e. omega arith))

escaped_some : (text : List ℕ) → 0 < length text → 0 < length (flat_map escaped text)
escaped_some [] h = absurd (omega arith)
escaped_some (zero ∷ text) h = omega arith
escaped_some (suc zero ∷ text) h = omega arith
escaped_some (suc (suc b) ∷ text) h = rw (escaped-plain (suc (suc b)) (omega arith)) (omega arith)

no_fault : (s : NodeSubscript) → IsSubscript s → subscript_fault (subscript_bytes s) ≡ None
no_fault (number n) h =
    number_right (bytes_of n) (byte_count n h).0 (first_bound n h) ((bytes_test (bytes_of n)).1 (n, h, refl))
no_fault (string text) h =
    let no : is_number_text text ≡ false =
    false_from_ne_true (is_number_text text) (λ t. let f = (text_test text).0 t in h.no_number f.0 f.1 f.2) in
    string_fault (flat_map escaped text) (escaped_some text h.not_null)
    ∙ cond-true (is_text (unescaped (flat_map escaped text))) None (Some BadString) (ap is_text (unescaped_again text)
    ∙ ap not no)

no_faults : (ss : List NodeSubscript) → Right ss → first_fault (map subscript_bytes ss) ≡ None
no_faults [] h = refl
no_faults (s ∷ ss) h = ap (λ o. option_or o (first_fault (map subscript_bytes ss))) (no_fault s h.0) ∙ no_faults ss h.1

-- bytes without a fault are a subscript's
record Is (part : List ℕ) : Type 0 where
  subscript : NodeSubscript
  right : IsSubscript subscript
  is : subscript_bytes subscript ≡ part

text_some : (bytes text : List ℕ) → 0 < length bytes → flat_map escaped text ≡ bytes → 0 < length text
text_some bytes [] some e = let l : 0 ≡ length bytes = ap length e in absurd (omega arith)
text_some bytes (b ∷ text) some e = omega arith

string_is : (bytes : List ℕ) → 0 < length bytes → Bytes bytes → (o : Option (List ℕ)) → unescaped bytes ≡ o
    → is_text o ≡ true → Is (255 ∷ bytes)
string_is bytes some low None e t = absurd (false≢true t)
string_is bytes some low (Some text) e t =
    let r = text_again bytes text e in
    record {
      subscript = string text;
      right = record {
        not_null = text_some bytes text some r.0;
        bytes = All-from_recursion (λ b. b < 256) text (r.1 low);
        no_number = λ n h f. false≢true (sym (ap not ((text_test text).1 (n, h, f))) ∙ t);
      };
      is = ap (λ xs. 255 ∷ xs) r.0;
    }

cond_none : (t : Bool) (kind : FaultKind) → cond t None (Some kind) ≡ None → t ≡ true
cond_none true kind e = refl
cond_none false kind e = absurd (cc)

null_or_text : (bytes : List ℕ) → Bytes bytes → subscript_fault (255 ∷ bytes) ≡ None → Is (255 ∷ bytes)
null_or_text [] low e = absurd (cc)
null_or_text (b ∷ bytes) low e =
    string_is (b ∷ bytes) (omega arith) low (unescaped (b ∷ bytes)) refl
    (cond_none (is_text (unescaped (b ∷ bytes))) BadString (sym (string_fault (b ∷ bytes) (omega arith)) ∙ e))

number_is : (b : ℕ) (bytes : List ℕ) → b == 255 ≡ false → subscript_fault (b ∷ bytes) ≡ None → Is (b ∷ bytes)
number_is b bytes t e =
    let n = cond_none (is_number_bytes (b ∷ bytes)) BadNumber
    (sym (cond-true (not (b == 255)) (cond (is_number_bytes (b ∷ bytes)) None (Some BadNumber)) _ (ap not t))
    ∙ e) in
    let f = (bytes_test (b ∷ bytes)).0 n in
    record { subscript = number f.0; right = f.1; is = f.2 }

is_subscript : (part : List ℕ) → Bytes part → subscript_fault part ≡ None → Is part
is_subscript [] low e = absurd (cc)
is_subscript (b ∷ bytes) low e =
    elim (cases_Bool (b == 255)) [
      | inl t ↦
          let same : b ≡ 255 = eqb-true b 255 t in
          subst (λ x. Is (x ∷ bytes)) (sym same) (null_or_text bytes low.1
          (ap (λ x. subscript_fault (x ∷ bytes)) (sym same) ∙ e))
      | inr t ↦ number_is b bytes t e
    ]

record Are (all : List (List ℕ)) : Type 0 where
  subscripts : List NodeSubscript
  right : Right subscripts
  are : map subscript_bytes subscripts ≡ all

or_none : (o p : Option FaultKind) → option_or o p ≡ None → (o ≡ None) × (p ≡ None)
or_none None p e = (refl, e)
or_none (Some kind) p e = absurd (cc)

are_subscripts : (all : List (List ℕ)) → AllByRecursion Bytes all → first_fault all ≡ None → Are all
are_subscripts [] low e = record { subscripts = []; right = tt; are = refl }
are_subscripts (part ∷ all) low e =
    let p = or_none (subscript_fault part) (first_fault all) e in
    let s = is_subscript part low.0 p.0 in
    let more = are_subscripts all low.1 p.1 in
    record { subscripts = s.subscript ∷ more.subscripts; right = (s.right, more.right); are = λ i. s.is i ∷ more.are i }

-- ---- whole keys

pub bad_name : (key : List ℕ) → is_name (name_part key) ≡ false → key_fault key ≡ Some BadName
unfolding key_fault
bad_name key t = cond-true (not (is_name (name_part key))) (Some BadName) _ (ap not t)

pub too_many : (key : List ℕ) → is_name (name_part key) ≡ true → 31 < length (subscript_parts key)
    → key_fault key ≡ Some TooManySubscripts
unfolding key_fault
too_many key t l =
    cond-false (not (is_name (name_part key))) (Some BadName) _ (ap not t)
    ∙ cond-true (nat_lt 31 (length (subscript_parts key))) (Some TooManySubscripts) _
    (lt-ltb 31 (length (subscript_parts key)) l)

pub by_parts : (key : List ℕ) → is_name (name_part key) ≡ true → length (subscript_parts key) ≤ 31
    → key_fault key ≡ first_fault (subscript_parts key)
unfolding key_fault
by_parts key t l =
    cond-false (not (is_name (name_part key))) (Some BadName) _ (ap not t)
    ∙ cond-false (nat_lt 31 (length (subscript_parts key))) (Some TooManySubscripts) _
    (le-ltb 31 (length (subscript_parts key)) l)

record Faultless (key : List ℕ) : Type 0 where
  name : is_name (name_part key) ≡ true
  count : length (subscript_parts key) ≤ 31
  parts : first_fault (subscript_parts key) ≡ None

faultless : (key : List ℕ) → key_fault key ≡ None → Faultless key
faultless key e = named (cases_Bool (is_name (name_part key)))
  where
    counted : is_name (name_part key) ≡ true
        → (31 < length (subscript_parts key)) ⊎ (length (subscript_parts key) ≤ 31) → Faultless key
    counted t (inl l) = let f : Some TooManySubscripts ≡ None = sym (too_many key t l) ∙ e in absurd (cc)
    counted t (inr l) = record { name = t; count = l; parts = sym (by_parts key t l) ∙ e }

    named : (is_name (name_part key) ≡ true) ⊎ (is_name (name_part key) ≡ false) → Faultless key
    named (inl t) = counted t (cases_lt 31 (length (subscript_parts key)))
    named (inr t) = let f : Some BadName ≡ None = sym (bad_name key t) ∙ e in absurd (cc)

key_node : (front : List ℕ) → Bytes (front ++ 0 ∷ 0 ∷ []) → Faultless (front ++ 0 ∷ 0 ∷ [])
    → (n : Node) × IsNode n × (key_bytes n ≡ front ++ 0 ∷ 0 ∷ [])
key_node front low f =
    let low_parts : AllByRecursion Bytes (subscript_parts (front ++ 0 ∷ 0 ∷ [])) =
    subst (λ (ps : List (List ℕ)). AllByRecursion Bytes ps) (sym (subscript_parts-is front))
    (bytes_rest (pieces front) (bytes_pieces front (bytes_front front (0 ∷ 0 ∷ []) low))) in
    let r = are_subscripts (subscript_parts (front ++ 0 ∷ 0 ∷ [])) low_parts f.parts in
    let node : Node = record { name = name_part (front ++ 0 ∷ 0 ∷ []); subscripts = r.subscripts } in
    let size : length r.subscripts ≡ length (subscript_parts (front ++ 0 ∷ 0 ∷ [])) =
    sym (length-map r.subscripts subscript_bytes) ∙ ap length r.are in
    let whole : join_with_byte 0 (name_part (front ++ 0 ∷ 0 ∷ []) ∷ map subscript_bytes r.subscripts) ≡ front =
    ap (λ ps. join_with_byte 0 (name_part (front ++ 0 ∷ 0 ∷ []) ∷ ps)) r.are
    ∙ ap (join_with_byte 0) (sym (whole_pieces front)) ∙ join_with_byte-slice_split 0 front in (
      node,
      record {
        name = (is_name-Decides (name_part (front ++ 0 ∷ 0 ∷ []))).0 f.name;
        count = omega (arith, size, f.count);
        subscripts = All-from_recursion IsSubscript r.subscripts r.right;
      },
      keys.key-is node ∙ sym (joined_key (name_part (front ++ 0 ∷ 0 ∷ [])) r.subscripts)
          ∙ ap (λ xs. xs ++ 0 ∷ 0 ∷ []) whole,
    )

no_zeros : (ss : List NodeSubscript) → Right ss → AllByRecursion NoZero (map subscript_bytes ss)
no_zeros [] h = tt
no_zeros (s ∷ ss) h = (keys.NoZero-subscript numbers s h.0, no_zeros ss h.1)

node_key : (n : Node) → IsNode n → key_fault (key_bytes n) ≡ None
node_key n h =
    let front : List ℕ = join_with_byte 0 (n.name ∷ map subscript_bytes n.subscripts) in
    let key : key_bytes n ≡ join_with_byte 0 (n.name ∷ map subscript_bytes n.subscripts) ++ 0 ∷ 0 ∷ [] = keys.key-is n
    ∙ sym (joined_key n.name n.subscripts) in
    let right : Right n.subscripts = recursion_from_All IsSubscript n.subscripts h.subscripts in
    let split : pieces (join_with_byte 0 (n.name ∷ map subscript_bytes n.subscripts))
    ≡ n.name ∷ map subscript_bytes n.subscripts =
    pieces-joined n.name (map subscript_bytes n.subscripts) (keys.NoZero-name numbers n h)
    (no_zeros n.subscripts right) in
    let both : name_part (join_with_byte 0 (n.name ∷ map subscript_bytes n.subscripts)
    ++ 0 ∷ 0 ∷ []) ∷ subscript_parts (join_with_byte 0 (n.name ∷ map subscript_bytes n.subscripts) ++ 0 ∷ 0 ∷ [])
    ≡ n.name ∷ map subscript_bytes n.subscripts =
    sym (whole_pieces (join_with_byte 0 (n.name ∷ map subscript_bytes n.subscripts))) ∙ split in
    node_fault (key_bytes n) n h right (ap name_part key ∙ cc) (ap subscript_parts key ∙ cc)
  where
    node_fault : (key : List ℕ) (n : Node) → IsNode n → Right n.subscripts → name_part key ≡ n.name
        → subscript_parts key ≡ map subscript_bytes n.subscripts → key_fault key ≡ None
    node_fault key n h right name subscripts =
        let size : length (subscript_parts key) ≡ length n.subscripts = ap length subscripts
        ∙ length-map n.subscripts subscript_bytes in
        by_parts key (ap is_name name ∙ (is_name-Decides n.name).1 h.name) (omega (arith, h.count))
        ∙ ap first_fault subscripts ∙ no_faults n.subscripts right

pub key_test : (key : List ℕ) → key_len key ≡ Some (length key) → All (λ b. b < 256) key
    → key_fault key ≡ None ↔ ((n : Node) × IsNode n × (key_bytes n ≡ key))
key_test key ends low = (
  λ e. let w = two_zeros key ends in
      let same = w.1 in
      let r = key_node w.0 (subst Bytes same (recursion_from_All (λ b. b < 256) key low)) (faultless (w.0
      ++ 0 ∷ 0 ∷ []) (ap key_fault (sym same) ∙ e)) in
      (r.0, r.1, r.2 ∙ sym same),
  λ (n, h, e). ap key_fault (sym e) ∙ node_key n h,
)
