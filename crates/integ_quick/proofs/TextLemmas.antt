-- Subscripts with which nothing is wrong.
use Rattle.std.proofs.Common.{ℕ, ◌≡◌, ◌+◌, ◌-◌, ◌<◌, Bool, true, false, cond, ℤ, pos, negsuc, List, [], ◌∷◌, ◌++◌}
use Rattle.std.proofs.Common.{length, get_or, take, drop, None, Some, refl, sym, ◌∙◌, ap, arith}
use Rattle.std.proofs.Common.{add-one, suc}
use Rattle.std.specs.Prelude.{not, ◌==◌, ◌||◌, nat_lt, nat_le, option_map, slice_index, All, replicate}
use Rattle.std.specs.Char.{is_ascii_digit}
use Rattle.std.specs.List.{AllByRecursion}
use Rattle.std.proofs.lemmas.Bool.{cond-true, cond-false, lt-ltb, ne_eqb, or_right, false_from_ne_true}
use Rattle.std.proofs.lemmas.Bool.{false≢true, eqb-false}
use Rattle.std.proofs.lemmas.Bool.Decides.{nat_tests}
use Rattle.std.proofs.lemmas.List.Elements.{recursion_from_All}
use Rattle.m_number.specs.Numeral.{Numeral, IsNumeral}
use Rattle.m_number.specs.Bytes.{bytes_of}
use Rattle.m_number.specs.Text.{codes_of, large_text, size_text, text_of}
use Rattle.gds_law.specs.Number.{is_number_text, is_number_bytes}
use Rattle.m_key.specs.KeyParts.{unescaped}
use Rattle.gds_law.specs.Key.{is_text, subscript_fault}
use Rattle.gds_law.specs.declared.kind.FaultKind.TheVariants.{BadNumber, BadString, NullSubscript}
use Rattle.gds_law.proofs.NumberLemmas.{text_test, bytes_test}
use Rattle.integ_quick.specs.Subscripts.{begins_number}

-- ---- numbers

subscript_fault-number : (bytes : List ℕ) → 0 < length bytes → (get_or bytes 0 0 ≡ 255 → ⊥)
    → is_number_bytes bytes ≡ true → subscript_fault bytes ≡ None
subscript_fault-number [] some h t = absurd (omega arith)
subscript_fault-number (b ∷ bytes) some h t =
    cond-true (not (b == 255)) (cond (is_number_bytes (b ∷ bytes)) None (Some BadNumber)) _ (ap not (ne_eqb b 255 h))
    ∙ cond-true (is_number_bytes (b ∷ bytes)) None (Some BadNumber) t

-- ---- texts

unescaped-plain : (text : List ℕ) → AllByRecursion (λ b. 1 < b) text → unescaped text ≡ Some text
unescaped-plain [] h = refl
unescaped-plain (b ∷ []) h = cond-true (nat_lt 1 b) (Some (b ∷ [])) None (lt-ltb 1 b h.0)
unescaped-plain (b ∷ c ∷ text) h =
    cond-true (nat_lt 1 b) _ _ (lt-ltb 1 b h.0) ∙ ap (option_map (λ xs. b ∷ xs)) (unescaped-plain (c ∷ text) h.1)

subscript_fault-text : (bytes text : List ℕ) → 0 < length bytes → unescaped bytes ≡ Some text
    → is_number_text text ≡ false → subscript_fault (255 ∷ bytes) ≡ None
subscript_fault-text bytes text some e other =
    cond-false (length bytes ==
    0) (Some NullSubscript) (cond (is_text (unescaped bytes)) None (Some BadString))
    (ne_eqb (length bytes) 0 (λ f. omega arith))
    ∙ cond-true (is_text (unescaped bytes)) None (Some BadString) (ap is_text e ∙ ap not other)

-- ---- how texts of numbers begin

begins_digit : (d : ℕ) → d < 10 → begins_number (48 + d) ≡ true
begins_digit d h = or_right (48 + d == 45 || 48 + d == 46) (is_ascii_digit (48 + d)) (grind (arith, nat_tests))

begins_large : (d : ℕ) (ds : List ℕ) (whole : ℕ) (t : Bool) → d < 10
    → begins_number (slice_index (cond t (codes_of (d ∷ ds)
    ++ replicate (suc whole - length (d ∷ ds)) 48) (codes_of (take (suc whole) (d ∷ ds))
    ++ 46 ∷ codes_of (drop (suc whole) (d ∷ ds)))) 0) ≡ true
begins_large d ds whole true h = begins_digit d h
begins_large d ds whole false h = begins_digit d h

begins_size : (ds : List ℕ) (e : ℤ) → AllByRecursion (λ d. d < 10) ds
    → begins_number (slice_index (size_text ds e) 0) ≡ true
begins_size [] e h = refl
begins_size (d ∷ ds) (pos e) h =
    ap (λ xs. begins_number (slice_index xs 0)) (cond-false (length (d ∷ ds) ==
    0) (48 ∷ []) _ (ne_eqb (length (d ∷ ds)) 0 (λ f. omega arith)))
    ∙ ap (λ n. begins_number (slice_index (large_text (d ∷ ds) n) 0)) (add-one e)
    ∙ begins_large d ds e (nat_le (length (d ∷ ds)) (suc e)) h.0
begins_size (d ∷ ds) (negsuc k) h =
    ap (λ xs. begins_number (slice_index xs 0)) (cond-false (length (d ∷ ds) ==
    0) (48 ∷ []) _ (ne_eqb (length (d ∷ ds)) 0 (λ f. omega arith)))

begins_by : (n : Numeral) → IsNumeral n → (t : Bool)
    → begins_number (slice_index (cond t (45 ∷ size_text n.digits n.exponent) (size_text n.digits n.exponent)) 0) ≡ true
begins_by n h true = refl
begins_by n h false = begins_size n.digits n.exponent (recursion_from_All (λ d. d < 10) n.digits h.decimal)

begins : (n : Numeral) → IsNumeral n → begins_number (slice_index (text_of n) 0) ≡ true
unfolding text_of
begins n h = begins_by n h n.negative

no_number-begun : (text : List ℕ) → begins_number (slice_index text 0) ≡ false → is_number_text text ≡ false
no_number-begun text h =
    false_from_ne_true (is_number_text text)
    (λ t. let f = (text_test text).0 t in
    false≢true (sym h ∙ ap (λ xs. begins_number (slice_index xs 0)) (sym f.2) ∙ begins f.0 f.1))

-- ---- the tests

pub subscript_fault-encoded : (bytes : List ℕ) → 0 < length bytes → (get_or bytes 0 0 ≡ 255 → ⊥)
    → (n : Numeral) × IsNumeral n × (bytes_of n ≡ bytes) → subscript_fault bytes ≡ None
subscript_fault-encoded bytes some h n = subscript_fault-number bytes some h ((bytes_test bytes).1 n)

pub subscript_fault-escaped : (bytes : List ℕ) → 0 < length bytes
    → (text : List ℕ) × (unescaped bytes ≡ Some text) × ((n : Numeral) → IsNumeral n → text_of n ≡ text → ⊥)
    → subscript_fault (255 ∷ bytes) ≡ None
subscript_fault-escaped bytes some (text, e, other) =
    subscript_fault-text bytes text some e
    (false_from_ne_true (is_number_text text) (λ t. let f = (text_test text).0 t in other f.0 f.1 f.2))

pub subscript_fault-word : (bytes : List ℕ) → 0 < length bytes → All (λ b. 1 < b) bytes
    → begins_number (slice_index bytes 0) ≡ false → subscript_fault (255 ∷ bytes) ≡ None
subscript_fault-word bytes some plain begun =
    subscript_fault-text bytes bytes some (unescaped-plain bytes (recursion_from_All (λ b. 1 < b) bytes plain))
    (no_number-begun bytes begun)

pub some_from : (n : ℕ) (t : Bool) → t ≡ (n == 0) → t ≡ false → 0 < n
some_from n t e f = let other = eqb-false n 0 (sym e ∙ f) in omega arith
