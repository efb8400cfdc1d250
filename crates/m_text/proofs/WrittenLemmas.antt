-- What is written stands for the value.
use Rattle.std.proofs.Common.{◌≡◌, ℕ, ◌+◌, ◌/◌, ◌%◌, ◌<◌, Bool, true, false, ◌&&◌, ltb, List, [], ◌∷◌, ◌++◌}
use Rattle.std.proofs.Common.{length, map, flat_map, refl, sym, ap, ◌∙◌, subst, arith, ⊎_elim, codes}
use Rattle.std.specs.List.{All, AllByRecursion}
use Rattle.std.specs.Char.{is_ascii_digit}
use Rattle.std.proofs.lemmas.Bool.{ltb-true, cond-true, cases_Bool, cond-false}
use Rattle.std.proofs.lemmas.List.{map_push}
use Rattle.std.proofs.lemmas.List.Elements.{recursion_from_All}
use Rattle.m_key.specs.Node.{Node, NodeSubscript, number, IsSubscript, IsNode, spelled}
use Rattle.m_key.specs.Node.{string as text_node}
use Rattle.m_text.specs.Grammar.{code_value, IsCode, Piece, quoted, coded, piece_bytes, IsPiece, Expression, bare}
use Rattle.m_text.specs.Grammar.{string, expression_text, expression_bytes, IsExpression, IsValueText, reference_form}
use Rattle.m_text.specs.Grammar.{IsReferenceText, IsNullReferenceText}
use Rattle.m_text.specs.Written.{is_printable, decimal, run_of, led_by, runs_of, pieces_of, value_text, subscript_text}
use Rattle.m_text.specs.Written.{reference_text, null_reference_text}
use Rattle.m_text.proofs.NumberLemmas.{digit_pass}

-- the digits are the code of this byte
record Codes (b : ℕ) (digits : List ℕ) : Type 0 where
  right : IsCode digits
  value : code_value digits ≡ b

one_digit : (b : ℕ) → b < 10 → Codes b ((48 + b) ∷ [])
one_digit b l =
    let v : code_value ((48 + b) ∷ []) ≡ b = omega arith in
    record {
      right = record {
        decimal = ap (λ (t : Bool). t && true) (digit_pass b l);
        least = omega arith;
        greatest = omega arith;
        value = omega (arith, v);
      };
      value = v;
    }

two_digits : (b : ℕ) → b < 100 → Codes b ((48 + b / 10) ∷ (48 + b % 10) ∷ [])
two_digits b l =
    let v : code_value ((48 + b / 10) ∷ (48 + b % 10) ∷ []) ≡ b = omega arith in
    record {
      right = record {
        decimal = ap (λ (t : Bool). t && (is_ascii_digit (48 + b % 10) && true)) (digit_pass (b / 10) (omega arith))
            ∙ ap (λ (t : Bool). t && true) (digit_pass (b % 10) (omega arith));
        least = omega arith;
        greatest = omega arith;
        value = omega (arith, v);
      };
      value = v;
    }

three_digits : (b : ℕ) → b < 256 → Codes b ((48 + b / 100) ∷ (48 + b / 10 % 10) ∷ (48 + b % 10) ∷ [])
three_digits b l =
    let v : code_value ((48 + b / 100) ∷ (48 + b / 10 % 10) ∷ (48 + b % 10) ∷ []) ≡ b = omega arith in
    record {
      right = record {
        decimal =
            ap (λ (t : Bool). t && (is_ascii_digit (48 + b / 10 % 10) && (is_ascii_digit (48 + b % 10) && true)))
            (digit_pass (b / 100) (omega arith))
            ∙ ap (λ (t : Bool). t && (is_ascii_digit (48 + b % 10) && true)) (digit_pass (b / 10 % 10) (omega arith))
            ∙ ap (λ (t : Bool). t && true) (digit_pass (b % 10) (omega arith));
        least = omega arith;
        greatest = omega arith;
        value = omega (arith, v);
      };
      value = v;
    }

decimal_codes : (b : ℕ) → b < 256 → Codes b (decimal b)
decimal_codes b l =
    let P : List ℕ → Type 0 = λ ds. Codes b ds in
    ⊎_elim
    (λ (q : ltb b 10 ≡ true). subst P (sym (cond-true (ltb b 10) _ _ q)) (one_digit b (ltb-true b 10 q)))
    (λ (q : ltb b 10 ≡ false).
    ⊎_elim
    (λ (r : ltb b 100
    ≡ true). subst P (sym (cond-false (ltb b 10) _ _ q
    ∙ cond-true (ltb b 100) _ _ r)) (two_digits b (ltb-true b 100 r)))
    (λ (r : ltb b 100
    ≡ false). subst P (sym (cond-false (ltb b 10) _ _ q ∙ cond-false (ltb b 100) _ _ r)) (three_digits b l))
    (cases_Bool (ltb b 100)))
    (cases_Bool (ltb b 10))

-- these pieces stand for the bytes
record Stand (bytes : List ℕ) (pieces : List Piece) : Type 0 where
  right : AllByRecursion IsPiece pieces
  meant : flat_map piece_bytes pieces ≡ bytes

run_stands : (b : ℕ) → b < 256 → (bytes : List ℕ) (runs : List Piece) → Stand bytes runs
    → Stand (b ∷ bytes) (run_of b ∷ runs)
run_stands b l bytes runs h =
    let P : Piece → Type 0 = λ r. Stand (b ∷ bytes) (r ∷ runs) in
    let d = decimal_codes b l in
    ⊎_elim
    (λ (q : is_printable b
    ≡ true). subst P (sym (cond-true (is_printable b) _ _ q)) (record {
      right = (tt, h.right);
      meant =
          ap (λ (t : List ℕ). b ∷ t) h.meant;
    }))
    (λ (q : is_printable b ≡ false).
    subst P (sym (cond-false (is_printable b) _ _ q)) (record {
      right = ((omega arith, (d.right, tt)), h.right);
      meant = ap (λ (x : ℕ). x ∷ flat_map piece_bytes runs) d.value ∙ ap (λ (t : List ℕ). b ∷ t) h.meant;
    }))
    (cases_Bool (is_printable b))

led_stands : (b : ℕ) → b < 256 → (bytes : List ℕ) (runs : List Piece) → Stand bytes runs
    → Stand (b ∷ bytes) (led_by b runs)
led_stands b l bytes [] h = run_stands b l bytes [] h
led_stands b l bytes (quoted front ∷ runs) h =
    let P : List Piece → Type 0 = λ rs. Stand (b ∷ bytes) rs in
    ⊎_elim
    (λ (q : is_printable b
    ≡ true). subst P (sym (cond-true (is_printable b) _ _ q)) (record {
      right = (tt, h.right.1);
      meant =
          ap (λ (t : List ℕ). b ∷ t) h.meant;
    }))
    (λ (q : is_printable b
    ≡ false). subst P (sym (cond-false (is_printable b) _ _ q)) (run_stands b l bytes (quoted front ∷ runs) h))
    (cases_Bool (is_printable b))
led_stands b l bytes (coded word digits ∷ runs) h =
    let P : List Piece → Type 0 = λ rs. Stand (b ∷ bytes) rs in
    let d = decimal_codes b l in
    ⊎_elim
    (λ (q : is_printable b
    ≡ true). subst P (sym (cond-true (is_printable b) _ _ q)) (run_stands b l bytes (coded word digits ∷ runs) h))
    (λ (q : is_printable b ≡ false).
    subst P (sym (cond-false (is_printable b) _ _ q)) (record {
      right = ((omega arith, (d.right, h.right.0.1)), h.right.1);
      meant = ap (λ (x : ℕ). x ∷ (map code_value digits ++ flat_map piece_bytes runs)) d.value
          ∙ ap (λ (t : List ℕ). b ∷ t) h.meant;
    }))
    (cases_Bool (is_printable b))

runs_stand : (bytes : List ℕ) → AllByRecursion (λ b. b < 256) bytes → Stand bytes (runs_of bytes)
runs_stand [] h = record { right = tt; meant = refl }
runs_stand (b ∷ bytes) h = led_stands b h.0 bytes (runs_of bytes) (runs_stand bytes h.1)

pieces_stand : (bytes : List ℕ) → AllByRecursion (λ b. b < 256) bytes → Stand bytes (pieces_of bytes)
pieces_stand [] h = record { right = (tt, tt); meant = refl }
pieces_stand (b ∷ bytes) h = runs_stand (b ∷ bytes) h

led_some : (b : ℕ) (runs : List Piece) → 0 < length (led_by b runs)
led_some b [] = omega arith
led_some b (quoted bytes ∷ runs) =
    let P : List Piece → Type 0 = λ rs. 0 < length rs in
    ⊎_elim
    (λ (q : is_printable b ≡ true). subst P (sym (cond-true (is_printable b) _ _ q)) (omega arith))
    (λ (q : is_printable b ≡ false). subst P (sym (cond-false (is_printable b) _ _ q)) (omega arith))
    (cases_Bool (is_printable b))
led_some b (coded word digits ∷ runs) =
    let P : List Piece → Type 0 = λ rs. 0 < length rs in
    ⊎_elim
    (λ (q : is_printable b ≡ true). subst P (sym (cond-true (is_printable b) _ _ q)) (omega arith))
    (λ (q : is_printable b ≡ false). subst P (sym (cond-false (is_printable b) _ _ q)) (omega arith))
    (cases_Bool (is_printable b))

pieces_some : (bytes : List ℕ) → 0 < length (pieces_of bytes)
pieces_some [] = omega arith
pieces_some (b ∷ bytes) = led_some b (runs_of bytes)

pub written_value_lem : (value : List ℕ) → All (λ b. b < 256) value → IsValueText (value_text value) value
unfolding value_text
written_value_lem value h =
    let s = pieces_stand value (recursion_from_All (λ (b : ℕ). b < 256) value h) in
    record {
      expression = string (pieces_of value);
      right = (pieces_some value, s.right);
      written = refl;
      meant =
          s.meant;
    }

-- the expression in which a subscript is written
expression_of : NodeSubscript → Expression
expression_of (number n) = bare n
expression_of (text_node text) = string (pieces_of text)

expression_right : (s : NodeSubscript) → IsSubscript s → IsExpression (expression_of s)
unfolding expression_of
expression_right (number n) h = h
expression_right (text_node text) h =
    (pieces_some text, (pieces_stand text (recursion_from_All (λ (b : ℕ). b < 256) text h.bytes)).right)

expression_meant : (s : NodeSubscript) → IsSubscript s → expression_bytes (expression_of s) ≡ spelled s
unfolding expression_of
expression_meant (number n) h = refl
expression_meant (text_node text) h = (pieces_stand text (recursion_from_All (λ (b : ℕ). b < 256) text h.bytes)).meant

expression_written : (s : NodeSubscript) → expression_text (expression_of s) ≡ subscript_text s
unfolding expression_of value_text
expression_written (number n) = refl
expression_written (text_node text) = refl

all_right : (ss : List NodeSubscript) → AllByRecursion IsSubscript ss
    → AllByRecursion IsExpression (map expression_of ss)
all_right [] h = tt
all_right (s ∷ ss) h = (expression_right s h.0, all_right ss h.1)

all_meant : (ss : List NodeSubscript) → AllByRecursion IsSubscript ss
    → map expression_bytes (map expression_of ss) ≡ map spelled ss
all_meant [] h = refl
all_meant (s ∷ ss) h =
    ap (λ (x : List ℕ). x ∷ map expression_bytes (map expression_of ss)) (expression_meant s h.0)
    ∙ ap (λ (xs : List (List ℕ)). spelled s ∷ xs) (all_meant ss h.1)

all_written : (ss : List NodeSubscript) → map expression_text (map expression_of ss) ≡ map subscript_text ss
all_written [] = refl
all_written (s ∷ ss) =
    ap (λ (x : List ℕ). x ∷ map expression_text (map expression_of ss)) (expression_written s)
    ∙ ap (λ (xs : List (List ℕ)). subscript_text s ∷ xs) (all_written ss)

pub written_reference_lem : (node : Node) → IsNode node → IsReferenceText (reference_text node) node
unfolding reference_text
written_reference_lem node h =
    let each = recursion_from_All IsSubscript node.subscripts h.subscripts in
    record {
      is_node = h;
      subscripts = map expression_of node.subscripts;
      right = all_right node.subscripts each;
      written = ap (reference_form node.name) (all_written node.subscripts);
      meant = all_meant node.subscripts each;
    }

-- the null subscript behind those of the node

null_expression : Expression
null_expression = string (quoted [] ∷ [])

pushed_right : (es : List Expression) (e : Expression) → AllByRecursion IsExpression es → IsExpression e
    → AllByRecursion IsExpression (es ++ e ∷ [])
pushed_right [] e h k = (k, tt)
pushed_right (x ∷ xs) e h k = (h.0, pushed_right xs e h.1 k)

pub written_null_reference_lem : (node : Node) → IsNode node → length node.subscripts < 31
    → IsNullReferenceText (null_reference_text node) node
unfolding null_reference_text null_expression
written_null_reference_lem node h fewer =
    let each = recursion_from_All IsSubscript node.subscripts h.subscripts in
    let before : List Expression = map expression_of node.subscripts in
    record {
      is_node = h;
      fewer = fewer;
      subscripts = before ++ null_expression ∷ [];
      right = pushed_right before null_expression (all_right node.subscripts each) (omega arith, (tt, tt));
      written = ap (reference_form node.name) (map_push expression_text before null_expression
          ∙ ap (λ (texts : List (List ℕ)). texts ++ codes "\"\"" ∷ []) (all_written node.subscripts));
      meant = map_push expression_bytes before null_expression
          ∙ ap (λ (texts : List (List ℕ)). texts ++ [] ∷ []) (all_meant node.subscripts each);
    }
