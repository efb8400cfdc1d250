-- The lines of answers one behind another, and fronts of them.
use Rattle.std.proofs.Common.{◌≡◌, ℕ, suc, ◌+◌, List, [], ◌∷◌, ◌++◌, length, take, refl, sym, ap, ◌∙◌, arith}
use Rattle.std.proofs.Common.{length-append}
use Rattle.std.proofs.lemmas.List.{append-nil, append_assoc}
use Rattle.std.proofs.lemmas.List.Concat.{flat_map-append}
use Rattle.gds_script.specs.declared.answer.Answer.{Answer}
use Rattle.gds_script.specs.Answer.{answer_line, answer_lines, answer_text}

pub answer_lines-append : (answers more : List Answer)
    → answer_lines (answers ++ more) ≡ answer_lines answers ++ answer_lines more
answer_lines-append answers more = flat_map-append answer_line answers more

pub answer_lines_more : (answers : List Answer) (answer : Answer)
    → answer_lines (answers ++ answer ∷ []) ≡ answer_lines answers ++ answer_line answer
answer_lines_more answers answer =
    answer_lines-append answers (answer ∷ [])
    ∙ ap (λ bytes. answer_lines answers ++ bytes) (append-nil (answer_line answer))

pub answer_lines_none : (answers : List Answer) → answer_lines answers ≡ [] → answers ≡ []
answer_lines_none [] none = refl
answer_lines_none (answer ∷ answers) none =
    let len : length (answer_line answer ++ answer_lines answers) ≡ 0 = ap length none in
    absurd (omega (
      arith,
      len,
      length-append (answer_line answer) (answer_lines answers),
      length-append (answer_text answer) (10 ∷ []),
    ))

front_past : (xs ys : List ℕ) (n : ℕ) → take (length xs + n) (xs ++ ys) ≡ xs ++ take n ys
front_past [] ys n = ap (λ k. take k ys) (omega arith)
front_past (x ∷ xs) ys n =
    ap (λ k. take k (x ∷ (xs ++ ys))) {x = suc (length xs) + n} {y = suc (length xs + n)} (omega arith)
    ∙ ap (λ bytes. x ∷ bytes) (front_past xs ys n)

-- Some first bytes of the lines of some answers.
abbrev pub IsFrontOf : List ℕ → List ℕ → List Answer → Type 0
IsFrontOf before text answers = (n : ℕ) × (text ≡ before ++ take n (answer_lines answers))

-- What was said when some first bytes of what waited were said are some first bytes of all.
pub said_front : (before : List ℕ) (told waiting : List Answer) (n : ℕ)
    → IsFrontOf before ((before ++ answer_lines told) ++ take n (answer_lines waiting)) (told ++ waiting)
said_front before told waiting n = (
  length (answer_lines told) + n,
  append_assoc before (answer_lines told) (take n (answer_lines waiting))
      ∙ ap (λ bytes. before ++ bytes) (sym (front_past (answer_lines told) (answer_lines waiting) n))
      ∙ ap (λ bytes. before ++ take (length (answer_lines told) + n) bytes) (sym (answer_lines-append told waiting)),
)
