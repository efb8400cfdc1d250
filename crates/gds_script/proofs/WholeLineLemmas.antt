-- Of the lines of answers, cut off anywhere, the whole ones are those of some first answers.
use Rattle.std.proofs.Common.{◌≡◌, ℕ, zero, suc, cond, List, [], ◌∷◌, ◌++◌, take, map, refl, sym}
use Rattle.std.proofs.Common.{ap, ◌∙◌}
use Rattle.std.proofs.lemmas.List.{append-nil, append_assoc, map-append, take-map}
use Rattle.gds_script.specs.declared.answer.Answer.{Answer}
use Rattle.gds_script.specs.Answer.{answer_line, answer_lines, answer_text}
use Rattle.gds_script.specs.Said.{whole_lines, whole_lines_behind}
use Rattle.gds_script.proofs.TextLemmas.{IsOneLine, answer_one_line}

-- A line that is whole comes first.
line_first : (front text behind : List ℕ) → IsOneLine text
    → whole_lines_behind front (text ++ 10 ∷ behind) ≡ (front ++ text) ∷ whole_lines_behind [] behind
line_first front [] behind h = ap (λ line. line ∷ whole_lines_behind [] behind) (sym (append-nil front))
line_first front (b ∷ text) behind h =
    ap (λ t. cond t (front ∷ whole_lines_behind [] (text ++ 10 ∷ behind))
    (whole_lines_behind (front ++ b ∷ []) (text ++ 10 ∷ behind))) h.0
    ∙ line_first (front ++ b ∷ []) text behind h.1
    ∙ ap (λ line. line ∷ whole_lines_behind [] behind) (append_assoc front (b ∷ []) text)

-- These are some first ones of the lines.
abbrev AreFirst : List (List ℕ) → List (List ℕ) → Type 0
AreFirst lines all = (j : ℕ) × (lines ≡ take j all)

-- A line that is cut off counts for nothing, and behind a whole one it is as it was there.
cut_line : (front text behind : List ℕ) (more : List (List ℕ)) → IsOneLine text
    → ((k : ℕ) → AreFirst (whole_lines_behind [] (take k behind)) more)
    → (n : ℕ) → AreFirst (whole_lines_behind front (take n (text ++ 10 ∷ behind))) ((front ++ text) ∷ more)
cut_line front text behind more h rest zero = (zero, refl)
cut_line front [] behind more h rest (suc n) =
    let some = rest n in (
      suc some.0,
      ap (λ line. line ∷ whole_lines_behind [] (take n behind)) (sym (append-nil front))
          ∙ ap (λ lines. (front ++ []) ∷ lines) some.1,
    )
cut_line front (b ∷ text) behind more h rest (suc n) =
    let some = cut_line (front ++ b ∷ []) text behind more h.1 rest n in (
      some.0,
      ap (λ t. cond t (front ∷ whole_lines_behind [] (take n (text ++ 10 ∷ behind)))
          (whole_lines_behind (front ++ b ∷ []) (take n (text ++ 10 ∷ behind)))) h.0
          ∙ some.1
          ∙ ap (λ line. take some.0 (line ∷ more)) (append_assoc front (b ∷ []) text),
    )

-- a line of an answer and what stands behind it
line_apart : (answer : Answer) (behind : List ℕ)
    → answer_line answer ++ behind ≡ answer_text answer ++ 10 ∷ behind
line_apart answer behind = append_assoc (answer_text answer) (10 ∷ []) behind

lines_first : (answers : List Answer) (behind : List ℕ)
    → whole_lines (answer_lines answers ++ behind) ≡ map answer_text answers ++ whole_lines behind
lines_first [] behind = refl
lines_first (answer ∷ answers) behind =
    ap whole_lines (append_assoc (answer_line answer) (answer_lines answers) behind
    ∙ line_apart answer (answer_lines answers ++ behind))
    ∙ line_first [] (answer_text answer) (answer_lines answers ++ behind) (answer_one_line answer)
    ∙ ap (λ lines. answer_text answer ∷ lines) (lines_first answers behind)

nothing_cut : (n : ℕ) → AreFirst (whole_lines (take n [])) []
nothing_cut zero = (zero, refl)
nothing_cut (suc n) = (zero, refl)

lines_cut : (answers : List Answer) (n : ℕ)
    → AreFirst (whole_lines (take n (answer_lines answers))) (map answer_text answers)
lines_cut [] n = nothing_cut n
lines_cut (answer ∷ answers) n =
    let some = cut_line [] (answer_text answer) (answer_lines answers) (map answer_text answers)
    (answer_one_line answer) (lines_cut answers) n in
    (some.0, ap (λ text. whole_lines (take n text)) (line_apart answer (answer_lines answers)) ∙ some.1)

-- All lines of some answers, and others cut off: the whole lines are those of the first answers and of some others.
pub whole_lines_are : (told waiting : List Answer) (n : ℕ)
    → (j : ℕ)
    × (whole_lines (answer_lines told ++ take n (answer_lines waiting)) ≡ map answer_text (told ++ take j waiting))
whole_lines_are told waiting n =
    let some = lines_cut waiting n in (
      some.0,
      lines_first told (take n (answer_lines waiting))
          ∙ ap (λ lines. map answer_text told ++ lines) (some.1 ∙ take-map answer_text some.0 waiting)
          ∙ sym (map-append answer_text told (take some.0 waiting)),
    )
