-- What is left of a text, from one moment to the next, where the source tells it.
use Rattle.std.proofs.Common.{◌≡◌, ℕ, ◌+◌, ◌<◌, List, [], ◌∷◌, ◌++◌, map, length, take, Option, None, Some, IfSome}
use Rattle.std.proofs.Common.{sym, ap, ◌∙◌, arith, append_assoc, length-append, ⊎_elim}
use Rattle.std.proofs.lemmas.Bool.{cases_lt}
use Rattle.std.proofs.lemmas.List.{append-nil, nil_from_length, take_all}
use Rattle.std.specs.Io.KnownBytes.{prepend_known}
use Rattle.std.specs.Str.Lines.{lines}
use Rattle.host_model.specs.Told.{TellsOn}
use Rattle.gds_lines.specs.declared.TheConstants.{LINE_LIMIT}
use Rattle.gds_lines.specs.Lines.{line_len, first_line, after_first_line, given, next_line}
use Rattle.gds_lines.proofs.LineLemmas.{LooksAs, LooksAs-refl, LooksAs-trans, LooksAs-shortened, next_line-front}
use Rattle.gds_lines.proofs.LineLemmas.{after_first_line-front, after_first_line-unended, lines-first}

-- a source gave bytes that are held now
pub taken_behind : (held now got : List ℕ) (n : ℕ) → now ≡ held ++ got → (a b : Option (List ℕ))
    → TellsOn a b (λ old new. (old ≡ got ++ new) × (n ≡ 0 → old ≡ []))
    → TellsOn (prepend_known held a) (prepend_known now b) (λ old new. (new ≡ old) × (n ≡ 0 → new ≡ now))
taken_behind held now got n grown None b h = tt
taken_behind held now got n grown (Some x) None h = absurd h
taken_behind held now got n grown (Some x) (Some y) h = (
  ap (λ l. l ++ y) grown ∙ append_assoc held got y ∙ ap (λ l. held ++ l) (sym h.0),
  λ none. let nothing : y ≡ [] =
      nil_from_length y (omega (arith, ap length h.0, ap length (h.1 none), length-append got y)) in
      ap (λ l. now ++ l) nothing ∙ append-nil now,
)

-- From one moment to the next a reader takes the same lines off what is left, and then goes on to a third.
pub seen-start : (held : List ℕ) (a : Option (List ℕ)) → TellsOn (prepend_known held a) (prepend_known held a) LooksAs
seen-start held None = tt
seen-start held (Some x) = LooksAs-refl (held ++ x)

pub seen-shortened : (text : Option (List ℕ)) (held : List ℕ) (a : Option (List ℕ)) → line_len held ≡ length held
    → TellsOn text (prepend_known held a) LooksAs
    → TellsOn text (prepend_known (take (LINE_LIMIT + 2) held) a) LooksAs
seen-shortened None held a unended h = tt
seen-shortened (Some text) held None unended h = absurd h
seen-shortened (Some text) held (Some x) unended h =
    LooksAs-trans text (held ++ x) (take (LINE_LIMIT + 2) held ++ x) h
    (⊎_elim
    (λ short. let e = take_all (LINE_LIMIT + 2) held (omega arith) in rw e (LooksAs-refl (held ++ x)))
    (λ long. LooksAs-shortened held x unended long)
    (cases_lt (length held) (LINE_LIMIT + 2)))

pub seen-filled : (text a b : Option (List ℕ)) (P : List ℕ → Type 0) → TellsOn text a LooksAs
    → TellsOn a b (λ old new. (new ≡ old) × P new) → TellsOn text b LooksAs
seen-filled None a b P h k = tt
seen-filled (Some text) None b P h k = absurd h
seen-filled (Some text) (Some x) None P h k = absurd k
seen-filled (Some text) (Some x) (Some y) P h k = rw k.0 h

-- A line end stands in what is held.
pub found-line : (text : Option (List ℕ)) (held : List ℕ) (a : Option (List ℕ)) (r : Option (List ℕ))
    → line_len held < length held → TellsOn text (prepend_known held a) LooksAs → r ≡ next_line held
    → IfSome text (λ t. r ≡ next_line t)
found-line None held a r found h e = tt
found-line (Some t) held None r found h e = absurd h
found-line (Some t) held (Some x) r found h e = e ∙ sym (h.line ∙ next_line-front held x found)

pub found-rest : (text : Option (List ℕ)) (held : List ℕ) (a : Option (List ℕ)) (rest : List ℕ)
    → line_len held < length held → TellsOn text (prepend_known held a) LooksAs → rest ≡ after_first_line held
    → TellsOn text (prepend_known rest a) (λ t r. r ≡ after_first_line t)
found-rest None held a rest found h e = tt
found-rest (Some t) held None rest found h e = absurd h
found-rest (Some t) held (Some x) rest found h e =
    ap (λ l. l ++ x) e ∙ sym (h.rest ∙ after_first_line-front held x found)

-- All that is left is held, and has no line end.
pub seen-ended : (text a b : Option (List ℕ)) (held : List ℕ) (n : ℕ) → n ≡ 0 → TellsOn text a LooksAs
    → TellsOn a b (λ old new. (new ≡ old) × (n ≡ 0 → new ≡ held)) → TellsOn text b (λ t x. LooksAs t x × (x ≡ held))
seen-ended None a b held n none h k = tt
seen-ended (Some t) None b held n none h k = absurd h
seen-ended (Some t) (Some x) None held n none h k = absurd k
seen-ended (Some t) (Some x) (Some y) held n none h k = (rw k.0 h, k.1 none)

pub ended-line : (text b : Option (List ℕ)) (held : List ℕ) (r : Option (List ℕ))
    → TellsOn text b (λ t x. LooksAs t x × (x ≡ held)) → r ≡ next_line held → IfSome text (λ t. r ≡ next_line t)
ended-line None b held r h e = tt
ended-line (Some t) None held r h e = absurd h
ended-line (Some t) (Some y) held r h e = e ∙ sym (h.0.line ∙ ap next_line h.1)

pub ended-rest : (text : Option (List ℕ)) (held : List ℕ) (a : Option (List ℕ)) → line_len held ≡ length held
    → TellsOn text (prepend_known held a) (λ t x. LooksAs t x × (x ≡ held))
    → TellsOn text (prepend_known [] a) (λ t r. r ≡ after_first_line t)
ended-rest None held a unended h = tt
ended-rest (Some t) held None unended h = absurd h
ended-rest (Some t) held (Some y) unended h =
    let nothing : y ≡ [] = nil_from_length y (omega (arith, ap length h.1, length-append held y)) in
    nothing ∙ sym (h.0.rest ∙ ap after_first_line h.1 ∙ after_first_line-unended held unended)

-- One more line was given: the lines so far and those of what is left are still the lines of the text.
pub so_far-more : (text old new : Option (List ℕ)) (so_far : List (List ℕ)) (line : List ℕ)
    → TellsOn text old (λ t rest. map given (lines t) ≡ so_far ++ map given (lines rest))
    → IfSome old (λ t. Some line ≡ next_line t) → TellsOn old new (λ t rest. rest ≡ after_first_line t)
    → TellsOn text new (λ t rest. map given (lines t) ≡ (so_far ++ line ∷ []) ++ map given (lines rest))
so_far-more None old new so_far line h e k = tt
so_far-more (Some t) None new so_far line h e k = absurd h
so_far-more (Some t) (Some x) None so_far line h e k = absurd k
so_far-more (Some t) (Some []) (Some y) so_far line h e k = absurd (cc)
so_far-more (Some t) (Some (b ∷ bs)) (Some y) so_far line h e k =
    let front : given (first_line (b ∷ bs)) ≡ line = cc in
    h
    ∙ ap (λ l. so_far ++ map given l) (lines-first (b ∷ bs) (omega arith))
    ∙ ap (λ l. so_far ++ l ∷ map given (lines (after_first_line (b ∷ bs)))) front
    ∙ ap (λ l. so_far ++ line ∷ map given (lines l)) (sym k)
    ∙ sym (append_assoc so_far (line ∷ []) (map given (lines y)))
