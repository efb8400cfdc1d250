-- What is read of a piece is what stands there.
use Rattle.std.proofs.Common.{◌≡◌, ℕ, zero, suc, ◌<◌, Bool, true, false, eqb, List, [], ◌∷◌, ◌++◌, length, get_or, take}
use Rattle.std.proofs.Common.{drop, flat_map, arith, add-one, None, Some, refl, sym, ap, ◌∙◌, ⊎_elim}
use Rattle.std.proofs.lemmas.Bool.{eqb-true, false_from_ne_true, cond-true, cases_Bool, cond-false}
use Rattle.m_text.specs.Grammar.{doubled}
use Rattle.m_text.specs.Front.{with_front, leads, quoted_at}
use Rattle.m_text.proofs.FoundLemmas.{pair_of, fronted, with_front-nil, with_front-with_front}
use Rattle.std.proofs.lemmas.List.{append-nil, drop-drop}

-- bytes in quotes

abbrev marked : Bool → List ℕ → List ℕ
marked false text = text
marked true text = 34 ∷ text

pub quoted_at-found : (mark : Bool) (text bytes rest : List ℕ) → quoted_at mark text ≡ Some (bytes, rest)
    → marked mark text ≡ flat_map doubled bytes ++ 34 ∷ rest
quoted_at-found false [] bytes rest e = absurd (cc)
quoted_at-found true [] bytes rest e =
    let p = pair_of [] [] bytes rest e in
    ap (λ (r : List ℕ). 34 ∷ r) p.1 ∙ ap (λ (b : List ℕ). flat_map doubled b ++ 34 ∷ rest) p.0
quoted_at-found false (b ∷ bs) bytes rest e =
    ⊎_elim
    (λ (q : eqb b 34 ≡ true).
    ap (λ (x : ℕ). x ∷ bs) (eqb-true b 34 q)
    ∙ quoted_at-found true bs bytes rest (sym
    (cond-true (eqb b 34) (quoted_at true bs) (with_front (b ∷ []) (quoted_at false bs)) q) ∙ e))
    (λ (q : eqb b 34 ≡ false).
    let h = fronted (b ∷ []) (quoted_at false bs) bytes rest
    (sym (cond-false (eqb b 34) (quoted_at true bs) (with_front (b ∷ []) (quoted_at false bs)) q) ∙ e) in
    let plain : doubled b ≡ b ∷ [] = cond-false (eqb b 34) _ _ q in
    ap (λ (t : List ℕ). b ∷ t) (quoted_at-found false bs h.behind_front rest h.is)
    ∙ ap (λ (t : List ℕ). (t ++ flat_map doubled h.behind_front) ++ 34 ∷ rest) (sym plain)
    ∙ ap (λ (t : List ℕ). flat_map doubled t ++ 34 ∷ rest) (sym h.bytes_are))
    (cases_Bool (eqb b 34))
quoted_at-found true (b ∷ bs) bytes rest e =
    ⊎_elim
    (λ (q : eqb b 34 ≡ true).
    let h = fronted (34 ∷ []) (quoted_at false bs) bytes rest
    (sym (cond-true (eqb b 34) (with_front (34 ∷ []) (quoted_at false bs)) (Some ([], b ∷ bs)) q) ∙ e) in
    ap (λ (x : ℕ). 34 ∷ x ∷ bs) (eqb-true b 34 q)
    ∙ ap (λ (t : List ℕ). 34 ∷ 34 ∷ t) (quoted_at-found false bs h.behind_front rest h.is)
    ∙ ap (λ (t : List ℕ). flat_map doubled t ++ 34 ∷ rest) (sym h.bytes_are))
    (λ (q : eqb b 34 ≡ false).
    let p = pair_of [] (b ∷ bs) bytes rest (sym
    (cond-false (eqb b 34) (with_front (34 ∷ []) (quoted_at false bs)) (Some ([], b ∷ bs)) q) ∙ e) in
    ap (λ (r : List ℕ). 34 ∷ r) p.1 ∙ ap (λ (t : List ℕ). flat_map doubled t ++ 34 ∷ rest) p.0)
    (cases_Bool (eqb b 34))

pub quoted_at-again : (bytes rest : List ℕ) → leads 34 rest ≡ false
    → quoted_at false (flat_map doubled bytes ++ 34 ∷ rest) ≡ Some (bytes, rest)
quoted_at-again [] [] l = refl
quoted_at-again [] (r ∷ rest) l = cond-false (eqb r 34) _ _ l
quoted_at-again (b ∷ bs) rest l =
    ⊎_elim
    (λ (q : eqb b 34 ≡ true).
    let twice : doubled b ≡ 34 ∷ 34 ∷ [] = cond-true (eqb b 34) _ _ q in
    ap (λ (t : List ℕ). quoted_at false ((t ++ flat_map doubled bs) ++ 34 ∷ rest)) twice
    ∙ ap (with_front (34 ∷ [])) (quoted_at-again bs rest l)
    ∙ ap (λ (x : ℕ). Some (x ∷ bs, rest)) (sym (eqb-true b 34 q)))
    (λ (q : eqb b 34 ≡ false).
    let plain : doubled b ≡ b ∷ [] = cond-false (eqb b 34) _ _ q in
    ap (λ (t : List ℕ). quoted_at false ((t ++ flat_map doubled bs) ++ 34 ∷ rest)) plain
    ∙ cond-false (eqb b 34) _ _ q
    ∙ ap (with_front (b ∷ [])) (quoted_at-again bs rest l))
    (cases_Bool (eqb b 34))

-- the bytes up to the first quote
front_quoted : (k : ℕ) (xs : List ℕ) → k < length xs → ((j : ℕ) → j < k → eqb (get_or xs j 0) 34 ≡ true → ⊥)
    → eqb (get_or xs k 0) 34 ≡ true → quoted_at false xs ≡ with_front (take k xs) (quoted_at true (drop (suc k) xs))
front_quoted k [] l none at = absurd (omega (arith, l))
front_quoted zero (x ∷ xs) l none at = cond-true (eqb x 34) _ _ at ∙ sym (with_front-nil (quoted_at true xs))
front_quoted (suc k) (x ∷ xs) l none at =
    cond-false (eqb x 34) _ _ (false_from_ne_true (eqb x 34) (none 0 (omega arith)))
    ∙ ap (with_front (x ∷ [])) (front_quoted k xs (omega (arith, l)) (λ j m. none (suc j) (omega (arith, m))) at)
    ∙ with_front-with_front (x ∷ []) (take k xs) (quoted_at true (drop (suc k) xs))

quoted_at-ended : (rest : List ℕ) → leads 34 rest ≡ false → quoted_at true rest ≡ Some ([], rest)
quoted_at-ended [] l = refl
quoted_at-ended (b ∷ bs) l = cond-false (eqb b 34) _ _ l

pub quoted_at-none : (xs : List ℕ) → ((k : ℕ) → k < length xs → eqb (get_or xs k 0) 34 ≡ true → ⊥)
    → quoted_at false xs ≡ None
quoted_at-none [] none = refl
quoted_at-none (x ∷ xs) none =
    cond-false (eqb x 34) _ _ (false_from_ne_true (eqb x 34) (none 0 (omega arith)))
    ∙ ap (with_front (x ∷ [])) (quoted_at-none xs (λ k l. none (suc k) (omega (arith, l))))

behind_quote : (k : ℕ) (rest : List ℕ) → drop 1 (drop k rest) ≡ drop (suc k) rest
behind_quote k rest = drop-drop 1 k rest ∙ ap (λ (n : ℕ). drop n rest) (add-one k)

appended : (old new rest : List ℕ) (k : ℕ) → k < length rest → ((j : ℕ) → j < k → eqb (get_or rest j 0) 34 ≡ true → ⊥)
    → eqb (get_or rest k 0) 34 ≡ true → new ≡ old ++ take k rest
    → with_front old (quoted_at false rest) ≡ with_front new (quoted_at true (drop 1 (drop k rest)))
appended old new rest k l none at e =
    ap (with_front old) (front_quoted k rest l none at)
    ∙ with_front-with_front old (take k rest) (quoted_at true (drop (suc k) rest))
    ∙ ap (λ (t : List ℕ). with_front t (quoted_at true (drop (suc k) rest))) (sym e)
    ∙ ap (λ (t : List ℕ). with_front new (quoted_at true t)) (sym (behind_quote k rest))

pub quoted_ends : (old new rest : List ℕ) (k : ℕ) → k < length rest
    → ((j : ℕ) → j < k → eqb (get_or rest j 0) 34 ≡ true → ⊥) → eqb (get_or rest k 0) 34 ≡ true
    → new ≡ old ++ take k rest → leads 34 (drop 1 (drop k rest)) ≡ false
    → with_front old (quoted_at false rest) ≡ Some (new, drop 1 (drop k rest))
quoted_ends old new rest k l none at e ended =
    appended old new rest k l none at e ∙ ap (with_front new) (quoted_at-ended (drop 1 (drop k rest)) ended)
    ∙ ap (λ (t : List ℕ). Some (t, drop 1 (drop k rest))) (append-nil new)

pub quoted_goes_on : (old mid new rest more : List ℕ) (k : ℕ) → k < length rest
    → ((j : ℕ) → j < k → eqb (get_or rest j 0) 34 ≡ true → ⊥) → eqb (get_or rest k 0) 34 ≡ true
    → mid ≡ old ++ take k rest → drop 1 (drop k rest) ≡ 34 ∷ more → new ≡ mid ++ 34 ∷ []
    → with_front old (quoted_at false rest) ≡ with_front new (quoted_at false more)
quoted_goes_on old mid new rest more k l none at e quote pushed =
    appended old mid rest k l none at e
    ∙ ap (λ (t : List ℕ). with_front mid (quoted_at true t)) quote
    ∙ with_front-with_front mid (34 ∷ []) (quoted_at false more)
    ∙ ap (λ (t : List ℕ). with_front t (quoted_at false more)) (sym pushed)
