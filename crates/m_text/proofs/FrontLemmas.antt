-- Fronts of texts: those that pass a test, and those that are known.
use Rattle.std.proofs.Common.{◌≡◌, ℕ, suc, Bool, true, false, ◌&&◌, eqb, List, [], ◌∷◌, ◌++◌, length, take}
use Rattle.std.proofs.Common.{Option, None, Some, refl, sym, ap, ◌∙◌, arith, inl, inr, ◌⊎◌, ⊎_elim}
use Rattle.std.specs.List.{prefix_len, list_all}
use Rattle.std.specs.Prelude.{bytes_eq}
use Rattle.std.proofs.lemmas.Bool.{eqb-true, false≢true, cond-true, cases_Bool, cond-false, and_parts}
use Rattle.std.proofs.lemmas.Slice.Eq.{bytes_eq-Decides}
use Rattle.m_text.specs.Grammar.{Word, c, char, zch, zchar, word_text}
use Rattle.m_text.specs.Front.{leads, behind, first_some, behind_word}

-- whether a text begins with a byte that passes a test
abbrev pub heads : (ℕ → Bool) → List ℕ → Bool
heads p [] = false
heads p (b ∷ bs) = p b

pub prefix_len-yes : (p : ℕ → Bool) (x : ℕ) (xs : List ℕ) → p x ≡ true → prefix_len p (x ∷ xs) ≡ suc (prefix_len p xs)
prefix_len-yes p x xs e = cond-true (p x) _ _ e ∙ omega arith

pub prefix_len-no : (p : ℕ → Bool) (x : ℕ) (xs : List ℕ) → p x ≡ false → prefix_len p (x ∷ xs) ≡ 0
prefix_len-no p x xs e = cond-false (p x) _ _ e

pub prefix-passes : (p : ℕ → Bool) (xs : List ℕ) → list_all p (take (prefix_len p xs) xs) ≡ true
prefix-passes p [] = refl
prefix-passes p (x ∷ xs) =
    let F : ℕ → Bool = λ n. list_all p (take n (x ∷ xs)) in
    ⊎_elim
    (λ (q : p x ≡ true). ap F (prefix_len-yes p x xs q)
    ∙ ap (λ (b : Bool). b && list_all p (take (prefix_len p xs) xs)) q ∙ prefix-passes p xs)
    (λ (q : p x ≡ false). ap F (prefix_len-no p x xs q))
    (cases_Bool (p x))

pub prefix_len-append : (p : ℕ → Bool) (xs rest : List ℕ) → list_all p xs ≡ true → heads p rest ≡ false
    → prefix_len p (xs ++ rest) ≡ length xs
prefix_len-append p [] [] all ended = refl
prefix_len-append p [] (b ∷ bs) all ended = prefix_len-no p b bs ended
prefix_len-append p (x ∷ xs) rest all ended =
    let both = and_parts (p x) (list_all p xs) all in
    prefix_len-yes p x (xs ++ rest) both.0 ∙ ap (λ (n : ℕ). suc n) (prefix_len-append p xs rest both.1 ended)

pub no_front : (x : ℕ) (s : List ℕ) → bytes_eq (take 1 s) (x ∷ []) ≡ false → leads x s ≡ false
no_front x [] t = refl
no_front x (b ∷ bs) t =
    ⊎_elim
    (λ (q : eqb b x
    ≡ true). absurd (false≢true (sym t
    ∙ (bytes_eq-Decides (b ∷ []) (x ∷ [])).1 (ap (λ (y : ℕ). y ∷ []) (eqb-true b x q)))))
    (λ (q : eqb b x ≡ false). q)
    (cases_Bool (eqb b x))

-- the text behind a word and '('
behind-found : (front text rest : List ℕ) → behind front text ≡ Some rest → text ≡ front ++ rest
behind-found [] text rest e = cc
behind-found (f ∷ front) [] rest e = cc
behind-found (f ∷ front) (b ∷ text) rest e =
    ⊎_elim
    (λ (q : eqb b f ≡ true).
    ap (λ (x : ℕ). x ∷ text) (eqb-true b f q)
    ∙ ap (λ (t : List ℕ). f ∷ t) (behind-found front text rest
    (sym (cond-true (eqb b f) (behind front text) None q) ∙ e)))
    (λ (q : eqb b f ≡ false).
    let nothing : None ≡ Some rest = sym (cond-false (eqb b f) (behind front text) None q) ∙ e in
    cc)
    (cases_Bool (eqb b f))

first_some-cases : (a b : Option (List ℕ)) (rest : List ℕ) → first_some a b ≡ Some rest
    → (a ≡ Some rest) ⊎ (b ≡ Some rest)
first_some-cases (Some x) b rest e = inl e
first_some-cases None b rest e = inr e

pub behind_word-found : (text rest : List ℕ) → behind_word text ≡ Some rest
    → (word : Word) × (text ≡ word_text word ++ 40 ∷ rest)
behind_word-found text rest e =
    ⊎_elim
    (λ (h : behind (36 ∷ 67 ∷ 40 ∷ []) text ≡ Some rest). (c, behind-found (36 ∷ 67 ∷ 40 ∷ []) text rest h))
    (λ (t : first_some (behind (36 ∷ 67 ∷ 72 ∷ 65 ∷ 82 ∷ 40 ∷ []) text)
    (first_some (behind (36 ∷ 90 ∷ 67 ∷ 72 ∷ 40 ∷ []) text) (behind (36 ∷ 90 ∷ 67 ∷ 72 ∷ 65 ∷ 82 ∷ 40 ∷ []) text))
    ≡ Some rest).
    ⊎_elim
    (λ (h : behind (36 ∷ 67 ∷ 72 ∷ 65 ∷ 82 ∷ 40 ∷ []) text ≡ Some rest). (
      char,
      behind-found (36 ∷ 67 ∷ 72 ∷ 65 ∷ 82 ∷ 40 ∷ []) text rest h,
    ))
    (λ (u : first_some (behind (36 ∷ 90 ∷ 67 ∷ 72 ∷ 40 ∷ []) text) (behind (36 ∷ 90 ∷ 67 ∷ 72 ∷ 65 ∷ 82 ∷ 40 ∷ []) text)
    ≡ Some rest).
    ⊎_elim
    (λ (h : behind (36 ∷ 90 ∷ 67 ∷ 72 ∷ 40 ∷ []) text ≡ Some rest). (
      zch,
      behind-found (36 ∷ 90 ∷ 67 ∷ 72 ∷ 40 ∷ []) text rest h,
    ))
    (λ (h : behind (36 ∷ 90 ∷ 67 ∷ 72 ∷ 65 ∷ 82 ∷ 40 ∷ []) text ≡ Some rest). (
      zchar,
      behind-found (36 ∷ 90 ∷ 67 ∷ 72 ∷ 65 ∷ 82 ∷ 40 ∷ []) text rest h,
    ))
    (first_some-cases _ _ rest u))
    (first_some-cases _ _ rest t))
    (first_some-cases _ _ rest e)
