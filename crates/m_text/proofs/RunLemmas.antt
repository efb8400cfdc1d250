-- The runs of a value, and the bytes of a run in quotes.
use Rattle.std.proofs.Common.{◌≡◌, ℕ, zero, suc, ◌+◌, ◌<◌, Bool, true, false, not, eqb, List, [], ◌∷◌, ◌++◌, length}
use Rattle.std.proofs.Common.{take, drop, map, flat_map, get_or, refl, sym, ap, ◌∙◌, arith, add-one, ⊎_elim}
use Rattle.std.proofs.lemmas.Bool.{false_from_ne_true, cond-true, cases_Bool, cond-false}
use Rattle.std.specs.List.{prefix_len}
use Rattle.std.proofs.lemmas.List.{append_assoc, drop-drop}
use Rattle.m_text.specs.Grammar.{Piece, quoted, coded, c, Word, doubled, piece_text}
use Rattle.m_text.specs.Written.{is_printable, decimal, led_by, runs_of, runs_text, more_runs_text, value_text}

-- bytes without a quote among them
pub doubled_plain : (xs : List ℕ) → ((k : ℕ) → k < length xs → eqb (get_or xs k 0) 34 ≡ true → ⊥)
    → flat_map doubled xs ≡ xs
doubled_plain [] none = refl
doubled_plain (x ∷ xs) none =
    let rest : flat_map doubled xs ≡ xs = doubled_plain xs (λ k l. none (suc k) (omega (arith, l))) in
    rw (cond-false (eqb x 34) (34 ∷ 34 ∷ []) (x ∷ []) (false_from_ne_true (eqb x 34) (none 0 (omega arith))))
    (ap (λ (t : List ℕ). x ∷ t) rest)

-- bytes up to their first quote
pub doubled_front : (k : ℕ) (xs : List ℕ) → k < length xs → ((j : ℕ) → j < k → eqb (get_or xs j 0) 34 ≡ true → ⊥)
    → eqb (get_or xs k 0) 34 ≡ true → flat_map doubled xs ≡ take k xs ++ 34 ∷ 34 ∷ flat_map doubled (drop (suc k) xs)
doubled_front k [] l none at = absurd (omega (arith, l))
doubled_front zero (x ∷ xs) l none at = rw (cond-true (eqb x 34) (34 ∷ 34 ∷ []) (x ∷ []) at) refl
doubled_front (suc k) (x ∷ xs) l none at =
    let rest = doubled_front k xs (omega (arith, l)) (λ j m. none (suc j) (omega (arith, m))) at in
    rw (cond-false (eqb x 34) (34 ∷ 34 ∷ []) (x ∷ []) (false_from_ne_true (eqb x 34) (none 0 (omega arith))))
    (ap (λ (t : List ℕ). x ∷ t) rest)

-- The kind of the first run is that of the first byte.
pub record IsHead (run : Piece) (runs : List Piece) : Type 0 where
  pub rest : List Piece
  pub is : runs ≡ run ∷ rest

head_quoted : (x : ℕ) (runs : List Piece) → is_printable x ≡ true
    → (bytes : List ℕ) × IsHead (quoted bytes) (led_by x runs)
head_quoted x [] p = (x ∷ [], record { rest = []; is = ap (λ (r : Piece). r ∷ []) (cond-true (is_printable x) _ _ p) })
head_quoted x (quoted bytes ∷ runs) p = (x ∷ bytes, record { rest = runs; is = cond-true (is_printable x) _ _ p })
head_quoted x (coded word digits ∷ runs) p = (
  x ∷ [],
  record {
    rest = coded word digits ∷ runs;
    is = cond-true (is_printable x) _ _ p
        ∙ ap (λ (r : Piece). r ∷ coded word digits ∷ runs) (cond-true (is_printable x) _ _ p);
  },
)

head_coded : (x : ℕ) (runs : List Piece) → is_printable x ≡ false
    → (word : Word) × (digits : List (List ℕ)) × IsHead (coded word digits) (led_by x runs)
head_coded x [] q =
    (c, decimal x ∷ [], record { rest = []; is = ap (λ (r : Piece). r ∷ []) (cond-false (is_printable x) _ _ q) })
head_coded x (quoted bytes ∷ runs) q = (
  c,
  decimal x ∷ [],
  record {
    rest = quoted bytes ∷ runs;
    is = cond-false (is_printable x) _ _ q
        ∙ ap (λ (r : Piece). r ∷ quoted bytes ∷ runs) (cond-false (is_printable x) _ _ q);
  },
)
head_coded x (coded word digits ∷ runs) q =
    (word, decimal x ∷ digits, record { rest = runs; is = cond-false (is_printable x) _ _ q })

before_coded : (b : ℕ) (word : Word) (digits : List (List ℕ)) (rest runs : List Piece) → is_printable b ≡ true
    → runs ≡ coded word digits ∷ rest → led_by b runs ≡ quoted (b ∷ []) ∷ runs
before_coded b word digits rest runs p e =
    ap (led_by b) e
    ∙ (cond-true (is_printable b) _ _ p
    ∙ ap (λ (r : Piece). r ∷ coded word digits ∷ rest) (cond-true (is_printable b) _ _ p))
    ∙ ap (λ (t : List Piece). quoted (b ∷ []) ∷ t) (sym e)

before_quoted : (b : ℕ) (bytes : List ℕ) (rest runs : List Piece) → is_printable b ≡ false → runs ≡ quoted bytes ∷ rest
    → led_by b runs ≡ coded c (decimal b ∷ []) ∷ runs
before_quoted b bytes rest runs q e =
    ap (led_by b) e
    ∙ (cond-false (is_printable b) _ _ q
    ∙ ap (λ (r : Piece). r ∷ quoted bytes ∷ rest) (cond-false (is_printable b) _ _ q))
    ∙ ap (λ (t : List Piece). coded c (decimal b ∷ []) ∷ t) (sym e)

abbrev unprintable : ℕ → Bool
unprintable b = not (is_printable b)

printable_run : (b : ℕ) (bs : List ℕ) → is_printable b ≡ true
    → runs_of (b ∷ bs)
    ≡ quoted (b ∷ take (prefix_len is_printable bs) bs) ∷ runs_of (drop (prefix_len is_printable bs) bs)
printable_run b [] p = ap (λ (r : Piece). r ∷ []) (cond-true (is_printable b) _ _ p)
printable_run b (x ∷ xs) p =
    let F : ℕ → List Piece = λ n. quoted (b ∷ take n (x ∷ xs)) ∷ runs_of (drop n (x ∷ xs)) in
    ⊎_elim
    (λ (px : is_printable x ≡ true).
    let count : prefix_len is_printable (x ∷ xs) ≡ suc (prefix_len is_printable xs) = cond-true (is_printable x) _ _ px
    ∙ omega arith in
    ap (led_by b) (printable_run x xs px) ∙ cond-true (is_printable b) _ _ p ∙ sym (ap F count))
    (λ (qx : is_printable x ≡ false).
    let count : prefix_len is_printable (x ∷ xs) ≡ 0 = cond-false (is_printable x) _ _ qx in
    let h = head_coded x (runs_of xs) qx in
    before_coded b h.0 h.1 h.2.rest (runs_of (x ∷ xs)) p h.2.is ∙ sym (ap F count))
    (cases_Bool (is_printable x))

unprintable_run : (b : ℕ) (bs : List ℕ) → is_printable b ≡ false
    → runs_of (b ∷ bs)
    ≡ coded c (decimal b ∷ map decimal (take (prefix_len unprintable bs) bs)) ∷ runs_of
    (drop (prefix_len unprintable bs) bs)
unprintable_run b [] q = ap (λ (r : Piece). r ∷ []) (cond-false (is_printable b) _ _ q)
unprintable_run b (x ∷ xs) q =
    let F : ℕ → List Piece = λ n. coded c (decimal b ∷ map decimal (take n (x ∷ xs))) ∷ runs_of (drop n (x ∷ xs)) in
    ⊎_elim
    (λ (px : is_printable x ≡ true).
    let count : prefix_len unprintable (x ∷ xs) ≡ 0 = cond-false (unprintable x) _ _ (ap not px) in
    let h = head_quoted x (runs_of xs) px in
    before_quoted b h.0 h.1.rest (runs_of (x ∷ xs)) q h.1.is ∙ sym (ap F count))
    (λ (qx : is_printable x ≡ false).
    let count : prefix_len unprintable (x ∷ xs) ≡ suc (prefix_len unprintable xs) =
    cond-true (unprintable x) _ _ (ap not qx) ∙ omega arith in
    ap (led_by b) (unprintable_run x xs qx) ∙ cond-false (is_printable b) _ _ q ∙ sym (ap F count))
    (cases_Bool (is_printable x))

pub first_printable : (v : List ℕ) (n : ℕ) → 0 < length v → is_printable (get_or v 0 0) ≡ true
    → n ≡ prefix_len is_printable v → runs_of v ≡ quoted (take n v) ∷ runs_of (drop n v)
first_printable [] n l p e = absurd (omega (arith, l))
first_printable (b ∷ bs) n l p e =
    let F : ℕ → List Piece = λ k. quoted (take k (b ∷ bs)) ∷ runs_of (drop k (b ∷ bs)) in
    let count : prefix_len is_printable (b ∷ bs) ≡ suc (prefix_len is_printable bs) = cond-true (is_printable b) _ _ p
    ∙ omega arith in
    printable_run b bs p ∙ sym (ap F (e ∙ count))

pub first_unprintable : (v : List ℕ) (n : ℕ) → 0 < length v → is_printable (get_or v 0 0) ≡ false
    → n ≡ prefix_len unprintable v → runs_of v ≡ coded c (map decimal (take n v)) ∷ runs_of (drop n v)
first_unprintable [] n l q e = absurd (omega (arith, l))
first_unprintable (b ∷ bs) n l q e =
    let F : ℕ → List Piece = λ k. coded c (map decimal (take k (b ∷ bs))) ∷ runs_of (drop k (b ∷ bs)) in
    let count : prefix_len unprintable (b ∷ bs) ≡ suc (prefix_len unprintable bs) =
    cond-true (unprintable b) _ _ (ap not q) ∙ omega arith in
    unprintable_run b bs q ∙ sym (ap F (e ∙ count))

-- how many bytes the first run has, one at least
pub some_printable : (v : List ℕ) → 0 < length v → is_printable (get_or v 0 0) ≡ true → 0 < prefix_len is_printable v
some_printable [] l p = absurd (omega (arith, l))
some_printable (b ∷ bs) l p = rw (cond-true (is_printable b) (1 + prefix_len is_printable bs) 0 p) (omega arith)

pub some_unprintable : (v : List ℕ) → 0 < length v → is_printable (get_or v 0 0) ≡ false → 0 < prefix_len unprintable v
some_unprintable [] l q = absurd (omega (arith, l))
some_unprintable (b ∷ bs) l q =
    rw (cond-true (unprintable b) (1 + prefix_len unprintable bs) 0 (ap not q)) (omega arith)

-- the first run appended
pub run_appended : (value rest old new : List ℕ) (run : Piece) → runs_of value ≡ run ∷ runs_of rest
    → new ≡ old ++ piece_text run → new ++ more_runs_text (runs_of rest) ≡ old ++ runs_text (runs_of value)
run_appended value rest old new run runs text =
    ap (λ (t : List ℕ). t ++ more_runs_text (runs_of rest)) text
    ∙ append_assoc old (piece_text run) (more_runs_text (runs_of rest))
    ∙ ap (λ (rs : List Piece). old ++ runs_text rs) (sym runs)

led_by-some : (b : ℕ) (runs : List Piece) → more_runs_text (led_by b runs) ≡ 95 ∷ runs_text (led_by b runs)
led_by-some b runs =
    ⊎_elim
    (λ (p : is_printable b ≡ true). let h = head_quoted b runs p in ap more_runs_text h.1.is
    ∙ sym (ap (λ (rs : List Piece). 95 ∷ runs_text rs) h.1.is))
    (λ (q : is_printable b ≡ false). let h = head_coded b runs q in ap more_runs_text h.2.is
    ∙ sym (ap (λ (rs : List Piece). 95 ∷ runs_text rs) h.2.is))
    (cases_Bool (is_printable b))

pub more_runs-some : (v : List ℕ) → 0 < length v → more_runs_text (runs_of v) ≡ 95 ∷ runs_text (runs_of v)
more_runs-some [] l = absurd (omega (arith, l))
more_runs-some (b ∷ bs) l = led_by-some b (runs_of bs)

-- a run more, with the byte before it
pub run_step : (old at mid new rest rest' text : List ℕ) → 0 < length rest
    → at ++ more_runs_text (runs_of rest) ≡ old ++ text → mid ≡ at ++ 95 ∷ []
    → new ++ more_runs_text (runs_of rest') ≡ mid ++ runs_text (runs_of rest)
    → new ++ more_runs_text (runs_of rest') ≡ old ++ text
run_step old at mid new rest rest' text l e pushed run =
    run ∙ ap (λ (t : List ℕ). t ++ runs_text (runs_of rest)) pushed
    ∙ append_assoc at (95 ∷ []) (runs_text (runs_of rest))
    ∙ ap (λ (t : List ℕ). at ++ t) (sym (more_runs-some rest l)) ∙ e

pub value_text-some : (v : List ℕ) → 0 < length v → value_text v ≡ runs_text (runs_of v)
unfolding value_text
value_text-some [] l = absurd (omega (arith, l))
value_text-some (b ∷ bs) l = refl

-- the bytes up to a quote appended, and two quotes
pub quoted_step : (at mid new rest whole : List ℕ) (k : ℕ) → k < length rest
    → ((j : ℕ) → j < k → eqb (get_or rest j 0) 34 ≡ true → ⊥) → eqb (get_or rest k 0) 34 ≡ true
    → at ++ flat_map doubled rest ≡ whole → mid ≡ at ++ take k rest → new ≡ mid ++ 34 ∷ 34 ∷ []
    → new ++ flat_map doubled (drop 1 (drop k rest)) ≡ whole
quoted_step at mid new rest whole k l none here e pushed quotes =
    let more : List ℕ = flat_map doubled (drop (suc k) rest) in
    let behind : drop 1 (drop k rest) ≡ drop (suc k) rest = drop-drop 1 k rest
    ∙ ap (λ (n : ℕ). drop n rest) (add-one k) in
    ap (λ (r : List ℕ). new ++ flat_map doubled r) behind
    ∙ ap (λ (t : List ℕ). t ++ more) (quotes ∙ ap (λ (t : List ℕ). t ++ 34 ∷ 34 ∷ []) pushed)
    ∙ append_assoc (at ++ take k rest) (34 ∷ 34 ∷ []) more
    ∙ append_assoc at (take k rest) (34 ∷ 34 ∷ more)
    ∙ ap (λ (t : List ℕ). at ++ t) (sym (doubled_front k rest l none here))
    ∙ e
