-- Which kinds are left of a table, at any test of kinds and any that end the reading. Nothing here unfolds over the
-- table.
use Rattle.std.proofs.Common.{ℕ, ◌≡◌, ◌+◌, ◌<◌, Bool, true, false, cond, List, [], ◌∷◌, length, get_or, drop, refl, ◌∙◌}
use Rattle.std.proofs.lemmas.Bool.{or_parts}
use Rattle.std.proofs.Common.{ap, add-one, drop-cons}
use Rattle.std.specs.Prelude.{filter}
use Rattle.std.specs.List.{list_any}
use Rattle.gds_header.specs.Kinds.{through_first}

module _ {K : Type 0} (ends test : K → Bool) where
  -- the kinds that are told
  abbrev pub kept : List K → List K
  kept kinds = through_first ends (filter test kinds)

  pub kept-not : (k : K) (kinds : List K) → test k ≡ false → kept (k ∷ kinds) ≡ kept kinds
  kept-not k kinds h = rw h refl

  pub kept-yes : (k : K) (kinds : List K) → test k ≡ true → ends k ≡ false → kept (k ∷ kinds) ≡ k ∷ kept kinds
  kept-yes k kinds h e = rw (h, e) refl

  pub kept-last : (k : K) (kinds : List K) → test k ≡ true → ends k ≡ true → kept (k ∷ kinds) ≡ k ∷ []
  kept-last k kinds h e = rw (h, e) refl

pub drop-here : {K : Type 0} (kinds : List K) (i : ℕ) (d : K) → i < length kinds
    → drop i kinds ≡ get_or kinds i d ∷ drop (i + 1) kinds
drop-here kinds i d h = rw (add-one, drop-cons kinds i d) refl

-- the same of a table from a place on
module _ {K : Type 0} (ends test : K → Bool) (kinds : List K) (i : ℕ) (d : K) (h : i < length kinds) where
  pub left-not : test (get_or kinds i d) ≡ false → kept ends test (drop i kinds) ≡ kept ends test (drop (i + 1) kinds)
  left-not t = ap (kept ends test) (drop-here kinds i d h)
      ∙ kept-not ends test (get_or kinds i d) (drop (i + 1) kinds) t

  pub left-yes : test (get_or kinds i d) ≡ true → ends (get_or kinds i d) ≡ false
      → kept ends test (drop i kinds) ≡ get_or kinds i d ∷ kept ends test (drop (i + 1) kinds)
  left-yes t e = ap (kept ends test) (drop-here kinds i d h)
      ∙ kept-yes ends test (get_or kinds i d) (drop (i + 1) kinds) t e

  pub left-last : test (get_or kinds i d) ≡ true → ends (get_or kinds i d) ≡ true
      → kept ends test (drop i kinds) ≡ get_or kinds i d ∷ []
  left-last t e = ap (kept ends test) (drop-here kinds i d h)
      ∙ kept-last ends test (get_or kinds i d) (drop (i + 1) kinds) t e

  left-by : (t : Bool) → test (get_or kinds i d) ≡ true → ends (get_or kinds i d) ≡ t
      → (rest : List K) × (kept ends test (drop i kinds) ≡ get_or kinds i d ∷ rest)
  left-by true t e = ([], left-last t e)
  left-by false t e = (kept ends test (drop (i + 1) kinds), left-yes t e)

  -- One that stands is told first, whether it ends the reading or not.
  pub left-first : test (get_or kinds i d) ≡ true
      → (rest : List K) × (kept ends test (drop i kinds) ≡ get_or kinds i d ∷ rest)
  left-first t = left-by (ends (get_or kinds i d)) t refl

-- the same where none ends the reading
module _ {K : Type 0} (test : K → Bool) (kinds : List K) (i : ℕ) (d : K) (h : i < length kinds) where
  pub found-yes : test (get_or kinds i d) ≡ true
      → filter test (drop i kinds) ≡ get_or kinds i d ∷ filter test (drop (i + 1) kinds)
  found-yes t = ap (filter test) (drop-here kinds i d h) ∙ rw t refl

  pub found-not : test (get_or kinds i d) ≡ false → filter test (drop i kinds) ≡ filter test (drop (i + 1) kinds)
  found-not t = ap (filter test) (drop-here kinds i d h) ∙ rw t refl

-- ---- tables of which no kind ends the reading

kept_step : {K : Type 0} (ends : K → Bool) (t : Bool) (k : K) (xs ys : List K) → ends k ≡ false
    → through_first ends xs ≡ ys → through_first ends (cond t (k ∷ xs) xs) ≡ cond t (k ∷ ys) ys
kept_step ends true k xs ys e h = rw e (ap (λ ks. k ∷ ks) h)
kept_step ends false k xs ys e h = h

none_step : {K : Type 0} (ends : K → Bool) (t : Bool) (k : K) (xs : List K) → ends k ≡ false → list_any ends xs ≡ false
    → list_any ends (cond t (k ∷ xs) xs) ≡ false
none_step ends true k xs e h = rw (e, h) refl
none_step ends false k xs e h = h

pub any_front : {K : Type 0} (ends : K → Bool) (k : K) (kinds : List K) → list_any ends (k ∷ kinds) ≡ false
    → (ends k ≡ false) × (list_any ends kinds ≡ false)
any_front ends k kinds h = or_parts (ends k) (list_any ends kinds) h

module _ {K : Type 0} (ends test : K → Bool) where
  pub kept-open : (k : K) (kinds rest : List K) → ends k ≡ false → kept ends test kinds ≡ rest
      → kept ends test (k ∷ kinds) ≡ cond (test k) (k ∷ rest) rest
  kept-open k kinds rest e h = kept_step ends (test k) k (filter test kinds) rest e h

  -- Where none ends the reading all that are there are told.
  pub kept-all : (kinds : List K) → list_any ends kinds ≡ false → kept ends test kinds ≡ filter test kinds
  kept-all [] h = refl
  kept-all (k ∷ kinds) h =
      let two = any_front ends k kinds h in
      kept-open k kinds (filter test kinds) two.0 (kept-all kinds two.1)

  pub none-ends : (kinds : List K) → list_any ends kinds ≡ false → list_any ends (filter test kinds) ≡ false
  none-ends [] h = refl
  none-ends (k ∷ kinds) h =
      let two = any_front ends k kinds h in
      none_step ends (test k) k (filter test kinds) two.0 (none-ends kinds two.1)
