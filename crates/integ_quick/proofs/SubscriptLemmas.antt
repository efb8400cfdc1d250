-- Names and subscripts in keys.
use Rattle.std.proofs.Common.{ℕ, zero, suc, cond, ◌≡◌, ◌+◌, ◌-◌, ◌*◌, ◌<◌, ◌≤◌, inl, inr, Bool, true, List}
use Rattle.std.proofs.Common.{[], ◌∷◌, ◌++◌, length, get_or, take, drop, None, refl, sym, ◌∙◌, ap, subst}
use Rattle.std.proofs.Common.{arith, append_assoc, length-append}
use Rattle.std.specs.Prelude.{◌==◌, count_by}
use Rattle.std.specs.List.{AllByRecursion, join_with_byte}
use Rattle.std.specs.Option.{option_or}
use Rattle.std.proofs.lemmas.Bool.{cases_lt}
use Rattle.std.proofs.lemmas.List.{get_or_append_left, get_or-append_right}
use Rattle.std.proofs.lemmas.List.{take-append-drop, drop_more, nil_from_length}
use Rattle.std.proofs.lemmas.List.Sums.{sum_by-append, sum_by-cons}
use Rattle.m_key.specs.Node.{Node, is_name}
use Rattle.m_key.specs.KeyParts.{name_part, subscript_parts}
use Rattle.m_key.proofs.KeyPartLemmas.{is_name-Decides, name_part-ended, pieces-joined}
use Rattle.m_key.proofs.KeyPartLemmas.{subscript_parts-is}
use Rattle.m_key.proofs.ZeroLemmas.{NoZero}
use Rattle.m_key.proofs.KeyLemmas as keys
use Rattle.m_key.proofs.NumberLemmas.{numbers}
use Rattle.gds_law.specs.Key.{subscript_fault, first_fault, key_fault}
use Rattle.gds_law.proofs.KeyLemmas.{by_parts}
use Rattle.integ_quick.specs.Subscripts.{IsRight, ended_before, AreSubscripts, IsKeyOf, IsStart}

-- ---- names

pub NoZero-name : (name : List ℕ) → is_name name ≡ true → NoZero name
NoZero-name name h =
    let n : Node = record { name = name; subscripts = [] } in
    keys.NoZero-name numbers n (record {
      name = (is_name-Decides name).0 h;
      count = omega arith;
      subscripts =
          λ k d l. absurd (omega arith);
    })

-- ---- subscripts

pub AreSubscripts-end : AreSubscripts (0 ∷ [])
AreSubscripts-end = record { parts = []; right = tt; whole = refl }

pub AreSubscripts-cons : (part rest : List ℕ) → IsRight part → AreSubscripts rest → AreSubscripts (part ++ 0 ∷ rest)
AreSubscripts-cons part rest h k =
    record { parts = part ∷ k.parts; right = (h, k.right); whole = ap (λ xs. part ++ 0 ∷ xs) k.whole }

-- the bytes before the last two zeros
abbrev front_of : List ℕ → List (List ℕ) → List ℕ
front_of name ps = join_with_byte 0 (name ∷ ps)

key-front : (name : List ℕ) (ps : List (List ℕ)) → name ++ 0 ∷ ended_before ps (0 ∷ []) ≡ front_of name ps ++ 0 ∷ 0 ∷ []
key-front name [] = refl
key-front name (p ∷ ps) = ap (λ xs. name ++ 0 ∷ xs) (key-front p ps)
    ∙ sym (append_assoc name (0 ∷ front_of p ps) (0 ∷ 0 ∷ []))

no_zeros : (ps : List (List ℕ)) → AllByRecursion IsRight ps → AllByRecursion NoZero ps
no_zeros [] h = tt
no_zeros (p ∷ ps) h = (h.0.no_zero, no_zeros ps h.1)

first_fault-none : (ps : List (List ℕ)) → AllByRecursion IsRight ps → first_fault ps ≡ None
first_fault-none [] h = refl
first_fault-none (p ∷ ps) h = ap (λ o. option_or o (first_fault ps)) h.0.faultless ∙ first_fault-none ps h.1

module _ (name key : List ℕ) (named : is_name name ≡ true) (k : IsKeyOf name key) where
  abbrev ps : List (List ℕ)
  ps = k.subscripts.parts

  is : key ≡ front_of name ps ++ 0 ∷ 0 ∷ []
  is = k.whole ∙ ap (λ xs. name ++ 0 ∷ xs) k.subscripts.whole ∙ key-front name ps

  pub name_part-key : name_part key ≡ name
  name_part-key = ap name_part k.whole ∙ name_part-ended name k.rest (NoZero-name name named)

  subscript_parts-key : subscript_parts key ≡ ps
  subscript_parts-key =
      ap subscript_parts is ∙ subscript_parts-is (front_of name ps)
      ∙ ap (drop 1) (pieces-joined name ps (NoZero-name name named) (no_zeros ps k.subscripts.right))

  pub key_fault-none : length k.subscripts.parts ≤ 31 → key_fault key ≡ None
  key_fault-none few =
      by_parts key (ap is_name name_part-key ∙ named) (let e : length (subscript_parts key) ≡ length ps =
      ap length subscript_parts-key in omega arith)
      ∙ ap first_fault subscript_parts-key ∙ first_fault-none ps k.subscripts.right

-- ---- how many there are

no_part : subscript_fault [] ≡ None → ⊥
no_part h = absurd (cc)

some_part : (p : List ℕ) → IsRight p → 1 ≤ length p
some_part [] h = absurd (no_part h.faultless)
some_part (b ∷ p) h = omega arith

length-ended : (ps : List (List ℕ)) → AllByRecursion IsRight ps → 2 * length ps + 1 ≤ length (ended_before ps (0 ∷ []))
length-ended [] h = omega arith
length-ended (p ∷ ps) h =
    let some = some_part p h.0 in
    let more = length-ended ps h.1 in
    omega (arith, length-append p (0 ∷ ended_before ps (0 ∷ [])))

count-append : (p : ℕ → Bool) (xs ys : List ℕ) → count_by p (xs ++ ys) ≡ count_by p xs + count_by p ys
count-append p xs ys = sum_by-append (λ x. cond (p x) 1 0) xs ys

count-zero : (xs : List ℕ) → count_by (λ b. b == 0) (0 ∷ xs) ≡ 1 + count_by (λ b. b == 0) xs
count-zero xs = sum_by-cons (λ x. cond (x == 0) 1 0) 0 xs

zeros-ended : (ps : List (List ℕ)) → length ps + 1 ≤ count_by (λ b. b == 0) (ended_before ps (0 ∷ []))
zeros-ended [] = omega arith
zeros-ended (p ∷ ps) =
    omega (
      arith,
      zeros-ended ps,
      count-append (λ b. b == 0) p (0 ∷ ended_before ps (0 ∷ [])),
      count-zero (ended_before ps (0 ∷ [])),
    )

some_name : (name : List ℕ) → is_name name ≡ true → 1 ≤ length name
some_name [] h = absurd (cc)
some_name (b ∷ name) h = omega arith

module _ (name key : List ℕ) (named : is_name name ≡ true) (k : IsKeyOf name key) where
  whole : key ≡ name ++ 0 ∷ ended_before k.subscripts.parts (0 ∷ [])
  whole = k.whole ∙ ap (λ xs. name ++ 0 ∷ xs) k.subscripts.whole

  pub few-short : length key ≤ 66 → length k.subscripts.parts ≤ 31
  few-short h =
      let some = some_name name named in
      let long = length-ended k.subscripts.parts k.subscripts.right in
      omega (arith, ap length whole, length-append name (0 ∷ ended_before k.subscripts.parts (0 ∷ [])))

  pub few-counted : count_by (λ b. b == 0) key ≤ 33 → length k.subscripts.parts ≤ 31
  few-counted h =
      omega (
        arith,
        zeros-ended k.subscripts.parts,
        count-append (λ b. b == 0) name (0 ∷ ended_before k.subscripts.parts (0 ∷ [])),
        count-zero (ended_before k.subscripts.parts (0 ∷ [])),
        ap (count_by (λ b. b == 0)) whole,
      )

-- ---- other subscripts behind some of them

zero_in : (p : List ℕ) (k : ℕ) → NoZero p → k < length p → get_or p k 0 ≡ 0 → ⊥
zero_in [] k h l e = omega arith
zero_in (b ∷ p) zero h l e = omega (arith, h.0)
zero_in (b ∷ p) (suc k) h l e = zero_in p k h.1 (omega arith) e

module _ (more : List ℕ) (new : AreSubscripts more) where
  behind-part : (p rest : List ℕ) (n : ℕ) → IsRight p
      → ((m : ℕ) → m < length rest → IsStart rest m → AreSubscripts (take m rest ++ more))
      → suc n < length (p ++ 0 ∷ rest) → get_or (p ++ 0 ∷ rest) n 0 ≡ 0
      → AreSubscripts (take (suc n) (p ++ 0 ∷ rest) ++ more)
  behind-part p rest n h others l z =
      elim (cases_lt n (length p)) [
        | inl k ↦ absurd (zero_in p n h.no_zero k (sym (get_or_append_left p (0 ∷ rest) 0 n k) ∙ z))
        | inr k ↦
            let m : ℕ = n - length p in
            let size : suc n ≡ length p + suc m = omega arith in
            let bytes : take (suc n) (p ++ 0 ∷ rest) ≡ p ++ 0 ∷ take m rest = ap (λ i. take i (p ++ 0 ∷ rest)) size
            ∙ front p m in
            let start : IsStart rest m = at m (omega arith) (get_or-append_right p (0 ∷ rest) (length p) n 0 refl k) in
            subst AreSubscripts
            (sym (append_assoc p (0 ∷ take m rest) more) ∙ ap (λ xs. xs ++ more) (sym bytes))
            (AreSubscripts-cons p (take m rest ++ more) h (others m (omega (arith, length-append p (0 ∷ rest))) start))
      ]
    where
      front : (p : List ℕ) (m : ℕ) → take (length p + suc m) (p ++ 0 ∷ rest) ≡ p ++ 0 ∷ take m rest
      front [] m = ap (λ i. take i (0 ∷ rest)) (let e : 0 + suc m ≡ suc m = omega arith in e)
      front (b ∷ p) m =
          ap (λ i. take i (b ∷ (p ++ 0 ∷ rest))) (let e : suc (length p) + suc m ≡ suc (length p + suc m) =
          omega arith in e) ∙ ap (λ xs. b ∷ xs) (front p m)

      at : (m : ℕ) → m ≡ n - length p → get_or (p ++ 0 ∷ rest) n 0 ≡ get_or (0 ∷ rest) (n - length p) 0 → IsStart rest m
      at zero e f = inl refl
      at (suc m) e f =
          inr (ap (λ i. get_or rest i 0) (let k : suc m - 1 ≡ m = omega arith in k) ∙ ap (λ i. get_or (0 ∷ rest) i 0) e
          ∙ sym f ∙ z)

  spliced : (ps : List (List ℕ)) (n : ℕ) → AllByRecursion IsRight ps → n < length (ended_before ps (0 ∷ []))
      → IsStart (ended_before ps (0 ∷ [])) n → AreSubscripts (take n (ended_before ps (0 ∷ [])) ++ more)
  spliced [] zero h l s = new
  spliced [] (suc n) h l s = absurd (omega arith)
  spliced (p ∷ ps) zero h l s = new
  spliced (p ∷ ps) (suc n) h l (inl e) = absurd (omega arith)
  spliced (p ∷ ps) (suc n) h l (inr z) =
      behind-part p (ended_before ps (0 ∷ [])) n h.0 (λ m. spliced ps m h.1) l
      (ap (λ i. get_or (p ++ 0 ∷ ended_before ps (0 ∷ [])) i 0) (let e : n ≡ suc n - 1 = omega arith in e) ∙ z)

  pub AreSubscripts-spliced : (old : List ℕ) (n : ℕ) → AreSubscripts old → n < length old → IsStart old n
      → AreSubscripts (take n old ++ more)
  AreSubscripts-spliced old n h l s =
      subst (λ xs. AreSubscripts (take n xs ++ more)) (sym h.whole)
      (spliced h.parts n h.right (omega (arith, ap length h.whole)) (subst (λ xs. IsStart xs n) h.whole s))

-- ---- the name before them

pub named_front : (key name : List ℕ) → length name < length key → get_or key (length name) 0 ≡ 0
    → take (length name) key ≡ name → key ≡ name ++ 0 ∷ drop (length name + 1) key
named_front key name h z e =
    sym (take-append-drop (length name) key)
    ∙ ap (λ xs. xs ++ drop (length name) key) e
    ∙ ap (λ xs. name ++ xs) (drop_more key (length name) 0 h ∙ ap (λ b. b ∷ drop (length name + 1) key) z)

pub AreSubscripts-last : (bytes part more : List ℕ) → bytes ≡ part ++ 0 ∷ more → length part ≡ 0 → length more ≡ 0
    → AreSubscripts bytes
AreSubscripts-last bytes part more e p m =
    subst AreSubscripts
    (ap (λ xs. 0 ∷ xs) (sym (nil_from_length more m)) ∙ ap (λ xs. xs ++ 0 ∷ more) (sym (nil_from_length part p))
    ∙ sym e)
    AreSubscripts-end

pub AreSubscripts-more : (bytes part more : List ℕ) → bytes ≡ part ++ 0 ∷ more → NoZero part
    → subscript_fault part ≡ None → AreSubscripts more → AreSubscripts bytes
AreSubscripts-more bytes part more e z f h =
    subst AreSubscripts (sym e) (AreSubscripts-cons part more (record { no_zero = z; faultless = f }) h)
