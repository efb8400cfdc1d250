-- Parts of a list between two places.
use Rattle.std.proofs.Common.{◌≡◌, ℕ, ◌+◌, ◌-◌, ◌≤◌, min, true, false, cond, eqb, List, ◌++◌, length, get_or, take}
use Rattle.std.proofs.Common.{drop, slice_range, sym, ap, ◌∙◌, arith, ⊎_elim, length-take-le}
use Rattle.std.proofs.Math.Seq.{take-add}
use Rattle.std.proofs.lemmas.Bool.{cases_lt}
use Rattle.std.proofs.lemmas.Slice.{between_is}
use Rattle.std.proofs.lemmas.List.{take-take, take_all, drop-drop, drop-take, length-take}
use Rattle.std.specs.Str.Lines.{strip_carriage_return}

length-take_most : {X : Type 0} (n m : ℕ) (xs : List X) → n ≤ m → length (take n xs) ≤ m
length-take_most n m xs h = omega (arith, length-take n xs)

-- what was cut off at n elements has no more
pub length-cut : {X : Type 0} (n : ℕ) (xs ys : List X) → ys ≡ take n xs → length ys ≤ n
length-cut n xs ys e = omega (arith, ap length e, length-take n xs)

take-take_min : {X : Type 0} (xs : List X) (m n : ℕ) → take m (take n xs) ≡ take (min n m) xs
take-take_min xs m n =
    ⊎_elim
    (λ below. let e : min n m ≡ m = omega arith in rw e (take-take m n xs (omega arith)))
    (λ above. let e : min n m ≡ n = omega arith in rw e (take_all m (take n xs) (length-take_most n m xs above)))
    (cases_lt m n)

module _ {X : Type 0} (xs : List X) where
  pub slice_range-front : (a b n : ℕ) → n ≤ b - a → slice_range xs a (a + n) ≡ take n (slice_range xs a b)
  slice_range-front a b n h =
      let e : a + n - a ≡ n = omega arith in
      ap (λ k. take k (drop a xs)) e ∙ sym (take-take n (b - a) (drop a xs) h)

  pub slice_range-rest : (a b n : ℕ) → n ≤ b - a → slice_range xs (a + n) b ≡ drop n (slice_range xs a b)
  slice_range-rest a b n h =
      let e : n + (b - (a + n)) ≡ b - a = omega arith in
      ap (take (b - (a + n))) (sym (drop-drop n a xs)) ∙ sym (drop-take n (b - (a + n)) (drop a xs))
      ∙ ap (λ k. drop n (take k (drop a xs))) e

  -- a part that is cut off at m elements
  pub slice_range-cut : (a b m : ℕ) → slice_range xs a (a + min (b - a) m) ≡ take m (slice_range xs a b)
  slice_range-cut a b m =
      let e : a + min (b - a) m - a ≡ min (b - a) m = omega arith in
      ap (λ k. take k (drop a xs)) e ∙ sym (take-take_min (drop a xs) m (b - a))

-- A part that goes on in what was written behind it
pub slice_range-grown : {X : Type 0} (xs ys : List X) (a b n : ℕ) → a ≤ b → take b ys ≡ take b xs
    → slice_range ys a (b + n) ≡ slice_range xs a b ++ take n (drop b ys)
slice_range-grown {X} xs ys a b n low same =
    let e : b + n - a ≡ (b - a) + n = omega arith in
    let k : a + (b - a) ≡ b = omega arith in
    ap (λ m. take m (drop a ys)) e
    ∙ take-add (b - a) n (drop a ys)
    ∙ ap (λ m. take (b - a) (drop a ys) ++ take n m) (drop-drop (b - a) a ys)
    ∙ ap (λ m. take (b - a) (drop a ys) ++ take n (drop m ys)) k
    ∙ ap (λ l. l ++ take n (drop b ys)) (front ys ∙ ap (drop a) same ∙ sym (front xs))
  where
    front : (zs : List X) → take (b - a) (drop a zs) ≡ drop a (take b zs)
    front zs = between_is zs a b

-- what is given of bytes before a line end
pub take-given_len : (m : ℕ) (line : List ℕ)
    → take (min (length (strip_carriage_return line)) m) line ≡ take m (strip_carriage_return line)
take-given_len m line =
    elim (eqb (get_or line (length line - 1) 0) 13) as
    (λ b. take (min (length (cond b (take (length line - 1) line) line)) m) line ≡ take m
    (cond b (take (length line - 1) line) line)) [
      | true ↦ rw (length-take-le (length line - 1) line (omega arith)) (sym (take-take_min line m (length line - 1)))
      | false ↦ take_min_length
    ]
  where
    take_min_length : take (min (length line) m) line ≡ take m line
    take_min_length = sym (take-take_min line m (length line)) ∙ ap (take m) (take_all (length line) line (omega arith))
