-- A list that is made of pieces of one length.
use Rattle.std.proofs.Common.{◌≡◌, ℕ, zero, suc, ◌+◌, ◌*◌, ◌<◌, List, ◌++◌, length, length-append, take, drop}
use Rattle.std.proofs.Common.{flat_map, sym, ap, ◌∙◌, arith}
use Rattle.std.specs.List.{range_with_len, All}
use Rattle.std.proofs.lemmas.List.{drop-drop, take_at, drop_at}
use Rattle.std.proofs.lemmas.List.Elements.{All-nil, All-append}

module _ (f : ℕ → List ℕ) (size : ℕ) (even : (k : ℕ) → length (f k) ≡ size) where
  pub length-pieces : (from n : ℕ) → length (flat_map f (range_with_len from n)) ≡ n * size
  length-pieces from zero = omega arith
  length-pieces from (suc n) =
      let rest = length-pieces (from + 1) n in
      let more : suc n * size ≡ size + n * size = omega arith in
      length-append (f from) (flat_map f (range_with_len (from + 1) n)) ∙ omega (arith, even from, rest, more)

  -- the piece at a place
  pub piece_at : (from n k : ℕ) → k < n
      → take size (drop (k * size) (flat_map f (range_with_len from n))) ≡ f (from + k)
  piece_at from zero k low = absurd (omega arith)
  piece_at from (suc n) zero low =
      let none : 0 * size ≡ 0 = omega arith in
      let same : from ≡ from + 0 = omega arith in
      ap (λ m. take size (drop m (f from ++ flat_map f (range_with_len (from + 1) n)))) none
      ∙ take_at (f from) (flat_map f (range_with_len (from + 1) n)) size (even from) ∙ ap f same
  piece_at from (suc n) (suc k) low =
      let rest = flat_map f (range_with_len (from + 1) n) in
      let more : suc k * size ≡ size + k * size = omega arith in
      let same : from + 1 + k ≡ from + suc k = omega arith in
      ap (λ m. take size (drop m (f from ++ rest))) more
      ∙ ap (take size) (sym (drop-drop (k * size) size (f from ++ rest)))
      ∙ ap (λ xs. take size (drop (k * size) xs)) (drop_at (f from) rest size (even from))
      ∙ piece_at (from + 1) n k (omega arith) ∙ ap f same

pub All-pieces : (P : ℕ → Type 0) (f : ℕ → List ℕ) → ((k : ℕ) → All P (f k)) → (from n : ℕ)
    → All P (flat_map f (range_with_len from n))
All-pieces P f each from zero = All-nil P
All-pieces P f each from (suc n) =
    All-append P (f from) (flat_map f (range_with_len (from + 1) n)) (each from) (All-pieces P f each (from + 1) n)
