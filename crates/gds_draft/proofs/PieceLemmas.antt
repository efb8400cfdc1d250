-- A list is its front and its pieces behind one another, and so is told by them.
use Rattle.std.proofs.Common.{◌≡◌, ℕ, zero, suc, ◌+◌, ◌*◌, ◌<◌, ◌≤◌, List, ◌++◌, length, take, drop, flat_map}
use Rattle.std.proofs.Common.{refl, sym, ap, ◌∙◌, arith}
use Rattle.std.specs.List.{range_with_len}
use Rattle.std.proofs.lemmas.List.{drop-drop, drop_all, length-drop, take-append-drop}

-- Functions that agree at each number of a range make the same list of pieces there.
pub flat_map_agree : (f g : ℕ → List ℕ) (from n : ℕ) → ((k : ℕ) → from ≤ k → k < from + n → f k ≡ g k)
    → flat_map f (range_with_len from n) ≡ flat_map g (range_with_len from n)
flat_map_agree f g from zero same = refl
flat_map_agree f g from (suc n) same =
    let first = same from (omega arith) (omega arith) in
    let rest =
    flat_map_agree f g (from + 1) n (λ k low high. same k (omega (arith, low)) (omega (arith, high))) in
    λ i. first i ++ rest i

-- what stands from a piece on
pieces_from : (size : ℕ) (xs : List ℕ) (from n : ℕ) → length xs ≡ (from + n) * size
    → flat_map (λ k. take size (drop (k * size) xs)) (range_with_len from n) ≡ drop (from * size) xs
pieces_from size xs from zero long =
    let none : (from + 0) * size ≡ from * size = ap (λ k. k * size) (omega arith) in
    sym (drop_all (from * size) xs (omega (arith, long, none)))
pieces_from size xs from (suc n) long =
    let count : (from + suc n) * size ≡ (from + 1 + n) * size = ap (λ k. k * size) (omega arith) in
    let next : (from + 1) * size ≡ from * size + size = omega arith in
    let rest : drop ((from + 1) * size) xs ≡ drop size (drop (from * size) xs) =
    ap (λ m. drop m xs) next ∙ sym (drop-drop size (from * size) xs) in
    ap (λ ys. take size (drop (from * size) xs) ++ ys) (pieces_from size xs (from + 1) n (long ∙ count) ∙ rest)
    ∙ take-append-drop size (drop (from * size) xs)

module _ (at size : ℕ) where
  -- the piece behind the front and behind k others
  abbrev pub piece : List ℕ → ℕ → List ℕ
  piece xs k = take size (drop (at + k * size) xs)

  pub front_and_pieces : (xs : List ℕ) (n : ℕ) → length xs ≡ at + n * size
      → take at xs ++ flat_map (piece xs) (range_with_len 0 n) ≡ xs
  front_and_pieces xs n long =
      let behind : length (drop at xs) ≡ (0 + n) * size = omega (arith, long, length-drop at xs) in
      let there = flat_map_agree (piece xs) (λ k. take size (drop (k * size) (drop at xs))) 0 n
      (λ k low high. ap (take size) (sym (drop-drop (k * size) at xs))) in
      let none : 0 * size ≡ 0 = omega arith in
      let all = pieces_from size (drop at xs) 0 n behind ∙ ap (λ m. drop m (drop at xs)) none in
      ap (λ ys. take at xs ++ ys) (there ∙ all) ∙ take-append-drop at xs

  pub same_by_pieces : (a b : List ℕ) (n : ℕ) → length a ≡ at + n * size → length b ≡ length a
      → take at b ≡ take at a → ((k : ℕ) → k < n → piece b k ≡ piece a k) → b ≡ a
  same_by_pieces a b n long same front each =
      let pieces = flat_map_agree (piece b) (piece a) 0 n (λ k low high. each k (omega (arith, high))) in
      sym (front_and_pieces b n (same ∙ long)) ∙ (λ i. front i ++ pieces i) ∙ front_and_pieces a n long
