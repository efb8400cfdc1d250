-- Lists that have each number equally often, by the count of `gds_sound`.
use Rattle.std.proofs.Common.{◌≡◌, ℕ, ◌==◌, if◌then◌else◌, List, [], ◌∷◌, refl, sym, ◌∙◌, arith}
use Rattle.std.specs.List.{count_by}
use Rattle.std.proofs.lemmas.List.Sums.{sum_by-cons}
use Rattle.gds_sound.proofs.CountLemmas.{count}
use Rattle.gds_split.specs.Pieces.{AreInAnyOrder}

count_is : (n : ℕ) (xs : List ℕ) → count n xs ≡ count_by (λ m. m == n) xs
count_is n [] = refl
count_is n (x ∷ xs) = omega (arith, count_is n xs, sum_by-cons (λ m. if m == n then 1 else 0) x xs)

pub any_order : (a b : List ℕ) → ((n : ℕ) → count n a ≡ count n b) → AreInAnyOrder a b
any_order a b same n = sym (count_is n a) ∙ same n ∙ count_is n b

pub counts : (a b : List ℕ) → AreInAnyOrder a b → (n : ℕ) → count n a ≡ count n b
counts a b same n = count_is n a ∙ same n ∙ sym (count_is n b)
