-- Which blocks of a new database are free at first: those that the file has but the maps and the blocks 1 and 2.
use Rattle.std.proofs.Common.{◌≡◌, ℕ, ◌≤◌, ◌<◌, ◌%◌, true, false, ◌&&◌, [], ◌∷◌, inl, inr, sym, ap}
use Rattle.std.proofs.Common.{◌∙◌, arith}
use Rattle.std.specs.Prelude.{nat_lt}
use Rattle.std.proofs.lemmas.Bool.{cases_Bool}
use Rattle.std.proofs.lemmas.Bool.Decides.{nat_tests}
use Rattle.gds_header.specs.declared.header.Header.{Header}
use Rattle.gds_sound.specs.Sound.{is_in_use}
use Rattle.gds_new.specs.NewDatabase.{starts_free}

module _ (h : Header) (n : ℕ) where
  pub used_is_busy : is_in_use (1 ∷ 2 ∷ []) n ≡ true → starts_free h n ≡ false
  used_is_busy used = grind (arith, nat_tests)

  pub unused_is_free : nat_lt n h.total ≡ true → is_in_use (1 ∷ 2 ∷ []) n ≡ false → starts_free h n ≡ true
  unused_is_free present unused = grind (arith, nat_tests)

  pub past_is_busy : nat_lt n h.total ≡ false → starts_free h n ≡ false
  past_is_busy past = grind (arith, nat_tests)

  pub map_is_busy : n % 512 ≡ 0 → starts_free h n ≡ false
  map_is_busy map = grind (arith, nat_tests)

  pub other_is_free : 3 ≤ n → n < h.total → (n % 512 ≡ 0 → ⊥) → starts_free h n ≡ true
  other_is_free low high other = grind (arith, nat_tests)

  pub free_is_present : (nat_lt n h.total && starts_free h n) ≡ starts_free h n
  free_is_present = elim (cases_Bool (nat_lt n h.total)) [
    | inl present ↦ ap (λ b. b && starts_free h n) present
    | inr past ↦ ap (λ b. b && starts_free h n) past ∙ sym (past_is_busy past)
  ]
