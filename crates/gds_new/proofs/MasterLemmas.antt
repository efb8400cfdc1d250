-- The master map of a new database says of each group whether a block of it is free.
use Rattle.std.proofs.Common.{◌≡◌, ℕ, ◌+◌, ◌-◌, ◌*◌, ◌≤◌, ◌<◌, ◌==◌, ◌/◌, ◌%◌, Bool, false, if◌then◌else◌, get_or}
use Rattle.std.proofs.Common.{sym, ap, subst, ◌∙◌, arith}
use Rattle.std.specs.Prelude.{nat_lt}
use Rattle.std.specs.Int.{bit_at}
use Rattle.std.specs.List.{range_with_len, list_any}
use Rattle.std.proofs.lemmas.Bool.{cond-false, ne_eqb, le-ltb}
use Rattle.std.proofs.lemmas.List.Elements.{All-from_get_or}
use Rattle.std.proofs.lemmas.List.Folds.{list_any_none}
use Rattle.std.proofs.lemmas.List.FromFn.{get_or-map-range_with_len, get_or-range_with_len, length-range_with_len}
use Rattle.gds_header.specs.declared.header.Header.{Header}
use Rattle.gds_header.specs.Kinds.{groups_of, has_free, groups_past}
use Rattle.gds_new.specs.NewDatabase.{group_starts_free, byte_of_bits, first_master, new_header}
use Rattle.gds_new.proofs.BitLemmas.{bit_is}

any_none : (test : ℕ → Bool) (from n : ℕ) → ((k : ℕ) → from ≤ k → k < from + n → test k ≡ false)
    → list_any test (range_with_len from n) ≡ false
any_none test from n none =
    list_any_none test (range_with_len from n) (All-from_get_or (λ k. test k ≡ false) (range_with_len from n) 0
    (λ i low. let within : i < n = omega (arith, length-range_with_len from n) in
    subst (λ k. test k ≡ false) (sym (get_or-range_with_len from n i 0 within)) (none (from + i) (omega arith)
    (omega arith))))

module _ (h : Header) where
  master_byte : (group : ℕ) → group < 2048
      → get_or (first_master h) (group / 8) 0 ≡ byte_of_bits (λ j. group_starts_free h (8 * (group / 8) + j))
  unfolding first_master
  master_byte group low =
      get_or-map-range_with_len (λ i. byte_of_bits (λ j. group_starts_free h (8 * i + j))) 0 256 (group / 8)
      (group / 8) 0 (omega arith) (omega arith)

  pub has_free-new : (group : ℕ) → group < 2048 → has_free (new_header h) group ≡ group_starts_free h group
  unfolding new_header
  has_free-new group low =
      let place : 8 * (group / 8) + group % 8 ≡ group = omega arith in
      ap (λ b. bit_at b (group % 8) == 1) (master_byte group low)
      ∙ bit_is (λ j. group_starts_free h (8 * (group / 8) + j)) (group % 8) (omega arith)
      ∙ ap (group_starts_free h) place

  -- the first block of a group that may be free
  pub first_place : (group : ℕ) → 1 ≤ group → (if group == 0 then 3 else 512 * group + 1) ≡ 512 * group + 1
  first_place group some = cond-false (group == 0) 3 (512 * group + 1) (ne_eqb group 0 (λ e. omega (arith, e)))

  none_starts_free : (group : ℕ) → 3 ≤ h.total → groups_of h ≤ group → group_starts_free h group ≡ false
  none_starts_free group some past =
      ap (λ n. nat_lt n h.total) (first_place group (omega arith)) ∙ le-ltb (512 * group + 1) h.total (omega arith)

  pub none_past : 3 ≤ h.total → h.total ≤ 1048576
      → list_any (has_free (new_header h)) (groups_past (new_header h)) ≡ false
  unfolding new_header
  none_past some few =
      any_none (has_free (new_header h)) (groups_of h) (2048 - groups_of h) (λ group from to.
      has_free-new group (omega arith) ∙ none_starts_free group some from)
