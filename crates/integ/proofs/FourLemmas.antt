-- Four blocks of a set at once: the half of a byte.
use Rattle.std.proofs.Common.{ℕ, ◌≡◌, ◌+◌, ◌*◌, ◌/◌, ◌%◌, ◌^◌, ◌<◌, ◌≢◌, Bool, true, false, eqb, ltb, List, inl}
use Rattle.std.proofs.Common.{inr, refl, sym, ◌∙◌, ap, arith}
use Rattle.std.specs.Prelude.{◌||◌, ◌&&◌, slice_index}
use Rattle.std.specs.Int.{bit_at}
use lib.Bits.{bit_and, bit_or}
use Rattle.std.proofs.lemmas.Bool.{and_parts, cases_eq, eq-eqb, eqb-true, ne_eqb, ltb-true}
use Rattle.gds_bitmap.proofs.PairLemmas.{passes_below, passes_at}
use Rattle.integ_walk.specs.BlockSet.{has_block}
use Rattle.integ.specs.GroupMap.{in_use}

-- ---- the half of a byte

half_test : ℕ → ℕ → ℕ → Bool
half_test r byte j = eqb (bit_at (bit_and (byte / 2 ^ (4 * r)) 15) j) (bit_at byte (4 * r + j))

all_halves : passes_below (λ r. passes_below (λ byte. passes_below (half_test r byte) 4) 256) 2 ≡ true
unfolding half_test
all_halves = refl

half_bit : (r byte j : ℕ) → r < 2 → byte < 256 → j < 4 → bit_at (bit_and (byte / 2 ^ (4 * r)) 15) j
    ≡ bit_at byte (4 * r + j)
unfolding half_test
half_bit r byte j low fits within =
    let at_half = passes_at (λ n. passes_below (λ b. passes_below (half_test n b) 4) 256) 2 r all_halves low in
    let at_byte = passes_at (λ b. passes_below (half_test r b) 4) 256 byte at_half fits in
    eqb-true _ _ (passes_at (half_test r byte) 4 j at_byte within)

-- ---- the first bit set

first_test : ℕ → ℕ → Bool
first_test four j = eqb (bit_at (bit_or four 1) j) (bit_at four j) || eqb j 0

set_test : ℕ → Bool
set_test four = eqb (bit_at (bit_or four 1) 0) 1 && (ltb (bit_or four 1) 16 && passes_below (first_test four) 4)

all_set : passes_below set_test 16 ≡ true
unfolding set_test first_test
all_set = refl

pub set_small : (four : ℕ) → four < 16 → bit_or four 1 < 16
unfolding set_test
set_small four small = ltb-true _ _ (and_parts _ _ (and_parts _ _ (passes_at set_test 16 four all_set small)).1).0

set_first : (four : ℕ) → four < 16 → bit_at (bit_or four 1) 0 ≡ 1
unfolding set_test
set_first four small = eqb-true _ _ (and_parts _ _ (passes_at set_test 16 four all_set small)).0

or_second : (a b : Bool) → (a || b) ≡ true → b ≡ false → a ≡ true
or_second true b h e = refl
or_second false b h e = absurd (cc)

set_other : (four j : ℕ) → four < 16 → j < 4 → j ≢ 0 → bit_at (bit_or four 1) j ≡ bit_at four j
unfolding set_test first_test
set_other four j small within other =
    let rest = (and_parts _ _ (and_parts _ _ (passes_at set_test 16 four all_set small)).1).1 in
    eqb-true _ _ (or_second _ _ (passes_at (first_test four) 4 j rest within) (ne_eqb j 0 other))

-- ---- the blocks of a byte of a map

module _ (used : List ℕ) (number place byte j : ℕ) (low : place < 128) (within : j < 4)
    (is : byte ≡ slice_index used (64 * number + place / 2)) (fits : byte < 256) where
  abbrev pub block : ℕ
  block = 512 * number + (4 * place + j)

  abbrev pub four : ℕ
  four = bit_and (byte / 2 ^ (4 * (place % 2))) 15

  has_bit : eqb (bit_at four j) 1 ≡ has_block used block
  has_bit =
      let half : place % 2 < 2 = omega arith in
      let in_byte : block / 8 ≡ 64 * number + place / 2 = omega arith in
      let at_bit : block % 8 ≡ 4 * (place % 2) + j = omega arith in
      ap (λ b. eqb b 1)
      (half_bit (place % 2) byte j half fits within
      ∙ (λ i. bit_at (is i) (sym at_bit i))
      ∙ ap (λ m. bit_at (slice_index used m) (block % 8)) (sym in_byte))

  first_in_group : block % 512 ≡ 4 * place + j
  first_in_group = omega arith

  pub bit_else : place ≢ 0 → eqb (bit_at four j) 1 ≡ in_use used block
  bit_else other =
      let no_map : eqb (block % 512) 0 ≡ false =
      ne_eqb (block % 512) 0 (λ e. other (omega (arith, first_in_group, e))) in
      has_bit ∙ sym (ap (λ b. b || has_block used block) no_map)

  pub bit_then : four < 16 → place ≡ 0 → eqb (bit_at (bit_or four 1) j) 1 ≡ in_use used block
  bit_then small first = elim (cases_eq j 0) [
    | inl e ↦
        let map_itself : eqb (block % 512) 0 ≡ true =
        eq-eqb (block % 512) 0 (omega (arith, first_in_group, first, e)) in
        ap (λ b. eqb b 1) (ap (bit_at (bit_or four 1)) e ∙ set_first four small)
        ∙ sym (ap (λ b. b || has_block used block) map_itself)
    | inr other ↦
        let no_map : eqb (block % 512) 0 ≡ false =
        ne_eqb (block % 512) 0 (λ e. other (omega (arith, first_in_group, e))) in
        ap (λ b. eqb b 1) (set_other four j small within other)
        ∙ has_bit ∙ sym (ap (λ b. b || has_block used block) no_map)
  ]
