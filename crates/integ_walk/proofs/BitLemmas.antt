-- The bits of a set of blocks.
use Rattle.std.proofs.Common.{◌≡◌, ◌≢◌, ℕ, ◌*◌, ◌/◌, ◌%◌, ◌^◌, ◌<◌, ◌≤◌, ◌==◌, not, ◌||◌, List}
use Rattle.std.proofs.Common.{length, inl, inr, refl, sym, ap, subst, ◌∙◌, arith, w8, bit_and, bit_or, slice_set}
use Rattle.std.proofs.Common.{one-mul, zero-mul}
use Rattle.std.specs.Prelude.{slice_index}
use Rattle.std.specs.Int.{bit_at}
use Rattle.std.proofs.lemmas.Bool.{cases_eq, eq-eqb, ne_eqb, or_left}
use Rattle.std.proofs.lemmas.List.{get_or-set_same, get_or-set_other}
use Rattle.std.proofs.lemmas.Nat.{pow_pos}
use Rattle.std.proofs.lemmas.Nat.Bits.{and_pow, bit_at-lt, bit_at_set_same, bit_at_set_other}
use Rattle.std.proofs.Math.Nat.{mod-eq_of_lt, pow-le-pow_right, div-add-mod}
use Rattle.integ_walk.specs.BlockSet.{has_block}

-- the byte with one bit, as it is computed
bit_is : (k : ℕ) → k < 8 → 1 * 2 ^ k % 256 ≡ 2 ^ k
bit_is k h =
    let low : 2 ^ k ≤ 2 ^ 7 = pow-le-pow_right {n = 2} (omega arith) {i = k} {j = 7} (omega arith) in
    ap (λ n. n % 256) (one-mul (2 ^ k)) ∙ mod-eq_of_lt (omega (arith, low))

no_bit : (bit k : ℕ) → bit < 2 → (bit * 2 ^ k == 0) ≡ not (bit == 1)
no_bit bit k h =
    elim (cases_eq bit 1) [
      | inl one ↦
          let some = pow_pos k in
          let e : bit * 2 ^ k ≡ 2 ^ k = ap (λ n. n * 2 ^ k) one ∙ one-mul (2 ^ k) in
          ne_eqb (bit * 2 ^ k) 0 (λ z. omega (arith, z, e, some)) ∙ ap not (sym (eq-eqb bit 1 one))
      | inr other ↦
          let none : bit ≡ 0 = omega (arith, h, other) in
          eq-eqb (bit * 2 ^ k) 0 (ap (λ n. n * 2 ^ k) none ∙ zero-mul (2 ^ k)) ∙ ap not (sym (ne_eqb bit 1 other))
    ]

pub is_new : (byte k : ℕ) → k < 8 → (bit_and byte (1 * 2 ^ k % 256) == 0) ≡ not (bit_at byte k == 1)
is_new byte k h =
    ap (λ m. bit_and byte m == 0) (bit_is k h) ∙ ap (λ m. m == 0) (and_pow byte k)
    ∙ no_bit (bit_at byte k) k (bit_at-lt byte k)

-- Another block is another bit or stands in another byte.
other_bit : (a b : ℕ) → a ≢ b → a / 8 ≡ b / 8 → a % 8 ≢ b % 8
other_bit a b n same e = n (omega (arith, div-add-mod a 8, div-add-mod b 8, same, e))

pub one_more : (bytes : List ℕ) (byte block b : ℕ) → block / 8 < length bytes → byte ≡ slice_index bytes (block / 8)
    → has_block (slice_set bytes (block / 8) (bit_or byte (1 * 2 ^ (block % 8) % 256))) b
    ≡ ((b == block) || has_block bytes b)
one_more bytes byte block b within is =
    let low : block % 8 < 8 = omega arith in
    let new = bit_or byte (1 * 2 ^ (block % 8) % 256) in
    elim (cases_eq b block) [
      | inl e ↦
          subst (λ x. has_block (slice_set bytes (block / 8) new) x ≡ ((x == block) || has_block bytes x)) (sym e)
          (ap (λ y. bit_at y (block % 8) == 1) (get_or-set_same bytes (block / 8) new 0 within)
          ∙ eq-eqb (bit_at new (block % 8)) 1 (bit_at_set_same w8 byte (block % 8) low)
          ∙ sym (or_left (block == block) (has_block bytes block) (eq-eqb block block refl)))
      | inr other ↦
          elim (cases_eq (b / 8) (block / 8)) [
            | inl same ↦
                ap (λ i. bit_at (slice_index (slice_set bytes (block / 8) new) i) (b % 8) == 1) same
                ∙ ap (λ y. bit_at y (b % 8) == 1) (get_or-set_same bytes (block / 8) new 0 within)
                ∙ ap (λ n. n == 1) (bit_at_set_other w8 byte (block % 8) low (b % 8) (other_bit b block other same))
                ∙ ap (λ y. bit_at y (b % 8) == 1) is
                ∙ ap (λ i. bit_at (slice_index bytes i) (b % 8) == 1) (sym same)
                ∙ sym (ap (λ t. t || has_block bytes b) (ne_eqb b block other))
            | inr apart ↦
                ap (λ y. bit_at y (b % 8) == 1) (get_or-set_other bytes (block / 8) (b / 8) new 0 apart)
                ∙ sym (ap (λ t. t || has_block bytes b) (ne_eqb b block other))
          ]
    ]
