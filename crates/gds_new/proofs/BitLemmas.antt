-- The bytes of a new map and of the master map: the four states and the eight bits of a byte are read again.
use Rattle.std.proofs.Common.{◌≡◌, ℕ, zero, suc, ◌+◌, ◌*◌, ◌≤◌, ◌<◌, ◌==◌, ◌/◌, ◌%◌, Bool, true, false}
use Rattle.std.proofs.Common.{refl, ap, ◌∙◌, arith}
use Rattle.std.specs.Int.{bit_at}
use Rattle.gds_bitmap.specs.declared.state.State.{State}
use Rattle.gds_bitmap.specs.declared.state.State.TheVariants.{Busy, New, Illegal, Recycled}
use Rattle.gds_bitmap.specs.State.{code_of}
use Rattle.gds_bitmap.specs.Pairs.{pair_in}
use Rattle.gds_new.specs.NewDatabase.{byte_of_states, bit_of, byte_of_bits}

-- ---- states

code_small : (s : State) → code_of s ≤ 3
code_small Busy = omega arith
code_small New = omega arith
code_small Illegal = omega arith
code_small Recycled = omega arith

pub byte_small : (state : ℕ → State) → byte_of_states state < 256
byte_small state =
    omega (arith, code_small (state 0), code_small (state 1), code_small (state 2), code_small (state 3))

pairs : (a b c d : ℕ) → a ≤ 3 → b ≤ 3 → c ≤ 3 → d ≤ 3
    → ((a + 4 * b + 16 * c + 64 * d) % 4 ≡ a) × ((a + 4 * b + 16 * c + 64 * d) / 4 % 4 ≡ b)
    × ((a + 4 * b + 16 * c + 64 * d) / 16 % 4 ≡ c) × ((a + 4 * b + 16 * c + 64 * d) / 64 % 4 ≡ d)
pairs a b c d h i j k = (omega arith, omega arith, omega arith, omega arith)

module _ (state : ℕ → State) where
  parted : ((byte_of_states state) % 4 ≡ code_of (state 0)) × (byte_of_states state / 4 % 4 ≡ code_of (state 1))
      × (byte_of_states state / 16 % 4 ≡ code_of (state 2)) × (byte_of_states state / 64 % 4 ≡ code_of (state 3))
  parted =
      pairs (code_of (state 0)) (code_of (state 1)) (code_of (state 2)) (code_of (state 3)) (code_small (state 0))
      (code_small (state 1)) (code_small (state 2)) (code_small (state 3))

  pub pair_in-states : (j : ℕ) → j < 4 → pair_in (byte_of_states state) j ≡ code_of (state j)
  pair_in-states zero low = omega (arith, parted.0)
  pair_in-states (suc zero) low = parted.1
  pair_in-states (suc (suc zero)) low = parted.2
  pair_in-states (suc (suc (suc zero))) low = parted.3
  pair_in-states (suc (suc (suc (suc j)))) low = absurd (omega arith)

-- ---- bits

bit_small : (b : Bool) → bit_of b ≤ 1
bit_small true = omega arith
bit_small false = omega arith

bit_read : (b : Bool) → (bit_of b == 1) ≡ b
bit_read true = refl
bit_read false = refl

record AreBits (n a b c d e f g h : ℕ) : Type 0 where
  bit0 : n % 2 ≡ a
  bit1 : n / 2 % 2 ≡ b
  bit2 : n / 4 % 2 ≡ c
  bit3 : n / 8 % 2 ≡ d
  bit4 : n / 16 % 2 ≡ e
  bit5 : n / 32 % 2 ≡ f
  bit6 : n / 64 % 2 ≡ g
  bit7 : n / 128 % 2 ≡ h
  small : n < 256

bits : (a b c d e f g h : ℕ) → a ≤ 1 → b ≤ 1 → c ≤ 1 → d ≤ 1 → e ≤ 1 → f ≤ 1 → g ≤ 1 → h ≤ 1
    → AreBits (a + 2 * b + 4 * c + 8 * d + 16 * e + 32 * f + 64 * g + 128 * h) a b c d e f g h
bits a b c d e f g h i j k l m n o p = record {
  bit0 = omega arith;
  bit1 = omega arith;
  bit2 = omega arith;
  bit3 = omega arith;
  bit4 = omega arith;
  bit5 = omega arith;
  bit6 = omega arith;
  bit7 = omega arith;
  small = omega arith;
}

module _ (bit : ℕ → Bool) where
  are_bits : AreBits (byte_of_bits bit) (bit_of (bit 0)) (bit_of (bit 1)) (bit_of (bit 2)) (bit_of (bit 3))
      (bit_of (bit 4)) (bit_of (bit 5)) (bit_of (bit 6)) (bit_of (bit 7))
  are_bits =
      bits (bit_of (bit 0)) (bit_of (bit 1)) (bit_of (bit 2)) (bit_of (bit 3)) (bit_of (bit 4)) (bit_of (bit 5))
      (bit_of (bit 6)) (bit_of (bit 7)) (bit_small (bit 0)) (bit_small (bit 1)) (bit_small (bit 2)) (bit_small (bit 3))
      (bit_small (bit 4)) (bit_small (bit 5)) (bit_small (bit 6)) (bit_small (bit 7))

  pub bits_small : byte_of_bits bit < 256
  bits_small = are_bits.small

  bit_at-bits : (j : ℕ) → j < 8 → bit_at (byte_of_bits bit) j ≡ bit_of (bit j)
  bit_at-bits zero low = omega (arith, are_bits.bit0)
  bit_at-bits (suc zero) low = are_bits.bit1
  bit_at-bits (suc (suc zero)) low = are_bits.bit2
  bit_at-bits (suc (suc (suc zero))) low = are_bits.bit3
  bit_at-bits (suc (suc (suc (suc zero)))) low = are_bits.bit4
  bit_at-bits (suc (suc (suc (suc (suc zero))))) low = are_bits.bit5
  bit_at-bits (suc (suc (suc (suc (suc (suc zero)))))) low = are_bits.bit6
  bit_at-bits (suc (suc (suc (suc (suc (suc (suc zero))))))) low = are_bits.bit7
  bit_at-bits (suc (suc (suc (suc (suc (suc (suc (suc j)))))))) low = absurd (omega arith)

  pub bit_is : (j : ℕ) → j < 8 → (bit_at (byte_of_bits bit) j == 1) ≡ bit j
  bit_is j low = ap (λ n. n == 1) (bit_at-bits j low) ∙ bit_read (bit j)
