-- What the bit operations do to the four pairs of a byte. A statement on one byte is tested at all 256.
use Rattle.std.proofs.Common.{ℕ, ◌≡◌, ◌-◌, ◌*◌, ◌/◌, ◌%◌, ◌^◌, ◌<◌, Bool, true, false, eqb, ltb, refl, arith}
use Rattle.std.specs.Prelude.{◌&&◌, not, if◌then◌else◌}
use lib.Bits.{bit_and, bit_or}
use lib.Count.{ones, count_trailing_zeros}
use Rattle.std.proofs.lemmas.Bool.{agree_below, agree_below_at, eqb-true, eq-eqb, ne_eqb, ltb-true, lt-ltb, and_parts}
use Rattle.gds_bitmap.specs.Pairs.{pair_in, is_free_in, count_below, NoneFreeIn, IsFirstFreeIn}

-- a test passes at each number below n
abbrev pub passes_below : (ℕ → Bool) → ℕ → Bool
passes_below test n = agree_below test (λ _. true) n

pub passes_at : (test : ℕ → Bool) (n k : ℕ) → passes_below test n ≡ true → k < n → test k ≡ true
passes_at test n k h l = agree_below_at test (λ _. true) n k h l

-- ---- the free pairs among the first ones, counted by their low bits

low_ones : ℕ → ℕ → ℕ
low_ones pairs byte = ones (bit_and byte (85 / 2 ^ (8 - 2 * pairs)))

counts : ℕ → ℕ → Bool
counts pairs byte = eqb (low_ones pairs byte) (count_below (is_free_in byte) pairs)

all_counts : passes_below (λ pairs. passes_below (counts pairs) 256) 5 ≡ true
unfolding counts low_ones ones
all_counts = refl

pub count_of_low_ones : (byte pairs : ℕ) → byte < 256 → pairs < 5
    → ones (bit_and byte (85 / 2 ^ (8 - 2 * pairs))) ≡ count_below (is_free_in byte) pairs
unfolding counts low_ones
count_of_low_ones byte pairs h l =
    eqb-true _ _ (passes_at (counts pairs) 256 byte (passes_at (λ n. passes_below (counts n) 256) 5 pairs all_counts l)
    h)

-- ---- a pair replaced

replaced : ℕ → ℕ → ℕ → ℕ
replaced place pair byte = bit_or (bit_and byte (255 - 3 * 2 ^ (2 * place) % 256)) (pair * 2 ^ (2 * place) % 256)

pair_is : ℕ → ℕ → ℕ → ℕ → Bool
pair_is place pair byte j = eqb (pair_in (replaced place pair byte) j) (if eqb j place then pair else pair_in byte j)

all_replaced : passes_below (λ place. passes_below
    (λ pair. passes_below (λ byte. passes_below (pair_is place pair byte) 4) 256) 4) 4 ≡ true
unfolding pair_is replaced
all_replaced = refl

pub pair_in-replaced : (place pair byte j : ℕ) → place < 4 → pair < 4 → byte < 256 → j < 4
    → pair_in (bit_or (bit_and byte (255 - 3 * 2 ^ (2 * place) % 256)) (pair * 2 ^ (2 * place) % 256)) j
    ≡ (if eqb j place then pair else pair_in byte j)
unfolding pair_is replaced
pair_in-replaced place pair byte j in_byte in_pair fits in_four =
    let at_place = passes_at (λ n. passes_below (λ p. passes_below (λ b. passes_below (pair_is n p b) 4) 256) 4) 4 place
    all_replaced in_byte in
    let at_pair = passes_at (λ p. passes_below (λ b. passes_below (pair_is place p b) 4) 256) 4 pair at_place in_pair in
    let at_byte = passes_at (λ b. passes_below (pair_is place pair b) 4) 256 byte at_pair fits in
    eqb-true _ _ (passes_at (pair_is place pair byte) 4 j at_byte in_four)

-- ---- the first free pair, by the lowest of the low bits

if_true : (b x : Bool) → (if b then x else true) ≡ true → b ≡ true → x ≡ true
if_true true x h e = h
if_true false x h e = cc

if_false : (b x : Bool) → (if b then true else x) ≡ true → b ≡ false → x ≡ true
if_false true x h e = cc
if_false false x h e = h

not_both : (b c : Bool) → not (b && c) ≡ true → b ≡ true → c ≡ true → ⊥
not_both true true h d e = cc
not_both true false h d e = cc
not_both false c h d e = cc

no_low_bit : ℕ → Bool
no_low_bit byte = if eqb (bit_and byte 85) 0 then passes_below (λ j. not (true && is_free_in byte j)) 4 else true

all_no_low_bit : passes_below no_low_bit 256 ≡ true
unfolding no_low_bit
all_no_low_bit = refl

pub NoneFreeIn-from_low_bits : (byte : ℕ) → byte < 256 → bit_and byte 85 ≡ 0 → NoneFreeIn byte 4
unfolding no_low_bit
NoneFreeIn-from_low_bits byte fits none j within free =
    let table = if_true _ _ (passes_at no_low_bit 256 byte all_no_low_bit fits) (eq-eqb _ _ none) in
    not_both true (is_free_in byte j) (passes_at (λ i. not (true && is_free_in byte i)) 4 j table within) refl free

lowest : ℕ → ℕ
lowest byte = count_trailing_zeros 8 (bit_and byte 85) / 2

lowest_is_first : ℕ → Bool
lowest_is_first byte =
    if eqb (bit_and byte 85) 0 then true else
    (ltb (lowest byte) 4 && (is_free_in byte (lowest byte) && passes_below
    (λ i. not (ltb i (lowest byte) && is_free_in byte i)) 4))

all_lowest : passes_below lowest_is_first 256 ≡ true
unfolding lowest_is_first lowest count_trailing_zeros
all_lowest = refl

pub IsFirstFreeIn-lowest : (byte : ℕ) → byte < 256 → (bit_and byte 85 ≡ 0 → ⊥)
    → IsFirstFreeIn byte (count_trailing_zeros 8 (bit_and byte 85) / 2)
unfolding lowest_is_first lowest
IsFirstFreeIn-lowest byte fits some =
    let table = if_false _ _ (passes_at lowest_is_first 256 byte all_lowest fits) (ne_eqb _ _ some) in
    let parts = and_parts _ _ table in
    let more = and_parts _ _ parts.1 in
    let below : lowest byte < 4 = ltb-true _ _ parts.0 in
    record {
      within = below;
      free = more.0;
      first =
          λ j h free. not_both (ltb j (lowest byte)) (is_free_in byte j)
          (passes_at (λ i. not (ltb i (lowest byte) && is_free_in byte i)) 4 j more.1 (omega arith)) (lt-ltb _ _ h)
          free;
    }
