-- The blocks of a file as its units: both say the same of a block's place and its bytes.
use Rattle.std.proofs.Common.{◌≡◌, ℕ, ◌+◌, ◌-◌, ◌*◌, ◌==◌, false, List, [], ◌∷◌, take, drop, refl, ◌∙◌, arith}
use Rattle.std.specs.Int.{w32, from_le_bytes}
use Rattle.std.proofs.lemmas.Bool.{ne_eqb, cond-false}
use Rattle.host_model.specs.Units.{block_length, unit_length, unit_place, unit_bytes}
use Rattle.gds_block.specs.Fields.{u32_at}
use Rattle.gds_header.specs.Fields.{fields_of, place_of, block_of}

-- The number in four bytes is read from no more than these.
four_bytes : (bytes : List ℕ) → from_le_bytes w32 (take 4 bytes) ≡ from_le_bytes w32 bytes
four_bytes [] = refl
four_bytes (a ∷ []) = refl
four_bytes (a ∷ b ∷ []) = refl
four_bytes (a ∷ b ∷ c ∷ []) = refl
four_bytes (a ∷ b ∷ c ∷ d ∷ bytes) = refl

-- The units' length of a block is the header's block size.
pub block_length-is : (file : List ℕ) → block_length file ≡ (fields_of file).block_size
unfolding u32_at
block_length-is file = four_bytes (drop 8 file)

not_header : (block : ℕ) → (block + 1 == 0) ≡ false
not_header block = ne_eqb (block + 1) 0 (λ e. omega (arith, e))

pub length_at : (file : List ℕ) (block : ℕ) → unit_length file (block + 1) ≡ (fields_of file).block_size
length_at file block = cond-false (block + 1 == 0) _ _ (not_header block) ∙ block_length-is file

pub place_at : (file : List ℕ) (block : ℕ) → unit_place file (block + 1) ≡ place_of (fields_of file) block
place_at file block =
    let one : block + 1 - 1 ≡ block = omega arith in
    cond-false (block + 1 == 0) _ _ (not_header block) ∙ (λ i. 8192 + one i * block_length-is file i)

-- Unit n + 1 is block n.
pub unit_is : (file : List ℕ) (block : ℕ) → unit_bytes file (block + 1) ≡ block_of file block
unit_is file block = λ i. take (length_at file block i) (drop (place_at file block i) file)
