-- How a change takes some blocks of a file to others, while the rest of the file stays.
use Rattle.std.specs.Prelude.{◌≡◌, ◌≢◌, ℕ, ◌%◌, ◌<◌, ◌≤◌, false, ◌&&◌, ◌||◌, not, IsTrue, List}
use Rattle.gds_header.specs.declared.header.Header.{Header}
use Rattle.gds_header.specs.Fields.{fields_of, block_of}
use Rattle.gds_file.specs.Maps.{has_block, is_busy}

-- The limits on blocks and records stay, and total and transaction number don't fall.
pub record KeepsLimits (old new : Header) : Type 0 where
  pub block_size : new.block_size ≡ old.block_size
  pub key_max : new.key_max ≡ old.key_max
  pub value_max : new.value_max ≡ old.value_max
  pub total : old.total ≤ new.total
  pub tn : old.tn ≤ new.tn

-- Blocks went from the old ones to the new ones: the other busy blocks stay as they were, a new one that is no old one
-- wasn't busy, and afterwards those are busy that were so, without the old ones and with the new ones. Nothing is said
-- of maps.
pub record Reshapes (before after : List ℕ) (old new : List ℕ) : Type 0 where
  pub limits : KeepsLimits (fields_of before) (fields_of after)
  pub stays : (n : ℕ) → n % 512 ≢ 0 → IsTrue (is_busy before n) → has_block old n ≡ false
      → block_of after n ≡ block_of before n
  pub taken : (n : ℕ) → n % 512 ≢ 0 → IsTrue (has_block new n) → has_block old n ≡ false → is_busy before n ≡ false
  pub busy : (n : ℕ) → n < (fields_of after).total → n % 512 ≢ 0
      → is_busy after n ≡ (has_block new n || (is_busy before n && not (has_block old n)))
