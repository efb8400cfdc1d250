-- What is known of a level-0 block of a global while its records are read.
use Rattle.std.specs.Prelude.{ℕ, ◌≡◌, ◌+◌, ◌-◌, ◌<◌, false, List, [], length, option_map}
use Rattle.m_key.specs.KeyEnd.{HasOpenFronts}
use Rattle.gds_block.specs.Block.{level_of, used_of}
use Rattle.gds_block.specs.Record.{bytes_left, records_of, records_from}
use Rattle.gds_law.specs.Visit.{global}
use Rattle.gds_law.specs.BlockReading.{BlockReading}
use Rattle.gds_law.specs.Block.{kinds_from}
use Rattle.gds_law.specs.Record.{is_above_bound, is_below_bound}
use Rattle.integ_quick.specs.Subscripts.{IsKeyOf}
use Rattle.integ_quick.specs.declared.leaf.Leaf.{Leaf}

-- The block is read as this leaf, and these are the bytes of its records.
pub record Reads (leaf : Leaf) (b : BlockReading) (bytes left : List ℕ) : Type 0 where
  pub header : b.header ≡ leaf.header.now
  pub role : b.visit.role ≡ global leaf.name.now
  pub low : b.visit.low ≡ option_map (λ key. key.items) leaf.low.now
  pub high : b.visit.high ≡ option_map (λ key. key.items) leaf.high.now
  pub level : b.level ≡ 0
  pub height : level_of bytes ≡ 0
  pub records : left ≡ bytes_left bytes 16
  pub used : length left + 16 ≡ used_of bytes

-- Nothing is wrong with the records so far, the last of which has this key, if that key is below the upper bound: what
-- is told of the block is what is told of the rest.
pub record GoesOn (b : BlockReading) (bytes rest key : List ℕ) : Type 0 where
  pub behind : length rest + 16 < used_of bytes
  pub left : rest ≡ bytes_left bytes (used_of bytes - length rest)
  pub fronts : HasOpenFronts key
  pub not_below : is_below_bound 0 b.visit.low key ≡ false
  pub told : is_above_bound b.visit.high key ≡ false
      → kinds_from b bytes 16 [] (records_of bytes)
      ≡ kinds_from b bytes (used_of bytes - length rest) key (records_from 0 (used_of bytes - length rest) rest)

-- The leaf's records before the rest are read, and the last of them has this key.
pub record IsReadTo (leaf : Leaf) (left rest key : List ℕ) : Type 0 where
  pub right : IsKeyOf leaf.name.now key
  pub goes_on : (b : BlockReading) (bytes : List ℕ) → Reads leaf b bytes left → GoesOn b bytes rest key
