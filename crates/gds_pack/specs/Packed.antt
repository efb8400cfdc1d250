-- The bytes of a block with given entries. An item stands behind a key, the empty one for the first item.
use Rattle.std.specs.Prelude.{ℕ, ◌+◌, ◌-◌, List, [], ◌∷◌, ◌++◌, length, drop, replicate}
use Rattle.gds_block.specs.Fields.{u16_bytes}
use Rattle.gds_block.specs.Block.{head_bytes}
use Rattle.gds_block.specs.Record.{Record}
use Rattle.gds_block.specs.Item.{Item}
use Rattle.m_key.specs.KeyEnd.{shared}

-- the size of the record of an item behind a key
abbrev pub record_size : List ℕ → Item → ℕ
record_size previous i = 4 + (length i.key - shared previous i.key) + length i.rest

-- that record: its size, the count of leading bytes that the keys share, the rest of the key, and what follows
unfoldable pub record_bytes : List ℕ → Item → List ℕ
record_bytes previous i =
    u16_bytes (record_size previous i) ++ u16_bytes (shared previous i.key) ++ drop (shared previous i.key) i.key
    ++ i.rest

-- the records of items behind a key, and how many bytes they have
abbrev pub records_bytes : List ℕ → List Item → List ℕ
records_bytes previous [] = []
records_bytes previous (i ∷ is) = record_bytes previous i ++ records_bytes i.key is

abbrev pub records_size : List ℕ → List Item → ℕ
records_size previous [] = 0
records_size previous (i ∷ is) = record_size previous i + records_size i.key is

-- how many bytes of a block are used where it has these items: the head and their records
abbrev pub packed_size : List Item → ℕ
packed_size items = 16 + records_size [] items

-- the block with these items, of this level and transaction number, in so many bytes
unfoldable pub block_bytes : List Item → ℕ → ℕ → ℕ → List ℕ
block_bytes items level tn room =
    head_bytes level (packed_size items) tn ++ records_bytes [] items ++ replicate (room - packed_size items) 0

-- the record of an item behind a key, at an offset
abbrev pub packed_record : ℕ → List ℕ → Item → Record
packed_record offset previous i =
    record { offset = offset; count = shared previous i.key; body = drop (shared previous i.key) i.key ++ i.rest }

-- the records of items behind a key, one after the other from an offset on
abbrev pub packed_records : ℕ → List ℕ → List Item → List Record
packed_records offset previous [] = []
packed_records offset previous (i ∷ is) =
    packed_record offset previous i ∷ packed_records (offset + record_size previous i) i.key is

-- the key that an item behind these, which stand behind a key, has before it
abbrev pub key_behind : List ℕ → List Item → List ℕ
key_behind previous [] = previous
key_behind previous (i ∷ is) = key_behind i.key is

-- the key of the first of these, the empty one where there is none
abbrev pub first_key : List Item → List ℕ
first_key [] = []
first_key (i ∷ is) = i.key
