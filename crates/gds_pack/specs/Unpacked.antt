-- What the bytes of a block say of its entries.
use Rattle.std.specs.Prelude.{ℕ, ◌≡◌, ◌≤◌, ◌+◌, Bool, ◌&&◌, ◌||◌, ◌==◌, nat_lt, if◌then◌else◌, List, [], ◌∷◌}
use Rattle.std.specs.Prelude.{◌++◌, length, take, drop, Option, Some, None, option_map, option_and_then}
use Rattle.gds_block.specs.Block.{level_of, used_of}
use Rattle.gds_block.specs.Record.{Record, full_of, records_of}
use Rattle.gds_block.specs.Item.{Item}
use Rattle.m_key.specs.KeyEnd.{key_within}

-- the item whose key and rest have these bytes together, where the key has an end and at most 255 bytes
abbrev pub item_of : List ℕ → Option Item
item_of full = option_map (λ n. record { key = take n full; rest = drop n full }) (key_within 255 full)

-- A count is below the length of the key before it. It is 0 where no key stands before it.
abbrev pub is_count : List ℕ → ℕ → Bool
is_count previous count = nat_lt count (length previous) || (count == 0)

-- what a record with a key says behind the key before it
abbrev pub leaf_item : List ℕ → Record → Option Item
leaf_item previous r = if is_count previous r.count then item_of (full_of previous r) else None

-- the same in an index block, where the rest is a pointer of 4 bytes
abbrev pub index_item : List ℕ → Record → Option Item
index_item previous r = option_and_then (λ i. if length i.rest == 4 then Some i else None) (leaf_item previous r)

-- the star: a record of size 8 and count 0, which has no key and a pointer
abbrev pub star_item : Record → Option Item
star_item r = if (length r.body == 4) && (r.count == 0) then Some (record { key = []; rest = r.body }) else None

-- what the records of a level-0 block say behind a key, unless one of them can't be read
abbrev pub leaf_items : List ℕ → List Record → Option (List Item)
leaf_items previous [] = Some []
leaf_items previous (r ∷ rs) =
    option_and_then (λ i. option_map (λ is. i ∷ is) (leaf_items i.key rs)) (leaf_item previous r)

-- what those of an index block say, of which the last is the star
abbrev pub index_items : List ℕ → List Record → Option (List Item)
index_items previous [] = None
index_items previous (r ∷ []) = option_map (λ i. i ∷ []) (star_item r)
index_items previous (r ∷ s ∷ rs) =
    option_and_then (λ i. option_map (λ is. i ∷ is) (index_items i.key (s ∷ rs))) (index_item previous r)

-- where records end of which the first begins at this offset
abbrev pub end_of : ℕ → List Record → ℕ
end_of at [] = at
end_of at (r ∷ rs) = end_of (r.offset + 4 + length r.body) rs

-- the entries of a block, unless its records don't reach its used count or one of them can't be read
unfoldable pub entries_of : List ℕ → Option (List Item)
entries_of block =
    if end_of 16 (records_of block) == used_of block
    then (if level_of block == 0 then leaf_items [] (records_of block) else index_items [] (records_of block))
    else None

-- So many bytes of a record's body belong to its key, and it can be read.
pub record IsKeyPart (previous : List ℕ) (r : Record) (n : ℕ) : Type 0 where
  pub count_within : r.count ≤ length previous
  pub within : n ≤ length r.body
  pub short : r.count + n ≤ 255
  pub read : leaf_item previous r ≡ Some (record { key = take r.count previous ++ take n r.body; rest = drop n r.body })
