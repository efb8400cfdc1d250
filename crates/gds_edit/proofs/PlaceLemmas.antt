-- What stands at the place of an entry of a packed block.
use Rattle.std.proofs.Common.{ℕ, ◌≡◌, ◌+◌, ◌≤◌, List, [], ◌∷◌, ◌++◌, length, take, drop, refl, sym, ◌∙◌, ap}
use Rattle.std.proofs.Common.{arith, append_assoc, length-append, length-drop}
use Rattle.std.proofs.lemmas.List.{take_at, drop_at, drop-drop, drop-append-le}
use Rattle.gds_block.specs.Block.{used_of}
use Rattle.gds_block.specs.Fields.{u16_at, u16_bytes}
use Rattle.gds_block.specs.Item.{Item}
use Rattle.gds_block.proofs.FieldLemmas.{length-u16_bytes, u16_at-here, u16_at-front}
use Rattle.m_key.specs.KeyEnd.{shared}
use Rattle.m_key.proofs.KeyEndLemmas.{shared-le}
use Rattle.gds_pack.specs.Packed.{record_size, record_bytes, records_size, records_bytes, packed_size, key_behind}
use Rattle.gds_pack.proofs.SizeLemmas.{length-records_bytes, records_size-append, length-key_behind}
use Rattle.gds_search.specs.PackedBlock.{IsPackedBlock}
use Rattle.gds_edit.specs.Reading.{StandsAt}

pub records_bytes-append : (previous : List ℕ) (xs ys : List Item)
    → records_bytes previous (xs ++ ys) ≡ records_bytes previous xs ++ records_bytes (key_behind previous xs) ys
records_bytes-append previous [] ys = refl
records_bytes-append previous (i ∷ xs) ys =
    ap (λ bytes. record_bytes previous i ++ bytes) (records_bytes-append i.key xs ys)
    ∙ sym (append_assoc (record_bytes previous i) (records_bytes i.key xs) (records_bytes (key_behind i.key xs) ys))

-- The used bytes of a packed block, parted at a place.
module _ (block : List ℕ) (height : ℕ) (a b : List Item) (packed : IsPackedBlock block height (a ++ b)) where
  all_left : drop 16 (take (used_of block) block) ≡ records_bytes [] a ++ records_bytes (key_behind [] a) b
  all_left = packed.records ∙ records_bytes-append [] a b

  pub left_before : take (records_size [] a) (drop 16 (take (used_of block) block)) ≡ records_bytes [] a
  left_before =
      ap (take (records_size [] a)) all_left
      ∙ take_at (records_bytes [] a) (records_bytes (key_behind [] a) b) (records_size [] a) (length-records_bytes [] a)

  pub left_behind : drop (packed_size a) (take (used_of block) block) ≡ records_bytes (key_behind [] a) b
  left_behind =
      sym (drop-drop (records_size [] a) 16 (take (used_of block) block))
      ∙ ap (drop (records_size [] a)) all_left
      ∙ drop_at (records_bytes [] a) (records_bytes (key_behind [] a) b) (records_size [] a) (length-records_bytes [] a)

  pub used_parts : used_of block ≡ packed_size a + records_size (key_behind [] a) b
  used_parts = packed.used ∙ omega (arith, records_size-append [] a b)

-- a record, field by field
pub record_bytes-parts : (previous : List ℕ) (i : Item) (tail : List ℕ)
    → record_bytes previous i ++ tail
    ≡ u16_bytes (record_size previous i) ++ (u16_bytes (shared previous i.key)
    ++ (drop (shared previous i.key) i.key ++ (i.rest ++ tail)))
unfolding record_bytes
record_bytes-parts previous i tail = simp append_assoc refl

-- What an entry's record has behind its size and count, and behind more bytes of its key.
pub record_bytes-behind : (previous : List ℕ) (i : Item) (tail : List ℕ) (n : ℕ)
    → shared previous i.key + n ≤ length i.key
    → drop (4 + n) (record_bytes previous i ++ tail) ≡ drop (shared previous i.key + n) i.key ++ (i.rest ++ tail)
record_bytes-behind previous i tail n h =
    let s = shared previous i.key in
    let one = u16_bytes (record_size previous i) in
    let two = u16_bytes s in
    let body = drop s i.key ++ (i.rest ++ tail) in
    let head : length (one ++ two) ≡ 4 =
    omega (arith, length-append one two, length-u16_bytes (record_size previous i), length-u16_bytes s) in
    sym (drop-drop n 4 (record_bytes previous i ++ tail))
    ∙ ap (λ xs. drop n (drop 4 xs)) (record_bytes-parts previous i tail ∙ sym (append_assoc one two body))
    ∙ ap (drop n) (drop_at (one ++ two) body 4 head)
    ∙ drop-append-le n (drop s i.key) (i.rest ++ tail) (omega (arith, length-drop s i.key))
    ∙ ap (λ xs. xs ++ (i.rest ++ tail)) (drop-drop n s i.key)

module _ (block : List ℕ) (height : ℕ) (a b : List Item) (i : Item)
    (packed : IsPackedBlock block height (a ++ i ∷ b)) where
  -- an entry's record stands at its place
  pub stands_here : drop (packed_size a) (take (used_of block) block)
      ≡ record_bytes (key_behind [] a) i ++ records_bytes i.key b
  stands_here = left_behind block height a (i ∷ b) packed

  pub ends_here : packed_size a + record_size (key_behind [] a) i + records_size i.key b ≡ used_of block
  ends_here = omega (arith, used_parts block height a (i ∷ b) packed)

  within : (used_of block ≤ length block) × (length block ≤ 65024)
  within = (packed.is_block.within, packed.room)

  pub size_here : u16_at block (packed_size a) ≡ record_size (key_behind [] a) i
  size_here =
      let at = packed_size a in
      let ends = ends_here in
      let room = within in
      sym (u16_at-front (used_of block) block at (omega arith))
      ∙ u16_at-here (take (used_of block) block) _ at (record_size (key_behind [] a) i) (omega arith)
      (stands_here ∙ record_bytes-parts (key_behind [] a) i (records_bytes i.key b))

  pub count_here : u16_at block (packed_size a + 2) ≡ shared (key_behind [] a) i.key
  count_here =
      let at = packed_size a in
      let p = key_behind [] a in
      let ends = ends_here in
      let room = within in
      let le = shared-le p i.key in
      let one = u16_bytes (record_size p i) in
      let more = drop (shared p i.key) i.key ++ (i.rest ++ records_bytes i.key b) in
      let here : drop (at + 2) (take (used_of block) block) ≡ u16_bytes (shared p i.key) ++ more =
      sym (drop-drop 2 at (take (used_of block) block))
      ∙ ap (drop 2) (stands_here ∙ record_bytes-parts p i (records_bytes i.key b))
      ∙ drop_at one (u16_bytes (shared p i.key) ++ more) 2 (length-u16_bytes (record_size p i)) in
      sym (u16_at-front (used_of block) block (at + 2) (omega arith))
      ∙ u16_at-here (take (used_of block) block) more (at + 2) (shared p i.key)
      (omega (arith, le.0, length-key_behind [] a)) here

  pub stands : StandsAt block (packed_size a) (used_of block)
  stands =
      let size = size_here in
      let ends = ends_here in
      record { behind_head = omega arith; least = omega arith; within = omega arith }
