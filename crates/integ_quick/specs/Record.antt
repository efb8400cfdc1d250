-- A record of a level-0 block, and when nothing is wrong with it.
use Rattle.std.specs.Prelude.{ℕ, ◌≡◌, ◌+◌, ◌≤◌, true, List, ◌++◌, length, take, drop, Some, None}
use Rattle.gds_block.specs.Fields.{u16_at}
use Rattle.gds_block.specs.Record.{is_well_sized, size_of}
use Rattle.gds_header.specs.declared.header.Header.{Header}
use Rattle.m_key.specs.KeyEnd.{end_within, shared}
use Rattle.m_key.specs.KeyParts.{name_part}
use Rattle.gds_law.specs.Key.{key_fault}
use Rattle.gds_law.specs.Record.{is_below}
use Rattle.integ_quick.specs.Subscripts.{IsKeyOf}

-- The bytes left begin with a well-sized record of this count and this body, and the rest stands behind it.
pub record IsFront (left : List ℕ) (count : ℕ) (body rest : List ℕ) : Type 0 where
  pub sized : is_well_sized 0 left ≡ true
  pub count_field : count ≡ u16_at left 2
  pub bytes : body ≡ drop 4 (take (size_of left) left)
  pub behind : rest ≡ drop (size_of left) left

-- The record's key ends in its body and is this one, and neither the key nor what follows is too long.
pub record EndsIn (header : Header) (previous : List ℕ) (count : ℕ) (body key : List ℕ) : Type 0 where
  pub key_end : ℕ
  pub ends : Some key_end ≡ end_within header.key_max (take count previous) body
  pub within : key_end ≤ length body
  pub short : count + key_end ≤ header.key_max
  pub value : length body ≤ key_end + header.value_max
  pub bytes : key ≡ take count previous ++ take key_end body

-- Nothing is wrong with a record whose key is this one, but perhaps that the key is out of its block's bounds.
pub record Follows (header : Header) (name previous : List ℕ) (count : ℕ) (body key : List ℕ) : Type 0 where
  pub ending : EndsIn header previous count body key
  pub shares : count ≡ shared previous key
  pub rises : is_below previous key ≡ true
  pub right : IsKeyOf name key
  pub named : name_part key ≡ name
  pub faultless : key_fault key ≡ None
