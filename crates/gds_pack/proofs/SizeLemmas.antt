-- Laws of the sizes of records, of their bytes, and of lists of them.
use Rattle.std.proofs.Common.{ℕ, ◌≡◌, ◌+◌, ◌≤◌, List, [], ◌∷◌, ◌++◌, length, refl, arith, length-append, length-drop}
use Rattle.gds_block.specs.Item.{Item}
use Rattle.gds_block.proofs.FieldLemmas.{length-u16_bytes}
use Rattle.gds_pack.specs.Packed.{record_size, record_bytes, records_size, records_bytes, packed_size, key_behind}
use Rattle.m_key.proofs.KeyEndLemmas.{shared-le}

pub length-record_bytes : (previous : List ℕ) (i : Item) → length (record_bytes previous i) ≡ record_size previous i
unfolding record_bytes
length-record_bytes previous i = simp (length-append, length-drop, length-u16_bytes) (omega arith)

pub length-records_bytes : (previous : List ℕ) (is : List Item)
    → length (records_bytes previous is) ≡ records_size previous is
length-records_bytes previous [] = refl
length-records_bytes previous (i ∷ is) =
    omega (
      arith,
      length-append (record_bytes previous i) (records_bytes i.key is),
      length-record_bytes previous i,
      length-records_bytes i.key is,
    )

pub records_size-append : (previous : List ℕ) (xs ys : List Item)
    → records_size previous (xs ++ ys) ≡ records_size previous xs + records_size (key_behind previous xs) ys
records_size-append previous [] ys = omega arith
records_size-append previous (i ∷ xs) ys = omega (arith, records_size-append i.key xs ys)

pub key_behind-append : (previous : List ℕ) (xs ys : List Item)
    → key_behind previous (xs ++ ys) ≡ key_behind (key_behind previous xs) ys
key_behind-append previous [] ys = refl
key_behind-append previous (i ∷ xs) ys = key_behind-append i.key xs ys

-- A key before the records lets the first of them leave bytes out, no more than the key has.
pub records_size-behind : (previous : List ℕ) (is : List Item)
    → (records_size previous is ≤ records_size [] is)
    × (records_size [] is ≤ records_size previous is + length previous)
records_size-behind previous [] = (omega arith, omega arith)
records_size-behind previous (i ∷ is) =
    let le = shared-le previous i.key in
    (omega arith, omega arith)

-- Records have room for the last of their keys, but for bytes that the key before them has.
pub length-key_behind : (previous : List ℕ) (is : List Item)
    → length (key_behind previous is) ≤ length previous + records_size previous is
length-key_behind previous [] = omega arith
length-key_behind previous (i ∷ is) =
    let le = shared-le previous i.key in
    omega (arith, length-key_behind i.key is)

-- A part of a list takes no more than the list.
pub packed_size-front : (xs ys : List Item) → packed_size xs ≤ packed_size (xs ++ ys)
packed_size-front xs ys = omega (arith, records_size-append [] xs ys)

pub packed_size-back : (xs ys : List Item) → packed_size ys ≤ packed_size (xs ++ ys)
packed_size-back xs ys =
    let behind = records_size-behind (key_behind [] xs) ys in
    omega (arith, records_size-append [] xs ys, length-key_behind [] xs, behind.1)
