-- To be the same is an equivalence: header and maps are equal, so both files say alike which blocks are new.
use Rattle.std.proofs.Common.{◌≡◌, ℕ, ◌+◌, ◌-◌, ◌*◌, ◌/◌, ◌%◌, ◌<◌, ◌≤◌, Bool, false, List, length, take, drop}
use Rattle.std.proofs.Common.{slice_index, refl, sym, ap, ◌∙◌, ⊎_elim, arith, leb, eqb, length-take, get_or-take}
use Rattle.std.proofs.Common.{get_or-drop}
use Rattle.std.specs.Prelude.{◌&&◌, not}
use Rattle.std.proofs.lemmas.Bool.{cases_lt, eq-eqb, lt-leb, and_left, and_right}
use Rattle.std.proofs.lemmas.List.{get_or_past}
use Rattle.std.proofs.lemmas.Nat.{div-mul-add, mod-mul-add}
use Rattle.gds_bitmap.specs.Pairs.{pair_in}
use Rattle.gds_block.specs.Fields.{u32_at}
use Rattle.gds_block.proofs.FieldLemmas.{u32_at-same}
use Rattle.gds_images.specs.Laws.{SameIsEquivalence}
use Rattle.gds_images.specs.Same.{IsSame, is_in_new_block}

-- the byte j of the map of a group, in a file whose blocks have this size
map_byte : ℕ → List ℕ → ℕ → ℕ → ℕ
map_byte size file group j = slice_index (take size (drop (8192 + 512 * group * size) file)) j

abbrev is_new : ℕ → List ℕ → ℕ → Bool
is_new size file block =
    not (eqb (block % 512) 0)
    && eqb (pair_in (map_byte size file (block / 512) (16 + block % 512 / 4)) (block % 512 % 4)) 1

new_by_map : (file : List ℕ) (i : ℕ)
    → is_in_new_block file i ≡ (leb 8192 i && is_new (u32_at file 8) file ((i - 8192) / u32_at file 8))
unfolding is_in_new_block map_byte
new_by_map file i = refl

-- No byte of the header and of a map is in a new block.
header_not_new : (file : List ℕ) (i : ℕ) → i < 8192 → is_in_new_block file i ≡ false
header_not_new file i low = new_by_map file i ∙ and_left (leb 8192 i) _ (lt-leb 8192 i low)

map_not_new : (file : List ℕ) (group j : ℕ) → j < u32_at file 8
    → is_in_new_block file (8192 + (512 * group * u32_at file 8 + j)) ≡ false
map_not_new file group j low =
    let size = u32_at file 8 in
    let i = 8192 + (512 * group * size + j) in
    let offset : i - 8192 ≡ 512 * group * size + j = omega arith in
    let block : (i - 8192) / size ≡ 512 * group = ap (λ n. n / size) offset ∙ div-mul-add (512 * group) size j low in
    let turned : 512 * group ≡ group * 512 + 0 = omega arith in
    let map : (i - 8192) / size % 512 ≡ 0 =
    ap (λ n. n % 512) (block ∙ turned) ∙ mod-mul-add group 512 0 (omega arith) in
    new_by_map file i ∙ and_right (leb 8192 i) (is_new size file ((i - 8192) / size))
    (and_left (not (eqb ((i - 8192) / size % 512) 0)) _ (ap not (eq-eqb ((i - 8192) / size % 512) 0 map)))

module _ (a b : List ℕ) (same : IsSame a b) where
  byte_same : (i : ℕ) → is_in_new_block a i ≡ false → slice_index a i ≡ slice_index b i
  byte_same i old = ⊎_elim
      (λ (within : i < length a). same.bytes i within old)
      (λ (past : length a ≤ i).
      let as_long = same.len in
      get_or_past a i 0 past ∙ sym (get_or_past b i 0 (omega arith)))
      (cases_lt i (length a))

  size_same : u32_at a 8 ≡ u32_at b 8
  size_same = u32_at-same a b 8 8 (λ i lt.
      get_or-drop 8 a i 0 ∙ byte_same (8 + i) (header_not_new a (8 + i) (omega arith)) ∙ sym (get_or-drop 8 b i 0))

  map_same : (group j : ℕ) → map_byte (u32_at a 8) a group j ≡ map_byte (u32_at a 8) b group j
  unfolding map_byte
  map_same group j =
      let size = u32_at a 8 in
      let place = 8192 + 512 * group * size in
      ⊎_elim
      (λ (within : j < size).
      let one : place + j ≡ 8192 + (512 * group * size + j) = omega arith in
      let here : slice_index a (place + j) ≡ slice_index b (place + j) =
      byte_same (place + j) (ap (is_in_new_block a) one ∙ map_not_new a group j within) in
      get_or-take size (drop place a) j 0 within ∙ get_or-drop place a j 0 ∙ here
      ∙ sym (get_or-take size (drop place b) j 0 within ∙ get_or-drop place b j 0))
      (λ (past : size ≤ j).
      get_or_past (take size (drop place a)) j 0 (omega (arith, length-take size (drop place a)))
      ∙ sym (get_or_past (take size (drop place b)) j 0 (omega (arith, length-take size (drop place b)))))
      (cases_lt j size)

  -- Both say alike which bytes are in new blocks.
  pub new_same : (i : ℕ) → is_in_new_block a i ≡ is_in_new_block b i
  new_same i =
      let size = u32_at a 8 in
      let block = (i - 8192) / size in
      let byte = map_same (block / 512) (16 + block % 512 / 4) in
      new_by_map a i
      ∙ ap (λ x. leb 8192 i && (not (eqb (block % 512) 0) && eqb (pair_in x (block % 512 % 4)) 1)) byte
      ∙ ap (λ s. leb 8192 i && is_new s b ((i - 8192) / s)) size_same ∙ sym (new_by_map b i)

pub same_equivalence : SameIsEquivalence
same_equivalence = record {
  reflexive = λ a. record { len = refl; bytes = λ i within old. refl };
  symmetric = λ a b same. record {
    len = sym same.len;
    bytes = λ i within old. sym (byte_same a b same i (new_same a b same i ∙ old));
  };
  transitive = λ a b c first second. record {
    len = first.len ∙ second.len;
    bytes = λ i within old.
        byte_same a b first i old ∙ byte_same b c second i (sym (new_same a b first i) ∙ old);
  };
}
