-- What a block that was written says.
use Rattle.std.proofs.Common.{ℕ, zero, suc, ◌≡◌, ◌+◌, ◌-◌, ◌≤◌, ◌<◌, ◌^◌, true, cond, List, [], ◌∷◌, ◌++◌, length, take}
use Rattle.std.proofs.Common.{drop, Some, None, ◌⊎◌, inl, inr, refl, sym, ◌∙◌, ap, subst, arith, append_assoc}
use Rattle.std.proofs.Common.{length-append, length-drop}
use Rattle.std.specs.Prelude.{◌==◌, ◌&&◌, nat_eq, replicate, option_map, option_and_then}
use Rattle.std.proofs.lemmas.Bool.{and_from, lt-ltb, le-leb, eq-eqb, ne_eqb, or_left, or_right, cond-true, cond-false}
use Rattle.std.proofs.lemmas.List.{take_at, drop_at, drop_all, take-append-drop, drop-take, length-replicate}
use Rattle.std.proofs.lemmas.Nat.{from_le_bytes-to_le_bytes_2, from_le_bytes-to_le_bytes_4}
use Rattle.gds_block.specs.Block.{level_of, used_of, head_bytes, IsBlock}
use Rattle.gds_block.specs.Fields.{u16_at, u32_at, u16_bytes, u32_bytes, u64_bytes}
use Rattle.gds_block.proofs.HeadLemmas.{length-head_bytes}
use Rattle.gds_block.specs.Record.{bytes_left, size_of, least_size, is_well_sized, first_record, records_from}
use Rattle.gds_block.specs.Record.{records_of, AreRecords}
use Rattle.gds_block.proofs.RecordLemmas.{records_from-unique}
use Rattle.gds_block.specs.Item.{Item}
use Rattle.m_key.specs.KeyEnd.{IsKey, shared}
use Rattle.gds_pack.specs.Packed.{record_size, record_bytes, records_size, records_bytes, packed_size, block_bytes}
use Rattle.gds_pack.specs.Packed.{packed_record, packed_records}
use Rattle.gds_pack.specs.Packable.{IsNext, AreLeaves, AreIndex, ArePackable}
use Rattle.gds_pack.specs.Unpacked.{is_count, item_of, leaf_item, index_item, star_item, leaf_items, index_items}
use Rattle.gds_pack.specs.Unpacked.{end_of, entries_of}
use Rattle.m_key.proofs.KeyEndLemmas.{shared-nil, take-shared, shared-below, length-key, key_len-append}
use Rattle.m_key.proofs.KeyEndLemmas.{key_len-take_more}
use Rattle.gds_pack.proofs.SizeLemmas.{length-record_bytes, length-records_bytes}

-- ---- one record

module _ (previous : List ℕ) (i : Item) (tail : List ℕ) (fits : record_size previous i < 2 ^ 16)
    (small : shared previous i.key < 2 ^ 16) where
  size-record_bytes : size_of (record_bytes previous i ++ tail) ≡ record_size previous i
  unfolding record_bytes u16_at u16_bytes
  size-record_bytes = from_le_bytes-to_le_bytes_2 (record_size previous i) fits

  count-record_bytes : u16_at (record_bytes previous i ++ tail) 2 ≡ shared previous i.key
  unfolding record_bytes u16_at u16_bytes
  count-record_bytes = from_le_bytes-to_le_bytes_2 (shared previous i.key) small

  front-record_bytes : take (size_of (record_bytes previous i ++ tail)) (record_bytes previous i ++ tail)
      ≡ record_bytes previous i
  front-record_bytes =
      ap (λ n. take n (record_bytes previous i ++ tail)) size-record_bytes
      ∙ take_at (record_bytes previous i) tail (record_size previous i) (length-record_bytes previous i)

  body-record_bytes : drop 4 (record_bytes previous i) ≡ drop (shared previous i.key) i.key ++ i.rest
  unfolding record_bytes u16_bytes
  body-record_bytes = refl

  first-record_bytes : (offset : ℕ) → first_record offset (record_bytes previous i ++ tail)
      ≡ packed_record offset previous i
  first-record_bytes offset =
      let body = ap (drop 4) front-record_bytes ∙ body-record_bytes in
      λ k. record { offset = offset; count = count-record_bytes k; body = body k }

  rest-record_bytes : drop (record_size previous i) (record_bytes previous i ++ tail) ≡ tail
  rest-record_bytes = drop_at (record_bytes previous i) tail (record_size previous i) (length-record_bytes previous i)

-- ---- a list of them

-- The records of these items are well-sized.
pub record IsSized (level : ℕ) (previous : List ℕ) (i : Item) : Type 0 where
  pub least : least_size level ≤ record_size previous i
  pub fits : record_size previous i < 2 ^ 16
  pub small : shared previous i.key < 2 ^ 16

abbrev pub AreSized : ℕ → List ℕ → List Item → Type 0
AreSized level previous [] = Unit {0}
AreSized level previous (i ∷ is) = IsSized level previous i × AreSized level i.key is

pub AreRecords-packed : (level offset : ℕ) (previous : List ℕ) (is : List Item) → AreSized level previous is
    → AreRecords level offset (records_bytes previous is) (packed_records offset previous is)
AreRecords-packed level offset previous [] h = λ w. absurd (cc)
AreRecords-packed level offset previous (i ∷ is) (h, more) =
    let tail = records_bytes i.key is in
    let left = record_bytes previous i ++ tail in
    let size = size-record_bytes previous i tail h.fits h.small in
    let long : length left ≡ record_size previous i + length tail =
    omega (arith, length-append (record_bytes previous i) tail, length-record_bytes previous i) in
    let well : is_well_sized level left ≡ true =
    and_from _ _ (and_from _ _ (le-leb 4 (length left) (omega arith))
    (le-leb (least_size level) (size_of left) (omega (arith, h.least))))
    (le-leb (size_of left) (length left) (omega arith)) in
    let rest = packed_records (offset + record_size previous i) i.key is in (
      well,
      sym (first-record_bytes previous i tail h.fits h.small offset),
      subst (λ (n : ℕ). AreRecords level (offset + n) (drop n left) rest) (sym size)
          (subst (λ (xs : List ℕ). AreRecords level (offset + record_size previous i) xs rest)
          (sym (rest-record_bytes previous i tail h.fits h.small))
          (AreRecords-packed level (offset + record_size previous i) i.key is more)),
    )

pub length-body : (offset : ℕ) (previous : List ℕ) (i : Item)
    → length (packed_record offset previous i).body + 4 ≡ record_size previous i
length-body offset previous i = simp (length-append, length-drop) (omega arith)

pub end_of-packed : (offset : ℕ) (previous : List ℕ) (is : List Item)
    → end_of offset (packed_records offset previous is) ≡ offset + records_size previous is
end_of-packed offset previous [] = omega arith
end_of-packed offset previous (i ∷ is) =
    let place : offset + 4 + length (packed_record offset previous i).body ≡ offset + record_size previous i =
    omega (arith, length-body offset previous i) in
    ap (λ n. end_of n (packed_records (offset + record_size previous i) i.key is)) place
    ∙ end_of-packed (offset + record_size previous i) i.key is
    ∙ omega arith

-- ---- the items that a block may have

-- No key, or a whole one.
abbrev pub IsBefore : List ℕ → Type 0
IsBefore previous = (previous ≡ []) ⊎ IsKey previous

-- What two neighbouring keys share lets the record be read.
pub record Neighbours (previous : List ℕ) (i : Item) : Type 0 where
  pub lawful : is_count previous (shared previous i.key) ≡ true
  pub below : shared previous i.key < length i.key

pub neighbours : (previous : List ℕ) (i : Item) → IsBefore previous → IsNext previous i → Neighbours previous i
neighbours previous i (inl e) next =
    let long = length-key i.key next.is_key in
    let none : shared previous i.key ≡ 0 = ap (λ p. shared p i.key) e in
    record { lawful = or_right _ _ (eq-eqb _ 0 none); below = omega arith }
neighbours previous i (inr key) next =
    let both = shared-below previous i.key key next.is_key next.above in
    record { lawful = or_left _ _ (lt-ltb _ _ both.0); below = both.1 }

item_of-key : (i : Item) → IsKey i.key → item_of (i.key ++ i.rest) ≡ Some i
item_of-key i key =
    let full = i.key ++ i.rest in
    let n = length i.key in
    ap (option_map (λ m. record { key = take m full; rest = drop m full }))
    (key_len-take_more full 255 n (key_len-append i.key i.rest n key.whole) key.short)
    ∙ ap Some (λ k. record { key = take_at i.key i.rest n refl k; rest = drop_at i.key i.rest n refl k })

leaf_item-packed : (offset : ℕ) (previous : List ℕ) (i : Item) → IsBefore previous → IsNext previous i
    → leaf_item previous (packed_record offset previous i) ≡ Some i
leaf_item-packed offset previous i before next =
    let s = shared previous i.key in
    let full : take s previous ++ (drop s i.key ++ i.rest) ≡ i.key ++ i.rest =
    ap (λ xs. xs ++ (drop s i.key ++ i.rest)) (take-shared previous i.key)
    ∙ sym (append_assoc (take s i.key) (drop s i.key) i.rest)
    ∙ ap (λ xs. xs ++ i.rest) (take-append-drop s i.key) in
    cond-true (is_count previous s) _ _ (neighbours previous i before next).lawful ∙ ap item_of full
    ∙ item_of-key i next.is_key

index_item-packed : (offset : ℕ) (previous : List ℕ) (i : Item) → IsBefore previous → IsNext previous i
    → length i.rest ≡ 4 → index_item previous (packed_record offset previous i) ≡ Some i
index_item-packed offset previous i before next four =
    ap (option_and_then (λ j. cond (nat_eq (length j.rest) 4) (Some j) None))
    (leaf_item-packed offset previous i before next)
    ∙ cond-true (nat_eq (length i.rest) 4) _ _ (eq-eqb _ 4 four)

star_item-packed : (offset : ℕ) (previous : List ℕ) (i : Item) → i.key ≡ [] → length i.rest ≡ 4
    → star_item (packed_record offset previous i) ≡ Some i
star_item-packed offset previous i nokey four =
    let r = packed_record offset previous i in
    let none : shared previous i.key ≡ 0 = ap (shared previous) nokey ∙ shared-nil previous in
    let empty : length i.key ≡ 0 = ap length nokey in
    let body : r.body ≡ i.rest = ap (λ xs. xs ++ i.rest) (drop_all (shared previous i.key) i.key (omega arith)) in
    cond-true ((length r.body == 4) && (r.count == 0)) _ _
    (and_from _ _ (eq-eqb (length r.body) 4 (ap length body ∙ four)) (eq-eqb r.count 0 none))
    ∙ ap Some (λ k. record { key = sym nokey k; rest = body k })

leaf_items-packed : (offset : ℕ) (previous : List ℕ) (is : List Item) → IsBefore previous → AreLeaves previous is
    → leaf_items previous (packed_records offset previous is) ≡ Some is
leaf_items-packed offset previous [] before h = refl
leaf_items-packed offset previous (i ∷ is) before (next, more) =
    let place = offset + record_size previous i in
    ap (option_and_then (λ j. option_map (λ js. j ∷ js) (leaf_items j.key (packed_records place i.key is))))
    (leaf_item-packed offset previous i before next)
    ∙ ap (option_map (λ js. i ∷ js)) (leaf_items-packed place i.key is (inr next.is_key) more)

index_items-packed : (offset : ℕ) (previous : List ℕ) (is : List Item) → IsBefore previous → AreIndex previous is
    → index_items previous (packed_records offset previous is) ≡ Some is
index_items-packed offset previous [] before h = absurd h
index_items-packed offset previous (i ∷ []) before (nokey, four) =
    ap (option_map (λ j. j ∷ [])) (star_item-packed offset previous i nokey four)
index_items-packed offset previous (i ∷ j ∷ is) before (next, four, more) =
    let place = offset + record_size previous i in
    ap (option_and_then (λ k. option_map (λ js. k ∷ js) (index_items k.key (packed_records place i.key (j ∷ is)))))
    (index_item-packed offset previous i before next four)
    ∙ ap (option_map (λ js. i ∷ js)) (index_items-packed place i.key (j ∷ is) (inr next.is_key) more)

eight : (level : ℕ) → least_size (suc level) ≡ 8
eight level = cond-false (nat_eq (suc level) 0) 5 8 (ne_eqb (suc level) 0 (λ e. omega (arith, e)))

AreSized-leaves : (previous : List ℕ) (is : List Item) → IsBefore previous → AreLeaves previous is
    → records_size previous is < 2 ^ 16 → AreSized 0 previous is
AreSized-leaves previous [] before h room = tt
AreSized-leaves previous (i ∷ is) before (next, more) room =
    let near = neighbours previous i before next in (
      record {
        least = omega (arith, near.below);
        fits = omega arith;
        small = omega (arith, near.below, next.is_key.short);
      },
      AreSized-leaves i.key is (inr next.is_key) more (omega arith),
    )

AreSized-index : (level : ℕ) (previous : List ℕ) (is : List Item) → IsBefore previous → AreIndex previous is
    → records_size previous is < 2 ^ 16 → AreSized (suc level) previous is
AreSized-index level previous [] before h room = absurd h
AreSized-index level previous (i ∷ []) before (nokey, four) room =
    let none : shared previous i.key ≡ 0 = ap (shared previous) nokey ∙ shared-nil previous in
    let empty : length i.key ≡ 0 = ap length nokey in (
      record { least = omega (arith, eight level); fits = omega arith; small = omega arith },
      tt,
    )
AreSized-index level previous (i ∷ j ∷ is) before (next, four, more) room =
    let near = neighbours previous i before next in (
      record {
        least = omega (arith, eight level);
        fits = omega arith;
        small = omega (arith, near.below, next.is_key.short);
      },
      AreSized-index level i.key (j ∷ is) (inr next.is_key) more (omega arith),
    )

pub AreSized-packable : (level : ℕ) (is : List Item) → ArePackable level is → packed_size is < 2 ^ 16
    → AreSized level [] is
AreSized-packable zero is h room = AreSized-leaves [] is (inl refl) h (omega arith)
AreSized-packable (suc level) is h room = AreSized-index level [] is (inl refl) h (omega arith)

-- What the packed records say, by the level.
pub items-packed : (level : ℕ) (is : List Item) → ArePackable level is
    → cond (nat_eq level 0) (leaf_items [] (packed_records 16 [] is)) (index_items [] (packed_records 16 [] is))
    ≡ Some is
items-packed zero is h = leaf_items-packed 16 [] is (inl refl) h
items-packed (suc level) is h =
    cond-false (nat_eq (suc level) 0) _ _ (ne_eqb (suc level) 0 (λ e. omega (arith, e)))
    ∙ index_items-packed 16 [] is (inl refl) h

-- ---- a block

module _ (is : List Item) (level tn room : ℕ) (fits : packed_size is ≤ room) (small : room ≤ 65024) where
  pub used_of-block_bytes : used_of (block_bytes is level tn room) ≡ packed_size is
  unfolding block_bytes u32_at u16_bytes u32_bytes
  used_of-block_bytes = from_le_bytes-to_le_bytes_4 (packed_size is) (omega arith)

  pub level_of-block_bytes : level_of (block_bytes is level tn room) ≡ level
  unfolding block_bytes u16_bytes
  level_of-block_bytes = refl

  pub length-block_bytes : length (block_bytes is level tn room) ≡ room
  unfolding block_bytes
  length-block_bytes =
      omega (
        arith,
        length-append (head_bytes level (packed_size is) tn ++ records_bytes [] is)
            (replicate (room - packed_size is) 0),
        length-append (head_bytes level (packed_size is) tn) (records_bytes [] is),
        length-head_bytes level (packed_size is) tn,
        length-records_bytes [] is,
        length-replicate {A = ℕ} (room - packed_size is) 0,
      )

  pub IsBlock-block_bytes : IsBlock (block_bytes is level tn room)
  IsBlock-block_bytes =
      let long = length-block_bytes in
      let used = used_of-block_bytes in
      record { head = omega arith; covered = omega arith; within = omega arith }

  behind_head : drop 16 (block_bytes is level tn room) ≡ records_bytes [] is ++ replicate (room - packed_size is) 0
  unfolding block_bytes u16_bytes u32_bytes u64_bytes
  behind_head = refl

  pub bytes_left-block_bytes : bytes_left (block_bytes is level tn room) 16 ≡ records_bytes [] is
  bytes_left-block_bytes =
      let block = block_bytes is level tn room in
      let size = records_size [] is in
      ap (λ n. drop 16 (take n block)) used_of-block_bytes
      ∙ drop-take 16 size block
      ∙ ap (take size) behind_head
      ∙ take_at (records_bytes [] is) (replicate (room - packed_size is) 0) size (length-records_bytes [] is)

  module _ (packable : ArePackable level is) where
    are_sized : AreSized level [] is
    are_sized = AreSized-packable level is packable (omega arith)

    pub records_of-block_bytes : records_of (block_bytes is level tn room) ≡ packed_records 16 [] is
    records_of-block_bytes =
        (λ k. records_from (level_of-block_bytes k) 16 (bytes_left-block_bytes k))
        ∙ sym (records_from-unique level 16 (records_bytes [] is) (packed_records 16 [] is)
        (AreRecords-packed level 16 [] is are_sized))

    pub entries_of-block_bytes : entries_of (block_bytes is level tn room) ≡ Some is
    unfolding entries_of
    entries_of-block_bytes =
        let block = block_bytes is level tn room in
        let recs = records_of-block_bytes in
        cond-true (nat_eq (end_of 16 (records_of block)) (used_of block)) _ _
        (eq-eqb _ _ (ap (end_of 16) recs ∙ end_of-packed 16 [] is ∙ sym used_of-block_bytes))
        ∙ (λ k. cond (nat_eq (level_of-block_bytes k) 0) (leaf_items [] (recs k)) (index_items [] (recs k)))
        ∙ items-packed level is packable
