-- What stands at a place of a packed block: the rest of an entry, and the child of an index block.
use Rattle.std.proofs.Common.{ℕ, suc, ◌≡◌, ◌+◌, ◌-◌, ◌≤◌, true, false, List, [], ◌∷◌, ◌++◌, length, take, drop}
use Rattle.std.proofs.Common.{inl, inr, refl, sym, ◌∙◌, ap, subst, arith, append_assoc, length-append, length-drop}
use Rattle.std.specs.Prelude.{All}
use Rattle.std.specs.Ordering.{nat_cmp, is_lt, is_le}
use Rattle.std.specs.Cmp.Lexicographic.{slice_cmp}
use Rattle.std.specs.declared.cmp.Ordering.{Ordering}
use Rattle.std.specs.declared.cmp.Ordering.TheVariants.{Less, Equal, Greater}
use Rattle.std.proofs.lemmas.Bool.{OnTrue_at, OnFalse_at}
use Rattle.std.proofs.lemmas.Cmp.{nat_list_cmp_total, tied_itself}
use Rattle.std.proofs.lemmas.List.{append-nil, drop_at, take_rest}
use Rattle.std.proofs.lemmas.List.Elements.{All-nil, All-cons, All-append, All-head, All-tail}
use Rattle.gds_block.specs.Fields.{u32_at}
use Rattle.gds_block.specs.Record.{Record, StandsIn}
use Rattle.gds_block.specs.Item.{Item}
use Rattle.gds_block.proofs.PlaceLemmas.{All-records_of}
use Rattle.m_key.specs.Key.{AtMost, Below}
use Rattle.m_key.specs.KeyEnd.{IsKey, shared}
use Rattle.m_key.proofs.KeyEndLemmas.{shared-le, length-key}
use Rattle.gds_pack.specs.Packed.{record_size, records_size, packed_size, packed_record, packed_records, key_behind}
use Rattle.gds_pack.specs.Packable.{AreIndex}
use Rattle.gds_pack.proofs.SizeLemmas.{records_size-append}
use Rattle.gds_pack.proofs.ReadLemmas.{length-body}
use Rattle.gds_search.specs.PackedBlock.{IsPackedBlock}
use Rattle.gds_search.specs.Place.{IsBelow, IsPlaceFor, BeginsAt, BeginsAbove}
use Rattle.gds_search.specs.Child.{IsChild}
use Rattle.gds_search.specs.declared.place.Place.{Place}
use Rattle.gds_search.proofs.OrderLemmas.{shared-itself}
use Rattle.gds_search.proofs.PackedLemmas.{records_of-packed}

-- ---- the record of an entry

among : (P : Record → Type 0) (offset n : ℕ) (previous : List ℕ) (before behind : List Item) (own : Item)
    → n ≡ offset + records_size previous before
    → All P (packed_records offset previous (before ++ own ∷ behind))
    → P (packed_record n (key_behind previous before) own)
among P offset n previous [] behind own is h =
    let same : offset ≡ n = omega (arith, is) in
    subst (λ k. P (packed_record k previous own)) same
    (All-head P _ (packed_records (offset + record_size previous own) own.key behind) h)
among P offset n previous (i ∷ before) behind own is h =
    among P (offset + record_size previous i) n i.key before behind own (omega (arith, is))
    (All-tail P (packed_record offset previous i) _ h)

-- The record of each entry stands in the block.
pub entry_stands : (block : List ℕ) (height : ℕ) (es before behind : List Item) (own : Item)
    → IsPackedBlock block height es → es ≡ before ++ own ∷ behind
    → StandsIn block (packed_record (packed_size before) (key_behind [] before) own)
entry_stands block height es before behind own packed parts =
    among (StandsIn block) 16 (packed_size before) [] before behind own refl
    (subst (All (StandsIn block)) (records_of-packed block height es packed ∙ ap (packed_records 16 []) parts)
    (All-records_of block packed.is_block.within))

-- ---- the rest of an entry

module _ (es : List Item) (key : List ℕ) (place : Place) (before behind : List Item) (own : Item)
    (spot : IsPlaceFor es key place before (own ∷ behind)) (equal : place.is_equal ≡ true) where
  abbrev part : List ℕ
  part = drop (shared (key_behind [] before) own.key) own.key

  own_key : own.key ≡ key
  own_key = OnTrue_at equal spot.equal

  -- how many bytes of the record belong to the key
  pub key_part : place.next_shared ≡ place.shared + length part
  key_part =
      omega (
        arith,
        spot.shares,
        spot.next_shares,
        ap (λ k. shared k key) own_key,
        shared-itself key,
        ap (shared (key_behind [] before)) own_key,
        ap length own_key,
        shared-le (key_behind [] before) own.key,
        length-drop (shared (key_behind [] before) own.key) own.key,
      )

  pub part_within : (body : List ℕ) → body ≡ part ++ own.rest → place.next_shared ≤ place.shared + length body
  part_within body is = omega (arith, key_part, ap length is, length-append part own.rest)

  pub rest_is : (body rest : List ℕ) (n : ℕ) → body ≡ part ++ own.rest → place.next_shared ≡ place.shared + n
      → rest ≡ take (length body - n) (drop n body) → rest ≡ own.rest
  rest_is body rest n is parted taken =
      let size : length part ≡ n = omega (arith, parted, key_part) in
      taken ∙ take_rest body n ∙ ap (drop n) is ∙ drop_at part own.rest n size

-- ---- the child

AtMost-Below : (a b : List ℕ) → Below a b → AtMost a b
AtMost-Below a b h = by (slice_cmp nat_cmp a b) h
  where
    by : (o : Ordering) → is_lt o ≡ true → is_le o ≡ true
    by Less h = refl
    by Equal h = refl
    by Greater h = absurd (cc)

AtMost-same : (a b : List ℕ) → a ≡ b → AtMost a b
AtMost-same a b e = subst (AtMost a) e (ap is_le (tied_itself nat_list_cmp_total a))

at_most : (key : List ℕ) (is : List Item) → All (IsBelow key) is → All (λ i. AtMost i.key key) is
at_most key [] h = All-nil (λ i. AtMost i.key key)
at_most key (i ∷ is) h =
    All-cons (λ j. AtMost j.key key) i is (AtMost-Below i.key key (All-head (IsBelow key) i is h).1)
    (at_most key is (All-tail (IsBelow key) i is h))

-- the entries of an index block from one on
index_from : (previous : List ℕ) (before behind : List Item) (own : Item)
    → AreIndex previous (before ++ own ∷ behind)
    → AreIndex (key_behind previous before) (own ∷ behind)
index_from previous [] behind own h = h
index_from previous (i ∷ []) behind own h = index_from i.key [] behind own h.2
index_from previous (i ∷ j ∷ before) behind own h = index_from i.key (j ∷ before) behind own h.2

-- no entry of an index block has a key where the last has none
star_last : (previous key : List ℕ) (is : List Item) → AreIndex previous is → All (IsBelow key) is → ⊥
star_last previous key [] h below = h
star_last previous key (i ∷ []) h below = (All-head (IsBelow key) i [] below).0 h.0
star_last previous key (i ∷ j ∷ is) h below =
    star_last i.key key (j ∷ is) h.2 (All-tail (IsBelow key) i (j ∷ is) below)

pointer_size : (previous : List ℕ) (own : Item) (behind : List Item) → AreIndex previous (own ∷ behind)
    → length own.rest ≡ 4
pointer_size previous own [] h = h.1
pointer_size previous own (i ∷ is) h = h.1

begins_above : (key : List ℕ) (own : Item) (behind : List Item) → AreIndex key (own ∷ behind)
    → BeginsAbove key (own ∷ behind)
begins_above key own [] h = inl h.0
begins_above key own (i ∷ is) h = inr (ap is_lt h.0.above)

module _ (block : List ℕ) (level : ℕ) (es before behind : List Item) (key : List ℕ) (place : Place) (q : IsKey key)
    (packed : IsPackedBlock block (suc level) es) (spot : IsPlaceFor es key place before behind) where
  abbrev last : List ℕ
  last = key_behind [] before

  -- the entry at the place, which an index block always has
  record IsAt (own : Item) (others : List Item) : Type 0 where
    split : behind ≡ own ∷ others
    parts : es ≡ before ++ own ∷ others
    follows : AreIndex last (own ∷ others)

  pub record Own : Type 0 where
    pub entry : Item
    others : List Item
    at : IsAt entry others
    pub size : length entry.rest ≡ 4
    pub stands : StandsIn block (packed_record (packed_size before) last entry)

  pub own : Own
  own = by behind refl
    where
      by : (b : List Item) → behind ≡ b → Own
      by [] e =
          let whole : es ≡ before = spot.parts ∙ ap (λ is. before ++ is) e ∙ append-nil before in
          absurd (star_last [] key es packed.packable (subst (All (IsBelow key)) (sym whole) spot.below))
      by (i ∷ is) e =
          let parts : es ≡ before ++ i ∷ is = spot.parts ∙ ap (λ is. before ++ is) e in
          let follows = index_from [] before is i (subst (AreIndex []) parts packed.packable) in
          record {
            entry = i;
            others = is;
            at = record { split = e; parts = parts; follows = follows };
            size = pointer_size last i is follows;
            stands = entry_stands block (suc level) es before is i packed parts;
          }

  -- where its key is above
  pub IsChild-here : place.is_equal ≡ false
      → IsChild es key (record { offset = place.offset; block = u32_at own.entry.rest 0 })
  IsChild-here other = (
    before,
    own.entry,
    own.others,
    record {
      parts = own.at.parts;
      offset = spot.offset;
      block = refl;
      not_above = at_most key before spot.below;
      above = subst (BeginsAbove key) own.at.split (OnFalse_at other spot.above);
    },
  )

  -- where it has the key, and the next is above
  pub record Next : Type 0 where
    pub entry : Item
    others : List Item
    parts : es ≡ (before ++ own.entry ∷ []) ++ entry ∷ others
    pub size : length entry.rest ≡ 4
    pub stands :
        StandsIn block (packed_record (packed_size (before ++ own.entry ∷ []))
        (key_behind [] (before ++ own.entry ∷ [])) entry)
    above : BeginsAbove key (entry ∷ others)

  module _ (equal : place.is_equal ≡ true) where
    own_is : own.entry.key ≡ key
    own_is = subst (BeginsAt key) own.at.split (OnTrue_at equal spot.equal)

    pub next : Next
    next = by own.others own.at.follows own.at.parts
      where
        by : (others : List Item) → AreIndex last (own.entry ∷ others) → es ≡ before ++ own.entry ∷ others → Next
        by [] h parts = absurd (omega (arith, length-key key q, ap length own_is, ap length h.0))
        by (i ∷ is) h parts =
            let parts : es ≡ (before ++ own.entry ∷ []) ++ i ∷ is =
            parts ∙ sym (append_assoc before (own.entry ∷ []) (i ∷ is)) in
            record {
              entry = i;
              others = is;
              parts = parts;
              size = pointer_size own.entry.key i is h.2;
              stands = entry_stands block (suc level) es (before ++ own.entry ∷ []) is i packed parts;
              above = begins_above key i is (subst (λ k. AreIndex k (i ∷ is)) own_is h.2);
            }

    -- where the next record begins
    pub next_at : (body : List ℕ) → body ≡ (packed_record (packed_size before) last own.entry).body
        → packed_size (before ++ own.entry ∷ []) ≡ place.offset + 4 + length body
    next_at body is =
        omega (
          arith,
          spot.offset,
          ap length is,
          length-body (packed_size before) last own.entry,
          records_size-append [] before (own.entry ∷ []),
        )

    pub IsChild-next : (offset : ℕ) → packed_size (before ++ own.entry ∷ []) ≡ offset
        → IsChild es key (record { offset = offset; block = u32_at next.entry.rest 0 })
    IsChild-next offset at =
        let P = λ (i : Item). AtMost i.key key in (
          before ++ own.entry ∷ [],
          next.entry,
          next.others,
          record {
            parts = next.parts;
            offset = sym at;
            block = refl;
            not_above =
                All-append P before (own.entry ∷ []) (at_most key before spot.below)
                (All-cons P own.entry [] (AtMost-same own.entry.key key own_is) (All-nil P));
            above = next.above;
          },
        )
