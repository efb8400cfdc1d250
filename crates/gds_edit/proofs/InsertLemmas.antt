-- An entry's record put before another's.
use Rattle.std.proofs.Common.{ℕ, zero, suc, ◌≡◌, ◌+◌, ◌-◌, ◌≤◌, List, [], ◌∷◌, ◌++◌, length, take, drop, refl, sym}
use Rattle.std.proofs.Common.{◌∙◌, ap, subst, arith, append_assoc, length-append, length-take, length-drop}
use Rattle.std.specs.declared.result.Result.{Result}
use Rattle.std.proofs.lemmas.List.{drop-drop, drop_all, append-nil}
use Rattle.gds_block.specs.Block.{used_of}
use Rattle.gds_block.specs.Fields.{u16_at, u16_bytes, with_bytes}
use Rattle.gds_block.specs.Item.{Item}
use Rattle.gds_block.proofs.FieldLemmas.{length-u16_bytes}
use Rattle.m_key.specs.KeyEnd.{shared}
use Rattle.m_key.proofs.KeyEndLemmas.{shared-le}
use Rattle.gds_pack.specs.Packed.{record_size, record_bytes, records_bytes, packed_size, key_behind, first_key}
use Rattle.gds_pack.specs.Packable.{ArePackable, AreLeaves, AreIndex}
use Rattle.gds_pack.proofs.SizeLemmas.{length-record_bytes, records_size-append}
use Rattle.gds_pack.proofs.BoundLemmas.{share}
use Rattle.gds_search.specs.PackedBlock.{IsPackedBlock}
use Rattle.gds_search.specs.Place.{IsPlaceFor}
use Rattle.gds_search.specs.declared.place.Place.{Place}
use Rattle.gds_edit.specs.Reading.{StandsAt, new_bytes}
use Rattle.gds_edit.specs.Edited.{IsEdited, IsMoved, IsEdit}
use Rattle.gds_edit.specs.declared.error.EditError.{EditError}
use Rattle.gds_edit.specs.Inserted.{IsRecordFor, IsHeadFor}
use Rattle.gds_edit.specs.declared.record.RecordHead.{RecordHead}
use Rattle.gds_edit.specs.declared.record.NewRecord.{NewRecord}
use Rattle.gds_edit.proofs.SharedLemmas.{shared-turned}
use Rattle.gds_edit.proofs.PutLemmas.{with_bytes-then}
use Rattle.gds_edit.proofs.PlaceLemmas.{record_bytes-parts, record_bytes-behind, stands_here, ends_here, used_parts}
use Rattle.gds_edit.proofs.PlaceLemmas.{stands, size_here, count_here}
use Rattle.gds_edit.proofs.EditLemmas.{IsEdited-put}

-- The new record is that of the entry.
module _ (previous : List ℕ) (e : Item) (r : NewRecord) (is : IsRecordFor previous e r) where
  pub size-new : 4 + length r.key.now + length r.rest.now ≡ record_size previous e
  size-new = omega (arith, ap length is.end, ap length is.rest, length-drop (shared previous e.key) e.key)

  pub bytes-new : new_bytes r.count r.key.now r.rest.now ≡ record_bytes previous e
  unfolding record_bytes
  bytes-new = λ k. u16_bytes (size-new k) ++ u16_bytes (is.counted k) ++ is.end k ++ is.rest k

-- A record behind all others.
module _ (old : List ℕ) (height : ℕ) (a : List Item) (e : Item) (packed : IsPackedBlock old height a)
    (used : ℕ) (all : used ≡ used_of old) where
  nothing_more : drop used (take used old) ≡ []
  nothing_more = drop_all used (take used old) (omega (arith, length-take used old))

  pub size_of_last : used + record_size (key_behind [] a) e + (used - used) ≡ packed_size (a ++ e ∷ [])
  size_of_last = omega (arith, packed.used, records_size-append [] a (e ∷ []))

  pub IsEdited-last : (moved new : List ℕ) (to : ℕ) → IsMoved old moved used to used
      → to ≡ used + record_size (key_behind [] a) e → new ≡ with_bytes moved used (record_bytes (key_behind [] a) e)
      → ArePackable height (a ++ e ∷ []) → IsEdited old new height (a ++ e ∷ [])
  IsEdited-last moved new to m ends put packable =
      let p = key_behind [] a in
      IsEdited-put old moved new used to used m (record_bytes p e) used (omega (arith, packed.used))
      (omega (arith, length-record_bytes p e)) put height a [] (e ∷ [])
      (subst (IsPackedBlock old height) (sym (append-nil a)) packed) (all ∙ packed.used) all packable
      (ap (λ xs. record_bytes p e ++ xs) nothing_more)

-- A record before another, which shares so many more bytes with the new key.
module _ (old : List ℕ) (height : ℕ) (a b : List Item) (e i : Item) (packed : IsPackedBlock old height (a ++ i ∷ b))
    (at used more : ℕ) (place : at ≡ packed_size a) (all : used ≡ used_of old)
    (shares : shared (key_behind [] a) i.key + more ≡ shared e.key i.key) where
  pub size_of_before : at + record_size (key_behind [] a) e + 4 + (used - (at + 4 + more))
      ≡ packed_size (a ++ e ∷ i ∷ b)
  size_of_before =
      omega (
        arith,
        ends_here old height a b i packed,
        records_size-append [] a (e ∷ i ∷ b),
        shared-le e.key i.key,
        shared-le (key_behind [] a) i.key,
      )

  behind : drop (at + 4 + more) (take used old) ≡ drop (shared e.key i.key) i.key ++ (i.rest ++ records_bytes i.key b)
  behind =
      let p = key_behind [] a in
      let sum : at + (4 + more) ≡ at + 4 + more = omega arith in
      ap (λ k. drop k (take used old)) (sym sum)
      ∙ sym (drop-drop (4 + more) at (take used old))
      ∙ (λ k. drop (4 + more) (drop (place k) (take (all k) old)))
      ∙ ap (drop (4 + more)) (stands_here old height a b i packed)
      ∙ record_bytes-behind p i (records_bytes i.key b) more (omega (arith, shares, shared-le e.key i.key))
      ∙ ap (λ k. drop k i.key ++ (i.rest ++ records_bytes i.key b)) shares

  pub IsEdited-before : (moved new : List ℕ) (to end : ℕ) → IsMoved old moved (at + 4 + more) to used
      → end ≡ at + record_size (key_behind [] a) e → to ≡ end + 4
      → new ≡ with_bytes (with_bytes moved at (record_bytes (key_behind [] a) e)) end
      (u16_bytes (record_size e.key i) ++ u16_bytes (shared e.key i.key))
      → ArePackable height (a ++ e ∷ i ∷ b) → IsEdited old new height (a ++ e ∷ i ∷ b)
  IsEdited-before moved new to end m stop ends put packable =
      let p = key_behind [] a in
      let one = record_bytes p e in
      let two = u16_bytes (record_size e.key i) ++ u16_bytes (shared e.key i.key) in
      let tail = records_bytes i.key b in
      let long_one = length-record_bytes p e in
      let long_two : length two ≡ 4 =
      omega (
        arith,
        length-append (u16_bytes (record_size e.key i)) (u16_bytes (shared e.key i.key)),
        length-u16_bytes (record_size e.key i),
        length-u16_bytes (shared e.key i.key),
      ) in
      let room : to ≤ length moved = omega (arith, m.fits, m.len) in
      let written : new ≡ with_bytes moved at (one ++ two) =
      put ∙ with_bytes-then moved one at (omega arith) two end (omega arith) (omega arith) in
      let same : (one ++ two) ++ drop (at + 4 + more) (take used old) ≡ one ++ (record_bytes e.key i ++ tail) =
      ap (λ xs. (one ++ two) ++ xs) behind
      ∙ simp append_assoc refl
      ∙ ap (λ xs. one ++ xs) (sym (record_bytes-parts e.key i tail)) in
      IsEdited-put old moved new (at + 4 + more) to used m (one ++ two) at (omega arith)
      (omega (arith, length-append one two)) written height a (i ∷ b) (e ∷ i ∷ b) packed place all packable same

leaf_key : (p : List ℕ) (a b : List Item) (i : Item) → AreLeaves p (a ++ i ∷ b) → length i.key ≤ 255
leaf_key p [] b i h = h.0.is_key.short
leaf_key p (x ∷ a) b i h = leaf_key x.key a b i h.1

index_key : (p : List ℕ) (a b : List Item) (i : Item) → AreIndex p (a ++ i ∷ b) → length i.key ≤ 255
index_key p [] [] i h = omega (arith, ap length h.0)
index_key p [] (j ∷ b) i h = h.0.is_key.short
index_key p (x ∷ []) b i h = index_key x.key [] b i h.2
index_key p (x ∷ y ∷ a) b i h = index_key x.key (y ∷ a) b i h.2

-- A key has at most 255 bytes, also none.
pub short_key : (height : ℕ) (a b : List Item) (i : Item) → ArePackable height (a ++ i ∷ b) → length i.key ≤ 255
short_key zero a b i h = leaf_key [] a b i h
short_key (suc height) a b i h = index_key [] a b i h

module _ (old : List ℕ) (height : ℕ) (es a : List Item) (key rest : List ℕ) (place : Place)
    (packed : IsPackedBlock old height es) where
  abbrev put_in : Item
  put_in = record { key = key; rest = rest }

  -- The place fits the key.
  pub fits_key : (b : List Item) → IsPlaceFor es key place a b → ArePackable height (a ++ put_in ∷ b)
      → (place.shared ≤ length key) × (place.next_shared ≤ length key) × (length key ≤ 255)
  fits_key b spot packable =
      let one = shared-le (key_behind [] a) key in
      let two = shared-le (first_key b) key in
      (omega (arith, spot.shares), omega (arith, spot.next_shares), short_key height a b put_in packable)

  pub IsRecordFor-place : (b : List Item) → IsPlaceFor es key place a b → (r : NewRecord) → r.count ≡ place.shared
      → r.key.now ≡ drop place.shared key → r.rest.now ≡ rest → IsRecordFor (key_behind [] a) put_in r
  IsRecordFor-place b spot r counted end same = record {
    counted = counted ∙ spot.shares;
    end = end ∙ ap (λ n. drop n key) spot.shares;
    rest = same;
  }

  parted : (b : List Item) → IsPlaceFor es key place a b → IsPackedBlock old height (a ++ b)
  parted b spot = subst (IsPackedBlock old height) spot.parts packed

  -- The used count is the place of a key above all others, and of no other.
  none_behind : (b : List Item) → IsPlaceFor es key place a b → place.offset ≡ used_of old → b ≡ []
  none_behind [] spot e = refl
  none_behind (i ∷ b) spot e =
      let ends = ends_here old height a b i (parted (i ∷ b) spot) in
      absurd (omega (arith, spot.offset))

  some_behind : IsPlaceFor es key place a [] → place.offset ≡ used_of old
  some_behind spot =
      let used = used_parts old height a [] (parted [] spot) in
      omega (arith, spot.offset)

  pub entry_there : (b : List Item) → IsPlaceFor es key place a b → (place.offset ≡ used_of old → ⊥)
      → StandsAt old place.offset (used_of old)
  entry_there [] spot ne = absurd (ne (some_behind spot))
  entry_there (i ∷ b) spot ne =
      subst (λ (k : ℕ). StandsAt old k (used_of old)) (sym spot.offset)
      (stands old height a b i (parted (i ∷ b) spot))

  record Next (i : Item) : Type 0 where
    sized : u16_at old place.offset ≡ record_size (key_behind [] a) i
    counted : u16_at old (place.offset + 2) ≡ shared (key_behind [] a) i.key
    more : shared (key_behind [] a) i.key ≤ place.next_shared
    same : place.next_shared ≡ shared key i.key

  next_there : (b : List Item) (i : Item) → IsPlaceFor es key place a (i ∷ b) → ArePackable height (a ++ put_in ∷ i ∷ b)
      → Next i
  next_there b i spot packable =
      let same = spot.next_shares ∙ shared-turned i.key key in
      record {
        sized = ap (u16_at old) spot.offset ∙ size_here old height a b i (parted (i ∷ b) spot);
        counted = ap (λ k. u16_at old (k + 2)) spot.offset ∙ count_here old height a b i (parted (i ∷ b) spot);
        more = omega (arith, share height a (i ∷ b) put_in packable);
        same = same;
      }

  pub more_there : (b : List Item) → IsPlaceFor es key place a b → ArePackable height (a ++ put_in ∷ b)
      → (place.offset ≡ used_of old → ⊥)
      → (u16_at old (place.offset + 2) ≤ place.next_shared)
      × (4 + (place.next_shared - u16_at old (place.offset + 2)) ≤ u16_at old place.offset)
  more_there [] spot packable ne = absurd (ne (some_behind spot))
  more_there (i ∷ b) spot packable ne =
      let n = next_there b i spot packable in
      let le = shared-le key i.key in
      (omega (arith, n.counted, n.more), omega (arith, n.counted, n.more, n.same, n.sized))

  module _ (used : ℕ) (all : used ≡ used_of old) (new : List ℕ) (answer : Result (Unit {0}) EditError)
      (r : NewRecord) where
    -- What is known of a record behind all others is known here.
    pub last_there : (b : List Item) → IsPlaceFor es key place a b → ArePackable height (a ++ put_in ∷ b)
        → place.offset ≡ used → IsRecordFor (key_behind [] a) put_in r
        → ((height : ℕ) (a : List Item) (e : Item) → IsPackedBlock old height a → used ≡ used_of old
        → IsRecordFor (key_behind [] a) e r → ArePackable height (a ++ e ∷ [])
        → IsEdit old new height (a ++ e ∷ []) answer)
        → IsEdit old new height (a ++ put_in ∷ b) answer
    last_there b spot packable e is known =
        let none = none_behind b spot (e ∙ all) in
        let alone = subst (IsPackedBlock old height) (ap (λ xs. a ++ xs) none ∙ append-nil a) (parted b spot) in
        subst (λ (xs : List Item). IsEdit old new height (a ++ put_in ∷ xs) answer) (sym none)
        (known height a put_in alone all is
        (subst (λ (xs : List Item). ArePackable height (a ++ put_in ∷ xs)) none packable))

    -- What is known of a record before another is known here.
    pub before_there : (next : RecordHead) (more : ℕ) → next.size ≡ u16_at old place.offset
        → next.count ≡ u16_at old (place.offset + 2) → next.count + more ≡ place.next_shared
        → (b : List Item) → IsPlaceFor es key place a b → ArePackable height (a ++ put_in ∷ b)
        → (place.offset ≡ used → ⊥) → IsRecordFor (key_behind [] a) put_in r
        → ((height : ℕ) (a b : List Item) (e n : Item) → IsPackedBlock old height (a ++ n ∷ b)
        → place.offset ≡ packed_size a → used ≡ used_of old → IsRecordFor (key_behind [] a) e r
        → IsHeadFor (key_behind [] a) n next → next.count + more ≡ shared e.key n.key
        → ArePackable height (a ++ e ∷ n ∷ b) → IsEdit old new height (a ++ e ∷ n ∷ b) answer)
        → IsEdit old new height (a ++ put_in ∷ b) answer
    before_there next more sized counted adds [] spot packable ne is known =
        absurd (ne (some_behind spot ∙ sym all))
    before_there next more sized counted adds (i ∷ b) spot packable ne is known =
        let n = next_there b i spot packable in
        known height a b put_in i (parted (i ∷ b) spot) spot.offset all is
        (record { sized = sized ∙ n.sized; counted = counted ∙ n.counted }) (adds ∙ n.same) packable
