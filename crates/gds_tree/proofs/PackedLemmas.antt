-- Records that are read as entries and need no more bytes than these packed are the packed ones.
use Rattle.std.proofs.Common.{◌≡◌, ℕ, zero, suc, ◌+◌, ◌≤◌, ◌==◌, Bool, true, false, ◌&&◌, List, [], ◌∷◌, ◌++◌}
use Rattle.std.proofs.Common.{length, take, drop, if◌then◌else◌, Option, None, Some, inl, inr, refl, sym, ap, subst}
use Rattle.std.proofs.Common.{◌∙◌}
use Rattle.std.proofs.Common.{arith}
use Rattle.std.specs.Prelude.{⊤, nat_eq, nat_lt, option_map}
use Rattle.std.proofs.lemmas.Bool.{cond-true, cond-false, eqb-true, eq-eqb, ltb-true, and_parts, or_cases, cases_Bool}
use Rattle.std.proofs.lemmas.List.{take-append-drop, drop_at, length-append, length-drop, length-take}
use Rattle.std.proofs.lemmas.Option.{cond_some}
use Rattle.gds_block.specs.Block.{level_of, used_of}
use Rattle.gds_block.specs.Item.{Item}
use Rattle.gds_block.specs.Record.{Record, full_of, AreRecords, bytes_left, first_record, records_of}
use Rattle.gds_block.specs.Record as block
use Rattle.gds_block.proofs.RecordLemmas.{Fits-from_well_sized, AreRecords-records_from}
use Rattle.m_key.specs.KeyEnd.{key_len, key_within, end_within, HasOpenFronts, shared}
use Rattle.m_key.proofs.KeyEndLemmas.{shared-nil, shared-le, HasOpenFronts-nil, open_front, key_within-end_within}
use Rattle.m_key.proofs.KeyEndLemmas.{key_within-le, key_len-within}
use Rattle.gds_pack.specs.Packed.{record_size, records_size, packed_size, packed_record, packed_records}
use Rattle.gds_pack.specs.Unpacked.{is_count, leaf_item, index_item, star_item, leaf_items, index_items, end_of}
use Rattle.gds_pack.specs.Unpacked.{entries_of}
use Rattle.gds_pack.proofs.UnpackLemmas.{IfNone-leaf_item, IfSome-IsKeyPart, leaf_item-unlawful}
use Rattle.gds_pack.proofs.UnpackLemmas.{HasOpenFronts-leaf_item}
use Rattle.gds_law.proofs.PathLemmas.{some_if, some_then}
use Rattle.gds_sound.proofs.TreeLemmas.{some_map}

-- ---- the shared bytes of a key that begins as the key before it

shared_front : (n : ℕ) (a x : List ℕ) → n ≤ length a → n ≤ shared a (take n a ++ x)
shared_front zero a x h = omega arith
shared_front (suc n) [] x h = absurd (omega arith)
shared_front (suc n) (y ∷ a) x h =
    let one = cond-true (nat_eq y y) (1 + shared a (take n a ++ x)) 0 (eq-eqb y y refl) in
    omega (arith, one, shared_front n a x (omega arith))

-- ---- one record

-- How a record is read: the key's bytes of its body, and that it needs no less than the packed one.
record Needs (previous : List ℕ) (r : Record) (i : Item) : Type 0 where
  least : record_size previous i ≤ 4 + length r.body
  packed : record_size previous i ≡ 4 + length r.body → r ≡ packed_record r.offset previous i

part_needs : (previous : List ℕ) (r : Record) (n : ℕ) → r.count ≤ length previous → n ≤ length r.body
    → Needs previous r (record { key = take r.count previous ++ take n r.body; rest = drop n r.body })
part_needs previous r n low within =
    let front : List ℕ = take r.count previous in
    let key : List ℕ = front ++ take n r.body in
    let enough = shared_front r.count previous (take n r.body) low in
    let most = (shared-le previous key).1 in
    let long : length front ≡ r.count = omega (arith, length-take r.count previous) in
    let size : length key ≡ r.count + n =
    omega (arith, length-append front (take n r.body), long, length-take n r.body) in
    record {
      least = omega (arith, enough, size, length-drop n r.body);
      packed = λ e.
          let same : r.count ≡ shared previous key = omega (arith, e, enough, size, length-drop n r.body) in
          let body : r.body ≡ drop (shared previous key) key ++ drop n r.body =
          sym (take-append-drop n r.body)
          ∙ ap (λ xs. xs ++ drop n r.body) (sym (drop_at front (take n r.body) r.count long))
          ∙ ap (λ k. drop k key ++ drop n r.body) same in
          λ i. record { offset = r.offset; count = same i; body = body i };
    }

same_item : (i j : Item) → Some i ≡ Some j → i ≡ j
same_item i j e = cc

-- the bytes that a count takes of the key before it end no key
counted : (previous : List ℕ) (count : ℕ) → HasOpenFronts previous → is_count previous count ≡ true
    → key_len (take count previous) ≡ None
counted previous count fronts lawful =
    open_front previous count fronts
    (elim (or_cases (nat_lt count (length previous)) (nat_eq count 0) lawful) [
      | inl less ↦ inr (ltb-true count (length previous) less)
      | inr none ↦ inl (eqb-true count 0 none)
    ])

item_needs : (previous : List ℕ) (r : Record) (i : Item) → HasOpenFronts previous → leaf_item previous r ≡ Some i
    → Needs previous r i
item_needs previous r i fronts h = by (is_count previous r.count) refl
  where
    found : (lawful : is_count previous r.count ≡ true) (o : Option ℕ)
        → key_within 255 (full_of previous r) ≡ option_map (λ n. length (take r.count previous) + n) o
        → Needs previous r i
    found lawful None e = absurd (cc (IfNone-leaf_item previous r fronts lawful None (λ none. e), h))
    found lawful (Some n) e =
        let first : List ℕ = take r.count previous in
        let inside = key_len-within (take 255 (full_of previous r)) (length first + n) e in
        let within : n ≤ length r.body =
        omega (arith, inside, length-take 255 (full_of previous r), length-append first r.body) in
        let short = key_within-le 255 (full_of previous r) (length first + n) e in
        let part = IfSome-IsKeyPart previous r fronts lawful (Some n) (λ none. e) within short in
        subst (Needs previous r) (same_item _ i (sym part.read ∙ h))
        (part_needs previous r n part.count_within part.within)

    by : (t : Bool) → is_count previous r.count ≡ t → Needs previous r i
    by true e =
        let first : List ℕ = take r.count previous in
        found e (end_within 255 first r.body)
        (key_within-end_within 255 first r.body (counted previous r.count fronts e))
    by false e = absurd (cc (leaf_item-unlawful previous r e, h))

-- the star needs what it has
star_needs : (previous : List ℕ) (r : Record) (i : Item) → star_item r ≡ Some i → Needs previous r i
star_needs previous r i h =
    let c = cond_some ((length r.body == 4) && (r.count == 0)) (record { key = []; rest = r.body }) i h in
    let p = and_parts (length r.body == 4) (r.count == 0) c.0 in
    let none = shared-nil previous in
    let count : r.count ≡ shared previous [] = eqb-true r.count 0 p.1 ∙ sym none in
    let body : r.body ≡ drop (shared previous []) [] ++ r.body = sym (ap (λ n. drop n [] ++ r.body) none) in
    subst (Needs previous r) c.1 (record {
      least = omega arith;
      packed = λ e. λ k. record { offset = r.offset; count = count k; body = body k };
    })

-- ---- the records

abbrev Chained : ℕ → List Record → Type 0
Chained at [] = ⊤
Chained at (r ∷ rs) = (r.offset ≡ at) × Chained (r.offset + 4 + length r.body) rs

-- They end no sooner than the packed ones, and only the packed ones end there.
record Need (at : ℕ) (previous : List ℕ) (rs : List Record) (es : List Item) : Type 0 where
  least : at + records_size previous es ≤ end_of at rs
  packed : end_of at rs ≡ at + records_size previous es → rs ≡ packed_records at previous es

need_more : (at : ℕ) (previous : List ℕ) (r : Record) (rs : List Record) (i : Item) (es : List Item) → r.offset ≡ at
    → Needs previous r i → Need (r.offset + 4 + length r.body) i.key rs es → Need at previous (r ∷ rs) (i ∷ es)
need_more at previous r rs i es place one more =
    let low = one.least in
    let rest = more.least in
    record {
      least = omega arith;
      packed = λ e.
          let same : record_size previous i ≡ 4 + length r.body = omega arith in
          let ends : end_of (r.offset + 4 + length r.body) rs
          ≡ r.offset + 4 + length r.body + records_size i.key es = omega arith in
          let next : r.offset + 4 + length r.body ≡ at + record_size previous i = omega arith in
          (λ k. (one.packed same ∙ ap (λ n. packed_record n previous i) place) k ∷ more.packed ends k)
          ∙ ap (λ n. packed_record at previous i ∷ packed_records n i.key es) next;
    }

need_none : (at : ℕ) (previous : List ℕ) → Need at previous [] []
need_none at previous = record { least = omega arith; packed = λ e. refl }

leaf_need : (at : ℕ) (previous : List ℕ) (rs : List Record) (es : List Item) → HasOpenFronts previous → Chained at rs
    → leaf_items previous rs ≡ Some es → Need at previous rs es
leaf_need at previous [] es fronts chained h =
    let none : [] ≡ es = cc in
    subst (Need at previous []) none (need_none at previous)
leaf_need at previous (r ∷ rs) es fronts chained h =
    let p = some_then (λ i. option_map (λ is. i ∷ is) (leaf_items i.key rs)) (leaf_item previous r) es h in
    let q = some_map (λ is. p.0 ∷ is) (leaf_items p.0.key rs) es p.2 in
    subst (Need at previous (r ∷ rs)) q.2
    (need_more at previous r rs p.0 q.0 chained.0 (item_needs previous r p.0 fronts p.1)
    (leaf_need (r.offset + 4 + length r.body) p.0.key rs q.0 (HasOpenFronts-leaf_item previous r p.0 p.1) chained.1
    q.1))

index_need : (at : ℕ) (previous : List ℕ) (rs : List Record) (es : List Item) → HasOpenFronts previous → Chained at rs
    → index_items previous rs ≡ Some es → Need at previous rs es
index_need at previous [] es fronts chained h = absurd (cc)
index_need at previous (r ∷ []) es fronts chained h =
    let p = some_map (λ i. i ∷ []) (star_item r) es h in
    subst (Need at previous (r ∷ [])) p.2
    (need_more at previous r [] p.0 [] chained.0 (star_needs previous r p.0 p.1)
    (need_none (r.offset + 4 + length r.body) p.0.key))
index_need at previous (r ∷ s ∷ rs) es fronts chained h =
    let p = some_then (λ i. option_map (λ is. i ∷ is) (index_items i.key (s ∷ rs))) (index_item previous r) es h in
    let q = some_map (λ is. p.0 ∷ is) (index_items p.0.key (s ∷ rs)) es p.2 in
    let read = some_then (λ i. if length i.rest == 4 then Some i else None) (leaf_item previous r) p.0 p.1 in
    let four = cond_some (length read.0.rest == 4) read.0 p.0 read.2 in
    let item : leaf_item previous r ≡ Some p.0 = read.1 ∙ ap (λ i. Some i) four.1 in
    subst (Need at previous (r ∷ s ∷ rs)) q.2
    (need_more at previous r (s ∷ rs) p.0 q.0 chained.0 (item_needs previous r p.0 fronts item)
    (index_need (r.offset + 4 + length r.body) p.0.key (s ∷ rs) q.0 (HasOpenFronts-leaf_item previous r p.0 item)
    chained.1 q.1))

-- ---- a block

chained_from : (level at : ℕ) (left : List ℕ) (rs : List Record) → AreRecords level at left rs → Chained at rs
chained_from level at left [] a = tt
chained_from level at left (r ∷ rs) a =
    let fits = Fits-from_well_sized level left a.0 in
    let size : ℕ = block.size_of left in
    let offset : r.offset ≡ at = ap (λ (q : Record). q.offset) a.1 in
    let body : length r.body ≡ length (drop 4 (take size left)) = ap (λ (q : Record). length q.body) a.1 in
    let next : at + size ≡ r.offset + 4 + length r.body =
    omega (arith, offset, body, fits.least, fits.within, length-drop 4 (take size left), length-take size left) in (
      offset,
      subst (λ n. Chained n rs) next (chained_from level (at + size) (drop size left) rs a.2),
    )

-- Where the used count is what the entries of a block need, its records are the packed ones.
pub packed_from : (bytes : List ℕ) (es : List Item) → entries_of bytes ≡ Some es → used_of bytes ≡ packed_size es
    → records_of bytes ≡ packed_records 16 [] es
unfolding entries_of
packed_from bytes es h used =
    let rs : List Record = records_of bytes in
    let chained : Chained 16 rs =
    chained_from (level_of bytes) 16 (bytes_left bytes 16) rs
    (AreRecords-records_from (level_of bytes) 16 (bytes_left bytes 16)) in
    let p = some_if (end_of 16 rs == used_of bytes) _ es h in
    let ends : end_of 16 rs ≡ 16 + records_size [] es = eqb-true (end_of 16 rs) (used_of bytes) p.0 ∙ used in
    elim (cases_Bool (level_of bytes == 0)) [
      | inl z ↦ (leaf_need 16 [] rs es HasOpenFronts-nil chained
          (sym (cond-true (level_of bytes == 0) _ _ z) ∙ p.1)).packed ends
      | inr z ↦ (index_need 16 [] rs es HasOpenFronts-nil chained
          (sym (cond-false (level_of bytes == 0) _ _ z) ∙ p.1)).packed ends
    ]
