-- The records of a block with which nothing is wrong are those of lawful entries, which fill its used bytes.
use Rattle.std.proofs.Common.{◌≡◌, ℕ, ◌+◌, ◌<◌, ◌≤◌, ◌==◌, Bool, true, false, ◌&&◌, ◌||◌, List, []}
use Rattle.std.proofs.Common.{◌∷◌, length, map, take, drop, if◌then◌else◌, inl, inr, refl, sym}
use Rattle.std.proofs.Common.{ap, ◌∙◌, arith}
use Rattle.std.specs.Prelude.{nat_lt, nat_le, IsTrue}
use Rattle.std.specs.List.{AllByRecursion}
use Rattle.std.proofs.lemmas.Bool.{cond-true, cond-false, eqb-true, eqb-false, eq-eqb}
use Rattle.std.proofs.lemmas.Bool.{ltb-false, lt-ltb, le-leb, and_parts, and_from, or_parts, cases_Bool}
use Rattle.std.proofs.lemmas.List.{length-append, length-drop, length-take-le, drop-drop}
use Rattle.gds_block.specs.Block.{used_of}
use Rattle.gds_block.specs.Item.{Item}
use Rattle.gds_block.specs.Record.{Record, AreRecords, bytes_left, is_well_sized, least_size, first_record}
use Rattle.gds_block.specs.Record as block
use Rattle.gds_block.proofs.RecordLemmas.{Fits-from_well_sized}
use Rattle.gds_law.specs.BlockReading.{BlockReading, PlacedRecord, is_last, size_of, key_of}
use Rattle.gds_law.specs.Record.{kinds_of, is_ended}
use Rattle.gds_law.specs.Block.{size_kinds, kinds_from}
use Rattle.gds_law.specs.declared.kind.FaultKind.{FaultKind}
use Rattle.gds_law.specs.declared.kind.FaultKind.TheVariants.{RecordTooSmall, RecordTooLarge}
use Rattle.gds_pack.specs.Packed.{record_size, records_size, packed_record, packed_records}
use Rattle.gds_pack.specs.Packable.{IsNext, AreLeaves, AreIndex}
use Rattle.gds_sound.proofs.BlockLemmas.{nil_parts, map_nil, seen, clean_record, not_last}
use Rattle.gds_tree.specs.Lawful.{IsLawfulEntry}
use Rattle.gds_tree.proofs.EntryLemmas.{entry_at, record_is, next_is, lawful_entry, rest_size, star_at, star_is}
use Rattle.gds_tree.proofs.EntryLemmas.{star_size}
use Rattle.gds_tree.proofs.EntryLemmas.{lawful_star}

-- These are the records of lawful entries from an offset on and behind a key, up to the used count.
pub record AreEntries (b : BlockReading) (at : ℕ) (previous : List ℕ) (rs : List Record) (es : List Item) : Type 0 where
  pub records : rs ≡ packed_records at previous es
  pub size : at + records_size previous es ≡ b.used
  pub each : AllByRecursion (IsLawfulEntry b.header b.visit b.level) es

-- ---- where the records end

-- Where no record stands and no kind is told, no byte is left.
none_left : (level : ℕ) (left : List ℕ) → (IsTrue (is_well_sized level left) → ⊥) → size_kinds level left ≡ []
    → length left ≡ 0
none_left level left bad h = by (length left == 0) refl
  where
    size : ℕ
    size = block.size_of left

    well : (nat_lt (length left) 4 || nat_lt size (least_size level)) ≡ false → nat_lt (length left) size ≡ false
        → is_well_sized level left ≡ true
    well small large =
        let p = or_parts (nat_lt (length left) 4) (nat_lt size (least_size level)) small in
        and_from (nat_le 4 (length left) && nat_le (least_size level) size) (nat_le size (length left))
        (and_from (nat_le 4 (length left)) (nat_le (least_size level) size)
        (le-leb 4 (length left) (ltb-false (length left) 4 p.0))
        (le-leb (least_size level) size (ltb-false size (least_size level) p.1)))
        (le-leb size (length left) (ltb-false (length left) size large))

    behind : (u w : Bool) → (nat_lt (length left) 4 || nat_lt size (least_size level)) ≡ u
        → nat_lt (length left) size ≡ w
        → (if nat_lt (length left) 4 || nat_lt size (least_size level) then RecordTooSmall ∷ []
        else (if nat_lt (length left) size then RecordTooLarge ∷ [] else [])) ≡ [] → length left ≡ 0
    behind true w e f k = absurd (cc (cond-true _ (RecordTooSmall ∷ []) _ e, k))
    behind false true e f k =
        absurd (cc (cond-false _ (RecordTooSmall ∷ []) _ e, cond-true _ (RecordTooLarge ∷ []) [] f, k))
    behind false false e f k = absurd (bad (well e f))

    by : (t : Bool) → (length left == 0) ≡ t → length left ≡ 0
    by true e = eqb-true (length left) 0 e
    by false e = behind _ _ refl refl (sym (cond-false (length left == 0) [] _ e) ∙ h)

-- ---- one record

-- A record that was read has as many bytes as the entry that it holds.
pub packed_length : (at : ℕ) (previous : List ℕ) (e : Item)
    → 4 + length (packed_record at previous e).body ≡ record_size previous e
packed_length at previous e = simp (length-append, length-drop) (omega arith)

-- What is left behind the first record of the bytes left, from its end on.
record IsFirst (bytes : List ℕ) (b : BlockReading) (at : ℕ) (left : List ℕ) (r : Record) : Type 0 where
  offset : r.offset ≡ at
  size : size_of (seen [] r) ≡ block.size_of left
  some : 5 ≤ block.size_of left
  behind : drop (block.size_of left) left ≡ bytes_left bytes (at + block.size_of left)
  used : at + block.size_of left + length (drop (block.size_of left) left) ≡ b.used

is_first_of : (bytes : List ℕ) (b : BlockReading) (level at : ℕ) (left : List ℕ) (r : Record)
    → left ≡ bytes_left bytes at → at + length left ≡ b.used → is_well_sized level left ≡ true
    → r ≡ first_record at left → IsFirst bytes b at left r
is_first_of bytes b level at left r same used well e =
    let fits = Fits-from_well_sized level left well in
    let size : ℕ = block.size_of left in
    let body : length r.body ≡ length (drop 4 (take size left)) = ap (λ (q : Record). length q.body) e in
    record {
      offset = ap (λ (q : Record). q.offset) e;
      size = omega (
        arith,
        body,
        fits.least,
        fits.within,
        length-drop 4 (take size left),
        length-take-le size left fits.within,
      );
      some = fits.least;
      behind = ap (drop size) same ∙ drop-drop size at (take (used_of bytes) bytes);
      used = omega (arith, used, fits.within, length-drop size left);
    }

-- no record where nothing is left
none_behind : (level at : ℕ) (left : List ℕ) (rs : List Record) → AreRecords level at left rs → length left ≡ 0
    → rs ≡ []
none_behind level at left [] a h = refl
none_behind level at left (r ∷ rs) a h =
    let fits = Fits-from_well_sized level left a.0 in
    absurd (omega (arith, fits.least, fits.within, h))

and_second : (x y : Bool) → x ≡ true → (x && y) ≡ false → y ≡ false
and_second x y e k = ap (λ t. t && y) (sym e) ∙ k

-- ---- the records, one after another

module _ (b : BlockReading) (bytes : List ℕ) (limit : b.header.key_max ≤ 255) where
  -- one more in front
  one_more : (at size : ℕ) (previous : List ℕ) (r : Record) (rs : List Record) (e : Item) (es : List Item)
      → r.offset ≡ at → r ≡ packed_record r.offset previous e → size_of (seen [] r) ≡ size
      → IsLawfulEntry b.header b.visit b.level e → AreEntries b (at + size) e.key rs es
      → AreEntries b at previous (r ∷ rs) (e ∷ es)
  one_more at size previous r rs e es place is long lawful rest =
      let same : record_size previous e ≡ size =
      sym (packed_length r.offset previous e) ∙ ap (λ (q : Record). 4 + length q.body) (sym is) ∙ long in
      let first : r ≡ packed_record at previous e = is ∙ ap (λ n. packed_record n previous e) place in
      record {
        records = (λ i. first i ∷ rest.records i)
            ∙ ap (λ n. packed_record at previous e ∷ packed_records (at + n) e.key es) (sym same);
        size = omega (arith, rest.size, same);
        each = (lawful, rest.each);
      }

  no_more : (at : ℕ) (previous left : List ℕ) → left ≡ bytes_left bytes at → at + length left ≡ b.used
      → AreRecords b.level at left [] → kinds_from b bytes at previous [] ≡ [] → at ≡ b.used
  no_more at previous left same used are h =
      let none = map_nil (λ (kind : FaultKind). (at, kind)) (size_kinds b.level (bytes_left bytes at)) h in
      let left_none = none_left b.level left are (ap (size_kinds b.level) same ∙ none) in
      omega (arith, used, left_none)

  pub leaf_read : b.level ≡ 0 → (at : ℕ) (previous left : List ℕ) (rs : List Record)
      → left ≡ bytes_left bytes at → at + length left ≡ b.used → AreRecords b.level at left rs
      → kinds_from b bytes at previous rs ≡ []
      → (es : List Item) × AreEntries b at previous rs es × AreLeaves previous es
  leaf_read z at previous left [] same used are h =
      let ends = no_more at previous left same used are h in
      ([], record { records = refl; size = omega (arith, ends); each = tt }, tt)
  leaf_read z at previous left (r ∷ rs) same used are h =
      let s : PlacedRecord = seen previous r in
      let f = is_first_of bytes b b.level at left r same used are.0 are.1 in
      let size : ℕ = block.size_of left in
      let parts = nil_parts (map (λ kind. (r.offset, kind)) (kinds_of b s)) _ h in
      let c = clean_record b s (map_nil (λ (kind : FaultKind). (r.offset, kind)) (kinds_of b s) parts.0) in
      let l = not_last b s (eq-eqb b.level 0 z) in
      let next : r.offset + size_of s ≡ at + size = omega (arith, f.offset, f.size) in
      let rest = leaf_read z (at + size) (key_of b s) (drop size left) rs f.behind f.used are.2
      (ap (λ n. kinds_from b bytes n (key_of b s) rs) (sym next)
      ∙ sym (cond-false (is_ended b s) [] _ c.goes_on) ∙ parts.1) in (
        entry_at b s ∷ rest.0,
        one_more at size previous r rs (entry_at b s) rest.0 f.offset (record_is b s c l) f.size (lawful_entry b s c l)
            rest.1,
        (next_is b s c l limit, rest.2),
      )

  -- in front of an index block's entries
  index_cons : (previous : List ℕ) (e : Item) (es : List Item) → IsNext previous e → length e.rest ≡ 4
      → AreIndex e.key es → AreIndex previous (e ∷ es)
  index_cons previous e [] n four h = absurd h
  index_cons previous e (f ∷ es) n four h = (n, four, h)

  pub index_read : (b.level == 0) ≡ false → (at : ℕ) (previous left : List ℕ) (rs : List Record)
      → left ≡ bytes_left bytes at → at + length left ≡ b.used → 0 < length left → AreRecords b.level at left rs
      → kinds_from b bytes at previous rs ≡ []
      → (es : List Item) × AreEntries b at previous rs es × AreIndex previous es
  index_read z at previous left [] same used some are h =
      absurd (omega (arith, no_more at previous left same used are h, used, some))
  index_read z at previous left (r ∷ rs) same used some are h =
      let s : PlacedRecord = seen previous r in
      let f = is_first_of bytes b b.level at left r same used are.0 are.1 in
      let size : ℕ = block.size_of left in
      let parts = nil_parts (map (λ kind. (r.offset, kind)) (kinds_of b s)) _ h in
      let c = clean_record b s (map_nil (λ (kind : FaultKind). (r.offset, kind)) (kinds_of b s) parts.0) in
      let next : r.offset + size_of s ≡ at + size = omega (arith, f.offset, f.size) in
      let over : nat_lt 0 b.level ≡ true = lt-ltb 0 b.level (let n = eqb-false b.level 0 z in omega arith) in
      elim (cases_Bool (is_last b s)) [
        | inl l ↦
            let ends = eqb-true (r.offset + size_of s) b.used (and_parts (nat_lt 0 b.level) _ l).1 in
            let none = none_behind b.level (at + size) (drop size left) rs are.2 (omega (arith, ends, next, f.used)) in
            let whole : AreEntries b (at + size) [] rs [] =
            record { records = none; size = omega (arith, ends, next); each = tt } in (
              star_at s ∷ [],
              one_more at size previous r rs (star_at s) [] f.offset (star_is b s c l) f.size (lawful_star b s c l)
                  whole,
              (refl, star_size b s c l),
            )
        | inr l ↦
            let open_ : (r.offset + size_of s == b.used) ≡ false = and_second (nat_lt 0 b.level) _ over l in
            let more = eqb-false (r.offset + size_of s) b.used open_ in
            let left_some : 0 < length (drop size left) = omega (arith, next, f.used, more) in
            let rest = index_read z (at + size) (key_of b s) (drop size left) rs f.behind f.used left_some are.2
            (ap (λ n. kinds_from b bytes n (key_of b s) rs) (sym next)
            ∙ sym (cond-false (is_ended b s) [] _ c.goes_on) ∙ parts.1) in (
              entry_at b s ∷ rest.0,
              one_more at size previous r rs (entry_at b s) rest.0 f.offset (record_is b s c l) f.size
                  (lawful_entry b s c l) rest.1,
              index_cons previous (entry_at b s) rest.0 (next_is b s c l limit) (rest_size b s c l z) rest.2,
            )
      ]
