-- A right block that is made of bytes uses those of its packed entries.
use Rattle.std.proofs.Common.{◌≡◌, ℕ, ◌+◌, ◌<◌, ◌≤◌, List, [], ◌∷◌, ◌++◌, length, get_or, take, drop, refl}
use Rattle.std.proofs.Common.{sym, ap, subst, ◌∙◌, arith, append_assoc, inl, inr}
use Rattle.std.specs.Prelude.{All}
use Rattle.std.specs.Int.{w16, from_le_bytes}
use Rattle.std.proofs.lemmas.List.{take-append-drop, take-take, drop-take, length-drop}
use Rattle.std.proofs.lemmas.List.{length-take, nil_from_length, get_or_past}
use Rattle.std.proofs.lemmas.List.Elements.{All-take, All-drop, All-get_or}
use Rattle.std.proofs.lemmas.Bool.{cases_lt}
use Rattle.std.proofs.lemmas.Nat.{le_bytes_2}
use Rattle.gds_block.specs.Block.{level_of, used_of}
use Rattle.gds_block.specs.Fields.{u16_at, u16_bytes}
use Rattle.gds_block.specs.Item.{Item}
use Rattle.gds_block.specs.Record.{Record, AreRecords, bytes_left, first_record, records_of}
use Rattle.gds_block.specs.Record as block
use Rattle.gds_block.proofs.FieldLemmas.{u16_at-front}
use Rattle.gds_block.proofs.RecordLemmas.{Fits-from_well_sized, AreRecords-records_from}
use Rattle.m_key.specs.KeyEnd.{shared}
use Rattle.gds_pack.specs.Packed.{record_size, record_bytes, records_size, records_bytes, packed_size}
use Rattle.gds_pack.specs.Packed.{packed_records}
use Rattle.gds_tree.proofs.ReadLemmas.{packed_length}

abbrev Bytes : List ℕ → Type 0
Bytes xs = All (λ b. b < 256) xs

small_at : (xs : List ℕ) (i : ℕ) → Bytes xs → get_or xs i 0 < 256
small_at xs i all = elim (cases_lt i (length xs)) [
  | inl low ↦ All-get_or (λ b. b < 256) xs i 0 low all
  | inr past ↦ rw (get_or_past xs i 0 past) (omega arith)
]

-- the bytes of the number in two bytes are these two
two_bytes : (xs : List ℕ) (at : ℕ) → Bytes xs → at + 2 ≤ length xs → u16_bytes (u16_at xs at) ≡ take 2 (drop at xs)
unfolding u16_at u16_bytes
two_bytes xs at all room =
    let two : List ℕ = take 2 (drop at xs) in
    let long : length two ≡ 2 = omega (arith, length-take 2 (drop at xs), length-drop at xs) in
    le_bytes_2 two (from_le_bytes w16 (drop at xs)) long
    (λ i. small_at two i (All-take (λ b. b < 256) 2 (drop at xs) (All-drop (λ b. b < 256) at xs all)))
    (sym (u16_at-front 2 (drop at xs) 0 (omega arith)))

-- a record's bytes: its size, its count and its body
first_bytes : (left : List ℕ) (size : ℕ) → Bytes left → size ≡ u16_at left 0 → 4 ≤ size → size ≤ length left
    → take size left ≡ u16_bytes (u16_at left 0) ++ u16_bytes (u16_at left 2) ++ drop 4 (take size left)
first_bytes left size all is least within =
    let four : take 4 (take size left) ≡ take 4 left = take-take 4 size left least in
    let head : take 4 left ≡ take 2 left ++ take 2 (drop 2 left) =
    sym (take-append-drop 2 (take 4 left))
    ∙ (λ i. take-take 2 4 left (omega arith) i ++ drop-take 2 2 left i) in
    let one = sym (two_bytes left 0 all (omega arith)) in
    let two = sym (two_bytes left 2 all (omega arith)) in
    sym (take-append-drop 4 (take size left))
    ∙ ap (λ xs. xs ++ drop 4 (take size left)) (four ∙ head ∙ (λ i. one i ++ two i))

bytes_are : (level at : ℕ) (left previous : List ℕ) (es : List Item) → Bytes left
    → AreRecords level at left (packed_records at previous es) → length left ≡ records_size previous es
    → left ≡ records_bytes previous es
unfolding record_bytes
bytes_are level at left previous [] all are long = nil_from_length left long
bytes_are level at left previous (e ∷ es) all (well, is, rest) long =
    let fits = Fits-from_well_sized level left well in
    let size : ℕ = block.size_of left in
    let count : shared previous e.key ≡ u16_at left 2 = ap (λ (r : Record). r.count) is in
    let body : drop (shared previous e.key) e.key ++ e.rest
    ≡ drop 4 (take size left) = ap (λ (r : Record). r.body) is in
    let same : record_size previous e ≡ size =
    omega (
      arith,
      packed_length at previous e,
      ap length body,
      length-drop 4 (take size left),
      length-take size left,
      fits.least,
      fits.within,
    ) in
    let size_is = sym same in
    let count_is = sym count in
    let body_is = sym body in
    let first : take size left ≡ record_bytes previous e =
    first_bytes left size all refl (omega (arith, fits.least)) fits.within
    ∙ (λ i. u16_bytes (size_is i) ++ u16_bytes (count_is i) ++ body_is i)
    ∙ sym (append_assoc (u16_bytes (record_size previous e) ++ u16_bytes (shared previous e.key))
    (drop (shared previous e.key) e.key) e.rest) in
    let next : at + size ≡ at + record_size previous e = omega arith in
    let more = bytes_are level (at + record_size previous e) (drop size left) e.key es
    (All-drop (λ b. b < 256) size left all)
    (subst (λ n. AreRecords level n (drop size left) (packed_records (at + record_size previous e) e.key es)) next rest)
    (omega (arith, same, long, length-drop size left)) in
    sym (take-append-drop size left) ∙ (λ i. first i ++ more i)

-- Where records are the packed ones and end at the used count, the bytes that are used are the packed ones.
pub used_bytes_are : (bytes : List ℕ) (es : List Item) → Bytes bytes → used_of bytes ≤ length bytes
    → records_of bytes ≡ packed_records 16 [] es → used_of bytes ≡ packed_size es
    → bytes_left bytes 16 ≡ records_bytes [] es
used_bytes_are bytes es all within records used =
    bytes_are (level_of bytes) 16 (bytes_left bytes 16) [] es
    (All-drop (λ b. b < 256) 16 (take (used_of bytes) bytes) (All-take (λ b. b < 256) (used_of bytes) bytes all))
    (subst (AreRecords (level_of bytes) 16 (bytes_left bytes 16)) records
    (AreRecords-records_from (level_of bytes) 16 (bytes_left bytes 16)))
    (omega (arith, used, within, length-drop 16 (take (used_of bytes) bytes), length-take (used_of bytes) bytes))
