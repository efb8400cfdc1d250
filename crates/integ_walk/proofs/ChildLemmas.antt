-- Bounds on the children and on the faults of a block, which hold of any bytes.
use Rattle.std.proofs.Common.{◌≡◌, ℕ, zero, suc, ◌+◌, ◌*◌, ◌<◌, ◌≤◌, ◌==◌, Bool, true, false, ◌&&◌, ◌||◌}
use Rattle.std.proofs.Common.{if◌then◌else◌, List, [], ◌∷◌, ◌++◌, length, map, filter, take, drop, Option, None, Some}
use Rattle.std.proofs.Common.{inl, inr, refl, ap, arith, length-append}
use Rattle.std.specs.Prelude.{nat_lt}
use Rattle.std.specs.List.{list_any}
use Rattle.std.proofs.lemmas.Bool.{ltb-true, and_parts, cond_both}
use Rattle.std.proofs.lemmas.List.{length-map, length-take, length-drop}
use Rattle.gds_header.specs.declared.header.Header.{Header}
use Rattle.gds_header.specs.Kinds.{through_first}
use Rattle.gds_block.specs.Block.{level_of, used_of}
use Rattle.gds_block.specs.Record.{Record, records_of, records_up_to, bytes_left, first_record, is_well_sized}
use Rattle.gds_block.specs.Record.{least_size}
use Rattle.gds_block.specs.Record as block
use Rattle.gds_law.specs.Kinds.{ends, head_kinds, record_kinds}
use Rattle.gds_law.specs.Visit.{Visit, Child}
use Rattle.gds_law.specs.BlockReading.{BlockReading, PlacedRecord, reading_of, pointer_of, key_of, size_of}
use Rattle.gds_law.specs.Record.{holds, kinds_of, is_ended, child_to, is_sound, target_of}
use Rattle.gds_law.specs.Block.{head_holds, kinds_of_head, size_kinds, kinds_from, kinds_of_block, faults_of_block}
use Rattle.gds_law.specs.Block.{fault_at, children_from, children_of}
use Rattle.gds_law.specs.declared.kind.FaultKind.{FaultKind}
use Rattle.gds_law.specs.declared.kind.FaultKind.TheVariants.{RecordTooSmall, RecordTooLarge}
use Rattle.gds_law.proofs.MembershipLemmas.{IsIn, in_either}

abbrev placed : List ℕ → Record → PlacedRecord
placed previous r = record { previous = previous; record_ = r }

abbrev at_offset : ℕ → FaultKind → ℕ × FaultKind
at_offset offset kind = (offset, kind)

-- ---- how many records there are

records_few : (n level at : ℕ) (left : List ℕ) → length (records_up_to n level at left) ≤ n
records_few zero level at left = omega arith
records_few (suc n) level at left =
    let rest = records_few n level (at + block.size_of left) (drop (block.size_of left) left) in
    cond_both (is_well_sized level left) _ _ (λ (rs : List Record). length rs ≤ suc n) (λ _. omega (
      arith,
      rest,
    )) (λ _. omega arith)

pub records_of_few : (bytes : List ℕ) → length (records_of bytes) ≤ length bytes
records_of_few bytes =
    let left = bytes_left bytes 16 in
    omega (
      arith,
      records_few (length left) (level_of bytes) 16 left,
      length-drop 16 (take (used_of bytes) bytes),
      length-take (used_of bytes) bytes,
    )

-- ---- how many children

child_few : (b : BlockReading) (s : PlacedRecord) (o : Option ℕ) → length (child_to b s o) ≤ 1
child_few b s None = omega arith
child_few b s (Some p) =
    cond_both (is_sound b p) _ _ (λ (cs : List Child). length cs ≤ 1) (λ _. omega arith) (λ _. omega arith)

children_few : (b : BlockReading) (previous : List ℕ) (rs : List Record)
    → length (children_from b previous rs) ≤ length rs
children_few b previous [] = omega arith
children_few b previous (r ∷ rs) =
    let s : PlacedRecord = placed previous r in
    let here = child_to b s (pointer_of b s) in
    let rest = children_from b (key_of b s) rs in
    cond_both (is_ended b s) _ _ (λ (cs : List Child). length cs ≤ suc (length rs)) (λ _. omega arith)
    (λ _. omega (arith, length-append here rest, child_few b s (pointer_of b s), children_few b (key_of b s) rs))

pub children_of_few : (h : Header) (v : Visit) (bytes : List ℕ) → length (children_of h v bytes) ≤ length bytes
unfolding children_of
children_of_few h v bytes =
    let b : BlockReading = reading_of h v bytes in
    cond_both (list_any ends (kinds_of_head b bytes)) _ _ (λ (cs : List Child). length cs ≤ length bytes)
    (λ _. omega arith)
    (λ _. omega (arith, children_few b [] (records_of bytes), records_of_few bytes))

-- ---- how many faults

through_few : {A : Type 0} (test : A → Bool) (xs : List A) → length (through_first test xs) ≤ length xs
through_few test [] = omega arith
through_few {A} test (x ∷ xs) =
    let rest = through_few test xs in
    cond_both (test x) _ _ (λ (ys : List A). length ys ≤ suc (length xs)) (λ _. omega arith) (λ _. omega (arith, rest))

filter_few : {A : Type 0} (test : A → Bool) (xs : List A) → length (filter test xs) ≤ length xs
filter_few test [] = omega arith
filter_few {A} test (x ∷ xs) =
    let rest = filter_few test xs in
    cond_both (test x) _ _ (λ (ys : List A). length ys ≤ suc (length xs)) (λ _. omega (arith, rest)) (λ _. omega (
      arith,
      rest,
    ))

asked_few : {A : Type 0} (ends there : A → Bool) (xs : List A)
    → length (through_first ends (filter there xs)) ≤ length xs
asked_few ends there xs = omega (arith, through_few ends (filter there xs), filter_few there xs)

record_few : (b : BlockReading) (s : PlacedRecord) → length (kinds_of b s) ≤ 22
unfolding kinds_of
record_few b s = asked_few ends (holds b s) record_kinds

head_few : (b : BlockReading) (bytes : List ℕ) → length (kinds_of_head b bytes) ≤ 7
unfolding kinds_of_head
head_few b bytes = asked_few ends (head_holds b bytes) head_kinds

end_few : (level : ℕ) (left : List ℕ) → length (size_kinds level left) ≤ 1
end_few level left =
    few (length left ==
    0) (nat_lt (length left) 4
    || nat_lt (block.size_of left) (least_size level)) (nat_lt (length left) (block.size_of left))
  where
    few : (a b c : Bool)
        → length (if a then [] else (if b then RecordTooSmall ∷ [] else (if c then RecordTooLarge ∷ [] else []))) ≤ 1
    few true b c = omega arith
    few false true c = omega arith
    few false false true = omega arith
    few false false false = omega arith

kinds_few : (b : BlockReading) (bytes : List ℕ) (at : ℕ) (previous : List ℕ) (rs : List Record)
    → length (kinds_from b bytes at previous rs) ≤ 1 + 22 * length rs
kinds_few b bytes at previous [] =
    let left = bytes_left bytes at in
    omega (arith, length-map (size_kinds b.level left) (at_offset at), end_few b.level left)
kinds_few b bytes at previous (r ∷ rs) =
    let s : PlacedRecord = placed previous r in
    let here : List (ℕ × FaultKind) = map (at_offset r.offset) (kinds_of b s) in
    let more : List (ℕ × FaultKind) =
    if is_ended b s then [] else kinds_from b bytes (r.offset + size_of s) (key_of b s) rs in
    let few : length more ≤ 1 + 22 * length rs =
    cond_both (is_ended b s) _ _ (λ (ks : List (ℕ × FaultKind)). length ks ≤ 1 + 22 * length rs) (λ _. omega arith)
    (λ _. kinds_few b bytes (r.offset + size_of s) (key_of b s) rs) in
    omega (arith, length-append here more, length-map (kinds_of b s) (at_offset r.offset), record_few b s, few)

block_few : (b : BlockReading) (bytes : List ℕ) → length (kinds_of_block b bytes) ≤ 8 + 22 * length bytes
unfolding kinds_of_block
block_few b bytes =
    let head = kinds_of_head b bytes in
    let more : List (ℕ × FaultKind) = if list_any ends head then [] else kinds_from b bytes 16 [] (records_of bytes) in
    let few : length more ≤ 1 + 22 * length bytes =
    cond_both (list_any ends head) _ _ (λ (ks : List (ℕ × FaultKind)). length ks ≤ 1
    + 22 * length bytes) (λ _. omega arith)
    (λ _. omega (arith, kinds_few b bytes 16 [] (records_of bytes), records_of_few bytes)) in
    omega (arith, length-append (map (at_offset 0) head) more, length-map head (at_offset 0), head_few b bytes, few)

pub faults_few : (h : Header) (path : List (ℕ × ℕ)) (v : Visit) (bytes : List ℕ)
    → length (faults_of_block h path v bytes) ≤ 8 + 22 * length bytes
faults_few h path v bytes =
    let b : BlockReading = reading_of h v bytes in
    omega (arith, length-map (kinds_of_block b bytes) (fault_at b path), block_few b bytes)

-- ---- where they lead

target_is : (b : BlockReading) (s : PlacedRecord) (p : ℕ) → (target_of b s p).block ≡ p
unfolding target_of
target_is b s p = cond_both (b.level == 0) _ _ (λ (v : Visit). v.block ≡ p) (λ _. refl) (λ _. refl)

child_within : (b : BlockReading) (s : PlacedRecord) (c : Child) (o : Option ℕ) → IsIn (child_to b s o) c
    → c.visit.block < b.header.total
child_within b s c None i = absurd i
child_within b s c (Some p) i = by (is_sound b p) refl i
  where
    by : (t : Bool) → is_sound b p ≡ t
        → IsIn (if t then record { offset = s.record_.offset; visit = target_of b s p } ∷ [] else []) c
        → c.visit.block < b.header.total
    by true e (inl same) =
        let low : p < b.header.total =
        ltb-true p b.header.total (and_parts (nat_lt 0 p) (nat_lt p b.header.total) (and_parts (nat_lt 0 p
        && nat_lt p b.header.total) _ e).0).1 in
        omega (arith, low, target_is b s p, ap (λ (d : Child). d.visit.block) same)
    by true e (inr j) = absurd j
    by false e j = absurd j

children_within : (b : BlockReading) (previous : List ℕ) (rs : List Record) (c : Child)
    → IsIn (children_from b previous rs) c → c.visit.block < b.header.total
children_within b previous [] c i = absurd i
children_within b previous (r ∷ rs) c i =
    by (is_ended b (placed previous r)) i (children_within b (key_of b (placed previous r)) rs c)
  where
    by : (t : Bool)
        → IsIn (if t then [] else child_to b (placed previous r) (pointer_of b (placed previous r))
        ++ children_from b (key_of b (placed previous r)) rs) c
        → (IsIn (children_from b (key_of b (placed previous r)) rs) c → c.visit.block < b.header.total)
        → c.visit.block < b.header.total
    by true j next = absurd j
    by false j next =
        let s : PlacedRecord = placed previous r in
        elim (in_either (child_to b s (pointer_of b s)) (children_from b (key_of b s) rs) c j) [
          | inl k ↦ child_within b s c (pointer_of b s) k
          | inr k ↦ next k
        ]

pub children_of_within : (h : Header) (v : Visit) (bytes : List ℕ) (c : Child) → IsIn (children_of h v bytes) c
    → c.visit.block < h.total
unfolding children_of
children_of_within h v bytes c i = by (list_any ends (kinds_of_head b bytes)) i
  where
    b : BlockReading
    b = reading_of h v bytes

    by : (t : Bool) → IsIn (if t then [] else children_from (reading_of h v bytes) [] (records_of bytes)) c
        → c.visit.block < h.total
    by true j = absurd j
    by false j = children_within (reading_of h v bytes) [] (records_of bytes) c j
