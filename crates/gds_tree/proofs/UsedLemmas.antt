-- What is read of a block depends on its level, its used count and its used bytes alone, but for how it is stamped.
use Rattle.std.proofs.Common.{◌≡◌, ℕ, zero, suc, ◌+◌, ◌-◌, ◌≤◌, ◌==◌, Bool, true, false, not, ◌&&◌, ◌||◌}
use Rattle.std.proofs.Common.{if◌then◌else◌, List, [], ◌∷◌, ◌++◌, length, map, filter, drop, take, refl, sym}
use Rattle.std.proofs.Common.{ap, ◌∙◌, arith, None}
use Rattle.std.specs.List.{list_any, AllByRecursion}
use Rattle.std.proofs.lemmas.Bool.{cond-false, and_right, or_from, not_from_true, eq-eqb, lt-leb}
use Rattle.std.proofs.lemmas.List.{drop-drop}
use Rattle.gds_block.specs.Block.{version_of, reserved_of, level_of, used_of, tn_of}
use Rattle.gds_block.specs.Record.{Record, records_of, records_up_to, records_from, first_record, is_well_sized}
use Rattle.gds_block.specs.Record.{bytes_left}
use Rattle.gds_block.specs.Record as block
use Rattle.gds_header.specs.declared.header.Header.{Header}
use Rattle.gds_header.specs.Kinds.{through_first}
use Rattle.gds_law.specs.Kinds.{ends, head_kinds}
use Rattle.gds_law.specs.Visit.{Visit}
use Rattle.gds_law.specs.BlockReading.{BlockReading, PlacedRecord, reading_of, size_of, key_of}
use Rattle.gds_law.specs.Record.{kinds_of, is_ended}
use Rattle.gds_law.specs.Block.{head_holds, kinds_of_head, kinds_from, kinds_of_block, children_from}
use Rattle.gds_law.specs.Block.{children_of, size_kinds}
use Rattle.gds_law.specs.declared.kind.FaultKind.{FaultKind}
use Rattle.gds_law.specs.declared.kind.FaultKind.TheVariants.{BadVersion, TransactionTooNew}
use Rattle.gds_sound.specs.Stands.{items_from, items_of}
use Rattle.gds_pack.specs.Unpacked.{leaf_items, index_items, end_of, entries_of}
use Rattle.gds_law.proofs.RankLemmas.{through_any}
use Rattle.gds_sound.proofs.BlockLemmas.{nil_parts, map_nil, through_nil, filter_nil, nil_filter}
use Rattle.gds_tree.specs.RightBlock.{UsesSame, IsStamped}

-- ---- whether the head ends the reading

-- Two lists that are filtered out of one have an element that passes where each element does in the one as in the
-- other.
any_filtered : {A : Type 0} (test p q : A → Bool) (xs : List A)
    → AllByRecursion (λ x. (p x && test x) ≡ (q x && test x)) xs
    → list_any test (filter p xs) ≡ list_any test (filter q xs)
any_filtered test p q [] h = refl
any_filtered {A} test p q (x ∷ xs) h = by (p x) (q x) h.0 (any_filtered test p q xs h.1)
  where
    by : (s t : Bool) → (s && test x) ≡ (t && test x)
        → list_any test (filter p xs) ≡ list_any test (filter q xs)
        → list_any test (if s then x ∷ filter p xs else filter p xs)
        ≡ list_any test (if t then x ∷ filter q xs else filter q xs)
    by true true e next = ap (λ b. test x || b) next
    by true false e next = ap (λ b. b || list_any test (filter p xs)) e ∙ next
    by false true e next = next ∙ ap (λ b. b || list_any test (filter q xs)) e
    by false false e next = next

pub head_ends : (b : BlockReading) (x y : List ℕ)
    → list_any ends (kinds_of_head b x) ≡ list_any ends (kinds_of_head b y)
unfolding kinds_of_head
head_ends b x y =
    through_any ends (filter (head_holds b x) head_kinds)
    ∙ any_filtered ends (head_holds b x) (head_holds b y) head_kinds (
      and_right (head_holds b x BadVersion) false refl ∙ sym (and_right (head_holds b y BadVersion) false refl),
      (
        and_right (head_holds b x TransactionTooNew) false refl
            ∙ sym (and_right (head_holds b y TransactionTooNew) false refl),
        (refl, (refl, (refl, (refl, (refl, tt))))),
      ),
    )
    ∙ sym (through_any ends (filter (head_holds b y) head_kinds))

-- ---- two blocks that use the same bytes

module _ (h : Header) (v : Visit) (a c : List ℕ) (same : UsesSame a c) where
  pub same_reading : reading_of h v a ≡ reading_of h v c
  same_reading = λ i. record { header = h; visit = v; level = same.level i; used = same.used i }

  pub same_records : records_of a ≡ records_of c
  same_records = λ i. records_from (same.level i) 16 (same.bytes i)

  pub same_children : children_of h v a ≡ children_of h v c
  unfolding children_of
  same_children =
      ap (λ t. if t then [] else children_from (reading_of h v a) [] (records_of a)) (head_ends (reading_of h v a) a c)
      ∙ (λ i. if list_any ends (kinds_of_head (same_reading i) c) then []
      else children_from (same_reading i) [] (same_records i))

  pub same_items : items_of (reading_of h v a) a ≡ items_of (reading_of h v c) c
  same_items = λ i. items_from (same_reading i) [] (same_records i)

pub same_entries : (a c : List ℕ) → UsesSame a c → entries_of a ≡ entries_of c
unfolding entries_of
same_entries a c same = λ i.
    let rs : List Record = records_from (same.level i) 16 (same.bytes i) in
    if end_of 16 rs == same.used i then (if same.level i == 0 then leaf_items [] rs else index_items [] rs) else None

-- the bytes left from an offset behind the head
left_from : (a : List ℕ) (at : ℕ) → 16 ≤ at → bytes_left a at ≡ drop (at - 16) (bytes_left a 16)
left_from a at low =
    let place : 16 + (at - 16) ≡ at = omega arith in
    sym (drop-drop (at - 16) 16 (take (used_of a) a) ∙ ap (λ n. drop n (take (used_of a) a)) place)

same_left : (a c : List ℕ) → UsesSame a c → (at : ℕ) → 16 ≤ at → bytes_left a at ≡ bytes_left c at
same_left a c same at low = left_from a at low ∙ ap (drop (at - 16)) same.bytes ∙ sym (left_from c at low)

-- Where the records stand and how they are read is the same, so that what is told of them is.
same_kinds_from : (b : BlockReading) (a c : List ℕ) → UsesSame a c → (n level from at : ℕ) (left previous : List ℕ)
    → 16 ≤ from → 16 ≤ at
    → kinds_from b a at previous (records_up_to n level from left)
    ≡ kinds_from b c at previous (records_up_to n level from left)
same_kinds_from b a c same zero level from at left previous low here =
    ap (λ l. map (λ kind. (at, kind)) (size_kinds b.level l)) (same_left a c same at here)
same_kinds_from b a c same (suc n) level from at left previous low here =
    by (is_well_sized level left) refl
    (same_kinds_from b a c same n level (from + block.size_of left) (from + size_of s) (drop (block.size_of left) left)
    (key_of b s) (omega arith) (omega arith))
  where
    r : Record
    r = first_record from left

    s : PlacedRecord
    s = record { previous = previous; record_ = first_record from left }

    rs : List Record
    rs = records_up_to n level (from + block.size_of left) (drop (block.size_of left) left)

    by : (t : Bool) → is_well_sized level left ≡ t
        → kinds_from b a (from + size_of s) (key_of b s) rs ≡ kinds_from b c (from + size_of s) (key_of b s) rs
        → kinds_from b a at previous (if t then r ∷ rs else []) ≡ kinds_from b c at previous (if t then r ∷ rs else [])
    by false e next = ap (λ l. map (λ kind. (at, kind)) (size_kinds b.level l)) (same_left a c same at here)
    by true e next =
        ap (λ l. map (λ kind. (from, kind)) (kinds_of b s) ++ (if is_ended b s then [] else l)) next

-- ---- where nothing is wrong

-- A right stamp has neither of the two kinds that are asked of it.
stamped_version : (h : Header) (c : List ℕ) → IsStamped h c
    → (not (version_of c == 1) || not (reserved_of c == 0)) ≡ false
stamped_version h c k =
    or_from (not (version_of c == 1)) (not (reserved_of c == 0))
    (not_from_true (version_of c == 1) (eq-eqb (version_of c) 1 k.version))
    (not_from_true (reserved_of c == 0) (eq-eqb (reserved_of c) 0 k.reserved))

pub stamped_head : (b : BlockReading) (a c : List ℕ) → IsStamped b.header c → (kind : FaultKind)
    → head_holds b a kind ≡ false → head_holds b c kind ≡ false
stamped_head b a c k BadVersion e = stamped_version b.header c k
stamped_head b a c k TransactionTooNew e = lt-leb b.header.tn (tn_of c) k.tn
stamped_head b a c k kind e = e

same_head : (b : BlockReading) (a c : List ℕ) → IsStamped b.header c → kinds_of_head b a ≡ [] → kinds_of_head b c ≡ []
unfolding kinds_of_head
same_head b a c k none =
    ap (through_first ends) (nil_filter (head_holds b c) head_kinds (λ kind i. stamped_head b a c k kind
    (filter_nil (head_holds b a) head_kinds (through_nil ends (filter (head_holds b a) head_kinds) none) kind i)))

-- no kinds, in their two parts
pub record NoKinds (b : BlockReading) (bytes : List ℕ) : Type 0 where
  pub head : kinds_of_head b bytes ≡ []
  pub records : kinds_from b bytes 16 [] (records_of bytes) ≡ []

pub none_parts : (b : BlockReading) (bytes : List ℕ) → kinds_of_block b bytes ≡ [] → NoKinds b bytes
unfolding kinds_of_block
none_parts b bytes h =
    let parts = nil_parts (map (λ kind. (0, kind)) (kinds_of_head b bytes)) _ h in
    let none = map_nil (λ (kind : FaultKind). (0, kind)) (kinds_of_head b bytes) parts.0 in
    let goes : list_any ends (kinds_of_head b bytes) ≡ false = ap (list_any ends) none in
    record { head = none; records = sym (cond-false (list_any ends (kinds_of_head b bytes)) [] _ goes) ∙ parts.1 }

pub none_from : (b : BlockReading) (bytes : List ℕ) → NoKinds b bytes → kinds_of_block b bytes ≡ []
unfolding kinds_of_block
none_from b bytes n =
    (λ i. map (λ kind. (0, kind)) (n.head i)
    ++ (if list_any ends (n.head i) then [] else kinds_from b bytes 16 [] (records_of bytes)))
    ∙ n.records

pub same_faultless : (h : Header) (v : Visit) (a c : List ℕ) → UsesSame a c → IsStamped h c
    → kinds_of_block (reading_of h v a) a ≡ [] → kinds_of_block (reading_of h v c) c ≡ []
same_faultless h v a c same stamped none =
    let b : BlockReading = reading_of h v a in
    let p = none_parts b a none in
    let records : kinds_from b c 16 [] (records_of c) ≡ [] =
    ap (kinds_from b c 16 []) (sym (same_records h v a c same))
    ∙ sym (same_kinds_from b a c same (length (bytes_left a 16)) (level_of a) 16 16 (bytes_left a 16) []
    (omega arith) (omega arith))
    ∙ p.records in
    ap (λ (r : BlockReading). kinds_of_block r c) (sym (same_reading h v a c same))
    ∙ none_from b c (record { head = same_head b a c stamped p.head; records = records })
