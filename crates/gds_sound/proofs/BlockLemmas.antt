-- Blocks with which nothing is wrong: what is known of their records, and how their children and items correspond. The
-- offsets of a block's children rise.
use Rattle.std.proofs.Common.{◌≡◌, ℕ, zero, suc, ◌+◌, ◌-◌, ◌%◌, ◌<◌, ◌≤◌, ◌==◌, Bool, true, false, not, ◌&&◌, ◌||◌}
use Rattle.std.proofs.Common.{if◌then◌else◌, List, [], ◌∷◌, ◌++◌, length, map, filter, find, drop, Option, None, Some}
use Rattle.std.proofs.Common.{inl, inr, refl, sym, ap, subst, ◌∙◌, arith}
use Rattle.std.specs.Prelude.{⊤, ◌^◌, option_map, nat_lt, nat_le}
use Rattle.std.specs.List.{list_any}
use Rattle.std.specs.Option.{option_map_or}
use Rattle.std.proofs.lemmas.Bool.{not-false, eqb-true, eqb-false, eq-eqb, ne_eqb, lt-ltb, le-ltb, leb-true, leb-false}
use Rattle.std.proofs.lemmas.Bool.{and_left, and_parts, and_from, and_cases, or_parts, not_from_false, cond_both}
use Rattle.std.proofs.lemmas.Bool.{cond-true, cond-false, both_ways}
use Rattle.gds_header.specs.Fields.{fields_of, block_of}
use Rattle.gds_header.specs.Kinds.{through_first}
use Rattle.gds_block.specs.Fields.{u32_at}
use Rattle.gds_block.specs.Record.{Record, records_of, records_from, records_up_to, first_record, is_well_sized}
use Rattle.gds_block.specs.Record.{least_size, bytes_left}
use Rattle.gds_block.specs.Record as block
use Rattle.gds_block.specs.Block.{level_of}
use Rattle.gds_law.specs.Kinds.{ends, head_kinds, record_kinds}
use Rattle.gds_law.specs.Visit.{directory, global, Visit, Child}
use Rattle.gds_law.specs.BlockReading.{BlockReading, PlacedRecord, reading_of, has_values, points, is_last, pointer_of}
use Rattle.gds_law.specs.BlockReading.{key_of, rest_of, size_of}
use Rattle.gds_law.specs.Record.{holds, kinds_of, target_of, is_ended, child_to, children_of_record, is_sound}
use Rattle.gds_law.specs.Block.{is_wrong_level, head_holds, kinds_of_head, kinds_from, kinds_of_block, children_from}
use Rattle.gds_law.specs.Block.{children_of}
use Rattle.gds_law.specs.Path.{children_at, child_at}
use Rattle.gds_sound.specs.Stands.{items_from}
use Rattle.gds_sound.specs.Sound.{root_of, items_at}
use Rattle.gds_law.specs.declared.kind.FaultKind.{FaultKind}
use Rattle.gds_law.specs.declared.kind.FaultKind.TheVariants.{WrongLevel, RestNotPointer, PointerNotPositive}
use Rattle.gds_law.specs.declared.kind.FaultKind.TheVariants.{PointerTooLarge, PointerToMap}
use Rattle.gds_law.proofs.MembershipLemmas.{IsIn, in_either}
use Rattle.gds_law.proofs.RankLemmas.{is_asked}

-- ---- empty lists

pub nil_parts : {A : Type 0} (xs ys : List A) → xs ++ ys ≡ [] → (xs ≡ []) × (ys ≡ [])
nil_parts [] ys h = (refl, h)
nil_parts (x ∷ xs) ys h = absurd (cc)

pub map_nil : {A B : Type 0} (f : A → B) (xs : List A) → map f xs ≡ [] → xs ≡ []
map_nil f [] h = refl
map_nil f (x ∷ xs) h = absurd (cc)

pub through_nil : {A : Type 0} (test : A → Bool) (xs : List A) → through_first test xs ≡ [] → xs ≡ []
through_nil test [] h = refl
through_nil {A} test (x ∷ xs) h = by (test x) h
  where
    by : (t : Bool) → (if t then x ∷ [] else x ∷ through_first test xs) ≡ [] → x ∷ xs ≡ []
    by true k = absurd (cc)
    by false k = absurd (cc)

pub filter_nil : {A : Type 0} (test : A → Bool) (xs : List A) → filter test xs ≡ [] → (x : A) → IsIn xs x
    → test x ≡ false
filter_nil test [] h x i = absurd i
filter_nil {A} test (y ∷ ys) h x i = by (test y) refl h i (λ k. filter_nil test ys k x)
  where
    by : (t : Bool) → test y ≡ t → (if t then y ∷ filter test ys else filter test ys) ≡ [] → IsIn (y ∷ ys) x
        → (filter test ys ≡ [] → IsIn ys x → test x ≡ false) → test x ≡ false
    by true e k j next = absurd (cc)
    by false e k (inl same) next = sym (ap test same) ∙ e
    by false e k (inr j) next = next k j

pub nil_filter : {A : Type 0} (test : A → Bool) (xs : List A) → ((x : A) → IsIn xs x → test x ≡ false)
    → filter test xs ≡ []
nil_filter test [] h = refl
nil_filter {A} test (y ∷ ys) h = rw (h y (inl refl)) (nil_filter test ys (λ x i. h x (inr i)))

-- ---- a record with which nothing is wrong

abbrev pub seen : List ℕ → Record → PlacedRecord
seen previous r = record { previous = previous; record_ = r }

pub record IsCleanRecord (b : BlockReading) (s : PlacedRecord) : Type 0 where
  pub none : (kind : FaultKind) → IsIn record_kinds kind → holds b s kind ≡ false
  pub goes_on : is_ended b s ≡ false

pub clean_record : (b : BlockReading) (s : PlacedRecord) → kinds_of b s ≡ [] → IsCleanRecord b s
unfolding kinds_of is_ended
clean_record b s h = record {
  none = filter_nil (holds b s) record_kinds (through_nil ends (filter (holds b s) record_kinds) h);
  goes_on = ap (list_any ends) h;
}

abbrev pub CleanRecords : BlockReading → List ℕ → List Record → Type 0
CleanRecords b previous [] = ⊤
CleanRecords b previous (r ∷ rs) = IsCleanRecord b (seen previous r) × CleanRecords b (key_of b (seen previous r)) rs

clean_records : (b : BlockReading) (bytes : List ℕ) (at : ℕ) (previous : List ℕ) (rs : List Record)
    → kinds_from b bytes at previous rs ≡ [] → CleanRecords b previous rs
clean_records b bytes at previous [] h = tt
clean_records b bytes at previous (r ∷ rs) h =
    let s : PlacedRecord = seen previous r in
    let parts = nil_parts (map (λ kind. (r.offset, kind)) (kinds_of b s)) _ h in
    let c = clean_record b s (map_nil (λ (kind : FaultKind). (r.offset, kind)) (kinds_of b s) parts.0) in (
      c,
      clean_records b bytes (r.offset + size_of s) (key_of b s) rs (sym (cond-false (is_ended b s) [] _ c.goes_on)
          ∙ parts.1),
    )

pub record IsCleanBlock (b : BlockReading) (bytes : List ℕ) : Type 0 where
  pub head : list_any ends (kinds_of_head b bytes) ≡ false
  pub level : is_wrong_level b.visit.level b.level ≡ false
  pub records : CleanRecords b [] (records_of bytes)

head_level : (b : BlockReading) (bytes : List ℕ) → kinds_of_head b bytes ≡ []
    → is_wrong_level b.visit.level b.level ≡ false
unfolding kinds_of_head
head_level b bytes h =
    filter_nil (head_holds b bytes) head_kinds (through_nil ends (filter (head_holds b bytes) head_kinds) h) WrongLevel
    is_asked

pub clean_block : (b : BlockReading) (bytes : List ℕ) → kinds_of_block b bytes ≡ [] → IsCleanBlock b bytes
unfolding kinds_of_block
clean_block b bytes h =
    let parts = nil_parts (map (λ kind. (0, kind)) (kinds_of_head b bytes)) _ h in
    let none = map_nil (λ (kind : FaultKind). (0, kind)) (kinds_of_head b bytes) parts.0 in
    let goes : list_any ends (kinds_of_head b bytes) ≡ false = ap (list_any ends) none in
    record {
      head = goes;
      level = head_level b bytes none;
      records = clean_records b bytes 16 [] (records_of bytes)
          (sym (cond-false (list_any ends (kinds_of_head b bytes)) [] _ goes) ∙ parts.1);
    }

-- ---- its pointer

pointer_sound : (p total size : ℕ) (multiple : Bool) → ((p == 0) || nat_le size p) ≡ false
    → (nat_le total p && nat_lt p size) ≡ false
    → (nat_lt 0 p && nat_lt p total && multiple) ≡ false → (nat_lt 0 p && nat_lt p total && not multiple) ≡ true
pointer_sound p total size multiple h k l =
    let parts = or_parts (p == 0) (nat_le size p) h in
    let some : 0 < p = let n = eqb-false p 0 parts.0 in omega arith in
    let low : p < size = leb-false size p parts.1 in
    let within : p < total = elim (and_cases (nat_le total p) (nat_lt p size) k) [
      | inl e ↦ leb-false total p e
      | inr e ↦ absurd (both_ways (nat_lt p size) e (lt-ltb p size low))
    ] in
    let both : (nat_lt 0 p && nat_lt p total) ≡ true =
    and_from (nat_lt 0 p) (nat_lt p total) (lt-ltb 0 p some) (lt-ltb p total within) in
    elim (and_cases (nat_lt 0 p && nat_lt p total) multiple l) [
      | inl e ↦ absurd (both_ways (nat_lt 0 p && nat_lt p total) e both)
      | inr e ↦ and_from (nat_lt 0 p && nat_lt p total) (not multiple) both (not_from_false multiple e)
    ]

pub asked_not_positive : IsIn record_kinds PointerNotPositive
asked_not_positive =
    inr (inr (inr (inr (inr (inr (inr (inr (inr
    (inr (inr (inr (inr (inr (inr (inr (inr (inr (inr (inl refl)))))))))))))))))))

asked_too_large : IsIn record_kinds PointerTooLarge
asked_too_large =
    inr (inr (inr (inr (inr (inr (inr (inr (inr
    (inr (inr (inr (inr (inr (inr (inr (inr (inr (inr (inr (inl refl))))))))))))))))))))

asked_to_map : IsIn record_kinds PointerToMap
asked_to_map =
    inr (inr (inr (inr (inr (inr (inr (inr (inr
    (inr (inr (inr (inr (inr (inr (inr (inr (inr (inr (inr (inr (inl refl)))))))))))))))))))))

asked_rest : IsIn record_kinds RestNotPointer
asked_rest =
    inr (inr (inr (inr (inr (inr (inr (inr (inr (inr (inr (inr (inr (inr (inr (inr (inr (inl refl)))))))))))))))))

has_at : (test : ℕ → Bool) (o : Option ℕ) (p : ℕ) → o ≡ Some p → option_map_or test o false ≡ false → test p ≡ false
has_at test o p e h = sym (ap (λ q. option_map_or test q false) e) ∙ h

pub clean_pointer : (b : BlockReading) (s : PlacedRecord) (p : ℕ) → IsCleanRecord b s → pointer_of b s ≡ Some p
    → is_sound b p ≡ true
clean_pointer b s p c e =
    pointer_sound p b.header.total (2 ^ 31) (p % 512 == 0)
    (has_at _ (pointer_of b s) p e (c.none PointerNotPositive asked_not_positive))
    (has_at _ (pointer_of b s) p e (c.none PointerTooLarge asked_too_large))
    (has_at _ (pointer_of b s) p e (c.none PointerToMap asked_to_map))

-- a record that isn't the last, where pointers are due
rest_right : (last due four : Bool) → last ≡ false → due ≡ true → (if last then false else (due && not four)) ≡ false
    → four ≡ true
rest_right true due four l d h = absurd (cc)
rest_right false true four l d h = not-false four h
rest_right false false four l d h = absurd (cc)

pointer_there : (last due four : Bool) (x y : Option ℕ) → last ≡ false → due ≡ true → four ≡ true
    → (if last then x else (if due && four then y else None)) ≡ y
pointer_there true due four x y l d f = absurd (cc)
pointer_there false true true x y l d f = refl
pointer_there false true false x y l d f = absurd (cc)
pointer_there false false four x y l d f = absurd (cc)

pub leaf_pointer : (b : BlockReading) (s : PlacedRecord) → IsCleanRecord b s → is_last b s ≡ false → points b ≡ true
    → pointer_of b s ≡ Some (u32_at (rest_of b s) 0)
leaf_pointer b s c l d =
    let four = rest_right (is_last b s) (points b) (length (rest_of b s) == 4) l d (c.none RestNotPointer asked_rest) in
    pointer_there (is_last b s) (points b) (length (rest_of b s) == 4) _ _ l d four

pub not_last : (b : BlockReading) (s : PlacedRecord) → (b.level == 0) ≡ true → is_last b s ≡ false
not_last b s z = let e = eqb-true b.level 0 z in and_left _ _ (le-ltb 0 b.level (omega arith))

-- ---- children of leaves

-- A leaf of the directory has a child for each of its items: the root of the item's global.
leaf_child : (b : BlockReading) (s : PlacedRecord) → IsCleanRecord b s → (b.level == 0) ≡ true → points b ≡ true
    → map (λ (c : Child). c.visit) (children_of_record b s)
    ≡ root_of (record { key = key_of b s; rest = rest_of b s }) ∷ []
unfolding target_of
leaf_child b s c z d =
    let e = leaf_pointer b s c (not_last b s z) d in
    let sound = clean_pointer b s (u32_at (rest_of b s) 0) c e in
    ap (λ o. map (λ (c : Child). c.visit) (child_to b s o)) e
    ∙ ap (λ cs. map (λ (c : Child). c.visit) cs) (cond-true (is_sound b (u32_at (rest_of b s) 0)) _ _ sound)
    ∙ ap (λ v. v ∷ []) (cond-true (b.level == 0) _ _ z)

map_append : {A B : Type 0} (f : A → B) (xs ys : List A) → map f (xs ++ ys) ≡ map f xs ++ map f ys
map_append f [] ys = refl
map_append f (x ∷ xs) ys = ap (λ l. f x ∷ l) (map_append f xs ys)

leaf_children : (b : BlockReading) (previous : List ℕ) (rs : List Record) → CleanRecords b previous rs
    → (b.level == 0) ≡ true → points b ≡ true
    → map (λ (c : Child). c.visit) (children_from b previous rs) ≡ map root_of (items_from b previous rs)
leaf_children b previous [] c z d = refl
leaf_children b previous (r ∷ rs) c z d =
    let s : PlacedRecord = seen previous r in
    ap (λ cs. map (λ (c : Child). c.visit) cs) (cond-false (is_ended b s) [] _ c.0.goes_on)
    ∙ map_append (λ (c : Child). c.visit) (children_of_record b s) (children_from b (key_of b s) rs)
    ∙ (λ i. leaf_child b s c.0 z d i ++ leaf_children b (key_of b s) rs c.1 z d i)
    ∙ sym (ap (λ items. map root_of items) (cond-false (is_ended b s) [] _ c.0.goes_on))

-- A leaf of a global has none.
no_pointer : (last due four : Bool) (x y : Option ℕ) → last ≡ false → due ≡ false
    → (if last then x else (if due && four then y else None)) ≡ None
no_pointer true due four x y l d = absurd (cc)
no_pointer false true four x y l d = absurd (cc)
no_pointer false false four x y l d = refl

pub value_children : (b : BlockReading) (previous : List ℕ) (rs : List Record) → (b.level == 0) ≡ true
    → points b ≡ false
    → children_from b previous rs ≡ []
value_children b previous [] z d = refl
value_children b previous (r ∷ rs) z d =
    let s : PlacedRecord = seen previous r in
    let e = no_pointer (is_last b s) (points b) (length (rest_of b s) == 4) _ _ (not_last b s z) d in
    cond_both (is_ended b s) _ _ (λ (cs : List Child). cs ≡ []) (λ _. refl)
    (λ _. (λ i. child_to b s (e i) ++ value_children b (key_of b s) rs z d i))

-- ---- children of index blocks

record IsBelow (b : BlockReading) (c : Child) : Type 0 where
  role : c.visit.role ≡ b.visit.role
  level : c.visit.level ≡ Some (b.level - 1)

target_below : (b : BlockReading) (s : PlacedRecord) (p : ℕ) → (b.level == 0) ≡ false
    → IsBelow b (record { offset = s.record_.offset; visit = target_of b s p })
unfolding target_of
target_below b s p z = rw z (record { role = refl; level = refl })

index_child : (b : BlockReading) (s : PlacedRecord) (c : Child) → (b.level == 0) ≡ false
    → IsIn (children_of_record b s) c → IsBelow b c
index_child b s c z i = by (pointer_of b s) i
  where
    made : (p : ℕ) → IsBelow b (record { offset = s.record_.offset; visit = target_of b s p })
    made p = target_below b s p z

    under : (p : ℕ) (t : Bool)
        → IsIn (if t then record { offset = s.record_.offset; visit = target_of b s p } ∷ [] else []) c → IsBelow b c
    under p true (inl e) = subst (IsBelow b) e (made p)
    under p true (inr j) = absurd j
    under p false j = absurd j

    by : (o : Option ℕ) → IsIn (child_to b s o) c → IsBelow b c
    by None j = absurd j
    by (Some p) j = under p (is_sound b p) j

index_children : (b : BlockReading) (previous : List ℕ) (rs : List Record) (c : Child) → (b.level == 0) ≡ false
    → IsIn (children_from b previous rs) c → IsBelow b c
index_children b previous [] c z i = absurd i
index_children b previous (r ∷ rs) c z i =
    by (is_ended b (seen previous r)) i (index_children b (key_of b (seen previous r)) rs c z)
  where
    by : (t : Bool)
        → IsIn (if t then [] else children_of_record b (seen previous r)
        ++ children_from b (key_of b (seen previous r)) rs) c
        → (IsIn (children_from b (key_of b (seen previous r)) rs) c → IsBelow b c) → IsBelow b c
    by true j next = absurd j
    by false j next =
        elim (in_either
        (children_of_record b (seen previous r)) (children_from b (key_of b (seen previous r)) rs) c j) [
          | inl k ↦ index_child b (seen previous r) c z k
          | inr k ↦ next k
        ]

-- ---- the offsets rise

abbrev pub RisingFrom : ℕ → List Child → Type 0
RisingFrom low [] = ⊤
RisingFrom low (c ∷ cs) = (low ≤ c.offset) × RisingFrom (suc c.offset) cs

rising_sooner : (low high : ℕ) (cs : List Child) → low ≤ high → RisingFrom high cs → RisingFrom low cs
rising_sooner low high [] l r = tt
rising_sooner low high (c ∷ cs) l r = (omega (arith, r.0), r.1)

child_rises : (b : BlockReading) (s : PlacedRecord) (cs : List Child) → RisingFrom (suc s.record_.offset) cs
    → RisingFrom s.record_.offset (children_of_record b s ++ cs)
child_rises b s cs r = by (pointer_of b s)
  where
    sooner : RisingFrom s.record_.offset cs
    sooner = rising_sooner s.record_.offset (suc s.record_.offset) cs (omega arith) r

    under : (p : ℕ) (t : Bool)
        → RisingFrom s.record_.offset ((if t then record {
          offset = s.record_.offset;
          visit =
              target_of b s p;
        } ∷ [] else []) ++ cs)
    under p true = (omega arith, r)
    under p false = sooner

    by : (o : Option ℕ) → RisingFrom s.record_.offset (child_to b s o ++ cs)
    by None = sooner
    by (Some p) = under p (is_sound b p)

some_size : (level : ℕ) (left : List ℕ) → is_well_sized level left ≡ true → 1 ≤ block.size_of left
some_size level left h =
    let parts =
    and_parts (nat_le 4 (length left)
    && nat_le (least_size level) (block.size_of left)) (nat_le (block.size_of left) (length left)) h in
    let least = leb-true (least_size level) (block.size_of left) (and_parts (nat_le 4 (length left)) _ parts.0).1 in
    let some : 1 ≤ least_size level = cond_both (level == 0) 5 8 (λ n. 1 ≤ n) (λ _. omega arith) (λ _. omega arith) in
    omega (arith, least, some)

on_rises : (b : BlockReading) (s : PlacedRecord) (t : Bool) (cs : List Child) → RisingFrom (suc s.record_.offset) cs
    → RisingFrom s.record_.offset (if t then [] else children_of_record b s ++ cs)
on_rises b s true cs r = tt
on_rises b s false cs r = child_rises b s cs r

children_rise : (b : BlockReading) (n level at : ℕ) (left previous : List ℕ)
    → RisingFrom at (children_from b previous (records_up_to n level at left))
children_rise b zero level at left previous = tt
children_rise b (suc n) level at left previous =
    by (is_well_sized level left) refl (records_up_to n level (at
    + block.size_of left) (drop (block.size_of left) left))
    (children_rise b n level (at
    + block.size_of left) (drop (block.size_of left) left) (key_of b (seen previous (first_record at left))))
  where
    by : (t : Bool) → is_well_sized level left ≡ t → (rs : List Record)
        → RisingFrom (at + block.size_of left) (children_from b (key_of b (seen previous (first_record at left))) rs)
        → RisingFrom at (children_from b previous (if t then first_record at left ∷ rs else []))
    by true e rs r =
        let cs : List Child = children_from b (key_of b (seen previous (first_record at left))) rs in
        on_rises b (seen previous (first_record at left)) (is_ended b (seen previous (first_record at left))) cs
        (rising_sooner (suc at) (at + block.size_of left) cs (omega (arith, some_size level left e)) r)
    by false e rs r = tt

-- ---- at a visit

abbrev pub reading_at : List ℕ → Visit → BlockReading
reading_at image v = reading_of (fields_of image) v (block_of image v.block)

abbrev pub kinds_at : List ℕ → Visit → List (ℕ × FaultKind)
kinds_at image v = kinds_of_block (reading_at image v) (block_of image v.block)

abbrev pub level_at : List ℕ → Visit → ℕ
level_at image v = level_of (block_of image v.block)

pub children_clean : (image : List ℕ) (v : Visit) → kinds_at image v ≡ []
    → children_at image v ≡ children_from (reading_at image v) [] (records_of (block_of image v.block))
unfolding children_at children_of
children_clean image v h =
    cond-false (list_any ends (kinds_of_head (reading_at image v) (block_of image v.block))) [] _
    (clean_block (reading_at image v) (block_of image v.block) h).head

-- It has the level that is due.
pub level_due : (image : List ℕ) (v : Visit) (due : ℕ) → kinds_at image v ≡ [] → v.level ≡ Some due
    → level_at image v ≡ due
level_due image v due h e =
    let right = (clean_block (reading_at image v) (block_of image v.block) h).level in
    eqb-true (level_at image v) due (not-false (level_at image v ==
    due) (sym (ap (λ o. is_wrong_level o (level_at image v)) e) ∙ right))

pub leaf_visits : (image : List ℕ) (v : Visit) → kinds_at image v ≡ [] → level_at image v ≡ 0 → v.role ≡ directory
    → map (λ (c : Child). c.visit) (children_at image v) ≡ map root_of (items_at image v)
leaf_visits image v h z d =
    ap (map (λ (c : Child). c.visit)) (children_clean image v h)
    ∙ leaf_children (reading_at image v) [] (records_of (block_of image v.block))
    (clean_block (reading_at image v) (block_of image v.block) h).records
    (eq-eqb (level_at image v) 0 z) (ap (λ role. not (has_values (reading_at image v) role)) d)

pub value_leaf : (image : List ℕ) (v : Visit) (name : List ℕ) → kinds_at image v ≡ [] → level_at image v ≡ 0
    → v.role ≡ global name → children_at image v ≡ []
value_leaf image v name h z d =
    let e = eq-eqb (level_at image v) 0 z in
    children_clean image v h
    ∙ value_children (reading_at image v) [] (records_of (block_of image v.block)) e
    (ap (λ role. not (has_values (reading_at image v) role)) d ∙ ap not e)

pub index_role : (image : List ℕ) (v : Visit) (c : Child) (level : ℕ) → kinds_at image v ≡ []
    → level_at image v ≡ suc level → IsIn (children_at image v) c
    → (c.visit.role ≡ v.role) × (c.visit.level ≡ Some level)
index_role image v c level h e i =
    let b = index_children (reading_at image v) [] (records_of (block_of image v.block)) c
    (ne_eqb (level_at image v) 0 (λ z. omega arith))
    (subst (λ cs. IsIn cs c) (children_clean image v h) i) in
    let n : level_at image v - 1 ≡ level = omega arith in
    (b.role, b.level ∙ ap (λ l. Some l) n)

pub children_apart : (image : List ℕ) (v : Visit) → RisingFrom 16 (children_at image v)
unfolding children_at children_of
children_apart image v =
    let b : BlockReading = reading_at image v in
    let left : List ℕ = bytes_left (block_of image v.block) 16 in
    cond_both (list_any ends (kinds_of_head b (block_of image v.block))) _ _ (λ (cs : List Child). RisingFrom 16 cs)
    (λ _. tt)
    (λ _. children_rise b (length left) (level_at image v) 16 left [])

-- So the child at an offset is found.
pub above : (low : ℕ) (cs : List Child) (c : Child) → RisingFrom low cs → IsIn cs c → low ≤ c.offset
above low [] c r i = absurd i
above low (d ∷ ds) c r (inl e) = subst (λ (w : Child). low ≤ w.offset) e r.0
above low (d ∷ ds) c r (inr i) = omega (arith, r.0, above (suc d.offset) ds c r.1 i)

found_child : (low : ℕ) (cs : List Child) (c : Child) → RisingFrom low cs → IsIn cs c
    → find (λ d. d.offset == c.offset) cs ≡ Some c
found_child low [] c r i = absurd i
found_child low (d ∷ ds) c r (inl e) =
    cond-true (d.offset == c.offset) _ _ (eq-eqb d.offset c.offset (ap (λ (w : Child). w.offset) e))
    ∙ ap (λ w. Some w) e
found_child low (d ∷ ds) c r (inr i) =
    let more = above (suc d.offset) ds c r.1 i in
    cond-false (d.offset == c.offset) _ _ (ne_eqb d.offset c.offset (λ e. omega (arith, e, more)))
    ∙ found_child (suc d.offset) ds c r.1 i

pub child_found : (image : List ℕ) (v : Visit) (c : Child) → IsIn (children_at image v) c
    → child_at image v c.offset ≡ Some c.visit
child_found image v c i =
    ap (option_map (λ (d : Child). d.visit)) (found_child 16 (children_at image v) c (children_apart image v) i)
