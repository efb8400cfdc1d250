-- With a block whose records are those of lawful entries nothing is wrong; its items and children are by the entries.
use Rattle.std.proofs.Common.{◌≡◌, ℕ, ◌+◌, ◌≤◌, ◌==◌, true, false, ◌&&◌, List, [], ◌∷◌}
use Rattle.std.proofs.Common.{◌++◌, length, map, if◌then◌else◌, None, Some, inl, inr, refl}
use Rattle.std.proofs.Common.{ap, ◌∙◌, arith}
use Rattle.std.specs.Prelude.{◌^◌}
use Rattle.std.specs.List.{AllByRecursion}
use Rattle.std.proofs.lemmas.Bool.{cond-true, cond-false, eq-eqb, and_from}
use Rattle.gds_block.specs.Fields.{u32_at}
use Rattle.gds_block.specs.Item.{Item}
use Rattle.gds_block.specs.Record.{Record, bytes_left}
use Rattle.gds_law.specs.Visit.{Visit}
use Rattle.gds_law.specs.BlockReading.{BlockReading, PlacedRecord, is_last, size_of, key_of, rest_of, points}
use Rattle.gds_law.specs.Record.{is_sound, target_of, child_to, children_of_record}
use Rattle.gds_law.specs.Block.{size_kinds, kinds_from, children_from}
use Rattle.m_key.specs.KeyEnd.{IsKey}
use Rattle.m_key.proofs.KeyEndLemmas.{length-key}
use Rattle.gds_pack.specs.Packed.{record_size, records_size, packed_record, packed_records}
use Rattle.gds_pack.specs.Packable.{IsNext, AreLeaves}
use Rattle.gds_sound.specs.Sound.{root_of}
use Rattle.gds_sound.specs.Stands.{items_from}
use Rattle.gds_sound.proofs.BlockLemmas.{seen, not_last}
use Rattle.gds_tree.specs.Lawful.{IsPointer, IsLawfulEntry}
use Rattle.gds_tree.specs.Below.{directory_children}
use Rattle.gds_tree.proofs.TestLemmas.{number_sound}
use Rattle.gds_tree.proofs.ReadLemmas.{packed_length}
use Rattle.gds_tree.proofs.CleanLemmas.{Before, IsFine, pointer_due, key_is, rest_is, keyed_fine}

-- A whole key isn't empty.
pub some_key : (key : List ℕ) → IsKey key → key ≡ [] → ⊥
some_key key k e = let some = length-key key k in omega (arith, ap length e)

-- What a record that a fine one is followed by has before it.
pub before_next : (at : ℕ) (previous : List ℕ) (e : Item) → Before at previous → IsKey e.key
    → Before (at + record_size previous e) e.key
before_next at previous e before key =
    elim before [ inl f ↦ let low = f.0 in inr (omega arith, key) | inr f ↦ let low = f.0 in inr (omega arith, key) ]

abbrev pub Lawful : BlockReading → List Item → Type 0
Lawful b es = AllByRecursion (IsLawfulEntry b.header b.visit b.level) es

module _ (b : BlockReading) (bytes : List ℕ) (total : b.header.total ≤ 2 ^ 31)
    (ended : bytes_left bytes b.used ≡ []) where
  pub record_end : (at : ℕ) (previous : List ℕ) (e : Item)
      → at + size_of (seen previous (packed_record at previous e)) ≡ at + record_size previous e
  record_end at previous e = omega (arith, packed_length at previous e)

  -- what is told behind the last record
  pub none_told : (at : ℕ) (previous : List ℕ) → at + 0 ≡ b.used → kinds_from b bytes at previous [] ≡ []
  none_told at previous e =
      let here : at ≡ b.used = omega arith in
      ap (λ n. map (λ kind. (at, kind)) (size_kinds b.level (bytes_left bytes n))) here
      ∙ ap (λ l. map (λ kind. (at, kind)) (size_kinds b.level l)) ended

  -- what is told of a fine record, and behind it
  pub told_behind : (at : ℕ) (previous key : List ℕ) (e : Item) (rs : List Record)
      → IsFine b (seen previous (packed_record at previous e))
      → key_of b (seen previous (packed_record at previous e)) ≡ key
      → kinds_from b bytes (at + record_size previous e) key rs ≡ []
      → kinds_from b bytes at previous (packed_record at previous e ∷ rs) ≡ []
  told_behind at previous key e rs fine k rest =
      (λ i. map (λ kind. (at, kind)) (fine.none i)
      ++ (if fine.goes_on i then [] else kinds_from b bytes (record_end at previous e i) (k i) rs))
      ∙ rest

  -- ---- a level-0 block

  module _ (z : b.level ≡ 0) where
    leaf_last : (at : ℕ) (previous : List ℕ) (e : Item)
        → is_last b (seen previous (packed_record at previous e)) ≡ false
    leaf_last at previous e = not_last b (seen previous (packed_record at previous e)) (eq-eqb b.level 0 z)

    leaf_fine : (at : ℕ) (previous : List ℕ) (e : Item) → Before at previous → IsNext previous e
        → IsLawfulEntry b.header b.visit b.level e → IsFine b (seen previous (packed_record at previous e))
    leaf_fine at previous e before next lawful =
        keyed_fine b at previous e before next (lawful.key (some_key e.key next.is_key)) lawful.rest total
        (leaf_last at previous e)

    leaf_key : (at : ℕ) (previous : List ℕ) (e : Item) → Before at previous → IsNext previous e
        → IsLawfulEntry b.header b.visit b.level e
        → (key_of b (seen previous (packed_record at previous e)) ≡ e.key)
        × (rest_of b (seen previous (packed_record at previous e)) ≡ e.rest)
    leaf_key at previous e before next lawful =
        let key = lawful.key (some_key e.key next.is_key) in (
          key_is b at previous e before next key lawful.rest total (leaf_last at previous e),
          rest_is b at previous e before next key lawful.rest total (leaf_last at previous e),
        )

    pub leaf_kinds : (at : ℕ) (previous : List ℕ) (es : List Item) → Before at previous → AreLeaves previous es
        → Lawful b es → at + records_size previous es ≡ b.used
        → kinds_from b bytes at previous (packed_records at previous es) ≡ []
    leaf_kinds at previous [] before leaves lawful size = none_told at previous size
    leaf_kinds at previous (e ∷ es) before leaves lawful size =
        told_behind at previous e.key e (packed_records (at + record_size previous e) e.key es)
        (leaf_fine at previous e before leaves.0 lawful.0) (leaf_key at previous e before leaves.0 lawful.0).0
        (leaf_kinds (at + record_size previous e) e.key es (before_next at previous e before leaves.0.is_key) leaves.1
        lawful.1 (omega arith))

    pub leaf_items : (at : ℕ) (previous : List ℕ) (es : List Item) → Before at previous → AreLeaves previous es
        → Lawful b es → items_from b previous (packed_records at previous es) ≡ es
    leaf_items at previous [] before leaves lawful = refl
    leaf_items at previous (e ∷ es) before leaves lawful =
        let fine = leaf_fine at previous e before leaves.0 lawful.0 in
        let read = leaf_key at previous e before leaves.0 lawful.0 in
        let rs : List Record = packed_records (at + record_size previous e) e.key es in
        (λ i. if fine.goes_on i then [] else record { key = read.0 i; rest = read.1 i } ∷ items_from b (read.0 i) rs)
        ∙ ap (λ l. e ∷ l)
        (leaf_items (at + record_size previous e) e.key es (before_next at previous e before leaves.0.is_key) leaves.1
        lawful.1)

    -- a record of the directory's leaf leads to the root of its entry's global
    root_child : (at : ℕ) (previous : List ℕ) (e : Item) → points b ≡ true
        → key_of b (seen previous (packed_record at previous e)) ≡ e.key
        → rest_of b (seen previous (packed_record at previous e)) ≡ e.rest → IsPointer b.header e.rest
        → children_of_record b (seen previous (packed_record at previous e))
        ≡ record { offset = at; visit = root_of e } ∷ []
    unfolding target_of
    root_child at previous e d key rest pointer =
        let s : PlacedRecord = seen previous (packed_record at previous e) in
        let p : ℕ = u32_at e.rest 0 in
        let four : (points b && (length (rest_of b s) == 4)) ≡ true =
        and_from (points b) (length (rest_of b s) == 4) d
        (eq-eqb (length (rest_of b s)) 4 (ap length rest ∙ pointer.size)) in
        ap (child_to b s)
        (cond-false (is_last b s) _ _ (leaf_last at previous e) ∙ cond-true _ (Some (u32_at (rest_of b s) 0)) None four
        ∙ ap (λ r. Some (u32_at r 0)) rest)
        ∙ cond-true (is_sound b p) _ _ (number_sound b p pointer.leads)
        ∙ ap (λ (v : Visit). record { offset = at; visit = v } ∷ []) (cond-true (b.level == 0) _ _ (eq-eqb b.level 0 z)
        ∙ ap (λ k. root_of (record { key = k; rest = e.rest })) key)

    pub root_children : points b ≡ true → (at : ℕ) (previous : List ℕ) (es : List Item) → Before at previous
        → AreLeaves previous es → Lawful b es
        → children_from b previous (packed_records at previous es) ≡ directory_children at previous es
    root_children d at previous [] before leaves lawful = refl
    root_children d at previous (e ∷ es) before leaves lawful =
        let fine = leaf_fine at previous e before leaves.0 lawful.0 in
        let read = leaf_key at previous e before leaves.0 lawful.0 in
        let rs : List Record = packed_records (at + record_size previous e) e.key es in
        let pointer = pointer_due b b.visit.role b.level e.rest refl d lawful.0.rest in
        (λ i. if fine.goes_on i then [] else root_child at previous e d read.0 read.1 pointer i
        ++ children_from b (read.0 i) rs)
        ∙ ap (λ l. record { offset = at; visit = root_of e } ∷ l)
        (root_children d (at + record_size previous e) e.key es (before_next at previous e before leaves.0.is_key)
        leaves.1 lawful.1)
