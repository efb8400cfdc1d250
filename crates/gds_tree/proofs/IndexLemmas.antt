-- The same of an index block.
use Rattle.std.proofs.Common.{◌≡◌, ℕ, suc, ◌+◌, ◌-◌, ◌<◌, ◌≤◌, ◌==◌, true, false, not, ◌&&◌, List, [], ◌∷◌}
use Rattle.std.proofs.Common.{◌++◌, length, if◌then◌else◌, Option, None, Some, ◌⊎◌, inl, inr, refl, sym, ap}
use Rattle.std.proofs.Common.{◌∙◌, arith}
use Rattle.std.specs.Prelude.{◌^◌, nat_lt}
use Rattle.std.proofs.lemmas.Bool.{cond-true, cond-false, eq-eqb, ne_eqb, lt-ltb, and_from, and_right}
use Rattle.gds_block.specs.Fields.{u32_at}
use Rattle.gds_block.specs.Item.{Item}
use Rattle.gds_block.specs.Record.{Record, bytes_left}
use Rattle.gds_law.specs.Visit.{TreeRole, directory, global, Visit}
use Rattle.gds_law.specs.BlockReading.{BlockReading, PlacedRecord, is_last, size_of, key_of, rest_of, points}
use Rattle.gds_law.specs.BlockReading.{has_values, pointer_of}
use Rattle.gds_law.specs.Record.{is_sound, low_of, high_of, target_of, child_to, children_of_record}
use Rattle.gds_law.specs.Block.{kinds_from, children_from}
use Rattle.gds_pack.specs.Packed.{record_size, records_size, packed_record, packed_records}
use Rattle.gds_pack.specs.Packable.{IsNext, AreIndex}
use Rattle.gds_sound.proofs.BlockLemmas.{seen}
use Rattle.gds_tree.specs.Lawful.{IsPointer, IsLawfulEntry}
use Rattle.gds_tree.specs.Below.{high_below, visit_below, index_children}
use Rattle.gds_tree.proofs.TestLemmas.{number_sound}
use Rattle.gds_tree.proofs.CleanLemmas.{Before, IsFine, pointer_due, key_is, rest_is, keyed_fine, star_fine, star_body}
use Rattle.gds_tree.proofs.FineLemmas.{Lawful, some_key, before_next, record_end, none_told, told_behind}

-- the lower bound below a record: that of the block below the first, and else the key before it
abbrev pub LowAt : Visit → ℕ → List ℕ → Option (List ℕ) → Type 0
LowAt v at previous low = ((at ≡ 16) × (low ≡ v.low)) ⊎ ((16 < at) × (low ≡ Some previous))

low_next : (v : Visit) (at : ℕ) (previous : List ℕ) (e : Item) (low : Option (List ℕ)) → LowAt v at previous low
    → LowAt v (at + record_size previous e) e.key (Some e.key)
low_next v at previous e low l =
    elim l [ inl f ↦ let here = f.0 in inr (omega arith, refl) | inr f ↦ let here = f.0 in inr (omega arith, refl) ]

high_some : (high : Option (List ℕ)) (key : List ℕ) → (key ≡ [] → ⊥) → Some key ≡ high_below high key
high_some high [] h = absurd (h refl)
high_some high (k ∷ key) h = refl

module _ (b : BlockReading) (bytes : List ℕ) (total : b.header.total ≤ 2 ^ 31) (ended : bytes_left bytes b.used ≡ [])
    (level : ℕ) (z : b.level ≡ suc level) where
  over : nat_lt 0 b.level ≡ true
  over = lt-ltb 0 b.level (omega arith)

  above : (b.level == 0) ≡ false
  above = ne_eqb b.level 0 (λ k. omega arith)

  all_point : points b ≡ true
  all_point = by b.visit.role
    where
      by : (role : TreeRole) → not (has_values b role) ≡ true
      by directory = refl
      by (global name) = ap not above

  -- A record that another follows isn't the last, and the star's is.
  more_behind : (at : ℕ) (previous : List ℕ) (e f : Item) (es : List Item)
      → at + records_size previous (e ∷ f ∷ es) ≡ b.used
      → is_last b (seen previous (packed_record at previous e)) ≡ false
  more_behind at previous e f es size =
      and_right (nat_lt 0 b.level) _
      (ne_eqb (at + size_of (seen previous (packed_record at previous e))) b.used
      (λ k. omega (arith, record_end b bytes total ended at previous e, k, size)))

  none_behind : (at : ℕ) (previous : List ℕ) (e : Item) → at + records_size previous (e ∷ []) ≡ b.used
      → is_last b (seen previous (packed_record at previous e)) ≡ true
  none_behind at previous e size =
      and_from (nat_lt 0 b.level) _ over
      (eq-eqb (at + size_of (seen previous (packed_record at previous e))) b.used
      (omega (arith, record_end b bytes total ended at previous e, size)))

  keyed : (at : ℕ) (previous : List ℕ) (e : Item) → Before at previous → IsNext previous e
      → IsLawfulEntry b.header b.visit b.level e → is_last b (seen previous (packed_record at previous e)) ≡ false
      → IsFine b (seen previous (packed_record at previous e))
      × (key_of b (seen previous (packed_record at previous e)) ≡ e.key)
      × (rest_of b (seen previous (packed_record at previous e)) ≡ e.rest)
  keyed at previous e before next lawful l =
      let key = lawful.key (some_key e.key next.is_key) in (
        keyed_fine b at previous e before next key lawful.rest total l,
        key_is b at previous e before next key lawful.rest total l,
        rest_is b at previous e before next key lawful.rest total l,
      )

  pointer : (e : Item) → IsLawfulEntry b.header b.visit b.level e → IsPointer b.header e.rest
  pointer e lawful = pointer_due b b.visit.role b.level e.rest refl all_point lawful.rest

  pub index_kinds : (at : ℕ) (previous : List ℕ) (es : List Item) → Before at previous → AreIndex previous es
      → Lawful b es → at + records_size previous es ≡ b.used
      → kinds_from b bytes at previous (packed_records at previous es) ≡ []
  index_kinds at previous [] before index lawful size = absurd index
  index_kinds at previous (e ∷ []) before index lawful size =
      let l = none_behind at previous e size in
      told_behind b bytes total ended at previous (key_of b (seen previous (packed_record at previous e))) e []
      (star_fine b at previous e index.0 (pointer e lawful.0) total l) refl
      (none_told b bytes total ended (at + record_size previous e)
      (key_of b (seen previous (packed_record at previous e))) (omega arith))
  index_kinds at previous (e ∷ f ∷ es) before index lawful size =
      let k = keyed at previous e before index.0 lawful.0 (more_behind at previous e f es size) in
      told_behind b bytes total ended at previous e.key e (packed_records (at + record_size previous e) e.key (f ∷ es))
      k.0 k.1
      (index_kinds (at + record_size previous e) e.key (f ∷ es) (before_next at previous e before index.0.is_key)
      index.2 lawful.1 (omega arith))

  -- where a record's pointer leads
  low_is : (at : ℕ) (previous : List ℕ) (e : Item) (low : Option (List ℕ)) → LowAt b.visit at previous low
      → low_of b (seen previous (packed_record at previous e)) ≡ low
  low_is at previous e low l = elim l [
    | inl f ↦ cond-true (at == 16) _ _ (eq-eqb at 16 f.0) ∙ sym f.1
    | inr f ↦ cond-false (at == 16) b.visit.low (Some previous) (ne_eqb at 16 (λ k. let here = f.0 in omega arith))
        ∙ sym f.1
  ]

  target_is : (s : PlacedRecord) (p : ℕ) (low high : Option (List ℕ)) → low_of b s ≡ low → high_of b s ≡ high
      → target_of b s p
      ≡ record { block = p; role = b.visit.role; level = Some level; low = low; high = high }
  unfolding target_of
  target_is s p low high e f =
      let below : b.level - 1 ≡ level = omega arith in
      cond-false (b.level == 0) _ _ above
      ∙ (λ i. record { block = p; role = b.visit.role; level = Some (below i); low = e i; high = f i })

  child_is : (s : PlacedRecord) (rest : List ℕ) (low high : Option (List ℕ))
      → pointer_of b s ≡ Some (u32_at rest 0) → IsPointer b.header rest → low_of b s ≡ low → high_of b s ≡ high
      → children_of_record b s
      ≡ record {
        offset = s.record_.offset;
        visit = record { block = u32_at rest 0; role = b.visit.role; level = Some level; low = low; high = high };
      } ∷ []
  child_is s rest low high to sound e f =
      ap (child_to b s) to ∙ cond-true (is_sound b (u32_at rest 0)) _ _ (number_sound b (u32_at rest 0) sound.leads)
      ∙ ap (λ (v : Visit). record { offset = s.record_.offset; visit = v } ∷ [])
      (target_is s (u32_at rest 0) low high e f)

  keyed_child : (at : ℕ) (previous : List ℕ) (e : Item) (low : Option (List ℕ)) → LowAt b.visit at previous low
      → is_last b (seen previous (packed_record at previous e)) ≡ false → (e.key ≡ [] → ⊥)
      → key_of b (seen previous (packed_record at previous e)) ≡ e.key
      → rest_of b (seen previous (packed_record at previous e)) ≡ e.rest → IsPointer b.header e.rest
      → children_of_record b (seen previous (packed_record at previous e))
      ≡ record { offset = at; visit = visit_below b.visit level low e } ∷ []
  keyed_child at previous e low is l some key rest sound =
      let s : PlacedRecord = seen previous (packed_record at previous e) in
      let four : (points b && (length (rest_of b s) == 4)) ≡ true =
      and_from (points b) (length (rest_of b s) == 4) all_point
      (eq-eqb (length (rest_of b s)) 4 (ap length rest ∙ sound.size)) in
      child_is s e.rest low (high_below b.visit.high e.key)
      (cond-false (is_last b s) _ _ l ∙ cond-true _ (Some (u32_at (rest_of b s) 0)) None four
      ∙ ap (λ r. Some (u32_at r 0)) rest)
      sound (low_is at previous e low is)
      (cond-false (is_last b s) _ _ l ∙ ap (λ k. Some k) key ∙ high_some b.visit.high e.key some)

  star_child : (at : ℕ) (previous : List ℕ) (e : Item) (low : Option (List ℕ)) → LowAt b.visit at previous low
      → is_last b (seen previous (packed_record at previous e)) ≡ true → e.key ≡ [] → IsPointer b.header e.rest
      → children_of_record b (seen previous (packed_record at previous e))
      ≡ record { offset = at; visit = visit_below b.visit level low e } ∷ []
  star_child at previous e low is l none sound =
      let s : PlacedRecord = seen previous (packed_record at previous e) in
      child_is s e.rest low (high_below b.visit.high e.key)
      (cond-true (is_last b s) _ _ l
      ∙ ap (λ r. Some (u32_at r 0)) (star_body b at previous e none sound total l))
      sound (low_is at previous e low is)
      (cond-true (is_last b s) _ _ l ∙ ap (high_below b.visit.high) (sym none))

  pub children_are : (at : ℕ) (previous : List ℕ) (low : Option (List ℕ)) (es : List Item) → Before at previous
      → LowAt b.visit at previous low → AreIndex previous es → Lawful b es → at + records_size previous es ≡ b.used
      → children_from b previous (packed_records at previous es)
      ≡ index_children b.visit level at previous low es
  children_are at previous low [] before is index lawful size = absurd index
  children_are at previous low (e ∷ []) before is index lawful size =
      let l = none_behind at previous e size in
      let fine = star_fine b at previous e index.0 (pointer e lawful.0) total l in
      (λ i. if fine.goes_on i then [] else star_child at previous e low is l index.0 (pointer e lawful.0) i ++ [])
  children_are at previous low (e ∷ f ∷ es) before is index lawful size =
      let l = more_behind at previous e f es size in
      let k = keyed at previous e before index.0 lawful.0 l in
      let rs : List Record = packed_records (at + record_size previous e) e.key (f ∷ es) in
      (λ i. if k.0.goes_on i then []
      else keyed_child at previous e low is l (some_key e.key index.0.is_key) k.1 k.2 (pointer e lawful.0) i
      ++ children_from b (k.1 i) rs)
      ∙ ap (λ cs. record { offset = at; visit = visit_below b.visit level low e } ∷ cs)
      (children_are (at + record_size previous e) e.key (Some e.key) (f ∷ es)
      (before_next at previous e before index.0.is_key) (low_next b.visit at previous e low is) index.2 lawful.1
      (omega arith))
