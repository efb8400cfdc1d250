-- With the record of a lawful entry nothing is wrong, and it is read as the entry.
use Rattle.std.proofs.Common.{◌≡◌, ℕ, zero, suc, ◌+◌, ◌-◌, ◌<◌, ◌≤◌, ◌==◌, Bool, true, false, not, ◌&&◌}
use Rattle.std.proofs.Common.{List, [], ◌++◌, length, take, drop, if◌then◌else◌, None, Some, ◌⊎◌}
use Rattle.std.proofs.Common.{inl, inr, refl, sym, ap, ◌∙◌, arith, append_assoc}
use Rattle.std.specs.Prelude.{◌^◌, nat_lt, nat_le, is_none, unwrap_or}
use Rattle.std.specs.List.{list_any}
use Rattle.std.specs.Option.{option_map_or}
use Rattle.std.specs.Ordering.{is_lt}
use Rattle.std.proofs.lemmas.Bool.{cond-true, cond-false, cond_both, eq-eqb, ne_eqb, le-ltb, lt-leb, and_left}
use Rattle.std.proofs.lemmas.Bool.{and_right}
use Rattle.std.proofs.lemmas.Bool.{not_from_true, and_parts, cases_Bool}
use Rattle.std.proofs.lemmas.List.{take-append-drop, take_at, drop_at, drop_all}
use Rattle.std.proofs.Math.Seq.{take-append-add}
use Rattle.gds_block.specs.Fields.{u32_at}
use Rattle.gds_block.specs.Item.{Item}
use Rattle.gds_header.specs.Kinds.{through_first}
use Rattle.gds_law.specs.Kinds.{ends, record_kinds}
use Rattle.gds_law.specs.Visit.{TreeRole, directory, global}
use Rattle.gds_law.specs.Key.{key_fault}
use Rattle.gds_law.specs.BlockReading.{BlockReading, PlacedRecord, is_last, full_of, key_end, key_of}
use Rattle.gds_law.specs.BlockReading.{rest_of, has_values, points}
use Rattle.gds_law.specs.Record.{holds, keyed_holds, last_holds, is_kind, has_pointer, kinds_of, is_ended, is_below}
use Rattle.gds_law.specs.Record.{is_directory, is_other_global, is_above_bound, is_below_bound}
use Rattle.m_key.specs.KeyParts.{name_part, subscript_parts}
use Rattle.gds_law.specs.declared.kind.FaultKind.{FaultKind}
use Rattle.gds_law.specs.declared.kind.FaultKind.TheVariants.{StarSize, StarCount, FirstCount, CountTooLarge}
use Rattle.gds_law.specs.declared.kind.FaultKind.TheVariants.{KeyTooLong, KeyWithoutEnd, WrongCount, KeyOutOfOrder}
use Rattle.gds_law.specs.declared.kind.FaultKind.TheVariants.{DirectorySubscript, WrongGlobal}
use Rattle.gds_law.specs.declared.kind.FaultKind.TheVariants.{KeyAboveBound, KeyBelowBound, RestNotPointer}
use Rattle.gds_law.specs.declared.kind.FaultKind.TheVariants.{ValueTooLong, PointerNotPositive, PointerTooLarge}
use Rattle.gds_law.specs.declared.kind.FaultKind.TheVariants.{PointerToMap}
use Rattle.m_key.specs.KeyEnd.{key_len, IsKey, shared}
use Rattle.m_key.proofs.KeyEndLemmas.{take-shared, shared-nil, shared-below, key_len-append}
use Rattle.gds_pack.specs.Packed.{packed_record}
use Rattle.gds_pack.specs.Packable.{IsNext}
use Rattle.gds_sound.proofs.BlockLemmas.{seen, nil_filter}
use Rattle.gds_tree.specs.Lawful.{IsPointer, IsLawfulRest, IsLawfulKey}
use Rattle.gds_tree.proofs.TestLemmas.{role_global, role_directory, below_to, above_to, NoPointerKind, number_to}

-- What stands before a record: nothing in the first record, and else a whole key.
abbrev pub Before : ℕ → List ℕ → Type 0
Before at previous = ((at ≡ 16) × (previous ≡ [])) ⊎ ((16 < at) × IsKey previous)

-- Nothing is wrong with the record of an entry, and its pointer, if one is due there, is the entry's.
pub record IsFine (b : BlockReading) (s : PlacedRecord) : Type 0 where
  pub none : kinds_of b s ≡ []
  pub goes_on : is_ended b s ≡ false

fine_from : (b : BlockReading) (s : PlacedRecord) → ((kind : FaultKind) → holds b s kind ≡ false) → IsFine b s
unfolding kinds_of is_ended
fine_from b s h =
    let none : kinds_of b s ≡ [] = ap (through_first ends) (nil_filter (holds b s) record_kinds (λ kind i. h kind)) in
    record { none = none; goes_on = ap (list_any ends) none }

-- a rest of an entry where pointers are due, and where values are
pub pointer_due : (b : BlockReading) (role : TreeRole) (level : ℕ) (rest : List ℕ) → b.level ≡ level
    → not (has_values b role) ≡ true → IsLawfulRest b.header role level rest → IsPointer b.header rest
pointer_due b directory level rest z d h = h
pointer_due b (global name) zero rest z d h = absurd (cc (ap not (eq-eqb b.level 0 z)))
pointer_due b (global name) (suc level) rest z d h = h

value_due : (b : BlockReading) (role : TreeRole) (level : ℕ) (rest : List ℕ) → b.level ≡ level
    → not (has_values b role) ≡ false → IsLawfulRest b.header role level rest → length rest ≤ b.header.value_max
value_due b directory level rest z d h = absurd (cc)
value_due b (global name) zero rest z d h = h
value_due b (global name) (suc level) rest z d h =
    absurd (cc (ap not (ne_eqb b.level 0 (λ k. omega (arith, k, z)))))

-- ---- an entry with a key

module _ (b : BlockReading) (at : ℕ) (previous : List ℕ) (e : Item) (before : Before at previous)
    (next : IsNext previous e) (key : IsLawfulKey b.header b.visit b.level e.key)
    (rest : IsLawfulRest b.header b.visit.role b.level e.rest) (total : b.header.total ≤ 2 ^ 31)
    (l : is_last b (seen previous (packed_record at previous e)) ≡ false) where
  full_is : full_of (seen previous (packed_record at previous e)) ≡ e.key ++ e.rest
  full_is =
      let n : ℕ = shared previous e.key in
      ap (λ xs. xs ++ (drop n e.key ++ e.rest)) (take-shared previous e.key)
      ∙ sym (append_assoc (take n e.key) (drop n e.key) e.rest)
      ∙ ap (λ xs. xs ++ e.rest) (take-append-drop n e.key)

  end_is : key_end b (seen previous (packed_record at previous e)) ≡ Some (length e.key)
  end_is =
      let most : ℕ = b.header.key_max in
      let fits = key.short in
      let parts : most ≡ length e.key + (most - length e.key) = omega arith in
      ap (λ xs. key_len (take most xs)) full_is
      ∙ ap (λ n. key_len (take n (e.key ++ e.rest))) parts
      ∙ ap key_len (take-append-add e.key e.rest (most - length e.key))
      ∙ key_len-append e.key (take (most - length e.key) e.rest) (length e.key) next.is_key.whole

  pub key_is : key_of b (seen previous (packed_record at previous e)) ≡ e.key
  key_is =
      (λ i. take (unwrap_or (end_is i) 0) (full_is i)) ∙ take_at e.key e.rest (length e.key) refl

  pub rest_is : rest_of b (seen previous (packed_record at previous e)) ≡ e.rest
  rest_is =
      (λ i. drop (unwrap_or (end_is i) 0) (full_is i)) ∙ drop_at e.key e.rest (length e.key) refl

  -- ---- its counts

  first_count : keyed_holds b (seen previous (packed_record at previous e)) FirstCount ≡ false
  first_count = elim before [
    | inl f ↦
        and_right (at == 16) (not (shared previous e.key == 0))
        (not_from_true (shared previous e.key == 0) (eq-eqb (shared previous e.key) 0 (ap (λ p. shared p e.key) f.1)))
    | inr f ↦
        and_left (at == 16) (not (shared previous e.key == 0)) (ne_eqb at 16 (λ k. let low = f.0 in omega arith))
  ]

  later_count : keyed_holds b (seen previous (packed_record at previous e)) CountTooLarge ≡ false
  later_count = elim before [
    | inl f ↦
        and_left (not (at == 16)) (nat_le (length previous) (shared previous e.key))
        (not_from_true (at == 16) (eq-eqb at 16 f.0))
    | inr f ↦
        and_right (not (at == 16)) (nat_le (length previous) (shared previous e.key))
        (lt-leb (length previous) (shared previous e.key) (shared-below previous e.key f.1 next.is_key next.above).0)
  ]

  right_count : keyed_holds b (seen previous (packed_record at previous e)) WrongCount ≡ false
  right_count =
      not_from_true _ (eq-eqb (shared previous e.key)
      (shared previous (key_of b (seen previous (packed_record at previous e))))
      (ap (shared previous) (sym key_is)))

  -- ---- its pointer

  points_to : (test : ℕ → Bool) → (points b ≡ true → test (u32_at e.rest 0) ≡ false)
      → has_pointer b (seen previous (packed_record at previous e)) test ≡ false
  points_to test h =
      let s : PlacedRecord = seen previous (packed_record at previous e) in
      ap (λ o. option_map_or test o false) (cond-false (is_last b s)
      (Some (u32_at (packed_record at previous e).body 0)) _ l)
      ∙ cond_both (points b && (length (rest_of b s) == 4)) (Some (u32_at (rest_of b s) 0)) None
      (λ o. option_map_or test o false ≡ false)
      (λ k. ap (λ r. test (u32_at r 0)) rest_is
      ∙ h (and_parts (points b) (length (rest_of b s) == 4) k).0)
      (λ _. refl)

  pointer_kinds : points b ≡ true → NoPointerKind b.header.total (2 ^ 31) (u32_at e.rest 0)
  pointer_kinds d =
      number_to b.header.total (2 ^ 31) (u32_at e.rest 0) total
      (pointer_due b b.visit.role b.level e.rest refl d rest).leads

  -- ---- its rest

  rest_four : keyed_holds b (seen previous (packed_record at previous e)) RestNotPointer ≡ false
  rest_four =
      let s : PlacedRecord = seen previous (packed_record at previous e) in
      elim (cases_Bool (points b)) [
        | inl d ↦
            and_right (points b) (not (length (rest_of b s) == 4))
            (not_from_true (length (rest_of b s) == 4) (eq-eqb (length (rest_of b s)) 4
            (ap length rest_is ∙ (pointer_due b b.visit.role b.level e.rest refl d rest).size)))
        | inr d ↦ and_left (points b) (not (length (rest_of b s) == 4)) d
      ]

  rest_fits : keyed_holds b (seen previous (packed_record at previous e)) ValueTooLong ≡ false
  rest_fits =
      let s : PlacedRecord = seen previous (packed_record at previous e) in
      elim (cases_Bool (points b)) [
        | inl d ↦
            and_left (not (points b)) (nat_lt b.header.value_max (length (rest_of b s))) (not_from_true (points b) d)
        | inr d ↦
            let size : length (rest_of b s) ≡ length e.rest = ap length rest_is in
            let fits = value_due b b.visit.role b.level e.rest refl d rest in
            and_right (not (points b)) (nat_lt b.header.value_max (length (rest_of b s)))
            (le-ltb b.header.value_max (length (rest_of b s)) (omega arith))
      ]

  -- ---- all its kinds

  keyed_kind : (kind : FaultKind) → keyed_holds b (seen previous (packed_record at previous e)) kind ≡ false
  keyed_kind FirstCount = first_count
  keyed_kind CountTooLarge = later_count
  keyed_kind KeyTooLong = ap (λ o. is_none o && nat_lt b.header.key_max
      (length (full_of (seen previous (packed_record at previous e))))) end_is
  keyed_kind KeyWithoutEnd = ap (λ o. is_none o && nat_le
      (length (full_of (seen previous (packed_record at previous e)))) b.header.key_max) end_is
  keyed_kind WrongCount = right_count
  keyed_kind KeyOutOfOrder =
      not_from_true _ (ap (λ k. is_below previous k) key_is ∙ ap is_lt next.above)
  keyed_kind DirectorySubscript =
      ap (λ k. is_directory b.visit.role && is_none (key_fault k) && nat_lt 0 (length (subscript_parts k))) key_is
      ∙ role_directory b.visit.role e.key key.role
  keyed_kind WrongGlobal =
      ap (λ k. is_other_global b.visit.role (name_part k)) key_is ∙ role_global b.visit.role e.key key.role
  keyed_kind KeyAboveBound = ap (is_above_bound b.visit.high) key_is ∙ below_to b.visit.high e.key key.below
  keyed_kind KeyBelowBound =
      ap (is_below_bound b.level b.visit.low) key_is ∙ above_to b.level b.visit.low e.key key.above
  keyed_kind RestNotPointer = rest_four
  keyed_kind ValueTooLong = rest_fits
  keyed_kind kind =
      ap (λ k. option_map_or (is_kind kind) (key_fault k) false) key_is
      ∙ ap (λ o. option_map_or (is_kind kind) o false) key.right

  not_last_kind : (kind : FaultKind)
      → (if is_last b (seen previous (packed_record at previous e))
      then last_holds (seen previous (packed_record at previous e)) kind
      else keyed_holds b (seen previous (packed_record at previous e)) kind) ≡ false
  not_last_kind kind = cond-false (is_last b (seen previous (packed_record at previous e))) _ _ l ∙ keyed_kind kind

  no_kind : (kind : FaultKind) → holds b (seen previous (packed_record at previous e)) kind ≡ false
  no_kind PointerNotPositive = points_to _ (λ d. (pointer_kinds d).positive)
  no_kind PointerTooLarge = points_to _ (λ d. (pointer_kinds d).small)
  no_kind PointerToMap = points_to _ (λ d. (pointer_kinds d).no_map)
  no_kind kind = not_last_kind kind

  pub keyed_fine : IsFine b (seen previous (packed_record at previous e))
  keyed_fine = fine_from b (seen previous (packed_record at previous e)) no_kind

-- ---- the star

module _ (b : BlockReading) (at : ℕ) (previous : List ℕ) (e : Item) (none : e.key ≡ [])
    (rest : IsPointer b.header e.rest) (total : b.header.total ≤ 2 ^ 31)
    (l : is_last b (seen previous (packed_record at previous e)) ≡ true) where
  star_count : shared previous e.key ≡ 0
  star_count = ap (shared previous) none ∙ shared-nil previous

  pub star_body : (packed_record at previous e).body ≡ e.rest
  star_body =
      let empty : length e.key ≡ 0 = ap length none in
      ap (λ xs. xs ++ e.rest) (drop_all (shared previous e.key) e.key (omega arith))

  star_last : (kind : FaultKind) → last_holds (seen previous (packed_record at previous e)) kind ≡ false
  star_last StarSize =
      let size : length (packed_record at previous e).body ≡ length e.rest = ap length star_body in
      let four = rest.size in
      not_from_true _ (eq-eqb (4 + length (packed_record at previous e).body) 8 (omega arith))
  star_last StarCount = not_from_true (shared previous e.key == 0) (eq-eqb (shared previous e.key) 0 star_count)
  star_last kind = refl

  star_points : (test : ℕ → Bool) → test (u32_at e.rest 0) ≡ false
      → has_pointer b (seen previous (packed_record at previous e)) test ≡ false
  star_points test h =
      let s : PlacedRecord = seen previous (packed_record at previous e) in
      ap (λ o. option_map_or test o false) (cond-true (is_last b s)
      (Some (u32_at (packed_record at previous e).body 0)) _ l)
      ∙ ap (λ r. test (u32_at r 0)) star_body ∙ h

  star_kinds : NoPointerKind b.header.total (2 ^ 31) (u32_at e.rest 0)
  star_kinds = number_to b.header.total (2 ^ 31) (u32_at e.rest 0) total rest.leads

  no_star_kind : (kind : FaultKind) → holds b (seen previous (packed_record at previous e)) kind ≡ false
  no_star_kind PointerNotPositive = star_points _ star_kinds.positive
  no_star_kind PointerTooLarge = star_points _ star_kinds.small
  no_star_kind PointerToMap = star_points _ star_kinds.no_map
  no_star_kind kind = cond-true (is_last b (seen previous (packed_record at previous e))) _ _ l ∙ star_last kind

  pub star_fine : IsFine b (seen previous (packed_record at previous e))
  star_fine = fine_from b (seen previous (packed_record at previous e)) no_star_kind
