-- A record with which nothing is wrong is that of a lawful entry.
use Rattle.std.proofs.Common.{◌≡◌, ℕ, zero, suc, ◌<◌, ◌≤◌, ◌==◌, true, false, not, ◌&&◌, List, []}
use Rattle.std.proofs.Common.{◌∷◌, ◌++◌, length, take, drop, if◌then◌else◌, Some, inl, inr, refl, sym, ap}
use Rattle.std.proofs.Common.{◌∙◌, arith, append_assoc}
use Rattle.std.specs.Prelude.{slice_get, nat_lt, unwrap_or}
use Rattle.std.proofs.lemmas.Bool.{cond-true, cond-false, not-false, eqb-true, eq-eqb, ne_eqb, ltb-true, ltb-false}
use Rattle.std.proofs.lemmas.Bool.{and_parts}
use Rattle.std.proofs.lemmas.List.{take-append-drop, drop_at, length-take}
use Rattle.gds_block.specs.Fields.{u32_at}
use Rattle.gds_block.specs.Item.{Item}
use Rattle.gds_law.specs.Kinds.{record_kinds}
use Rattle.gds_law.specs.Visit.{TreeRole, directory, global}
use Rattle.gds_law.specs.BlockReading.{BlockReading, PlacedRecord, is_last, size_of, full_of, key_end, key_of, rest_of}
use Rattle.gds_law.specs.BlockReading.{has_values, points}
use Rattle.gds_law.specs.Record.{holds, keyed_holds, last_holds}
use Rattle.gds_law.specs.declared.kind.FaultKind.{FaultKind}
use Rattle.gds_law.specs.declared.kind.FaultKind.TheVariants.{StarSize, StarCount, KeyTooLong, KeyWithoutEnd}
use Rattle.gds_law.specs.declared.kind.FaultKind.TheVariants.{WrongCount}
use Rattle.gds_law.specs.declared.kind.FaultKind.TheVariants.{DirectorySubscript, WrongGlobal, KeyAboveBound}
use Rattle.gds_law.specs.declared.kind.FaultKind.TheVariants.{KeyBelowBound, RestNotPointer, ValueTooLong}
use Rattle.m_key.specs.KeyEnd.{shared}
use Rattle.m_key.proofs.KeyEndLemmas.{take-shared, shared-nil, key_len-within}
use Rattle.gds_pack.specs.Packed.{packed_record}
use Rattle.gds_pack.specs.Packable.{IsNext}
use Rattle.gds_law.proofs.MembershipLemmas.{IsIn}
use Rattle.gds_sound.proofs.BlockLemmas.{IsCleanRecord, clean_pointer, leaf_pointer}
use Rattle.gds_sound.proofs.OrderLemmas.{key_rises}
use Rattle.gds_sound.proofs.KeyLemmas.{some_end, key_whole, key_right}
use Rattle.gds_tree.specs.Lawful.{IsPointer, IsLawfulRest, IsLawfulKey, IsLawfulEntry}
use Rattle.gds_tree.proofs.TestLemmas.{role_from, below_from, above_from, number_from}

-- An element at a place is one of the list.
pub in_at : {A : Type 0} (xs : List A) (n : ℕ) (x : A) → slice_get xs n ≡ Some x → IsIn xs x
in_at [] n x e = absurd (cc)
in_at (y ∷ ys) zero x e = inl (cc)
in_at (y ∷ ys) (suc n) x e = inr (in_at ys n x e)

append_cancel : (xs ys zs : List ℕ) → xs ++ ys ≡ xs ++ zs → ys ≡ zs
append_cancel xs ys zs e =
    sym (drop_at xs ys (length xs) refl) ∙ ap (drop (length xs)) e ∙ drop_at xs zs (length xs) refl

-- the entry of a record that has a key, as it is read
abbrev pub entry_at : BlockReading → PlacedRecord → Item
entry_at b s = record { key = key_of b s; rest = rest_of b s }

-- ---- a record that has a key

module _ (b : BlockReading) (s : PlacedRecord) (c : IsCleanRecord b s) (l : is_last b s ≡ false) where
  none_keyed : (n : ℕ) (kind : FaultKind) → slice_get record_kinds n ≡ Some kind
      → holds b s kind ≡ (if is_last b s then last_holds s kind else keyed_holds b s kind)
      → keyed_holds b s kind ≡ false
  none_keyed n kind e h =
      sym (cond-false (is_last b s) (last_holds s kind) (keyed_holds b s kind) l) ∙ sym h
      ∙ c.none kind (in_at record_kinds n kind e)

  count_is : s.record_.count ≡ shared s.previous (key_of b s)
  count_is = eqb-true s.record_.count (shared s.previous (key_of b s)) (not-false _ (none_keyed 6 WrongCount refl refl))

  body_is : s.record_.body ≡ drop (shared s.previous (key_of b s)) (key_of b s) ++ rest_of b s
  body_is =
      let n : ℕ = shared s.previous (key_of b s) in
      let key : List ℕ = key_of b s in
      let front : take s.record_.count s.previous ≡ take n key =
      ap (λ k. take k s.previous) count_is ∙ take-shared s.previous key in
      let whole : full_of s ≡ key ++ rest_of b s = sym (take-append-drop (unwrap_or (key_end b s) 0) (full_of s)) in
      append_cancel (take n key) s.record_.body (drop n key ++ rest_of b s)
      (ap (λ xs. xs ++ s.record_.body) (sym front) ∙ whole
      ∙ ap (λ xs. xs ++ rest_of b s) (sym (take-append-drop n key))
      ∙ append_assoc (take n key) (drop n key) (rest_of b s))

  pub record_is : s.record_ ≡ packed_record s.record_.offset s.previous (entry_at b s)
  record_is = λ k. record { offset = s.record_.offset; count = count_is k; body = body_is k }

  pub key_short : length (key_of b s) ≤ b.header.key_max
  key_short =
      let e = some_end (key_end b s) b.header.key_max (length (full_of s)) (none_keyed 4 KeyTooLong refl refl)
      (none_keyed 5 KeyWithoutEnd refl refl) in
      let within = key_len-within (take b.header.key_max (full_of s)) e.0 e.1 in
      let size : length (key_of b s) ≡ length (take e.0 (full_of s)) =
      ap (λ o. length (take (unwrap_or o 0) (full_of s))) e.1 in
      omega (arith, size, within, length-take b.header.key_max (full_of s), length-take e.0 (full_of s))

  pub next_is : b.header.key_max ≤ 255 → IsNext s.previous (entry_at b s)
  next_is limit = record {
    is_key = record { whole = key_whole b s c l; short = omega (arith, key_short) };
    above = key_rises b s c l;
  }

  pub lawful_key : IsLawfulKey b.header b.visit b.level (key_of b s)
  lawful_key = record {
    short = key_short;
    right = key_right b s c l;
    role = role_from b.visit.role (key_of b s) (key_right b s c l) (none_keyed 14 WrongGlobal refl refl)
        (none_keyed 13 DirectorySubscript refl refl);
    above = above_from b.level b.visit.low (key_of b s) (none_keyed 16 KeyBelowBound refl refl);
    below = below_from b.visit.high (key_of b s) (none_keyed 15 KeyAboveBound refl refl);
  }

  -- a pointer, where pointers are due
  pointer_is : points b ≡ true → IsPointer b.header (rest_of b s)
  pointer_is due =
      let four : length (rest_of b s) ≡ 4 =
      eqb-true (length (rest_of b s)) 4
      (not-false _ (ap (λ t. t && not (length (rest_of b s) == 4)) (sym due)
      ∙ none_keyed 17 RestNotPointer refl refl)) in
      record {
        size = four;
        leads = number_from b (u32_at (rest_of b s) 0)
            (clean_pointer b s (u32_at (rest_of b s) 0) c (leaf_pointer b s c l due));
      }

  pub rest_size : (b.level == 0) ≡ false → length (rest_of b s) ≡ 4
  rest_size z = (pointer_is (by b.visit.role)).size
    where
      by : (role : TreeRole) → not (has_values b role) ≡ true
      by directory = refl
      by (global name) = ap not z

  value_is : points b ≡ false → length (rest_of b s) ≤ b.header.value_max
  value_is due =
      ltb-false b.header.value_max (length (rest_of b s))
      (ap (λ t. not t && nat_lt b.header.value_max (length (rest_of b s))) (sym due)
      ∙ none_keyed 18 ValueTooLong refl refl)

  rest_by : (role : TreeRole) (level : ℕ) → not (has_values b role) ≡ points b → b.level ≡ level
      → IsLawfulRest b.header role level (rest_of b s)
  rest_by directory level e z = pointer_is (sym e)
  rest_by (global name) zero e z = value_is (sym e ∙ ap not (eq-eqb b.level 0 z))
  rest_by (global name) (suc level) e z =
      pointer_is (sym e ∙ ap not (ne_eqb b.level 0 (λ k. omega (arith, k, z))))

  pub lawful_entry : IsLawfulEntry b.header b.visit b.level (entry_at b s)
  lawful_entry = record { key = λ some. lawful_key; rest = rest_by b.visit.role b.level refl refl }

-- ---- the star

-- the entry of the star, as it is read
abbrev pub star_at : PlacedRecord → Item
star_at s = record { key = []; rest = s.record_.body }

module _ (b : BlockReading) (s : PlacedRecord) (c : IsCleanRecord b s) (l : is_last b s ≡ true) where
  none_last : (n : ℕ) (kind : FaultKind) → slice_get record_kinds n ≡ Some kind
      → holds b s kind ≡ (if is_last b s then last_holds s kind else keyed_holds b s kind)
      → last_holds s kind ≡ false
  none_last n kind e h =
      sym (cond-true (is_last b s) (last_holds s kind) (keyed_holds b s kind) l) ∙ sym h
      ∙ c.none kind (in_at record_kinds n kind e)

  pub star_size : length s.record_.body ≡ 4
  star_size =
      let size = eqb-true (size_of s) 8 (not-false _ (none_last 0 StarSize refl refl)) in
      omega (arith, size)

  pub star_is : s.record_ ≡ packed_record s.record_.offset s.previous (star_at s)
  star_is =
      let none = shared-nil s.previous in
      let count : s.record_.count ≡ shared s.previous [] =
      eqb-true s.record_.count 0 (not-false _ (none_last 1 StarCount refl refl)) ∙ sym none in
      let body : s.record_.body ≡ drop (shared s.previous []) [] ++ s.record_.body =
      sym (ap (λ n. drop n [] ++ s.record_.body) none) in
      λ k. record { offset = s.record_.offset; count = count k; body = body k }

  star_pointer : IsPointer b.header s.record_.body
  star_pointer = record {
    size = star_size;
    leads = number_from b (u32_at s.record_.body 0)
        (clean_pointer b s (u32_at s.record_.body 0) c (cond-true (is_last b s) _ _ l));
  }

  star_by : (role : TreeRole) (level : ℕ) → 0 < level → IsLawfulRest b.header role level s.record_.body
  star_by directory level h = star_pointer
  star_by (global name) zero h = absurd (omega arith)
  star_by (global name) (suc level) h = star_pointer

  pub lawful_star : IsLawfulEntry b.header b.visit b.level (star_at s)
  lawful_star = record {
    key = λ some. absurd (some refl);
    rest = star_by b.visit.role b.level (ltb-true 0 b.level (and_parts (nat_lt 0 b.level) _ l).0);
  }
