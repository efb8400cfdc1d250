-- Steps of reading a block's records.
use Rattle.std.proofs.Common.{ℕ, ◌≡◌, ◌+◌, ◌≤◌, Bool, true, false, cond, List, [], ◌∷◌, ◌++◌, length, take, drop}
use Rattle.std.proofs.Common.{Option, Some, None, inl, inr, refl, sym, ◌∙◌, ap, subst, arith, append_assoc}
use Rattle.std.proofs.Common.{length-take}
use Rattle.std.specs.Prelude.{nat_eq, nat_lt, option_map, option_and_then, IfNone, IfSome}
use Rattle.std.proofs.lemmas.Bool.{or_cases, ltb-true, eqb-true, eq-eqb, ne_eqb, cond-true, cond-false}
use Rattle.std.proofs.lemmas.List.{append-nil}
use Rattle.std.proofs.lemmas.Option.{cond_some, option_and_then_some, same_Some}
use Rattle.gds_block.specs.Block.{level_of, used_of}
use Rattle.gds_block.specs.Record.{Record, full_of, records_of}
use Rattle.gds_block.specs.Item.{Item}
use Rattle.m_key.specs.KeyEnd.{key_len, key_within, HasOpenFronts}
use Rattle.gds_pack.specs.Unpacked.{is_count, leaf_item, index_item, star_item, leaf_items, index_items, end_of}
use Rattle.gds_pack.specs.Unpacked.{entries_of, IsKeyPart}
use Rattle.gds_pack.specs.Packed.{key_behind}
use Rattle.gds_pack.proofs.SizeLemmas.{key_behind-append}
use Rattle.m_key.proofs.KeyEndLemmas.{HasOpenFronts-key_within, open_front}
use Rattle.std.proofs.Math.Seq.{take-append-add, drop-append-add}

-- ---- one record

abbrev parted : List ℕ → ℕ → Item
parted full n = record { key = take n full; rest = drop n full }

module _ (previous : List ℕ) (r : Record) (open_fronts : HasOpenFronts previous)
    (lawful : is_count previous r.count ≡ true) where
  count_within : r.count ≤ length previous
  count_within =
      elim (or_cases (nat_lt r.count (length previous)) (nat_eq r.count 0) lawful) [
        | inl h ↦ omega (arith, ltb-true _ _ h)
        | inr h ↦ omega (arith, eqb-true _ _ h)
      ]

  front : key_len (take r.count previous) ≡ None
  front =
      open_front previous r.count open_fronts
      (elim (or_cases (nat_lt r.count (length previous)) (nat_eq r.count 0) lawful) [
        | inl h ↦ inr (ltb-true _ _ h)
        | inr h ↦ inl (eqb-true _ _ h)
      ])

  length-front : length (take r.count previous) ≡ r.count
  length-front = omega (arith, length-take r.count previous, count_within)

  -- what is found of the key at the front of the record's full bytes is found of the record
  leaf_item-is : (o : Option ℕ) → key_within 255 (full_of previous r) ≡ o
      → leaf_item previous r ≡ option_map (parted (full_of previous r)) o
  leaf_item-is o found =
      cond-true (is_count previous r.count) _ _ lawful ∙ ap (option_map (parted (full_of previous r))) found

  -- what the search for the key's end says of it
  abbrev Says : Option ℕ → Type 0
  Says o = key_len (take r.count previous) ≡ None
      → key_within 255 (full_of previous r) ≡ option_map (λ n. length (take r.count previous) + n) o

  pub IfNone-leaf_item : (o : Option ℕ) → Says o → IfNone o (leaf_item previous r ≡ None)
  IfNone-leaf_item None says = leaf_item-is None (says front)
  IfNone-leaf_item (Some n) says = tt

  pub IfSome-IsKeyPart : (o : Option ℕ) → Says o → IfSome o (λ n. n ≤ length r.body)
      → IfSome o (λ n. length (take r.count previous) + n ≤ 255) → IfSome o (IsKeyPart previous r)
  IfSome-IsKeyPart None says within short = tt
  IfSome-IsKeyPart (Some n) says within short =
      let first = take r.count previous in
      let key = take-append-add first r.body n in
      let rest = drop-append-add first r.body n in
      record {
        count_within = count_within;
        within = within;
        short = omega (arith, length-front);
        read =
            leaf_item-is (Some (length first + n)) (says front)
            ∙ ap Some (λ k. record { key = key k; rest = rest k });
      }

pub leaf_item-unlawful : (previous : List ℕ) (r : Record) → is_count previous r.count ≡ false
    → leaf_item previous r ≡ None
leaf_item-unlawful previous r h = cond-false (is_count previous r.count) _ _ h

chosen : (b : Bool) (o : Option Item) (i : Item) → cond b o None ≡ Some i → o ≡ Some i
chosen true o i h = h
chosen false o i h = absurd (cc)

-- The key of an item that was read has no end before its own.
pub HasOpenFronts-leaf_item : (previous : List ℕ) (r : Record) (i : Item) → leaf_item previous r ≡ Some i
    → HasOpenFronts i.key
HasOpenFronts-leaf_item previous r i h = by (key_within 255 (full_of previous r)) refl (chosen _ _ _ h)
  where
    by : (o : Option ℕ) → key_within 255 (full_of previous r) ≡ o → option_map (parted (full_of previous r)) o ≡ Some i
        → HasOpenFronts i.key
    by None found e = absurd (cc)
    by (Some n) found e =
        subst (λ j. HasOpenFronts j.key) (same_Some (parted (full_of previous r) n) i e)
        (HasOpenFronts-key_within 255 (full_of previous r) n found)

pub HasOpenFronts-index_item : (previous : List ℕ) (r : Record) (i : Item) → index_item previous r ≡ Some i
    → HasOpenFronts i.key
HasOpenFronts-index_item previous r i h =
    option_and_then_some (λ j. cond (nat_eq (length j.rest) 4) (Some j) None) (leaf_item previous r) i h (λ j found e.
    let is = cond_some _ _ _ e in
    HasOpenFronts-leaf_item previous r i (found ∙ ap Some is.1))

-- ---- the records

regrouped : (xs : List Item) (i : Item) (o : Option (List Item))
    → option_map (λ is. xs ++ is) (option_map (λ is. i ∷ is) o) ≡ option_map (λ is. (xs ++ i ∷ []) ++ is) o
regrouped xs i None = refl
regrouped xs i (Some is) = ap Some (sym (append_assoc xs (i ∷ []) is))

pub none_before : (o : Option (List Item)) → option_map (λ is. [] ++ is) o ≡ o
none_before None = refl
none_before (Some is) = refl

-- An item that was read joins those before it. Where none was, nothing is.
module _ (xs : List Item) (items_behind : Item → Option (List Item)) where
  joins : (o : Option Item) (i : Item) → o ≡ Some i
      → option_map (λ is. xs ++ is) (option_and_then (λ j. option_map (λ is. j ∷ is) (items_behind j)) o)
      ≡ option_map (λ is. (xs ++ i ∷ []) ++ is) (items_behind i)
  joins o i h =
      ap (λ o. option_map (λ is. xs ++ is) (option_and_then (λ j. option_map (λ is. j ∷ is) (items_behind j)) o)) h
      ∙ regrouped xs i (items_behind i)

  stops : (o : Option Item) → o ≡ None → option_map (λ is. xs ++ is)
      (option_and_then (λ j. option_map (λ is. j ∷ is) (items_behind j)) o) ≡ None
  stops o h =
      ap (λ o. option_map (λ is. xs ++ is) (option_and_then (λ j. option_map (λ is. j ∷ is) (items_behind j)) o)) h

absent : (t : Bool) (o : Option (List Item)) → o ≡ None → None ≡ cond t o None
absent true o h = sym h
absent false o h = refl

pub entries_of-short : (block : List ℕ) → (end_of 16 (records_of block) ≡ used_of block → ⊥) → None ≡ entries_of block
unfolding entries_of
entries_of-short block h = sym (cond-false (nat_eq (end_of 16 (records_of block)) (used_of block)) _ _ (ne_eqb _ _ h))

-- The items of a level-0 block, of which these have been read and these records are left.
module _ (block : List ℕ) (leaf : level_of block ≡ 0) (xs : List Item) (left : List Record)
    (so_far : option_map (λ is. xs ++ is) (leaf_items (key_behind [] xs) left) ≡ leaf_items [] (records_of block)) where
  leaf_chosen : {A : Type 0} (a b : A) → cond (nat_eq (level_of block) 0) a b ≡ a
  leaf_chosen a b = cond-true (nat_eq (level_of block) 0) a b (eq-eqb _ _ leaf)

  pub leaf-stops : (r : Record) (rs : List Record) → left ≡ r ∷ rs → leaf_item (key_behind [] xs) r ≡ None
      → None ≡ entries_of block
  unfolding entries_of
  leaf-stops r rs same h =
      let before = key_behind [] xs in
      let none = ap (λ rs. option_map (λ is. xs ++ is) (leaf_items before rs)) same
      ∙ stops xs (λ i. leaf_items i.key rs) (leaf_item before r) h in
      absent _ _ (leaf_chosen _ _ ∙ sym so_far ∙ none)

  pub leaf-next : (r : Record) (rs : List Record) (i : Item) → left ≡ r ∷ rs → leaf_item (key_behind [] xs) r ≡ Some i
      → option_map (λ is. (xs ++ i ∷ []) ++ is) (leaf_items (key_behind [] (xs ++ i ∷ [])) rs)
      ≡ leaf_items [] (records_of block)
  leaf-next r rs i same h =
      let before = key_behind [] xs in
      ap (λ p. option_map (λ is. (xs ++ i ∷ []) ++ is) (leaf_items p rs)) (key_behind-append [] xs (i ∷ []))
      ∙ sym (joins xs (λ j. leaf_items j.key rs) (leaf_item before r) i h)
      ∙ ap (λ rs. option_map (λ is. xs ++ is) (leaf_items before rs)) (sym same)
      ∙ so_far

  pub leaf-all : left ≡ [] → end_of 16 (records_of block) ≡ used_of block → Some xs ≡ entries_of block
  unfolding entries_of
  leaf-all none ends =
      sym
      (cond-true (nat_eq (end_of 16 (records_of block)) (used_of block)) _ _ (eq-eqb _ _ ends)
      ∙ leaf_chosen _ _
      ∙ sym so_far
      ∙ ap (λ rs. option_map (λ is. xs ++ is) (leaf_items (key_behind [] xs) rs)) none
      ∙ ap Some (append-nil xs))

module _ (block : List ℕ) (above : level_of block ≡ 0 → ⊥) where
  index_chosen : {A : Type 0} (a b : A) → cond (nat_eq (level_of block) 0) a b ≡ b
  index_chosen a b = cond-false (nat_eq (level_of block) 0) a b (ne_eqb _ _ above)

  pub index-empty : records_of block ≡ [] → None ≡ entries_of block
  unfolding entries_of
  index-empty none = absent _ _ (index_chosen _ _ ∙ ap (index_items []) none)

  -- The items of an index block, of which these have been read. This record comes next, and these are left behind it.
  module _ (xs : List Item) (last : Record) (left : List Record)
      (so_far : option_map (λ is. xs ++ is) (index_items (key_behind [] xs) (last ∷ left))
      ≡ index_items [] (records_of block)) where
    pub index-stops : (r : Record) (rs : List Record) → left ≡ r ∷ rs → index_item (key_behind [] xs) last ≡ None
        → None ≡ entries_of block
    unfolding entries_of
    index-stops r rs same h =
        let before = key_behind [] xs in
        let none = ap (λ rs. option_map (λ is. xs ++ is) (index_items before (last ∷ rs))) same
        ∙ stops xs (λ i. index_items i.key (r ∷ rs)) (index_item before last) h in
        absent _ _ (index_chosen _ _ ∙ sym so_far ∙ none)

    pub index-next : (r : Record) (rs : List Record) (i : Item) → left ≡ r ∷ rs
        → index_item (key_behind [] xs) last ≡ Some i
        → option_map (λ is. (xs ++ i ∷ []) ++ is) (index_items (key_behind [] (xs ++ i ∷ [])) (r ∷ rs))
        ≡ index_items [] (records_of block)
    index-next r rs i same h =
        let before = key_behind [] xs in
        ap (λ p. option_map (λ is. (xs ++ i ∷ []) ++ is) (index_items p (r ∷ rs))) (key_behind-append [] xs (i ∷ []))
        ∙ sym (joins xs (λ j. index_items j.key (r ∷ rs)) (index_item before last) i h)
        ∙ ap (λ rs. option_map (λ is. xs ++ is) (index_items before (last ∷ rs))) (sym same)
        ∙ so_far

    star_read : (o : Option Item) → left ≡ [] → star_item last ≡ o
        → index_items [] (records_of block) ≡ option_map (λ i. xs ++ i ∷ []) o
    star_read None none h =
        sym so_far ∙ ap (λ rs. option_map (λ is. xs ++ is) (index_items (key_behind [] xs) (last ∷ rs))) none
        ∙ ap (λ o. option_map (λ is. xs ++ is) (option_map (λ i. i ∷ []) o)) h
    star_read (Some i) none h =
        sym so_far ∙ ap (λ rs. option_map (λ is. xs ++ is) (index_items (key_behind [] xs) (last ∷ rs))) none
        ∙ ap (λ o. option_map (λ is. xs ++ is) (option_map (λ i. i ∷ []) o)) h

    pub index-no_star : left ≡ [] → star_item last ≡ None → None ≡ entries_of block
    unfolding entries_of
    index-no_star none h = absent _ _ (index_chosen _ _ ∙ star_read None none h)

    pub index-all : (i : Item) → left ≡ [] → star_item last ≡ Some i → end_of 16 (records_of block) ≡ used_of block
        → Some (xs ++ i ∷ []) ≡ entries_of block
    unfolding entries_of
    index-all i none h ends =
        sym
        (cond-true (nat_eq (end_of 16 (records_of block)) (used_of block)) _ _ (eq-eqb _ _ ends)
        ∙ index_chosen _ _
        ∙ star_read (Some i) none h)
