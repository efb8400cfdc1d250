-- What is read of the record of an entry of a packed block.
use Rattle.std.proofs.Common.{◌≡◌, ℕ, zero, suc, ◌+◌, ◌-◌, ◌<◌, Bool, true, false}
use Rattle.std.proofs.Common.{List, [], ◌∷◌, ◌++◌, length, take, drop}
use Rattle.std.proofs.Common.{Option, None, Some, ◌⊎◌, inl, inr, refl, sym, ap, ◌∙◌, arith, append_assoc}
use Rattle.std.proofs.Common.{length-append, length-drop, length-take}
use Rattle.std.specs.Prelude.{option_map}
use Rattle.std.proofs.lemmas.Bool.{true≢false}
use Rattle.std.proofs.lemmas.List.{drop_all, drop_at, take-append-drop, take_at}
use Rattle.gds_block.specs.Item.{Item}
use Rattle.gds_pack.specs.Packable.{AreIndex, AreLeaves, ArePackable}
use Rattle.gds_pack.specs.Packed.{key_behind, packed_record, packed_size}
use Rattle.gds_pack.proofs.ReadLemmas.{IsBefore, length-body, neighbours}
use Rattle.gds_pack.proofs.SizeLemmas.{records_size-append}
use Rattle.gds_tree.proofs.ListLemmas.{index_front, leaves_left, leaves_right}
use Rattle.m_key.specs.KeyEnd.{IsKey, end_within, key_len, key_within, shared}
use Rattle.m_key.proofs.KeyEndLemmas.{key_len-append, key_len-take_less, key_len-take_more, key_within-end_within}
use Rattle.m_key.proofs.KeyEndLemmas.{shared-le}

-- The entry is the star of an index block.
pub record IsStar (height : ℕ) (own : Item) : Type 0 where
  pub index : 0 < height
  pub none : own.key ≡ []
  pub four : length own.rest ≡ 4

-- The entry has a whole key, which shares fewer bytes than it has with the key before it.
pub record IsKeyed (height : ℕ) (p : List ℕ) (own : Item) : Type 0 where
  pub is_key : IsKey own.key
  pub fewer : shared p own.key < length own.key
  pub four : 0 < height → length own.rest ≡ 4

abbrev pub IsEither : ℕ → List ℕ → Item → Type 0
IsEither height p own = IsStar height own ⊎ IsKeyed height p own

last_whole : (p : List ℕ) (es : List Item) → IsBefore p → AreLeaves p es → IsBefore (key_behind p es)
last_whole p [] before h = before
last_whole p (e ∷ es) before h = last_whole e.key es (inr h.0.is_key) h.1

index_either : (level : ℕ) (p : List ℕ) (own : Item) (behind : List Item) → IsBefore p → AreIndex p (own ∷ behind)
    → IsEither (suc level) p own
index_either level p own [] before h = inl (record { index = omega arith; none = h.0; four = h.1 })
index_either level p own (e ∷ behind) before h =
    inr (record { is_key = h.0.is_key; fewer = (neighbours p own before h.0).below; four = λ _. h.1 })

pub either_at : (height : ℕ) (before : List Item) (own : Item) (behind : List Item)
    → ArePackable height (before ++ own ∷ behind) → IsEither height (key_behind [] before) own
either_at zero before own behind h =
    let last = last_whole [] before (inl refl) (leaves_left [] before (own ∷ behind) h) in
    let next = leaves_right [] before (own ∷ behind) h in
    inr (record {
      is_key = next.0.is_key;
      fewer = (neighbours (key_behind [] before) own last next.0).below;
      four = λ low. absurd (omega (arith, low));
    })
either_at (suc level) before own behind h =
    let front = index_front [] before own behind h in
    index_either level (key_behind [] before) own behind (last_whole [] before (inl refl) front.leaves) front.rest

-- ---- what is read of it

-- where its record ends
pub end_at : (before : List Item) (own : Item) (offset : ℕ) (body : List ℕ) → packed_size before ≡ offset
    → body ≡ (packed_record (packed_size before) (key_behind [] before) own).body
    → offset + 4 + length body ≡ packed_size (before ++ own ∷ [])
end_at before own offset body at is =
    omega (
      arith,
      at,
      ap length is,
      length-body (packed_size before) (key_behind [] before) own,
      records_size-append [] before (own ∷ []),
    )

module _ (p : List ℕ) (own : Item) (count : ℕ) (body : List ℕ) (tally : count ≡ shared p own.key)
    (body_is : body ≡ drop (shared p own.key) own.key ++ own.rest) where
  size : length body ≡ length own.key - shared p own.key + length own.rest
  size =
      omega (
        arith,
        ap length body_is,
        length-append (drop (shared p own.key) own.key) own.rest,
        length-drop (shared p own.key) own.key,
      )

  pub star_body : (height : ℕ) → IsStar height own → body ≡ own.rest
  star_body height star =
      body_is
      ∙ ap (λ xs. xs ++ own.rest) (drop_all (shared p own.key) own.key (omega (arith, ap length star.none)))

  pub star_short : (height : ℕ) → IsStar height own → (0 < height) × (length body ≡ 4)
  star_short height star = (star.index, ap length (star_body height star) ∙ star.four)

  pub keyed_long : (height : ℕ) → IsKeyed height p own → (0 < height) × (length body ≡ 4) → ⊥
  keyed_long height keyed (index, four) = omega (arith, size, four, keyed.fewer, keyed.four index)

  -- The test of a block of a level says which of both it is.
  module _ (height level : ℕ) (same : level ≡ height) (either : IsEither height p own) (test : Bool)
      (tests : (test ≡ true → (0 < level) × (length body ≡ 4)) × ((0 < level) × (length body ≡ 4) → test ≡ true)) where
    pub star_there : test ≡ true → IsStar height own
    star_there is = elim either [
      | inl star ↦ star
      | inr keyed ↦
          let short = tests.0 is in
          absurd (keyed_long height keyed (omega (arith, same, short.0), short.1))
    ]

    pub keyed_there : test ≡ false → IsKeyed height p own
    keyed_there is = elim either [
      | inl star ↦
          let short = star_short height star in
          absurd (true≢false (sym (tests.1 (omega (arith, same, short.0), short.1)) ∙ is))
      | inr keyed ↦ keyed
    ]

  module _ (height : ℕ) (keyed : IsKeyed height p own) (front : List ℕ)
      (agree : take (shared p own.key) front ≡ take (shared p own.key) own.key) where
    pub front_long : length front < count → ⊥
    front_long short =
        omega (
          arith,
          short,
          tally,
          ap length agree,
          length-take (shared p own.key) front,
          length-take (shared p own.key) own.key,
          shared-le p own.key,
        )

    module _ (cut : List ℕ) (cut_is : cut ≡ take count front) where
      cut_key : cut ≡ take (shared p own.key) own.key
      cut_key = cut_is ∙ ap (λ n. take n front) tally ∙ agree

      cut_size : length cut ≡ shared p own.key
      cut_size =
          omega (arith, ap length cut_key, length-take (shared p own.key) own.key, shared-le p own.key)

      whole : cut ++ body ≡ own.key ++ own.rest
      whole =
          ap (λ xs. xs ++ body) cut_key ∙ ap (λ xs. take (shared p own.key) own.key ++ xs) body_is
          ∙ sym (append_assoc (take (shared p own.key) own.key) (drop (shared p own.key) own.key) own.rest)
          ∙ ap (λ xs. xs ++ own.rest) (take-append-drop (shared p own.key) own.key)

      ends : option_map (λ n. length cut + n) (end_within 255 cut body) ≡ Some (length own.key)
      ends =
          sym (key_within-end_within 255 cut body
          (ap key_len cut_key
          ∙ key_len-take_less own.key (shared p own.key) (length own.key) keyed.is_key.whole keyed.fewer))
          ∙ ap (key_within 255) whole
          ∙ key_len-take_more (own.key ++ own.rest) 255 (length own.key)
          (key_len-append own.key own.rest (length own.key) keyed.is_key.whole) keyed.is_key.short

      read_to : (o : Option ℕ) → option_map (λ n. length cut + n) o ≡ Some (length own.key) → (n : ℕ) → o ≡ Some n
          → length cut + n ≡ length own.key
      read_to None e n is = absurd (cc)
      read_to (Some m) e n is = let same : m ≡ n = cc in let full : length cut + m ≡ length own.key = cc in
          omega (arith, same, full)

      read_none : (o : Option ℕ) → option_map (λ n. length cut + n) o ≡ Some (length own.key) → o ≡ None → ⊥
      read_none None e is = cc
      read_none (Some m) e is = cc

      pub has_end : end_within 255 cut body ≡ None → ⊥
      has_end none = read_none (end_within 255 cut body) ends none

      module _ (n : ℕ) (found : end_within 255 cut body ≡ Some n) where
        part_size : length (drop (shared p own.key) own.key) ≡ n
        part_size =
            omega (
              arith,
              read_to (end_within 255 cut body) ends n found,
              cut_size,
              length-drop (shared p own.key) own.key,
            )

        pub key_read : cut ++ take n body ≡ own.key
        key_read =
            ap (λ xs. xs ++ take n body) cut_key
            ∙ ap (λ xs. take (shared p own.key) own.key ++ take n xs) body_is
            ∙ ap (λ xs. take (shared p own.key) own.key ++ xs)
            (take_at (drop (shared p own.key) own.key) own.rest n part_size)
            ∙ take-append-drop (shared p own.key) own.key

        pub rest_read : drop n body ≡ own.rest
        rest_read = ap (drop n) body_is ∙ drop_at (drop (shared p own.key) own.key) own.rest n part_size
