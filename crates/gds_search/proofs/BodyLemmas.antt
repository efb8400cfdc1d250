-- How a key stands to the key of a record, from the bytes of the record's body alone.
use Rattle.std.proofs.Common.{ℕ, ◌≡◌, ◌+◌, ◌≤◌, ◌<◌, List, ◌++◌, length, get_or, take, drop, inl, inr, refl, sym, ◌∙◌}
use Rattle.std.proofs.Common.{ap, arith, length-append, length-drop}
use Rattle.std.proofs.lemmas.Bool.{cases_lt}
use Rattle.std.proofs.lemmas.List.{take-append-drop, take-append-le, take_all, take_at, take-take, get_or-drop}
use Rattle.std.proofs.lemmas.List.{get_or_append_left}
use Rattle.std.proofs.Math.Seq.{take-add}
use Rattle.m_key.specs.KeyEnd.{IsKey, shared}
use Rattle.m_key.proofs.KeyEndLemmas.{shared-le, take-shared, front_key}
use Rattle.gds_search.proofs.OrderLemmas.{Stands, stands-parted}

-- The record's key `own`, with this rest behind it, and the key that is looked for agree in their first m bytes.
module _ (own rest key : List ℕ) (m : ℕ) (agree : take m own ≡ take m key) (within : m ≤ length own)
    (less : m ≤ length key) (p : IsKey own) (q : IsKey key) where
  abbrev body : List ℕ
  body = drop m own ++ rest

  abbrev wanted : List ℕ
  wanted = drop m key

  module _ (s : ℕ) (is : s ≡ shared body wanted) where
    both : take s body ≡ take s wanted
    both = ap (λ n. take n body) is ∙ take-shared body wanted ∙ ap (λ n. take n wanted) (sym is)

    -- where the record's key ends within what is shared
    covered : length own ≤ m + s → own ≡ key
    covered h = front_key own key p q (length own) refl front
      where
        d : ℕ
        d = length (drop m own)

        size : length own ≡ m + d
        size = omega (arith, length-drop m own)

        inner : take d wanted ≡ drop m own
        inner =
            sym (take-take d s wanted (omega (arith, size)))
            ∙ ap (take d) (sym both)
            ∙ take-take d s body (omega (arith, size))
            ∙ take_at (drop m own) rest d refl

        front : take (length own) key ≡ own
        front = ap (λ n. take n key) size ∙ take-add m d key ∙ ap (λ xs. xs ++ take d wanted) (sym agree)
            ∙ ap (λ xs. take m own ++ xs) inner ∙ take-append-drop m own

    -- where it doesn't
    agree_on : m + s ≤ length own → take (m + s) own ≡ take (m + s) key
    agree_on h =
        take-add m s own
        ∙ ap (λ xs. xs ++ take s (drop m own)) agree
        ∙ ap (λ xs. take m key ++ xs)
        (sym (take-append-le s (drop m own) rest (omega (arith, length-drop m own))) ∙ both)
        ∙ sym (take-add m s key)

    -- all of the key is shared
    pub found : s ≡ length wanted → own ≡ key
    found all =
        let whole : m + s ≡ length key = omega (arith, all, length-drop m key) in
        elim (cases_lt (m + s) (length own)) [
          | inl h ↦
              sym (front_key key own q p (m + s) whole (agree_on (omega arith)
              ∙ take_all (m + s) key (omega (arith, whole))))
          | inr h ↦ covered h
        ]

    -- no record ends within what is left of the key
    pub no_end : s ≡ length body → (s ≡ length wanted → ⊥) → ⊥
    no_end all ne =
        let long = length-append (drop m own) rest in
        let own_end : length own ≤ m + s = omega (arith, all, long, length-drop m own) in
        ne (omega (
          arith,
          ap length (covered own_end),
          length-drop m key,
          is,
          shared-le body wanted,
        ))

    module _ (inside : s < length body) (short : s < length wanted) where
      further : m + s < length own
      further =
          elim (cases_lt (m + s) (length own)) [
            | inl h ↦ h
            | inr h ↦ absurd (omega (arith, ap length (covered h), length-drop m key))
          ]

      in_key : m + s < length key
      in_key = omega (arith, length-drop m key)

      own_byte : get_or body s 0 ≡ get_or own (m + s) 0
      own_byte =
          get_or_append_left (drop m own) rest 0 s (omega (arith, further, length-drop m own)) ∙ get_or-drop m own s 0

      key_byte : get_or wanted s 0 ≡ get_or key (m + s) 0
      key_byte = get_or-drop m key s 0

      pub parted_above : get_or body s 0 < get_or wanted s 0 → Stands own key (m + s)
      parted_above l = stands-parted (m + s) own key (agree_on (omega (arith, further))) further in_key
          (omega (arith, l, own_byte, key_byte))

      pub parted_below : get_or wanted s 0 < get_or body s 0 → Stands key own (m + s)
      parted_below l = stands-parted (m + s) key own (sym (agree_on (omega (arith, further)))) in_key further
          (omega (arith, l, own_byte, key_byte))
