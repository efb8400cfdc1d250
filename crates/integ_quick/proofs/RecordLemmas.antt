-- A record with which nothing is wrong, as the law of faults has it.
use Rattle.std.proofs.Common.{ℕ, ◌≡◌, ◌+◌, ◌<◌, ◌⊎◌, inl, inr, false, List, length, take}
use Rattle.std.proofs.Common.{drop, None, Some, sym, ◌∙◌, ap, subst, arith, length-append}
use Rattle.std.proofs.Common.{length-take, length-drop}
use Rattle.std.specs.Prelude.{option_map, unwrap_or, is_none, nat_lt, nat_le, not, ◌&&◌, ◌==◌, bytes_eq}
use Rattle.std.proofs.lemmas.Bool.{le-ltb, lt-leb, eq-eqb, ne_eqb, and_left, and_right}
use Rattle.std.proofs.lemmas.Slice.Eq.{bytes_eq-Decides}
use Rattle.m_key.specs.KeyEnd.{key_len, shared, HasOpenFronts}
use Rattle.m_key.proofs.KeyEndLemmas.{key_within-end_within, open_front, HasOpenFronts-key_within}
use Rattle.gds_law.proofs.KeyPartLemmas.{key_of-found, rest_of-found}
use Rattle.gds_law.specs.Visit.{global}
use Rattle.m_key.specs.KeyParts.{name_part}
use Rattle.gds_law.specs.Key.{key_fault}
use Rattle.gds_law.specs.BlockReading.{BlockReading, PlacedRecord, is_first, size_of, full_of, key_end, key_of}
use Rattle.gds_law.specs.BlockReading.{rest_of, has_values, points}
use Rattle.gds_law.specs.Record.{keyed_holds, is_below, is_directory, is_other_global, is_above_bound, is_below_bound}
use Rattle.gds_law.specs.declared.kind.FaultKind.TheVariants.{FirstCount, CountTooLarge}
use Rattle.integ_quick.specs.Record.{Follows, EndsIn}
use Rattle.integ_quick.proofs.KindLemmas.{IsClean}

-- The record is its block's first and has count 0, or it stands behind others and its count is within the key before.
abbrev pub IsPlaced : PlacedRecord → Type 0
IsPlaced s =
    ((s.record_.offset ≡ 16) × (s.record_.count ≡ 0))
    ⊎ ((16 < s.record_.offset) × (s.record_.count < length s.previous))

module _ (b : BlockReading) (s : PlacedRecord) (placed : IsPlaced s) (fronts : HasOpenFronts s.previous) (key : List ℕ)
    (e : EndsIn b.header s.previous s.record_.count s.record_.body key) where
  abbrev front : List ℕ
  front = take s.record_.count s.previous

  front-open : key_len front ≡ None
  front-open =
      open_front s.previous s.record_.count fronts
      (elim placed [
        | inl h ↦ inl h.1
        | inr h ↦ inr h.1
      ])

  length-front : length front ≡ s.record_.count
  length-front =
      elim placed [
        | inl h ↦ omega (arith, h.1, length-take s.record_.count s.previous)
        | inr h ↦ omega (arith, h.1, length-take s.record_.count s.previous)
      ]

  pub found : key_end b s ≡ Some (length front + e.key_end)
  found =
      key_within-end_within b.header.key_max front s.record_.body front-open
      ∙ ap (option_map (λ n. length front + n)) (sym e.ends)

  pub key_of-is : key_of b s ≡ key
  key_of-is = key_of-found b s e.key_end found ∙ sym e.bytes

  pub length-key : length key ≡ s.record_.count + e.key_end
  length-key =
      ap length e.bytes
      ∙ omega (
        arith,
        e.within,
        length-append front (take e.key_end s.record_.body),
        length-front,
        length-take e.key_end s.record_.body,
      )

  rest_of-is : rest_of b s ≡ drop e.key_end s.record_.body
  rest_of-is = rest_of-found b s e.key_end found

  pub fronts-key : HasOpenFronts key
  fronts-key =
      subst HasOpenFronts
      (ap (λ o. take (unwrap_or o 0) (full_of s)) (sym found) ∙ key_of-is)
      (HasOpenFronts-key_within b.header.key_max (full_of s) (length front + e.key_end) found)

  value-short : nat_lt b.header.value_max (length (rest_of b s)) ≡ false
  value-short = le-ltb _ _ (omega (arith, e.value, ap length rest_of-is, length-drop e.key_end s.record_.body))

  first_count : keyed_holds b s FirstCount ≡ false
  first_count =
      elim placed [
        | inl h ↦ and_right (is_first s) (not (s.record_.count == 0)) (ap not (eq-eqb _ _ h.1))
        | inr h ↦ and_left (is_first s) (not (s.record_.count == 0)) (ne_eqb _ _ (λ f. omega (arith, h.0, f)))
      ]

  later_count : keyed_holds b s CountTooLarge ≡ false
  later_count =
      elim placed [
        | inl h ↦ and_left (not (is_first s)) (nat_le (length s.previous) s.record_.count) (ap not (eq-eqb _ _ h.0))
        | inr h ↦ and_right (not (is_first s)) (nat_le (length s.previous) s.record_.count) (lt-leb _ _ h.1)
      ]

same_name : (a b : List ℕ) → b ≡ a → not (bytes_eq a b) ≡ false
same_name a b h = ap not ((bytes_eq-Decides a b).1 (sym h))

module _ (b : BlockReading) (s : PlacedRecord) (placed : IsPlaced s) (fronts : HasOpenFronts s.previous)
    (name key : List ℕ) (level : b.level ≡ 0) (role : b.visit.role
    ≡ global name) (follows : Follows b.header name s.previous s.record_.count s.record_.body key) where
  pub points-none : points b ≡ false
  points-none = ap (λ r. not (has_values b r)) role ∙ ap not (eq-eqb b.level 0 level)

  pub IsClean-follows : is_above_bound b.visit.high key ≡ false → is_below_bound 0 b.visit.low key ≡ false → IsClean b s
  IsClean-follows above below =
      let is : key_of b s ≡ key = key_of-is b s placed fronts key follows.ending in
      let some = found b s placed fronts key follows.ending in
      record {
        not_last = ap (λ n. nat_lt 0 n && (s.record_.offset + size_of s == b.used)) level;
        points = points-none;
        role = ap is_directory role;
        first_count = first_count b s placed fronts key follows.ending;
        later_count = later_count b s placed fronts key follows.ending;
        not_long = ap (λ o. is_none o && nat_lt b.header.key_max (length (full_of s))) some;
        with_end = ap (λ o. is_none o && nat_le (length (full_of s)) b.header.key_max) some;
        count = ap not (eq-eqb _ _ (follows.shares ∙ ap (shared s.previous) (sym is)));
        order = ap not (ap (is_below s.previous) is ∙ follows.rises);
        faultless = ap key_fault is ∙ follows.faultless;
        name = ap (λ r. is_other_global r (name_part (key_of b s))) role
            ∙ same_name name (name_part (key_of b s)) (ap name_part is ∙ follows.named);
        not_above = ap (is_above_bound b.visit.high) is ∙ above;
        not_below = ap (λ k. is_below_bound b.level b.visit.low k) is
            ∙ ap (λ n. is_below_bound n b.visit.low key) level ∙ below;
        value = value-short b s placed fronts key follows.ending;
      }
