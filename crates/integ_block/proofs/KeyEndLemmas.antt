-- Where the key of a record ends, behind the bytes of the key before.
use Rattle.std.proofs.Common.{ℕ, ◌≡◌, ◌+◌, ◌≤◌, ◌<◌, true, false, List, ◌++◌, length, take, Option, None}
use Rattle.std.proofs.Common.{Some, refl, sym, ◌∙◌, ap, subst, arith, length-append}
use Rattle.std.proofs.Common.{length-take}
use Rattle.std.specs.Prelude.{option_map, unwrap_or, is_none, nat_lt, nat_le, ◌&&◌}
use Rattle.std.proofs.lemmas.Bool.{and_right, le-leb, le-ltb, lt-ltb}
use Rattle.m_key.specs.KeyEnd.{key_len, key_within, HasOpenFronts}
use Rattle.m_key.proofs.KeyEndLemmas.{open_front, HasOpenFronts-key_within}
use Rattle.gds_law.proofs.KeyPartLemmas.{key_of-found, rest_of-found}
use Rattle.gds_law.specs.BlockReading.{BlockReading, PlacedRecord, full_of, key_end}
use Rattle.gds_law.specs.Record.{keyed_holds}
use Rattle.gds_law.specs.declared.kind.FaultKind.TheVariants.{KeyTooLong, KeyWithoutEnd}
use Rattle.integ_block.specs.Entry.{IsCount, IsKeyPart}

-- ---- the end of a record's key

-- what the search for the key's end says of the record behind these bytes
abbrev pub Says : BlockReading → PlacedRecord → List ℕ → Option ℕ → Type 0
Says b s previous o =
    key_len (take s.record_.count previous) ≡ None
    → key_within b.header.key_max (take s.record_.count previous ++ s.record_.body)
    ≡ option_map (λ n. length (take s.record_.count previous) + n) o

module _ (b : BlockReading) (s : PlacedRecord) (count : IsCount b s) (fronts : HasOpenFronts s.previous) where
  abbrev front : List ℕ
  front = take s.record_.count s.previous

  front-open : key_len front ≡ None
  front-open = open_front s.previous s.record_.count fronts count.none_or_less

  length-front : length front ≡ s.record_.count
  length-front = omega (arith, length-take s.record_.count s.previous, count.within)

  length-full : length (full_of s) ≡ s.record_.count + length s.record_.body
  length-full = omega (arith, length-append front s.record_.body, length-front)

  pub too_long : key_end b s ≡ None → b.header.key_max < s.record_.count + length s.record_.body
      → keyed_holds b s KeyTooLong ≡ true
  too_long none h =
      let long : b.header.key_max < length (full_of s) = omega (arith, length-full) in
      ap (λ o. is_none o && nat_lt b.header.key_max (length (full_of s))) none ∙ lt-ltb _ _ long

  pub not_too_long : s.record_.count + length s.record_.body ≤ b.header.key_max → keyed_holds b s KeyTooLong ≡ false
  not_too_long h =
      let short : length (full_of s) ≤ b.header.key_max = omega (arith, length-full) in
      ap (λ t. is_none (key_end b s) && t) (le-ltb _ _ short) ∙ and_right (is_none (key_end b s)) false refl

  pub without_end : key_end b s ≡ None → s.record_.count + length s.record_.body ≤ b.header.key_max
      → keyed_holds b s KeyWithoutEnd ≡ true
  without_end none h =
      let short : length (full_of s) ≤ b.header.key_max = omega (arith, length-full) in
      ap (λ o. is_none o && nat_le (length (full_of s)) b.header.key_max) none ∙ le-leb _ _ short

  pub key_end-none : Says b s s.previous None → key_end b s ≡ None
  key_end-none says = says front-open

  pub IsKeyPart-found : (n : ℕ) → Says b s s.previous (Some n) → n ≤ length s.record_.body
      → length front + n ≤ b.header.key_max → IsKeyPart b s n
  IsKeyPart-found n says within short =
      let found : key_end b s ≡ Some (length front + n) = says front-open in
      record {
        within = within;
        not_long = ap (λ o. is_none o && nat_lt b.header.key_max (length (full_of s))) found;
        with_end = ap (λ o. is_none o && nat_le (length (full_of s)) b.header.key_max) found;
        whole = key_of-found b s n found;
        behind = rest_of-found b s n found;
        fronts =
            subst HasOpenFronts (ap (λ o. take (unwrap_or o 0) (full_of s)) (sym found))
            (HasOpenFronts-key_within b.header.key_max (full_of s) (length front + n) found);
        short = omega (arith, length-front);
      }
