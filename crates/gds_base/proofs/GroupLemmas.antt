-- The first group that the master map says has a free block.
use Rattle.std.proofs.Common.{◌≡◌, ℕ, ◌+◌, ◌*◌, ◌/◌, ◌%◌, ◌<◌, Bool, true, false, inl, inr, refl, sym, ap, subst}
use Rattle.std.proofs.Common.{◌∙◌, arith, w8, Option}
use Rattle.std.specs.Prelude.{IfNone, IfSome, nat_lt, slice_index}
use Rattle.std.specs.Bool.{then_some}
use Rattle.std.specs.Int.{bit_at, trailing_zeros}
use Rattle.std.proofs.lemmas.Bool.{cases_lt, eq-eqb, ltb-true, ltb-false, ne_eqb}
use Rattle.std.proofs.lemmas.Nat.Bits.{bit_at-trailing_zeros, bit_at-zero}
use Rattle.gds_header.specs.declared.header.Header.{Header}
use Rattle.gds_header.specs.Kinds.{groups_of, has_free}
use Rattle.gds_base.specs.Spaces.{IsFirstGroup, NoGroup}

-- By its byte, of which it is the lowest bit that is set, it is the first of all groups.
module _ (h : Header) (place bit group : ℕ) (some : 0 < slice_index h.master place)
    (byte : slice_index h.master place < 256) (bit_is : bit ≡ trailing_zeros w8 (slice_index h.master place))
    (group_is : group ≡ 8 * place + bit) (zeros : (k : ℕ) → k < place → slice_index h.master k ≡ 0) where
  lowest : (trailing_zeros w8 (slice_index h.master place) < 8)
      × (bit_at (slice_index h.master place) (trailing_zeros w8 (slice_index h.master place)) ≡ 1)
      × ((i : ℕ) → i < trailing_zeros w8 (slice_index h.master place) → bit_at (slice_index h.master place) i ≡ 0)
  lowest = bit_at-trailing_zeros w8 (slice_index h.master place) some byte

  marked : has_free h group ≡ true
  marked =
      let at_byte : group / 8 ≡ place = omega (arith, group_is, bit_is, lowest.0) in
      let at_bit : group % 8 ≡ trailing_zeros w8 (slice_index h.master place) =
      omega (arith, group_is, bit_is, lowest.0) in
      eq-eqb (bit_at (slice_index h.master (group / 8)) (group % 8)) 1
      ((λ i. bit_at (slice_index h.master (at_byte i)) (at_bit i)) ∙ lowest.1)

  unmarked : (g : ℕ) → g < group → has_free h g ≡ false
  unmarked g less = ne_eqb (bit_at (slice_index h.master (g / 8)) (g % 8)) 1 (λ e. omega (arith, e, none))
    where
      none : bit_at (slice_index h.master (g / 8)) (g % 8) ≡ 0
      none = elim (cases_lt (g / 8) place) [
        | inl before ↦ ap (λ b. bit_at b (g % 8)) (zeros (g / 8) before) ∙ bit_at-zero (g % 8)
        | inr from ↦
            let at_byte : g / 8 ≡ place = omega (arith, from, less, group_is, bit_is, lowest.0) in
            ap (λ k. bit_at (slice_index h.master k) (g % 8)) at_byte
            ∙ lowest.2 (g % 8) (omega (arith, at_byte, less, group_is, bit_is))
      ]

  -- so that it is the one, if the file has it
  module _ (groups : ℕ) (groups_is : groups ≡ groups_of h) (result : Option ℕ)
      (is : result ≡ then_some (nat_lt group groups) group) where
    pub first_found : IfSome result (IsFirstGroup h)
    first_found = subst (λ r. IfSome r (IsFirstGroup h)) (sym is) (by (nat_lt group groups) refl)
      where
        by : (t : Bool) → nat_lt group groups ≡ t → IfSome (then_some t group) (IsFirstGroup h)
        by true low = record {
          within = omega (arith, ltb-true group groups low, groups_is);
          has = marked;
          first = unmarked;
        }
        by false past = tt

    pub none_found : IfNone result (NoGroup h)
    none_found = subst (λ r. IfNone r (NoGroup h)) (sym is) (by (nat_lt group groups) refl)
      where
        by : (t : Bool) → nat_lt group groups ≡ t → IfNone (then_some t group) (NoGroup h)
        by true low = tt
        by false past =
            λ g low. unmarked g (omega (arith, low, ltb-false group groups past, groups_is))
