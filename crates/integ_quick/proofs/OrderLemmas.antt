-- Keys that part where the second has the greater byte.
use Rattle.std.proofs.Common.{ℕ, zero, suc, ◌≡◌, ◌<◌, Bool, true, false, List, [], ◌∷◌, ◌++◌}
use Rattle.std.proofs.Common.{length, get_or, take, Option, None, Some, refl, sym, ◌∙◌, ap, arith}
use Rattle.std.specs.Prelude.{not, ◌||◌}
use Rattle.std.specs.Option.{option_map_or}
use Rattle.std.specs.Ordering.{nat_cmp, is_lt}
use Rattle.std.specs.Cmp.Lexicographic.{slice_cmp}
use Rattle.std.specs.declared.cmp.Ordering.TheVariants.{Less}
use Rattle.std.proofs.lemmas.Bool.{eq-eqb, ne_eqb, false≢true}
use Rattle.std.proofs.lemmas.Cmp.{nat_list_cmp_total}
use Rattle.m_key.specs.KeyEnd.{shared}
use Rattle.m_number.proofs.OrderingLemmas.{nat_cmp_less, nat_cmp_same, Less-is_lt}
use Rattle.gds_law.specs.Record.{is_below, is_above_bound, is_below_bound}

-- the keys agree in the first so many bytes, and then the second has a greater byte or the first ends
module _ (x : ℕ) (rest : List ℕ) where
  pub slice_cmp-parted : (a : List ℕ) (n : ℕ) → n < length a → get_or a n 0 < x
      → slice_cmp nat_cmp a (take n a ++ x ∷ rest) ≡ Less
  slice_cmp-parted [] n h l = absurd (omega arith)
  slice_cmp-parted (b ∷ a) zero h l = rw (nat_cmp_less b x l) refl
  slice_cmp-parted (b ∷ a) (suc n) h l = rw (nat_cmp_same b) (slice_cmp-parted a n (omega arith) l)

  pub shared-parted : (a : List ℕ) (n : ℕ) → n < length a → get_or a n 0 < x → shared a (take n a ++ x ∷ rest) ≡ n
  shared-parted [] n h l = absurd (omega arith)
  shared-parted (b ∷ a) zero h l = rw (ne_eqb b x (λ e. omega arith)) refl
  shared-parted (b ∷ a) (suc n) h l = rw (eq-eqb b b refl, shared-parted a n (omega arith) l) (omega arith)

pub is_below-parted : (a : List ℕ) (n x : ℕ) (rest : List ℕ) → n < length a → get_or a n 0 < x
    → is_below a (take n a ++ x ∷ rest) ≡ true
is_below-parted a n x rest h l = ap is_lt (slice_cmp-parted x rest a n h l)

-- a key above another one is above what that one is above, and below what it is below
below_then : (a b c : List ℕ) → is_below a b ≡ true → is_below b c ≡ true → is_below a c ≡ true
below_then a b c h k = ap is_lt (nat_list_cmp_total.trans a b c (Less-is_lt _ h) (Less-is_lt _ k))

above_step : (t u : Bool) → (u ≡ true → t ≡ true) → not u ≡ false → not t ≡ false
above_step t true f h = ap not (f refl)
above_step t false f h = absurd (false≢true (sym h))

pub not_above-back : (high : Option (List ℕ)) (a b : List ℕ) → is_below a b ≡ true → is_above_bound high b ≡ false
    → is_above_bound high a ≡ false
not_above-back None a b h k = refl
not_above-back (Some bound) a b h k = above_step (is_below a bound) (is_below b bound) (below_then a b bound h) k

or_false : (t : Bool) → (t || false) ≡ t
or_false true = refl
or_false false = refl

below_step : (t u : Bool) → (u ≡ true → t ≡ true) → t ≡ false → u ≡ false
below_step t true f h = absurd (false≢true (sym h ∙ f refl))
below_step t false f h = refl

-- at level 0 the lower bound is allowed
pub is_below_bound-zero : (low : Option (List ℕ)) (key : List ℕ) → (t : Bool)
    → option_map_or (λ bound. is_below key bound) low false ≡ t → is_below_bound 0 low key ≡ t
is_below_bound-zero None key t h = h
is_below_bound-zero (Some bound) key t h = or_false (is_below key bound) ∙ h

below_from : (low : Option (List ℕ)) (key : List ℕ) → is_below_bound 0 low key ≡ false
    → option_map_or (λ bound. is_below key bound) low false ≡ false
below_from None key h = h
below_from (Some bound) key h = sym (or_false (is_below key bound)) ∙ h

pub not_below-on : (low : Option (List ℕ)) (a b : List ℕ) → is_below a b ≡ true → is_below_bound 0 low a ≡ false
    → is_below_bound 0 low b ≡ false
not_below-on low a b h k = is_below_bound-zero low b false (on low (below_from low a k))
  where
    on : (low : Option (List ℕ)) → option_map_or (λ bound. is_below a bound) low false ≡ false
        → option_map_or (λ bound. is_below b bound) low false ≡ false
    on None k = refl
    on (Some bound) k = below_step (is_below a bound) (is_below b bound) (below_then a b bound h) k
