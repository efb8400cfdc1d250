-- A block may have what an edit gives it.
use Rattle.std.proofs.Common.{ℕ, zero, suc, ◌≡◌, ◌⊎◌, inl, inr, List, [], ◌∷◌, ◌++◌, length, false, refl}
use Rattle.std.proofs.Common.{ap, subst, arith}
use Rattle.std.specs.Prelude.{All}
use Rattle.std.specs.Bool.{OnFalse}
use Rattle.std.specs.Ordering.{nat_cmp}
use Rattle.std.specs.Cmp.Lexicographic.{slice_cmp}
use Rattle.std.specs.declared.cmp.Ordering.TheVariants.{Less}
use Rattle.std.proofs.lemmas.Cmp.{nat_list_cmp_total}
use Rattle.std.proofs.lemmas.List.Elements.{All-head, All-tail}
use Rattle.m_number.proofs.OrderingLemmas.{Less-is_lt}
use Rattle.gds_block.specs.Item.{Item}
use Rattle.m_key.specs.KeyEnd.{IsKey}
use Rattle.m_key.proofs.KeyEndLemmas.{length-key}
use Rattle.gds_pack.specs.Packable.{IsNext, AreLeaves, AreIndex, ArePackable}
use Rattle.gds_search.specs.Place.{IsPlaceFor, IsBelow, BeginsAbove}
use Rattle.gds_search.specs.declared.place.Place.{Place}
use Rattle.gds_search.proofs.ReachedLemmas.{above-none}

-- ---- another rest

next_with : (p : List ℕ) (e : Item) (rest : List ℕ) → IsNext p e → IsNext p (record e { rest = rest })
next_with p e rest next = record { is_key = next.is_key; above = next.above }

leaves_with : (p : List ℕ) (a b : List Item) (e : Item) (rest : List ℕ) → AreLeaves p (a ++ e ∷ b)
    → AreLeaves p (a ++ record e { rest = rest } ∷ b)
leaves_with p [] b e rest h = (next_with p e rest h.0, h.1)
leaves_with p (x ∷ a) b e rest h = (h.0, leaves_with x.key a b e rest h.1)

index_with : (p : List ℕ) (a b : List Item) (e : Item) (rest : List ℕ) → length rest ≡ 4 → AreIndex p (a ++ e ∷ b)
    → AreIndex p (a ++ record e { rest = rest } ∷ b)
index_with p [] [] e rest four h = (h.0, four)
index_with p [] (j ∷ b) e rest four h = (next_with p e rest h.0, four, h.2)
index_with p (x ∷ []) b e rest four h = (h.0, h.1, index_with x.key [] b e rest four h.2)
index_with p (x ∷ y ∷ a) b e rest four h = (h.0, h.1, index_with x.key (y ∷ a) b e rest four h.2)

pub ArePackable-with : (height : ℕ) (a b : List Item) (e : Item) (rest : List ℕ) → ArePackable height (a ++ e ∷ b)
    → (height ≡ 0) ⊎ (length rest ≡ 4) → ArePackable height (a ++ record e { rest = rest } ∷ b)
ArePackable-with zero a b e rest h k = leaves_with [] a b e rest h
ArePackable-with (suc height) a b e rest h (inl none) = absurd (omega (arith, none))
ArePackable-with (suc height) a b e rest h (inr four) = index_with [] a b e rest four h

-- ---- one entry less

next_over : (p : List ℕ) (e j : Item) → IsNext p e → IsNext e.key j → IsNext p j
next_over p e j first second = record {
  is_key = second.is_key;
  above = nat_list_cmp_total.trans p e.key j.key first.above second.above;
}

leaves_without : (p : List ℕ) (a b : List Item) (e : Item) → AreLeaves p (a ++ e ∷ b) → AreLeaves p (a ++ b)
leaves_without p [] [] e h = tt
leaves_without p [] (j ∷ b) e h = (next_over p e j h.0 h.1.0, h.1.1)
leaves_without p (x ∷ a) b e h = (h.0, leaves_without x.key a b e h.1)

index_without : (p : List ℕ) (a b : List Item) (e j : Item) → AreIndex p (a ++ e ∷ j ∷ b) → AreIndex p (a ++ j ∷ b)
index_without p [] [] e j h = h.2
index_without p [] (k ∷ b) e j h = (next_over p e j h.0 h.2.0, h.2.1, h.2.2)
index_without p (x ∷ []) b e j h = (h.0, h.1, index_without x.key [] b e j h.2)
index_without p (x ∷ y ∷ a) b e j h = (h.0, h.1, index_without x.key (y ∷ a) b e j h.2)

pub ArePackable-without : (height : ℕ) (a b : List Item) (e : Item) → ArePackable height (a ++ e ∷ b)
    → (height ≡ 0) ⊎ (b ≡ [] → ⊥) → ArePackable height (a ++ b)
ArePackable-without zero a b e h k = leaves_without [] a b e h
ArePackable-without (suc height) a b e h (inl none) = absurd (omega (arith, none))
ArePackable-without (suc height) a [] e h (inr some) = absurd (some refl)
ArePackable-without (suc height) a (j ∷ b) e h (inr some) = index_without [] a b e j h

-- ---- one entry more

module _ (key rest : List ℕ) (is_key : IsKey key) where
  abbrev put_in : Item
  put_in = record { key = key; rest = rest }

  next_put : (p : List ℕ) → slice_cmp nat_cmp p key ≡ Less → IsNext p put_in
  next_put p above = record { is_key = is_key; above = above }

  next_above : (p : List ℕ) (j : Item) (b : List Item) → IsNext p j → BeginsAbove key (j ∷ b) → IsNext key j
  next_above p j b next (inl none) = absurd (omega (arith, length-key j.key next.is_key, ap length none))
  next_above p j b next (inr above) = record { is_key = next.is_key; above = Less-is_lt _ above }

  leaves_more : (p : List ℕ) (a b : List Item) → slice_cmp nat_cmp p key ≡ Less → All (IsBelow key) a
      → BeginsAbove key b → AreLeaves p (a ++ b) → AreLeaves p (a ++ put_in ∷ b)
  leaves_more p [] [] low below above h = (next_put p low, tt)
  leaves_more p [] (j ∷ b) low below above h = (next_put p low, (next_above p j b h.0 above, h.1))
  leaves_more p (x ∷ a) b low below above h = (
    h.0,
    leaves_more x.key a b (Less-is_lt _ (All-head (IsBelow key) x a below).1) (All-tail (IsBelow key) x a below) above
        h.1,
  )

  index_more : (p : List ℕ) (a b : List Item) → length rest ≡ 4 → slice_cmp nat_cmp p key ≡ Less
      → All (IsBelow key) a → BeginsAbove key b → AreIndex p (a ++ b) → AreIndex p (a ++ put_in ∷ b)
  index_more p [] [] four low below above h = absurd h
  index_more p [] (j ∷ []) four low below above h = (next_put p low, four, h)
  index_more p [] (j ∷ k ∷ b) four low below above h =
      (next_put p low, four, (next_above p j (k ∷ b) h.0 above, h.1, h.2))
  index_more p (x ∷ []) [] four low below above h = absurd ((All-head (IsBelow key) x [] below).0 h.0)
  index_more p (x ∷ []) (j ∷ b) four low below above h = (
    h.0,
    h.1,
    index_more x.key [] (j ∷ b) four (Less-is_lt _ (All-head (IsBelow key) x [] below).1)
        (All-tail (IsBelow key) x [] below) above h.2,
  )
  index_more p (x ∷ y ∷ a) b four low below above h = (
    h.0,
    h.1,
    index_more x.key (y ∷ a) b four (Less-is_lt _ (All-head (IsBelow key) x (y ∷ a) below).1)
        (All-tail (IsBelow key) x (y ∷ a) below) above h.2,
  )

  pub ArePackable-more : (height : ℕ) (es a b : List Item) (place : Place) → ArePackable height es
      → IsPlaceFor es key place a b → place.is_equal ≡ false → (height ≡ 0) ⊎ (length rest ≡ 4)
      → ArePackable height (a ++ put_in ∷ b)
  ArePackable-more height es a b place h spot unequal four =
      by height (subst (ArePackable height) spot.parts h) four
    where
      above : BeginsAbove key b
      above = subst (λ t. OnFalse t (BeginsAbove key b)) unequal spot.above

      by : (height : ℕ) → ArePackable height (a ++ b) → (height ≡ 0) ⊎ (length rest ≡ 4)
          → ArePackable height (a ++ put_in ∷ b)
      by zero h four = leaves_more [] a b (above-none key is_key) spot.below above h
      by (suc height) h (inl none) = absurd (omega (arith, none))
      by (suc height) h (inr four) = index_more [] a b four (above-none key is_key) spot.below above h
