-- The four pairs of a byte at once. The test is computed for each byte and each four bits.
use Rattle.std.proofs.Common.{ℕ, zero, suc, ◌≡◌, ◌-◌, ◌*◌, ◌/◌, ◌%◌, ◌<◌, Bool, true, false, eqb, List, [], ◌∷◌}
use Rattle.std.proofs.Common.{refl, sym, ◌∙◌, ap, arith, ◌⊎◌, inl, inr}
use Rattle.std.specs.Prelude.{◌&&◌, ◌↔◌, IsTrue, not, filter}
use Rattle.std.specs.Int.{bit_at}
use lib.Bits.{bit_and, bit_or}
use Rattle.std.specs.Option.{option_to_list}
use Rattle.std.specs.Bool.{then_some}
use Rattle.std.proofs.lemmas.Bool.{agree_below, agree_below_at, and_parts, ne_eqb}
use Rattle.gds_bitmap.specs.declared.state.State.{State}
use Rattle.gds_bitmap.specs.declared.state.State.TheVariants.{Busy, New, Illegal, Recycled}
use Rattle.gds_bitmap.specs.State.{state_from}
use Rattle.gds_bitmap.specs.Pairs.{pair_in}
use Rattle.gds_law.specs.Kinds.{pair_kinds}
use Rattle.gds_law.specs.declared.kind.FaultKind.{FaultKind}
use Rattle.gds_law.specs.declared.kind.FaultKind.TheVariants.{IllegalPair, UsedMarkedFree, UnusedMarkedBusy}
use Rattle.gds_law.specs.declared.kind.FaultKind.TheVariants.{PairPastTotal}
use Rattle.integ.specs.GroupMap.{kinds_of_pair, pair_holds, AreRight}

none : List FaultKind → Bool
none [] = true
none (kind ∷ kinds) = false

none_nil : (kinds : List FaultKind) → none kinds ≡ true → kinds ≡ []
unfolding none
none_nil [] h = refl
none_nil (kind ∷ kinds) h = absurd (cc)

nil_none : (kinds : List FaultKind) → kinds ≡ [] → none kinds ≡ true
unfolding none
nil_none kinds e = ap none e

-- nothing is wrong with pair j
is_fine : ℕ → ℕ → ℕ → Bool
is_fine byte used j = none (kinds_of_pair true (eqb (bit_at used j) 1) (pair_in byte j))

all_fine : ℕ → ℕ → Bool
all_fine used byte = is_fine byte used 0 && (is_fine byte used 1 && (is_fine byte used 2 && is_fine byte used 3))

-- as the program tests it
abbrev pub twos : ℕ → ℕ
twos used = bit_and (bit_or used (used * 4 % 256)) 51

abbrev pub in_use : ℕ → ℕ
in_use used = bit_and (bit_or (twos used) (twos used * 2 % 256)) 85

abbrev pub low_test : ℕ → ℕ → Bool
low_test used byte = eqb (bit_and byte 85) (bit_and 85 (255 - in_use used))

abbrev pub high_test : ℕ → Bool
high_test byte = eqb (bit_and (bit_and (byte / 2) 85) (255 - bit_and byte 85)) 0

test : ℕ → ℕ → Bool
test used byte = low_test used byte && high_test byte

agree : ℕ → Bool
agree used = agree_below (test used) (all_fine used) 256

all_agree : agree_below agree (λ _. true) 16 ≡ true
unfolding kinds_of_pair none is_fine all_fine test agree
all_agree = refl

test-is : (byte used : ℕ) → byte < 256 → used < 16 → test used byte ≡ all_fine used byte
unfolding agree
test-is byte used fits small =
    agree_below_at (test used) (all_fine used) 256 byte (agree_below_at agree (λ _. true) 16 used all_agree small) fits

-- of four tests that pass each does
each_of_four : (p : ℕ → Bool) → (p 0 && (p 1 && (p 2 && p 3))) ≡ true → (j : ℕ) → j < 4 → p j ≡ true
each_of_four p h j l =
    let first = and_parts (p 0) (p 1 && (p 2 && p 3)) h in
    let second = and_parts (p 1) (p 2 && p 3) first.1 in
    let third = and_parts (p 2) (p 3) second.1 in
    by first.0 second.0 third.0 third.1 j l
  where
    by : p 0 ≡ true → p 1 ≡ true → p 2 ≡ true → p 3 ≡ true → (j : ℕ) → j < 4 → p j ≡ true
    by a b c d zero l = a
    by a b c d (suc zero) l = b
    by a b c d (suc (suc zero)) l = c
    by a b c d (suc (suc (suc zero))) l = d
    by a b c d (suc (suc (suc (suc j)))) l = absurd (omega arith)

are_right : (byte used : ℕ) → all_fine used byte ≡ true → AreRight byte used
unfolding is_fine all_fine
are_right byte used h j l =
    none_nil (kinds_of_pair true (eqb (bit_at used j) 1) (pair_in byte j)) (each_of_four (is_fine byte used) h j l)

right_all : (byte used : ℕ) → AreRight byte used → all_fine used byte ≡ true
unfolding is_fine all_fine
right_all byte used r =
    let zeroth = nil_none _ (r 0 (omega arith)) in
    let first = nil_none _ (r 1 (omega arith)) in
    let second = nil_none _ (r 2 (omega arith)) in
    let third = nil_none _ (r 3 (omega arith)) in
    rw (zeroth, first, second, third) refl

module _ (byte used : ℕ) (fits : byte < 256) (small : used < 16) where
  pub right_then : low_test used byte ≡ true → IsTrue (high_test byte) ↔ AreRight byte used
  unfolding test
  right_then low = (
    λ high. are_right byte used (sym (test-is byte used fits small) ∙ rw (low, high) refl),
    λ r. (and_parts (low_test used byte) (high_test byte) (test-is byte used fits small ∙ right_all byte used r)).1,
  )

  pub right_else : low_test used byte ≡ false → IsTrue (low_test used byte) ↔ AreRight byte used
  unfolding test
  right_else low = (
    λ high. absurd (cc),
    λ r. (and_parts (low_test used byte) (high_test byte) (test-is byte used fits small ∙ right_all byte used r)).0,
  )

-- ---- one pair, by its state

past_three : (present used : Bool) (n : ℕ) → kinds_of_pair present used (suc (suc (suc n)))
    ≡ kinds_of_pair present used 3
unfolding kinds_of_pair
past_three present used n = λ i. filter (λ kind. same kind i) pair_kinds
  where
    same : (kind : FaultKind) → pair_holds present used (suc (suc (suc n))) kind ≡ pair_holds present used 3 kind
    same IllegalPair = ap (λ b. present && b) (ne_eqb (suc (suc (suc n))) 2 (λ e. omega arith))
    same UnusedMarkedBusy = ap (λ b. present && b && not used) (ne_eqb (suc (suc (suc n))) 0 (λ e. omega arith))
    same PairPastTotal = ap (λ b. not present && not b) (ne_eqb (suc (suc (suc n))) 0 (λ e. omega arith))
    same kind = refl

-- what is wrong with a pair of this state
unfoldable pub kinds_of_state : State → (present used : Bool) → List FaultKind
kinds_of_state Busy present used = kinds_of_pair present used 0
kinds_of_state New present used = kinds_of_pair present used 1
kinds_of_state Illegal present used = kinds_of_pair present used 2
kinds_of_state Recycled present used = kinds_of_pair present used 3

pub by_state : (present used : Bool) (pair : ℕ)
    → kinds_of_pair present used pair ≡ kinds_of_state (state_from pair) present used
unfolding kinds_of_state
by_state present used zero = refl
by_state present used (suc zero) = refl
by_state present used (suc (suc zero)) = refl
by_state present used (suc (suc (suc n))) = past_three present used n

pub busy_kinds : (used : Bool) → option_to_list (then_some (not used) UnusedMarkedBusy) ≡ kinds_of_state Busy true used
unfolding kinds_of_state kinds_of_pair
busy_kinds true = refl
busy_kinds false = refl

pub illegal_kinds : (used : Bool) → IllegalPair ∷ [] ≡ kinds_of_state Illegal true used
unfolding kinds_of_state kinds_of_pair
illegal_kinds used = refl

new_kinds : (used : Bool) → option_to_list (then_some used UsedMarkedFree) ≡ kinds_of_state New true used
unfolding kinds_of_state kinds_of_pair
new_kinds true = refl
new_kinds false = refl

recycled_kinds : (used : Bool) → option_to_list (then_some used UsedMarkedFree) ≡ kinds_of_state Recycled true used
unfolding kinds_of_state kinds_of_pair
recycled_kinds true = refl
recycled_kinds false = refl

pub free_kinds : (state : State) (used : Bool) → (state ≡ New) ⊎ (state ≡ Recycled)
    → option_to_list (then_some used UsedMarkedFree) ≡ kinds_of_state state true used
free_kinds state used (inl e) = new_kinds used ∙ ap (λ s. kinds_of_state s true used) (sym e)
free_kinds state used (inr e) = recycled_kinds used ∙ ap (λ s. kinds_of_state s true used) (sym e)

pub none_past : (used : Bool) → [] ≡ kinds_of_state Busy false used
unfolding kinds_of_state kinds_of_pair
none_past used = refl

pub past_kinds : (state : State) (used : Bool) → (state ≡ Busy → ⊥)
    → PairPastTotal ∷ [] ≡ kinds_of_state state false used
unfolding kinds_of_state kinds_of_pair
past_kinds Busy used other = absurd (other refl)
past_kinds New used other = refl
past_kinds Illegal used other = refl
past_kinds Recycled used other = refl

-- the same of a state that is a pair's
pub of_pair : (present used present' used' : Bool) (state : State) (pair : ℕ) (kinds : List FaultKind)
    → kinds ≡ kinds_of_state state present used
    → present' ≡ present → used' ≡ used → state ≡ state_from pair → kinds ≡ kinds_of_pair present' used' pair
of_pair present used present' used' state pair kinds is p u s =
    is ∙ (λ i. kinds_of_state (s i) present used) ∙ sym (by_state present used pair)
    ∙ sym (λ i. kinds_of_pair (p i) (u i) pair)
