-- A map that is made: its states after the zeros, and after each block that becomes new.
use Rattle.std.proofs.Common.{ℕ, ◌≡◌, ◌≢◌, ◌+◌, ◌-◌, ◌/◌, ◌≤◌, ◌<◌, List, refl, sym, ◌∙◌, ap, min, ◌++◌, replicate}
use Rattle.std.proofs.Common.{length, take, drop, get_or, inl, inr, arith, ltb, length-take, length-drop}
use Rattle.std.specs.Prelude.{slice_index}
use Rattle.std.proofs.Math.Nat.{zero-div}
use Rattle.std.proofs.lemmas.Bool.{cases_eq, le-ltb, lt-ltb, ne_eqb}
use Rattle.std.proofs.lemmas.Bool.Decides.{nat_tests}
use Rattle.std.proofs.lemmas.List.{ext_get_or, get_or-take, get_or-drop, get_or-append_right, get_or_append_left}
use Rattle.std.proofs.lemmas.List.{get_or-replicate, length-replicate}
use Rattle.gds_bitmap.specs.declared.state.State.TheVariants.{Busy, New}
use Rattle.gds_bitmap.specs.declared.state.State.{State}
use Rattle.gds_bitmap.specs.Bitmap.{state_at, fresh_state, Marks}

-- a byte 0 has four pairs 00
pub state_at-zero : (map : List ℕ) (j : ℕ) → slice_index map (16 + j / 4) ≡ 0 → state_at map j ≡ Busy
state_at-zero map j h = rw (h, zero-div) refl

pub fresh_state-none : (n j : ℕ) → n ≤ 1 → fresh_state n j ≡ Busy
fresh_state-none n j h = elim (cases_eq j 0) [
  | inl zero_is ↦ rw zero_is refl
  | inr other ↦
      let past : n ≤ j = omega arith in
      rw (ne_eqb j 0 other, le-ltb j n past) refl
]

pub fresh_state-new : (n k : ℕ) → 0 < k → k < n → fresh_state n k ≡ New
fresh_state-new n k h l = rw (ne_eqb k 0 (omega arith), lt-ltb k n l) refl

pub fresh_state-other : (k j : ℕ) → j ≢ k → fresh_state (k + 1) j ≡ fresh_state k j
fresh_state-other k j h =
    let same : ltb j (k + 1) ≡ ltb j k = grind (arith, nat_tests) in
    rw same refl

module _ (old new : List ℕ) (k : ℕ) (state : State) (marks : Marks old new k state) (within : k < 512) where
  pub take-Marks : take 16 new ≡ take 16 old
  take-Marks = ext_get_or 0 _ _ (simp (length-take) (ap (min 16) marks.len)) (λ i h.
      let front : i < 16 = omega (arith, length-take 16 new) in
      let other : i ≢ 16 + k / 4 = omega arith in
      get_or-take 16 new i 0 front ∙ marks.bytes i other ∙ sym (get_or-take 16 old i 0 front))

  pub drop-Marks : drop 144 new ≡ drop 144 old
  drop-Marks = ext_get_or 0 _ _ (omega (arith, length-drop 144 new, length-drop 144 old, marks.len)) (λ i h.
      let other : 144 + i ≢ 16 + k / 4 = omega arith in
      get_or-drop 144 new i 0 ∙ marks.bytes (144 + i) other ∙ sym (get_or-drop 144 old i 0))

-- one more block becomes new
pub states-more : (old new : List ℕ) (k : ℕ) → 0 < k → Marks old new k New
    → ((j : ℕ) → j < 512 → state_at old j ≡ fresh_state k j) → (j : ℕ) → j < 512
    → state_at new j ≡ fresh_state (k + 1) j
states-more old new k h marks states j within = elim (cases_eq j k) [
  | inl same ↦ rw same (marks.marked ∙ sym (fresh_state-new (k + 1) k h (omega arith)))
  | inr other ↦ marks.others j other ∙ states j within ∙ sym (fresh_state-other k j other)
]

-- the bytes behind the head after 128 zeros were put there
pub zero_at : (front mid rest : List ℕ) (n i : ℕ) → length front ≡ 16 → mid ≡ replicate n 0 → i < n
    → get_or (front ++ (mid ++ rest)) (16 + i) 0 ≡ 0
zero_at front mid rest n i h e l =
    let place : 16 + i - 16 ≡ i = omega arith in
    let here : i < length mid = omega (arith, ap length e, length-replicate {A = ℕ} n 0) in
    get_or-append_right front (mid ++ rest) 16 (16 + i) 0 h (omega arith)
    ∙ ap (λ k. get_or (mid ++ rest) k 0) place
    ∙ get_or_append_left mid rest 0 i here
    ∙ ap (λ xs. get_or xs i 0) e ∙ get_or-replicate n i 0 0 l
