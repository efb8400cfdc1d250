-- Maps are right exactly where they are lawful and call busy what is in use.
use Rattle.std.proofs.Common.{◌≡◌, ◌≢◌, ℕ, zero, suc, ◌+◌, ◌*◌, ◌/◌, ◌<◌, ◌≤◌, ◌==◌, ◌%◌, true, false, ◌&&◌, ◌||◌}
use Rattle.std.proofs.Common.{List, ◌⊎◌, inl, inr, refl, sym, ap, ◌∙◌, arith}
use Rattle.std.specs.Prelude.{◌↔◌, IsTrue, nat_lt}
use Rattle.std.proofs.lemmas.Bool.{false≢true, cases_Bool, or_cases, or_parts, or_left, and_parts, eqb-true}
use Rattle.std.proofs.lemmas.Bool.{eqb-false, eq-eqb, ne_eqb, ltb-true, lt-ltb, le-ltb, and_left}
use Rattle.gds_bitmap.specs.State.{state_from, is_free}
use Rattle.gds_bitmap.specs.Bitmap.{pair_of}
use Rattle.gds_header.specs.Fields.{fields_of}
use Rattle.gds_header.specs.Kinds.{groups_of}
use Rattle.gds_law.specs.Maps.{map_of, is_present}
use Rattle.gds_sound.specs.Sound.{is_in_use, IsRightPair, IsRightMap}
use Rattle.gds_file.specs.Maps.{has_block, is_busy, IsLawfulPair, IsLawfulMap, AreLawfulMaps, AreBusy, AreRightMaps}

-- ---- a pair

pub free_pair : (pair : ℕ) → pair ≢ 0 → pair ≢ 2 → is_free (state_from pair) ≡ true
free_pair zero n m = absurd (n refl)
free_pair (suc zero) n m = refl
free_pair (suc (suc zero)) n m = absurd (m refl)
free_pair (suc (suc (suc k))) n m = refl

pair_free : (pair : ℕ) → is_free (state_from pair) ≡ true → (pair ≢ 0) × (pair ≢ 2)
pair_free pair h = (
  λ e. false≢true (ap (λ p. is_free (state_from p)) (sym e) ∙ h),
  λ e. false≢true (ap (λ p. is_free (state_from p)) (sym e) ∙ h),
)

-- ---- a block and its place in its group's map

-- A block past the last isn't busy.
pub not_busy_past : (image : List ℕ) (n : ℕ) → (fields_of image).total ≤ n → is_busy image n ≡ false
unfolding is_busy
not_busy_past image n past = and_left (nat_lt n (fields_of image).total) _ (le-ltb n (fields_of image).total past)

pub busy_within : (image : List ℕ) (n : ℕ) → is_busy image n ≡ true → n < (fields_of image).total
unfolding is_busy
busy_within image n h = ltb-true n (fields_of image).total (and_parts (nat_lt n (fields_of image).total) _ h).0

pub busy_by_pair : (image : List ℕ) (n : ℕ) → n < (fields_of image).total
    → is_busy image n ≡ (pair_of (map_of image (n / 512)) (n % 512) == 0)
unfolding is_busy
busy_by_pair image n low =
    ap (λ t. t && (pair_of (map_of image (n / 512)) (n % 512) == 0)) (lt-ltb n (fields_of image).total low)

module _ (image blocks : List ℕ) where
  -- of a block that is no map
  used_number : (n : ℕ) → n % 512 ≢ 0 → is_in_use blocks (512 * (n / 512) + n % 512) ≡ has_block blocks n
  used_number n no_map =
      let number : 512 * (n / 512) + n % 512 ≡ n = omega arith in
      ap (is_in_use blocks) number ∙ ap (λ t. t || has_block blocks n) (ne_eqb (n % 512) 0 no_map)

  busy_number : (group k : ℕ) → k < 512 → 512 * group + k < (fields_of image).total
      → is_busy image (512 * group + k) ≡ (pair_of (map_of image group) k == 0)
  busy_number group k low within =
      let quotient : (512 * group + k) / 512 ≡ group = omega arith in
      let rest : (512 * group + k) % 512 ≡ k = omega arith in
      busy_by_pair image (512 * group + k) within ∙ (λ i. pair_of (map_of image (quotient i)) (rest i) == 0)

  -- ---- from right maps

  lawful_pair : (group k : ℕ) → IsRightPair image (is_in_use blocks) group k → IsLawfulPair image group k
  lawful_pair group k r = record {
    legal = λ p. elim (cases_Bool (is_in_use blocks (512 * group + k))) [
      | inl used ↦ λ e. omega (arith, e, r.busy p used)
      | inr free ↦ (pair_free (pair_of (map_of image group) k) (r.free p free)).1
    ];
    past = r.past;
  }

  lawful_map : (group : ℕ) → group < groups_of (fields_of image) → IsRightMap image (is_in_use blocks) group
      → IsLawfulMap image group
  lawful_map group low r =
      let place : (512 * group + 0) % 512 ≡ 0 = omega arith in
      record {
        version = r.version;
        reserved = r.reserved;
        level = r.level;
        size = r.size;
        tn = r.tn;
        pairs = λ k within. lawful_pair group k (r.pairs k within);
        own = (r.pairs 0 (omega arith)).busy (lt-ltb (512 * group + 0) (fields_of image).total (omega (arith, low)))
            (or_left _ _ (eq-eqb ((512 * group + 0) % 512) 0 place));
        master = r.master;
      }

  busy_right : AreRightMaps image blocks → AreBusy image blocks
  busy_right r n within no_map = busy_by_pair image n within ∙ by (cases_Bool (has_block blocks n))
    where
      number : 512 * (n / 512) + n % 512 ≡ n
      number = omega arith

      here : IsRightPair image (is_in_use blocks) (n / 512) (n % 512)
      here = (r.maps (n / 512) (omega (arith, within))).pairs (n % 512) (omega arith)

      there : IsTrue (is_present (fields_of image) (n / 512) (n % 512))
      there = lt-ltb (512 * (n / 512) + n % 512) (fields_of image).total (omega (arith, number, within))

      by : ((has_block blocks n ≡ true) ⊎ (has_block blocks n ≡ false))
          → (pair_of (map_of image (n / 512)) (n % 512) == 0) ≡ has_block blocks n
      by (inl h) = eq-eqb _ 0 (here.busy there (used_number n no_map ∙ h)) ∙ sym h
      by (inr h) = ne_eqb _ 0 (pair_free _ (here.free there (used_number n no_map ∙ h))).0 ∙ sym h

  -- ---- and back

  right_pair : AreBusy image blocks → (group k : ℕ) → k < 512 → IsLawfulMap image group
      → IsRightPair image (is_in_use blocks) group k
  right_pair b group k low l = record {
    busy = λ p u. busy p (or_cases ((512 * group + k) % 512 == 0) (has_block blocks (512 * group + k)) u);
    free = free;
    past = (l.pairs k low).past;
  }
    where
      place : (512 * group + k) % 512 ≡ k
      place = omega arith

      within : IsTrue (is_present (fields_of image) group k) → 512 * group + k < (fields_of image).total
      within p = ltb-true (512 * group + k) (fields_of image).total p

      said : IsTrue (is_present (fields_of image) group k) → k ≢ 0
          → (pair_of (map_of image group) k == 0) ≡ has_block blocks (512 * group + k)
      said p other =
          sym (busy_number group k low (within p)) ∙ b (512 * group + k) (within p) (λ e. other (sym place ∙ e))

      busy : IsTrue (is_present (fields_of image) group k)
          → (((512 * group + k) % 512 == 0) ≡ true) ⊎ (has_block blocks (512 * group + k) ≡ true)
          → pair_of (map_of image group) k ≡ 0
      busy p (inl e) =
          let first : k ≡ 0 = sym place ∙ eqb-true _ 0 e in
          ap (pair_of (map_of image group)) first ∙ l.own
      busy p (inr h) = by (cases_Bool (k == 0))
        where
          by : ((k == 0) ≡ true) ⊎ ((k == 0) ≡ false) → pair_of (map_of image group) k ≡ 0
          by (inl e) = ap (pair_of (map_of image group)) (eqb-true k 0 e) ∙ l.own
          by (inr e) = eqb-true _ 0 (said p (eqb-false k 0 e) ∙ h)

      free : IsTrue (is_present (fields_of image) group k) → is_in_use blocks (512 * group + k) ≡ false
          → IsTrue (is_free (state_from (pair_of (map_of image group) k)))
      free p u =
          let parts = or_parts ((512 * group + k) % 512 == 0) (has_block blocks (512 * group + k)) u in
          let other : k ≢ 0 = λ e. eqb-false _ 0 parts.0 (place ∙ e) in
          free_pair _ (eqb-false _ 0 (said p other ∙ parts.1)) ((l.pairs k low).legal p)

  right_map : AreBusy image blocks → (group : ℕ) → IsLawfulMap image group → IsRightMap image (is_in_use blocks) group
  right_map b group l = record {
    version = l.version;
    reserved = l.reserved;
    level = l.level;
    size = l.size;
    tn = l.tn;
    pairs = λ k low. right_pair b group k low l;
    master = l.master;
  }

  pub maps_in_two_parts : AreRightMaps image blocks ↔ (AreLawfulMaps image × AreBusy image blocks)
  maps_in_two_parts = (
    λ r. (record { maps = λ group low. lawful_map group low (r.maps group low); count = r.count }, busy_right r),
    λ h. record { maps = λ group low. right_map h.1 group (h.0.maps group low); count = h.0.count },
  )
