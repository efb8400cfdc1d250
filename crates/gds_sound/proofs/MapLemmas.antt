-- Maps without faults are those that are right.
use Rattle.std.proofs.Common.{◌≡◌, ℕ, zero, suc, ◌+◌, ◌<◌, ◌≤◌, ◌==◌, Bool, true, false, not, ◌&&◌, if◌then◌else◌, List}
use Rattle.std.proofs.Common.{[], ◌∷◌, ◌++◌, map, filter, flat_map, inl, inr, refl, sym, ap, ◌∙◌, arith}
use Rattle.std.specs.Prelude.{IsTrue, nat_lt}
use Rattle.std.specs.List.{range_with_len}
use Rattle.std.proofs.lemmas.Bool.{false≢true, ne_eqb, cases_eq, not-false, ltb-false, leb-false, eqb-true, eq-eqb}
use Rattle.std.proofs.lemmas.Bool.{lt-leb, or_parts, or_from, cond-true}
use Rattle.gds_block.specs.Block.{version_of, reserved_of, level_of, used_of, tn_of}
use Rattle.gds_bitmap.specs.State.{state_from, is_free}
use Rattle.gds_bitmap.specs.Bitmap.{pair_of}
use Rattle.gds_header.specs.Fields.{fields_of}
use Rattle.gds_header.specs.Kinds.{groups_of, has_free}
use Rattle.gds_law.specs.Kinds.{map_kinds, pair_kinds}
use Rattle.gds_law.specs.Maps.{map_number, map_of, is_present, has_free_place, places, map_holds, pair_holds, fault_of}
use Rattle.gds_law.specs.Maps.{pair_faults, group_faults, map_faults, count_faults, free_blocks}
use Rattle.gds_sound.specs.Sound.{IsRightPair, IsRightMap}
use Rattle.gds_law.specs.declared.kind.FaultKind.{FaultKind}
use Rattle.gds_law.specs.declared.kind.FaultKind.TheVariants.{BadVersion, TransactionTooNew, MapUsedTooSmall}
use Rattle.gds_law.specs.declared.kind.FaultKind.TheVariants.{MapUsedTooLarge, MapLevel, GroupMarkedFree}
use Rattle.gds_law.specs.declared.kind.FaultKind.TheVariants.{GroupMarkedFull, IllegalPair, UsedMarkedFree}
use Rattle.gds_law.specs.declared.kind.FaultKind.TheVariants.{UnusedMarkedBusy, PairPastTotal, WrongFreeCount}
use Rattle.gds_law.proofs.MembershipLemmas.{IsIn}
use Rattle.gds_sound.proofs.BlockLemmas.{nil_parts, map_nil, filter_nil, nil_filter}
use Rattle.gds_sound.proofs.KeptLemmas.{flat_nil, nil_flat}

-- ---- numbers one after another

pub in_range : (n a k : ℕ) → a ≤ k → k < a + n → IsIn (range_with_len a n) k
in_range zero a k low high = absurd (omega arith)
in_range (suc n) a k low high =
    elim (cases_eq a k) [
      | inl e ↦ inl e
      | inr m ↦ inr (in_range n (a + 1) k (omega arith) (omega arith))
    ]

pub range_in : (n a k : ℕ) → IsIn (range_with_len a n) k → k < a + n
range_in zero a k i = absurd i
range_in (suc n) a k (inl e) = omega arith
range_in (suc n) a k (inr i) = omega (arith, range_in n (a + 1) k i)

flat_each : {A : Type 0} (f : ℕ → List A) (n : ℕ) → flat_map f (range_with_len 0 n) ≡ [] → (k : ℕ) → k < n → f k ≡ []
flat_each f n h k low = flat_nil f (range_with_len 0 n) h k (in_range n 0 k (omega arith) (omega arith))

each_flat : {A : Type 0} (f : ℕ → List A) (n : ℕ) → ((k : ℕ) → k < n → f k ≡ []) → flat_map f (range_with_len 0 n) ≡ []
each_flat f n h = nil_flat f (range_with_len 0 n) (λ k i. h k (omega (arith, range_in n 0 k i)))

-- ---- a pair

pub record FitsUse (present used : Bool) (pair : ℕ) : Type 0 where
  pub busy : IsTrue present → IsTrue used → pair ≡ 0
  pub free : IsTrue present → used ≡ false → IsTrue (is_free (state_from pair))
  pub past : present ≡ false → pair ≡ 0

pub record NoPairFault (present used : Bool) (pair : ℕ) : Type 0 where
  pub legal : (present && (pair == 2)) ≡ false
  pub no_used : (present && is_free (state_from pair) && used) ≡ false
  pub no_unused : (present && (pair == 0) && not used) ≡ false
  pub within : (not present && not (pair == 0)) ≡ false

fits : (present used : Bool) (pair : ℕ) → NoPairFault present used pair → FitsUse present used pair
fits false used pair h = record {
  busy = λ p u. absurd (false≢true p);
  free = λ p u. absurd (false≢true p);
  past = λ e. eqb-true pair 0 (not-false (pair == 0) h.within);
}
fits true true zero h = record { busy = λ p u. refl; free = λ p u. absurd (cc); past = λ e. refl }
fits true true (suc zero) h = absurd (cc (h.no_used))
fits true true (suc (suc zero)) h = absurd (cc (h.legal))
fits true true (suc (suc (suc n))) h = absurd (cc (h.no_used))
fits true false zero h = absurd (cc (h.no_unused))
fits true false (suc zero) h =
    record { busy = λ p u. absurd (false≢true u); free = λ p u. refl; past = λ e. absurd (cc) }
fits true false (suc (suc zero)) h = absurd (cc (h.legal))
fits true false (suc (suc (suc n))) h =
    record { busy = λ p u. absurd (false≢true u); free = λ p u. refl; past = λ e. absurd (cc) }

no_fault : (present used : Bool) (pair : ℕ) → FitsUse present used pair → NoPairFault present used pair
no_fault false used pair h = record {
  legal = refl;
  no_used = refl;
  no_unused = refl;
  within = ap (λ n. not (n == 0)) (h.past refl);
}
no_fault true true pair h =
    let e = h.busy refl refl in
    record {
      legal = ap (λ n. n == 2) e;
      no_used = ap (λ n. is_free (state_from n) && true) e;
      no_unused = ap (λ n. (n == 0) && false) e;
      within = refl;
    }
no_fault true false zero h = absurd (false≢true (h.free refl refl))
no_fault true false (suc zero) h = record { legal = refl; no_used = refl; no_unused = refl; within = refl }
no_fault true false (suc (suc zero)) h = absurd (false≢true (h.free refl refl))
no_fault true false (suc (suc (suc n))) h = record {
  legal = ne_eqb (suc (suc (suc n))) 2 (λ e. omega arith);
  no_used = refl;
  no_unused = ap (λ b. b && true) (ne_eqb (suc (suc (suc n))) 0 (λ e. omega arith));
  within = refl;
}

module _ (image : List ℕ) (used : ℕ → Bool) (group : ℕ) where
  pair_from : (k : ℕ) → pair_faults image used group k ≡ [] → IsRightPair image used group k
  pair_from k h =
      let none =
      filter_nil (pair_holds image used group k) pair_kinds
      (map_nil (fault_of (map_number group + k)) (filter (pair_holds image used group k) pair_kinds) h) in
      let f = fits (is_present (fields_of image) group k) (used (map_number group
      + k)) (pair_of (map_of image group) k) (record {
        legal = none IllegalPair (inl refl);
        no_used = none UsedMarkedFree (inr (inl refl));
        no_unused = none UnusedMarkedBusy (inr (inr (inl refl)));
        within = none PairPastTotal (inr (inr (inr (inl refl))));
      }) in
      record { busy = f.busy; free = f.free; past = f.past }

  from_pair : (k : ℕ) → IsRightPair image used group k → pair_faults image used group k ≡ []
  from_pair k r =
      let f = no_fault (is_present (fields_of image) group k) (used (map_number group
      + k)) (pair_of (map_of image group) k)
      (record { busy = r.busy; free = r.free; past = r.past }) in
      ap (map (fault_of (map_number group + k))) (nil_filter (pair_holds image used group k) pair_kinds (each f))
    where
      each : NoPairFault (is_present (fields_of image) group k) (used (map_number group
          + k)) (pair_of (map_of image group) k)
          → (kind : FaultKind) → IsIn pair_kinds kind → pair_holds image used group k kind ≡ false
      each f kind (inl e) = ap (pair_holds image used group k) (sym e) ∙ f.legal
      each f kind (inr (inl e)) = ap (pair_holds image used group k) (sym e) ∙ f.no_used
      each f kind (inr (inr (inl e))) = ap (pair_holds image used group k) (sym e) ∙ f.no_unused
      each f kind (inr (inr (inr (inl e)))) = ap (pair_holds image used group k) (sym e) ∙ f.within
      each f kind (inr (inr (inr (inr i)))) = absurd i

-- ---- a map

same_marks : (a b : Bool) → (a && not b) ≡ false → (not a && b) ≡ false → a ≡ b
same_marks true true h k = refl
same_marks true false h k = absurd (cc)
same_marks false true h k = absurd (cc)
same_marks false false h k = refl

marks_free : (a b : Bool) → a ≡ b → (a && not b) ≡ false
marks_free true true e = refl
marks_free true false e = absurd (cc)
marks_free false b e = refl

marks_full : (a b : Bool) → a ≡ b → (not a && b) ≡ false
marks_full true b e = refl
marks_full false true e = absurd (cc)
marks_full false false e = refl

module _ (image : List ℕ) (used : ℕ → Bool) (group : ℕ) where
  map_from : ((kind : FaultKind) → IsIn map_kinds kind → map_holds image group kind ≡ false)
      → ((k : ℕ) → k < 512 → IsRightPair image used group k) → IsRightMap image used group
  map_from none pairs =
      let first =
      or_parts (not (version_of (map_of image group) == 1)) (not (reserved_of (map_of image group) ==
      0)) (none BadVersion (inl refl)) in
      let low = ltb-false (used_of (map_of image group)) 144 (none MapUsedTooSmall (inr (inr (inl refl)))) in
      let high = ltb-false 144 (used_of (map_of image group)) (none MapUsedTooLarge (inr (inr (inr (inl refl))))) in
      record {
        version = eqb-true (version_of (map_of image group)) 1 (not-false (version_of (map_of image group) ==
            1) first.0);
        reserved =
            eqb-true (reserved_of (map_of image group)) 0 (not-false (reserved_of (map_of image group) == 0) first.1);
        level = eqb-true (level_of (map_of image group)) 255 (not-false (level_of (map_of image group) ==
            255) (none MapLevel (inr (inr (inr (inr (inl refl)))))));
        size = omega (arith, low, high);
        tn = leb-false (fields_of image).tn (tn_of (map_of image group)) (none TransactionTooNew (inr (inl refl)));
        pairs = pairs;
        master = same_marks (has_free (fields_of image) group) (has_free_place image group)
            (none GroupMarkedFree (inr (inr (inr (inr (inr (inl refl)))))))
            (none GroupMarkedFull (inr (inr (inr (inr (inr (inr (inl refl))))))));
      }

  from_map : IsRightMap image used group → (kind : FaultKind) → IsIn map_kinds kind → map_holds image group kind ≡ false
  from_map r kind (inl e) =
      ap (map_holds image group) (sym e)
      ∙ or_from (not (version_of (map_of image group) == 1)) (not (reserved_of (map_of image group) == 0))
      (ap (λ n. not (n == 1)) r.version) (ap (λ n. not (n == 0)) r.reserved)
  from_map r kind (inr (inl e)) = ap (map_holds image group) (sym e)
      ∙ lt-leb (fields_of image).tn (tn_of (map_of image group)) r.tn
  from_map r kind (inr (inr (inl e))) = ap (map_holds image group) (sym e) ∙ ap (λ n. nat_lt n 144) r.size
  from_map r kind (inr (inr (inr (inl e)))) = ap (map_holds image group) (sym e) ∙ ap (λ n. nat_lt 144 n) r.size
  from_map r kind (inr (inr (inr (inr (inl e))))) = ap (map_holds image group) (sym e)
      ∙ ap (λ n. not (n == 255)) r.level
  from_map r kind (inr (inr (inr (inr (inr (inl e)))))) = ap (map_holds image group) (sym e)
      ∙ marks_free (has_free (fields_of image) group) (has_free_place image group) r.master
  from_map r kind (inr (inr (inr (inr (inr (inr (inl e))))))) = ap (map_holds image group) (sym e)
      ∙ marks_full (has_free (fields_of image) group) (has_free_place image group) r.master
  from_map r kind (inr (inr (inr (inr (inr (inr (inr i))))))) = absurd i

  group_from : group_faults image used group ≡ [] → IsRightMap image used group
  group_from h =
      let parts =
      nil_parts (map (fault_of (map_number group)) (filter (map_holds image group) map_kinds))
      (flat_map (pair_faults image used group) places) h in
      map_from
      (filter_nil (map_holds image group) map_kinds
      (map_nil (fault_of (map_number group)) (filter (map_holds image group) map_kinds) parts.0))
      (λ k low. pair_from image used group k (flat_each (pair_faults image used group) 512 parts.1 k low))

  from_group : IsRightMap image used group → group_faults image used group ≡ []
  from_group r =
      (λ i. map (fault_of (map_number group)) (nil_filter (map_holds image group) map_kinds (from_map r) i)
      ++ each_flat (pair_faults image used group) 512 (λ k low. from_pair image used group k (r.pairs k low)) i)

-- ---- all maps, and the free count

pub maps_right : (image : List ℕ) (used : ℕ → Bool) → map_faults image used ≡ [] → (group : ℕ)
    → group < groups_of (fields_of image) → IsRightMap image used group
unfolding map_faults
maps_right image used h group low =
    group_from image used group (flat_each (group_faults image used) (groups_of (fields_of image)) h group low)

pub right_maps : (image : List ℕ) (used : ℕ → Bool)
    → ((group : ℕ) → group < groups_of (fields_of image) → IsRightMap image used group) → map_faults image used ≡ []
unfolding map_faults
right_maps image used h =
    each_flat (group_faults image used) (groups_of (fields_of image))
    (λ group low. from_group image used group (h group low))

pub count_right : (image : List ℕ) → count_faults image ≡ [] → (fields_of image).free ≡ free_blocks image
count_right image h = by ((fields_of image).free == free_blocks image) refl h
  where
    by : (t : Bool) → ((fields_of image).free == free_blocks image) ≡ t
        → (if t then [] else fault_of 0 WrongFreeCount ∷ []) ≡ [] → (fields_of image).free ≡ free_blocks image
    by true e k = eqb-true (fields_of image).free (free_blocks image) e
    by false e k = absurd (cc)

pub right_count : (image : List ℕ) → (fields_of image).free ≡ free_blocks image → count_faults image ≡ []
right_count image e =
    cond-true ((fields_of image).free == free_blocks image) _ _ (eq-eqb (fields_of image).free (free_blocks image) e)
