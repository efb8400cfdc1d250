-- Changes of blocks compose, and leave further blocks where they are.
use Rattle.std.proofs.Common.{◌≡◌, ◌≢◌, ℕ, ◌<◌, ◌%◌, Bool, true, false, not, ◌&&◌, ◌||◌, List, [], ◌∷◌, ◌++◌}
use Rattle.std.proofs.Common.{inl, inr, refl, sym, ap, ◌∙◌, arith}
use Rattle.std.specs.Prelude.{nat_eq, IsTrue}
use Rattle.std.proofs.lemmas.Bool.{cases_Bool, cases_lt, and_right, or_right, or_cases, or_parts, both_ways}
use Rattle.std.proofs.lemmas.Bool.{false_from_ne_true}
use Rattle.gds_header.specs.declared.header.Header.{Header}
use Rattle.gds_header.specs.Fields.{fields_of}
use Rattle.gds_file.specs.Maps.{has_block, is_busy}
use Rattle.gds_file.specs.Reshape.{KeepsLimits, Reshapes}
use Rattle.gds_file.specs.ReshapeLaws.{NothingReshapes, ReshapesWithMore, ReshapesInAnyOrder}
use Rattle.gds_file.proofs.RightMapLemmas.{not_busy_past, busy_within}

-- ---- tests

or_assoc : (a b c : Bool) → (a || (b || c)) ≡ ((a || b) || c)
or_assoc true b c = refl
or_assoc false b c = refl

pub has_append : (xs ys : List ℕ) (n : ℕ) → has_block (xs ++ ys) n ≡ (has_block xs n || has_block ys n)
has_append [] ys n = refl
has_append (x ∷ xs) ys n =
    ap (λ t. nat_eq n x || t) (has_append xs ys n) ∙ or_assoc (nat_eq n x) (has_block xs n) (has_block ys n)

same_busy : (busy own : Bool) → (own ≡ true → busy ≡ true) → busy ≡ (own || (busy && not own))
same_busy true true h = refl
same_busy false true h = h refl
same_busy true false h = refl
same_busy false false h = refl

and_true : (b : Bool) → (b && true) ≡ b
and_true true = refl
and_true false = refl

-- first, second and third tell of a block whether it is among the blocks before, between and behind two changes
both_busy : (first second third before between behind : Bool) → behind ≡ (third || (between && not second))
    → between ≡ (second || (before && not first)) → (second ≡ true → first ≡ false → before ≡ false)
    → behind ≡ (third || (before && not first))
both_busy first second true before between behind h k free = h
both_busy true true false before between behind h k free =
    h ∙ and_right between false refl ∙ sym (and_right before false refl)
both_busy false true false before between behind h k free =
    h ∙ and_right between false refl ∙ sym (ap (λ t. t && true) (free refl refl))
both_busy first false false before between behind h k free = h ∙ and_true between ∙ k

past_busy : (second third between behind : Bool) → behind ≡ (third || (between && not second)) → between ≡ false
    → (first before : Bool) → before ≡ false → behind ≡ (third || (before && not first))
past_busy second third between behind h k first before free =
    h ∙ ap (λ t. third || (t && not second)) k ∙ sym (ap (λ t. third || (t && not first)) free)

more_busy : (busy was own more : Bool) → (more ≡ true → busy ≡ true) → (more ≡ true → was ≡ false)
    → (own || (busy && not was)) ≡ ((own || more) || (busy && not (was || more)))
more_busy busy was true more h k = refl
more_busy busy was false true h k = λ i. h refl i && not (k refl i)
more_busy busy true false false h k = refl
more_busy busy false false false h k = refl

-- ---- limits

limits_stay : (h : Header) → KeepsLimits h h
limits_stay h =
    record { block_size = refl; key_max = refl; value_max = refl; total = omega arith; tn = omega arith }

limits_compose : (f g h : Header) → KeepsLimits f g → KeepsLimits g h → KeepsLimits f h
limits_compose f g h first second = record {
  block_size = second.block_size ∙ first.block_size;
  key_max = second.key_max ∙ first.key_max;
  value_max = second.value_max ∙ first.value_max;
  total = omega (arith, first.total, second.total);
  tn = omega (arith, first.tn, second.tn);
}

-- ---- the laws

pub nothing_reshapes : NothingReshapes
nothing_reshapes image blocks busy = record {
  limits = limits_stay (fields_of image);
  stays = λ n no_map b out. refl;
  taken = λ n no_map there out. absurd (both_ways (has_block blocks n) out there);
  busy = λ n low no_map. same_busy (is_busy image n) (has_block blocks n) (busy n);
}

module _ (a b c first second third : List ℕ) (r : Reshapes a b first second) (s : Reshapes b c second third) where
  -- a busy block that isn't among the first is busy in between, and not among the second
  not_second : (n : ℕ) → n % 512 ≢ 0 → is_busy a n ≡ true → has_block first n ≡ false → has_block second n ≡ false
  not_second n no_map busy out =
      false_from_ne_true (has_block second n) (λ there. both_ways (is_busy a n) (r.taken n no_map there out) busy)

  between : (n : ℕ) → n % 512 ≢ 0 → is_busy a n ≡ true → has_block first n ≡ false → is_busy b n ≡ true
  between n no_map busy out =
      r.busy n (omega (arith, busy_within a n busy, r.limits.total)) no_map
      ∙ or_right (has_block second n) _ (λ i. busy i && not (out i))

  -- what isn't busy in between and isn't among the second wasn't busy, where it isn't among the first
  wasnt_busy : (n : ℕ) → n % 512 ≢ 0 → has_block first n ≡ false → is_busy b n ≡ false → is_busy a n ≡ false
  wasnt_busy n no_map out free =
      false_from_ne_true (is_busy a n) (λ busy. both_ways (is_busy b n) free (between n no_map busy out))

  pub reshapes_compose : Reshapes a c first third
  reshapes_compose = record {
    limits = limits_compose (fields_of a) (fields_of b) (fields_of c) r.limits s.limits;
    stays = λ n no_map busy out.
        s.stays n no_map (between n no_map busy out) (not_second n no_map busy out) ∙ r.stays n no_map busy out;
    taken = taken;
    busy = busy;
  }
    where
      taken : (n : ℕ) → n % 512 ≢ 0 → IsTrue (has_block third n) → has_block first n ≡ false → is_busy a n ≡ false
      taken n no_map there out = elim (cases_Bool (has_block second n)) [
        | inl h ↦ r.taken n no_map h out
        | inr h ↦ wasnt_busy n no_map out (s.taken n no_map there h)
      ]

      busy : (n : ℕ) → n < (fields_of c).total → n % 512 ≢ 0
          → is_busy c n ≡ (has_block third n || (is_busy a n && not (has_block first n)))
      busy n low no_map = elim (cases_lt n (fields_of b).total) [
        | inl inside ↦ both_busy (has_block first n) (has_block second n) (has_block third n) (is_busy a n)
            (is_busy b n) (is_busy c n) (s.busy n low no_map) (r.busy n inside no_map) (r.taken n no_map)
        | inr past ↦ past_busy (has_block second n) (has_block third n) (is_busy b n) (is_busy c n)
            (s.busy n low no_map) (not_busy_past b n past) (has_block first n) (is_busy a n)
            (not_busy_past a n (omega (arith, past, r.limits.total)))
      ]

pub reshapes_with_more : ReshapesWithMore
reshapes_with_more before after old new more r busy apart = record {
  limits = r.limits;
  stays = λ n no_map b out. r.stays n no_map b (or_parts _ _ (sym (has_append old more n) ∙ out)).0;
  taken = λ n no_map there out.
      let parts = or_parts (has_block old n) (has_block more n) (sym (has_append old more n) ∙ out) in
      elim (or_cases (has_block new n) (has_block more n) (sym (has_append new more n) ∙ there)) [
        | inl h ↦ r.taken n no_map h parts.0
        | inr h ↦ absurd (both_ways (has_block more n) parts.1 h)
      ];
  busy = λ n low no_map.
      r.busy n low no_map
      ∙ more_busy (is_busy before n) (has_block old n) (has_block new n) (has_block more n) (busy n) (apart n)
      ∙ (λ i. sym (has_append new more n) i || (is_busy before n && not (sym (has_append old more n) i)));
}

pub reshapes_in_any_order : ReshapesInAnyOrder
reshapes_in_any_order before after old new old' new' r olds news = record {
  limits = r.limits;
  stays = λ n no_map b out. r.stays n no_map b (olds n ∙ out);
  taken = λ n no_map there out. r.taken n no_map (news n ∙ there) (olds n ∙ out);
  busy = λ n low no_map. r.busy n low no_map ∙ (λ i. news n i || (is_busy before n && not (olds n i)));
}
