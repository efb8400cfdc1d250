-- Each image has one list of kept paths, one of reached paths and one of faults.
use Rattle.std.proofs.Common.{◌≡◌, ℕ, List, [], ◌∷◌, ◌++◌, Contains, Option, None, Some, inl, inr, Ordering, Less}
use Rattle.std.proofs.Common.{Equal, Greater, nat_cmp, refl, sym, ap, subst, ◌∙◌, arith}
use Rattle.std.specs.FinMap.{nat_cmp-IsAntisymmetric}
use Rattle.std.proofs.lemmas.Cmp.{nat_cmp_total}
use Rattle.gds_header.specs.declared.kind.HeaderKind.{HeaderKind}
use Rattle.gds_header.specs.Kinds.{ending_kind}
use Rattle.gds_law.specs.Visit.{Visit, directory_root}
use Rattle.gds_law.specs.declared.fault.Fault.{Fault}
use Rattle.gds_law.specs.Path.{Steps, visit_at, path_cmp, front_of, ExtendsKept, IsTakenBefore, IsKept, AreKept}
use Rattle.gds_law.specs.Path.{IsReached, AreReached}
use Rattle.gds_law.specs.Tree.{tree_faults}
use Rattle.gds_law.specs.Maps.{is_used, map_faults, count_faults}
use Rattle.gds_law.specs.Faults.{faults_of_header, AreFaultsRead, AreFaultsAfter, HasOneReading, HasOneFaultList}
use Rattle.gds_law.proofs.MembershipLemmas.{IsIn, in_from_Contains, Contains-from_in, Decided, decide_both, decide_some}
use Rattle.gds_law.proofs.RisingLemmas.{Rising-from_sorted, sorted_from_Rising, decide_same, decide_in}
use Rattle.gds_law.proofs.SettledLemmas.{IsSettled, AgreeBelow, IsLocal, one_settled, some_settled}
use Rattle.gds_law.proofs.PathLemmas.{path_total, path_exact, front_below, paths_below, all_listed}

decide_path : (a b : Steps) → Decided (a ≡ b)
decide_path a b = decide_same Steps path_cmp path_total path_exact a b

decide_contains : (paths : List Steps) (path : Steps) → Decided (Contains paths path)
decide_contains paths path = elim (decide_in Steps path_cmp path_total path_exact paths path) [
  | inl i ↦ inl (Contains-from_in paths path i)
  | inr n ↦ inr (λ c. n (in_from_Contains paths path c))
]

decide_number : (a b : ℕ) → Decided (a ≡ b)
decide_number a b = decide_same ℕ nat_cmp nat_cmp_total nat_cmp-IsAntisymmetric a b

decide_less : (o : Ordering) → Decided (o ≡ Less)
decide_less Less = inl refl
decide_less Equal = inr (λ e. cc)
decide_less Greater = inr (λ e. cc)

module _ (image : List ℕ) where
  -- whether a path goes on from a kept one
  decide_on : (kept : List Steps) (path : Steps) → Decided ((v : Visit) × ExtendsKept image kept path v)
  decide_on kept [] = inr (λ h. absurd (omega (arith, h.1.longer)))
  decide_on kept (s ∷ path) = by (visit_at image (s ∷ path)) refl (decide_contains kept (front_of (s ∷ path)))
    where
      by : (o : Option Visit) → visit_at image (s ∷ path) ≡ o → Decided (Contains kept (front_of (s ∷ path)))
          → Decided ((v : Visit) × ExtendsKept image kept (s ∷ path) v)
      by None e d = inr (λ h. absurd (cc (h.1.leads, e)))
      by (Some v) e (inl c) = inl (v, record { longer = omega arith; front = c; leads = e })
      by (Some v) e (inr n) = inr (λ h. n h.1.front)

  -- whether a path ends in a block
  decide_ends : (path : Steps) (block : ℕ) → Decided ((v : Visit) × (visit_at image path ≡ Some v) × (v.block ≡ block))
  decide_ends path block = by (visit_at image path) refl
    where
      here : (v : Visit) → visit_at image path ≡ Some v → Decided (v.block ≡ block)
          → Decided ((w : Visit) × (visit_at image path ≡ Some w) × (w.block ≡ block))
      here v e (inl same) = inl (v, e, same)
      here v e (inr n) = inr (λ h. let same : v ≡ h.0 = cc (e, h.1) in n (ap (λ (w : Visit). w.block) same ∙ h.2))

      by : (o : Option Visit) → visit_at image path ≡ o
          → Decided ((w : Visit) × (visit_at image path ≡ Some w) × (w.block ≡ block))
      by None e = inr (λ h. absurd (cc (h.1, e)))
      by (Some v) e = here v e (decide_number v.block block)

  -- whether an earlier kept path ends there
  decide_taken : (kept : List Steps) (path : Steps) (block : ℕ) → Decided (IsTakenBefore image kept path block)
  decide_taken kept path block =
      elim (decide_some Taker (λ e. decide_both _ _ (decide_less (path_cmp e path)) (decide_ends e block)) kept) [
        | inl t ↦ inl (record {
          earlier = t.0;
          kept_too = Contains-from_in kept t.0 t.1;
          before = t.2.0;
          visit = t.2.1.0;
          leads = t.2.1.1;
          same = t.2.1.2;
        })
        | inr n ↦ inr (λ t. n (
          t.earlier,
          in_from_Contains kept t.earlier t.kept_too,
          (t.before, (t.visit, t.leads, t.same)),
        ))
      ]
    where
      Taker : Steps → Type 0
      Taker e = (path_cmp e path ≡ Less) × ((v : Visit) × (visit_at image e ≡ Some v) × (v.block ≡ block))

  decide_kept : (kept : List Steps) (path : Steps) → Decided (IsKept image kept path)
  decide_kept kept path = by (decide_path path []) (decide_on kept path)
    where
      goes : (v : Visit) → ExtendsKept image kept path v → (path ≡ [] → ⊥)
          → Decided (IsTakenBefore image kept path v.block) → Decided (IsKept image kept path)
      goes v g n (inr free) = inl (inr (v, g, free))
      goes v g n (inl t) = inr (λ h. elim h [
        | inl e ↦ n e
        | inr k ↦ let same : k.0 ≡ v = cc (k.1.leads, g.leads) in
            k.2 (subst (λ (w : Visit). IsTakenBefore image kept path w.block) (sym same) t)
      ])

      by : Decided (path ≡ []) → Decided ((v : Visit) × ExtendsKept image kept path v)
          → Decided (IsKept image kept path)
      by (inl e) d = inl (inl e)
      by (inr n) (inl h) = goes h.0 h.1 n (decide_taken kept path h.0.block)
      by (inr n) (inr m) = inr (λ h. elim h [ inl e ↦ n e | inr k ↦ m (k.0, k.1) ])

  decide_reached : (kept : List Steps) (path : Steps) → Decided (IsReached image kept path)
  decide_reached kept path = by (decide_path path []) (decide_on kept path)
    where
      by : Decided (path ≡ []) → Decided ((v : Visit) × ExtendsKept image kept path v)
          → Decided (IsReached image kept path)
      by (inl e) d = inl (inl e)
      by (inr n) (inl h) = inl (inr h)
      by (inr n) (inr m) = inr (λ h. elim h [ inl e ↦ n e | inr k ↦ m k ])

  -- The rule asks of the list no more than which earlier paths it has.
  on_local : (xs ys : List Steps) (path : Steps) (v : Visit) → AgreeBelow path_cmp xs ys path
      → ExtendsKept image xs path v → ExtendsKept image ys path v
  on_local xs ys path v a g = record {
    longer = g.longer;
    front = Contains-from_in ys (front_of path)
        (a.there (front_of path) (front_below path g.longer) (in_from_Contains xs (front_of path) g.front));
    leads = g.leads;
  }

  taken_local : (xs ys : List Steps) (path : Steps) (block : ℕ) → AgreeBelow path_cmp xs ys path
      → IsTakenBefore image ys path block → IsTakenBefore image xs path block
  taken_local xs ys path block a t = record {
    earlier = t.earlier;
    kept_too = Contains-from_in xs t.earlier (a.back t.earlier t.before (in_from_Contains ys t.earlier t.kept_too));
    before = t.before;
    visit = t.visit;
    leads = t.leads;
    same = t.same;
  }

  kept_local : IsLocal path_cmp (IsKept image)
  kept_local xs ys path a (inl e) = inl e
  kept_local xs ys path a (inr k) =
      inr (k.0, on_local xs ys path k.0 a k.1, λ t. k.2 (taken_local xs ys path k.0.block a t))

  -- It allows no paths but those that lead somewhere.
  reached_listed : (kept : List Steps) (path : Steps) → IsReached image kept path
      → IsIn (paths_below image 16 directory_root) path
  reached_listed kept path (inl e) = all_listed image path directory_root (ap (visit_at image) e)
  reached_listed kept path (inr k) = all_listed image path k.0 k.1.leads

  kept_listed : (kept : List Steps) (path : Steps) → IsKept image kept path
      → IsIn (paths_below image 16 directory_root) path
  kept_listed kept path (inl e) = reached_listed kept path (inl e)
  kept_listed kept path (inr k) = reached_listed kept path (inr (k.0, k.1))

  -- between the lists of an image and settled ones
  settled_from_kept : (kept : List Steps) → AreKept image kept → IsSettled path_cmp (IsKept image) kept
  settled_from_kept kept a = record {
    rising = Rising-from_sorted path_cmp kept a.in_order;
    allowed = λ path i. (a.exactly path).0 (Contains-from_in kept path i);
    whole = λ path h. in_from_Contains kept path ((a.exactly path).1 h);
  }

  kept_from_settled : (kept : List Steps) → IsSettled path_cmp (IsKept image) kept → AreKept image kept
  kept_from_settled kept s = record {
    in_order = sorted_from_Rising path_cmp kept s.rising;
    exactly = λ path. (
      (λ c. s.allowed path (in_from_Contains kept path c)),
      (λ h. Contains-from_in kept path (s.whole path h)),
    );
  }

  reached_rule : List Steps → List Steps → Steps → Type 0
  reached_rule kept reached path = IsReached image kept path

  settled_from_reached : (kept reached : List Steps) → AreReached image kept reached
      → IsSettled path_cmp (reached_rule kept) reached
  unfolding reached_rule
  settled_from_reached kept reached a = record {
    rising = Rising-from_sorted path_cmp reached a.in_order;
    allowed = λ path i. (a.exactly path).0 (Contains-from_in reached path i);
    whole = λ path h. in_from_Contains reached path ((a.exactly path).1 h);
  }

  reached_from_settled : (kept reached : List Steps) → IsSettled path_cmp (reached_rule kept) reached
      → AreReached image kept reached
  unfolding reached_rule
  reached_from_settled kept reached s = record {
    in_order = sorted_from_Rising path_cmp reached s.rising;
    exactly = λ path. (
      (λ c. s.allowed path (in_from_Contains reached path c)),
      (λ h. Contains-from_in reached path (s.whole path h)),
    );
  }

  reached_local : (kept : List Steps) → IsLocal path_cmp (reached_rule kept)
  unfolding reached_rule
  reached_local kept xs ys path a h = h

  decide_rule : (kept xs : List Steps) (path : Steps) → Decided (reached_rule kept xs path)
  unfolding reached_rule
  decide_rule kept xs path = decide_reached kept path

  rule_listed : (kept xs : List Steps) (path : Steps) → reached_rule kept xs path
      → IsIn (paths_below image 16 directory_root) path
  unfolding reached_rule
  rule_listed kept xs path h = reached_listed kept path h

  -- There is one list of each kind, and no other.
  pub some_kept : (kept : List Steps) × AreKept image kept
  some_kept =
      let s = some_settled Steps path_cmp path_total path_exact (IsKept image) kept_local decide_kept
      (paths_below image 16 directory_root) kept_listed in
      (s.0, kept_from_settled s.0 s.1)

  pub same_kept : (a b : List Steps) → AreKept image a → AreKept image b → a ≡ b
  same_kept a b h k =
      one_settled Steps path_cmp path_total path_exact (IsKept image) kept_local a b (settled_from_kept a h)
      (settled_from_kept b k)

  pub some_reached : (kept : List Steps) → (reached : List Steps) × AreReached image kept reached
  some_reached kept =
      let s = some_settled Steps path_cmp path_total path_exact (reached_rule kept) (reached_local kept)
      (decide_rule kept) (paths_below image 16 directory_root) (rule_listed kept) in
      (s.0, reached_from_settled kept s.0 s.1)

  pub same_reached : (kept a b : List Steps) → AreReached image kept a → AreReached image kept b → a ≡ b
  same_reached kept a b h k =
      one_settled Steps path_cmp path_total path_exact (reached_rule kept) (reached_local kept) a b
      (settled_from_reached kept a h) (settled_from_reached kept b k)

  -- and so of faults
  some_read : (faults : List Fault) × AreFaultsRead image faults
  some_read =
      let k = some_kept in
      let r = some_reached k.0 in (
        faults_of_header image ++ tree_faults image k.0 r.0 ++ map_faults image (is_used image k.0)
            ++ count_faults image,
        record {
          kept = k.0;
          reached = r.0;
          are_kept = k.1;
          are_reached = r.1;
          whole = refl;
        },
      )

  same_read : (a b : List Fault) → AreFaultsRead image a → AreFaultsRead image b → a ≡ b
  same_read a b h k =
      let e = same_kept h.kept k.kept h.are_kept k.are_kept in
      let r = same_reached k.kept h.reached k.reached (subst (λ kept. AreReached image kept h.reached) e h.are_reached)
      k.are_reached in
      h.whole
      ∙ (λ i. faults_of_header image ++ tree_faults image (e i) (r i) ++ map_faults image (is_used image (e i))
      ++ count_faults image)
      ∙ sym k.whole

  some_after : (o : Option HeaderKind) → (faults : List Fault) × AreFaultsAfter o image faults
  some_after (Some kind) = (faults_of_header image, refl)
  some_after None = some_read

  same_after : (o : Option HeaderKind) (a b : List Fault) → AreFaultsAfter o image a → AreFaultsAfter o image b → a ≡ b
  same_after (Some kind) a b h k = h ∙ sym k
  same_after None a b h k = same_read a b h k

-- the two laws
pub one_reading : (image : List ℕ) → HasOneReading image
one_reading image = (some_kept image, same_kept image)

pub one_fault_list : (image : List ℕ) → HasOneFaultList image
one_fault_list image = (some_after image (ending_kind image), same_after image (ending_kind image))
