-- The order of paths, and a list of all that lead somewhere.
use Rattle.std.proofs.Common.{◌≡◌, ℕ, zero, suc, ◌+◌, ◌-◌, ◌<◌, ◌≤◌, ◌==◌, Bool, true, false, if◌then◌else◌, List, []}
use Rattle.std.proofs.Common.{◌∷◌, map, flat_map, find, take, length, Option, None, Some, option_map, option_and_then}
use Rattle.std.proofs.Common.{Less, nat_cmp, inl, inr, refl, sym, ap, subst, ◌∙◌, arith}
use Rattle.std.specs.Cmp.{IsTotalOrder}
use Rattle.std.specs.FinMap.{IsAntisymmetric, slice_cmp-IsAntisymmetric, nat_cmp-IsAntisymmetric}
use Rattle.std.proofs.lemmas.Bool.{eqb-true}
use Rattle.std.proofs.lemmas.Cmp.{lists_total, then_total, on_total, nat_cmp_total, tied_itself}
use Rattle.m_number.proofs.OrderingLemmas.{then_equal}
use Rattle.gds_header.specs.Fields.{fields_of, block_of}
use Rattle.gds_law.specs.Visit.{Visit, Child, directory_root}
use Rattle.gds_law.specs.Path.{Steps, children_at, child_at, visit_from, visit_at, step_cmp, path_cmp, front_of}
use Rattle.gds_law.proofs.MembershipLemmas.{IsIn, in_map, in_flat_map}
use Rattle.gds_law.specs.Rank.{rank}
use Rattle.gds_law.proofs.RankLemmas.{falls}

pub step_total : IsTotalOrder step_cmp
step_total = then_total (on_total (λ (p : ℕ × ℕ). p.1) nat_cmp_total) (on_total (λ (p : ℕ × ℕ). p.0) nat_cmp_total)

pub path_total : IsTotalOrder path_cmp
path_total = lists_total step_total

-- no path comes before the empty one
pub not_below_nil : (p : Steps) → path_cmp p [] ≡ Less → ⊥
not_below_nil [] h = cc
not_below_nil (s ∷ p) h = cc

step_exact : IsAntisymmetric step_cmp
step_exact a b e =
    let k = then_equal (nat_cmp a.1 b.1) (nat_cmp a.0 b.0) e in
    λ i. (nat_cmp-IsAntisymmetric a.0 b.0 k.1 i, nat_cmp-IsAntisymmetric a.1 b.1 k.0 i)

pub path_exact : IsAntisymmetric path_cmp
path_exact = slice_cmp-IsAntisymmetric step_exact

-- A path stands behind its fronts.
take_below : (n : ℕ) (path : Steps) → n < length path → path_cmp (take n path) path ≡ Less
take_below n [] h = absurd (omega arith)
take_below zero (s ∷ path) h = refl
take_below (suc n) (s ∷ path) h = rw (tied_itself step_total s) (take_below n path (omega arith))

pub front_below : (path : Steps) → 0 < length path → path_cmp (front_of path) path ≡ Less
front_below path h = take_below (length path - 1) path (omega arith)

-- the paths of fewer than n records that lead somewhere from a visit
pub paths_below : List ℕ → ℕ → Visit → List Steps
paths_below image zero v = []
paths_below image (suc n) v =
    [] ∷ flat_map (λ c. map (λ path. (v.block, c.offset) ∷ path) (paths_below image n c.visit)) (children_at image v)

pub child_lower : (image : List ℕ) (v : Visit) (c : Child) → IsIn (children_at image v) c → rank c.visit < rank v
unfolding children_at
child_lower image v c i = falls (fields_of image) v (block_of image v.block) c i

pub record LeadsOn (children : List Child) (offset : ℕ) (v : Visit) : Type 0 where
  pub child : Child
  pub there : IsIn children child
  pub at : child.offset ≡ offset
  pub leads : child.visit ≡ v

pub found : (children : List Child) (offset : ℕ) (v : Visit)
    → option_map (λ c. c.visit) (find (λ c. c.offset == offset) children) ≡ Some v → LeadsOn children offset v
found [] offset v h = absurd (cc)
found (c ∷ cs) offset v h = by (c.offset == offset) refl h (found cs offset v)
  where
    by : (t : Bool) → (c.offset == offset) ≡ t
        → option_map (λ d. d.visit) (if t then Some c else find (λ d. d.offset == offset) cs) ≡ Some v
        → (option_map (λ d. d.visit) (find (λ d. d.offset == offset) cs) ≡ Some v → LeadsOn cs offset v)
        → LeadsOn (c ∷ cs) offset v
    by true e k next = record { child = c; there = inl refl; at = eqb-true c.offset offset e; leads = cc }
    by false e k next = let l = next k in record { child = l.child; there = inr l.there; at = l.at; leads = l.leads }

pub some_if : {A : Type 0} (t : Bool) (o : Option A) (x : A) → (if t then o else None) ≡ Some x
    → (t ≡ true) × (o ≡ Some x)
some_if true o x h = (refl, h)
some_if false o x h = absurd (cc)

pub some_then : {A B : Type 0} (f : A → Option B) (o : Option A) (y : B) → option_and_then f o ≡ Some y
    → (x : A) × (o ≡ Some x) × (f x ≡ Some y)
some_then f None y h = absurd (cc)
some_then f (Some x) y h = (x, refl, h)

-- Each path that leads somewhere is among them.
pub path_listed : (image : List ℕ) (path : Steps) (n : ℕ) (v w : Visit) → rank v < n → visit_from image v path ≡ Some w
    → IsIn (paths_below image n v) path
unfolding paths_below
path_listed image path zero v w low h = absurd (omega arith)
path_listed image [] (suc n) v w low h = inl refl
path_listed image ((block, offset) ∷ steps) (suc n) v w low h =
    let here = some_if (block == v.block) _ w h in
    let on = some_then (λ u. visit_from image u steps) (child_at image v offset) w here.1 in
    let l = found (children_at image v) offset on.0 on.1 in
    let lower : rank l.child.visit < rank v = child_lower image v l.child l.there in
    let rest : IsIn (paths_below image n l.child.visit) steps =
    path_listed image steps n l.child.visit w (omega arith) (ap (λ u. visit_from image u steps) l.leads ∙ on.2) in
    let first = eqb-true block v.block here.0 in
    inr (subst (λ (s : ℕ
    × ℕ). IsIn (flat_map (λ c. map (λ path. (v.block, c.offset) ∷ path) (paths_below image n c.visit))
    (children_at image v)) (s ∷ steps))
    (λ i. (sym first i, l.at i))
    (in_flat_map (λ c. map (λ path. (v.block, c.offset) ∷ path) (paths_below image n c.visit)) (children_at image v)
    l.child ((v.block, l.child.offset) ∷ steps) l.there
    (in_map (λ path. (v.block, l.child.offset) ∷ path) (paths_below image n l.child.visit) steps rest)))

pub all_listed : (image : List ℕ) (path : Steps) (w : Visit) → visit_at image path ≡ Some w
    → IsIn (paths_below image 16 directory_root) path
all_listed image path w h = path_listed image path 16 directory_root w (omega arith) h

-- A path has no more records than the rank falls on the way, and so 15 at most.
pub path_short : (image : List ℕ) (path : Steps) (v w : Visit) → visit_from image v path ≡ Some w
    → length path + rank w ≤ rank v
path_short image [] v w h = let same : v ≡ w = cc in omega (arith, ap rank same)
path_short image ((block, offset) ∷ steps) v w h =
    let here = some_if (block == v.block) _ w h in
    let on = some_then (λ u. visit_from image u steps) (child_at image v offset) w here.1 in
    let l = found (children_at image v) offset on.0 on.1 in
    let lower : rank l.child.visit < rank v = child_lower image v l.child l.there in
    let rest : length steps + rank w ≤ rank on.0 = path_short image steps on.0 w on.2 in
    omega (arith, ap rank l.leads)

pub at_most_15 : (image : List ℕ) (path : Steps) (w : Visit) → visit_at image path ≡ Some w → length path ≤ 15
at_most_15 image path w h = omega (arith, path_short image path directory_root w h)
