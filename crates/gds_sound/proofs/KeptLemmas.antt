-- Where no two paths end in one block: all paths that lead somewhere are kept, and there are no faults in the trees
-- where
-- nothing is wrong with their blocks; and back.
use Rattle.std.proofs.Common.{◌≡◌, ℕ, zero, suc, ◌-◌, ◌<◌, ◌≤◌, ◌%◌, ◌==◌, Bool, true, false, ◌&&◌, ◌||◌, List, [], ◌∷◌}
use Rattle.std.proofs.Common.{length, take, drop, map, flat_map, Contains, Some, option_and_then, Ordering, Less, Equal}
use Rattle.std.proofs.Common.{Greater, inl, inr, refl, sym, ap, subst, ◌∙◌, arith}
use Rattle.std.specs.Prelude.{nat_eq}
use Rattle.std.specs.List.{list_any}
use Rattle.std.specs.Option.{option_map_or}
use Rattle.std.proofs.lemmas.Bool.{cases_Bool, eqb-true, eq-eqb, and_parts, and_from, or_cases, or_left, or_right}
use Rattle.std.proofs.lemmas.Bool.{cond-true, cond-false}
use Rattle.std.proofs.lemmas.List.{length-take-le, length-drop}
use Rattle.gds_header.specs.Fields.{fields_of, block_of}
use Rattle.gds_law.specs.Visit.{Visit, directory_root}
use Rattle.gds_law.specs.Block.{fault_at, faults_of_block}
use Rattle.gds_law.specs.Path.{Steps, child_at, visit_from, visit_at, path_cmp, front_of, ExtendsKept, AreKept}
use Rattle.gds_law.specs.Path.{IsReached, AreReached}
use Rattle.gds_law.specs.Tree.{same_steps, is_among, double_faults, faults_at, ends_in, is_reached}
use Rattle.gds_law.specs.Maps.{is_used}
use Rattle.gds_sound.specs.Sound.{is_in_use}
use Rattle.gds_law.proofs.MembershipLemmas.{IsIn, in_from_Contains, Contains-from_in}
use Rattle.gds_law.proofs.RisingLemmas.{not_below_itself, below_from_above}
use Rattle.gds_law.proofs.PathLemmas.{path_total, path_exact, not_below_nil, some_if, some_then}
use Rattle.gds_sound.proofs.BlockLemmas.{nil_parts, map_nil, reading_at, kinds_at}
use Rattle.gds_sound.proofs.CountLemmas.{count, all_blocks}
use Rattle.gds_sound.proofs.PathLemmas.{EndsApart, counted_ends, end_counted, counted_any, any_counted}

-- ---- tests of some element

pub any_in : {A : Type 0} (test : A → Bool) (xs : List A) → list_any test xs ≡ true
    → (x : A) × IsIn xs x × (test x ≡ true)
any_in test [] h = absurd (cc)
any_in {A} test (x ∷ xs) h =
    elim (or_cases (test x) (list_any test xs) h) [
      | inl e ↦ (x, inl refl, e)
      | inr e ↦ let r = any_in test xs e in (r.0, inr r.1, r.2)
    ]

pub in_any : {A : Type 0} (test : A → Bool) (xs : List A) (x : A) → IsIn xs x → test x ≡ true → list_any test xs ≡ true
in_any test [] x i e = absurd i
in_any test (y ∷ ys) x (inl same) e = or_left (test y) (list_any test ys) (ap test same ∙ e)
in_any test (y ∷ ys) x (inr i) e = or_right (test y) (list_any test ys) (in_any test ys x i e)

pub same_tests : (a b : Bool) → (a ≡ true → b ≡ true) → (b ≡ true → a ≡ true) → a ≡ b
same_tests true b h k = sym (h refl)
same_tests false true h k = k refl
same_tests false false h k = refl

pub flat_nil : {A B : Type 0} (f : A → List B) (xs : List A) → flat_map f xs ≡ [] → (x : A) → IsIn xs x → f x ≡ []
flat_nil f [] h x i = absurd i
flat_nil f (y ∷ ys) h x (inl e) = ap f (sym e) ∙ (nil_parts (f y) (flat_map f ys) h).0
flat_nil f (y ∷ ys) h x (inr i) = flat_nil f ys (nil_parts (f y) (flat_map f ys) h).1 x i

pub nil_flat : {A B : Type 0} (f : A → List B) (xs : List A) → ((x : A) → IsIn xs x → f x ≡ []) → flat_map f xs ≡ []
nil_flat f [] h = refl
nil_flat f (y ∷ ys) h = rw (h y (inl refl)) (nil_flat f ys (λ x i. h x (inr i)))

-- ---- which paths are kept

front_leads : (image : List ℕ) (k : ℕ) (path : Steps) (v w : Visit) → visit_from image v path ≡ Some w
    → (u : Visit) × (visit_from image v (take k path) ≡ Some u)
front_leads image zero path v w h = (v, refl)
front_leads image (suc k) [] v w h = (v, refl)
front_leads image (suc k) ((block, offset) ∷ steps) v w h =
    let here = some_if (block == v.block) _ w h in
    let on = some_then (λ u. visit_from image u steps) (child_at image v offset) w here.1 in
    let rest = front_leads image k steps on.0 w on.2 in (
      rest.0,
      cond-true (block == v.block) _ _ here.0 ∙ ap (option_and_then (λ u. visit_from image u (take k steps))) on.1
          ∙ rest.1,
    )

-- all that lead somewhere, if each is that goes on from a kept one
abbrev pub AllKept : List ℕ → List Steps → Type 0
AllKept image kept = (path : Steps) (w : Visit) → visit_at image path ≡ Some w → Contains kept path

kept_below : (image : List ℕ) (kept : List Steps) → Contains kept []
    → ((path : Steps) (v : Visit) → ExtendsKept image kept path v → Contains kept path)
    → (n : ℕ) (path : Steps) (w : Visit) → length path < n → visit_at image path ≡ Some w → Contains kept path
kept_below image kept root on zero path w low h = absurd (omega arith)
kept_below image kept root on (suc n) [] w low h = root
kept_below image kept root on (suc n) (s ∷ path) w low h =
    let front = front_leads image (length (s ∷ path) - 1) (s ∷ path) directory_root w h in
    let short : length (front_of (s ∷ path)) < n =
    omega (arith, low, length-take-le (length (s ∷ path) - 1) (s ∷ path) (omega arith)) in
    on (s ∷ path) w (record {
      longer = omega arith;
      front = kept_below image kept root on n (front_of (s ∷ path)) front.0 short front.1;
      leads = h;
    })

all_kept : (image : List ℕ) (kept : List Steps) → AreKept image kept
    → ((path : Steps) (v : Visit) → ExtendsKept image kept path v → Contains kept path) → AllKept image kept
all_kept image kept a on path w h =
    kept_below image kept ((a.exactly []).1 (inl refl)) on (suc (length path)) path w (omega arith) h

-- so all are, if no two of them end in one block
pub kept_from_apart : (image : List ℕ) (kept : List Steps) → AreKept image kept → EndsApart image directory_root
    → AllKept image kept
kept_from_apart image kept a h = all_kept image kept a (λ path v g. (a.exactly path).1 (inr (
  v,
  g,
  λ t.
      let same = h t.earlier path t.visit v t.leads g.leads t.same in
      not_below_itself Steps path_cmp path_total path_exact path (subst (λ p. path_cmp p path ≡ Less) same t.before),
)))

-- and all are, if those that are reached are
pub kept_from_reached : (image : List ℕ) (kept reached : List Steps) → AreKept image kept
    → AreReached image kept reached
    → ((path : Steps) → IsIn reached path → 0 < length path → Contains kept path) → AllKept image kept
kept_from_reached image kept reached a r h =
    all_kept image kept a (λ path v g. h path (in_from_Contains reached path ((r.exactly path).1 (inr (v, g))))
    g.longer)

-- and then no two of them end in one block
not_twice : (image : List ℕ) (kept : List Steps) → AreKept image kept → (p q : Steps) (u w : Visit) → Contains kept p
    → Contains kept q
    → visit_at image p ≡ Some u → visit_at image q ≡ Some w → u.block ≡ w.block → path_cmp p q ≡ Less → ⊥
not_twice image kept a p q u w cp cq hp hq e less =
    elim ((a.exactly q).0 cq) [
      | inl nil ↦ not_below_nil p (subst (λ x. path_cmp p x ≡ Less) nil less)
      | inr k ↦
          let same : w ≡ k.0 = cc (hq, k.1.leads) in
          k.2 (record {
            earlier = p;
            kept_too = cp;
            before = less;
            visit = u;
            leads = hp;
            same = e
                ∙ ap (λ (z : Visit). z.block) same;
          })
    ]

pub apart_from_kept : (image : List ℕ) (kept : List Steps) → AreKept image kept → AllKept image kept
    → EndsApart image directory_root
apart_from_kept image kept a all p q u w hp hq e = by (path_cmp p q) refl
  where
    by : (o : Ordering) → path_cmp p q ≡ o → p ≡ q
    by Less h = absurd (not_twice image kept a p q u w (all p u hp) (all q w hq) hp hq e h)
    by Equal h = path_exact p q h
    by Greater h =
        absurd (not_twice image kept a q p w u (all q w hq) (all p u hp) hq hp (sym e)
        (below_from_above Steps path_cmp path_total path_exact p q h))

pub kept_leads : (image : List ℕ) (kept : List Steps) (path : Steps) → AreKept image kept → Contains kept path
    → (v : Visit) × (visit_at image path ≡ Some v)
kept_leads image kept path a c =
    elim ((a.exactly path).0 c) [
      | inl nil ↦ (directory_root, ap (visit_at image) nil)
      | inr k ↦ (k.0, k.1.leads)
    ]

pub reached_leads : (image : List ℕ) (kept : List Steps) (path : Steps) → IsReached image kept path
    → (v : Visit) × (visit_at image path ≡ Some v)
reached_leads image kept path (inl nil) = (directory_root, ap (visit_at image) nil)
reached_leads image kept path (inr k) = (k.0, k.1.leads)

-- ---- the faults of the trees

same_itself : (path : Steps) → same_steps path path ≡ true
same_itself [] = refl
same_itself (s ∷ path) =
    and_from ((s.0 == s.0)
    && (s.1 == s.1)) (same_steps path path) (and_from (s.0 == s.0) (s.1 ==
    s.1) (eq-eqb s.0 s.0 refl) (eq-eqb s.1 s.1 refl)) (same_itself path)

same_from : (p q : Steps) → same_steps p q ≡ true → p ≡ q
same_from [] [] h = refl
same_from [] (t ∷ q) h = absurd (cc)
same_from (s ∷ p) [] h = absurd (cc)
same_from (s ∷ p) (t ∷ q) h =
    let k = and_parts ((s.0 == t.0) && (s.1 == t.1)) (same_steps p q) h in
    let l = and_parts (s.0 == t.0) (s.1 == t.1) k.0 in
    let a = eqb-true s.0 t.0 l.0 in
    let b = eqb-true s.1 t.1 l.1 in
    let rest = same_from p q k.1 in
    λ i. (a i, b i) ∷ rest i

pub among_from : (paths : List Steps) (path : Steps) → Contains paths path → is_among paths path ≡ true
among_from paths path c = in_any (same_steps path) paths path (in_from_Contains paths path c) (same_itself path)

pub from_among : (paths : List Steps) (path : Steps) → is_among paths path ≡ true → Contains paths path
from_among paths path h =
    let r = any_in (same_steps path) paths h in
    Contains-from_in paths path (subst (IsIn paths) (sym (same_from path r.0 r.2)) r.1)

pub at_kept : (image : List ℕ) (kept : List Steps) (path : Steps) (v : Visit) → Contains kept path
    → visit_at image path ≡ Some v
    → faults_at image kept path ≡ map (fault_at (reading_at image v) path) (kinds_at image v)
at_kept image kept path v c h =
    cond-true (is_among kept path) _ _ (among_from kept path c)
    ∙ ap (λ o. option_map_or (λ (u : Visit). faults_of_block (fields_of image) path u (block_of image u.block)) o []) h

pub none_at : (image : List ℕ) (kept : List Steps) (path : Steps) (v : Visit) → Contains kept path
    → visit_at image path ≡ Some v → kinds_at image v ≡ [] → faults_at image kept path ≡ []
none_at image kept path v c h e = at_kept image kept path v c h ∙ ap (map (fault_at (reading_at image v) path)) e

pub clean_at : (image : List ℕ) (kept : List Steps) (path : Steps) (v : Visit) → Contains kept path
    → visit_at image path ≡ Some v → faults_at image kept path ≡ [] → kinds_at image v ≡ []
clean_at image kept path v c h e =
    map_nil (fault_at (reading_at image v) path) (kinds_at image v) (sym (at_kept image kept path v c h) ∙ e)

no_double : (image : List ℕ) (path : Steps) (last : Steps) → double_faults image path last ≡ [] → last ≡ []
no_double image path [] h = refl
no_double image path (s ∷ last) h = absurd (cc)

pub kept_at : (image : List ℕ) (kept : List Steps) (path : Steps) → 0 < length path → faults_at image kept path ≡ []
    → Contains kept path
kept_at image kept path low h =
    elim (cases_Bool (is_among kept path)) [
      | inl e ↦ from_among kept path e
      | inr e ↦
          let none =
          no_double image path (drop (length path - 1) path) (sym (cond-false (is_among kept path) _ _ e) ∙ h) in
          absurd (omega (arith, low, ap length none, length-drop (length path - 1) path))
    ]

-- ---- the blocks in use

is_reached_same : (image : List ℕ) (kept : List Steps) (blocks : List ℕ) → AreKept image kept → AllKept image kept
    → ((x : ℕ) → count x (all_blocks image 16 directory_root) ≡ count x blocks)
    → (x : ℕ) → is_reached image kept x ≡ list_any (nat_eq x) blocks
is_reached_same image kept blocks a all same x =
    same_tests (is_reached image kept x) (list_any (nat_eq x) blocks) to from
  where
    at_end : (path : Steps) (v : Visit) → visit_at image path ≡ Some v → ends_in image x path ≡ (v.block == x)
    at_end path v e = ap (λ o. option_map_or (λ (u : Visit). u.block == x) o false) e

    to : is_reached image kept x ≡ true → list_any (nat_eq x) blocks ≡ true
    to h =
        let r = any_in (ends_in image x) kept h in
        let l = kept_leads image kept r.0 a (Contains-from_in kept r.0 r.1) in
        let e : l.0.block ≡ x = eqb-true l.0.block x (sym (at_end r.0 l.0 l.1) ∙ r.2) in
        let c : 1 ≤ count l.0.block (all_blocks image 16 directory_root) =
        end_counted image r.0 16 directory_root l.0 (omega arith) l.1 in
        let d : 1 ≤ count x (all_blocks image 16 directory_root) =
        subst (λ y. 1 ≤ count y (all_blocks image 16 directory_root)) e c in
        counted_any x blocks (omega (arith, d, same x))

    from : list_any (nat_eq x) blocks ≡ true → is_reached image kept x ≡ true
    from h =
        let c : 1 ≤ count x (all_blocks image 16 directory_root) = omega (arith, any_counted x blocks h, same x) in
        let k = counted_ends image 16 directory_root x c in
        in_any (ends_in image x) kept k.path (in_from_Contains kept k.path (all k.path k.visit k.leads))
        (at_end k.path k.visit k.leads ∙ eq-eqb k.visit.block x k.same)

pub same_use : (image : List ℕ) (kept : List Steps) (blocks : List ℕ) → AreKept image kept → AllKept image kept
    → ((x : ℕ) → count x (all_blocks image 16 directory_root) ≡ count x blocks)
    → is_used image kept ≡ is_in_use blocks
same_use image kept blocks a all same = λ i x. (x % 512 == 0) || is_reached_same image kept blocks a all same x i
