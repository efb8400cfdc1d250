-- The paths that lead on from a visit, and the blocks in which they end: no two paths end in one block exactly where
-- none is
-- counted twice.
use Rattle.std.proofs.Common.{◌≡◌, ℕ, zero, suc, ◌+◌, ◌<◌, ◌≤◌, ◌==◌, true, false, List, [], ◌∷◌, flat_map, Some}
use Rattle.std.proofs.Common.{option_and_then, inl, inr, refl, sym, ap, subst, ◌∙◌, arith}
use Rattle.std.specs.Prelude.{nat_eq}
use Rattle.std.specs.List.{IsDistinct, AllByRecursion, list_any}
use Rattle.std.proofs.lemmas.Bool.{cases_eq, cases_lt, eqb-true, eqb-false, eq-eqb, ne_eqb, cond-true, cond-false}
use Rattle.std.proofs.lemmas.Bool.{or_cases, or_left, or_right}
use Rattle.gds_law.specs.Visit.{Visit, Child}
use Rattle.gds_law.specs.Path.{Steps, children_at, child_at, visit_from}
use Rattle.gds_law.proofs.MembershipLemmas.{IsIn}
use Rattle.gds_law.specs.Rank.{rank}
use Rattle.gds_sound.proofs.BlockLemmas.{RisingFrom, children_apart, child_found, above}
use Rattle.gds_law.proofs.PathLemmas.{child_lower}
use Rattle.gds_sound.proofs.TreeLemmas.{LeadsThrough, leads_through}
use Rattle.gds_sound.proofs.CountLemmas.{count, count_append, all_blocks}

-- ---- what is counted

pub counted_here : (x y : ℕ) (xs : List ℕ) → x ≡ y → count x (y ∷ xs) ≡ 1 + count x xs
counted_here x y xs e = ap (λ n. n + count x xs) (cond-true (y == x) 1 0 (eq-eqb y x (sym e)))

pub counted_later : (x y : ℕ) (xs : List ℕ) → (x ≡ y → ⊥) → count x (y ∷ xs) ≡ count x xs
counted_later x y xs n = ap (λ k. k + count x xs) (cond-false (y == x) 1 0 (ne_eqb y x (λ e. n (sym e)))) ∙ omega arith

pub counted_any : (x : ℕ) (xs : List ℕ) → 1 ≤ count x xs → list_any (nat_eq x) xs ≡ true
counted_any x [] h = absurd (omega arith)
counted_any x (y ∷ ys) h =
    elim (cases_eq x y) [
      | inl e ↦ or_left (nat_eq x y) _ (eq-eqb x y e)
      | inr n ↦ or_right (nat_eq x y) (list_any (nat_eq x) ys)
          (counted_any x ys (omega (arith, h, counted_later x y ys n)))
    ]

pub any_counted : (x : ℕ) (xs : List ℕ) → list_any (nat_eq x) xs ≡ true → 1 ≤ count x xs
any_counted x [] h = absurd (cc)
any_counted x (y ∷ ys) h =
    elim (or_cases (nat_eq x y) (list_any (nat_eq x) ys) h) [
      | inl e ↦ omega (arith, counted_here x y ys (eqb-true x y e))
      | inr e ↦ omega (arith, any_counted x ys e)
    ]

-- of distinct numbers
apart : (x : ℕ) (xs : List ℕ) → AllByRecursion (λ y. nat_eq x y ≡ false) xs → count x xs ≡ 0
apart x [] h = refl
apart x (y ∷ ys) h = counted_later x y ys (eqb-false x y h.0) ∙ apart x ys h.1

pub counts_from_distinct : (xs : List ℕ) → IsDistinct nat_eq xs → (x : ℕ) → count x xs ≤ 1
unfolding IsDistinct
counts_from_distinct [] h x = omega arith
counts_from_distinct (y ∷ ys) h x =
    elim (cases_eq x y) [
      | inl e ↦ omega (arith, counted_here x y ys e, ap (λ z. count z ys) e, apart y ys h.0)
      | inr n ↦ omega (arith, counted_later x y ys n, counts_from_distinct ys h.1 x)
    ]

all_apart : (x : ℕ) (xs : List ℕ) → count x xs ≡ 0 → AllByRecursion (λ y. nat_eq x y ≡ false) xs
all_apart x [] h = tt
all_apart x (y ∷ ys) h =
    elim (cases_eq x y) [
      | inl e ↦ absurd (omega (arith, h, counted_here x y ys e))
      | inr n ↦ (ne_eqb x y n, all_apart x ys (omega (arith, h, counted_later x y ys n)))
    ]

pub distinct_from_counts : (xs : List ℕ) → ((x : ℕ) → count x xs ≤ 1) → IsDistinct nat_eq xs
unfolding IsDistinct
distinct_from_counts [] h = tt
distinct_from_counts (y ∷ ys) h = (
  all_apart y ys (omega (arith, h y, counted_here y y ys refl)),
  distinct_from_counts ys (λ x. omega (arith, h x)),
)

-- in what a function makes of each element
module _ {A : Type 0} (x : ℕ) (f : A → List ℕ) where
  counted_in : (as_ : List A) (a : A) → IsIn as_ a → count x (f a) ≤ count x (flat_map f as_)
  counted_in [] a i = absurd i
  counted_in (b ∷ bs) a (inl e) = omega (arith, ap (λ c. count x (f c)) e, count_append x (f b) (flat_map f bs))
  counted_in (b ∷ bs) a (inr i) = omega (arith, counted_in bs a i, count_append x (f b) (flat_map f bs))

  counted_twice : (as_ : List A) (a b : A) → IsIn as_ a → IsIn as_ b → (a ≡ b → ⊥) → 1 ≤ count x (f a)
      → 1 ≤ count x (f b) → 2 ≤ count x (flat_map f as_)
  counted_twice [] a b i j n h k = absurd i
  counted_twice (c ∷ cs) a b (inl e) (inl d) n h k = absurd (n (sym e ∙ d))
  counted_twice (c ∷ cs) a b (inl e) (inr j) n h k =
      omega (arith, h, k, ap (λ d. count x (f d)) e, counted_in cs b j, count_append x (f c) (flat_map f cs))
  counted_twice (c ∷ cs) a b (inr i) (inl e) n h k =
      omega (arith, h, k, ap (λ d. count x (f d)) e, counted_in cs a i, count_append x (f c) (flat_map f cs))
  counted_twice (c ∷ cs) a b (inr i) (inr j) n h k =
      omega (arith, counted_twice cs a b i j n h k, count_append x (f c) (flat_map f cs))

  counted_from : (as_ : List A) → 1 ≤ count x (flat_map f as_) → (a : A) × IsIn as_ a × (1 ≤ count x (f a))
  counted_from [] h = absurd (omega arith)
  counted_from (b ∷ bs) h = by (count x (f b)) refl (counted_from bs)
    where
      by : (n : ℕ) → count x (f b) ≡ n → (1 ≤ count x (flat_map f bs) → (a : A) × IsIn bs a × (1 ≤ count x (f a)))
          → (a : A) × IsIn (b ∷ bs) a × (1 ≤ count x (f a))
      by zero e next = let r = next (omega (arith, h, e, count_append x (f b) (flat_map f bs))) in (r.0, inr r.1, r.2)
      by (suc n) e next = (b, inl refl, omega (arith, e))

-- ---- paths

-- a path that goes on from a child
pub step_leads : (image : List ℕ) (v : Visit) (c : Child) (steps : Steps) (w : Visit) → IsIn (children_at image v) c
    → visit_from image c.visit steps ≡ Some w
    → visit_from image v ((v.block, c.offset) ∷ steps) ≡ Some w
step_leads image v c steps w i h =
    cond-true (v.block == v.block) _ _ (eq-eqb v.block v.block refl)
    ∙ ap (option_and_then (λ u. visit_from image u steps)) (child_found image v c i) ∙ h

-- the block at its end is counted
pub end_counted : (image : List ℕ) (path : Steps) (n : ℕ) (v w : Visit) → rank v < n → visit_from image v path ≡ Some w
    → 1 ≤ count w.block (all_blocks image n v)
unfolding all_blocks
end_counted image path zero v w low h = absurd (omega arith)
end_counted image [] (suc n) v w low h =
    let same : v ≡ w = cc in
    omega (
      arith,
      counted_here w.block v.block (flat_map (λ c. all_blocks image n c.visit) (children_at image v))
          (ap (λ (u : Visit). u.block) (sym same)),
    )
end_counted image ((block, offset) ∷ steps) (suc n) v w low h =
    let l = leads_through image v block offset steps w h in
    let lower = child_lower image v l.child l.there in
    let rest = end_counted image steps n l.child.visit w (omega (arith, low, lower)) l.rest in
    omega (
      arith,
      rest,
      counted_in w.block (λ (c : Child). all_blocks image n c.visit) (children_at image v) l.child l.there,
    )

-- and a block that is counted is at the end of one
pub record EndsIn (image : List ℕ) (v : Visit) (block : ℕ) : Type 0 where
  pub path : Steps
  pub visit : Visit
  pub leads : visit_from image v path ≡ Some visit
  pub same : visit.block ≡ block

pub counted_ends : (image : List ℕ) (n : ℕ) (v : Visit) (x : ℕ) → 1 ≤ count x (all_blocks image n v) → EndsIn image v x
unfolding all_blocks
counted_ends image zero v x h = absurd (omega arith)
counted_ends image (suc n) v x h =
    elim (cases_eq x v.block) [
      | inl e ↦ record { path = []; visit = v; leads = refl; same = sym e }
      | inr m ↦
          let below = flat_map (λ (c : Child). all_blocks image n c.visit) (children_at image v) in
          let r = counted_from x (λ (c : Child). all_blocks image n c.visit) (children_at image v) (omega (
            arith,
            h,
            counted_later x v.block below m,
          )) in
          let e = counted_ends image n r.0.visit x r.2 in
          record {
            path = (v.block, r.0.offset) ∷ e.path;
            visit = e.visit;
            leads =
                step_leads image v r.0 e.path e.visit r.1 e.leads;
            same = e.same;
          }
    ]

-- No two paths end in one block.
abbrev pub EndsApart : List ℕ → Visit → Type 0
EndsApart image v = (p q : Steps) (u w : Visit) → visit_from image v p ≡ Some u → visit_from image v q ≡ Some w
    → u.block ≡ w.block → p ≡ q

deeper : (image : List ℕ) (n : ℕ) (v w : Visit) (block offset : ℕ) (steps : Steps) → rank v < suc n
    → visit_from image v ((block, offset) ∷ steps) ≡ Some w
    → 1 ≤ count w.block (flat_map (λ c. all_blocks image n c.visit) (children_at image v))
deeper image n v w block offset steps low h =
    let l = leads_through image v block offset steps w h in
    let rest =
    end_counted image steps n l.child.visit w (omega (arith, low, child_lower image v l.child l.there)) l.rest in
    omega (
      arith,
      rest,
      counted_in w.block (λ (c : Child). all_blocks image n c.visit) (children_at image v) l.child l.there,
    )

pub apart_from_counts : (image : List ℕ) (n : ℕ) (v : Visit) → rank v < n
    → ((x : ℕ) → count x (all_blocks image n v) ≤ 1) → EndsApart image v
unfolding all_blocks
apart_from_counts image zero v low h p q u w a b e = absurd (omega arith)
apart_from_counts image (suc n) v low h [] [] u w a b e = refl
apart_from_counts image (suc n) v low h [] ((block, offset) ∷ steps) u w a b e =
    let same : v ≡ u = cc in
    let x : w.block ≡ v.block = sym e ∙ ap (λ (z : Visit). z.block) (sym same) in
    absurd (omega (
      arith,
      h w.block,
      counted_here w.block v.block (flat_map (λ c. all_blocks image n c.visit) (children_at image v)) x,
      deeper image n v w block offset steps low b,
    ))
apart_from_counts image (suc n) v low h ((block, offset) ∷ steps) [] u w a b e =
    let same : v ≡ w = cc in
    let x : u.block ≡ v.block = e ∙ ap (λ (z : Visit). z.block) (sym same) in
    absurd (omega (
      arith,
      h u.block,
      counted_here u.block v.block (flat_map (λ c. all_blocks image n c.visit) (children_at image v)) x,
      deeper image n v u block offset steps low a,
    ))
apart_from_counts image (suc n) v low h ((block, offset) ∷ steps) ((block', offset') ∷ steps') u w a b e =
    by (leads_through image v block offset steps u a) (leads_through image v block' offset' steps' w b)
    (apart_from_counts image n)
  where
    by : (k : LeadsThrough image v block offset steps u) (l : LeadsThrough image v block' offset' steps' w)
        → ((z : Visit) → rank z < n → ((x : ℕ) → count x (all_blocks image n z) ≤ 1) → EndsApart image z)
        → (block, offset) ∷ steps ≡ (block', offset') ∷ steps'
    by k l next =
        elim (cases_eq offset offset') [
          | inl o ↦
              let at : k.child.offset ≡ l.child.offset = k.at ∙ o ∙ sym l.at in
              let child : k.child.visit ≡ l.child.visit =
              cc (
                child_found image v k.child k.there,
                ap (child_at image v) at,
                child_found image v l.child l.there,
              ) in
              let lower = child_lower image v k.child k.there in
              let rest = next k.child.visit (omega (arith, low, lower))
              (λ x. omega (
                arith,
                h x,
                counted_in x (λ (c : Child). all_blocks image n c.visit) (children_at image v) k.child k.there,
              ))
              steps steps' u w k.rest (ap (λ z. visit_from image z steps') child ∙ l.rest) e in
              let own : block ≡ block' = k.own ∙ sym l.own in
              λ i. (own i, o i) ∷ rest i
          | inr m ↦
              let first =
              end_counted image steps n k.child.visit u (omega (
                arith,
                low,
                child_lower image v k.child k.there,
              )) k.rest in
              let second =
              end_counted image steps' n l.child.visit w (omega (
                arith,
                low,
                child_lower image v l.child l.there,
              )) l.rest in
              let two = counted_twice w.block (λ (c : Child). all_blocks image n c.visit) (children_at image v) k.child
              l.child k.there l.there
              (λ same. m (sym k.at ∙ ap (λ (c : Child). c.offset) same ∙ l.at))
              (subst (λ x. 1 ≤ count x (all_blocks image n k.child.visit)) e first) second in
              absurd (omega (arith, h w.block, two))
        ]

-- Where no two do, no block is counted twice.
apart_below : (image : List ℕ) (v : Visit) (c : Child) → IsIn (children_at image v) c → EndsApart image v
    → EndsApart image c.visit
apart_below image v c i h p q u w a b e =
    let same =
    h ((v.block, c.offset) ∷ p) ((
      v.block,
      c.offset,
    ) ∷ q) u w (step_leads image v c p u i a) (step_leads image v c q w i b) e in
    ap (λ steps. rest_of steps) same
  where
    rest_of : Steps → Steps
    rest_of [] = []
    rest_of (s ∷ steps) = steps

once : (x low : ℕ) (f : Child → List ℕ) (cs : List Child) → RisingFrom low cs
    → ((c : Child) → IsIn cs c → count x (f c) ≤ 1)
    → ((c d : Child) → IsIn cs c → IsIn cs d → 1 ≤ count x (f c) → 1 ≤ count x (f d) → c.offset ≡ d.offset)
    → count x (flat_map f cs) ≤ 1
once x low f [] r h same = omega arith
once x low f (c ∷ cs) r h same =
    let rest = once x (suc c.offset) f cs r.1 (λ d i. h d (inr i)) (λ d e i j. same d e (inr i) (inr j)) in
    elim (cases_lt 0 (count x (f c))) [
      | inr none ↦ omega (arith, none, rest, count_append x (f c) (flat_map f cs))
      | inl some ↦ elim (cases_lt 0 (count x (flat_map f cs))) [
        | inr none ↦ omega (arith, none, h c (inl refl), count_append x (f c) (flat_map f cs))
        | inl more ↦
            let d = counted_from x f cs more in
            absurd (omega (arith, same c d.0 (inl refl) (inr d.1) some d.2, above (suc c.offset) cs d.0 r.1 d.1))
      ]
    ]

no_steps : {s : ℕ × ℕ} {steps : Steps} → [] ≡ s ∷ steps → ⊥
no_steps e = cc

same_child : (image : List ℕ) (n : ℕ) (v : Visit) (x : ℕ) → EndsApart image v → (c d : Child)
    → IsIn (children_at image v) c → IsIn (children_at image v) d
    → 1 ≤ count x (all_blocks image n c.visit) → 1 ≤ count x (all_blocks image n d.visit) → c.offset ≡ d.offset
same_child image n v x h c d i j a b =
    let k = counted_ends image n c.visit x a in
    let l = counted_ends image n d.visit x b in
    ap first_offset
    (h ((v.block, c.offset) ∷ k.path) ((v.block, d.offset) ∷ l.path) k.visit l.visit
    (step_leads image v c k.path k.visit i k.leads) (step_leads image v d l.path l.visit j l.leads) (k.same
    ∙ sym l.same))
  where
    first_offset : Steps → ℕ
    first_offset [] = 0
    first_offset (s ∷ steps) = s.1

pub counts_from_apart : (image : List ℕ) (n : ℕ) (v : Visit) (x : ℕ) → EndsApart image v
    → count x (all_blocks image n v) ≤ 1
unfolding all_blocks
counts_from_apart image zero v x h = omega arith
counts_from_apart image (suc n) v x h =
    elim (cases_eq x v.block) [
      | inl e ↦ elim (cases_lt 0 (count x (flat_map (λ (c : Child). all_blocks image n c.visit)
          (children_at image v)))) [
            | inr none ↦ omega (
              arith,
              none,
              counted_here x v.block (flat_map (λ (c : Child). all_blocks image n c.visit) (children_at image v)) e,
            )
            | inl some ↦
                let c = counted_from x (λ (c : Child). all_blocks image n c.visit) (children_at image v) some in
                let k = counted_ends image n c.0.visit x c.2 in
                absurd (no_steps (h [] ((
                  v.block,
                  c.0.offset,
                ) ∷ k.path) v k.visit refl (step_leads image v c.0 k.path k.visit c.1 k.leads) (sym e
                ∙ sym k.same)))
          ]
      | inr m ↦
          let each : (c : Child) → IsIn (children_at image v) c → count x (all_blocks image n c.visit) ≤ 1 =
          λ c i. counts_from_apart image n c.visit x (apart_below image v c i h) in
          omega (
            arith,
            counted_later x v.block (flat_map (λ (c : Child). all_blocks image n c.visit) (children_at image v)) m,
            once x 16 (λ (c : Child). all_blocks image n c.visit) (children_at image v) (children_apart image v) each
                (same_child image n v x h),
          )
    ]
