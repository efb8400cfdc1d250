-- The reached paths of a file one after another: which one comes next, and what is then left.
use Rattle.std.proofs.Common.{◌≡◌, ℕ, zero, suc, ◌-◌, ◌<◌, ◌≤◌, ◌==◌, List, [], ◌∷◌, ◌++◌}
use Rattle.std.proofs.Common.{length, take, map, Contains, Some, ◌⊎◌, inl, inr, Less, refl, sym, ap, subst, ◌∙◌}
use Rattle.std.proofs.Common.{arith, append_assoc, length-append}
use Rattle.std.specs.Prelude.{⊤}
use Rattle.std.proofs.lemmas.Bool.{cases_eq}
use Rattle.std.proofs.lemmas.List.{append-nil, length-take-le}
use Rattle.std.proofs.Math.Seq.{take-append_seam}
use Rattle.gds_block.specs.Block.{level_of}
use Rattle.gds_header.specs.Fields.{block_of}
use Rattle.gds_law.specs.Visit.{Visit, Child, directory_root}
use Rattle.gds_law.specs.Path.{Steps, children_at, child_at, visit_from, visit_at, path_cmp, front_of, ExtendsKept}
use Rattle.gds_law.specs.Path.{AreKept, AreReached}
use Rattle.gds_law.proofs.MembershipLemmas.{IsIn, in_from_Contains, Contains-from_in, in_left, in_right, in_either}
use Rattle.gds_law.proofs.MembershipLemmas.{in_map, in_map_from}
use Rattle.gds_law.proofs.RisingLemmas.{Rising, Rising-from_sorted, rises, Rising-behind, not_below_itself}
use Rattle.gds_law.proofs.RisingLemmas.{not_both_below}
use Rattle.gds_law.proofs.PathLemmas.{path_total, path_exact, not_below_nil, some_if, some_then}
use Rattle.gds_sound.proofs.BlockLemmas.{RisingFrom, children_apart, above}
use Rattle.gds_sound.proofs.TreeLemmas.{leads_through}
use Rattle.gds_sound.proofs.PathLemmas.{step_leads}
use Rattle.gds_sound.proofs.KeptLemmas.{reached_leads}
use Rattle.integ_walk.specs.Link.{Link, path_to, links_at}
use Rattle.integ_walk.specs.Progress.{GoesOn, IsAhead}
use Rattle.integ_walk.proofs.AheadLemmas.{ahead_at, ahead_longer, ahead_below, below_longer}

not_below : (p : Steps) → path_cmp p p ≡ Less → ⊥
not_below = not_below_itself Steps path_cmp path_total path_exact

not_both : (p q : Steps) → path_cmp p q ≡ Less → path_cmp q p ≡ Less → ⊥
not_both = not_both_below Steps path_cmp path_total path_exact

-- ---- what goes on from a path

-- It doesn't stand before it.
not_before : (q p : Steps) → GoesOn q p → path_cmp p q ≡ Less → ⊥
not_before q p ([], e) h = not_below q (subst (λ x. path_cmp x q ≡ Less) (e ∙ append-nil q) h)
not_before q p ((s ∷ t), e) h = not_both q p (subst (λ x. path_cmp q x ≡ Less) (sym e) (below_longer q s t)) h

from_append : (image : List ℕ) (a v : Visit) (q x : Steps) → visit_from image a q ≡ Some v
    → visit_from image a (q ++ x) ≡ visit_from image v x
from_append image a v [] x h = let same : a ≡ v = cc in ap (λ w. visit_from image w x) same
from_append image a v ((block, offset) ∷ q) x h =
    let here = some_if (block == a.block) _ v h in
    let on = some_then (λ u. visit_from image u q) (child_at image a offset) v here.1 in
    rw (here.0, on.1) (from_append image on.0 v q x on.2)

pub front-step : (q : Steps) (s : ℕ × ℕ) → front_of (q ++ s ∷ []) ≡ q
front-step q s =
    let len : length (q ++ s ∷ []) - 1 ≡ length q = omega (arith, length-append q (s ∷ [])) in
    ap (λ n. take n (q ++ s ∷ [])) len ∙ take-append_seam q (s ∷ [])

-- ---- links in order

abbrev pub AllAhead : List Link → Type 0
AllAhead [] = ⊤
AllAhead (w ∷ ws) = ((x : Link) → IsIn ws x → IsAhead (path_to w) (path_to x)) × AllAhead ws

both_ahead : (xs ws : List Link) → AllAhead xs → AllAhead ws
    → ((x w : Link) → IsIn xs x → IsIn ws w → IsAhead (path_to x) (path_to w)) → AllAhead (xs ++ ws)
both_ahead [] ws a b h = b
both_ahead (x ∷ xs) ws a b h = (
  λ y i. elim (in_either xs ws y i) [ inl j ↦ a.0 y j | inr j ↦ h x y (inl refl) j ],
  both_ahead xs ws a.1 b (λ y w i j. h y w (inr i) j),
)

module _ (path : Steps) (block level : ℕ) where
  abbrev here : Child → Link
  here c = record { path = path; block = block; level = level; child = c }

  siblings_ahead : (low : ℕ) (cs : List Child) → RisingFrom low cs → AllAhead (map here cs)
  siblings_ahead low [] r = tt
  siblings_ahead low (c ∷ cs) r = (
    λ x i. let k = in_map_from here cs x i in
        let more = above (suc c.offset) cs k.0 r.1 k.1 in
        subst (λ (w : Link). IsAhead (path
        ++ (block, c.offset) ∷ []) (path_to w)) k.2 (ahead_at path block c.offset k.0.offset (omega arith)),
    siblings_ahead (suc c.offset) cs r.1,
  )

  below_ahead : (cs : List Child) (w : Link) (x : Link) → IsAhead path (path_to x) → IsIn (map here cs) w
      → IsAhead (path_to w) (path_to x)
  below_ahead cs w x h i =
      let k = in_map_from here cs w i in
      subst (λ (y : Link). IsAhead (path_to y) (path_to x)) k.2
      (ahead_longer path ((block, k.0.offset) ∷ []) (path_to x) h)

-- ---- the paths of a file

-- the link of a child of the block that a path leads to
abbrev link_of : List ℕ → Steps → Visit → Child → Link
link_of image q v c = here q v.block (level_of (block_of image v.block)) c

module _ (image : List ℕ) (kept reached : List Steps) (ak : AreKept image kept) (ar : AreReached image kept reached)
  where
    -- Done are some paths from the front, and these links lead on to all that are left.
    pub record Walked (done rest : List Steps) (ws : List Link) : Type 0 where
      pub parts : reached ≡ done ++ rest
      pub led : (p : Steps) → IsIn rest p → (w : Link) × IsIn ws w × GoesOn (path_to w) p
      pub left : (w : Link) → IsIn ws w → IsIn rest (path_to w) × (visit_at image (path_to w) ≡ Some w.child.visit)
      pub in_order : AllAhead ws

    -- The next one is q, which leads to v. All that are left but it go on from it or are led to by the links.
    pub record IsAt (done rest : List Steps) (q : Steps) (v : Visit) (ws : List Link) : Type 0 where
      pub parts : reached ≡ done ++ q ∷ rest
      pub leads : visit_at image q ≡ Some v
      pub led : (p : Steps) → IsIn rest p → GoesOn q p ⊎ ((w : Link) × IsIn ws w × GoesOn (path_to w) p)
      pub left : (w : Link) → IsIn ws w → IsIn rest (path_to w) × (visit_at image (path_to w) ≡ Some w.child.visit)
      pub ahead : (w : Link) → IsIn ws w → IsAhead q (path_to w)
      pub in_order : AllAhead ws

    rising : Rising path_cmp reached
    rising = Rising-from_sorted path_cmp reached ar.in_order

    -- ---- what is kept and what is reached

    pub kept_reached : (p : Steps) → Contains kept p → Contains reached p
    kept_reached p c =
        elim ((ak.exactly p).0 c) [ inl e ↦ (ar.exactly p).1 (inl e) | inr k ↦ (ar.exactly p).1 (inr (k.0, k.1)) ]

    front_kept : (p : Steps) → Contains reached p → 0 < length p → Contains kept (front_of p)
    front_kept p c low =
        elim ((ar.exactly p).0 c) [ inl e ↦ absurd (omega (arith, ap length e, low)) | inr k ↦ k.1.front ]

    take_front : (k n : ℕ) (p : Steps) → k ≤ n → take k (take n p) ≡ take k p
    take_front zero n p h = refl
    take_front (suc k) zero p h = absurd (omega arith)
    take_front (suc k) (suc n) [] h = refl
    take_front (suc k) (suc n) (s ∷ p) h = ap (λ t. s ∷ t) (take_front k n p (omega arith))

    fronts_kept : (n : ℕ) (p : Steps) (k : ℕ) → length p ≤ n → Contains reached p → k < length p
        → Contains kept (take k p)
    fronts_kept zero p k short c low = absurd (omega arith)
    fronts_kept (suc n) p k short c low =
        let f : Contains kept (front_of p) = front_kept p c (omega arith) in
        let len : length (front_of p) ≡ length p - 1 = length-take-le (length p - 1) p (omega arith) in
        elim (cases_eq k (length p - 1)) [
          | inl e ↦ subst (λ j. Contains kept (take j p)) (sym e) f
          | inr m ↦
              let r = fronts_kept n (front_of p) k (omega (arith, len)) (kept_reached (front_of p) f) (omega (
                arith,
                len,
              )) in
              subst (λ x. Contains kept x) (take_front k (length p - 1) p (omega arith)) r
        ]

    -- A reached path goes on from kept ones alone.
    inner_kept : (q p : Steps) (s : ℕ × ℕ) (t : Steps) → Contains reached p → p ≡ q ++ s ∷ t → Contains kept q
    inner_kept q p s t c e =
        let low : length q < length p = omega (arith, ap length e, length-append q (s ∷ t)) in
        subst (λ x. Contains kept x) (ap (take (length q)) e
        ∙ take-append_seam q (s ∷ t)) (fronts_kept (length p) p (length q) (omega arith) c low)

    -- ---- where a path stands among them

    in_reached : (done rest : List Steps) → reached ≡ done ++ rest → (p : Steps) → IsIn rest p → Contains reached p
    in_reached done rest parts p i =
        Contains-from_in reached p (subst (λ xs. IsIn xs p) (sym parts) (in_right done rest p i))

    pub before_next : (done rest : List Steps) (q : Steps) → reached ≡ done ++ q ∷ rest → (p : Steps) → IsIn done p
        → path_cmp p q ≡ Less
    before_next done rest q parts p i =
        rises path_cmp done (q ∷ rest) (subst (Rising path_cmp) parts rising) p q i (inl refl)

    behind_next : (done rest : List Steps) (q : Steps) → reached ≡ done ++ q ∷ rest → (p : Steps) → IsIn rest p
        → path_cmp q p ≡ Less
    behind_next done rest q parts p i =
        (Rising-behind path_cmp done (q ∷ rest) (subst (Rising path_cmp) parts rising)).0 p i

    pub sooner_done : (done rest : List Steps) (q : Steps) → reached ≡ done ++ q ∷ rest → (p : Steps)
        → Contains reached p → path_cmp p q ≡ Less → IsIn done p
    sooner_done done rest q parts p c h =
        elim (in_either done (q ∷ rest) p (subst (λ xs. IsIn xs p) parts (in_from_Contains reached p c))) [
          | inl i ↦ i
          | inr (inl e) ↦ absurd (not_below q (subst (λ x. path_cmp x q ≡ Less) (sym e) h))
          | inr (inr j) ↦ absurd (not_both p q h (behind_next done rest q parts p j))
        ]

    later_rest : (done rest : List Steps) (q : Steps) → reached ≡ done ++ q ∷ rest → (p : Steps) → Contains reached p
        → path_cmp q p ≡ Less → IsIn rest p
    later_rest done rest q parts p c h =
        elim (in_either done (q ∷ rest) p (subst (λ xs. IsIn xs p) parts (in_from_Contains reached p c))) [
          | inl i ↦ absurd (not_both q p h (before_next done rest q parts p i))
          | inr (inl e) ↦ absurd (not_below q (subst (λ x. path_cmp q x ≡ Less) (sym e) h))
          | inr (inr j) ↦ j
        ]

    -- ---- the next path

    next_is : (done rest : List Steps) (w : Link) (ws : List Link) → Walked done rest (w ∷ ws)
        → (r : Steps) (more : List Steps) → rest ≡ r ∷ more → r ≡ path_to w
    next_is done rest w ws s r more e =
        elim (subst (λ xs. IsIn xs (path_to w)) e (s.left w (inl refl)).0) [
          | inl same ↦ same
          | inr i ↦
              let parts : reached ≡ done ++ r ∷ more = s.parts ∙ ap (λ xs. done ++ xs) e in
              let l = s.led r (subst (λ xs. IsIn xs r) (sym e) (inl refl)) in
              absurd (first l.0 l.1 l.2 (behind_next done more r parts (path_to w) i))
        ]
      where
        first : (x : Link) → IsIn (w ∷ ws) x → GoesOn (path_to x) r → path_cmp r (path_to w) ≡ Less → ⊥
        first x (inl e) g h = not_before (path_to w) r (subst (λ (y : Link). GoesOn (path_to y) r) (sym e) g) h
        first x (inr i) g h =
            not_before (path_to x) r g (path_total.trans r (path_to w) (path_to x) h
            (ahead_below (path_to w) (path_to x) (s.in_order.0 x i)))

    pub at_next : (done rest : List Steps) (w : Link) (ws : List Link) → Walked done rest (w ∷ ws)
        → (more : List Steps) × IsAt done more (path_to w) w.child.visit ws
    at_next done rest w ws s = by rest refl
      where
        left_of : (more : List Steps) → rest ≡ path_to w ∷ more → (x : Link) → IsIn ws x → IsIn more (path_to x)
        left_of more e x i =
            elim (subst (λ xs. IsIn xs (path_to x)) e (s.left x (inr i)).0) [
              | inl same ↦ absurd (not_below (path_to w) (subst (λ p. path_cmp (path_to w) p
                  ≡ Less) (sym same) (ahead_below (path_to w) (path_to x) (s.in_order.0 x i))))
              | inr j ↦ j
            ]

        led_of : (p : Steps) → ((x : Link) × IsIn (w ∷ ws) x × GoesOn (path_to x) p)
            → GoesOn (path_to w) p ⊎ ((x : Link) × IsIn ws x × GoesOn (path_to x) p)
        led_of p (x, inl e, g) = inl (subst (λ (y : Link). GoesOn (path_to y) p) (sym e) g)
        led_of p (x, inr i, g) = inr (x, i, g)

        at : (more : List Steps) → rest ≡ path_to w ∷ more → IsAt done more (path_to w) w.child.visit ws
        at more e = record {
          parts = s.parts ∙ ap (λ xs. done ++ xs) e;
          leads = (s.left w (inl refl)).1;
          led = λ p i. led_of p (s.led p (subst (λ xs. IsIn xs p) (sym e) (inr i)));
          left = λ x i. (left_of more e x i, (s.left x (inr i)).1);
          ahead = s.in_order.0;
          in_order = s.in_order.1;
        }

        by : (xs : List Steps) → rest ≡ xs → (more : List Steps) × IsAt done more (path_to w) w.child.visit ws
        by [] e = absurd (subst (λ xs. IsIn xs (path_to w)) e (s.left w (inl refl)).0)
        by (r ∷ more) e = (more, at more (e ∙ ap (λ p. p ∷ more) (next_is done rest w ws s r more e)))

    -- The first of all is the empty path.
    pub at_root : (more : List Steps) × IsAt [] more [] directory_root []
    at_root = by reached refl (in_from_Contains reached [] ((ar.exactly []).1 (inl refl)))
      where
        at : (more : List Steps) → reached ≡ [] ∷ more → IsAt [] more [] directory_root []
        at more e = record {
          parts = e;
          leads = refl;
          led = λ p i. inl (p, refl);
          left = λ w i. absurd i;
          ahead = λ w i. absurd i;
          in_order = tt;
        }

        by : (xs : List Steps) → reached ≡ xs → IsIn xs [] → (more : List Steps) × IsAt [] more [] directory_root []
        by [] e i = absurd i
        by (r ∷ more) e (inl same) = (more, at more (e ∙ ap (λ p. p ∷ more) same))
        by (r ∷ more) e (inr i) = absurd (not_below_nil r (behind_next [] more r e [] i))

    -- ---- behind it

    more_parts : (done rest : List Steps) (q : Steps) → reached ≡ done ++ q ∷ rest → reached ≡ (done ++ q ∷ []) ++ rest
    more_parts done rest q e = e ∙ sym (append_assoc done (q ∷ []) rest)

    not_itself : (done rest : List Steps) (q p : Steps) → reached ≡ done ++ q ∷ rest → IsIn rest p → p ≡ q ++ [] → ⊥
    not_itself done rest q p parts i e =
        not_below q (subst (λ x. path_cmp q x ≡ Less) (e ∙ append-nil q) (behind_next done rest q parts p i))

    pub walked_past : (done rest : List Steps) (q : Steps) (v : Visit) (ws : List Link) → IsAt done rest q v ws
        → (Contains kept q → ⊥) → Walked (done ++ q ∷ []) rest ws
    walked_past done rest q v ws a none = record {
      parts = more_parts done rest q a.parts;
      led = λ p i. led_of p i (a.led p i);
      left = a.left;
      in_order = a.in_order;
    }
      where
        led_of : (p : Steps) → IsIn rest p → (GoesOn q p ⊎ ((w : Link) × IsIn ws w × GoesOn (path_to w) p))
            → (w : Link) × IsIn ws w × GoesOn (path_to w) p
        led_of p i (inr l) = l
        led_of p i (inl ([], e)) = absurd (not_itself done rest q p a.parts i e)
        led_of p i (inl ((s ∷ t), e)) =
            absurd (none (inner_kept q p s t (in_reached (done ++ q ∷ []) rest (more_parts done rest q a.parts) p i) e))

    pub walked_into : (done rest : List Steps) (q : Steps) (v : Visit) (ws : List Link) → IsAt done rest q v ws
        → Contains kept q → Walked (done ++ q ∷ []) rest (links_at image q v ++ ws)
    walked_into done rest q v ws a is = record {
      parts = more_parts done rest q a.parts;
      led = λ p i. led_of p i (a.led p i);
      left = λ w i. left_of w (in_either (links_at image q v) ws w i);
      in_order =
          both_ahead (links_at image q v) ws (siblings_ahead q v.block (level_of (block_of image v.block)) 16
          (children_at image v) (children_apart image v)) a.in_order
          (λ w x i j. below_ahead q v.block (level_of (block_of image v.block)) (children_at image v) w x (a.ahead x j)
          i);
    }
      where
        leads_from : (x : Steps) → visit_at image (q ++ x) ≡ visit_from image v x
        leads_from x = from_append image directory_root v q x a.leads

        led_of : (p : Steps) → IsIn rest p → (GoesOn q p ⊎ ((w : Link) × IsIn ws w × GoesOn (path_to w) p))
            → (w : Link) × IsIn (links_at image q v ++ ws) w × GoesOn (path_to w) p
        led_of p i (inr (w, j, g)) = (w, in_right (links_at image q v) ws w j, g)
        led_of p i (inl ([], e)) = absurd (not_itself done rest q p a.parts i e)
        led_of p i (inl ((s ∷ t), e)) =
            let c = in_reached (done ++ q ∷ []) rest (more_parts done rest q a.parts) p i in
            let u = reached_leads image kept p ((ar.exactly p).0 c) in
            let l = leads_through image v s.0 s.1 t u.0 (sym (leads_from (s ∷ t)) ∙ ap (visit_at image) (sym e) ∙ u.1)
            in
            let same : (v.block, l.child.offset) ≡ s = λ k. (sym l.own k, l.at k) in (
              link_of image q v l.child,
              in_left (links_at image q v) ws (link_of image q v l.child)
                  (in_map (link_of image q v) (children_at image v) l.child l.there),
              (t, e ∙ ap (λ x. q ++ x ∷ t) (sym same) ∙ sym (append_assoc q ((v.block, l.child.offset) ∷ []) t)),
            )

        child_left : (c : Child) → IsIn (children_at image v) c
            → IsIn rest (path_to (link_of image q v c))
            × (visit_at image (path_to (link_of image q v c)) ≡ Some c.visit)
        child_left c i =
            let step : Steps = (v.block, c.offset) ∷ [] in
            let leads : visit_at image (q ++ step) ≡ Some c.visit = leads_from step
            ∙ step_leads image v c [] c.visit i refl in
            let longer : 0 < length (q ++ step) = omega (arith, length-append q step) in
            let front : front_of (q ++ step) ≡ q = front-step q (v.block, c.offset) in
            let g : ExtendsKept image kept (q ++ step) c.visit =
            record { longer = longer; front = subst (λ x. Contains kept x) (sym front) is; leads = leads } in (
              later_rest done rest q a.parts (q
                  ++ step) ((ar.exactly (q ++ step)).1 (inr (c.visit, g))) (below_longer q (v.block, c.offset) []),
              leads,
            )

        left_of : (w : Link) → IsIn (links_at image q v) w ⊎ IsIn ws w
            → IsIn rest (path_to w) × (visit_at image (path_to w) ≡ Some w.child.visit)
        left_of w (inr j) = a.left w j
        left_of w (inl j) =
            let k = in_map_from (link_of image q v) (children_at image v) w j in
            subst (λ (x : Link). IsIn rest (path_to x)
            × (visit_at image (path_to x) ≡ Some x.child.visit)) k.2 (child_left k.0 k.1)

    -- Where no link is left, all paths are done.
    pub walked_all : (done rest : List Steps) → Walked done rest [] → reached ≡ done
    walked_all done [] s = s.parts ∙ append-nil done
    walked_all done (p ∷ rest) s = absurd (s.led p (inl refl)).1
