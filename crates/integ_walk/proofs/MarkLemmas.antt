-- The blocks that kept paths end in, as far as the reached paths were followed, and the faults told of them.
use Rattle.std.proofs.Common.{◌≡◌, ℕ, ◌-◌, ◌==◌, Bool, true, false, ◌||◌, List, [], ◌∷◌, ◌++◌, length, drop}
use Rattle.std.proofs.Common.{Contains, Some, ◌⊎◌, ◌↔◌, inl, inr, Less, refl, sym, ap, subst, ◌∙◌, arith}
use Rattle.std.proofs.Common.{length-append}
use Rattle.std.specs.Option.{option_map_or}
use Rattle.std.proofs.lemmas.Bool.{eqb-true, eq-eqb, or_cases, or_left, or_right, cond-false}
use Rattle.std.proofs.Math.Seq.{drop-append_seam}
use Rattle.gds_header.specs.Fields.{fields_of, block_of}
use Rattle.gds_law.specs.Visit.{Visit}
use Rattle.gds_law.specs.Block.{faults_of_block}
use Rattle.gds_law.specs.Path.{Steps, visit_at, path_cmp, AreKept, AreReached}
use Rattle.gds_law.specs.Tree.{double_at, double_faults, faults_at, is_among, ends_in, is_reached}
use Rattle.gds_law.proofs.MembershipLemmas.{IsIn, in_from_Contains, Contains-from_in, in_left, in_right, in_either}
use Rattle.gds_law.proofs.PathLemmas.{not_below_nil}
use Rattle.gds_sound.proofs.KeptLemmas.{any_in, in_any, same_tests, kept_leads, from_among, at_kept}
use Rattle.integ_walk.specs.Link.{Link}
use Rattle.integ_walk.specs.Progress.{EndsIn}
use Rattle.integ_walk.proofs.WalkLemmas.{IsAt, front-step, kept_reached, before_next, sooner_done}

module _ (image : List ℕ) (kept reached : List Steps) (ak : AreKept image kept) (ar : AreReached image kept reached)
  where
    -- The marked blocks are those in which kept ones of these paths end.
    abbrev pub AreMarks : List Steps → (ℕ → Bool) → Type 0
    AreMarks done marked = (block : ℕ) → (marked block ≡ true) ↔ EndsIn image kept done block

    not_both_ways : (b : Bool) → b ≡ true → b ≡ false → ⊥
    not_both_ways b h k = absurd (cc)

    -- The next path is kept exactly where its block isn't marked.
    pub marked_not_kept : (done rest : List Steps) (q : Steps) (v : Visit) (ws : List Link) (marked : ℕ → Bool)
        → IsAt image kept reached ak ar done rest q v ws → AreMarks done marked → marked v.block ≡ true
        → Contains kept q
        → ⊥
    marked_not_kept done rest q v ws marked a m h c =
        let e = (m v.block).0 h in
        let low = before_next image kept reached ak ar done rest q a.parts e.path (in_from_Contains done e.path e.there)
        in
        elim ((ak.exactly q).0 c) [
          | inl nil ↦ not_below_nil e.path (subst (λ x. path_cmp e.path x ≡ Less) nil low)
          | inr k ↦
              let same : v ≡ k.0 = cc (a.leads, k.1.leads) in
              k.2 (record {
                earlier = e.path;
                kept_too = e.is_kept;
                before = low;
                visit = e.visit;
                leads = e.leads;
                same =
                    e.same ∙ ap (λ (w : Visit). w.block) same;
              })
        ]

    pub unmarked_kept : (done rest : List Steps) (q : Steps) (v : Visit) (ws : List Link) (marked : ℕ → Bool)
        → IsAt image kept reached ak ar done rest q v ws → AreMarks done marked → marked v.block ≡ false
        → Contains kept q
    unmarked_kept done rest q v ws marked a m h =
        let c : Contains reached q =
        Contains-from_in reached q (subst (λ xs. IsIn xs q) (sym a.parts) (in_right done (q ∷ rest) q (inl refl))) in
        (ak.exactly q).1 (elim ((ar.exactly q).0 c) [
          | inl nil ↦ inl nil
          | inr k ↦
              let same : k.0 ≡ v = cc (a.leads, k.1.leads) in
              inr (
                k.0,
                k.1,
                λ t. not_both_ways (marked v.block) ((m v.block).1 (record {
                  path = t.earlier;
                  there = Contains-from_in done t.earlier (sooner_done image kept reached ak ar done rest q a.parts
                      t.earlier (kept_reached image kept reached ak ar t.earlier t.kept_too) t.before);
                  is_kept = t.kept_too;
                  visit = t.visit;
                  leads = t.leads;
                  same = t.same ∙ ap (λ (w : Visit). w.block) same;
                })) h,
              )
        ])

    -- ---- the marks behind it

    pub marks_none : AreMarks [] (λ block. false)
    marks_none block = ((λ h. absurd (cc)), (λ e. absurd (in_from_Contains [] e.path e.there)))

    pub marks_past : (done : List Steps) (q : Steps) (marked : ℕ → Bool) → AreMarks done marked → (Contains kept q → ⊥)
        → AreMarks (done ++ q ∷ []) marked
    marks_past done q marked m none block = (
      λ h. let e = (m block).0 h in
          record {
            path = e.path;
            there =
                Contains-from_in (done
                ++ q ∷ []) e.path (in_left done (q ∷ []) e.path (in_from_Contains done e.path e.there));
            is_kept =
                e.is_kept;
            visit = e.visit;
            leads = e.leads;
            same = e.same;
          },
      λ e. (m block).1 (record {
        path = e.path;
        there =
            Contains-from_in done e.path (there e.path e.is_kept
            (in_either done (q ∷ []) e.path (in_from_Contains (done ++ q ∷ []) e.path e.there)));
        is_kept =
            e.is_kept;
        visit = e.visit;
        leads = e.leads;
        same = e.same;
      }),
    )
      where
        there : (p : Steps) → Contains kept p → IsIn done p ⊎ IsIn (q ∷ []) p → IsIn done p
        there p c (inl i) = i
        there p c (inr (inl e)) = absurd (none (subst (λ x. Contains kept x) (sym e) c))
        there p c (inr (inr j)) = absurd j

    -- One more block is marked.
    abbrev pub MarksAlso : (ℕ → Bool) → ℕ → (ℕ → Bool) → Type 0
    MarksAlso old block new = (x : ℕ) → new x ≡ ((x == block) || old x)

    pub marks_into : (done : List Steps) (q : Steps) (v : Visit) (marked more : ℕ → Bool) → AreMarks done marked
        → Contains kept q → visit_at image q ≡ Some v
        → MarksAlso marked v.block more → AreMarks (done ++ q ∷ []) more
    marks_into done q v marked more m c leads also block = (to, from)
      where
        to : more block ≡ true → EndsIn image kept (done ++ q ∷ []) block
        to h =
            elim (or_cases (block == v.block) (marked block) (sym (also block) ∙ h)) [
              | inl e ↦ record {
                path = q;
                there =
                    Contains-from_in (done ++ q ∷ []) q (in_right done (q ∷ []) q (inl refl));
                is_kept = c;
                visit =
                    v;
                leads = leads;
                same = sym (eqb-true block v.block e);
              }
              | inr e ↦
                  let k = (m block).0 e in
                  record {
                    path = k.path;
                    there =
                        Contains-from_in (done
                        ++ q ∷ []) k.path (in_left done (q ∷ []) k.path (in_from_Contains done k.path k.there));
                    is_kept =
                        k.is_kept;
                    visit = k.visit;
                    leads = k.leads;
                    same = k.same;
                  }
            ]

        by : (e : EndsIn image kept (done ++ q ∷ []) block) → IsIn done e.path ⊎ IsIn (q ∷ []) e.path
            → more block ≡ true
        by e (inl i) = also block
            ∙ or_right (block ==
            v.block) (marked block) ((m block).1 (record {
              path = e.path;
              there =
                  Contains-from_in done e.path i;
              is_kept = e.is_kept;
              visit = e.visit;
              leads = e.leads;
              same = e.same;
            }))
        by e (inr (inl p)) =
            let same : v ≡ e.visit = cc (leads, ap (visit_at image) p, e.leads) in
            also block
            ∙ or_left (block ==
            v.block) (marked block) (eq-eqb block v.block (sym (ap (λ (w : Visit). w.block) same ∙ e.same)))
        by e (inr (inr j)) = absurd j

        from : EndsIn image kept (done ++ q ∷ []) block → more block ≡ true
        from e = by e (in_either done (q ∷ []) e.path (in_from_Contains (done ++ q ∷ []) e.path e.there))

    -- Once all are followed these are the blocks that kept paths end in.
    pub marks_all : (marked : ℕ → Bool) → AreMarks reached marked → (block : ℕ)
        → marked block ≡ is_reached image kept block
    marks_all marked m block = same_tests (marked block) (is_reached image kept block) to from
      where
        at_end : (p : Steps) (v : Visit) → visit_at image p ≡ Some v → ends_in image block p ≡ (v.block == block)
        at_end p v e = ap (λ o. option_map_or (λ (u : Visit). u.block == block) o false) e

        to : marked block ≡ true → is_reached image kept block ≡ true
        to h =
            let e = (m block).0 h in
            in_any (ends_in image block) kept e.path (in_from_Contains kept e.path e.is_kept)
            (at_end e.path e.visit e.leads ∙ eq-eqb e.visit.block block e.same)

        from : is_reached image kept block ≡ true → marked block ≡ true
        from h =
            let r = any_in (ends_in image block) kept h in
            let c : Contains kept r.0 = Contains-from_in kept r.0 r.1 in
            let l = kept_leads image kept r.0 ak c in
            (m block).1 (record {
              path = r.0;
              there = kept_reached image kept reached ak ar r.0 c;
              is_kept = c;
              visit = l.0;
              leads = l.1;
              same = eqb-true l.0.block block (sym (at_end r.0 l.0 l.1) ∙ r.2);
            })

    -- ---- the faults that stand at it

    pub faults_kept : (q : Steps) (v : Visit) → Contains kept q → visit_at image q ≡ Some v
        → faults_at image kept q ≡ faults_of_block (fields_of image) q v (block_of image v.block)
    faults_kept q v c h = at_kept image kept q v c h

    drop_front : (q : Steps) (s : ℕ × ℕ) → drop (length (q ++ s ∷ []) - 1) (q ++ s ∷ []) ≡ s ∷ []
    drop_front q s =
        let len : length (q ++ s ∷ []) - 1 ≡ length q = omega (arith, length-append q (s ∷ [])) in
        ap (λ n. drop n (q ++ s ∷ [])) len ∙ drop-append_seam q (s ∷ [])

    pub faults_double : (path : Steps) (block offset : ℕ) → (Contains kept (path ++ (block, offset) ∷ []) → ⊥)
        → faults_at image kept (path ++ (block, offset) ∷ [])
        ≡ record (double_at image (path ++ (block, offset) ∷ []) (block, offset)) { path = path } ∷ []
    faults_double path block offset none =
        let q : Steps = path ++ (block, offset) ∷ [] in
        cond-false (is_among kept q) _ _ (unless (is_among kept q) refl)
        ∙ ap (double_faults image q) (drop_front path (block, offset))
        ∙ ap (λ p. record (double_at image q (block, offset)) { path = p } ∷ []) (front-step path (block, offset))
      where
        unless : (b : Bool) → is_among kept (path ++ (block, offset) ∷ []) ≡ b
            → is_among kept (path ++ (block, offset) ∷ []) ≡ false
        unless true e = absurd (none (from_among kept (path ++ (block, offset) ∷ []) e))
        unless false e = e
