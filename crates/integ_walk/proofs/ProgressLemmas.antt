-- How a walk comes on, link by link.
use Rattle.std.proofs.Common.{◌≡◌, ℕ, Bool, true, false, List, [], ◌∷◌, ◌++◌, flat_map, Contains, inl}
use Rattle.std.proofs.Common.{inr, refl, sym, ap, subst, ◌∙◌}
use Rattle.std.proofs.lemmas.Grind.{flat_map-append}
use Rattle.std.proofs.lemmas.List.{append-nil}
use Rattle.gds_block.specs.Block.{level_of}
use Rattle.gds_header.specs.Fields.{fields_of, block_of}
use Rattle.gds_law.specs.declared.fault.Fault.{Fault}
use Rattle.gds_law.specs.Visit.{Visit, Child, directory_root}
use Rattle.gds_law.specs.Block.{faults_of_block}
use Rattle.gds_law.specs.Path.{Steps, children_at, AreKept, AreReached}
use Rattle.gds_law.specs.Tree.{faults_at, tree_faults, is_reached}
use Rattle.gds_law.proofs.MembershipLemmas.{IsIn, in_from_Contains, Contains-from_in, in_either}
use Rattle.gds_law.proofs.MembershipLemmas.{in_map_from}
use Rattle.integ_walk.specs.Link.{Link, path_to, links_at, double_of}
use Rattle.integ_walk.specs.Progress.{AreInOrder, HasCome}
use Rattle.integ_walk.proofs.WalkLemmas.{AllAhead, Walked, IsAt, at_next, at_root, walked_past, walked_into}
use Rattle.integ_walk.proofs.WalkLemmas.{walked_all}
use Rattle.integ_walk.proofs.MarkLemmas.{AreMarks, MarksAlso, marked_not_kept, unmarked_kept, marks_past}
use Rattle.integ_walk.proofs.MarkLemmas.{marks_into, marks_all, faults_kept, faults_double}

-- ---- between the words of the contracts and those of the proof

ahead_in : (links : List Link) → AreInOrder links → AllAhead links
ahead_in [] h = tt
ahead_in (w ∷ ws) h = (λ x i. h.0 x (Contains-from_in ws x i), ahead_in ws h.1)

ahead_from : (links : List Link) → AllAhead links → AreInOrder links
ahead_from [] h = tt
ahead_from (w ∷ ws) h = (λ x c. h.0 x (in_from_Contains ws x c), ahead_from ws h.1)

module _ (image : List ℕ) (kept reached : List Steps) (ak : AreKept image kept) (ar : AreReached image kept reached)
  where
    abbrev Come : List Fault → (ℕ → Bool) → List Link → Type 0
    Come faults marked links = HasCome image kept reached faults marked links

    -- what there is besides the paths
    record Beside (done : List Steps) (faults : List Fault) (marked : ℕ → Bool) (links : List Link) : Type 0 where
      faults_are : faults ≡ flat_map (faults_at image kept) done
      marks : AreMarks image kept reached ak ar done marked
      levels : (w : Link) → IsIn links w → w.level ≡ level_of (block_of image w.block)

    walked_of : (faults : List Fault) (marked : ℕ → Bool) (links : List Link) → (c : Come faults marked links)
        → Walked image kept reached ak ar c.done c.rest links
    walked_of faults marked links c = record {
      parts = c.parts;
      led = λ p i. let l = c.led p (Contains-from_in c.rest p i) in (l.0, in_from_Contains links l.0 l.1, l.2);
      left = λ w i. let l = c.left w (Contains-from_in links w i) in
          (in_from_Contains c.rest (path_to w) l.there, l.leads);
      in_order = ahead_in links c.in_order;
    }

    beside_of : (faults : List Fault) (marked : ℕ → Bool) (links : List Link) → (c : Come faults marked links)
        → Beside c.done faults marked links
    beside_of faults marked links c =
        record {
          faults_are = c.faults_are;
          marks = c.marks;
          levels =
              λ w i. (c.left w (Contains-from_in links w i)).level;
        }

    come_of : (done rest : List Steps) (faults : List Fault) (marked : ℕ → Bool) (links : List Link)
        → Walked image kept reached ak ar done rest links → Beside done faults marked links
        → Come faults marked links
    come_of done rest faults marked links s b = record {
      done = done;
      rest = rest;
      parts = s.parts;
      faults_are = b.faults_are;
      marks = b.marks;
      led = λ p c. let l = s.led p (in_from_Contains rest p c) in (l.0, Contains-from_in links l.0 l.1, l.2);
      left = λ w c.
          let i = in_from_Contains links w c in
          let l = s.left w i in
          record { there = Contains-from_in rest (path_to w) l.0; leads = l.1; level = b.levels w i };
      in_order = ahead_from links s.in_order;
    }

    -- ---- steps

    more_faults : (done : List Steps) (q : Steps) (faults here : List Fault)
        → faults ≡ flat_map (faults_at image kept) done → faults_at image kept q ≡ here
        → faults ++ here ≡ flat_map (faults_at image kept) (done ++ q ∷ [])
    more_faults done q faults here e h =
        (λ i. e i ++ sym h i)
        ∙ ap (λ xs. flat_map (faults_at image kept) done ++ xs) (sym (append-nil (faults_at image kept q)))
        ∙ sym (flat_map-append (faults_at image kept) done (q ∷ []))

    levels_at : (q : Steps) (v : Visit) (w : Link) → IsIn (links_at image q v) w
        → w.level ≡ level_of (block_of image w.block)
    levels_at q v w i =
        let k = in_map_from (λ (c : Child). record {
          path = q;
          block = v.block;
          level =
              level_of (block_of image v.block);
          child = c;
        }) (children_at image v) w i in
        subst (λ (x : Link). x.level ≡ level_of (block_of image x.block)) k.2 refl

    entered : (done rest : List Steps) (q : Steps) (v : Visit) (ws : List Link) (faults : List Fault) (marked more : ℕ
        → Bool)
        → IsAt image kept reached ak ar done rest q v ws → Beside done faults marked ws → Contains kept q
        → MarksAlso image kept reached ak ar marked v.block more
        → Come (faults ++ faults_of_block (fields_of image) q v (block_of image v.block)) more
        (links_at image q v ++ ws)
    entered done rest q v ws faults marked more a b c also =
        come_of (done ++ q ∷ []) rest _ more (links_at image q v
        ++ ws) (walked_into image kept reached ak ar done rest q v ws a c) (record {
          faults_are = more_faults done q faults _ b.faults_are (faults_kept image kept reached ak ar q v c a.leads);
          marks = marks_into image kept reached ak ar done q v marked more b.marks c a.leads also;
          levels = λ w i. elim (in_either (links_at image q v) ws w i)
              [ inl j ↦ levels_at q v w j | inr j ↦ b.levels w j ];
        })

    -- Into the directory's root, with which a walk begins.
    pub come_root : (marked more : ℕ → Bool) → ((block : ℕ) → marked block ≡ false)
        → MarksAlso image kept reached ak ar marked 1 more
        → Come (faults_of_block (fields_of image) [] directory_root (block_of image 1)) more
        (links_at image [] directory_root)
    come_root marked more none also =
        let root = at_root image kept reached ak ar in
        let c : Contains kept [] = (ak.exactly []).1 (inl refl) in
        subst (Come (faults_of_block (fields_of image) [] directory_root (block_of image 1)) more)
        (append-nil (links_at image [] directory_root))
        (entered [] root.0 [] directory_root [] [] marked more root.1 (record {
          faults_are = refl;
          marks = λ block. ((λ h. absurd (never block h)), (λ e. absurd (in_from_Contains [] e.path e.there)));
          levels = λ w i. absurd i;
        }) c also)
      where
        never : (block : ℕ) → marked block ≡ true → ⊥
        never block h = let e = none block in cc

    -- Into a block that no earlier path ends in.
    pub come_into : (faults : List Fault) (marked more : ℕ → Bool) (w : Link) (ws : List Link)
        → Come faults marked (w ∷ ws) → marked w.child.visit.block ≡ false
        → MarksAlso image kept reached ak ar marked w.child.visit.block more
        → Come (faults
        ++ faults_of_block (fields_of image) (path_to w) w.child.visit (block_of image w.child.visit.block)) more
        (links_at image (path_to w) w.child.visit ++ ws)
    come_into faults marked more w ws c free also =
        let b = beside_of faults marked (w ∷ ws) c in
        let a = at_next image kept reached ak ar c.done c.rest w ws (walked_of faults marked (w ∷ ws) c) in
        entered c.done a.0 (path_to w) w.child.visit ws faults marked more a.1
        (record { faults_are = b.faults_are; marks = b.marks; levels = λ x i. b.levels x (inr i) })
        (unmarked_kept image kept reached ak ar c.done a.0 (path_to w) w.child.visit ws marked a.1 b.marks free) also

    -- Past a block that one ends in.
    pub come_past : (faults : List Fault) (marked : ℕ → Bool) (w : Link) (ws : List Link) → Come faults marked (w ∷ ws)
        → marked w.child.visit.block ≡ true
        → Come (faults ++ double_of w ∷ []) marked ws
    come_past faults marked w ws c taken =
        let b = beside_of faults marked (w ∷ ws) c in
        let a = at_next image kept reached ak ar c.done c.rest w ws (walked_of faults marked (w ∷ ws) c) in
        let none =
        marked_not_kept image kept reached ak ar c.done a.0 (path_to w) w.child.visit ws marked a.1 b.marks taken in
        let here : faults_at image kept (path_to w) ≡ double_of w ∷ [] =
        faults_double image kept reached ak ar w.path w.block w.child.offset none
        ∙ ap (λ level. record (double_of w) { level = level } ∷ []) (sym (b.levels w (inl refl))) in
        come_of (c.done
        ++ path_to w ∷ []) a.0 _ marked ws (walked_past image kept reached ak ar c.done a.0 (path_to w) w.child.visit
        ws a.1 none) (record {
          faults_are = more_faults c.done (path_to w) faults (double_of w ∷ []) b.faults_are here;
          marks = marks_past image kept reached ak ar c.done (path_to w) marked b.marks none;
          levels = λ x i. b.levels x (inr i);
        })

    -- ---- what is to come

    -- At any time the faults so far are the first of all.
    pub come_front : (faults : List Fault) (marked : ℕ → Bool) (links : List Link) → Come faults marked links
        → (later : List Fault) × (faults ++ later ≡ tree_faults image kept reached)
    unfolding tree_faults
    come_front faults marked links c = (
      flat_map (faults_at image kept) c.rest,
      ap (λ xs. xs ++ flat_map (faults_at image kept) c.rest) c.faults_are
          ∙ sym (flat_map-append (faults_at image kept) c.done c.rest)
          ∙ ap (flat_map (faults_at image kept)) (sym c.parts),
    )

    -- Where no link is left, they are all of them, and the marked blocks those that kept paths end in.
    pub come_all : (faults : List Fault) (marked : ℕ → Bool) → Come faults marked []
        → (faults ≡ tree_faults image kept reached) × ((block : ℕ) → marked block ≡ is_reached image kept block)
    unfolding tree_faults
    come_all faults marked c =
        let all = walked_all image kept reached ak ar c.done c.rest (walked_of faults marked [] c) in (
          c.faults_are ∙ ap (flat_map (faults_at image kept)) (sym all),
          marks_all image kept reached ak ar marked
              (subst (λ xs. AreMarks image kept reached ak ar xs marked) (sym all) c.marks),
        )
