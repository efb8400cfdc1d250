-- A range that lies below one child of an index block.
use Rattle.std.proofs.Common.{◌≡◌, ℕ, suc, Bool, true, false, List, [], ◌∷◌, ◌++◌, length, None, Some}
use Rattle.std.proofs.Common.{refl, sym, ap, subst, arith, append_assoc, append-nil}
use Rattle.std.specs.Prelude.{if◌then◌else◌}
use Rattle.std.specs.List.{AllByRecursion}
use Rattle.std.proofs.lemmas.Bool.{false≢true}
use Rattle.gds_block.specs.Item.{Item}
use Rattle.gds_law.specs.Visit.{Visit}
use Rattle.gds_sound.specs.Sound.{Tree}
use Rattle.gds_splice.proofs.ImageLemmas.{image_of}
use Rattle.gds_tree.specs.Below.{HasEntries}
use Rattle.gds_remove.specs.Block.{CannotFree, FreesOne}
use Rattle.gds_remove.specs.Child.{PrunesChild}
use Rattle.gds_remove.specs.Cut.{CutsAt, HasCut, LeavesTree, NoneStands, StandsBelow}
use Rattle.gds_remove.specs.Range.{BeginsBehind, Left, Range}
use Rattle.gds_remove.specs.Sole.{CannotTakeOut, HasSole, IsSole, TakesOut}
use Rattle.gds_remove.specs.declared.sole.SoleChild.{SoleChild}
use Rattle.gds_remove.proofs.EndLemmas.{all_kept, at_end, block_stays, may_put}
use Rattle.gds_remove.proofs.NextLemmas.{next_cut, none_to_prune}
use Rattle.gds_remove.proofs.PruneLemmas.{Takes, all_gone, cannot_cut, cannot_free, nothing_pruned, some_kept, stays_of}
use Rattle.gds_remove.proofs.RangeLemmas.{none_before, none_past, some_part}
use Rattle.gds_remove.proofs.SoFarLemmas.{CutSoFar, begun, entries_at}

-- ---- children that keep all they have

pub passed_by : (before now : List ℕ) (v : Visit) (level : ℕ) (t : Tree) (range : Range) (left : Left)
    → StandsBelow before v (suc level) t → (xs rest done kept : List Item)
    → AllByRecursion (λ (x : Item). Takes left x.key left None) xs
    → CutSoFar before now v level t range done kept (xs ++ rest) left
    → CutSoFar before now v level t range (done ++ xs) (kept ++ xs) rest left
passed_by before now v level t range left s [] rest done kept takes c =
    subst (λ ys. CutSoFar before now v level t range (done ++ []) ys rest left) (sym (append-nil kept))
    (subst (λ ys. CutSoFar before now v level t range ys kept rest left) (sym (append-nil done)) c)
passed_by before now v level t range left s (x ∷ xs) rest done kept takes c =
    let next : CutSoFar before now v level t range (done ++ x ∷ []) (kept ++ x ∷ []) (xs ++ rest) left =
    next_cut before now now v level t range done kept x (xs ++ rest) left left s c false
    (nothing_pruned level x left left now takes.0)
    (stays_of left left x.key None takes.0 range _ (c.left_is (λ none. absurd (cc)))) in
    subst (λ ys. CutSoFar before now v level t range (done ++ x ∷ xs) ys rest left)
    (append_assoc kept (x ∷ []) xs)
    (subst (λ ys. CutSoFar before now v level t range ys (kept ++ x ∷ [] ++ xs) rest left)
    (append_assoc done (x ∷ []) xs)
    (passed_by before now v level t range left s xs rest (done ++ x ∷ []) (kept ++ x ∷ []) takes.1 next))

behind_all : (left : Left) (xs : List Item) → AllByRecursion (λ (x : Item). BeginsBehind left.low x.key) xs
    → AllByRecursion (λ (x : Item). Takes left x.key left None) xs
behind_all left [] all = tt
behind_all left (x ∷ xs) all =
    (λ range from l. none_before range from x.key left l all.0, behind_all left xs all.1)

past_all : (left : Left) (xs : List Item) → left.past ≡ true
    → AllByRecursion (λ (x : Item). Takes left x.key left None) xs
past_all left [] past = tt
past_all left (x ∷ xs) past =
    (λ range from l. none_past range from x.key left l past, past_all left xs past)

-- ---- the child

module _ (before : List ℕ) (v : Visit) (level : ℕ) (t : Tree) (range : Range) (sole : SoleChild)
    (s : StandsBelow before v (suc level) t)
    (h : HasSole (entries_at before v level t s).es range sole) where
  abbrev first : Left
  first = record { low = range.low; high = range.high; past = false }

  abbrev behind_it : Left
  behind_it = record { low = None; high = range.high; past = true }

  reached : CutSoFar before before v level t range h.before h.before (h.own ∷ h.behind) first
  reached =
      passed_by before before v level t range first s h.before (h.own ∷ h.behind) [] []
      (behind_all first h.before h.passed)
      (begun before v level t s range (h.before ++ h.own ∷ h.behind) (sym h.parts))

  takes : Takes first h.own.key behind_it (Some range)
  takes r from l =
      some_part r from h.own.key first true range.high l h.begins (λ is. h.ends)
      (λ is. absurd (false≢true (sym is))) (λ is. refl) (λ is. absurd (false≢true (sym is)))

  pub sole_none : NoneStands sole.block level before → ⊥
  sole_none cannot =
      none_to_prune before before v level t range h.before h.before h.own h.behind first s reached
      (cannot_cut level h.own first behind_it before range takes sole.block h.block_is cannot)

  pub sole_kept_free : (mid : List ℕ) → CutsAt sole.block level range true before mid → CannotFree sole.block mid → ⊥
  sole_kept_free mid cuts cannot =
      none_to_prune before before v level t range h.before h.before h.own h.behind first s reached
      (cannot_free level h.own first behind_it before range takes sole.block h.block_is mid cuts cannot)

  -- once it is done, whether something is left below it or not
  abbrev left_of_all : Bool → List Item
  left_of_all empty = (if empty then h.before else h.before ++ h.own ∷ []) ++ h.behind

  all_done : (after : List ℕ) (empty : Bool) → PrunesChild level h.own first empty before after
      → CutSoFar before after v level t range (h.before ++ h.own ∷ [] ++ h.behind) (left_of_all empty) [] behind_it
  all_done after empty prunes =
      passed_by before after v level t range behind_it s h.behind [] (h.before ++ h.own ∷ [])
      (if empty then h.before else h.before ++ h.own ∷ []) (past_all behind_it h.behind refl)
      (subst (λ ys. CutSoFar before after v level t range (h.before ++ h.own ∷ [])
      (if empty then h.before else h.before ++ h.own ∷ []) ys behind_it) (sym (append-nil h.behind))
      (next_cut before before after v level t range h.before h.before h.own h.behind first behind_it s reached empty
      prunes (stays_of first behind_it h.own.key (Some range) takes range _
      (reached.left_is (λ none. absurd (cc))))))

  some_entry : (a : List Item) (e : Item) (b : List Item) → a ++ e ∷ [] ++ b ≡ [] → ⊥
  some_entry [] e b none = cc
  some_entry (x ∷ a) e b none = cc

  pub sole_kept : (after : List ℕ) → CutsAt sole.block level range false before after
      → LeavesTree before after v (suc level) t range
  sole_kept after cuts =
      all_kept before after v level t range (h.before ++ h.own ∷ [] ++ h.behind)
      (h.before ++ h.own ∷ [] ++ h.behind) behind_it s
      (all_done after false
      (some_kept level h.own first behind_it before range takes sole.block h.block_is after cuts))
      (some_entry h.before h.own h.behind) (omega arith)

  module _ (mid now : List ℕ) (cuts : CutsAt sole.block level range true before mid)
      (frees : FreesOne sole.block mid now) where
    gone : CutSoFar before now v level t range (h.before ++ h.own ∷ [] ++ h.behind) (h.before ++ h.behind) [] behind_it
    gone =
        all_done now true
        (all_gone level h.own first behind_it before range takes sole.block h.block_is mid now cuts frees)

    same_entries : h.before ++ h.own ∷ [] ++ h.behind ≡ h.before ++ h.own ∷ h.behind
    same_entries = append_assoc h.before (h.own ∷ []) h.behind

    has_now : HasEntries now v (suc level) (h.before ++ h.own ∷ h.behind)
    has_now =
        subst (HasEntries now v (suc level)) same_entries
        (block_stays before now v level t range (h.before ++ h.own ∷ [] ++ h.behind) (h.before ++ h.behind) behind_it s
        gone)

    pub sole_gone : (after : List ℕ) (empty : Bool) → TakesOut v.block (suc level) sole.offset empty now after
        → HasCut before after v (suc level) t range empty
    sole_gone after empty takes_out =
        at_end before now after v level t range (h.before ++ h.own ∷ [] ++ h.behind) (h.before ++ h.behind) behind_it
        (length (h.before ++ h.own ∷ h.behind)) empty s gone (ap length same_entries)
        (takes_out v h.before h.own h.behind refl (image_of now gone.leaves.lawful) has_now h.offset_is)

    pub sole_stays : CannotTakeOut v.block (suc level) sole.offset now → ⊥
    sole_stays cannot =
        cannot v h.before h.own h.behind refl (image_of now gone.leaves.lawful) has_now h.offset_is
        (λ some.
        let may = may_put before now v level t range (h.before ++ h.own ∷ [] ++ h.behind) (h.before ++ h.behind)
        behind_it s gone some in
        record { packable = may.packable; fits = omega (arith, may.fits, gone.leaves.reshapes.limits.block_size) })

-- ---- whichever tree it is

module _ (n level below : ℕ) (is : level ≡ suc below) (range : Range) (sole : SoleChild) (before : List ℕ)
    (found : IsSole n level range sole before) where
  found_at : (v : Visit) (t : Tree) → v.block ≡ n → (s : StandsBelow before v (suc below) t)
      → HasSole (entries_at before v below t s).es range sole
  found_at v t same s =
      let p = entries_at before v below t s in
      found v p.es same (image_of before s.maps) (subst (λ k. HasEntries before v k p.es) (sym is) p.has)

  pub none_below : NoneStands sole.block below before → NoneStands n level before
  none_below cannot v t same s =
      let s' = subst (λ k. StandsBelow before v k t) is s in
      sole_none before v below t range sole s' (found_at v t same s') cannot

  pub cut_one : (after : List ℕ) → CutsAt sole.block below range false before after
      → CutsAt n level range false before after
  cut_one after cuts v t same s =
      let s' = subst (λ k. StandsBelow before v k t) is s in
      subst (λ k. LeavesTree before after v k t range) (sym is)
      (sole_kept before v below t range sole s' (found_at v t same s') after cuts)

  module _ (mid : List ℕ) (cuts : CutsAt sole.block below range true before mid) where
    pub not_free : CannotFree sole.block mid → NoneStands n level before
    not_free cannot v t same s =
        let s' = subst (λ k. StandsBelow before v k t) is s in
        sole_kept_free before v below t range sole s' (found_at v t same s') mid cuts cannot

    module _ (now : List ℕ) (frees : FreesOne sole.block mid now) where
      pub take_one : (after : List ℕ) (empty : Bool) → TakesOut n level sole.offset empty now after
          → CutsAt n level range empty before after
      take_one after empty takes v t same s =
          let s' = subst (λ k. StandsBelow before v k t) is s in
          subst (λ k. HasCut before after v k t range empty) (sym is)
          (sole_gone before v below t range sole s' (found_at v t same s') mid now cuts frees after empty
          (subst (λ k. TakesOut v.block k sole.offset empty now after) is
          (subst (λ k. TakesOut k level sole.offset empty now after) (sym same) takes)))

      pub cannot_take : CannotTakeOut n level sole.offset now → NoneStands n level before
      cannot_take cannot v t same s =
          let s' = subst (λ k. StandsBelow before v k t) is s in
          sole_stays before v below t range sole s' (found_at v t same s') mid now cuts frees
          (subst (λ k. CannotTakeOut v.block k sole.offset now) is
          (subst (λ k. CannotTakeOut k level sole.offset now) (sym same) cannot))
