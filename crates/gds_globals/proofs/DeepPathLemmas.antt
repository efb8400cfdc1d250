-- A block that is as deep as it may be, by the paths that lead there from the directory's root.
use Rattle.std.proofs.Common.{◌≡◌, ℕ, suc, ◌+◌, ◌-◌, ◌*◌, ◌<◌, ◌≤◌, ◌==◌, List, [], ◌∷◌, ◌++◌, length, take, None, Some}
use Rattle.std.proofs.Common.{Option, option_and_then, refl, sym, ap, ◌∙◌, ⊎_elim, arith}
use Rattle.std.specs.Prelude.{IfSome, IsTrue, not}
use Rattle.std.specs.List.{AllByRecursion}
use Rattle.std.proofs.lemmas.Bool.{cases_lt, cond-true}
use Rattle.std.proofs.lemmas.List.{length-append, take-append-le}
use Rattle.std.proofs.Math.Seq.{take-append-add, take-append_seam, take-length}
use Rattle.gds_ancestors.specs.Ancestors.{Ancestor, AreAncestors, steps_to}
use Rattle.gds_ancestors.proofs.StepLemmas.{path_of, step_count}
use Rattle.gds_block.specs.Block.{used_of}
use Rattle.gds_find.specs.Trail as trail
use Rattle.gds_header.specs.Fields.{block_of, fields_of}
use Rattle.gds_law.specs.Path.{AreKept, Steps, child_at, visit_at, visit_from}
use Rattle.gds_law.specs.Record.{is_below}
use Rattle.gds_law.specs.Visit.{Visit, directory_root}
use Rattle.gds_law.proofs.PathLemmas.{some_if, some_then}
use Rattle.gds_pack.specs.Packed.{packed_size}
use Rattle.gds_shape.specs.Depth.{HoldsKey, IsDeepAt}
use Rattle.gds_sound.proofs.KeptLemmas.{AllKept}
use Rattle.gds_splice.specs.Parting.{IsFull}
use Rattle.gds_tree.specs.Keeps.{IsImage}
use Rattle.gds_tree.specs.Lawful.{IsAboveLow, IsBelowHigh}
use Rattle.gds_tree.proofs.TestLemmas.{not_below}
use Rattle.gds_globals.proofs.CarryLemmas.{IsDeepBelow, same_some}

-- a path that goes on from another's end
pub visit_behind : (image : List ℕ) (p q : Steps) (v u : Visit) → visit_from image v p ≡ Some u
    → visit_from image v (p ++ q) ≡ visit_from image u q
visit_behind image [] q v u h = ap (λ z. visit_from image z q) (same_some v u h)
visit_behind image ((block, offset) ∷ p) q v u h =
    let here = some_if (block == v.block) _ u h in
    let on = some_then (λ z. visit_from image z p) (child_at image v offset) u here.1 in
    cond-true (block == v.block) _ _ here.0 ∙ ap (option_and_then (λ z. visit_from image z (p ++ q))) on.1
    ∙ visit_behind image p q on.0 u on.2

-- ---- bounds

low_holds : (low : Option (List ℕ)) (key : List ℕ) → IsAboveLow 0 low key
    → IfSome low (λ low. IsTrue (not (is_below key low)))
low_holds None key h = tt
low_holds (Some low) key h = ap not (not_below low key h)

high_holds : (high : Option (List ℕ)) (key : List ℕ) → IsBelowHigh high key
    → IfSome high (λ high. IsTrue (is_below key high))
high_holds None key h = tt
high_holds (Some high) key h = h

pub holds_key : (v : Visit) (key : List ℕ) → trail.HoldsKey v key → HoldsKey v key
holds_key v key holds = (low_holds v.low key holds.above, high_holds v.high key holds.below)

module _ (image : List ℕ) (i : IsImage image) where
  -- each index block on the way is full
  full_along : (root w : Visit) (above : List Ancestor) (level n : ℕ) (v : Visit)
      → AreAncestors image root above w level → AllByRecursion (IsFull (fields_of image)) above → n < length above
      → visit_from image root (take n (steps_to above)) ≡ Some v
      → (fields_of image).block_size < used_of (block_of image v.block) + 2 * (8 + (fields_of image).key_max)
  full_along root w [] level n v lead full low h = absurd (omega (arith, low))
  full_along root w (a ∷ above) level n v lead full low h =
      let front : Steps = steps_to above in
      let step : Steps = (a.visit.block, packed_size a.front) ∷ [] in
      let count : length front ≡ length above = step_count above in
      let on : visit_from image root (take n front) ≡ Some v =
      ap (visit_from image root) (sym (take-append-le n front step (omega (arith, low, count)))) ∙ h in
      ⊎_elim
      (λ (less : n < length above). full_along root a.visit above (suc level) n v lead.1 full.1 less on)
      (λ (more : length above ≤ n).
      let at : n ≡ length front = omega (arith, low, more, count) in
      let all : take n front ≡ front = ap (λ k. take k front) at ∙ take-length front in
      let here : a.visit ≡ v =
      same_some a.visit v (sym (path_of image i root a.visit above (suc level) lead.1)
      ∙ ap (visit_from image root) (sym all) ∙ on) in
      omega (
        arith,
        full.0,
        lead.0.has.right.head.used,
        ap (λ (u : Visit). used_of (block_of image u.block)) here,
      ))
      (cases_lt n (length above))

  module _ (kept : List Steps) (are_kept : AreKept image kept) (all : AllKept image kept) (front : Steps)
      (root : Visit) (to_root : visit_at image front ≡ Some root) (is_root : root.level ≡ None) (key : List ℕ)
      (deep : IsDeepBelow image root key) where
    pub path_to_leaf : visit_at image (front ++ steps_to deep.above) ≡ Some deep.leaf
    path_to_leaf =
        visit_behind image front (steps_to deep.above) directory_root root to_root
        ∙ path_of image i root deep.leaf deep.above 0 deep.lead

    long : length (front ++ steps_to deep.above) ≡ length front + 7
    long = omega (arith, length-append front (steps_to deep.above), step_count deep.above, deep.levels)

    pub deep_at_leaf : IsDeepAt image deep.leaf.block
    deep_at_leaf =
        let path : Steps = front ++ steps_to deep.above in
        let back : length path - 7 ≡ length front = omega (arith, long) in
        record {
          kept = kept;
          are_kept = are_kept;
          path = path;
          is_kept = all path deep.leaf path_to_leaf;
          visit = deep.leaf;
          leads = path_to_leaf;
          here = refl;
          leaf = deep.bottom;
          root = root;
          long = omega (arith, long);
          from_root = ap (λ n. visit_at image (take n path)) back
              ∙ ap (visit_at image) (take-append_seam front (steps_to deep.above)) ∙ to_root;
          is_root = is_root;
          height = deep.height;
          full = λ n v from to h.
              let k : ℕ = n - length front in
              let at : n ≡ length front + k = omega (arith, long, from) in
              full_along root deep.leaf deep.above 0 k v deep.lead deep.full
              (omega (arith, long, from, to, deep.levels, at))
              (sym (visit_behind image front (take k (steps_to deep.above)) directory_root root to_root)
              ∙ ap (visit_at image) (sym (take-append-add front (steps_to deep.above) k))
              ∙ ap (λ m. visit_at image (take m path)) (sym at) ∙ h);
        }
