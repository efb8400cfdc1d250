-- The links of frames where the last one comes, goes or gives one.
use Rattle.std.proofs.Common.{◌≡◌, ℕ, zero, suc, ◌+◌, List, [], ◌∷◌, ◌++◌, length, take, flat_map, slice_index_or}
use Rattle.std.proofs.Common.{slice_set, refl, sym, ap, ◌∙◌, arith, append_assoc}
use Rattle.std.proofs.lemmas.List.{length-take-le, reverse-append}
use Rattle.std.proofs.Math.Seq.{take-append_seam}
use Rattle.integ_walk.specs.Frame.{links_in, all_links}
use Rattle.integ_walk.specs.Link.{Link}
use Rattle.integ_walk.specs.declared.frame.Frame.{Frame}

pub links_push : (frames : List Frame) (frame : Frame)
    → all_links (frames ++ frame ∷ []) ≡ links_in frame ++ all_links frames
unfolding all_links
links_push frames frame = ap (flat_map links_in) (reverse-append frames (frame ∷ []))

last_is : {A : Type 0} (xs : List A) (k : ℕ) (d : A) → k + 1 ≡ length xs → xs ≡ take k xs ++ slice_index_or xs k d ∷ []
last_is [] k d h = absurd (omega arith)
last_is (x ∷ []) zero d h = refl
last_is (x ∷ y ∷ ys) zero d h = absurd (omega arith)
last_is (x ∷ xs) (suc k) d h = ap (λ ys. x ∷ ys) (last_is xs k d (omega arith))

last_set : {A : Type 0} (xs : List A) (k : ℕ) (y : A) → k + 1 ≡ length xs → slice_set xs k y ≡ take k xs ++ y ∷ []
last_set [] k y h = absurd (omega arith)
last_set (x ∷ []) zero y h = refl
last_set (x ∷ z ∷ zs) zero y h = absurd (omega arith)
last_set (x ∷ xs) (suc k) y h = ap (λ ys. x ∷ ys) (last_set xs k y (omega arith))

-- The last frame is changed.
module _ (frames : List Frame) (k : ℕ) (old new : Frame) (last : k + 1 ≡ length frames) (is : old
    ≡ slice_index_or frames k old) where
  -- It gave these links.
  pub links_given : (links : List Link) → links_in old ≡ links ++ links_in new
      → all_links frames ≡ links ++ all_links (slice_set frames k new)
  links_given links given =
      ap all_links (last_is frames k old last)
      ∙ links_push (take k frames) (slice_index_or frames k old)
      ∙ ap (λ f. links_in f ++ all_links (take k frames)) (sym is)
      ∙ ap (λ ls. ls ++ all_links (take k frames)) given
      ∙ append_assoc links (links_in new) (all_links (take k frames))
      ∙ ap (λ ls. links ++ ls) (sym (links_push (take k frames) new))
      ∙ ap (λ fs. links ++ all_links fs) (sym (last_set frames k new last))

  -- It had none, and goes.
  pub links_gone : links_in old ≡ [] → all_links frames ≡ all_links (take k frames)
  links_gone none =
      ap all_links (last_is frames k old last)
      ∙ links_push (take k frames) (slice_index_or frames k old)
      ∙ ap (λ f. links_in f ++ all_links (take k frames)) (sym is)
      ∙ ap (λ ls. ls ++ all_links (take k frames)) none

  pub take_set : take k (slice_set frames k new) ≡ take k frames
  take_set = ap (take k) (last_set frames k new last)
      ∙ take_front (take k frames) (new ∷ []) k (length-take-le k frames (omega arith))
    where
      take_front : (xs ys : List Frame) (n : ℕ) → length xs ≡ n → take n (xs ++ ys) ≡ xs
      take_front xs ys n e = ap (λ m. take m (xs ++ ys)) (sym e) ∙ take-append_seam xs ys

-- No frames have no links.
pub links_none : (frames : List Frame) → length frames ≡ 0 → all_links frames ≡ []
unfolding all_links
links_none [] e = refl
links_none (f ∷ fs) e = absurd (omega (arith, e))
