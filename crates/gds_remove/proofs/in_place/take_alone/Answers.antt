use Rattle.std.proofs.Common.{List, ℕ, [], not, sym, ◌∙◌, subst}
use Rattle.gds_edit.specs.Edited.{IsEdited}
use Rattle.gds_pack.specs.Packable.{AreLeaves}
use Rattle.gds_remove.specs.Alone.{TakesAlone, between}
use Rattle.gds_remove.specs.Range.{is_in}
use Rattle.gds_remove.proofs.AloneLemmas.{on_true}
use Rattle.gds_remove.proofs.LeftItemsLemmas.{filter_leaves}
use Rattle.gds_remove.proofs.in_place.take_alone.Goals as goal

pub returns : goal.returns
returns c =
    let low : List ℕ = c.args.low.now in
    let high : List ℕ = c.args.high.now in
    let old : List ℕ = c.args.bytes.now in
    let new : List ℕ = c.remove.new.block in record {
      taken = on_true (TakesAlone old new low high) c.is_ok.result (λ es packed.
          let a = c.in-Some.ensures es packed in
          let left = subst (AreLeaves []) a.left_are
          (filter_leaves (λ e. not (is_in (between low high) e.key)) [] es packed.packable) in
          let removed = c.remove.ensures.removed 0 low es a.before a.behind a.own packed a.place_is left in
          (λ none. a.some (sym a.left_are ∙ none), subst (IsEdited old new 0) (sym a.left_are) removed.1));
    }
