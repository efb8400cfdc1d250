use Rattle.std.proofs.Common.{◌+◌, ◌<◌, ◌∙◌, ap, subst, sym}
use Rattle.std.specs.List.{All}
use Rattle.gds_epoch.specs.Waiting.{IsRising, WaitingUnit}
use Rattle.gds_epoch.proofs.PatchLemmas.{rising-with_unit}
use Rattle.gds_draft.specs.Draft.{DraftState, IsBlockOf}
use Rattle.gds_draft.proofs.DraftLemmas.{blocks_with}
use Rattle.gds_draft.proofs.draft.Draft.put_vec.Goals as goal

pub invariant_of-self-2 : goal.invariant_of-self-2
invariant_of-self-2 c =
    let h = c.self.inside.header in
    let units = c.reserve.new.self.units in
    let new : WaitingUnit = record { unit = c.args.block + 1; bytes = c.args.bytes.items } in
    let low =
    subst (λ (draft : DraftState). c.args.block < draft.header.total) (sym c.self.view_is) c.requires.within in
    let size = c.requires.size ∙ ap (λ (draft : DraftState). draft.header.block_size) (sym c.self.view_is) in
    let rising = subst IsRising (sym c.reserve.ensures.same) c.self.invariant.rising in
    let before = subst (All (IsBlockOf h)) (sym c.reserve.ensures.same) c.self.invariant.blocks in
    record {
      limits = c.self.invariant.limits;
      reads = c.self.invariant.reads;
      rising = subst IsRising (sym c.put_reserved.ensures.put) (rising-with_unit units new rising);
      blocks =
          subst (All (IsBlockOf h)) (sym c.put_reserved.ensures.put)
          (blocks_with h units c.args.block c.args.bytes.items low size before);
    }
