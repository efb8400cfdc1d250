use Rattle.std.proofs.Common.{◌≤◌, ◌∙◌, ap, subst, sym}
use Rattle.gds_draft.specs.Draft.{DraftState}
use Rattle.gds_draft.proofs.DraftLemmas.{blocks_of_longer}
use Rattle.gds_draft.proofs.draft.Draft.put_header.Goals as goal

pub invariant_of-self : goal.invariant_of-self
invariant_of-self c = record {
  limits = c.requires.limits;
  reads = c.reads_again.ensures;
  rising = c.self.invariant.rising;
  blocks =
      blocks_of_longer c.self.inside.header c.args.header.now c.self.inside.blocks.units
      (c.requires.block_size ∙ ap (λ (draft : DraftState). draft.header.block_size) (sym c.self.view_is))
      (subst (λ (draft : DraftState). draft.header.total ≤ c.args.header.now.total) (sym c.self.view_is)
      c.requires.total)
      c.self.invariant.blocks;
}
