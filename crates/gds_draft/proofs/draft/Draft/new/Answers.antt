use Rattle.std.proofs.Common.{arith, subst, sym}
use Rattle.std.proofs.lemmas.List.Elements.{All-nil}
use Rattle.std.specs.List.{All}
use Rattle.gds_epoch.specs.Waiting.{IsRising}
use Rattle.gds_draft.specs.Draft.{IsBlockOf}
use Rattle.gds_draft.proofs.draft.Draft.new.Goals as goal

pub invariant_of-result : goal.invariant_of-result
invariant_of-result c = record {
  limits = c.requires;
  reads = c.reads_again.ensures;
  rising = subst IsRising (sym c.new.ensures) (λ i j d less within. absurd (omega (arith, within)));
  blocks = subst (All (IsBlockOf c.args.header.now)) (sym c.new.ensures) (All-nil (IsBlockOf c.args.header.now));
}
