use Rattle.std.proofs.Common.{drop}
use Rattle.gds_base.specs.Drafting.{Drafts}
use Rattle.gds_pack.specs.Entry.{items}
use Rattle.gds_remove.specs.Killed.{OnlyWrites}
use Rattle.gds_remove.proofs.FreeingLemmas.{FreesSoFar}
use Rattle.gds_remove.proofs.freeing.+free_below.Given as goal

abbrev pub decreases-free_below : goal.decreases-free_below
decreases-free_below g l = l.level

-- the children of the entries so far are free, with all below them
abbrev pub invariant-loop-entry : goal.invariant-loop-entry
invariant-loop-entry g l = record {
  only : OnlyWrites g.H.Host.told g.H.Host.moment g.H.Host.failures g.H.Host.left_since l.fn.base l.base l.fn.draft
      l.draft 0;
  frees : Drafts l.fn.base l.fn.draft l.draft (FreesSoFar l.n l.level (items (drop l.entry-index l.entry-items)));
}
