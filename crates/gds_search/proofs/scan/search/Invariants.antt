use Rattle.std.proofs.Common.{ℕ, List, ◌≤◌, length}
use Rattle.std.specs.Prelude.{All}
use Rattle.gds_block.specs.Record.{StandsIn}
use Rattle.gds_block.specs.Item.{Item}
use Rattle.m_key.specs.KeyEnd.{IsKey}
use Rattle.gds_search.specs.PackedBlock.{IsPackedBlock}
use Rattle.gds_search.proofs.ReachedLemmas.{IsReached}
use Rattle.gds_search.proofs.scan.search.Given as goal

abbrev pub invariant-loop-view : goal.invariant-loop-view
invariant-loop-view l = record {
  next : (goal.iterator-loop-view).can_next l.view-iterator;
  finite : (goal.iterator-loop-view).is_finite l.view-iterator;
  within : l.shared ≤ length l.key;
  placed : All (StandsIn l.block) l.view-iterator;
  reached : (height : ℕ) (es : List Item) → IsKey l.key → IsPackedBlock l.block height es
      → IsReached es l.key height l.shared l.view-iterator;
}
