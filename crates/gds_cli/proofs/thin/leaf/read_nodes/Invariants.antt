use Rattle.std.proofs.Common.{◌≡◌, ◌+◌, map}
use Rattle.gds_block.specs.Record.{records_of}
use Rattle.gds_cli.specs.Leaf.{valued}
use Rattle.gds_cli.proofs.LeafReadingLemmas.{SoFar, bytes_of}
use Rattle.gds_cli.proofs.thin.leaf.read_nodes.Given as goal

abbrev pub invariant-loop-view : goal.invariant-loop-view
invariant-loop-view l = record {
  ready : (goal.iterator-loop-view).can_next l.view-iterator;
  finite : (goal.iterator-loop-view).is_finite l.view-iterator;
  counted : l.end + bytes_of l.view-iterator ≡ 16 + bytes_of (records_of l.block);
  so_far : SoFar l.header (records_of l.block) l.key.items l.view-iterator (map valued l.nodes.items);
}
