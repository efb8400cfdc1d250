use Rattle.std.proofs.Common.{map, take}
use Rattle.std.specs.Option.{ForSome}
use Rattle.host_model.specs.Frames.{WasRead}
use Rattle.gds_cli.specs.Leaf.{valued}
use Rattle.gds_cli.specs.SoundHeader.{IsHeaderOf}
use Rattle.gds_cli.specs.Directory.{AreTrees}
use Rattle.gds_cli.proofs.thin.directory.read_trees.Given as goal

-- the entries so far lead to the trees so far
abbrev pub invariant-loop-entry : goal.invariant-loop-entry
invariant-loop-entry g l = record {
  trees : ForSome (g.H.Host.told l.fn.host) (λ c. IsHeaderOf l.header c.db
      → AreTrees c.db (map valued (take l.entry-index l.entries)) l.trees.items);
  host : WasRead g.H.Host.told g.H.Host.failures l.fn.host l.host;
}
