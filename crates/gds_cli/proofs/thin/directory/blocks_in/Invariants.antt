use Rattle.std.proofs.Common.{◌≡◌, take}
use Rattle.gds_cli.specs.Directory.{blocks_in}
use Rattle.gds_cli.proofs.thin.directory.blocks_in.Given as goal

abbrev pub invariant-loop-tree : goal.invariant-loop-tree
invariant-loop-tree l = l.blocks.items ≡ blocks_in l.directory (take l.tree-index l.trees)
