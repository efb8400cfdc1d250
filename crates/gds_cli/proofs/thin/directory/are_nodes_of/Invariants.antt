use Rattle.std.proofs.Common.{map, take}
use Rattle.std.specs.List.{AllByRecursion}
use Rattle.m_key.specs.Reference.{name_bytes}
use Rattle.gds_cli.specs.Leaf.{valued}
use Rattle.gds_cli.specs.Directory.{IsNodeOf}
use Rattle.gds_cli.proofs.thin.directory.are_nodes_of.Given as goal

-- those so far are of the global
abbrev pub invariant-loop-node : goal.invariant-loop-node
invariant-loop-node l = AllByRecursion (IsNodeOf l.header (name_bytes l.name)) (map valued (take l.node-index l.nodes))
