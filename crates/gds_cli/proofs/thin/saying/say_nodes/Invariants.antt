use Rattle.std.proofs.Common.{◌≡◌, Some, flat_map, map, take}
use Rattle.std.specs.Option.{ForSome}
use Rattle.host_model.specs.Files.{saying}
use Rattle.host_model.specs.Failures.{NeverFell}
use Rattle.m_text.specs.Extract.{zwr_node}
use Rattle.gds_cli.specs.Leaf.{valued}
use Rattle.gds_cli.proofs.thin.saying.say_nodes.Given as goal

-- the lines so far were said
abbrev pub invariant-loop-node : goal.invariant-loop-node
invariant-loop-node g l = record {
  said : ForSome (g.H.Host.told l.fn.host)
      (λ c. g.H.Host.told l.host ≡ Some (saying c (flat_map zwr_node (take l.node-index (map valued l.nodes)))));
  failures : NeverFell (g.H.Host.failures l.fn.host) (g.H.Host.failures l.host);
}
