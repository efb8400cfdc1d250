use Rattle.std.proofs.Common.{◌≡◌, Some, List, flat_map, take}
use Rattle.std.specs.Option.{ForSome}
use Rattle.std.specs.List.{AllZip}
use Rattle.host_model.specs.Files.{saying}
use Rattle.host_model.specs.Failures.{NeverFell}
use Rattle.m_text.specs.Extract.{zwr_node}
use Rattle.gds_cli.specs.Thin.{Valued}
use Rattle.gds_cli.specs.SoundHeader.{IsHeaderOf}
use Rattle.gds_cli.specs.Leaf.{IsLeafAt}
use Rattle.gds_cli.proofs.thin.saying.say_leaves.Given as goal

-- the lines of the leaves so far were said
abbrev pub invariant-loop-leaf : goal.invariant-loop-leaf
invariant-loop-leaf g l = record {
  said : ForSome (g.H.Host.told l.fn.host) (λ c. (globals : List (List Valued)) → IsHeaderOf l.header c.db
      → AllZip (IsLeafAt l.header c.db) l.leaves globals
      → g.H.Host.told l.host ≡ Some (saying c (flat_map (flat_map zwr_node) (take l.leaf-index globals))));
  failures : NeverFell (g.H.Host.failures l.fn.host) (g.H.Host.failures l.host);
}
