use Rattle.std.proofs.Common.{◌≡◌, ◌<◌, ◌∙◌, map, length, get_or, subst, sym, ap}
use Rattle.std.proofs.lemmas.List.{get_or-map, length-map}
use Rattle.m_key.specs.Reference.{name_bytes}
use Rattle.gds_cli.specs.Leaf.{valued}
use Rattle.gds_cli.specs.Directory.{IsNodeOf}
use Rattle.gds_cli.proofs.DirectoryLemmas.{all_at}
use Rattle.gds_cli.proofs.thin.directory.are_nodes_of.Goals as goal

pub returns-then-not-is_node_of : goal.returns-then-not-is_node_of
returns-then-not-is_node_of c =
    let h = c.args.header.now in
    let name = name_bytes c.args.name.now in
    let xs = c.args.nodes.now in
    let i = c.loop-node.node-index in
    let item = c.node-item.result in (
      λ no. cc,
      λ nodes.
          let within : i < length (map valued xs) = rw length-map c.loop-node-test.true in
          let here = all_at (IsNodeOf h name) (map valued xs) i (valued item) nodes.each within in
          let is : get_or (map valued xs) i (valued item) ≡ valued item =
          get_or-map valued xs i item (valued item) c.loop-node-test.true ∙ ap valued (sym c.node-item.is) in
          let yes = c.is_node_of.ensures.1 (subst (IsNodeOf h name) is here) in
          let no = c.if-not-is_node_of.true in cc,
    )
