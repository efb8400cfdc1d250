use Rattle.std.proofs.Common.{◌≡◌, ◌<◌, ◌∙◌, [], length, map, get_or, sym, ap, subst}
use Rattle.std.proofs.lemmas.List.{get_or-map, length-map}
use Rattle.host_model.proofs.FrameLemmas.{WasRead-refl, WasRead-then}
use Rattle.gds_cli.specs.Thin.{Valued, IsGlobal}
use Rattle.gds_cli.specs.Leaf.{valued}
use Rattle.gds_cli.proofs.SayingLemmas.{zip_at}
use Rattle.gds_cli.proofs.DirectoryLemmas.{trees_none, trees_more, map_more}
use Rattle.gds_cli.proofs.thin.directory.read_trees.Goals as goal

pub loop-entry-init : goal.loop-entry-init
loop-entry-init g c = record {
  trees = λ x tells head. rw c.new-trees.ensures.items (trees_none x.db);
  host = WasRead-refl _ _ _;
}

pub returns-in_default-clause-none : goal.returns-in_default-clause-none
returns-in_default-clause-none g c x tells head globals all =
    let i = c.loop-entry.entry-index in
    let es = c.args.entries.now in
    let item = c.entry-item.result in
    let none = rw c.in_default.is at c.in_ok-tree.ensures.none in
    let within : i < length (map valued es) = rw length-map c.loop-entry-test.true in
    let e = zip_at (IsGlobal x.db) (map valued es) globals i (valued item) [] all within in
    let is : get_or (map valued es) i (valued item) ≡ valued item =
    get_or-map valued es i item (valued item) c.loop-entry-test.true ∙ ap valued (sym c.entry-item.is) in
    none x (c.loop-entry.invariant.host.told ∙ tells) head (get_or globals i [])
    (subst (λ (v : Valued). IsGlobal x.db v (get_or globals i [])) is e)

pub loop-entry-preserved : goal.loop-entry-preserved
loop-entry-preserved g c = record {
  trees = λ x tells head.
      let found = rw c.in-Some.is at c.in_ok-tree.ensures.some in
      let here = found x (c.loop-entry.invariant.host.told ∙ tells) head in
      trees_more x.db _ _ _ _ (valued c.entry-item.result) c.in-Some.tree here.1.0
      (c.loop-entry.invariant.trees x tells head)
      (map_more valued c.args.entries.now c.loop-entry.entry-index c.entry-item.result c.loop-entry-test.true
      c.entry-item.is)
      c.in_ok-push.ensures.items here.0 here.1.1;
  host = WasRead-then _ _ _ _ _ c.loop-entry.invariant.host c.in_ok-tree.ensures.host.read;
}
