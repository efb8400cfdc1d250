use Rattle.std.proofs.Common.{◌≡◌, ◌∙◌, ◌∷◌, [], List, map, sym, ap, subst, arith}
use Rattle.std.proofs.lemmas.List.{map-append}
use Rattle.gds_block.specs.Record.{Record, records_of}
use Rattle.gds_block.specs.View.{record_of}
use Rattle.gds_cli.specs.Leaf.{valued, IsListed}
use Rattle.gds_cli.proofs.LeafReadingLemmas.{SoFar, so_far_key, so_far_next, so_far_stops, so_far_all, bytes_of}
use Rattle.gds_cli.proofs.LeafReadingLemmas.{bytes_more, within_used}
use Rattle.gds_cli.proofs.thin.leaf.read_nodes.Goals as goal
use Rattle.gds_cli.proofs.thin.leaf.read_nodes.Goals.{After-as_slice, then-end-used, else-end-used}

pub overflow_add-end-in-loop-view : goal.overflow_add-end-in-loop-view
overflow_add-end-in-loop-view c =
    let more =
    bytes_more (record_of c.in-Some.view) c.next.new.self c.loop-view.view-iterator c.in-Some.ensures.steps in
    let room = within_used c.args.block.now c.used-used.ensures.within in
    omega (arith, more, room, c.used-used.ensures.value)

-- what is known before a record, with its key as it was passed
before : (c : After-as_slice)
    → SoFar c.args.header.now (records_of c.args.block.now) c.as_slice.result.now
    (record_of c.in-Some.view ∷ c.next.new.self) (map valued c.loop-view.nodes.items)
before c =
    so_far_key c.args.header.now (records_of c.args.block.now) c.loop-view.key.items c.as_slice.result.now
    (record_of c.in-Some.view ∷ c.next.new.self) (map valued c.loop-view.nodes.items)
    (subst
    (λ (left : List Record). SoFar c.args.header.now (records_of c.args.block.now) c.loop-view.key.items left
    (map valued c.loop-view.nodes.items)) c.in-Some.ensures.steps c.loop-view.invariant.so_far)
    (sym c.as_slice.ensures.value)

pub returns-in_default-clause-none : goal.returns-in_default-clause-none
returns-in_default-clause-none c vs listed =
    so_far_stops c.args.header.now (records_of c.args.block.now) c.as_slice.result.now
    (record_of c.in-Some.view) c.next.new.self (map valued c.loop-view.nodes.items)
    (before (goal.at.returns-in_default-clause-none c).After-as_slice)
    (rw c.in_default.is at c.in_ok-next.ensures.none) vs listed.records

pub loop-view-preserved : goal.loop-view-preserved
loop-view-preserved c =
    let more =
    bytes_more (record_of c.in-Some.view) c.next.new.self c.loop-view.view-iterator c.in-Some.ensures.steps in
    let counted = c.loop-view.invariant.counted in
    let some = rw c.in-Some-2.is at c.in_ok-next.ensures.some in
    let key = rw c.in-Some-2.is at c.in_ok-next.ensures.key in
    let nodes =
    ap (map valued) c.in_ok-push.ensures.items
    ∙ map-append valued c.loop-view.nodes.items (c.in-Some-2.node ∷ []) in
    record {
      ready = tt;
      finite = tt;
      counted = omega (arith, more);
      so_far =
          so_far_next c.args.header.now (records_of c.args.block.now) c.as_slice.result.now c.in-Some-2.next.items
          (record_of c.in-Some.view) c.next.new.self
          (map valued c.loop-view.nodes.items) (map valued c.push.new.self.items) (valued c.in-Some-2.node)
          (before (goal.at.loop-view-preserved c).After-as_slice) some key nodes;
    }

pub returns-clause-some : goal.returns-clause-some
returns-clause-some c =
    let left = c.in-None.ensures.steps.0 in
    elim c.if-end-used.branch [
      | then-end-used w ↦
          let ended : bytes_of c.loop-view.view-iterator ≡ 0 = ap bytes_of left in
          let counted = c.loop-view.invariant.counted in
          let listed : IsListed c.args.header.now c.args.block.now (map valued c.loop-view.nodes.items) = record {
            whole = omega (arith, ended, w.if-end-used.true, c.used-used.ensures.value);
            records =
                so_far_all c.args.header.now
                (records_of c.args.block.now) c.loop-view.key.items c.loop-view.view-iterator
                (map valued c.loop-view.nodes.items) c.loop-view.invariant.so_far left;
          } in
          rw w.result-is listed
      | else-end-used w ↦ rw w.result-is tt
    ]
