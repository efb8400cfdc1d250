use Rattle.std.proofs.Common.{List, refl, subst}
use Rattle.std.specs.Prelude.{◌↔◌, IsTrue}
use Rattle.host_model.proofs.FailureLemmas.{NeverFell-refl}
use Rattle.gds_block.specs.Item.{Item}
use Rattle.gds_pack.specs.declared.entry.Entry.{Entry}
use Rattle.gds_pack.specs.Entry.{items}
use Rattle.gds_pack.specs.Packable.{ArePackable}
use Rattle.gds_units.specs.State.{image_of}
use Rattle.gds_splice.specs.declared.node.Node.{Node}
use Rattle.gds_splice.proofs.DraftingLemmas.{ends_exit}
use Rattle.gds_insert.proofs.NodeLemmas.{cannot_have_others, cannot_have_read, has_item_at}
use Rattle.gds_insert.proofs.reading.read_with_item.Goals as goal

pub returns-in_err-node-clause-ends : goal.returns-in_err-node-clause-ends
returns-in_err-node-clause-ends g c =
    let now = g.H.Host.failures c.args.base.now.host in
    let item : Item = record { key = c.args.key.now; rest = c.args.rest.now } in
    ends_exit Node Node now now (g.H.Host.failures c.read_node.new.base.host) _ _ c.in_err-node.field-0.0
    c.from_residual.result (NeverFell-refl now)
    (cannot_have_read (image_of c.args.base.now) c.args.draft.now c.args.step c.args.is_equal item c.hold_draft.ensures)
    c.from_residual.ensures.1 c.in_err-node.ensures.ends

pub returns-then-not-is_packable-clause-ends : goal.returns-then-not-is_packable-clause-ends
returns-then-not-is_packable-clause-ends g c =
    let item : Item = record { key = c.args.key.now; rest = c.args.rest.now } in
    cannot_have_others (image_of c.args.base.now) c.args.draft.now c.args.step c.args.is_equal item c.in_ok-node.node
    c.set_item.new.entries.items c.in_ok-node.ensures.node c.in_ok-set_item.ensures c.is_packable.result
    (subst (λ (xs : List Entry). IsTrue c.is_packable.result ↔ ArePackable c.in_ok-node.node.level (items xs))
    c.deref.ensures.value c.is_packable.ensures) c.if-not-is_packable.true

pub returns-clause-item : goal.returns-clause-item
returns-clause-item g c =
    let item : Item = record { key = c.args.key.now; rest = c.args.rest.now } in
    has_item_at (image_of c.args.base.now) c.args.draft.now c.args.step c.args.is_equal item c.in_ok-node.node
    c.set_item.new.entries.items c.in_ok-node.ensures.node c.in_ok-set_item.ensures _ refl refl
