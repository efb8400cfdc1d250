use Rattle.std.proofs.Common.{inl, inr, ap, ◌∙◌}
use Rattle.gds_block.specs.Item.{Item}
use Rattle.gds_pack.specs.Entry.{items}
use Rattle.gds_insert.specs.Leaf.{with_item}
use Rattle.gds_insert.proofs.EntryLemmas.{IsKept, item_put}
use Rattle.gds_insert.proofs.entries.set_item.Goals as goal
use Rattle.gds_insert.proofs.entries.set_item.Goals.{then-is_equal, else-is_equal}

pub returns : goal.returns
returns c = λ front back is size.
    let list = c.args.entries.now.items in
    let at = c.place_of-at.result in
    let long = c.place_of-at.ensures.front front back (ap items c.deref.ensures.value ∙ is) size in
    let kept : IsKept list at c.args.is_equal c.if-is_equal.entries.items =
    elim c.if-is_equal.branch [
      | then-is_equal w ↦ inl (w.if-is_equal.true, ap (λ v. v.items) w.entries-is ∙ w.take_out.ensures.gone)
      | else-is_equal w ↦ inr (w.if-is_equal.false, ap (λ v. v.items) w.entries-is)
    ] in
    ap items c.in_ok-insert.ensures.items
    ∙ item_put list at front back is long c.args.is_equal c.if-is_equal.entries.items _ kept
    ∙ ap (λ (i : Item). with_item c.args.is_equal front back i) (λ k. record {
      key = c.key_from-key.ensures k;
      rest = c.in_ok-rest.ensures.items k;
    })
