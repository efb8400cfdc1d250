use Rattle.std.proofs.Common.{rules, ◌≡◌, true, false, sym, ap, ◌∙◌}
use Rattle.std.specs.Ordering.{is_lt}
use Rattle.gds_law.specs.Record.{is_below}
use Rattle.gds_pack.specs.Entry.{item}
use Rattle.gds_units.specs.State.{image_of}
use Rattle.gds_globals.proofs.FirstLemmas.{first_found, none_found}
use Rattle.gds_globals.proofs.taking.has_within.Goals as goal

pub returns-then-not-branch-clause-within : goal.returns-then-not-branch-clause-within
returns-then-not-branch-clause-within g c =
    let is : c.in_ok-next.field-0 ≡ false = search rules in
    none_found (image_of c.args.base.now) c.args.draft.now c.args.root c.args.key.now c.in_ok-next.field-0
    (item c.next.new.entry) is c.in_ok-next.ensures.next

pub returns-clause-within : goal.returns-clause-within
returns-clause-within g c =
    let is : c.in_ok-next.field-0 ≡ true = search rules in
    first_found (image_of c.args.base.now) c.args.draft.now c.args.root c.args.key.now c.in_ok-next.field-0
    (item c.next.new.entry) is c.in_ok-next.ensures.next c.is_lt.result
    (λ node e.
    (λ i. is_below (sym c.as_slice.ensures.value i) ((sym (c.past_key-past.ensures node e)
    ∙ sym c.as_slice-2.ensures.value) i))
    ∙ ap is_lt (sym c.cmp.ensures) ∙ sym c.is_lt.ensures)
