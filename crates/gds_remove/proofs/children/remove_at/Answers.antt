use Rattle.std.proofs.Common.{◌+◌, ◌++◌, List, take, drop, refl, sym, ap, ◌∙◌}
use Rattle.gds_pack.specs.Entry.{items}
use Rattle.gds_pack.specs.declared.entry.Entry.{Entry}
use Rattle.gds_remove.proofs.TakeOutLemmas.{removed}
use Rattle.gds_remove.proofs.children.remove_at.Goals as goal

pub returns-in_default : goal.returns-in_default
returns-in_default c = λ front e back is at.
    absurd (c.in_default.ensures.none front e back (ap items c.deref.ensures.value ∙ is) at)

pub returns : goal.returns
returns c = λ front e back is at.
    let xs : List Entry = c.deref.result.now in
    let k = c.in-Some.at in (
      refl,
      ap items c.remove.ensures.by_index.2
          ∙ ap (λ (es : List Entry). items (take k es ++ drop (k + 1) es)) (sym c.deref.ensures.value)
          ∙ removed xs k c.args.offset front e back c.in-Some.ensures.found.0 c.in-Some.ensures.found.1
          (ap items c.deref.ensures.value ∙ is) at,
    )
