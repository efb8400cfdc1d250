use Rattle.std.proofs.Common.{◌∙◌, ap, rules}
use Rattle.std.proofs.lemmas.Fn.{filter_same}
use Rattle.gds_pack.specs.Entry.{items}
use Rattle.gds_remove.specs.Range.{range_of}
use Rattle.gds_remove.proofs.LeftItemsLemmas.{items_left}
use Rattle.gds_remove.proofs.leaf.retain_outside.Goals as goal

pub returns : goal.returns
returns c =
    ap items (filter_same _ _ _ (λ x b f' k. search rules) _ _ c.retain.ensures.filtered)
    ∙ items_left (range_of c.args.range.now) c.args.entries.now.items
