use Rattle.std.proofs.Common.{◌∙◌, []}
use Rattle.gds_units.specs.State.{image_of}
use Rattle.gds_splice.proofs.AboveLemmas.{number_bytes}
use Rattle.gds_globals.proofs.PlantingLemmas.{puts_both}
use Rattle.gds_globals.proofs.planting.put_tree.Goals as goal

pub returns-clause-put : goal.returns-clause-put
returns-clause-put g c =
    let bytes = c.to_le_bytes.ensures ∙ number_bytes c.args.leaf in
    puts_both (image_of c.args.base.now) c.args.draft.now c.put_one.new.draft c.put_one-2.new.draft c.args.root
    c.args.leaf _ (record { key = c.args.key.now; rest = c.args.value.now }) c.put_one-2.result
    (λ i. record { key = []; rest = bytes i }) c.in_ok-put_one.ensures.put c.put_one-2.ensures.put
