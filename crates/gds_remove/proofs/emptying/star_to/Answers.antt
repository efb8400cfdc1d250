use Rattle.std.proofs.Common.{◌≡◌, ◌∙◌}
use Rattle.gds_block.specs.Fields.{u32_bytes}
use Rattle.gds_splice.proofs.AboveLemmas.{number_bytes}
use Rattle.gds_remove.proofs.emptying.star_to.Goals as goal

pub returns : goal.returns
returns c =
    let rest : c.in_ok-rest.rest.items ≡ u32_bytes c.args.n =
    c.in_ok-rest.ensures.items ∙ c.to_le_bytes.ensures ∙ number_bytes c.args.n in
    (λ k. record { key = c.key_from.ensures k; rest = rest k })
