use Rattle.std.proofs.Common.{map, string_bytes, sym, ◌∙◌}
use Rattle.gds_words.specs.declared.qualifier.Qualifier.TheVariants.{Block, Key, Alloc, Ext, Limit}
use Rattle.gds_words.proofs.CreateLemmas.{allowed_at, fit_at, within_limits}
use Rattle.gds_words.proofs.create.read_create.Goals as goal

pub returns-clause-limits : goal.returns-clause-limits
returns-clause-limits c =
    let words = map string_bytes c.args.words.now in
    λ h block key value alloc ext limit.
    within_limits h
    (allowed_at Block words h.block_size (block ∙ c.number_in-block.ensures))
    (allowed_at Key words h.key_max (key ∙ c.number_in-key.ensures))
    (allowed_at Alloc words h.total (alloc ∙ c.number_in-alloc.ensures))
    (allowed_at Ext words h.extension (ext ∙ c.number_in-ext.ensures))
    (allowed_at Limit words h.limit (limit ∙ c.number_in-limit.ensures))
    (fit_at h.block_size h.key_max h.value_max h.total h.limit _ _ _ _ _ block key value alloc limit
    (sym c.fit.ensures ∙ c.if-not-fit.false))
