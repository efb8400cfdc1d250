use Rattle.std.proofs.Common.{◌≡◌, ◌<◌, ◌++◌, List, ℕ, length, ap, sym, ◌∙◌, subst, arith}
use Rattle.std.specs.Prelude.{All}
use Rattle.std.proofs.lemmas.List.Elements.{All-append}
use Rattle.gds_draft.specs.Drafted.{drafted}
use Rattle.gds_header.specs.declared.header.Header.{Header}
use Rattle.gds_pack.specs.Entry.{items}
use Rattle.gds_pack.specs.declared.entry.Entry.{Entry}
use Rattle.gds_splice.specs.Parts.{FitInRuns}
use Rattle.gds_splice.proofs.DividedLemmas.{both_ok, divides_by}
use Rattle.gds_splice.proofs.DraftingLemmas.{same_image, same_total}
use Rattle.gds_splice.proofs.EntriesPutLemmas.{drafted_fields}
use Rattle.gds_splice.proofs.dividing.divide.Goals as goal

pub write_pieces-requires-clause-within : goal.write_pieces-requires-clause-within
write_pieces-requires-clause-within g c =
    let h = g.H.Host in
    let total = c.args.draft.now.header.total in
    let same : c.take_blocks.new.draft.header.total ≡ total =
    same_total h.told h.moment h.failures h.left_since c.args.base.now c.take_blocks.new.base c.args.draft.now
    c.take_blocks.new.draft _ c.in_ok-fresh.ensures.drafts in
    subst (λ (n : ℕ). All (λ m. m < n) c.as_slice-3.result.now) (sym same)
    (subst (All (λ m. m < total))
    (sym (c.as_slice-3.ensures.value ∙ c.both-numbers.ensures
    ∙ ap (λ ns. c.args.kept.now ++ ns) c.as_slice.ensures.value))
    (All-append (λ m. m < total) c.args.kept.now c.in_ok-fresh.fresh.items c.requires.within
    c.in_ok-fresh.ensures.within))

pub returns-clause-divided : goal.returns-clause-divided
returns-clause-divided g c =
    let h = g.H.Host in
    let list : List Entry = c.args.node.entries.items in
    both_ok c.write_pieces.result c.write_pieces.ensures.put c.write_pieces.ensures.parts
    (λ parts put told image is lawful busy.
    divides_by (drafted c.args.draft.now image) (drafted c.take_blocks.new.draft image)
    (drafted c.write_pieces.new.draft image) c.args.kept.now c.in_ok-fresh.fresh.items c.as_slice-2.result.now
    c.as_slice-3.result.now c.args.node.level c.args.base.now.header.block_size (items list) parts lawful busy
    c.requires.one (c.in_ok-fresh.ensures.taken image is lawful)
    (c.as_slice-3.ensures.value ∙ c.both-numbers.ensures
    ∙ ap (λ ns. c.args.kept.now ++ ns) c.as_slice.ensures.value)
    (omega (arith, c.as_slice-2.ensures.fits))
    (omega (arith, c.in_ok-fresh.ensures.count, c.len.ensures.value, ap length c.as_slice-2.ensures.value))
    (ap (λ (x : Header). x.block_size) (drafted_fields image c.args.draft.now (c.hold_draft.ensures image is))
    ∙ c.requires.draft.block_size)
    (subst (λ ks. FitInRuns c.args.base.now.header.block_size ks (items list)) (sym c.as_slice-2.ensures.value)
    (subst (λ (x : Header). FitInRuns x.block_size c.in-Some.lengths.items (items list)) c.header.ensures.header
    (subst (λ (es : List Entry). FitInRuns c.header.result.now.block_size c.in-Some.lengths.items (items es))
    c.deref.ensures.value c.in-Some.ensures.some)))
    (put image (same_image h.told h.moment h.failures h.left_since c.args.base.now c.take_blocks.new.base
    c.in_ok-fresh.ensures.drafts.read ∙ is)) told)
