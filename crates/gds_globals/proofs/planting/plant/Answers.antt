use Rattle.std.proofs.Common.{ℕ, ◌∙◌, arith}
use Rattle.gds_draft.specs.Drafted.{drafted}
use Rattle.gds_splice.proofs.DraftingLemmas.{ends_exit, same_image}
use Rattle.gds_globals.proofs.PlantingLemmas.{planted}
use Rattle.gds_globals.proofs.planting.plant.Goals as goal

pub returns-in_err-leaf-clause-ends : goal.returns-in_err-leaf-clause-ends
returns-in_err-leaf-clause-ends g c =
    let h = g.H.Host in
    let same = same_image h.told h.moment h.failures h.left_since c.args.base.now c.take_block.new.self
    c.take_block.ensures.drafts.read in
    ends_exit ℕ ℕ (h.failures c.args.base.now.host) (h.failures c.take_block.new.self.host)
    (h.failures c.take_block-2.new.self.host) _ _ c.in_err-leaf.field-0.0 c.from_residual-in_err-leaf.result
    c.take_block.ensures.drafts.read.read.failures
    (λ none image is lawful enough.
    none image (same ∙ is) (c.in_ok-root.ensures.taken image is lawful).lawful
    (omega (arith, enough, c.in_ok-root.ensures.one))) c.from_residual-in_err-leaf.ensures.1
    c.in_err-leaf.ensures.ends

pub returns-clause-planted : goal.returns-clause-planted
returns-clause-planted g c image is lawful =
    let h = g.H.Host in
    let one = same_image h.told h.moment h.failures h.left_since c.args.base.now c.take_block.new.self
    c.take_block.ensures.drafts.read in
    let two = same_image h.told h.moment h.failures h.left_since c.take_block.new.self c.take_block-2.new.self
    c.take_block-2.ensures.drafts.read in
    let first = c.in_ok-root.ensures.taken image is lawful in
    planted (drafted c.args.draft.now image) (drafted c.take_block.new.draft image)
    (drafted c.take_block-2.new.draft image) (drafted c.put_tree.new.draft image) c.in_ok-root.root c.in_ok-leaf.leaf _
    lawful first (c.in_ok-leaf.ensures.taken image (one ∙ is) first.lawful)
    (c.in_ok-put_tree.ensures.put image (two ∙ one ∙ is))
