use Rattle.std.proofs.Common.{ap, sym, ◌∙◌}
use Rattle.std.proofs.lemmas.Result.{on_ok_weaker}
use Rattle.host_model.proofs.FailureLemmas.{NeverFell-refl, NeverFell-trans}
use Rattle.gds_header.specs.declared.header.Header.{Header}
use Rattle.gds_units.specs.State.{image_of}
use Rattle.gds_splice.specs.declared.node.Node.{Node}
use Rattle.gds_splice.specs.declared.parts.Parts.{Parts}
use Rattle.gds_splice.proofs.DraftingLemmas.{same_header, same_image}
use Rattle.gds_splice.proofs.EndingLemmas.{parting_ends, reading_exit}
use Rattle.gds_insert.proofs.ToldLemmas.{all_deep, all_set, cannot_divide, cannot_have, cannot_part}
use Rattle.gds_insert.proofs.in_pieces.set_in_pieces.Goals as goal

pub returns-in_err-node-clause-ends : goal.returns-in_err-node-clause-ends
returns-in_err-node-clause-ends g c =
    let a = c.args in
    let first = g.H.Host.failures a.base.now.host in
    reading_exit Node Unit first first (g.H.Host.failures c.read_with_item.new.base.host) _ _ _
    c.in_err-node.field-0.0 c.from_residual.result (NeverFell-refl first)
    (cannot_have (image_of a.base.now) a.draft.now a.key.now a.rest.now a.place.now a.above.now a.leaf)
    c.from_residual.ensures.1 c.in_err-node.ensures.ends

pub returns-in_err-parts-clause-ends : goal.returns-in_err-parts-clause-ends
returns-in_err-parts-clause-ends g c =
    let h = g.H.Host in
    let a = c.args in
    let r = c.read_with_item in
    let header = same_header h.told h.moment h.failures h.left_since a.base.now r.new.base r.ensures.read in
    let same = same_image h.told h.moment h.failures h.left_since a.base.now r.new.base r.ensures.read in
    reading_exit Parts Unit (h.failures a.base.now.host) (h.failures r.new.base.host)
    (h.failures c.divide.new.base.host) _ _ _ c.in_err-parts.field-0.0 c.from_residual-in_err-parts.result
    r.ensures.read.read.failures
    (cannot_divide (image_of a.base.now) a.draft.now a.key.now a.rest.now a.place.now a.above.now a.leaf
    (image_of r.new.base) same c.in_ok-node.node c.in_ok-node.ensures.item r.new.base.header c.hold_draft.ensures
    (c.requires.draft.block_size ∙ ap (λ (x : Header). x.block_size) (sym header)))
    c.from_residual-in_err-parts.ensures.1 c.in_err-parts.ensures.ends

pub returns-clause-set : goal.returns-clause-set
returns-clause-set g c =
    let h = g.H.Host in
    let a = c.args in
    let r = c.read_with_item in
    let d = c.divide in
    on_ok_weaker c.part.result (all_set (image_of a.base.now) a.draft.now a.key.now a.rest.now a.place.now a.above.now
    a.leaf (image_of r.new.base)
    (same_image h.told h.moment h.failures h.left_since a.base.now r.new.base r.ensures.read) c.in_ok-node.node
    c.in_ok-node.ensures.item (image_of d.new.base)
    (same_image h.told h.moment h.failures h.left_since r.new.base d.new.base d.ensures.drafts.read) d.new.draft
    c.part.new.draft c.in_ok-parts.parts c.in_ok-parts.ensures.divided) c.part.ensures.parted

pub returns-clause-ends : goal.returns-clause-ends
returns-clause-ends g c =
    let h = g.H.Host in
    let a = c.args in
    let r = c.read_with_item in
    let d = c.divide in
    let same = same_image h.told h.moment h.failures h.left_since a.base.now r.new.base r.ensures.read in
    let same' = same_image h.told h.moment h.failures h.left_since r.new.base d.new.base d.ensures.drafts.read in
    parting_ends Unit (h.failures a.base.now.host) (h.failures d.new.base.host) (h.failures c.part.new.base.host) _ _ _
    _ c.part.result (NeverFell-trans (h.failures a.base.now.host) (h.failures r.new.base.host)
    (h.failures d.new.base.host) r.ensures.read.read.failures d.ensures.drafts.read.read.failures)
    (cannot_part (image_of a.base.now) a.draft.now a.key.now a.rest.now a.place.now a.above.now a.leaf
    (image_of r.new.base) same c.in_ok-node.node c.in_ok-node.ensures.item (image_of d.new.base) same' d.new.draft
    c.part.new.draft c.in_ok-parts.parts c.in_ok-parts.ensures.divided)
    (all_deep (image_of a.base.now) a.draft.now a.key.now a.rest.now a.place.now a.above.now a.leaf
    (image_of r.new.base) same c.in_ok-node.node c.in_ok-node.ensures.item (image_of d.new.base) same' d.new.draft
    c.part.new.draft c.in_ok-parts.parts c.in_ok-parts.ensures.divided) c.part.ensures.ends
