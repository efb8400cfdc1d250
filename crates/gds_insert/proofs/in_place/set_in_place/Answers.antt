use Rattle.std.proofs.Common.{◌∙◌}
use Rattle.gds_splice.proofs.DraftingLemmas.{same_image}
use Rattle.gds_insert.proofs.AfterLemmas.{done_weaker, ends_later}
use Rattle.gds_insert.proofs.in_place.set_in_place.Goals as goal

pub returns-clause-set : goal.returns-clause-set
returns-clause-set g c =
    let h = g.H.Host in
    let r = c.copy_block in
    let same = same_image h.told h.moment h.failures h.left_since c.args.base.now r.new.base r.ensures.read in
    done_weaker _ _ c.put_edited.result (λ sets image told.
    sets image (same ∙ told) (c.deref_mut.ensures.value ∙ c.in_ok-bytes.ensures.bytes image told))
    c.put_edited.ensures.set

pub returns-clause-ends : goal.returns-clause-ends
returns-clause-ends g c =
    let h = g.H.Host in
    let r = c.copy_block in
    let same = same_image h.told h.moment h.failures h.left_since c.args.base.now r.new.base r.ensures.read in
    ends_later (h.failures c.args.base.now.host) (h.failures r.new.base.host) (h.failures r.new.base.host) _ _
    c.put_edited.result r.ensures.read.read.failures (λ none image told.
    none image (same ∙ told) (c.deref_mut.ensures.value ∙ c.in_ok-bytes.ensures.bytes image told))
    c.put_edited.ensures.ends
