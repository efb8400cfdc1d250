use Rattle.std.proofs.Common.{List, ℕ, Option, ◌∙◌}
use Rattle.std.proofs.lemmas.Result.{IfOk-weaker}
use Rattle.host_model.proofs.FailureLemmas.{NeverFell-refl}
use Rattle.gds_draft.specs.Drafted.{drafted}
use Rattle.gds_splice.specs.declared.node.Node.{Node}
use Rattle.gds_splice.specs.declared.parts.Parts.{Parts}
use Rattle.gds_splice.proofs.DraftingLemmas.{same_image}
use Rattle.gds_splice.proofs.EndingLemmas.{parting_ends, reading_exit}
use Rattle.gds_splice.proofs.OneUpLemmas.{cannot_tell, is_at_end, packable_now, step_to, tells_one}
use Rattle.gds_splice.proofs.one_up.tell_one.Goals as goal

pub returns-in_err-node-clause-ends : goal.returns-in_err-node-clause-ends
returns-in_err-node-clause-ends g c =
    let now = g.H.Host.failures c.args.base.now.host in
    reading_exit Node (Option Parts) now now (g.H.Host.failures c.read_told.new.base.host) _ _ _ c.in_err-node.field-0.0
    c.from_residual.result (NeverFell-refl now)
    (λ cannot image is root a above child level pieces below p free.
    let file : List ℕ = drafted c.args.draft.now image in
    cannot image is a.visit level a.front a.entry a.back
    (step_to file root a above child level pieces below c.args.step c.args.is_root c.args.parts.now p)
    (packable_now file root a above child level pieces below c.args.step c.args.is_root c.args.parts.now p))
    c.from_residual.ensures.1 c.in_err-node.ensures.ends

pub returns-clause-told : goal.returns-clause-told
returns-clause-told g c =
    let h = g.H.Host in
    IfOk-weaker c.put_node.result _ _
    (λ own puts image is. tells_one c.args.step c.args.is_root c.args.parts.now c.in_ok-node.node
    (drafted c.args.draft.now image) (drafted c.put_node.new.draft image) own (c.in_ok-node.ensures.told image is)
    (puts image (same_image h.told h.moment h.failures h.left_since c.args.base.now c.read_told.new.base
    c.in_ok-node.ensures.read ∙ is)))
    c.put_node.ensures.put

pub returns-clause-ends : goal.returns-clause-ends
returns-clause-ends g c =
    let h = g.H.Host in
    let read = c.in_ok-node.ensures.read in
    parting_ends (Option Parts) (h.failures c.args.base.now.host) (h.failures c.read_told.new.base.host)
    (h.failures c.put_node.new.base.host) _ _ _ _ c.put_node.result read.read.failures
    (λ cannot image is. cannot_tell c.args.step c.args.is_root c.args.parts.now c.in_ok-node.node
    (drafted c.args.draft.now image) (c.in_ok-node.ensures.told image is)
    (cannot image (same_image h.told h.moment h.failures h.left_since c.args.base.now c.read_told.new.base read ∙ is)))
    (λ high image is. is_at_end c.args.step c.args.is_root c.args.parts.now c.in_ok-node.node
    (drafted c.args.draft.now image) (c.in_ok-node.ensures.told image is)
    (high image (same_image h.told h.moment h.failures h.left_since c.args.base.now c.read_told.new.base read ∙ is)))
    c.put_node.ensures.ends
