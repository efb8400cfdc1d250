use Rattle.std.proofs.Common.{◌<◌, subst}
use Rattle.host_model.proofs.FailureLemmas.{NeverFell-refl}
use Rattle.gds_draft.specs.Drafted.{drafted}
use Rattle.gds_header.specs.declared.header.Header.{Header}
use Rattle.gds_splice.proofs.DraftingLemmas.{ends_exit}
use Rattle.gds_splice.proofs.EntriesPutLemmas.{drafted_fields}
use Rattle.gds_splice.specs.declared.node.Node.{Node}
use Rattle.gds_remove.proofs.NodeLemmas.{cannot_read}
use Rattle.gds_remove.proofs.node.read_level.Goals as goal

pub returns-in_err-node-clause-ends : goal.returns-in_err-node-clause-ends
returns-in_err-node-clause-ends g c =
    let now = g.H.Host.failures c.args.base.now.host in
    ends_exit Node _ now now (g.H.Host.failures c.read_node.new.base.host) _ _ c.in_err-node.field-0.0
    c.from_residual.result (NeverFell-refl now)
    (λ cannot image is. cannot_read (drafted c.args.draft.now image) c.args.n c.args.level
    (λ low. cannot image is
    (subst (λ (h : Header). c.args.n < h.total)
    (drafted_fields image c.args.draft.now (c.hold_draft.ensures image is)) low)))
    c.from_residual.ensures.1 c.in_err-node.ensures.ends
