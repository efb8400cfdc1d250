use Rattle.std.proofs.Common.{sym, subst, ◌∙◌, ◌≤◌, ◌+◌}
use Rattle.gds_draft.specs.Draft.{DraftState}
use Rattle.gds_base.specs.Spaces.{blocks_beside_maps}
use Rattle.gds_base.proofs.BesideLemmas.{one_beside}
use Rattle.gds_base.proofs.PutLemmas.{put_block}
use Rattle.gds_base.proofs.base.Base.put.Goals as goal

pub returns-clause-put : goal.returns-clause-put
returns-clause-put g c image is =
    put_block image c.args.draft.now c.put.new.self c.args.n c.args.bytes.now (c.hold_draft.ensures image is)
    c.requires.there (c.requires.size ∙ sym c.requires.draft.block_size) c.in_ok-put.ensures.put

pub returns-clause-beside : goal.returns-clause-beside
returns-clause-beside g c =
    let draft = c.args.draft.now in
    subst (λ (d : DraftState). blocks_beside_maps d ≤ blocks_beside_maps draft + 1) (sym c.in_ok-put.ensures.put)
    (one_beside draft c.args.n c.args.bytes.now)
