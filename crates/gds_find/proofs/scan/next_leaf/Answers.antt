use Rattle.std.proofs.Common.{◌∙◌, ap}
use Rattle.std.specs.Range.Bound.{bound_map}
use Rattle.host_model.proofs.FailureLemmas.{NeverFell-refl}
use Rattle.gds_units.specs.State.{image_of}
use Rattle.gds_find.specs.Scan.{behind_key}
use Rattle.gds_find.proofs.ScanLemmas.{none_scanned, scan_answered}
use Rattle.gds_find.proofs.TrailLemmas.{ends_later}
use Rattle.gds_find.proofs.scan.next_leaf.Goals as goal

pub returns-clause-next : goal.returns-clause-next
returns-clause-next g c =
    scan_answered (image_of c.args.base.now) c.args.draft.now c.args.root c.hold_draft.ensures c.args.cursor.now
    (bound_map (λ key. key.now) c.behind_key-from.result)
    (c.behind_key-from.ensures
    ∙ ap (behind_key c.args.cursor.now.begun)
    (c.as_slice-2.ensures.value ∙ c.key_from-key.ensures ∙ c.as_slice.ensures.value))
    c.next_below.new.receiver c.next_below.result c.next_below.ensures.next

pub returns-clause-ends : goal.returns-clause-ends
returns-clause-ends g c =
    let before = g.H.Host.failures c.args.base.now.host in
    ends_later before before (g.H.Host.failures c.next_below.new.base.host) _ _ c.next_below.result
    (NeverFell-refl before)
    (none_scanned (image_of c.args.base.now) c.args.draft.now c.args.root c.hold_draft.ensures c.args.cursor.now
    (bound_map (λ key. key.now) c.behind_key-from.result)
    (c.behind_key-from.ensures
    ∙ ap (behind_key c.args.cursor.now.begun)
    (c.as_slice-2.ensures.value ∙ c.key_from-key.ensures ∙ c.as_slice.ensures.value)))
    c.next_below.ensures.ends
