use Rattle.std.proofs.Common.{◌∙◌, sym, ap, subst, arith}
use Rattle.gds_edit.specs.Reading.{StandsAt}
use Rattle.gds_edit.proofs.InsertLemmas.{fits_key, IsRecordFor-place, entry_there, more_there, last_there, before_there}
use Rattle.gds_edit.proofs.insertion.insert.Goals as goal

pub returns-in_default-new_record-clause-inserted : goal.returns-in_default-new_record-clause-inserted
returns-in_default-new_record-clause-inserted c =
    λ height es a b packed spot packable.
    let fits = fits_key c.args.block.now height es a c.args.key.now c.args.rest.now c.args.place.now packed b spot
    packable in
    absurd (c.in_default-new_record.ensures.none fits.0 fits.1 fits.2)

pub returns-then-place-used-clause-inserted : goal.returns-then-place-used-clause-inserted
returns-then-place-used-clause-inserted c =
    λ height es a b packed spot packable.
    let r = c.in-Some-new_record.ensures.some in
    last_there c.args.block.now height es a c.args.key.now c.args.rest.now c.args.place.now packed c.in-Some.used
    c.in-Some.ensures.1 _ _ c.in-Some-new_record.fresh b spot packable c.if-place-used.true
    (IsRecordFor-place c.args.block.now height es a c.args.key.now c.args.rest.now c.args.place.now packed b spot
    c.in-Some-new_record.fresh r.0 r.1 r.2) c.insert_last.ensures.inserted

pub returns-in_default-record_head-clause-inserted : goal.returns-in_default-record_head-clause-inserted
returns-in_default-record_head-clause-inserted c =
    λ height es a b packed spot packable.
    let all = c.in-Some.ensures.1 in
    absurd (c.in_default-record_head.ensures.read
    (subst (StandsAt c.args.block.now c.args.place.now.offset) (sym all)
    (entry_there c.args.block.now height es a c.args.key.now c.args.rest.now c.args.place.now packed b spot
    (λ e. c.if-place-used.false (e ∙ sym all)))))

pub returns-in_default-key_part-clause-inserted : goal.returns-in_default-key_part-clause-inserted
returns-in_default-key_part-clause-inserted c =
    λ height es a b packed spot packable.
    let all = c.in-Some.ensures.1 in
    let head = c.in-Some-record_head.ensures.read.1 in
    let more = more_there c.args.block.now height es a c.args.key.now c.args.rest.now c.args.place.now packed b spot
    packable (λ e. c.if-place-used.false (e ∙ sym all)) in
    absurd (c.in_default-key_part.ensures.none (omega (arith, more.0, ap (λ h. h.count) head))
    (omega (arith, more.1, ap (λ h. h.count) head, ap (λ h. h.size) head)))

pub returns-clause-inserted : goal.returns-clause-inserted
returns-clause-inserted c =
    λ height es a b packed spot packable.
    let r = c.in-Some-new_record.ensures.some in
    let head = c.in-Some-record_head.ensures.read.1 in
    before_there c.args.block.now height es a c.args.key.now c.args.rest.now c.args.place.now packed c.in-Some.used
    c.in-Some.ensures.1 _ _ c.in-Some-new_record.fresh c.in-Some-record_head.next c.in-Some-key_part.more
    (ap (λ h. h.size) head) (ap (λ h. h.count) head) c.in-Some-key_part.ensures.part.0 b spot packable
    c.if-place-used.false
    (IsRecordFor-place c.args.block.now height es a c.args.key.now c.args.rest.now c.args.place.now packed b spot
    c.in-Some-new_record.fresh r.0 r.1 r.2) c.insert_before.ensures.inserted
