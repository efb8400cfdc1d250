use Rattle.std.proofs.Common.{refl, sym, ap, subst}
use Rattle.gds_edit.specs.Reading.{StandsAt}
use Rattle.gds_edit.proofs.RemoveLemmas.{gone_stands, removed_last, next_there, has_bytes, removed_there}
use Rattle.gds_edit.proofs.removal.remove.Goals as goal

pub returns-in_default-record_head-clause-removed : goal.returns-in_default-record_head-clause-removed
returns-in_default-record_head-clause-removed c =
    λ height key es a b e packed spot packable.
    absurd (c.in_default-record_head.ensures.read
    (subst (StandsAt c.args.block.now c.args.place.now.offset) (sym c.in-Some.ensures.1)
    (gone_stands c.args.block.now height key es a e c.args.place.now packed b spot)))

pub returns-then-end-used-clause-removed : goal.returns-then-end-used-clause-removed
returns-then-end-used-clause-removed c =
    λ height key es a b e packed spot packable. (
      refl,
      removed_last c.args.block.now height key es a e c.args.place.now packed c.in-Some.used
          c.in-Some-record_head.gone.size c.in-Some.ensures.1 (ap (λ h. h.size) c.in-Some-record_head.ensures.read.1)
          c.move_tail.new.block c.move_tail.ensures c.if-end-used.true b spot packable,
    )

pub returns-in_default-record_head-2-clause-removed : goal.returns-in_default-record_head-2-clause-removed
returns-in_default-record_head-2-clause-removed c =
    λ height key es a b e packed spot packable.
    absurd (c.in_default-record_head-2.ensures.read
    (next_there c.args.block.now height key es a e c.args.place.now packed c.in-Some.used
    c.in-Some-record_head.gone.size c.in-Some.ensures.1 (ap (λ h. h.size) c.in-Some-record_head.ensures.read.1)
    b spot c.if-end-used.false))

pub returns-in_default-taken_on-clause-removed : goal.returns-in_default-taken_on-clause-removed
returns-in_default-taken_on-clause-removed c =
    λ height key es a b e packed spot packable.
    let gone = c.in-Some-record_head.ensures.read.1 in
    let next = c.in-Some-record_head-2.ensures.read.1 in
    absurd (c.in_default-taken_on.ensures.none
    (has_bytes c.args.block.now height key es a e c.args.place.now packed c.in-Some.used
    c.in-Some-record_head.gone.size c.in-Some.ensures.1 (ap (λ h. h.size) gone) c.in-Some-record_head.gone.count
    c.in-Some-record_head-2.next.size c.in-Some-record_head-2.next.count (ap (λ h. h.count) gone)
    (ap (λ h. h.size) next) (ap (λ h. h.count) next) b spot c.if-end-used.false))

pub returns-clause-removed : goal.returns-clause-removed
returns-clause-removed c =
    λ height key es a b e packed spot packable.
    let gone = c.in-Some-record_head.ensures.read.1 in
    let next = c.in-Some-record_head-2.ensures.read.1 in (
      refl,
      removed_there c.args.block.now height key es a e c.args.place.now packed c.in-Some.used
          c.in-Some-record_head.gone.size c.in-Some.ensures.1 (ap (λ h. h.size) gone) c.in-Some-record_head.gone.count
          c.in-Some-record_head-2.next.size c.in-Some-record_head-2.next.count (ap (λ h. h.count) gone)
          (ap (λ h. h.size) next) (ap (λ h. h.count) next) c.move_tail-2.new.block c.put.new.out c.in-Some-taken_on.more
          c.in-Some-taken_on.ensures.some.0 c.move_tail-2.ensures c.put.ensures b spot packable c.if-end-used.false,
    )
