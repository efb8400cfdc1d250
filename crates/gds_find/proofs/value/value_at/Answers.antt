use Rattle.std.proofs.Common.{arith, refl}
use Rattle.gds_units.specs.Laws.{OnlyRead-refl}
use Rattle.gds_units.specs.State.{image_of}
use Rattle.gds_find.proofs.ValueLemmas.{leaf_told, none_told, value_none, value_some}
use Rattle.gds_find.proofs.value.value_at.Goals as goal

pub returns-then-not-trail : goal.returns-then-not-trail
returns-then-not-trail g c =
    let h = g.H.Host in (
      (
        refl,
        λ w. tt,
        record {
          read = OnlyRead-refl h.told h.moment h.failures h.left_since c.args.base.now;
          ends = tt;
          calls = omega arith;
        },
      ),
      record {
        value = none_told (image_of c.args.base.now) c.args.draft.now c.args.trail.now c.hold_draft.ensures
            c.if-not-trail.true;
        after_borrow = tt;
      },
    )

pub returns-in_default : goal.returns-in_default
returns-in_default g c =
    let h = g.H.Host in (
      (
        refl,
        λ w. tt,
        record {
          read = OnlyRead-refl h.told h.moment h.failures h.left_since c.args.base.now;
          ends = leaf_told (image_of c.args.base.now) c.args.draft.now c.args.trail.now c.hold_draft.ensures
              c.leaf_of.result c.in_default.is c.leaf_of.ensures.found;
          calls = omega arith;
        },
      ),
      record { value = tt; after_borrow = tt },
    )

pub returns-in_default-rest_at : goal.returns-in_default-rest_at
returns-in_default-rest_at g c = (
  (
    refl,
    λ w. tt,
    record {
      read = c.read.follows.holds-at-none.read;
      ends = value_none (image_of c.args.base.now) c.args.draft.now c.args.trail.now c.hold_draft.ensures
          c.in-Some.block c.in_ok-bytes.bytes.now c.rest_at.result c.if-not-trail.false c.leaf_of.result c.in-Some.is
          c.leaf_of.ensures.found c.in_ok-bytes.ensures.bytes c.are_bytes.ensures c.rest_at.ensures.found
          c.in_default-rest_at.is;
      calls = c.read.follows.holds-at-none.calls;
    },
  ),
  record { value = tt; after_borrow = tt },
)

pub returns : goal.returns
returns g c = (
  (
    refl,
    λ w. tt,
    record {
      read = c.read.follows.holds-at-none.read;
      ends = tt;
      calls = c.read.follows.holds-at-none.calls;
    },
  ),
  record {
    value = value_some (image_of c.args.base.now) c.args.draft.now c.args.trail.now c.hold_draft.ensures
        c.in-Some.block c.in_ok-bytes.bytes.now c.rest_at.result c.if-not-trail.false c.leaf_of.result c.in-Some.is
        c.leaf_of.ensures.found c.in_ok-bytes.ensures.bytes c.are_bytes.ensures c.rest_at.ensures.found
        c.in-Some-rest_at.value c.in-Some-rest_at.is;
    after_borrow = tt;
  },
)
