use Rattle.std.proofs.Common.{◌≡◌, None, Some, Ok, drop, length, refl, sym, ap, subst, ◌∙◌, arith}
use Rattle.gds_draft.specs.Draft.{block_in}
use Rattle.gds_base.specs.Ending.{EndsLending}
use Rattle.gds_units.specs.Laws.{OnlyRead-refl}
use Rattle.gds_units.specs.State.{UnitsState, image_of}
use Rattle.gds_base.proofs.ReadingLemmas.{block_drafted, block_not_drafted, copied_is, front_is, length_drafted}
use Rattle.gds_base.proofs.base.Base.read.Goals as goal

pub returns-in-Some : goal.returns-in-Some
returns-in-Some g c =
    let h = g.H.Host in
    let draft = c.args.draft.now in
    let has : block_in draft c.args.n ≡ Some c.in-Some.bytes.now =
    copied_is c.get.result (Some c.in-Some.bytes) (block_in draft c.args.n) c.get.ensures c.in-Some.is in (
      (
        refl,
        λ w. tt,
        subst (λ (s : UnitsState g.row.H.Denot). EndsLending h.told h.moment h.failures h.left_since
            c.args.self.now s (Ok c.in-Some.bytes)) (sym c.self.view_is)
            (record {
              read = OnlyRead-refl h.told h.moment h.failures h.left_since c.args.self.now;
              ends = tt;
              calls = omega arith;
            }),
      ),
      record {
        bytes = λ image is.
            sym (block_drafted image draft (c.hold_draft.ensures image (ap image_of c.self.view_is ∙ is)) c.args.n
            c.requires.there c.in-Some.bytes.now has);
        len = length_drafted draft c.args.n c.in-Some.bytes.now c.header-header.ensures.draft has
            ∙ c.requires.draft.block_size;
        after_borrow = tt;
      },
    )

pub returns : goal.returns
returns g c =
    let h = g.H.Host in
    let draft = c.args.draft.now in
    let size : length c.read_undrafted.new.out ≡ c.args.self.now.header.block_size =
    c.read_undrafted.ensures.len ∙ ap length c.deref_mut.ensures.value ∙ c.self.invariant.size
    ∙ ap (λ (s : UnitsState g.row.H.Denot). s.header.block_size) c.self.view_is in
    let given : c.deref.result.now ≡ c.read_undrafted.new.out =
    front_is c.deref.result.now c.read_undrafted.new.out
    (drop (length c.read_undrafted.new.out) c.self.inside.room.items) c.self.inside.room.len c.deref.ensures.value
    (c.read_undrafted.ensures.len ∙ c.deref_mut.ensures.len) in
    let none : block_in draft c.args.n ≡ None =
    copied_is c.get.result None (block_in draft c.args.n) c.get.ensures c.in_default.is in (
      (
        refl,
        λ w. tt,
        subst (λ (s : UnitsState g.row.H.Denot). EndsLending h.told h.moment h.failures h.left_since
            s c.read_undrafted.new.units (Ok c.deref.result)) c.self.view_is
            (record {
              read = c.read_undrafted.ensures.read;
              ends = tt;
              calls = c.read_undrafted.ensures.calls;
            }),
      ),
      record {
        bytes = λ image is.
            let told = ap image_of c.self.view_is ∙ is in
            given ∙ c.in_ok-read_undrafted.ensures.bytes image told
            ∙ sym (block_not_drafted image draft (c.hold_draft.ensures image told) c.args.n c.requires.there
            c.self.inside.units.header
            (c.requires.draft.block_size
            ∙ ap (λ (s : UnitsState g.row.H.Denot). s.header.block_size) (sym c.self.view_is)) none);
        len = ap length given ∙ size;
        after_borrow = tt;
      },
    )
