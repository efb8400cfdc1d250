use Rattle.std.proofs.Common.{ℕ, ◌≡◌, ◌+◌, ◌-◌, ◌*◌, ◌∙◌, refl, sym, ap, subst, arith, ◌≤◌, length, List}
use Rattle.gds_bitmap.specs.declared.state.State.TheVariants.{Busy}
use Rattle.gds_bitmap.specs.Bitmap.{Marks}
use Rattle.gds_header.specs.declared.header.Header.{Header}
use Rattle.gds_header.specs.Kinds.{has_free}
use Rattle.gds_draft.specs.Draft.{DraftState, IsDraft, with_block}
use Rattle.gds_draft.specs.Drafted.{drafted}
use Rattle.gds_draft.proofs.UnitLemmas.{one_more}
use Rattle.gds_base.specs.Spaces.{TakesLeast}
use Rattle.gds_base.proofs.MapLemmas.{lent_whole, other_count, taken_least}
use Rattle.gds_base.proofs.base.Base.take_block.Goals as goal

pub returns-clause-taken : goal.returns-clause-taken
returns-clause-taken g c x tells lawful =
    let draft = c.args.draft.now in
    let found = c.in_ok-group.field-0 in
    let first = c.in_ok-group.ensures.found in
    let h : Header = c.mark_group.new.self in
    let map : List ℕ = c.mark_in-left.new.map in
    let was = c.header.ensures.header in
    let long = c.mark_in-left.auto.map in
    let whole = lent_whole found.map.items map found.map.len (omega (arith, long)) (omega (arith, found.map.ok.0)) in
    let next : DraftState = record (with_block draft (512 * found.group) map) { header = h } in
    let put : c.put_map.new.draft ≡ next =
    c.in_ok-put_map.ensures.put
    ∙ ap (λ bytes. record (with_block draft (512 * found.group) bytes) { header = h }) whole in
    let less : h.free ≡ draft.header.free - 1 =
    ap (λ (f : Header). f.free) c.mark_group.ensures.fields ∙ ap (λ (f : Header). f.free - 1) was in
    let fields : h ≡ record draft.header { free = h.free; master = h.master } =
    other_count draft.header c.header.result.now h (c.header.result.now.free - 1) was c.mark_group.ensures.fields in
    let total = ap (λ (f : Header). f.total) fields in
    let old_map = c.in_ok-group.ensures.map x tells in
    subst (λ d. TakesLeast (drafted draft x) (drafted d x) (512 * found.group + found.place)) (sym put)
    (taken_least x draft found.group map h (c.hold_draft.ensures x tells) (omega (arith, first.group_is.within))
    (omega (arith, long, c.in_ok-group.ensures.len, c.requires.block_size)) fields
    (subst IsDraft put c.in_ok-put_map.ensures.draft) found.place Busy (omega (arith, first.within))
    (subst (λ m. Marks m map found.place Busy) (c.deref_mut.ensures.value ∙ old_map)
    c.mark_in-left.ensures.marks)
    (λ k other. c.mark_group.ensures.others k other ∙ ap (λ f. has_free f k) was) found.map.items old_map first refl
    less c.mark_in-left.result c.present_in.result
    (omega (arith, c.present_in.ensures, total, ap (λ (f : Header). f.total) was)) c.mark_group.ensures.group
    c.mark_in-left.ensures.left lawful)

pub returns-clause-drafts : goal.returns-clause-drafts
returns-clause-drafts g c =
    let draft = c.args.draft.now in
    let h : Header = c.mark_group.new.self in
    let put = c.in_ok-put_map.ensures.put in
    let hdr : Header = c.header.result.now in
    record {
      read = c.in_ok-group.ensures.read;
      header = subst
          (λ (d : DraftState). d.header ≡ record draft.header { free = d.header.free; master = d.header.master })
          (sym put) (other_count draft.header hdr h (hdr.free - 1) c.header.ensures.header c.mark_group.ensures.fields);
      more = subst (λ (d : DraftState). length d.units ≤ length draft.units + 1) (sym put) (one_more draft.units _);
    }
