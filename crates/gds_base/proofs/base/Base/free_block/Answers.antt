use Rattle.std.proofs.Common.{ℕ, ◌≡◌, ◌+◌, ◌*◌, ◌/◌, ◌%◌, ◌≤◌, ◌∙◌, sym, ap, subst, arith, length, List}
use Rattle.std.specs.Prelude.{if◌then◌else◌}
use Rattle.gds_bitmap.specs.declared.state.State.TheVariants.{Recycled}
use Rattle.gds_bitmap.specs.State.{is_free}
use Rattle.gds_bitmap.specs.Bitmap.{Marks, state_at}
use Rattle.gds_header.specs.declared.header.Header.{Header}
use Rattle.gds_header.specs.Kinds.{has_free}
use Rattle.gds_draft.specs.Draft.{DraftState, IsDraft, with_block}
use Rattle.gds_draft.specs.Drafted.{drafted}
use Rattle.gds_draft.proofs.DraftLemmas.{drafted_read}
use Rattle.gds_draft.proofs.UnitLemmas.{one_more}
use Rattle.gds_base.specs.Spaces.{Recycles}
use Rattle.gds_base.proofs.MapLemmas.{lent_whole, other_count}
use Rattle.gds_base.proofs.FreeingLemmas.{block_recycled, free_at_most}
use Rattle.gds_base.proofs.base.Base.free_block.Goals as goal

pub returns-in_default-clause-ends : goal.returns-in_default-clause-ends
returns-in_default-clause-ends g c x tells lawful =
    let draft = c.args.draft.now in
    let is = c.hold_draft.ensures x tells in
    let fields = (drafted_read x draft is).fields in
    let most = free_at_most (drafted draft x) lawful in
    let limits = is.draft_is.limits in
    omega (
      arith,
      most,
      ap (λ (h : Header). h.free) fields,
      ap (λ (h : Header). h.total) fields,
      limits.total_to,
      limits.limit_to,
      c.in_default.ensures.none,
      ap (λ (h : Header). h.free) c.header.ensures.header,
    )

pub returns-clause-freed : goal.returns-clause-freed
returns-clause-freed g c x tells =
    let draft = c.args.draft.now in
    let n : ℕ = c.args.n in
    let group : ℕ = n / 512 in
    let h : Header = c.mark_group.new.self in
    let old = c.in_ok-map.map in
    let map : List ℕ = c.mark.new.map in
    let was = c.header.ensures.header in
    let long = c.mark.ensures.len in
    let whole = lent_whole old.items map old.len (omega (arith, c.mark.auto.map)) (omega (arith, old.ok.0)) in
    let next : DraftState = record (with_block draft (512 * group) map) { header = h } in
    let put : c.put_map.new.draft ≡ next =
    c.in_ok-put_map.ensures.put ∙ ap (λ bytes. record (with_block draft (512 * group) bytes) { header = h }) whole in
    let fields = other_count draft.header c.header.result.now h c.in-Some.free was c.mark_group.ensures.fields in
    let old_map = c.in_ok-map.ensures.map x tells in
    let state = c.state_of.ensures
    ∙ ap (λ m. state_at m (n % 512)) (c.deref.ensures.value ∙ old_map) in
    subst (λ d. Recycles (drafted draft x) (drafted d x) n) (sym put)
    (block_recycled x draft n map h (c.hold_draft.ensures x tells) c.requires.there c.requires.no_map
    (omega (arith, c.mark.auto.map, c.in_ok-map.ensures.len, c.requires.draft.block_size)) fields
    (subst IsDraft put c.in_ok-put_map.ensures.draft)
    (subst (λ m. Marks m map (n % 512) Recycled) (c.deref_mut.ensures.value ∙ old_map) c.mark.ensures)
    (λ k other. c.mark_group.ensures.others k other ∙ ap (λ f. has_free f k) was)
    (ap (λ (f : Header). f.free) c.mark_group.ensures.fields ∙ c.in-Some.ensures.some
    ∙ (λ i. (was i).free + (if is_free (state i) then 0 else 1)))
    c.mark_group.ensures.group)

pub returns-clause-drafts : goal.returns-clause-drafts
returns-clause-drafts g c =
    let draft = c.args.draft.now in
    let h : Header = c.mark_group.new.self in
    let put = c.in_ok-put_map.ensures.put in
    record {
      read = c.in_ok-map.ensures.read;
      header = subst
          (λ (d : DraftState). d.header ≡ record draft.header { free = d.header.free; master = d.header.master })
          (sym put)
          (other_count draft.header c.header.result.now h c.in-Some.free c.header.ensures.header
          c.mark_group.ensures.fields);
      more = subst (λ (d : DraftState). length d.units ≤ length draft.units + 1) (sym put) (one_more draft.units _);
    }
