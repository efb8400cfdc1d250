-- The image with a draft that got a longer file's header, another map of the last group, and new maps.
use Rattle.std.proofs.Common.{◌≡◌, ◌≢◌, ℕ, ◌+◌, ◌-◌, ◌*◌, ◌<◌, ◌≤◌, List, [], sym, ap, subst, ◌∙◌}
use Rattle.std.proofs.Common.{arith, length}
use Rattle.gds_header.specs.declared.header.Header.{Header}
use Rattle.gds_header.specs.Fields.{block_of, fields_of}
use Rattle.gds_header.specs.Kinds.{has_free, header_faults}
use Rattle.gds_law.specs.Maps.{map_of}
use Rattle.gds_file.specs.FileLaws.{IsLawful}
use Rattle.gds_file.specs.Grow.{Grows}
use Rattle.gds_file.specs.Room.{groups_in, new_maps}
use Rattle.gds_file.proofs.GrowLemmas.{grow_stays_lawful}
use Rattle.gds_draft.specs.Draft.{DraftState, IsDraft, block_in, with_block}
use Rattle.gds_draft.specs.Drafted.{drafted, or_block}
use Rattle.gds_draft.specs.Laws.{IsDraftOf, ReadsAsDrafted}
use Rattle.gds_draft.specs.PutLaws.{GetsBlock, GetsHeader}
use Rattle.gds_draft.proofs.DraftLemmas.{drafted_read}
use Rattle.gds_draft.proofs.FaultLemmas.{header_drafted}
use Rattle.gds_draft.proofs.PutLemmas.{header_changed, put_there}
use Rattle.gds_draft.proofs.UnitLemmas.{one_more}
use Rattle.gds_base.specs.Reserve.{GetsMaps, GetsPlaces, GrowsHeader, IsNewMap}
use Rattle.gds_base.specs.Spaces.{present_in}
use Rattle.gds_base.proofs.GrowingLemmas.{grown, last_group}

module _ (image : List ℕ) (old new : DraftState) (h : Header) (map : List ℕ) (total tn : ℕ) (is : IsDraftOf image old)
    (is_new : IsDraftOf image new) (is_longer : IsDraft (record old { header = h }))
    (more : old.header.total < total) (header : GrowsHeader old.header h total)
    (places : GetsPlaces (map_of (drafted old image) (last_group old.header.total)) map
    (old.header.total - 512 * last_group old.header.total) (present_in h (last_group old.header.total)))
    (maps : GetsMaps (with_block (record old { header = h }) (512 * last_group old.header.total) map) new tn
    (last_group old.header.total + 1) (groups_in total))
    (tn_is : tn ≡ h.tn - 1) where
  abbrev before : List ℕ
  before = drafted old image

  abbrev after : List ℕ
  after = drafted new image

  abbrev last : ℕ
  last = last_group old.header.total

  abbrev longer : DraftState
  longer = record old { header = h }

  some : 3 ≤ old.header.total
  some = is.draft_is.limits.total_from

  total_is : h.total ≡ total
  total_is = ap (λ (g : Header). g.total) header.fields

  got : GetsHeader image old longer
  got = header_changed image old h is (record {
    limits = is_longer.limits;
    reads = is_longer.reads;
    block_size = ap (λ (g : Header). g.block_size) header.fields;
    tn = ap (λ (g : Header). g.tn) header.fields;
    total = omega (arith, total_is, more);
  })

  longer_read : ReadsAsDrafted longer image
  longer_read = drafted_read image longer got.draft_of

  new_read : ReadsAsDrafted new image
  new_read = drafted_read image new is_new

  old_fields : fields_of before ≡ old.header
  old_fields = (drafted_read image old is).fields

  new_fields : fields_of after ≡ h
  new_fields = new_read.fields ∙ maps.header

  put : GetsBlock longer (with_block longer (512 * last) map) (512 * last) map
  put = put_there longer (512 * last) map is_longer

  -- what the draft has for a block, in the image with it
  block_new : (n : ℕ) → n < total → block_of after n ≡ or_block h image n (block_in new n)
  block_new n low =
      new_read.blocks n (omega (arith, low, total_is, ap (λ (g : Header). g.total) maps.header))
      ∙ ap (λ g. or_block g image n (block_in new n)) maps.header

  stays : (n : ℕ) → n < old.header.total → n ≢ 512 * last → block_of after n ≡ block_of before n
  stays n low other =
      let same = maps.others n (λ group above below e. omega (arith, e, low, above)) ∙ put.others n other in
      block_new n (omega (arith, low, more)) ∙ ap (or_block h image n) same
      ∙ sym (longer_read.blocks n (omega (arith, low, more, total_is))) ∙ got.blocks n low

  last_map : map_of after last ≡ map
  last_map =
      let has = maps.others (512 * last) (λ group above below e. omega (arith, e, above)) ∙ put.there in
      block_new (512 * last) (omega (arith, some, more)) ∙ ap (or_block h image (512 * last)) has

  new_map : (group : ℕ) → last < group → group < groups_in total
      → IsNewMap (map_of after group) tn (present_in (fields_of after) group)
  new_map group above below =
      let has = maps.maps group (omega (arith, above)) below in
      subst (λ m. IsNewMap m tn (present_in (fields_of after) group))
      (sym (block_new (512 * group) (omega (arith, below)) ∙ ap (or_block h image (512 * group)) has.has))
      (subst (λ g. IsNewMap has.map tn (present_in g group)) (sym new_read.fields) has.new)

  grows_header : GrowsHeader (fields_of before) (fields_of after) total
  grows_header =
      subst (λ f. GrowsHeader f (fields_of after) total) (sym old_fields)
      (subst (λ f. GrowsHeader old.header f total) (sym new_fields) header)

  right : header_faults before ≡ [] → header_faults after ≡ []
  right none =
      let was = (header_drafted image old is).0 none in
      let tn_same = ap (λ (g : Header). g.tn) maps.header ∙ ap (λ (g : Header). g.tn) header.fields in
      let total_same = ap (λ (g : Header). g.total) maps.header ∙ total_is in
      (header_drafted image new is_new).1 (record {
        from = omega (arith, was.from, tn_same);
        to = omega (arith, was.to, tn_same);
        past = λ group from to.
            ap (λ g. has_free g group) maps.header ∙ header.past group (omega (arith, from, total_same))
            ∙ was.past group (omega (arith, from, total_same, more)) to;
      })

  pub grown_lawful : IsLawful before → Grows before after total × IsLawful after
  grown_lawful lawful =
      let was = (header_drafted image old is).0 lawful.header in
      let size = ap (λ (g : Header). g.total) old_fields in
      let group_same = ap (λ (g : Header). last_group g.total) old_fields in
      let grows = grown before after total tn lawful (omega (arith, more, size)) grows_header
      (λ n low other. stays n (omega (arith, low, size)) (λ e. other (e ∙ ap (λ g. 512 * g) (sym group_same))))
      (subst
      (λ (g : Header). GetsPlaces (map_of before (last_group g.total)) (map_of after (last_group g.total))
      (g.total - 512 * last_group g.total) (present_in (fields_of after) (last_group g.total))) (sym old_fields)
      (subst
      (λ g. GetsPlaces (map_of before last) (map_of after last) (old.header.total - 512 * last) (present_in g last))
      (sym new_fields)
      (subst (λ m. GetsPlaces (map_of before last) m (old.header.total - 512 * last) (present_in h last)) (sym last_map)
      places)))
      (λ group above below. new_map group (omega (arith, above, group_same)) below)
      (omega (
        arith,
        tn_is,
        was.from,
        ap (λ (g : Header). g.tn) header.fields,
        ap (λ (g : Header). g.tn) old_fields,
      )) in
      (grows, grow_stays_lawful before after total lawful grows (right lawful.header))

-- A draft that got such a header, one block and then maps has only grown.
module _ (old longer mid new : DraftState) (was h : Header) (n : ℕ) (bytes : List ℕ) (from to total : ℕ)
    (same : was ≡ old.header) (header : GrowsHeader was h total) (got_header : longer ≡ record old { header = h })
    (got_block : mid ≡ with_block longer n bytes) (got_maps : new.header ≡ mid.header) where
  header_is : new.header ≡ h
  header_is =
      got_maps ∙ ap (λ (d : DraftState). d.header) got_block ∙ ap (λ (d : DraftState). d.header) got_header

  total_now : new.header.total ≡ total
  total_now = ap (λ (g : Header). g.total) (header_is ∙ header.fields)

  pub only_grown : new.header
      ≡ record old.header { total = new.header.total; free = new.header.free; master = new.header.master }
  only_grown =
      let all = header_is ∙ header.fields in
      all
      ∙ (λ i. record (same i) {
        total = sym (ap (λ (g : Header). g.total) all) i;
        free = sym (ap (λ (g : Header). g.free) all) i;
        master = sym (ap (λ (g : Header). g.master) all) i;
      })

  pub not_shorter : old.header.total < total → old.header.total ≤ new.header.total
  not_shorter more = omega (arith, more, total_now)

  pub few_more : 3 ≤ old.header.total → from ≡ last_group was.total + 1 → to ≡ groups_in total
      → length new.units ≤ length mid.units + (to - from)
      → length new.units ≤ length old.units + (1 + new_maps old.header.total new.header.total)
  few_more some from_is to_is more =
      let one : length mid.units ≤ length old.units + 1 =
      subst (λ (d : DraftState). length d.units ≤ length old.units + 1) (sym got_block)
      (subst (λ (d : DraftState). length (with_block d n bytes).units ≤ length old.units + 1) (sym got_header)
      (one_more old.units (record { unit = n + 1; bytes = bytes }))) in
      omega (arith, one, some, from_is, to_is, more, total_now, ap (λ (g : Header). g.total) same)
