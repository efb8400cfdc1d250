use Rattle.std.proofs.Common.{ℕ, ◌≡◌, ◌+◌, ◌-◌, ◌*◌, ◌∙◌, ◌++◌, take, drop, refl, List, ap, subst, arith, length}
use Rattle.gds_file.specs.Room.{groups_in}
use Rattle.gds_header.specs.declared.header.Header.{Header}
use Rattle.gds_law.specs.Maps.{map_of}
use Rattle.gds_units.specs.State.{image_of}
use Rattle.gds_draft.specs.Draft.{DraftState, IsDraft, with_block}
use Rattle.gds_draft.specs.Drafted.{drafted}
use Rattle.gds_base.specs.Reserve.{GetsMaps, GetsPlaces, GrowsHeader, OnlyGrows}
use Rattle.gds_base.specs.Spaces.{present_in}
use Rattle.gds_base.proofs.MapLemmas.{lent_whole}
use Rattle.gds_base.proofs.GrowingLemmas.{last_group}
use Rattle.gds_base.proofs.GrownLemmas.{few_more, grown_lawful, not_shorter, only_grown}
use Rattle.gds_base.proofs.base.Base.grow_draft.Given.{Over}
use Rattle.gds_base.proofs.base.Base.grow_draft.Goals as goal
use Rattle.gds_base.proofs.base.Base.grow_draft.Goals.{After-put_new_maps}

pub returns-clause-grown : goal.returns-clause-grown
returns-clause-grown g c x tells =
    let old = c.args.draft.now in
    let new : DraftState = c.put_new_maps.new.draft in
    let hdr : Header = c.header.result.now in
    let h : Header = c.grown_header-header.result in
    let was : hdr ≡ old.header = c.header.ensures.header in
    let map : List ℕ = c.mark_new.new.map in
    let had = c.in_ok-map.map in
    let whole = lent_whole had.items map had.len (omega (arith, c.mark_new.auto.map)) (omega (arith, had.ok.0)) in
    let longer : DraftState = record old { header = h } in
    let put : c.put_vec.new.self ≡ with_block longer (512 * last_group hdr.total) map =
    c.in_ok-put_vec.ensures.put
    ∙ (λ i. with_block (c.put_header.ensures.put i) (512 * last_group hdr.total) (whole i)) in
    let to : c.div_ceil.result ≡ groups_in c.args.total = omega (arith, c.div_ceil.ensures) in
    let places : GetsPlaces (map_of (drafted old x) (last_group hdr.total)) map (hdr.total - 512 * last_group hdr.total)
    (present_in h (last_group hdr.total)) =
    subst
    (λ m. GetsPlaces m map (hdr.total - 512 * last_group hdr.total) (present_in h (last_group hdr.total)))
    (c.deref_mut.ensures.value ∙ c.in_ok-map.ensures.map x tells)
    (subst (GetsPlaces c.deref_mut.result.now map (hdr.total - 512 * last_group hdr.total)) c.present_in.ensures
    c.mark_new.ensures) in
    let maps : GetsMaps (with_block longer (512 * last_group hdr.total) map) new c.saturating_sub.result
    (last_group hdr.total + 1) (groups_in c.args.total) =
    subst (λ d. GetsMaps d new c.saturating_sub.result (last_group hdr.total + 1) (groups_in c.args.total)) put
    (subst (GetsMaps c.put_vec.new.self new c.saturating_sub.result (last_group hdr.total + 1)) to
    c.in_ok-put_new_maps.ensures.maps) in
    grown_lawful x old new h map c.args.total c.saturating_sub.result (c.hold_draft.ensures x tells)
    (c.hold_draft-2.ensures x (ap image_of c.in_ok-map.ensures.read.rest ∙ tells))
    (subst IsDraft c.put_header.ensures.put c.put_header.ensures.draft) c.requires.from
    (subst (λ f. GrowsHeader f h c.args.total) was c.grown_header-header.ensures)
    (subst (λ (f : Header). GetsPlaces (map_of (drafted old x) (last_group f.total)) map
    (f.total - 512 * last_group f.total) (present_in h (last_group f.total))) was places)
    (subst (λ (f : Header). GetsMaps (with_block longer (512 * last_group f.total) map) new c.saturating_sub.result
    (last_group f.total + 1) (groups_in c.args.total)) was maps) c.saturating_sub.ensures

-- Whether all maps were put or not, the draft has only grown.
drafts : (g : Over) (c : After-put_new_maps g)
    → OnlyGrows g.H.Host.told g.H.Host.moment g.H.Host.failures g.H.Host.left_since c.args.self.now c.copy_map.new.self
    c.args.draft.now c.put_new_maps.new.draft
drafts g c =
    let old = c.args.draft.now in
    let longer : DraftState = c.put_header.new.self in
    let mid : DraftState = c.put_vec.new.self in
    let new : DraftState = c.put_new_maps.new.draft in
    let hdr : Header = c.header.result.now in
    let h : Header = c.grown_header-header.result in
    let n : ℕ = 512 * last_group hdr.total in
    let bytes : List ℕ = take c.in_ok-map.map.len
    (c.mark_new.new.map ++ drop (length c.mark_new.new.map) c.in_ok-map.map.items) in
    let from : ℕ = last_group hdr.total + 1 in
    let to : ℕ = c.div_ceil.result in
    let total : ℕ = c.args.total in
    let was = c.header.ensures.header in
    let grows = c.grown_header-header.ensures in
    let got_header = c.put_header.ensures.put in
    let got_block = c.in_ok-put_vec.ensures.put in
    let got_maps = c.put_new_maps.ensures.header in
    record {
      read = c.in_ok-map.ensures.read;
      header = only_grown old longer mid new hdr h n bytes from to total was grows got_header got_block got_maps;
      total = not_shorter old longer mid new hdr h n bytes from to total was grows got_header got_block got_maps
          c.requires.from;
      more = few_more old longer mid new hdr h n bytes from to total was grows got_header got_block got_maps
          c.header.ensures.draft.limits.total_from refl (omega (arith, c.div_ceil.ensures)) c.put_new_maps.ensures.more;
    }

pub returns-in_err-put_new_maps-clause-drafts : goal.returns-in_err-put_new_maps-clause-drafts
returns-in_err-put_new_maps-clause-drafts g c =
    drafts g (goal.at.returns-in_err-put_new_maps-clause-drafts g c).After-put_new_maps

pub returns-clause-drafts : goal.returns-clause-drafts
returns-clause-drafts g c = drafts g (goal.at.returns-clause-drafts g c).After-put_new_maps
