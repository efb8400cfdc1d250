-- A draft that gets another map of a group, with one pair changed, and a header that fits it.
use Rattle.std.proofs.Common.{◌≡◌, ◌≢◌, ℕ, ◌+◌, ◌-◌, ◌*◌, ◌/◌, ◌%◌, ◌<◌, ◌||◌, Bool, false, List, [], length, sym}
use Rattle.std.proofs.Common.{◌++◌, ap, drop, subst, take, ◌∙◌, arith}
use Rattle.std.proofs.lemmas.Bool.{ne_eqb}
use Rattle.std.proofs.lemmas.List.{take_at}
use Rattle.gds_bitmap.specs.declared.state.State.{State}
use Rattle.gds_bitmap.specs.declared.state.State.TheVariants.{Busy}
use Rattle.gds_bitmap.specs.Bitmap.{Marks}
use Rattle.gds_header.specs.declared.header.Header.{Header}
use Rattle.gds_header.specs.Fields.{block_of, fields_of}
use Rattle.gds_header.specs.Kinds.{has_free, header_faults}
use Rattle.gds_law.specs.Maps.{has_free_place, map_of}
use Rattle.gds_file.specs.FileLaws.{IsLawful}
use Rattle.gds_file.specs.Take.{Takes}
use Rattle.gds_file.proofs.MarkLemmas.{Remarks}
use Rattle.gds_file.proofs.TakeLemmas.{take_stays_lawful}
use Rattle.gds_draft.specs.Draft.{DraftState, IsDraft, with_block}
use Rattle.gds_draft.specs.Drafted.{drafted}
use Rattle.gds_draft.specs.Laws.{IsDraftOf}
use Rattle.gds_draft.specs.PutLaws.{GetsHeader, RewritesBlock}
use Rattle.gds_draft.proofs.DraftLemmas.{drafted_read}
use Rattle.gds_draft.proofs.FaultLemmas.{header_drafted}
use Rattle.gds_draft.proofs.PutLemmas.{header_changed, put_rewritten}
use Rattle.gds_base.specs.Spaces.{HasFreeBelow, IsFirstPlace, TakesLeast, present_in}
use Rattle.gds_base.proofs.PlaceLemmas.{first_is_free, first_is_least, place_left}

module _ (image : List ℕ) (draft : DraftState) (group : ℕ) (map : List ℕ) (h : Header) (is : IsDraftOf image draft)
    (there : 512 * group < draft.header.total) (size : length map ≡ draft.header.block_size)
    (fields : h ≡ record draft.header { free = h.free; master = h.master })
    (new : IsDraft (record (with_block draft (512 * group) map) { header = h })) where
  abbrev mid : DraftState
  mid = with_block draft (512 * group) map

  abbrev next : DraftState
  next = record mid { header = h }

  abbrev before : List ℕ
  before = drafted draft image

  abbrev after : List ℕ
  after = drafted next image

  total_same : h.total ≡ draft.header.total
  total_same = ap (λ (g : Header). g.total) fields

  put : RewritesBlock image draft mid (512 * group) map
  put = put_rewritten image draft (512 * group) map is there size

  got : GetsHeader image mid next
  got = header_changed image mid h put.draft_of (record {
    limits = new.limits;
    reads = new.reads;
    block_size = ap (λ (g : Header). g.block_size) fields;
    tn = ap (λ (g : Header). g.tn) fields;
    total = omega (arith, total_same);
  })

  old_fields : fields_of before ≡ draft.header
  old_fields = (drafted_read image draft is).fields

  pub fields_now : fields_of after ≡ h
  fields_now = got.fields

  map_now : map_of after group ≡ map
  map_now = got.same_total total_same (512 * group) ∙ put.block

  others : (m : ℕ) → m ≢ 512 * group → block_of after m ≡ block_of before m
  others m other =
      got.same_total total_same m ∙ put.rewrites.others m (ap (λ t. t || false) (ne_eqb m (512 * group) other))

  -- The master map stays for the other groups, and the map has one other pair.
  module _ (place : ℕ) (state : State) (small : place < 512)
      (marks : Marks (map_of before group) map place state)
      (groups : (g : ℕ) → g ≢ group → has_free h g ≡ has_free draft.header g) where
    abbrev number : ℕ
    number = 512 * group + place

    quotient : number / 512 ≡ group
    quotient = omega (arith, small)

    rest : number % 512 ≡ place
    rest = omega (arith, small)

    pub remarked : Remarks before after number state h.free
    remarked = record {
      fields = got.fields ∙ fields
          ∙ (λ i. record (sym old_fields i) { free = h.free; master = (sym got.fields i).master });
      pair = subst (λ g. Marks (map_of before g) (map_of after g) (number % 512) state) (sym quotient)
          (subst (λ m. Marks (map_of before group) m (number % 512) state) (sym map_now)
          (subst (λ k. Marks (map_of before group) map k state) (sym rest) marks));
      groups = λ g other.
          ap (λ f. has_free f g) got.fields ∙ groups g (λ e. other (e ∙ sym quotient))
          ∙ sym (ap (λ f. has_free f g) old_fields);
      others = λ m other. others m (λ e. other (omega (arith, e, quotient)));
    }

    pub right_still : header_faults before ≡ [] → header_faults after ≡ []
    right_still none =
        let old = (header_drafted image draft is).0 none in
        let tn = ap (λ (g : Header). g.tn) fields in
        (header_drafted image next got.draft_of).1 (record {
          from = omega (arith, old.from, tn);
          to = omega (arith, old.to, tn);
          past = λ g from to.
              groups g (λ e. omega (arith, e, from, there, total_same))
              ∙ old.past g (omega (arith, from, total_same)) to;
        })

    -- The free block of least number is taken.
    module _ (old_map : List ℕ) (old_map_is : old_map ≡ map_of before group)
        (first : IsFirstPlace draft.header old_map group place) (busy : state ≡ Busy)
        (less : h.free ≡ draft.header.free - 1) (left : Bool) (present : ℕ) (present_is : present ≡ present_in h group)
        (marked : has_free h group ≡ left) (rest_free : HasFreeBelow map present left) where
      first_now : IsFirstPlace (fields_of before) (map_of before group) group place
      first_now =
          subst (λ f. IsFirstPlace f (map_of before group) group place) (sym old_fields)
          (subst (λ m. IsFirstPlace draft.header m group place) old_map_is first)

      master : has_free (fields_of after) group ≡ has_free_place after group
      master =
          ap (λ f. has_free f group) got.fields ∙ marked
          ∙ place_left after group present left
          (omega (arith, there, total_same, ap (λ (g : Header). g.total) got.fields))
          (present_is ∙ ap (λ f. present_in f group) (sym got.fields))
          (subst (λ m. HasFreeBelow m present left) (sym map_now) rest_free)

      takes : Takes before after number
      takes =
          let r = remarked in
          record {
            fields = r.fields
                ∙ (λ i. record (fields_of before) {
                  free = (less ∙ ap (λ (g : Header). g.free - 1) (sym old_fields)) i;
                  master = (fields_of after).master;
                });
            pair = subst (Marks (map_of before (number / 512)) (map_of after (number / 512)) (number % 512)) busy
                r.pair;
            group = subst (λ g. has_free (fields_of after) g ≡ has_free_place after g) (sym quotient) master;
            groups = r.groups;
            others = r.others;
          }

      pub taken_least : IsLawful before → TakesLeast before after number
      taken_least lawful =
          let free = first_is_free before lawful group place first_now in
          record {
            free = free;
            least = first_is_least before lawful group place first_now;
            takes = takes;
            lawful = take_stays_lawful before after number lawful free takes (right_still lawful.header);
          }

-- A list of numbers that was lent as a whole, and came back with as many.
pub lent_whole : (old new : List ℕ) (len : ℕ) → length new ≡ length old → len ≡ length old
    → take len (new ++ drop (length new) old) ≡ new
lent_whole old new len same is = take_at new (drop (length new) old) len (same ∙ sym is)

-- A header that is another one but for its free count and then its master map.
pub other_count : (old was h : Header) (free : ℕ) → was ≡ old → h ≡ record was { free = free; master = h.master }
    → h ≡ record old { free = h.free; master = h.master }
other_count old was h free same is =
    is ∙ (λ i. record (same i) { free = sym (ap (λ (g : Header). g.free) is) i; master = h.master })
