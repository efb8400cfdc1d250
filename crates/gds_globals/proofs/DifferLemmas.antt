-- How many units a commit changes, and how much room it leaves.
use Rattle.std.proofs.Common.{◌≡◌, ℕ, zero, suc, ◌+◌, ◌-◌, ◌/◌, ◌^◌, ◌<◌, ◌≤◌, ◌==◌, Bool, true, false, ◌&&◌, not, List}
use Rattle.std.proofs.Common.{[], ◌∷◌, length, Option, None, Some, inl, inr, refl, sym, ap, subst, ◌∙◌, arith, ⊎_elim}
use Rattle.std.specs.Prelude.{bytes_eq, if◌then◌else◌, nat_lt, take}
use Rattle.std.proofs.lemmas.Bool.{and_right, cases_eq, cond-true, lt-ltb, ne_eqb}
use Rattle.std.proofs.lemmas.Slice.Eq.{bytes_eq-Decides}
use Rattle.host_model.specs.Told.{TellsOn}
use Rattle.gds_base.specs.Reserve.{Reserves}
use Rattle.gds_bitmap.specs.Pairs.{count_below}
use Rattle.gds_bitmap.proofs.CountLemmas.{count_below-same}
use Rattle.gds_draft.specs.Committed.{IsCommitted, next_header}
use Rattle.gds_draft.specs.Draft.{DraftState, block_in}
use Rattle.gds_draft.specs.Drafted.{or_block}
use Rattle.gds_draft.specs.Laws.{IsDraftOf}
use Rattle.gds_draft.proofs.CommitLemmas.{committed_is_stamped}
use Rattle.gds_draft.proofs.DraftLemmas.{drafted_read}
use Rattle.gds_epoch.specs.Waiting.{WaitingUnit, waiting_bytes}
use Rattle.gds_file.specs.Grow.{Grows}
use Rattle.gds_file.specs.Room.{grown_free, new_maps, room_of}
use Rattle.gds_file.proofs.FreeCountLemmas.{count_none, counted}
use Rattle.gds_header.specs.Fields.{block_of, fields_of}
use Rattle.gds_header.specs.declared.header.Header.{Header}
use Rattle.gds_new.specs.NewDatabase.{bit_of}
use Rattle.gds_shape.specs.Move.{is_changed}
use Rattle.gds_globals.specs.Ready.{DiffersInAtMost, UsesAtMost}

-- ---- numbers among those of some units

bit_small : (b : Bool) → bit_of b ≤ 1
bit_small true = omega arith
bit_small false = omega arith

-- One number less is at most one fewer.
one_fewer : (p : ℕ → Bool) (u n : ℕ) → count_below p n ≤ count_below (λ k. p k && not (u == k + 1)) n + 1
one_fewer p u zero = omega arith
one_fewer p u (suc n) =
    let q : ℕ → Bool = λ k. p k && not (u == k + 1) in
    elim (cases_eq u (n + 1)) [
      | inl e ↦
          let below : count_below q n ≡ count_below p n =
          count_below-same q p n (λ k low.
          ap (λ t. p k && not t) (ne_eqb u (k + 1) (λ f. omega (arith, e, f, low))) ∙ and_true (p k)) in
          omega (arith, below, bit_small (p n))
      | inr other ↦
          let here : bit_of (q n) ≡ bit_of (p n) =
          ap (λ t. bit_of (p n && not t)) (ne_eqb u (n + 1) other) ∙ ap bit_of (and_true (p n)) in
          omega (arith, here, one_fewer p u n)
    ]
  where
    and_true : (b : Bool) → (b && true) ≡ b
    and_true true = refl
    and_true false = refl

-- Where a number passes only if a unit has it, no more pass than there are units.
pub few_pass : (units : List WaitingUnit) (p : ℕ → Bool) (n : ℕ)
    → ((k : ℕ) → k < n → waiting_bytes units (k + 1) ≡ None → p k ≡ false) → count_below p n ≤ length units
few_pass [] p n only = omega (arith, count_none p n (λ k low. only k low refl))
few_pass (w ∷ units) p n only =
    omega (
      arith,
      one_fewer p w.unit n,
      few_pass units (λ k. p k && not (w.unit == k + 1)) n (λ k low none. by k low none (w.unit == k + 1) refl),
    )
  where
    by : (k : ℕ) → k < n → waiting_bytes units (k + 1) ≡ None → (t : Bool) → (w.unit == k + 1) ≡ t
        → (p k && not t) ≡ false
    by k low none true same = and_right (p k) false refl
    by k low none false other =
        ap (λ b. b && true)
        (only k low (ap (λ s. if s then Some w.bytes else waiting_bytes units (k + 1)) other ∙ none))

-- ---- what a commit changes

module _ (image : List ℕ) (draft : DraftState) (file : List ℕ) (is : IsDraftOf image draft)
    (few : draft.header.tn < 2 ^ 63) (made : IsCommitted draft image file) where
  pub fields : fields_of file ≡ next_header draft.header
  fields =
      (committed_is_stamped image draft file is few made).fields
      ∙ ap next_header (drafted_read image draft is).fields

  -- Where the total stays, a block that the draft hasn't stays.
  pub block_stays : draft.header.total ≡ (fields_of image).total → (n : ℕ) → n < (fields_of image).total
      → block_in draft n ≡ None → block_of file n ≡ block_of image n
  block_stays same n low none =
      let within : n < draft.header.total = omega (arith, same, low) in
      made.others n within none ∙ (drafted_read image draft is).blocks n within
      ∙ ap (or_block draft.header image n) none
      ∙ cond-true (nat_lt n (fields_of image).total) _ _ (lt-ltb n (fields_of image).total low)

  pub same_bytes : (n : ℕ) → block_of file n ≡ block_of image n → is_changed image file n ≡ false
  same_bytes n e = ap not ((bytes_eq-Decides (block_of image n) (block_of file n)).1 (sym e))

  pub header_once : (b : Bool) → (if b then 0 else 1) ≤ 1
  header_once true = omega arith
  header_once false = omega arith

  pub differs : (most : ℕ) → (draft.header.total ≡ (fields_of image).total → length draft.units + 1 ≤ most)
      → DiffersInAtMost most image file
  differs most small total =
      let same : draft.header.total ≡ (fields_of image).total =
      ap (λ (h : Header). h.total) (sym fields) ∙ total in
      omega (
        arith,
        small same,
        header_once (bytes_eq (take 8192 image) (take 8192 file)),
        counted (is_changed image file) (fields_of image).total,
        few_pass draft.units (is_changed image file) (fields_of image).total
            (λ n low none. same_bytes n (block_stays same n low none)),
      )

  pub uses : (most : ℕ) → room_of (fields_of image) ≤ room_of draft.header + most → UsesAtMost most image file
  uses most enough =
      let same : room_of (fields_of file) ≡ room_of draft.header = ap room_of fields in
      omega (arith, enough, same)

-- A draft that doesn't grow has few blocks.
pub few_changed : (n from to : ℕ) → n ≤ 47 + new_maps from to → to ≡ from → n + 1 ≤ 64
few_changed n from to few same = omega (arith, few, ap (new_maps from) same)

-- where it is told
pub told_differs : (old mid new : Option (List ℕ)) (draft : DraftState) (R : List ℕ → List ℕ → Type 0) → mid ≡ old
    → ((image : List ℕ) → old ≡ Some image → (file : List ℕ) → IsCommitted draft image file → R image file)
    → TellsOn mid new (IsCommitted draft) → TellsOn old new R
told_differs old mid new draft R same so made =
    told old new so (subst (λ o. TellsOn o new (IsCommitted draft)) same made)
  where
    told : (o new : Option (List ℕ))
        → ((image : List ℕ) → o ≡ Some image → (file : List ℕ) → IsCommitted draft image file → R image file)
        → TellsOn o new (IsCommitted draft) → TellsOn o new R
    told None new so made = tt
    told (Some image) None so made = absurd made
    told (Some image) (Some file) so made = so image refl file made

-- ---- the room of a draft

-- What a file may still grow by is the same before it grows and afterwards.
grown_room : (free total more limit : ℕ) → total ≤ more → more ≤ limit
    → ((free + (more - total) - ((more + 511) / 512 - (total + 511) / 512)) + (limit - more))
    - ((limit + 511) / 512 - (more + 511) / 512)
    ≡ free + (limit - total) - ((limit + 511) / 512 - (total + 511) / 512)
grown_room free total more limit low high = omega (arith, low, high)

pub reserved_room : (old new : DraftState) (before after : List ℕ) → fields_of before ≡ old.header
    → fields_of after ≡ new.header → new.header.total ≤ new.header.limit → Reserves old new before after
    → room_of new.header ≡ room_of old.header
reserved_room old new before after first second within reserves = ⊎_elim
    (λ (e : new ≡ old). ap (λ (d : DraftState). room_of d.header) e)
    (λ (g : Grows before after new.header.total).
    let h : Header = fields_of before in
    let total : ℕ = new.header.total in
    let is : new.header ≡ record h {
      total = total;
      free = grown_free h total;
      master = (fields_of after).master;
    } = sym second ∙ g.fields in
    ap room_of is
    ∙ grown_room h.free h.total total h.limit (omega (arith, g.more))
    (omega (arith, within, ap (λ (x : Header). x.limit) is))
    ∙ ap room_of first)
    reserves.grows

-- Blocks that are taken.
pub taken_room : (mid last : Header) (most : ℕ) → last ≡ record mid { free = last.free; master = last.master }
    → mid.free ≤ last.free + most → room_of mid ≤ room_of last + most
taken_room mid last most is few =
    omega (arith, few, ap (λ (h : Header). h.total) is, ap (λ (h : Header). h.limit) is)
