-- A range that is cut out below one entry of an index block after another, by calls on a base and a draft.
use Rattle.std.proofs.Common.{◌≡◌, ◌+◌, ◌-◌, ◌*◌, ◌<◌, ◌≤◌, ℕ, suc, Bool, true, false, List, [], ◌∷◌}
use Rattle.std.proofs.Common.{◌++◌, length, Option, None, Some, Result, Ok, Err, refl, sym, ap}
use Rattle.std.proofs.Common.{◌∙◌, subst, arith}
use Rattle.std.specs.Prelude.{if◌then◌else◌}
use Rattle.std.specs.Option.{ForSome}
use Rattle.std.proofs.lemmas.List.{length-append}
use Rattle.std.proofs.Math.Nat.{add-mul, mul-add}
use Rattle.host_model.specs.Failures.{Failures, NeverFell}
use Rattle.host_model.specs.Files.{Contents}
use Rattle.gds_base.specs.Drafting.{Drafts, IsDraftFor, WithDraft}
use Rattle.gds_base.specs.Ending.{EndsReading}
use Rattle.gds_base.specs.declared.error.BaseError.{BaseError}
use Rattle.gds_block.specs.Item.{Item}
use Rattle.gds_draft.specs.Draft.{DraftState}
use Rattle.gds_draft.specs.Drafted.{drafted}
use Rattle.gds_draft.specs.Laws.{IsDraftOf}
use Rattle.gds_header.specs.Fields.{fields_of}
use Rattle.gds_header.specs.declared.header.Header.{Header}
use Rattle.gds_law.specs.Visit.{Visit}
use Rattle.gds_pack.specs.Packable.{ArePackable}
use Rattle.gds_sound.specs.Sound.{Tree}
use Rattle.gds_tree.specs.Below.{HasEntries}
use Rattle.gds_units.specs.Reading.{OnlyRead}
use Rattle.gds_units.specs.State.{UnitsState, image_of}
use Rattle.gds_split.specs.Pieces.{starred}
use Rattle.gds_splice.proofs.DraftingLemmas.{ends_exit, same_header, same_image}
use Rattle.gds_splice.proofs.EntriesPutLemmas.{drafted_fields}
use Rattle.gds_splice.proofs.ImageLemmas as lawful
use Rattle.gds_remove.specs.Block.{AreEntriesAt, FreesBelow, HasNoEntries, WritesOne}
use Rattle.gds_remove.specs.Child.{CannotPrune, CannotPutKept, PrunesChild, PutsKept}
use Rattle.gds_remove.specs.Cut.{CutsAt, HasCut, Leaves, NoneStands, StandsBelow}
use Rattle.gds_remove.specs.Killed.{OnlyWrites}
use Rattle.gds_remove.specs.Range.{IsLeft, Left, Range, StaysLeft, end_count, ends_in, ends_left, left_by, most_written}
use Rattle.gds_remove.proofs.EndLemmas.{at_end, may_put}
use Rattle.gds_remove.proofs.SoFarLemmas.{CutSoFar, begun, entries_at}
use Rattle.gds_remove.proofs.NextLemmas.{next_cut, none_to_prune}
use Rattle.gds_remove.proofs.WritesLemmas.{OnlyWrites-one, OnlyWrites-read, OnlyWrites-then, OnlyWrites-weaker}
use Rattle.gds_remove.proofs.WritesLemmas.{draft_stays, total_stays}

-- ---- the whole range

abbrev pub all_keys : Range
all_keys = record { low = None; high = None }

all_out : (es : List Item) → left_by all_keys es ≡ []
all_out [] = refl
all_out (e ∷ es) = all_out es

pub all_cut : (before after : List ℕ) (n level : ℕ) (range : Range) → range ≡ all_keys
    → FreesBelow n level before after → CutsAt n level range true before after
all_cut before after n level range all frees v t same s = record {
  none = ap (λ r. left_by r t.items) all ∙ all_out t.items;
  leaves = subst (λ k. Leaves before after t.blocks (k ∷ [])) (sym same) (frees v t same s);
}

pub some_end : (range : Range) → (range ≡ all_keys → ⊥) → 1 ≤ ends_in range
some_end range other = by range.low range.high other
  where
    by : (low high : Option (List ℕ)) → (record { low = low; high = high } ≡ all_keys → ⊥)
        → 1 ≤ end_count low + end_count high
    by None None other = absurd (other refl)
    by None (Some high) other = omega arith
    by (Some low) high other = omega arith

fewer_is : (p q : ℕ) → p ≤ q → q ≡ q - p + p
fewer_is p q le = omega arith

more_one : (n : ℕ) → n + 1 ≡ suc n
more_one n = omega arith

pub level_up : (level : ℕ) → 0 < level → level ≡ suc (level - 1)
level_up level some = omega (arith, some)

-- How a call ended behind others, as they ended together.
pub ends_on : (T : Type 0) (a b c : Failures) (P Q : Type 0) (result : Result T BaseError) → NeverFell a b → (P → Q)
    → EndsReading {T = T} b c P result → EndsReading {T = T} a c Q result
ends_on T a b c P Q (Ok value) never so ends = tt
ends_on T a b c P Q (Err e) never so ends = ends_exit T T a b c P Q e (Err e) never so refl ends

-- ---- one file

pub no_entries : (file : List ℕ) (n level below : ℕ) → level ≡ suc below → HasNoEntries n level file
    → NoneStands n level file
no_entries file n level below is cannot v t same s =
    let s' = subst (λ k. StandsBelow file v k t) is s in
    let p = entries_at file v below t s' in
    cannot v p.es same (lawful.image_of file s.maps)
    (subst (λ k. HasEntries file v k p.es) (sym is) p.has)

module _ (n below : ℕ) (range : Range) where
  -- how far the range was cut out of the tree of the block, whichever that is
  abbrev pub CutTo : List Item → List Item → List Item → Left → List ℕ → List ℕ → Type 0
  CutTo done kept rest left before now =
      (v : Visit) (t : Tree) → v.block ≡ n → StandsBelow before v (suc below) t
      → CutSoFar before now v below t range done kept rest left

  -- What calls left, of so many entries once these are kept and those are to come.
  pub record CutsOn {H : Type 0} (told : H → Option Contents) (moment : H → ℕ) (counts : H → Failures)
      (left_since : H → ℕ → Contents → Type 0) (a b : UnitsState H) (x y : DraftState) (count : ℕ)
      (kept rest : List Item) (left : Left) : Type 0 where
    pub done : List Item
    pub long : length done + length rest ≡ count
    pub written : ℕ
    pub only : OnlyWrites told moment counts left_since a b x y written
    pub most : written + ends_left left * suc below ≤ ends_in range * suc below
    pub cut : Drafts a x y (CutTo done kept rest left)

module _ (n level below : ℕ) (is : level ≡ suc below) (range : Range) where
  abbrev To : List Item → List Item → List Item → Left → List ℕ → List ℕ → Type 0
  To = CutTo n below range

  at_first : (before : List ℕ) (es : List Item) → AreEntriesAt n level es before
      → To [] [] es (record { low = range.low; high = range.high; past = false }) before before
  at_first before es are v t same s =
      let p = entries_at before v below t s in
      begun before v below t s range es
      (are v p.es same (lawful.image_of before s.maps) (subst (λ k. HasEntries before v k p.es) (sym is) p.has))

  at_next : (before mid after : List ℕ) (done kept : List Item) (e : Item) (rest : List Item) (left later : Left)
      (empty : Bool) → To done kept (e ∷ rest) left before mid → PrunesChild below e left empty mid after
      → ((r : Range) (from : Option (List ℕ)) → IsLeft r from left → StaysLeft r from e.key later)
      → To (done ++ e ∷ []) (if empty then kept else kept ++ e ∷ []) rest later before after
  at_next before mid after done kept e rest left later empty c prunes stays v t same s =
      let so_far = c v t same s in
      next_cut before mid after v below t range done kept e rest left later s so_far empty prunes
      (stays range _ (so_far.left_is (λ none. absurd (cc))))

  cannot_next : (before mid : List ℕ) (done kept : List Item) (e : Item) (rest : List Item) (left : Left)
      → To done kept (e ∷ rest) left before mid → CannotPrune below e left mid → NoneStands n level before
  cannot_next before mid done kept e rest left c cannot v t same s =
      let s' = subst (λ k. StandsBelow before v k t) is s in
      none_to_prune before mid v below t range done kept e rest left s' (c v t same s') cannot

  at_last : (before now after : List ℕ) (done kept : List Item) (left : Left) (count : ℕ) (empty : Bool)
      → length done ≡ count → To done kept [] left before now → PutsKept n level count kept empty now after
      → CutsAt n level range empty before after
  at_last before now after done kept left count empty long c put v t same s =
      let s' = subst (λ k. StandsBelow before v k t) is s in
      subst (λ k. HasCut before after v k t range empty) (sym is)
      (at_end before now after v below t range done kept left count empty s' (c v t same s') long
      (subst (λ k. PutsKept v.block k count kept empty now after) is
      (subst (λ k. PutsKept k level count kept empty now after) (sym same) put)))

  cannot_end : (before now : List ℕ) (h : Header) (done kept : List Item) (left : Left) (count : ℕ)
      → (fields_of before).block_size ≡ h.block_size → To done kept [] left before now
      → CannotPutKept h level count kept → NoneStands n level before
  cannot_end before now h done kept left count size c put v t same s =
      let s' = subst (λ k. StandsBelow before v k t) is s in
      let may = may_put before now v below t range done kept left s' (c v t same s') put.some in
      put.cannot (record {
        packable = subst (λ k. ArePackable k (starred kept)) (sym is) may.packable;
        fits = omega (arith, may.fits, size);
      })

  -- ---- the calls

  -- each end writes a block of each level
  in_all : ends_in range * (level + 1) ≡ ends_in range * suc below + ends_in range
  in_all = omega (arith, mul-add (ends_in range) level 1, ap (λ k. ends_in range * k) is)

  module _ {H : Type 0} (told : H → Option Contents) (moment : H → ℕ) (counts : H → Failures)
      (left_since : H → ℕ → Contents → Type 0) where
    abbrev On : UnitsState H → UnitsState H → DraftState → DraftState → ℕ → List Item → List Item → Left → Type 0
    On = CutsOn n below range told moment counts left_since

    pub begins : (a b : UnitsState H) (x : DraftState) (count : ℕ) (kept es rest : List Item) (left : Left)
        → OnlyRead told moment counts left_since a b → WithDraft a x (AreEntriesAt n level es) → count ≡ length es
        → kept ≡ [] → rest ≡ es → left ≡ record { low = range.low; high = range.high; past = false }
        → On a b x x count kept rest left
    begins a b x count kept es rest left read are counted nothing all first =
        let begun_so : On a b x x count [] es (record { low = range.low; high = range.high; past = false }) = record {
          done = [];
          long = omega (arith, counted);
          written = 0;
          only = OnlyWrites-read told moment counts left_since a b x read;
          most = omega arith;
          cut = λ image is_told. at_first (drafted x image) es (are image is_told);
        } in
        subst (λ (k : List Item). On a b x x count k rest left) (sym nothing)
        (subst (λ (r : List Item). On a b x x count [] r left) (sym all)
        (subst (On a b x x count [] es) (sym first) begun_so))

    pub at_rest : (a b : UnitsState H) (x y : DraftState) (count : ℕ) (kept kept' rest rest' : List Item)
        (left : Left) → kept' ≡ kept → rest ≡ rest' → On a b x y count kept rest left
        → On a b x y count kept' rest' left
    at_rest a b x y count kept kept' rest rest' left k r c =
        subst (λ (es : List Item). On a b x y count es rest' left) (sym k)
        (subst (λ (es : List Item). On a b x y count kept es left) r c)

    pub goes_on : (a b d : UnitsState H) (x y z : DraftState) (count : ℕ) (kept : List Item) (e : Item)
        (rest : List Item) (left later : Left) (empty : Bool) → On a b x y count kept (e ∷ rest) left
        → Drafts b y z (PrunesChild below e left empty)
        → ((r : Range) (from : Option (List ℕ)) → IsLeft r from left → StaysLeft r from e.key later)
        → ends_left later ≤ ends_left left
        → OnlyWrites told moment counts left_since b d y z ((ends_left left - ends_left later) * (below + 1))
        → On a d x z count (if empty then kept else kept ++ e ∷ []) rest later
    goes_on a b d x y z count kept e rest left later empty c prunes stays fewer only =
        let gone : ℕ = ends_left left - ends_left later in
        record {
          done = c.done ++ e ∷ [];
          long = omega (arith, c.long, length-append c.done (e ∷ []));
          written = c.written + gone * (below + 1);
          only = OnlyWrites-then told moment counts left_since a b d x y z c.written (gone * (below + 1)) c.only only;
          most = omega (
            arith,
            c.most,
            add-mul gone (ends_left later) (suc below),
            ap (λ k. gone * k) (more_one below),
            ap (λ k. k * suc below) (fewer_is (ends_left later) (ends_left left) fewer),
          );
          cut = λ image is_told.
              at_next (drafted x image) (drafted y image) (drafted z image) c.done kept e rest left later empty
              (c.cut image is_told)
              (prunes image (same_image told moment counts left_since a b c.only.read ∙ is_told)) stays;
        }

    pub cannot_go_on : (a b : UnitsState H) (x y : DraftState) (count : ℕ) (kept : List Item) (e : Item)
        (rest : List Item) (left : Left) → On a b x y count kept (e ∷ rest) left
        → WithDraft b y (CannotPrune below e left) → WithDraft a x (NoneStands n level)
    cannot_go_on a b x y count kept e rest left c cannot image is_told =
        cannot_next (drafted x image) (drafted y image) c.done kept e rest left (c.cut image is_told)
        (cannot image (same_image told moment counts left_since a b c.only.read ∙ is_told))

    pub ends_cut : (a b : UnitsState H) (x y z : DraftState) (count : ℕ) (kept : List Item) (left : Left) (empty : Bool)
        → On a b x y count kept [] left → Drafts b y z (PutsKept n level count kept empty)
        → Drafts a x z (CutsAt n level range empty)
    ends_cut a b x y z count kept left empty c put image is_told =
        at_last (drafted x image) (drafted y image) (drafted z image) c.done kept left count empty
        (omega (arith, c.long)) (c.cut image is_told)
        (put image (same_image told moment counts left_since a b c.only.read ∙ is_told))

    pub cut_writes_on : (a b d : UnitsState H) (x y z : DraftState) (count : ℕ) (kept rest : List Item)
        (left later : Left) → On a b x y count kept rest left → ends_left later ≤ ends_left left
        → OnlyWrites told moment counts left_since b d y z ((ends_left left - ends_left later) * (below + 1))
        → OnlyWrites told moment counts left_since a d x z (most_written range level)
    cut_writes_on a b d x y z count kept rest left later c fewer only =
        let gone : ℕ = ends_left left - ends_left later in
        OnlyWrites-weaker told moment counts left_since a d x z (c.written + gone * (below + 1))
        (most_written range level)
        (omega (
          arith,
          c.most,
          add-mul gone (ends_left later) (suc below),
          ap (λ k. gone * k) (more_one below),
          ap (λ k. k * suc below) (fewer_is (ends_left later) (ends_left left) fewer),
          in_all,
        ))
        (OnlyWrites-then told moment counts left_since a b d x y z c.written (gone * (below + 1)) c.only only)

    pub cut_writes : (a b : UnitsState H) (x y : DraftState) (count : ℕ) (kept rest : List Item) (left : Left)
        → On a b x y count kept rest left
        → OnlyWrites told moment counts left_since a b x y (most_written range level)
    cut_writes a b x y count kept rest left c =
        OnlyWrites-weaker told moment counts left_since a b x y c.written (most_written range level)
        (omega (arith, c.most, in_all)) c.only

    pub cut_writes_more : (a b : UnitsState H) (x y z : DraftState) (count : ℕ) (kept rest : List Item) (left : Left)
        → 1 ≤ ends_in range → On a b x y count kept rest left → WritesOne y z
        → OnlyWrites told moment counts left_since a b x z (most_written range level)
    cut_writes_more a b x y z count kept rest left some c one =
        OnlyWrites-weaker told moment counts left_since a b x z (c.written + 1) (most_written range level)
        (omega (arith, c.most, in_all, some))
        (OnlyWrites-then told moment counts left_since a b b x y z c.written 1 c.only
        (OnlyWrites-one told moment counts left_since b y z one))

    pub cut_draft : (a b : UnitsState H) (x y : DraftState) (count : ℕ) (kept rest : List Item) (left : Left)
        → On a b x y count kept rest left → IsDraftFor a.header x → IsDraftFor b.header y
    cut_draft a b x y count kept rest left c is_for =
        draft_stays told moment counts left_since a b x y c.written c.only is_for

    pub cut_total : (a b : UnitsState H) (x y : DraftState) (count : ℕ) (kept rest : List Item) (left : Left)
        → On a b x y count kept rest left → n < x.header.total → n < y.header.total
    cut_total a b x y count kept rest left c low =
        omega (arith, low, total_stays told moment counts left_since a b x y c.written c.only)

    pub cannot_put : (a b : UnitsState H) (x y : DraftState) (count : ℕ) (kept : List Item) (left : Left)
        → On a b x y count kept [] left → IsDraftFor a.header x
        → ForSome (image_of a) (λ image. IsDraftOf image x) → CannotPutKept b.header level count kept
        → WithDraft a x (NoneStands n level)
    cannot_put a b x y count kept left c is_for of cannot image is_told =
        cannot_end (drafted x image) (drafted y image) b.header c.done kept left count
        (ap (λ (h : Header). h.block_size) (drafted_fields image x (of image is_told)) ∙ is_for.block_size
        ∙ ap (λ (h : Header). h.block_size) (sym (same_header told moment counts left_since a b c.only.read)))
        (c.cut image is_told) cannot
