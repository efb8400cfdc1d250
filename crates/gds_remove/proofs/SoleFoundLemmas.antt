-- The child of an index block that a search for the least key of a range finds.
use Rattle.std.proofs.Common.{◌≡◌, ◌⊎◌, ◌<◌, ℕ, suc, false, List, [], ◌∷◌, take, Option, None, Some}
use Rattle.std.proofs.Common.{inl, inr}
use Rattle.std.proofs.Common.{refl, sym, ap, ◌∙◌, subst, append-nil}
use Rattle.std.specs.Bool.{OnFalse}
use Rattle.std.specs.List.{AllByRecursion}
use Rattle.std.specs.Prelude.{All, IfSome}
use Rattle.std.proofs.lemmas.List.{take-take}
use Rattle.std.proofs.lemmas.List.Elements.{recursion_from_All}
use Rattle.gds_block.specs.Item.{Item}
use Rattle.gds_find.proofs.WayLemmas.{packed_at}
use Rattle.gds_header.specs.Fields.{block_of}
use Rattle.gds_block.specs.Fields.{u32_at}
use Rattle.gds_pack.specs.Packable.{AreIndex}
use Rattle.gds_pack.specs.Packed.{key_behind}
use Rattle.gds_pack.proofs.BoundLemmas.{shared-between}
use Rattle.gds_search.specs.PackedBlock.{IsPackedBlock}
use Rattle.gds_search.specs.Place.{BeginsAbove, IsBelow, IsPlace, IsPlaceFor}
use Rattle.gds_search.specs.declared.place.Place.{Place}
use Rattle.gds_tree.proofs.TestLemmas.{below_less, most_from}
use Rattle.m_key.specs.Key.{Below}
use Rattle.m_key.specs.KeyEnd.{shared}
use Rattle.m_key.proofs.KeyEndLemmas.{shared-nil, take-shared}
use Rattle.gds_remove.specs.Range.{BeginsBehind, BeginsBelow, EndsBelow, Range}
use Rattle.gds_remove.specs.Sole.{HasSole, IsSole}
use Rattle.gds_remove.specs.declared.sole.SoleChild.{SoleChild}

-- ---- what a key shares with the entry above it

last_below : (key p : List ℕ) (es : List Item) → (p ≡ []) ⊎ Below p key → AllByRecursion (IsBelow key) es
    → (key_behind p es ≡ []) ⊎ Below (key_behind p es) key
last_below key p [] first below = first
last_below key p (e ∷ es) first below = last_below key e.key es (inr below.0.1) below.1

no_more : (n : ℕ) (a b : List ℕ) → n ≡ 0 → take n a ≡ take n b
no_more n a b none = ap (λ k. take k a) none ∙ sym (ap (λ k. take k b) none)

begins_with : (key p own : List ℕ) → (p ≡ []) ⊎ Below p key → (own ≡ []) ⊎ Below key own
    → take (shared p own) key ≡ take (shared p own) own
begins_with key p own first (inl none) = no_more (shared p own) key own (ap (shared p) none ∙ shared-nil p)
begins_with key p own (inl none) (inr less) = no_more (shared p own) key own (ap (λ q. shared q own) none)
begins_with key p own (inr below) (inr less) =
    let within = shared-between p key own (below_less p key below) (below_less key own less) in
    sym (take-take (shared p own) (shared key own) key within)
    ∙ ap (take (shared p own)) (take-shared key own)
    ∙ take-take (shared p own) (shared key own) own within

-- ---- the place in an index block

all_below : (low : List ℕ) (p : List ℕ) (es : List Item) → AreIndex p es → AllByRecursion (IsBelow low) es → ⊥
all_below low p [] index below = index
all_below low p (e ∷ []) index below = below.0.0 index.0
all_below low p (e ∷ f ∷ es) index below = all_below low e.key (f ∷ es) index.2 below.1

all_behind : (low : List ℕ) (es : List Item) → AllByRecursion (IsBelow low) es
    → AllByRecursion (λ (e : Item). BeginsBehind (Some low) e.key) es
all_behind low [] below = tt
all_behind low (e ∷ es) below = (
  record {
    least = low;
    low_is = refl;
    some = below.0.0;
    most = most_from e.key low (inl (below_less e.key low below.0.1));
  },
  all_behind low es below.1,
)

module _ (es : List Item) (low : List ℕ) (place : Place) where
  -- an entry stands there that is above the key
  pub record IsOver : Type 0 where
    pub before : List Item
    pub own : Item
    pub behind : List Item
    pub place_is : IsPlaceFor es low place before (own ∷ behind)
    pub above : (own.key ≡ []) ⊎ Below low own.key

  pub over : AreIndex [] es → IsPlace es low place → place.is_equal ≡ false → IsOver
  over index found other = by found.1 found.2
    where
      by : (behind : List Item) → IsPlaceFor es low place found.0 behind → IsOver
      by [] spot =
          absurd (all_below low [] found.0 (subst (AreIndex []) (spot.parts ∙ append-nil found.0) index)
          (recursion_from_All (IsBelow low) found.0 spot.below))
      by (own ∷ behind) spot = record {
        before = found.0;
        own = own;
        behind = behind;
        place_is = spot;
        above = subst (λ t. OnFalse t (BeginsAbove low (own ∷ behind))) other spot.above;
      }

  module _ (o : IsOver) where
    below : AllByRecursion (IsBelow low) o.before
    below = recursion_from_All (IsBelow low) o.before o.place_is.below

    pub own_begins : take (shared (key_behind [] o.before) o.own.key) low
        ≡ take (shared (key_behind [] o.before) o.own.key) o.own.key
    own_begins =
        begins_with low (key_behind [] o.before) o.own.key (last_below low [] o.before (inl refl) below) o.above

    begins : BeginsBelow (Some low) o.own.key
    begins some = by o.above
      where
        by : (o.own.key ≡ []) ⊎ Below low o.own.key → Below low o.own.key
        by (inl none) = absurd (some none)
        by (inr less) = less

    pub sole_there : (range : Range) (sole : SoleChild) → range.low ≡ Some low → EndsBelow range.high o.own.key
        → sole.block ≡ u32_at o.own.rest 0 → sole.offset ≡ place.offset → HasSole es range sole
    sole_there range sole is ends leads at = record {
      before = o.before;
      own = o.own;
      behind = o.behind;
      parts = o.place_is.parts;
      block_is = leads;
      offset_is = sym (at ∙ o.place_is.offset);
      passed = subst (λ l. AllByRecursion (λ (e : Item). BeginsBehind l e.key) o.before) (sym is)
          (all_behind low o.before below);
      begins = subst (λ l. BeginsBelow l o.own.key) (sym is) begins;
      ends = ends;
    }

-- ---- in the bytes of a block

pub sole_of : (file : List ℕ) (n level below : ℕ) (range : Range) (sole : SoleChild) (bytes : List ℕ)
    → level ≡ suc below → bytes ≡ block_of file n → All (λ b. b < 256) bytes
    → ((height : ℕ) (es : List Item) → IsPackedBlock bytes (suc height) es → HasSole es range sole)
    → IsSole n level range sole file
sole_of file n level below range sole bytes is own are found v es same i has =
    let here : bytes ≡ block_of file v.block = own ∙ ap (block_of file) (sym same) in
    found below es
    (subst (λ k. IsPackedBlock bytes k es) is
    (subst (λ b. IsPackedBlock b level es) (sym here)
    (packed_at file v level es i has (subst (All (λ b. b < 256)) here are))))

pub if_some : {A : Type 0} (o : Option A) (P Q : A → Type 0) → ((a : A) → P a → Q a) → IfSome o P → IfSome o Q
if_some None P Q so holds = tt
if_some (Some a) P Q so holds = so a holds
