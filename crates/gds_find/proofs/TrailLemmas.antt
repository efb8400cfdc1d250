-- A trail one step longer, and how a call ends that goes on by another.
use Rattle.std.proofs.Common.{◌≡◌, ℕ, suc, ◌-◌, ◌<◌, ◌==◌, Bool, List, [], ◌∷◌, ◌++◌}
use Rattle.std.proofs.Common.{Option, None, Some, Result, Ok, Err, refl, sym, ap, subst, ◌∙◌, arith, append_assoc}
use Rattle.std.specs.Prelude.{All, OnOk, option_and_then}
use Rattle.std.specs.Option.{ForSome}
use Rattle.std.proofs.lemmas.Bool.{cond-true, eq-eqb}
use Rattle.std.proofs.lemmas.List.{map-append}
use Rattle.std.proofs.lemmas.List.Elements.{All-push}
use Rattle.host_model.specs.Failures.{Failures, NeverFell}
use Rattle.host_model.proofs.FailureLemmas.{then-Rose}
use Rattle.gds_base.specs.Ending.{EndsReading}
use Rattle.gds_base.specs.declared.error.BaseError.{BaseError}
use Rattle.gds_base.specs.declared.error.BaseError.TheVariants as error
use Rattle.gds_draft.specs.Draft.{DraftState}
use Rattle.gds_draft.specs.Drafted.{drafted}
use Rattle.gds_law.specs.Path.{Steps, visit_from}
use Rattle.gds_law.specs.Visit.{Visit}
use Rattle.gds_search.specs.declared.place.Place.{Place}
use Rattle.gds_tree.specs.RightBlock.{IsDueLevel}
use Rattle.gds_find.specs.Trail.{HasTreeFor, IsTrail, steps_of}
use Rattle.gds_find.specs.Turn.{EndsHere, LeadsDown, TrailsOn, TurnsAt, most_blocks, offset_of}
use Rattle.gds_find.specs.declared.trail.Step.{Step}
use Rattle.gds_find.specs.declared.turning.Turn.{Turn}
use Rattle.gds_find.specs.declared.turning.Turn.TheVariants.{Down, Here}
use Rattle.gds_find.proofs.FindLemmas.{HasNone, TurnsThere}

-- One more step leaves fewer blocks on the way.
pub fewer_blocks : (due : Option ℕ) (level : ℕ) → 0 < level → IsDueLevel due level
    → most_blocks (Some (level - 1)) < most_blocks due
fewer_blocks None level low is = omega (arith, low, is.1)
fewer_blocks (Some due) level low is = omega (arith, low, is)

-- a turn's step at the end of others
pub steps_pushed : (old new : List Step) (block number offset : ℕ) (turn : Turn)
    → new ≡ old ++ record { block = block; offset = number } ∷ [] → number ≡ offset_of turn → offset_of turn ≡ offset
    → steps_of new ≡ steps_of old ++ (block, offset) ∷ []
steps_pushed old new block number offset turn is at same =
    ap steps_of is
    ∙ map-append (λ (s : Step). (s.block, s.offset)) old (record { block = block; offset = number } ∷ [])
    ∙ ap (λ n. steps_of old ++ (block, n) ∷ []) (at ∙ same)

-- Its block is below a total, as those of the others are.
pub within_pushed : (total : ℕ) (old new : List Step) (block offset : ℕ)
    → new ≡ old ++ record { block = block; offset = offset } ∷ [] → block < total
    → All (λ s. s.block < total) old → All (λ s. s.block < total) new
within_pushed total old new block offset is low all =
    subst (All (λ s. s.block < total)) (sym is)
    (All-push (λ s. s.block < total) old (record { block = block; offset = offset }) all low)

module _ (file : List ℕ) (v : Visit) (key : List ℕ) (block : ℕ) (due : Option ℕ)
    (tree : HasTreeFor file v block due key) (offset : ℕ) (place : Place) where
  -- The way ends in the block of the visit.
  trail_here : EndsHere file v key offset place → IsTrail file v key ((block, offset) ∷ []) place.is_equal place
  trail_here here =
      let at = here.place_is in
      record {
        path = [];
        leaf = v;
        steps_are = λ i. (sym tree.block_is i, here.offset_is i) ∷ [];
        leads = refl;
        levels = sym here.has.level;
        holds = tree.holds;
        entries = here.entries;
        has = here.has;
        before = at.0;
        behind = at.1;
        place_is = at.2;
        found_is = refl;
      }

  pub trails_here : (old new : List Step) (number : ℕ) (turn : Turn)
      → new ≡ old ++ record { block = block; offset = number } ∷ [] → number ≡ offset_of turn
      → turn ≡ Here offset place → TurnsAt file v key turn
      → TrailsOn file v key (steps_of old) (steps_of new) place.is_equal place
  trails_here old new number turn is at same here = (
    (block, offset) ∷ [],
    steps_pushed old new block number offset turn is at (ap offset_of same),
    trail_here (subst (TurnsAt file v key) same here),
  )

  -- It goes on below it.
  trail_down : (level below : ℕ) (down : LeadsDown file v key level offset below) (more : Steps) (found : Bool)
      → IsTrail file down.child key more found place → IsTrail file v key ((block, offset) ∷ more) found place
  trail_down level below down more found t = record {
    path = (v.block, offset) ∷ t.path;
    leaf = t.leaf;
    steps_are = (λ i. (sym tree.block_is i, offset) ∷ t.steps_are i);
    leads = cond-true (v.block == v.block) _ _ (eq-eqb v.block v.block refl)
        ∙ ap (option_and_then (λ w. visit_from file w t.path)) down.leads ∙ t.leads;
    levels = ap suc t.levels ∙ down.next_level ∙ sym down.own_level;
    holds = t.holds;
    entries = t.entries;
    has = t.has;
    before = t.before;
    behind = t.behind;
    place_is = t.place_is;
    found_is = t.found_is;
  }

  pub trails_down : (level below : ℕ) (old mid new : List Step) (number : ℕ) (turn : Turn) (found : Bool)
      → mid ≡ old ++ record { block = block; offset = number } ∷ [] → number ≡ offset_of turn
      → offset_of turn ≡ offset → (down : LeadsDown file v key level offset below)
      → TrailsOn file down.child key (steps_of mid) (steps_of new) found place
      → TrailsOn file v key (steps_of old) (steps_of new) found place
  trails_down level below old mid new number turn found is at same down (more, behind, t) = (
    (block, offset) ∷ more,
    behind ∙ ap (λ xs. xs ++ more) (steps_pushed old mid block number offset turn is at same)
        ∙ append_assoc (steps_of old) ((block, offset) ∷ []) more,
    trail_down level below down more found t,
  )

-- A trail that goes on from no step.
pub from_none : (file : List ℕ) (v : Visit) (key : List ℕ) (old new : List Step) (found : Bool) (place : Place)
    → old ≡ [] → TrailsOn file v key (steps_of old) (steps_of new) found place
    → IsTrail file v key (steps_of new) found place
from_none file v key old new found place none (more, is, t) =
    subst (λ steps. IsTrail file v key steps found place) (sym (is ∙ ap (λ xs. steps_of xs ++ more) none)) t

-- ---- how a call ends that goes on by another

-- In the image that is told first and then again, the block of each visit with a sound tree turns down to another.
module _ (told mid : Option (List ℕ)) (same : mid ≡ told) (draft : DraftState) (key : List ℕ) (block below level : ℕ)
    (due : Option ℕ) (turn : Turn) (offset : ℕ) (is : turn ≡ Down level offset below)
    (turns : TurnsThere told draft block due key turn) where
  downs : ForSome told (λ image. (v : Visit) → HasTreeFor (drafted draft image) v block due key
      → LeadsDown (drafted draft image) v key level offset below)
  downs image is_told v tree =
      subst (TurnsAt (drafted draft image) v key) is (turns image is_told v tree)

  -- So where none has one there, none has one here.
  pub none_above : HasNone mid draft below (Some (level - 1)) key → HasNone told draft block due key
  none_above none image is_told v tree =
      let down = downs image is_told v tree in
      none image (same ∙ is_told) down.child down.tree

  -- And the trails from there on are longer ones from here on.
  pub found_above : (old pushed new : List Step) (number : ℕ) (found : Bool) (place : Place)
      → pushed ≡ old ++ record { block = block; offset = number } ∷ [] → number ≡ offset_of turn
      → ForSome mid (λ image. (v : Visit) → HasTreeFor (drafted draft image) v below (Some (level - 1)) key
      → TrailsOn (drafted draft image) v key (steps_of pushed) (steps_of new) found place)
      → ForSome told (λ image. (v : Visit) → HasTreeFor (drafted draft image) v block due key
      → TrailsOn (drafted draft image) v key (steps_of old) (steps_of new) found place)
  found_above old pushed new number found place more at finds image is_told v tree =
      let down = downs image is_told v tree in
      trails_down (drafted draft image) v key block due tree offset place level below old pushed new number turn found
      more at (ap offset_of is) down (finds image (same ∙ is_told) down.child down.tree)

pub on_ok_weaker : {T E : Type 0} (P Q : Type 0) (r : Result T E) → (P → Q) → OnOk r P → OnOk r Q
on_ok_weaker P Q (Ok x) f h = f h
on_ok_weaker P Q (Err e) f h = h

pub ends_later : {T : Type 0} (before mid now : Failures) (P Q : Type 0) (r : Result T BaseError)
    → NeverFell before mid → (P → Q) → EndsReading mid now P r → EndsReading before now Q r
ends_later before mid now P Q (Ok x) fell f h = tt
ends_later before mid now P Q (Err error.Memory) fell f h = tt
ends_later before mid now P Q (Err error.ReadFault) fell f h = then-Rose before.read mid.read now.read fell.read h
ends_later before mid now P Q (Err (error.Changed unit)) fell f h = f h
ends_later before mid now P Q (Err error.WriteFault) fell f h = h
ends_later before mid now P Q (Err error.Stopped) fell f h = h
ends_later before mid now P Q (Err error.KeyTooLong) fell f h = h
ends_later before mid now P Q (Err error.ValueTooLong) fell f h = h
ends_later before mid now P Q (Err error.Full) fell f h = h
ends_later before mid now P Q (Err error.TooDeep) fell f h = h
ends_later before mid now P Q (Err error.TnSpent) fell f h = h
