-- A range that is cut out of the tree of a child.
use Rattle.std.proofs.Common.{◌≡◌, ◌≢◌, ◌%◌, ℕ, true, false, not, List, [], ◌∷◌, Option, None, Some}
use Rattle.std.proofs.Common.{length, refl, sym, ◌∙◌, subst}
use Rattle.std.specs.Prelude.{if◌then◌else◌, nat_eq}
use Rattle.std.specs.List.{AllByRecursion}
use Rattle.std.proofs.lemmas.Bool.{eq-eqb, or_left}
use Rattle.gds_block.specs.Fields.{u32_at}
use Rattle.gds_block.specs.Item.{Item}
use Rattle.gds_header.specs.declared.header.Header.{Header}
use Rattle.gds_header.specs.Fields.{fields_of}
use Rattle.gds_law.specs.Visit.{Visit}
use Rattle.gds_pack.specs.Packable.{AreLeaves}
use Rattle.gds_sound.specs.Sound.{Tree}
use Rattle.gds_tree.specs.Below.{high_below, visit_below}
use Rattle.gds_tree.specs.Lawful.{IsBelowHigh, IsLawfulEntry, IsTreeNumber}
use Rattle.gds_tree.specs.Lawful as entries
use Rattle.gds_tree.proofs.FineLemmas.{some_key}
use Rattle.gds_tree.proofs.ItemLemmas.{lawful_items}
use Rattle.gds_tree.proofs.LawfulLemmas.{each}
use Rattle.gds_file.specs.FileLaws.{IsLawful}
use Rattle.gds_file.specs.FreeLaws.{IsBusy}
use Rattle.gds_file.specs.Rewrite.{AreNoMaps}
use Rattle.gds_splice.proofs.CountedLemmas.{same_one}
use Rattle.gds_splice.proofs.ImageLemmas.{image_of}
use Rattle.gds_splice.proofs.WritingLemmas.{number_grown}
use Rattle.m_key.specs.Key.{Below}
use Rattle.gds_remove.specs.Block.{CannotFree, FreesOne}
use Rattle.gds_remove.specs.Child.{CannotPrune, MayPrune, PrunesChild}
use Rattle.gds_remove.specs.Cut.{CutsAt, LeavesNone, LeavesTree, NoneStands}
use Rattle.gds_remove.specs.Range.{IsInBounds, IsLeft, IsPart, Left, Range, StaysLeft, TakesPart, is_in, left_by}
use Rattle.gds_remove.proofs.LeavesLemmas.{leaves_compose, leaves_same, left_are_busy}

-- ---- items within bounds

below_key_of : (high : Option (List ℕ)) (key k : List ℕ) → IsBelowHigh (high_below high key) k → key ≢ [] → Below k key
below_key_of high [] k h some = absurd (some refl)
below_key_of high (b ∷ bytes) k h some = h

bounds_of : (h : Header) (v : Visit) (level : ℕ) (from : Option (List ℕ)) (e : Item) (p : List ℕ) (es : List Item)
    → AreLeaves p es → AllByRecursion (IsLawfulEntry h (visit_below v level from e) 0) es
    → AllByRecursion (λ (x : Item). IsInBounds from e.key x.key) es
bounds_of h v level from e p [] leaves l = tt
bounds_of h v level from e p (x ∷ es) leaves l =
    let k = l.0.key (some_key x.key leaves.0.is_key) in (
      record { above = k.above; below = below_key_of v.high e.key x.key k.below },
      bounds_of h v level from e x.key es leaves.1 l.1,
    )

left_same : (from : Option (List ℕ)) (key : List ℕ) (part range : Range) (es : List Item)
    → AllByRecursion (λ (x : Item). IsInBounds from key x.key) es
    → ((k : List ℕ) → IsInBounds from key k → is_in part k ≡ is_in range k) → left_by part es ≡ left_by range es
left_same from key part range [] bounds same = refl
left_same from key part range (x ∷ es) bounds same =
    let rest = left_same from key part range es bounds.1 same in
    λ i. if not (same x.key bounds.0 i) then x ∷ rest i else rest i

all_left : (from : Option (List ℕ)) (key : List ℕ) (range : Range) (es : List Item)
    → AllByRecursion (λ (x : Item). IsInBounds from key x.key) es
    → ((k : List ℕ) → IsInBounds from key k → is_in range k ≡ false) → left_by range es ≡ es
all_left from key range [] bounds out = refl
all_left from key range (x ∷ es) bounds out =
    let rest = all_left from key range es bounds.1 out in
    λ i. if not (out x.key bounds.0 i) then x ∷ rest i else rest i

no_high : (high : Option (List ℕ)) (key : List ℕ) → key ≢ [] → high_below high key ≡ None → ⊥
no_high high [] some is = some refl
no_high high (b ∷ bytes) some is = cc

-- ---- the child

module _ (before : List ℕ) (v : Visit) (level : ℕ) (from : Option (List ℕ)) (e : Item) (t : Tree) (range : Range)
    (left : Left) (m : MayPrune before v level from e t range left) where
  abbrev child : Visit
  child = visit_below v level from e

  lawful : entries.IsLawful (fields_of before) child 0 t.items
  lawful = lawful_items before (image_of before m.stands.maps) child level t m.stands.number.within m.stands.sound

  bounds : AllByRecursion (λ (x : Item). IsInBounds from e.key x.key) t.items
  bounds =
      bounds_of (fields_of before) v level from e [] t.items lawful.packable
      (each (fields_of before) child 0 t.items lawful)

  some_items : (from ≡ None → e.key ≢ []) → t.items ≢ []
  some_items bounded empty =
      let may = lawful.none empty in
      no_high v.high e.key (bounded may.low) may.high

  -- No key of it is in the range.
  pub untouched : IsPart range from e.key None → LeavesTree before before child level t range
  untouched part =
      let all = all_left from e.key range t.items bounds part.0 in
      record {
        tree = t;
        sound = m.stands.sound;
        distinct = m.stands.distinct;
        items_are = sym all;
        some = subst (λ es. es ≢ []) (sym all) (some_items part.1);
        leaves = leaves_same before t.blocks m.stands.maps m.stands.busy;
      }

  module _ (part : Range) (is : IsPart range from e.key (Some part)) where
    same_left : left_by part t.items ≡ left_by range t.items
    same_left = left_same from e.key part range t.items bounds is

    pub some_left : (after : List ℕ) → LeavesTree before after child level t part
        → LeavesTree before after child level t range
    some_left after p = record {
      tree = p.tree;
      sound = p.sound;
      distinct = p.distinct;
      items_are = p.items_are ∙ same_left;
      some = subst (λ es. es ≢ []) same_left p.some;
      leaves = p.leaves;
    }

    pub none_left : (mid after : List ℕ) → LeavesNone before mid t part (child.block ∷ [])
        → FreesOne child.block mid after → LeavesNone before after t range []
    none_left mid after p frees =
        let number : IsTreeNumber (fields_of mid).total child.block =
        number_grown (fields_of before).total (fields_of mid).total child.block p.leaves.reshapes.limits.total
        m.stands.number in
        let proper : AreNoMaps (child.block ∷ []) =
        λ n there. subst (λ k. k % 512 ≢ 0) (sym (same_one n child.block there)) number.no_map in
        let busy : IsBusy mid child.block = record {
          no_map = number.no_map;
          busy = left_are_busy before mid t.blocks (child.block ∷ []) p.leaves m.stands.busy proper child.block
              (or_left (nat_eq child.block child.block) false (eq-eqb child.block child.block refl));
        } in
        record {
          none = sym same_left ∙ p.none;
          leaves = leaves_compose before mid after t.blocks (child.block ∷ []) [] p.leaves
              (frees p.leaves.lawful number busy);
        }

    pub can_free : (mid : List ℕ) → LeavesNone before mid t part (child.block ∷ [])
        → IsLawful mid × IsTreeNumber (fields_of mid).total child.block
    can_free mid p = (
      p.leaves.lawful,
      number_grown (fields_of before).total (fields_of mid).total child.block p.leaves.reshapes.limits.total
          m.stands.number,
    )

-- ---- the calls

-- a child with a key takes its part of what is left
abbrev pub Takes : Left → List ℕ → Left → Option Range → Type 0
Takes left key after part =
    (range : Range) (from : Option (List ℕ)) → IsLeft range from left → TakesPart range from key after part

pub takes_of : (left after : Left) (key key' : List ℕ) (part part' : Option Range) → key ≡ key' → part ≡ part'
    → Takes left key after part → Takes left key' after part'
takes_of left after key key' part part' k p takes =
    subst (λ (bytes : List ℕ). Takes left bytes after part') k (subst (Takes left key after) p takes)

pub stays_of : (left after : Left) (key : List ℕ) (part : Option Range) → Takes left key after part
    → (range : Range) (from : Option (List ℕ)) → IsLeft range from left → StaysLeft range from key after
stays_of left after key part takes range from l = (takes range from l).stays

module _ (level : ℕ) (e : Item) (left after_left : Left) (before : List ℕ) where
  pub nothing_pruned : Takes left e.key after_left None → PrunesChild level e left false before before
  nothing_pruned takes v from t range m =
      untouched before v level from e t range left m (takes range from m.left_is).part_is

  pub no_pointer : (length e.rest ≡ 4 → ⊥) → CannotPrune level e left before
  no_pointer not v from t range m = not m.size

  module _ (part : Range) (takes : Takes left e.key after_left (Some part)) (child : ℕ)
      (is : child ≡ u32_at e.rest 0) where
    pub cannot_cut : NoneStands child level before → CannotPrune level e left before
    cannot_cut cannot v from t range m = cannot (visit_below v level from e) t (sym is) m.stands

    pub some_kept : (after : List ℕ) → CutsAt child level part false before after
        → PrunesChild level e left false before after
    some_kept after cuts v from t range m =
        some_left before v level from e t range left m part (takes range from m.left_is).part_is after
        (cuts (visit_below v level from e) t (sym is) m.stands)

    pub all_gone : (mid after : List ℕ) → CutsAt child level part true before mid → FreesOne child mid after
        → PrunesChild level e left true before after
    all_gone mid after cuts frees v from t range m =
        none_left before v level from e t range left m part (takes range from m.left_is).part_is mid after
        (cuts (visit_below v level from e) t (sym is) m.stands)
        (subst (λ n. FreesOne n mid after) is frees)

    pub cannot_free : (mid : List ℕ) → CutsAt child level part true before mid → CannotFree child mid
        → CannotPrune level e left before
    cannot_free mid cuts cannot v from t range m =
        let can = can_free before v level from e t range left m part (takes range from m.left_is).part_is mid
        (cuts (visit_below v level from e) t (sym is) m.stands) in
        cannot can.0 (subst (IsTreeNumber (fields_of mid).total) (sym is) can.1)
