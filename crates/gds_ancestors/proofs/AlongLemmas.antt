-- The ancestors along a path.
use Rattle.std.proofs.Common.{◌≡◌, ℕ, suc, ◌+◌, ◌<◌, List, [], ◌∷◌, ◌++◌, length, Option, Some, inl, inr, refl, sym}
use Rattle.std.proofs.Common.{ap, subst, ◌∙◌, append_assoc, append-nil, arith}
use Rattle.gds_block.specs.Item.{Item}
use Rattle.gds_header.specs.Fields.{fields_of}
use Rattle.gds_law.specs.Visit.{Visit, Child}
use Rattle.gds_law.specs.Path.{Steps, visit_from}
use Rattle.gds_law.proofs.MembershipLemmas.{IsIn}
use Rattle.gds_pack.specs.Packed.{record_size, records_size, packed_size}
use Rattle.gds_sound.specs.Sound.{Tree, joined, sound_tree}
use Rattle.gds_sound.proofs.TreeLemmas.{leads_through}
use Rattle.gds_tree.specs.Below.{visit_below, index_children, low_behind, trees_below, HasEntries, index_tree}
use Rattle.gds_tree.specs.Around.{around}
use Rattle.gds_tree.specs.Keeps.{IsImage}
use Rattle.gds_tree.proofs.BelowLemmas.{both_parts, below_append, joined_assoc}
use Rattle.gds_tree.proofs.ImageLemmas.{has_children}
use Rattle.gds_tree.proofs.TreeByLemmas.{by_index}
use Rattle.gds_ancestors.specs.Ancestors.{Ancestor, tree_with, whole_with, steps_to, IsAncestor, AreAncestors}
use Rattle.gds_ancestors.specs.Ancestors.{HasAncestors}
use Rattle.gds_ancestors.proofs.VisitLemmas.{number_below}

-- ---- the entry to which a child of an index block belongs

record IsEntryOf (v : Visit) (level at : ℕ) (previous : List ℕ) (low : Option (List ℕ)) (es : List Item)
    (c : Child) : Type 0 where
  front : List Item
  entry : Item
  back : List Item
  whole : es ≡ front ++ entry ∷ back
  leads : visit_below v level (low_behind low front) entry ≡ c.visit
  offset : c.offset ≡ at + records_size previous front

entry_of : (v : Visit) (level at : ℕ) (previous : List ℕ) (low : Option (List ℕ)) (es : List Item) (c : Child)
    → IsIn (index_children v level at previous low es) c → IsEntryOf v level at previous low es c
entry_of v level at previous low [] c i = absurd i
entry_of v level at previous low (f ∷ es) c (inl same) = record {
  front = [];
  entry = f;
  back = es;
  whole = refl;
  leads = ap (λ (d : Child). d.visit) same;
  offset = omega (arith, ap (λ (d : Child). d.offset) same);
}
entry_of v level at previous low (f ∷ es) c (inr i) =
    let r = entry_of v level (at + record_size previous f) f.key (Some f.key) es c i in
    record {
      front = f ∷ r.front;
      entry = r.entry;
      back = r.back;
      whole = ap (λ l. f ∷ l) r.whole;
      leads = r.leads;
      offset = omega (arith, r.offset);
    }

-- ---- an entry that leads down

-- What stands below the entries of an index block, in parts: below those before the one that leads down, below that
-- one, and below those behind.
record LeadsDown (image : List ℕ) (v : Visit) (level : ℕ) (front : List Item) (entry : Item) (back : List Item)
    (below : Tree) : Type 0 where
  left : Tree
  inner : Tree
  right : Tree
  is : IsAncestor image
      (record { visit = v; front = front; entry = entry; back = back; left = left; right = right })
      (visit_below v level (low_behind v.low front) entry) level
  sound : sound_tree image level (visit_below v level (low_behind v.low front) entry) ≡ Some inner
  whole : below ≡ around left inner right

leads_down : (image : List ℕ) (v : Visit) (level : ℕ) (front : List Item) (entry : Item) (back : List Item)
    (below : Tree) → HasEntries image v (suc level) (front ++ entry ∷ back)
    → trees_below image v level v.low (front ++ entry ∷ back) ≡ Some below
    → LeadsDown image v level front entry back below
leads_down image v level front entry back below has h =
    let c : Visit = visit_below v level (low_behind v.low front) entry in
    let p = both_parts (trees_below image v level v.low front)
    (trees_below image v level (low_behind v.low front) (entry ∷ back)) below
    (sym (below_append image v level v.low front (entry ∷ back)) ∙ h) in
    let q = both_parts (sound_tree image level c) (trees_below image v level (Some entry.key) back) p.second p.later in
    record {
      left = p.first;
      inner = q.first;
      right = q.second;
      is = record { has = has; leads = refl; left = p.here; right = q.later };
      sound = q.here;
      whole = p.is ∙ ap (joined p.first) q.is ∙ sym (joined_assoc p.first q.first q.second);
    }

-- ---- a step down

-- A step leads from a visit to one below it, from which the others lead on.
record StepsDown (image : List ℕ) (v : Visit) (level : ℕ) (step : ℕ × ℕ) (steps : Steps) (w : Visit) (t : Tree)
    : Type 0 where
  ancestor : Ancestor
  next : Visit
  inner : Tree
  here : v ≡ ancestor.visit
  is : IsAncestor image ancestor next level
  sound : sound_tree image level next ≡ Some inner
  whole : t ≡ tree_with ancestor inner
  taken : (ancestor.visit.block, packed_size ancestor.front) ≡ step
  rest : visit_from image next steps ≡ Some w

module _ (image : List ℕ) (i : IsImage image) where
  step_down : (v : Visit) (level block offset : ℕ) (steps : Steps) (w : Visit) (t : Tree)
      → v.block < (fields_of image).total → visit_from image v ((block, offset) ∷ steps) ≡ Some w
      → sound_tree image (suc level) v ≡ Some t → StepsDown image v level (block, offset) steps w t
  step_down v level block offset steps w t low leads h =
      let x = by_index image v level t i low h in
      let l = leads_through image v block offset steps w leads in
      let k = entry_of v level 16 [] v.low x.es l.child
      (subst (λ cs. IsIn cs l.child) (has_children image v (suc level) x.es i x.has) l.there) in
      let d = leads_down image v level k.front k.entry k.back x.below
      (subst (HasEntries image v (suc level)) k.whole x.has)
      (ap (trees_below image v level v.low) (sym k.whole) ∙ x.trees) in
      record {
        ancestor = record {
          visit = v;
          front = k.front;
          entry = k.entry;
          back = k.back;
          left = d.left;
          right = d.right;
        };
        next = visit_below v level (low_behind v.low k.front) k.entry;
        inner = d.inner;
        here = refl;
        is = d.is;
        sound = d.sound;
        whole = x.is ∙ ap (index_tree v) d.whole;
        taken = λ j. (sym l.own j, (sym k.offset ∙ l.at) j);
        rest = ap (λ u. visit_from image u steps) k.leads ∙ l.rest;
      }

  -- ---- a path

  -- Ancestors down to a visit, and a path from there on.
  pub along : (root : Visit) (path : Steps) (v w : Visit) (level n : ℕ) (above : List Ancestor) (t : Tree)
      → n ≡ length path + level → AreAncestors image root above v n → v.block < (fields_of image).total
      → visit_from image v path ≡ Some w → sound_tree image n v ≡ Some t
      → HasAncestors image root (steps_to above ++ path) w level (whole_with above t)
  along root [] v w level n above t height lead low leads h =
      let same : v ≡ w = cc in
      let own : n ≡ level = omega arith in
      record {
        ancestors = above;
        inner = t;
        lead = subst (AreAncestors image root above w) own (subst (λ u. AreAncestors image root above u n) same lead);
        sound = (λ j. sound_tree image (sym own j) (sym same j)) ∙ h;
        whole = refl;
        steps = sym (append-nil (steps_to above));
      }
  along root ((block, offset) ∷ steps) v w level n above t height lead low leads h =
      let m : ℕ = length steps + level in
      let up : n ≡ suc m = omega arith in
      let d = step_down v m block offset steps w t low leads (ap (λ k. sound_tree image k v) (sym up) ∙ h) in
      let r = along root steps d.next w level m (d.ancestor ∷ above) d.inner refl (
        d.is,
        subst (AreAncestors image root above d.ancestor.visit) up
            (subst (λ u. AreAncestors image root above u n) d.here lead),
      ) (number_below image d.ancestor d.next m d.is).within d.rest d.sound in
      record {
        ancestors = r.ancestors;
        inner = r.inner;
        lead = r.lead;
        sound = r.sound;
        whole = ap (whole_with above) d.whole ∙ r.whole;
        steps = r.steps
            ∙ append_assoc (steps_to above) ((d.ancestor.visit.block, packed_size d.ancestor.front) ∷ []) steps
            ∙ ap (λ step. steps_to above ++ step ∷ steps) d.taken;
      }

  pub ancestors_of : (root w : Visit) (path : Steps) (level : ℕ) (t : Tree) → root.block < (fields_of image).total
      → visit_from image root path ≡ Some w → sound_tree image (length path + level) root ≡ Some t
      → HasAncestors image root path w level t
  ancestors_of root w path level t low leads h =
      along root path root w level (length path + level) [] t refl refl low leads h
