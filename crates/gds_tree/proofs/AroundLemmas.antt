-- A path leads to a tree inside another, and another may stand in its place.
use Rattle.std.proofs.Common.{◌≡◌, ℕ, suc, ◌+◌, ◌<◌, List, [], ◌∷◌, ◌++◌, length, Option, Some, inl, inr}
use Rattle.std.proofs.Common.{refl, sym, ap, subst, ◌∙◌, arith}
use Rattle.std.proofs.lemmas.List.Elements.{All-from_recursion, recursion_from_All}
use Rattle.gds_block.specs.Fields.{u32_at}
use Rattle.gds_block.specs.Item.{Item}
use Rattle.gds_header.specs.Fields.{fields_of, block_of}
use Rattle.gds_law.specs.Visit.{Visit, Child}
use Rattle.gds_law.specs.Path.{Steps, visit_from}
use Rattle.gds_law.proofs.MembershipLemmas.{IsIn}
use Rattle.gds_pack.specs.Packed.{record_size}
use Rattle.gds_sound.specs.Sound.{Tree, joined, sound_tree}
use Rattle.gds_sound.proofs.TreeLemmas.{root_only, leads_through}
use Rattle.gds_tree.specs.Lawful.{IsLawfulEntry}
use Rattle.gds_tree.specs.Below.{visit_below, index_children, low_behind, trees_below, HasEntries, index_tree}
use Rattle.gds_tree.specs.Keeps.{IsImage, KeepsBlocks}
use Rattle.gds_tree.specs.Around.{around, IsAround}
use Rattle.gds_tree.proofs.BelowLemmas.{all_left, all_right, all_weaker, both_parts, some_both, below_append}
use Rattle.gds_tree.proofs.BelowLemmas.{joined_assoc, joined_none}
use Rattle.gds_tree.proofs.ImageLemmas.{has_children}
use Rattle.gds_tree.proofs.KeepLemmas.{pointers, index_reach, entries_kept}
use Rattle.gds_tree.proofs.PartLemmas.{lawful_index}
use Rattle.gds_tree.proofs.ReplaceLemmas.{forest_grown}
use Rattle.gds_tree.proofs.TreeByLemmas.{index_by, by_index}

-- the entry to which a child of an index block belongs
record IsChildOf (v : Visit) (level : ℕ) (low : Option (List ℕ)) (es : List Item) (c : Child) : Type 0 where
  a : List Item
  e : Item
  b : List Item
  whole : es ≡ a ++ e ∷ b
  leads : visit_below v level (low_behind low a) e ≡ c.visit

child_of : (v : Visit) (level at : ℕ) (previous : List ℕ) (low : Option (List ℕ)) (es : List Item) (c : Child)
    → IsIn (index_children v level at previous low es) c → IsChildOf v level low es c
child_of v level at previous low [] c i = absurd i
child_of v level at previous low (f ∷ es) c (inl same) =
    record { a = []; e = f; b = es; whole = refl; leads = ap (λ (d : Child). d.visit) same }
child_of v level at previous low (f ∷ es) c (inr i) =
    let r = child_of v level (at + record_size previous f) f.key (Some f.key) es c i in
    record { a = f ∷ r.a; e = r.e; b = r.b; whole = ap (λ l. f ∷ l) r.whole; leads = r.leads }

-- what is kept of lists one after another
pub kept_left : (old new xs ys : List ℕ) → KeepsBlocks old new (xs ++ ys) → KeepsBlocks old new xs
kept_left old new xs ys h =
    All-from_recursion (λ n. block_of new n ≡ block_of old n) xs
    (all_left (λ n. block_of new n ≡ block_of old n) xs ys
    (recursion_from_All (λ n. block_of new n ≡ block_of old n) (xs ++ ys) h))

pub kept_right : (old new xs ys : List ℕ) → KeepsBlocks old new (xs ++ ys) → KeepsBlocks old new ys
kept_right old new xs ys h =
    All-from_recursion (λ n. block_of new n ≡ block_of old n) ys
    (all_right (λ n. block_of new n ≡ block_of old n) xs ys
    (recursion_from_All (λ n. block_of new n ≡ block_of old n) (xs ++ ys) h))

kept_first : (old new : List ℕ) (n : ℕ) (xs : List ℕ) → KeepsBlocks old new (n ∷ xs) → block_of new n ≡ block_of old n
kept_first old new n xs h = (recursion_from_All (λ n. block_of new n ≡ block_of old n) (n ∷ xs) h).0

-- a tree below a root, in the midst of others
regroup : (r x p t q y : Tree)
    → joined r (joined x (joined (around p t q) y)) ≡ around (joined (joined r x) p) t (joined q y)
regroup r x p t q y =
    sym (joined_assoc r x (joined (around p t q) y))
    ∙ sym (joined_assoc (joined r x) (around p t q) y)
    ∙ ap (λ w. joined w y) (sym (joined_assoc (joined r x) (joined p t) q)
    ∙ ap (λ w. joined w q) (sym (joined_assoc (joined r x) p t)))
    ∙ joined_assoc (joined (joined (joined r x) p) t) q y

around_none : (t : Tree) → t ≡ around (record { blocks = []; items = [] }) t (record { blocks = []; items = [] })
around_none t = sym (joined_none t)

module _ (image : List ℕ) (i : IsImage image) where
  -- a path of no record
  around_here : (v : Visit) (level : ℕ) (t : Tree) → sound_tree image level v ≡ Some t → IsAround image v [] v level t
  around_here v level t h = record {
    before = record { blocks = []; items = [] };
    inner = t;
    behind = record { blocks = []; items = [] };
    role = refl;
    sound = h;
    whole = around_none t;
    exchanges = λ new j sizes more kept kept' inner k.
        let none : 0 + level ≡ level = omega arith in
        ap (λ n. sound_tree new n v) none ∙ k ∙ ap (λ w. Some w) (around_none inner);
  }

  -- one record more in front
  around_more : (v : Visit) (n level : ℕ) (a b : List Item) (e : Item) (t : Tree) (below : Tree) (steps : Steps)
      (w : Visit)
      → length steps + level ≡ n → HasEntries image v (suc n) (a ++ e ∷ b)
      → trees_below image v n v.low (a ++ e ∷ b) ≡ Some below → t ≡ index_tree v below
      → ((s : Tree) → sound_tree image (length steps + level) (visit_below v n (low_behind v.low a) e) ≡ Some s
      → IsAround image (visit_below v n (low_behind v.low a) e) steps w level s)
      → (block offset : ℕ) → IsAround image v ((block, offset) ∷ steps) w level t
  around_more v n level a b e t below steps w height has trees is next block offset =
      let c : Visit = visit_below v n (low_behind v.low a) e in
      let p = both_parts (trees_below image v n v.low a) (trees_below image v n (low_behind v.low a) (e ∷ b)) below
      (sym (below_append image v n v.low a (e ∷ b)) ∙ trees) in
      let q = both_parts (sound_tree image n c) (trees_below image v n (Some e.key) b) p.second p.later in
      let r = next q.first (ap (λ k. sound_tree image k c) height ∙ q.here) in
      let root : Tree = root_only v in
      record {
        before = joined (joined root p.first) r.before;
        inner = r.inner;
        behind = joined r.behind q.second;
        role = r.role;
        sound = r.sound;
        whole = is ∙ ap (joined root) (p.is ∙ ap (joined p.first) (q.is ∙ ap (λ s. joined s q.second) r.whole))
            ∙ regroup root p.first r.before r.inner r.behind q.second;
        exchanges = λ new j sizes more kept kept' inner k.
            let lawful = lawful_index image v (suc n) (a ++ e ∷ b) has in
            let front = kept_left image new (v.block ∷ p.first.blocks) r.before.blocks kept in
            let reach = all_weaker (IsLawfulEntry (fields_of image) v (suc n))
            (λ (f : Item). u32_at f.rest 0 < (fields_of new).total) (a ++ e ∷ b)
            (λ f l. let low = (pointers (fields_of image) v v.role n f.rest l.rest).leads.within in omega arith)
            lawful in
            let low = has.there in
            let now : HasEntries new v (suc n) (a ++ e ∷ b) =
            entries_kept image new i j sizes v (suc n) (a ++ e ∷ b) has (omega arith)
            (kept_first image new v.block p.first.blocks front)
            (index_reach (fields_of new).total v.role n (a ++ e ∷ b) reach) in
            let first = forest_grown image new v n v.low a p.first i j sizes more
            (all_left (IsLawfulEntry (fields_of image) v (suc n)) a (e ∷ b) lawful) p.here
            (kept_right image new (v.block ∷ []) p.first.blocks front) in
            let last = forest_grown image new v n (Some e.key) b q.second i j sizes more
            (all_right (IsLawfulEntry (fields_of image) v (suc n)) a (e ∷ b) lawful).1 q.later
            (kept_right image new r.behind.blocks q.second.blocks kept') in
            let child = ap (λ m. sound_tree new m c) (sym height)
            ∙ r.exchanges new j sizes more (kept_right image new (v.block ∷ p.first.blocks) r.before.blocks kept)
            (kept_left image new r.behind.blocks q.second.blocks kept') inner k in
            let all = below_append new v n v.low a (e ∷ b)
            ∙ some_both (trees_below new v n v.low a) _ p.first (joined (around r.before inner r.behind) q.second) first
            (some_both (sound_tree new n c) (trees_below new v n (Some e.key) b)
            (around r.before inner r.behind) q.second
            child last) in
            let up : suc (length steps) + level ≡ suc n = omega arith in
            ap (λ m. sound_tree new m v) up
            ∙ index_by new v n (a ++ e ∷ b) _ j now all
            ∙ ap (λ s. Some s) (regroup root p.first r.before inner r.behind q.second);
      }

  pub around_path : (path : Steps) (v w : Visit) (level : ℕ) (t : Tree) → v.block < (fields_of image).total
      → visit_from image v path ≡ Some w → sound_tree image (length path + level) v ≡ Some t
      → IsAround image v path w level t
  around_path [] v w level t low leads h =
      let same : v ≡ w = cc in
      let none : level ≡ 0 + level = omega arith in
      subst (λ u. IsAround image v [] u level t) same
      (around_here v level t (ap (λ n. sound_tree image n v) none ∙ h))
  around_path ((block, offset) ∷ steps) v w level t low leads h =
      let n : ℕ = length steps + level in
      let up : suc n ≡ suc (length steps) + level = omega arith in
      let x = by_index image v n t i low (ap (λ m. sound_tree image m v) up ∙ h) in
      let l = leads_through image v block offset steps w leads in
      let k = child_of v n 16 [] v.low x.es l.child
      (subst (λ cs. IsIn cs l.child) (has_children image v (suc n) x.es i x.has) l.there) in
      let has = subst (HasEntries image v (suc n)) k.whole x.has in
      let lawful = lawful_index image v (suc n) (k.a ++ k.e ∷ k.b) has in
      let pointer = pointers (fields_of image) v v.role n k.e.rest
      (all_right (IsLawfulEntry (fields_of image) v (suc n)) k.a (k.e ∷ k.b) lawful).0.rest in
      around_more v n level k.a k.b k.e t x.below steps w refl has
      (ap (trees_below image v n v.low) (sym k.whole) ∙ x.trees) x.is
      (λ s found. around_path steps (visit_below v n (low_behind v.low k.a) k.e) w level s pointer.leads.within
      (ap (λ u. visit_from image u steps) k.leads ∙ l.rest) found)
      block offset
