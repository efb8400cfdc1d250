-- Some entries of an index block are replaced by others.
use Rattle.std.proofs.Common.{◌≡◌, ℕ, suc, ◌<◌, ◌≤◌, List, [], ◌∷◌, ◌++◌, Option, None, Some, Less, ◌⊎◌, inl, inr, refl}
use Rattle.std.proofs.Common.{sym}
use Rattle.std.proofs.Common.{ap, subst, ◌∙◌, append_assoc}
use Rattle.std.specs.List.{AllByRecursion}
use Rattle.std.proofs.lemmas.List.Elements.{recursion_from_All}
use Rattle.gds_block.specs.Item.{Item}
use Rattle.gds_header.specs.Fields.{fields_of, block_of}
use Rattle.gds_law.specs.Visit.{Visit}
use Rattle.gds_pack.specs.Packable.{AreIndex}
use Rattle.gds_pack.specs.Packed.{key_behind}
use Rattle.gds_sound.specs.Sound.{Tree, joined, sound_tree}
use Rattle.gds_sound.proofs.OrderLemmas.{cmp}
use Rattle.m_key.specs.Key.{AtMost}
use Rattle.m_key.specs.KeyEnd.{IsKey}
use Rattle.gds_tree.specs.Lawful.{IsTreeNumber, IsLawfulEntry, IsLawful}
use Rattle.gds_tree.specs.Below.{low_behind, trees_below, HasEntries, index_tree}
use Rattle.gds_tree.specs.Keeps.{IsImage, KeepsSizes, KeepsBlocks, IsLowerLow, IsHigherHigh}
use Rattle.gds_tree.specs.Around.{around}
use Rattle.gds_tree.proofs.TestLemmas.{below_less, most_from, most_cases, most_most}
use Rattle.gds_tree.proofs.FineLemmas.{some_key}
use Rattle.gds_tree.proofs.BelowLemmas.{all_left, all_right, all_weaker, some_both, below_append, low_append}
use Rattle.gds_tree.proofs.KeepLemmas.{tree_kept, below_kept}
use Rattle.gds_tree.proofs.KeptTreeLemmas.{low_more, roots_more}
use Rattle.gds_tree.proofs.LawfulLemmas.{each}
use Rattle.gds_tree.proofs.PartLemmas.{lawful_at, numbered, below_numbered, rooted, below_rooted}
use Rattle.gds_tree.proofs.WidenLemmas.{most_same, widened, below_widened}
use Rattle.gds_tree.proofs.ItemLemmas.{LowBelow, next_low, first_low}
use Rattle.gds_tree.proofs.TreeByLemmas.{index_by}

-- ---- the trees below entries in an image that keeps their blocks

pub forest_grown : (old new : List ℕ) (v : Visit) (level : ℕ) (low : Option (List ℕ)) (es : List Item) (t : Tree)
    → IsImage old → IsImage new → KeepsSizes old new → (fields_of old).total ≤ (fields_of new).total
    → AllByRecursion (IsLawfulEntry (fields_of old) v (suc level)) es → trees_below old v level low es ≡ Some t
    → KeepsBlocks old new t.blocks → trees_below new v level low es ≡ Some t
forest_grown old new v level low es t a b sizes more lawful h kept =
    let total : ℕ = (fields_of old).total in
    let numbers = below_numbered old a v level low es t (numbered old a level) lawful h in
    let within = all_weaker (IsTreeNumber total) (λ n. n < total) t.blocks (λ n k. k.within) numbers in
    (below_kept old new a b sizes v level low es t (tree_kept old new a b sizes level) lawful h
    (low_more total (fields_of new).total t.blocks more within)
    (roots_more total (fields_of new).total v.role t.items more
    (below_rooted old a v level low es t (rooted old a level) lawful h))
    (recursion_from_All (λ n. block_of new n ≡ block_of old n) t.blocks kept)).trees

-- ---- the lower bound behind entries

lower_same : (low : Option (List ℕ)) → IsLowerLow low low
lower_same None = tt
lower_same (Some low) = most_same low

high_same : (high : Option (List ℕ)) → IsHigherHigh high high
high_same None = tt
high_same (Some high) = most_same high

lower_lower : (a b c : Option (List ℕ)) → IsLowerLow a b → IsLowerLow b c → IsLowerLow a c
lower_lower None b c h k = tt
lower_lower (Some a) None c h k = absurd h
lower_lower (Some a) (Some b) None h k = absurd k
lower_lower (Some a) (Some b) (Some c) h k = most_most a b c h k

-- behind some entries it is that of their last key
behind_last : (low : Option (List ℕ)) (e : Item) (es : List Item)
    → low_behind low (e ∷ es) ≡ Some (key_behind [] (e ∷ es))
behind_last low e [] = refl
behind_last low e (f ∷ es) = behind_last (Some e.key) f es

lower_first : (low : Option (List ℕ)) (e f : Item) (es : List Item) → LowBelow low (e ∷ f ∷ es)
    → IsLowerLow low (Some e.key)
lower_first None e f es h = tt
lower_first (Some low) e f es h = most_from low e.key (inl (below_less low e.key h))

module _ (image : List ℕ) (i : IsImage image) where
  -- It rises with each entry before the last.
  lower_rising : (low : Option (List ℕ)) (previous : List ℕ) (es : List Item) (f : Item) (b : List Item)
      → AreIndex previous (es ++ f ∷ b) → LowBelow low (es ++ f ∷ b) → IsLowerLow low (low_behind low es)
  lower_rising low previous [] f b index first = lower_same low
  lower_rising low previous (e ∷ []) f b index first = lower_first low e f b first
  lower_rising low previous (e ∷ g ∷ es) f b index first =
      lower_lower low (Some e.key) (low_behind (Some e.key) (g ∷ es)) (lower_first low e g (es ++ f ∷ b) first)
      (lower_rising (Some e.key) e.key (g ∷ es) f b index.2 (next_low image i e (g ∷ es ++ f ∷ b) index.2))

  record IsBehind (low : Option (List ℕ)) (previous : List ℕ) (es : List Item) : Type 0 where
    index : AreIndex previous es
    first : LowBelow low es

  behind_some : (low : Option (List ℕ)) (previous : List ℕ) (a : List Item) (f : Item) (b : List Item)
      → AreIndex previous (a ++ f ∷ b) → LowBelow low (a ++ f ∷ b)
      → IsBehind (low_behind low a) (key_behind previous a) (f ∷ b)
  behind_some low previous [] f b index first = record { index = index; first = first }
  behind_some low previous (e ∷ []) f b index first =
      record { index = index.2; first = next_low image i e (f ∷ b) index.2 }
  behind_some low previous (e ∷ g ∷ a) f b index first =
      behind_some (Some e.key) e.key (g ∷ a) f b index.2 (next_low image i e (g ∷ a ++ f ∷ b) index.2)

  -- the key before the last entry is a whole one
  key_whole : (previous : List ℕ) (e : Item) (es : List Item) (f : Item) (b : List Item)
      → AreIndex previous (e ∷ es ++ f ∷ b) → IsKey (key_behind [] (e ∷ es))
  key_whole previous e [] f b index = index.0.is_key
  key_whole previous e (g ∷ es) f b index = key_whole e.key g es f b index.2

nothing_most : (key : List ℕ) → AtMost key [] → key ≡ []
nothing_most key h = elim (most_cases key [] h) [ inl e ↦ absurd (not_less key e) | inr e ↦ e ]
  where
    not_less : (key : List ℕ) → cmp key [] ≡ Less → ⊥
    not_less [] e = cc
    not_less (k ∷ key) e = cc

-- ---- the law

-- Those that are put are none, or their last key isn't above the last key of those that were taken.
abbrev pub NoHigher : List Item → List Item → Type 0
NoHigher put taken = (put ≡ []) ⊎ AtMost (key_behind [] put) (key_behind [] taken)

module _ (old new : List ℕ) (v : Visit) (level : ℕ) (a taken b put : List Item) (i : IsImage old) (j : IsImage new)
    (was : IsLawful (fields_of old) v (suc level) (a ++ taken ++ b))
    (now : IsLawful (fields_of new) v (suc level) (a ++ put ++ b)) where
  old_each : AllByRecursion (IsLawfulEntry (fields_of old) v (suc level)) (a ++ taken ++ b)
  old_each = each (fields_of old) v (suc level) (a ++ taken ++ b) was

  new_each : AllByRecursion (IsLawfulEntry (fields_of new) v (suc level)) (a ++ put ++ b)
  new_each = each (fields_of new) v (suc level) (a ++ put ++ b) now

  -- the lower bound behind what is put is no higher than behind what was taken
  pub lower_behind : (f : Item) (r : List Item) → b ≡ f ∷ r → NoHigher put taken
      → IsLowerLow (low_behind v.low (a ++ put)) (low_behind v.low (a ++ taken))
  lower_behind f r e higher = by put taken refl refl higher
    where
      before : (xs : List Item) → AreIndex [] (a ++ xs ++ b) → AreIndex [] (a ++ (xs ++ f ∷ r))
      before xs h = subst (AreIndex []) (append_assoc a xs (f ∷ r)) (subst (λ ys. AreIndex [] (a ++ xs ++ ys)) e h)

      old_index : AreIndex [] (a ++ (taken ++ f ∷ r))
      old_index = before taken was.packable

      new_index : AreIndex [] (a ++ (put ++ f ∷ r))
      new_index = before put now.packable

      old_first : LowBelow v.low (a ++ (taken ++ f ∷ r))
      old_first =
          subst (LowBelow v.low) (append_assoc a taken (f ∷ r))
          (subst (λ ys. LowBelow v.low (a ++ taken ++ ys)) e
          (first_low old i v level (a ++ taken ++ b) was.packable old_each))

      -- behind what was before
      behind : (xs : List Item) → taken ≡ xs → IsLowerLow (low_behind v.low a) (low_behind (low_behind v.low a) xs)
      behind [] s = lower_same (low_behind v.low a)
      behind (x ∷ xs) s =
          let k = behind_some old i v.low [] a x (xs ++ f ∷ r)
          (subst (λ ys. AreIndex [] (a ++ (ys ++ f ∷ r))) s old_index)
          (subst (λ ys. LowBelow v.low (a ++ (ys ++ f ∷ r))) s old_first) in
          lower_rising old i (low_behind v.low a) (key_behind [] a) (x ∷ xs) f r k.index k.first

      whole : (p : Item) (ps : List Item) → put ≡ p ∷ ps → key_behind [] (p ∷ ps) ≡ [] → ⊥
      whole p ps s none =
          let k = behind_some new j None [] a p (ps ++ f ∷ r)
          (subst (λ ys. AreIndex [] (a ++ (ys ++ f ∷ r))) s new_index)
          (no_low (a ++ (p ∷ ps ++ f ∷ r))) in
          some_key (key_behind [] (p ∷ ps)) (key_whole new j (key_behind [] a) p ps f r k.index) none
        where
          no_low : (es : List Item) → LowBelow None es
          no_low [] = tt
          no_low (e ∷ []) = tt
          no_low (e ∷ f ∷ es) = tt

      reduce : (x y : Option (List ℕ)) → low_behind (low_behind v.low a) put ≡ x
          → low_behind (low_behind v.low a) taken ≡ y → IsLowerLow x y
          → IsLowerLow (low_behind v.low (a ++ put)) (low_behind v.low (a ++ taken))
      reduce x y p q h =
          subst (λ low. IsLowerLow low (low_behind v.low (a ++ taken))) (sym (low_append v.low a put ∙ p))
          (subst (IsLowerLow x) (sym (low_append v.low a taken ∙ q)) h)

      by : (ps ts : List Item) → put ≡ ps → taken ≡ ts → NoHigher ps ts
          → IsLowerLow (low_behind v.low (a ++ put)) (low_behind v.low (a ++ taken))
      by [] ts s u k =
          reduce (low_behind v.low a) (low_behind (low_behind v.low a) taken)
          (ap (low_behind (low_behind v.low a)) s) refl
          (behind taken refl)
      by (p ∷ ps) ts s u (inl none) = absurd (cc)
      by (p ∷ ps) [] s u (inr most) = absurd (whole p ps s (nothing_most (key_behind [] (p ∷ ps)) most))
      by (p ∷ ps) (t ∷ ts) s u (inr most) =
          reduce (Some (key_behind [] (p ∷ ps))) (Some (key_behind [] (t ∷ ts)))
          (ap (low_behind (low_behind v.low a)) s ∙ behind_last (low_behind v.low a) p ps)
          (ap (low_behind (low_behind v.low a)) u ∙ behind_last (low_behind v.low a) t ts) most

  -- so that what stands behind is sound within the new bounds
  behind_kept : (behind : Tree) → KeepsSizes old new → (fields_of old).total ≤ (fields_of new).total
      → trees_below old v level (low_behind v.low (a ++ taken)) b ≡ Some behind → KeepsBlocks old new behind.blocks
      → NoHigher put taken → trees_below new v level (low_behind v.low (a ++ put)) b ≡ Some behind
  behind_kept behind sizes more h kept higher = by b refl
    where
      grown : trees_below new v level (low_behind v.low (a ++ taken)) b ≡ Some behind
      grown =
          forest_grown old new v level (low_behind v.low (a ++ taken)) b behind i j sizes more
          (all_right (IsLawfulEntry (fields_of old) v (suc level)) (a ++ taken) b old_each) h kept

      by : (xs : List Item) → b ≡ xs → trees_below new v level (low_behind v.low (a ++ put)) b ≡ Some behind
      by [] e =
          ap (trees_below new v level (low_behind v.low (a ++ put))) e
          ∙ ap (trees_below new v level (low_behind v.low (a ++ taken))) (sym e) ∙ grown
      by (f ∷ r) e =
          below_widened new j v v level (low_behind v.low (a ++ put)) (low_behind v.low (a ++ taken)) b behind
          (widened new j level) refl (high_same v.high) (lower_behind f r e higher)
          (all_right (IsLawfulEntry (fields_of new) v (suc level)) (a ++ put) b new_each) grown

  -- what stands below the entries with the others, also where they have no block yet
  pub below_replaced : (before middle behind : Tree) → KeepsSizes old new
      → (fields_of old).total ≤ (fields_of new).total → trees_below old v level v.low a ≡ Some before
      → trees_below old v level (low_behind v.low (a ++ taken)) b ≡ Some behind
      → KeepsBlocks old new before.blocks → KeepsBlocks old new behind.blocks
      → trees_below new v level (low_behind v.low a) put ≡ Some middle → NoHigher put taken
      → trees_below new v level v.low (a ++ put ++ b) ≡ Some (around before middle behind)
  below_replaced before middle behind sizes more first last kept kept' put_trees higher =
      let front = forest_grown old new v level v.low a before i j sizes more
      (all_left (IsLawfulEntry (fields_of old) v (suc level)) a taken
      (all_left (IsLawfulEntry (fields_of old) v (suc level)) (a ++ taken) b old_each)) first kept in
      let back = behind_kept behind sizes more last kept' higher in
      below_append new v level v.low (a ++ put) b
      ∙ some_both (trees_below new v level v.low (a ++ put)) _ (joined before middle) behind
      (below_append new v level v.low a put
      ∙ some_both (trees_below new v level v.low a) _ before middle front put_trees) back

pub replaced : (old new : List ℕ) (v : Visit) (level : ℕ) (a taken b put : List Item) (before middle behind : Tree)
    → IsImage old → IsImage new → KeepsSizes old new → (fields_of old).total ≤ (fields_of new).total
    → HasEntries old v (suc level) (a ++ taken ++ b) → trees_below old v level v.low a ≡ Some before
    → trees_below old v level (low_behind v.low (a ++ taken)) b ≡ Some behind → KeepsBlocks old new before.blocks
    → KeepsBlocks old new behind.blocks → HasEntries new v (suc level) (a ++ put ++ b)
    → trees_below new v level (low_behind v.low a) put ≡ Some middle → NoHigher put taken
    → sound_tree new (suc level) v ≡ Some (index_tree v (around before middle behind))
replaced old new v level a taken b put before middle behind i j sizes more has first last kept kept' now put_trees
    higher =
    index_by new v level (a ++ put ++ b) (around before middle behind) j now
    (below_replaced old new v level a taken b put i j (lawful_at old v (suc level) (a ++ taken ++ b) has)
    (lawful_at new v (suc level) (a ++ put ++ b) now) before middle behind sizes more first last kept kept' put_trees
    higher)
