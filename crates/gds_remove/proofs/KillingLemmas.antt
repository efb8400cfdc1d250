-- A range of keys is cut out of the tree of a root.
use Rattle.std.proofs.Common.{◌≡◌, ◌≢◌, ◌+◌, ◌<◌, ◌≤◌, ◌%◌, ◌&&◌, ◌||◌, ℕ, zero, suc, true, false}
use Rattle.std.proofs.Common.{List, [], ◌∷◌, None, Some, refl, sym, ap, ◌∙◌, subst, arith}
use Rattle.std.specs.Prelude.{IsTrue, MatchBool, nat_eq}
use Rattle.std.specs.List.{IsDistinct}
use Rattle.std.proofs.lemmas.Bool.{eq-eqb, ne_eqb, lt-ltb, or_left}
use Rattle.gds_bitmap.specs.State.{is_free}
use Rattle.gds_bitmap.specs.declared.state.State.TheVariants.{Recycled}
use Rattle.gds_block.specs.Block.{IsBlock, level_of}
use Rattle.gds_block.specs.Item.{Item}
use Rattle.gds_header.specs.Fields.{block_of, fields_of}
use Rattle.gds_law.specs.Visit.{Visit, directory_root}
use Rattle.gds_sound.specs.Sound.{Tree, joined, sound_tree}
use Rattle.gds_sound.proofs.CountLemmas.{count, count_append}
use Rattle.gds_sound.proofs.PathLemmas.{any_counted, counted_any, counts_from_distinct, distinct_from_counts}
use Rattle.gds_sound.proofs.TreeLemmas.{own_level}
use Rattle.gds_split.specs.Pieces.{entry_to}
use Rattle.gds_split.proofs.AboveLemmas.{leads}
use Rattle.gds_tree.specs.Below.{HasEntries, index_tree, leaf_tree, trees_below, visit_below}
use Rattle.gds_tree.specs.Keeps.{IsImage}
use Rattle.gds_tree.specs.RightBlock.{IsDueLevel}
use Rattle.gds_tree.proofs.BelowLemmas.{both_parts, first_block, some_both}
use Rattle.gds_tree.proofs.PartLemmas.{lawful_at}
use Rattle.gds_tree.proofs.TreeByLemmas.{by_index, by_leaf, index_by, leaf_by}
use Rattle.gds_file.specs.FreeLaws.{IsBusy}
use Rattle.gds_file.specs.Grow.{state_of}
use Rattle.gds_file.specs.Maps.{has_block}
use Rattle.gds_file.specs.Reshape.{Reshapes}
use Rattle.gds_file.proofs.FreeCountLemmas.{count_some, free_by_blocks, is_free_block}
use Rattle.gds_file.proofs.ReshapeLemmas.{reshapes_compose}
use Rattle.gds_splice.specs.Parted.{TreeBecomes}
use Rattle.gds_splice.proofs.CountedLemmas.{distinct_more, same_one}
use Rattle.gds_splice.proofs.ImageLemmas.{image_of}
use Rattle.gds_splice.proofs.ToldLemmas.{is_block_at}
use Rattle.gds_remove.specs.Cut.{LeavesNone, LeavesTree, NoneStands, StandsBelow}
use Rattle.gds_remove.specs.Emptied.{CannotPutEmpty, HasEmptyDirectory, PutsEmptyDirectory}
use Rattle.gds_remove.specs.Killed.{CannotKill, HasKilled, IsEmptied, IsEmptyDirectory, MayKill}
use Rattle.gds_remove.specs.Range.{Range}
use Rattle.gds_remove.proofs.FreeingLemmas.{number_below}
use Rattle.gds_remove.proofs.LeavesLemmas.{left_are_busy}

-- ---- the root's block

pub record IsRootBlock (file : List ℕ) (v : Visit) : Type 0 where
  pub low : 1 ≤ level_of (block_of file v.block)
  pub high : level_of (block_of file v.block) ≤ 7
  pub block : IsBlock (block_of file v.block)

module _ (file : List ℕ) (v : Visit) (t : Tree) (m : MayKill file v t) where
  i : IsImage file
  i = image_of file m.maps

  by_entries : (level : ℕ) (es : List Item) → HasEntries file v level es → IsRootBlock file v
  by_entries level es has =
      let due : IsDueLevel None (level_of (block_of file v.block)) =
      subst (λ due. IsDueLevel due (level_of (block_of file v.block))) m.is_root.level has.right.head.level in
      record { low = due.0; high = due.1; block = is_block_at file v level es i has }

  by_level : (level : ℕ) → sound_tree file level v ≡ Some t → IsRootBlock file v
  by_level zero sound =
      let p = by_leaf file v t i m.is_root.number.within sound in by_entries 0 p.es p.has
  by_level (suc level) sound =
      let p = by_index file v level t i m.is_root.number.within sound in by_entries (suc level) p.es p.has

  pub root_block : IsRootBlock file v
  root_block = by_level (level_of (block_of file v.block)) m.stands.sound

  module _ (root level : ℕ) (same : v.block ≡ root) (is : level_of (block_of file root) ≡ level) where
    pub root_stands : StandsBelow file v level t
    root_stands = record {
      number = m.is_root.number;
      sound = subst (λ l. sound_tree file l v ≡ Some t) (ap (λ n. level_of (block_of file n)) same ∙ is)
          m.stands.sound;
      distinct = m.stands.distinct;
      busy = m.busy;
      maps = m.maps;
    }

pub cannot_by_total : (file : List ℕ) (root : ℕ) → (fields_of file).total ≤ root → CannotKill root file
cannot_by_total file root past v t same m = omega (arith, m.is_root.number.within, same, past)

pub cannot_by_block : (file : List ℕ) (root : ℕ) → (IsBlock (block_of file root) → ⊥) → CannotKill root file
cannot_by_block file root none v t same m =
    none (subst (λ n. IsBlock (block_of file n)) same (root_block file v t m).block)

pub cannot_by_level : (file : List ℕ) (root level : ℕ) → level_of (block_of file root) ≡ level
    → (1 ≤ level → level ≤ 7 → ⊥) → CannotKill root file
cannot_by_level file root level is none v t same m =
    let r = root_block file v t m in
    let e : level_of (block_of file v.block) ≡ level = ap (λ n. level_of (block_of file n)) same ∙ is in
    none (omega (arith, r.low, e)) (omega (arith, r.high, e))

pub cannot_cut : (file : List ℕ) (root level : ℕ) → level_of (block_of file root) ≡ level
    → NoneStands root level file → CannotKill root file
cannot_cut file root level is none v t same m = none v t same (root_stands file v t m root level same is)

-- ---- what is left

abbrev pub whole : List ℕ → List ℕ → Range
whole low high = record { low = Some low; high = Some high }

module _ (before mid : List ℕ) (v : Visit) (level : ℕ) (t : Tree) (m : MayKill before v t)
    (s : StandsBelow before v level t) (low high : List ℕ) where
  pub some_killed : LeavesTree before mid v level t (whole low high) → HasKilled before mid v t low high false
  some_killed left = (
    left.some,
    record {
      tree = left.tree;
      stands = record { sound = own_level mid level v left.tree left.sound; distinct = left.distinct };
      items_are = left.items_are;
      reshapes = left.leaves.reshapes;
      lawful = left.leaves.lawful;
    },
  )

  module _ (left : LeavesNone before mid t (whole low high) (v.block ∷ [])) where
    emptied : IsEmptied before mid v t
    emptied = record {
      reshapes = left.leaves.reshapes;
      recycled = λ n there other. left.leaves.gone n there (ap (λ b. b || false) (ne_eqb n v.block other));
      lawful = left.leaves.lawful;
    }

    pub all_killed : v.block ≢ 1 → HasKilled before mid v t low high true
    all_killed other = (
      left.none,
      subst (λ b. MatchBool b (IsEmptyDirectory before mid v t) (IsEmptied before mid v t))
          (sym (ne_eqb v.block 1 other)) emptied,
    )

    -- the root's block is busy still
    pub root_busy : IsBusy mid v.block
    root_busy = record {
      no_map = s.number.no_map;
      busy = left_are_busy before mid t.blocks (v.block ∷ []) left.leaves s.busy
          (λ n there. subst (λ k. k % 512 ≢ 0) (sym (same_one n v.block there)) s.number.no_map) v.block
          (or_left (nat_eq v.block v.block) false (eq-eqb v.block v.block refl));
    }

    -- a block below it is free
    pub freed_is_free : (n : ℕ) → IsTrue (has_block t.blocks n) → n ≢ v.block → 0 < (fields_of mid).free
    freed_is_free n there other =
        let recycled : state_of mid n ≡ Recycled = emptied.recycled n there other in
        let inside : n < (fields_of mid).total =
        omega (arith, (number_below before v level t s n there).within, left.leaves.reshapes.limits.total) in
        let free : is_free_block mid n ≡ true =
        λ k. lt-ltb n (fields_of mid).total inside k && is_free (recycled k) in
        omega (
          arith,
          count_some (is_free_block mid) n (fields_of mid).total inside free,
          free_by_blocks mid,
          left.leaves.lawful.maps.count,
        )

    module _ (after : List ℕ) (is : v.block ≡ 1) (puts : PutsEmptyDirectory mid after) where
      at_root : v ≡ directory_root
      at_root = m.directory is

      put : HasEmptyDirectory mid after
      put = puts left.leaves.lawful (subst (IsBusy mid) is root_busy)

      under : Visit
      under = visit_below directory_root 0 directory_root.low (entry_to put.leaf [])

      empty_tree : Tree
      empty_tree = index_tree directory_root (joined (leaf_tree under []) (record { blocks = []; items = [] }))

      j : IsImage after
      j = image_of after put.lawful

      under_is : under.block ≡ put.leaf
      unfolding under
      under_is = leads (fields_of after) put.leaf j.limits put.number

      tree_there : sound_tree after 1 directory_root ≡ Some empty_tree
      unfolding under empty_tree
      tree_there =
          index_by after directory_root 0 (entry_to put.leaf [] ∷ []) (joined (leaf_tree under []) none) j put.root_has
          (some_both (sound_tree after 0 under) (Some none) (leaf_tree under []) none
          (leaf_by after under [] j put.leaf_has) refl)
        where
          none : Tree
          none = record { blocks = []; items = [] }

      blocks_are : empty_tree.blocks ≡ 1 ∷ put.leaf ∷ []
      unfolding empty_tree
      blocks_are = ap (λ k. 1 ∷ k ∷ []) under_is

      items_are : empty_tree.items ≡ []
      unfolding empty_tree
      items_are = refl

      once : IsDistinct nat_eq empty_tree.blocks
      once =
          subst (IsDistinct nat_eq) (sym blocks_are)
          (distinct_more 1 (put.leaf ∷ []) (ap (λ b. b || false) (ne_eqb 1 put.leaf (λ e. put.other (sym e))))
          (distinct_more put.leaf [] refl (distinct_from_counts [] (λ n. omega arith))))

      becomes : TreeBecomes before after directory_root t.blocks []
      becomes = record {
        tree = empty_tree;
        stands = record { sound = own_level after 1 directory_root empty_tree tree_there; distinct = once };
        items_are = items_are;
        reshapes = reshapes_compose before mid after t.blocks (1 ∷ []) empty_tree.blocks
            (subst (λ k. Reshapes before mid t.blocks (k ∷ [])) is left.leaves.reshapes)
            (subst (Reshapes mid after (1 ∷ [])) (sym blocks_are) put.reshapes);
        lawful = put.lawful;
      }

      emptied_directory : IsEmptyDirectory before after v t
      emptied_directory =
          subst (λ w. IsEmptyDirectory before after w t) (sym at_root)
          (record { becomes = becomes; leaf = put.leaf; root_has = put.root_has; leaf_has = put.leaf_has })

      pub directory_killed : HasKilled before after v t low high true
      directory_killed = (
        left.none,
        subst (λ b. MatchBool b (IsEmptyDirectory before after v t)
            (IsEmptied before after v t)) (sym (eq-eqb v.block 1 is)) emptied_directory,
      )

-- ---- the directory may be written

-- An index block has a child.
child_of : (file : List ℕ) (v : Visit) (level : ℕ) (t : Tree) → StandsBelow file v (suc level) t
    → (n : ℕ) × IsTrue (has_block t.blocks n) × (n ≢ v.block)
child_of file v level t s =
    let i = image_of file s.maps in
    let p = by_index file v level t i s.number.within s.sound in
    by p.es p.below p.has p.trees p.is
  where
    by : (es : List Item) (below : Tree) → HasEntries file v (suc level) es
        → trees_below file v level v.low es ≡ Some below → t ≡ index_tree v below
        → (n : ℕ) × IsTrue (has_block t.blocks n) × (n ≢ v.block)
    by [] below has trees is =
        let none = (lawful_at file v (suc level) [] has).none refl in absurd (omega (arith, none.leaf))
    by (e ∷ es) below has trees is =
        let c : Visit = visit_below v level v.low e in
        let q = both_parts (sound_tree file level c) (trees_below file v level (Some e.key) es) below trees in
        let first = first_block file level c q.first q.here in
        let counted : (n : ℕ) → count n t.blocks ≡ count n (v.block ∷ []) + count n (c.block ∷ first.0)
        + count n q.second.blocks = λ n. omega (
          arith,
          ap (λ (u : Tree). count n u.blocks) is,
          ap (λ (u : Tree). count n u.blocks) q.is,
          count_append n q.first.blocks q.second.blocks,
          ap (count n) first.1,
        ) in
        let own = any_counted c.block (c.block ∷ first.0)
        (or_left (nat_eq c.block c.block) _ (eq-eqb c.block c.block refl)) in (
          c.block,
          counted_any c.block t.blocks (omega (arith, counted c.block, own)),
          λ same. omega (
            arith,
            counted c.block,
            own,
            counts_from_distinct t.blocks s.distinct c.block,
            any_counted c.block (v.block ∷ []) (or_left (nat_eq c.block v.block) _ (eq-eqb c.block v.block same)),
          ),
        )

pub cannot_empty : (before mid : List ℕ) (root level : ℕ) (low high : List ℕ) → 1 ≤ level
    → level_of (block_of before root) ≡ level
    → ((v : Visit) (t : Tree) → v.block ≡ root → StandsBelow before v level t
    → LeavesNone before mid t (whole low high) (v.block ∷ []))
    → CannotPutEmpty mid → CannotKill root before
cannot_empty before mid root zero low high some is left cannot v t same m = absurd (omega (arith, some))
cannot_empty before mid root (suc level) low high some is left cannot v t same m =
    let s = root_stands before v t m root (suc level) same is in
    let l = left v t same s in
    let c = child_of before v level t s in
    cannot l.leaves.lawful (freed_is_free before mid v (suc level) t m s low high l c.0 c.1 c.2)
