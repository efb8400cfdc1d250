-- The blocks of a tree below its root that are freed one child after another.
use Rattle.std.proofs.Common.{◌≡◌, ◌≢◌, ◌+◌, ◌-◌, ◌<◌, ◌≤◌, ◌%◌, ℕ, zero, suc}
use Rattle.std.proofs.Common.{false, List, [], ◌∷◌, ◌++◌, length, drop, get_or, Option, Some}
use Rattle.std.proofs.Common.{refl, sym, ap, ◌∙◌, subst, arith}
use Rattle.std.specs.Prelude.{nat_eq, IsTrue}
use Rattle.std.specs.List.{AllByRecursion}
use Rattle.std.proofs.lemmas.Bool.{or_left, eq-eqb}
use Rattle.std.proofs.lemmas.List.{drop_all, drop_more}
use Rattle.std.proofs.lemmas.List.Elements.{All-from_recursion}
use Rattle.gds_block.specs.Fields.{u32_at}
use Rattle.gds_block.specs.Item.{Item}
use Rattle.gds_header.specs.Fields.{block_of, fields_of}
use Rattle.gds_law.specs.Visit.{Visit}
use Rattle.gds_pack.specs.Entry.{item, items}
use Rattle.gds_pack.specs.declared.entry.Entry.{Entry}
use Rattle.gds_sound.specs.Sound.{Tree, sound_tree}
use Rattle.gds_sound.proofs.CountLemmas.{count, count_append}
use Rattle.gds_sound.proofs.PathLemmas.{any_counted, counted_any, counts_from_distinct, distinct_from_counts}
use Rattle.gds_tree.specs.Below.{trees_below, visit_below}
use Rattle.gds_tree.specs.Keeps.{IsImage, KeepsBlocks}
use Rattle.gds_tree.specs.Lawful.{IsLawfulEntry, IsPointer, IsTreeNumber}
use Rattle.gds_tree.proofs.BelowLemmas.{both_parts, AreBoth}
use Rattle.gds_tree.proofs.KeepLemmas.{pointers}
use Rattle.gds_tree.proofs.KeptTreeLemmas.{grown}
use Rattle.gds_tree.proofs.PartLemmas.{lawful_index, numbered}
use Rattle.gds_tree.proofs.TreeByLemmas.{by_index, by_leaf}
use Rattle.gds_file.specs.FileLaws.{IsLawful}
use Rattle.gds_file.specs.FreeLaws.{IsBusy}
use Rattle.gds_file.specs.Maps.{has_block}
use Rattle.gds_file.specs.Rewrite.{AreNoMaps}
use Rattle.gds_splice.proofs.CountedLemmas.{all_has, at_has, has_same, none_counted, same_one}
use Rattle.gds_splice.proofs.ImageLemmas.{image_of, sizes_of}
use Rattle.gds_remove.specs.Block.{AreEntriesAt, CannotFree, FreesBelow, FreesOne, HasNoEntries}
use Rattle.gds_remove.specs.Cut.{Leaves, NoneStands, StandsBelow}
use Rattle.gds_remove.proofs.LeavesLemmas.{leaves_compose, leaves_in_any_order, leaves_same, leaves_with_more}
use Rattle.gds_remove.proofs.LeavesLemmas.{left_are_busy, others_stay_busy}

-- ---- a tree that stands

module _ (file : List ℕ) (v : Visit) (level : ℕ) (t : Tree) (s : StandsBelow file v level t) where
  pub image_below : IsImage file
  image_below = image_of file s.maps

  pub numbers_below : AllByRecursion (IsTreeNumber (fields_of file).total) t.blocks
  numbers_below = numbered file image_below level v t s.number s.sound

  pub number_below : (n : ℕ) → IsTrue (has_block t.blocks n) → IsTreeNumber (fields_of file).total n
  number_below n there = at_has (IsTreeNumber (fields_of file).total) t.blocks n numbers_below there

  pub no_maps_below : AreNoMaps t.blocks
  no_maps_below n there = (number_below n there).no_map

-- ---- a leaf, of which nothing is freed

pub leaf_alone : (file : List ℕ) (n : ℕ) → FreesBelow n 0 file file
leaf_alone file n v t same s =
    let i = image_below file v 0 t s in
    let p = by_leaf file v t i s.number.within s.sound in
    let only : t.blocks ≡ n ∷ [] = ap (λ (u : Tree). u.blocks) p.is ∙ ap (λ k. k ∷ []) same in
    subst (Leaves file file t.blocks) only (leaves_same file t.blocks s.maps s.busy)

-- ---- an index block that can't be read

pub no_entries_none : (file : List ℕ) (n level : ℕ) → HasNoEntries n (suc level) file → NoneStands n (suc level) file
no_entries_none file n level none v t same s =
    let i = image_below file v (suc level) t s in
    let p = by_index file v level t i s.number.within s.sound in
    none v p.es same i p.has

-- ---- some first children are freed

-- Of an index block's tree these entries are left: sound trees stood below them, and the blocks that aren't in these,
-- but for the index block itself, are free.
pub record FreesOn (before now : List ℕ) (v : Visit) (level : ℕ) (t : Tree) (back : List Item) : Type 0 where
  pub low : Option (List ℕ)
  pub rest : Tree
  pub gone : List ℕ
  pub stands : trees_below before v level low back ≡ Some rest
  pub lawful : AllByRecursion (IsLawfulEntry (fields_of before) v (suc level)) back
  pub order : (n : ℕ) → count n t.blocks ≡ count n gone + count n (v.block ∷ rest.blocks)
  pub leaves : Leaves before now gone []

module _ (before : List ℕ) (v : Visit) (level : ℕ) (t : Tree) (s : StandsBelow before v (suc level) t) where
  i : IsImage before
  i = image_below before v (suc level) t s

  once : (n : ℕ) → count n t.blocks ≤ 1
  once n = counts_from_distinct t.blocks s.distinct n

  -- nothing is freed
  pub frees_none : (es : List Item) → AreEntriesAt v.block (suc level) es before → FreesOn before before v level t es
  frees_none es are =
      let p = by_index before v level t i s.number.within s.sound in
      let same : p.es ≡ es = sym (are v p.es refl i p.has) in record {
        low = v.low;
        rest = p.below;
        gone = [];
        stands = subst (λ l. trees_below before v level v.low l ≡ Some p.below) same p.trees;
        lawful = subst (AllByRecursion (IsLawfulEntry (fields_of before) v (suc level))) same
            (lawful_index before v (suc level) p.es p.has);
        order = λ n. omega (arith, ap (λ (u : Tree). count n u.blocks) p.is);
        leaves = leaves_same before [] s.maps (λ n there. absurd (cc));
      }

  module _ (now : List ℕ) where
    -- all are freed
    pub frees_all : FreesOn before now v level t [] → Leaves before now t.blocks (v.block ∷ [])
    frees_all f =
        let none : f.rest ≡ record { blocks = []; items = [] } = cc in
        let counts : (n : ℕ) → count n (f.gone ++ v.block ∷ []) ≡ count n t.blocks = λ n. omega (
          arith,
          count_append n f.gone (v.block ∷ []),
          f.order n,
          ap (λ (u : Tree). count n u.blocks) none,
        ) in
        let own : (n : ℕ) → IsTrue (has_block (v.block ∷ []) n) → 1 ≤ count n (v.block ∷ []) =
        λ n there. any_counted n (v.block ∷ []) there in
        let in_tree : (n : ℕ) → IsTrue (has_block (v.block ∷ []) n) → IsTrue (has_block t.blocks n) = λ n there.
        counted_any n t.blocks (omega (arith, own n there, counts n, count_append n f.gone (v.block ∷ []))) in
        leaves_in_any_order before now (f.gone ++ v.block ∷ []) (v.block ∷ []) t.blocks (v.block ∷ [])
        (leaves_with_more before now f.gone [] (v.block ∷ []) f.leaves (λ n there. s.busy n (in_tree n there))
        (λ n there. none_counted f.gone n (omega (
          arith,
          own n there,
          counts n,
          count_append n f.gone (v.block ∷ []),
          once n,
        ))))
        (has_same (f.gone ++ v.block ∷ []) t.blocks counts) (λ n. refl)

    -- one child more
    module _ (e : Item) (es : List Item) (f : FreesOn before now v level t (e ∷ es)) where
      abbrev pub c : Visit
      c = visit_below v level f.low e

      pub parts : AreBoth (sound_tree before level c) (trees_below before v level (Some e.key) es) f.rest
      parts = both_parts (sound_tree before level c) (trees_below before v level (Some e.key) es) f.rest f.stands

      abbrev pub child : Tree
      child = parts.first

      pointer : IsPointer (fields_of before) e.rest
      pointer = pointers (fields_of before) v v.role level e.rest f.lawful.0.rest

      counts : (n : ℕ) → count n t.blocks ≡ count n f.gone + count n (v.block ∷ []) + count n child.blocks
          + count n parts.second.blocks
      counts n =
          omega (
            arith,
            f.order n,
            ap (λ (u : Tree). count n u.blocks) parts.is,
            count_append n child.blocks parts.second.blocks,
          )

      in_tree : (n : ℕ) → IsTrue (has_block child.blocks n) → IsTrue (has_block t.blocks n)
      in_tree n there = counted_any n t.blocks (omega (arith, any_counted n child.blocks there, counts n))

      apart : (n : ℕ) → IsTrue (has_block child.blocks n) → has_block f.gone n ≡ false
      apart n there = none_counted f.gone n (omega (arith, any_counted n child.blocks there, counts n, once n))

      kept : KeepsBlocks before now child.blocks
      kept =
          All-from_recursion (λ n. block_of now n ≡ block_of before n) child.blocks
          (all_has (λ n. block_of now n ≡ block_of before n) child.blocks
          (λ n there. f.leaves.reshapes.stays n
          (no_maps_below before v (suc level) t s n (in_tree n there)) (s.busy n (in_tree n there)) (apart n there)))

      -- the child's tree stands there still
      pub child_stands : StandsBelow now c level child
      child_stands = record {
        number = record {
          positive = pointer.leads.positive;
          within = omega (arith, pointer.leads.within, f.leaves.reshapes.limits.total);
          no_map = pointer.leads.no_map;
        };
        sound = grown before now c level child i (image_of now f.leaves.lawful)
            (sizes_of before now f.leaves.reshapes.limits) f.leaves.reshapes.limits.total pointer.leads.within
            parts.here kept;
        distinct = distinct_from_counts child.blocks (λ n. omega (arith, counts n, once n));
        busy = others_stay_busy before now f.gone [] child.blocks f.leaves (λ n there. s.busy n (in_tree n there))
            (λ n there. no_maps_below before v (suc level) t s n (in_tree n there)) apart;
        maps = f.leaves.lawful;
      }

      -- a pointer leads to it
      pub child_size : length e.rest ≡ 4
      child_size = pointer.size

      module _ (mid : List ℕ) (below : FreesBelow (u32_at e.rest 0) level now mid) where
        mid_leaves : Leaves now mid child.blocks (c.block ∷ [])
        mid_leaves = below c child refl child_stands

        pub mid_lawful : IsLawful mid
        mid_lawful = mid_leaves.lawful

        pub mid_number : IsTreeNumber (fields_of mid).total c.block
        mid_number = record {
          positive = pointer.leads.positive;
          within = omega (arith, child_stands.number.within, mid_leaves.reshapes.limits.total);
          no_map = pointer.leads.no_map;
        }

        proper : AreNoMaps (c.block ∷ [])
        proper n there = subst (λ k. k % 512 ≢ 0) (sym (same_one n c.block there)) pointer.leads.no_map

        mid_busy : IsBusy mid c.block
        mid_busy = record {
          no_map = pointer.leads.no_map;
          busy = left_are_busy now mid child.blocks (c.block ∷ []) mid_leaves child_stands.busy proper c.block
              (or_left (nat_eq c.block c.block) false (eq-eqb c.block c.block refl));
        }

        pub cannot_free_child : CannotFree (u32_at e.rest 0) mid → ⊥
        cannot_free_child cannot = cannot mid_lawful mid_number

        module _ (after : List ℕ) (one : FreesOne (u32_at e.rest 0) mid after) where
          both_gone : Leaves now after child.blocks []
          both_gone =
              leaves_compose now mid after child.blocks (c.block ∷ []) [] mid_leaves
              (one mid_lawful mid_number mid_busy)

          pub frees_next : FreesOn before after v level t es
          frees_next = record {
            low = Some e.key;
            rest = parts.second;
            gone = f.gone ++ child.blocks;
            stands = parts.later;
            lawful = f.lawful.1;
            order = λ n. omega (arith, counts n, count_append n f.gone child.blocks);
            leaves = leaves_compose before now after (f.gone ++ child.blocks) child.blocks []
                (leaves_with_more before now f.gone [] child.blocks f.leaves (λ n there. s.busy n (in_tree n there))
                apart) both_gone;
          }

-- ---- a loop over the entries

-- So far the first children of an index block of a level are freed, and these entries are left.
abbrev pub FreesSoFar : ℕ → ℕ → List Item → List ℕ → List ℕ → Type 0
FreesSoFar block zero back before now = Unit {0}
FreesSoFar block (suc level) back before now =
    (v : Visit) (t : Tree) → v.block ≡ block → StandsBelow before v (suc level) t → FreesOn before now v level t back

pub so_far_none : (file : List ℕ) (n level : ℕ) (es : List Item) → AreEntriesAt n level es file
    → FreesSoFar n level es file file
so_far_none file n zero es are = tt
so_far_none file n (suc level) es are = λ v t same s.
    frees_none file v level t s es (subst (λ k. AreEntriesAt k (suc level) es file) (sym same) are)

pub so_far_all : (before now : List ℕ) (n level : ℕ) → level ≢ 0 → FreesSoFar n level [] before now
    → FreesBelow n level before now
so_far_all before now n zero high so_far v t same s = absurd (high refl)
so_far_all before now n (suc level) high so_far v t same s =
    subst (λ k. Leaves before now t.blocks (k ∷ [])) same (frees_all before v level t s now (so_far v t same s))

module _ (before now : List ℕ) (n : ℕ) (e : Item) (es : List Item) where
  pub cannot_point : (level : ℕ) → level ≢ 0 → FreesSoFar n level (e ∷ es) before now → (length e.rest ≡ 4 → ⊥)
      → NoneStands n level before
  cannot_point zero high so_far other v t same s = absurd (high refl)
  cannot_point (suc level) high so_far other v t same s =
      other (child_size before v level t s now e es (so_far v t same s))

  below_is : (level : ℕ) → suc level - 1 ≡ level
  below_is level = omega arith

  pub cannot_below : (level : ℕ) → level ≢ 0 → FreesSoFar n level (e ∷ es) before now
      → NoneStands (u32_at e.rest 0) (level - 1) now → NoneStands n level before
  cannot_below zero high so_far none v t same s = absurd (high refl)
  cannot_below (suc level) high so_far none v t same s =
      let f = so_far v t same s in
      subst (λ l. NoneStands (u32_at e.rest 0) l now) (below_is level) none (visit_below v level f.low e)
      (child before v level t s now e es f) refl (child_stands before v level t s now e es f)

  module _ (mid : List ℕ) where
    pub cannot_one : (level : ℕ) → level ≢ 0 → FreesSoFar n level (e ∷ es) before now
        → FreesBelow (u32_at e.rest 0) (level - 1) now mid → CannotFree (u32_at e.rest 0) mid
        → NoneStands n level before
    cannot_one zero high so_far below cannot v t same s = absurd (high refl)
    cannot_one (suc level) high so_far below cannot v t same s =
        cannot_free_child before v level t s now e es (so_far v t same s) mid
        (subst (λ l. FreesBelow (u32_at e.rest 0) l now mid) (below_is level) below) cannot

    pub so_far_next : (after : List ℕ) (level : ℕ) → FreesSoFar n level (e ∷ es) before now
        → FreesBelow (u32_at e.rest 0) (level - 1) now mid → FreesOne (u32_at e.rest 0) mid after
        → FreesSoFar n level es before after
    so_far_next after zero so_far below one = tt
    so_far_next after (suc level) so_far below one = λ v t same s.
        frees_next before v level t s now e es (so_far v t same s) mid
        (subst (λ l. FreesBelow (u32_at e.rest 0) l now mid) (below_is level) below) after one

pub not_read_none : (file : List ℕ) (n level : ℕ) → level ≢ 0 → HasNoEntries n level file → NoneStands n level file
not_read_none file n zero high none v t same s = absurd (high refl)
not_read_none file n (suc level) high none v t same s = no_entries_none file n level none v t same s

-- ---- the entry of a turn

-- the last one
pub so_far_end : (before now : List ℕ) (n level : ℕ) (xs : List Entry) (k : ℕ) → length xs ≤ k
    → FreesSoFar n level (items (drop k xs)) before now → FreesSoFar n level [] before now
so_far_end before now n level xs k past so_far =
    subst (λ (ys : List Entry). FreesSoFar n level (items ys) before now) (drop_all k xs past) so_far

-- one that stands before others
pub so_far_at : (before now : List ℕ) (n level : ℕ) (xs : List Entry) (k : ℕ) (e : Entry) → k < length xs
    → e ≡ get_or xs k e → FreesSoFar n level (items (drop k xs)) before now
    → FreesSoFar n level (item e ∷ items (drop (k + 1) xs)) before now
so_far_at before now n level xs k e low here so_far =
    subst (λ (ys : List Entry). FreesSoFar n level (items ys) before now)
    (drop_more xs k e low ∙ ap (λ y. y ∷ drop (k + 1) xs) (sym here)) so_far
