-- A leaf of which a range of keys is cut out.
use Rattle.std.proofs.Common.{◌≡◌, ◌≢◌, ◌≤◌, ◌%◌, ℕ, List, [], ◌∷◌, length}
use Rattle.std.proofs.Common.{refl, sym, ap, ◌∙◌, subst, arith}
use Rattle.std.specs.Prelude.{not, nat_eq}
use Rattle.std.specs.List.{IsDistinct}
use Rattle.std.proofs.lemmas.List.{length-map}
use Rattle.gds_base.specs.Put.{PutsBlock}
use Rattle.gds_block.specs.Item.{Item}
use Rattle.gds_edit.specs.Edited.{IsEdited}
use Rattle.gds_header.specs.Fields.{block_of, fields_of}
use Rattle.gds_header.specs.declared.header.Header.{Header}
use Rattle.gds_law.specs.Visit.{Visit}
use Rattle.gds_pack.specs.Entry.{item, items}
use Rattle.gds_pack.specs.declared.entry.Entry.{Entry}
use Rattle.gds_sound.specs.Sound.{Tree}
use Rattle.gds_tree.specs.Below.{HasEntries, leaf_tree}
use Rattle.gds_tree.specs.Keeps.{IsImage}
use Rattle.gds_tree.specs.Lawful as entries
use Rattle.gds_tree.specs.RightBlock.{IsDueLevel}
use Rattle.gds_tree.proofs.FaultlessLemmas.{written_entries}
use Rattle.gds_tree.proofs.PartLemmas.{lawful_at}
use Rattle.gds_tree.proofs.TreeByLemmas.{LeafBy, by_leaf, leaf_by}
use Rattle.gds_file.specs.Maps.{has_block}
use Rattle.gds_file.specs.Rewrite.{AreNoMaps, Rewrites}
use Rattle.gds_file.proofs.RewriteLemmas.{rewrite_keeps_header, rewrite_stays_lawful}
use Rattle.gds_splice.specs.Divided.{MayPut}
use Rattle.gds_splice.specs.Writing.{PutsEntries}
use Rattle.gds_splice.proofs.CountedLemmas.{same_one}
use Rattle.gds_splice.proofs.ImageLemmas.{image_of}
use Rattle.gds_remove.specs.Block.{AreEntriesAt, HasNoEntries}
use Rattle.gds_remove.specs.Cut.{Leaves, LeavesNone, LeavesTree, NoneStands, StandsBelow}
use Rattle.gds_remove.specs.Range.{Range, is_in, left_by}
use Rattle.gds_remove.proofs.EditedLemmas.{edited_there}
use Rattle.gds_remove.proofs.FreeingLemmas.{image_below}
use Rattle.gds_remove.proofs.LeavesLemmas.{leaves_same, leaves_written}
use Rattle.gds_remove.proofs.LeftItemsLemmas.{filter_leaves, filter_same, left_lawful, left_packed}

-- A leaf that can't be read.
pub no_leaf_none : (file : List ℕ) (n : ℕ) → HasNoEntries n 0 file → NoneStands n 0 file
no_leaf_none file n none v t same s =
    let i = image_below file v 0 t s in
    let p = by_leaf file v t i s.number.within s.sound in
    none v p.es same i p.has

-- ---- entries in memory, by how many they are

no_items : (xs : List Item) → length xs ≡ 0 → xs ≡ []
no_items [] none = refl
no_items (x ∷ xs) none = absurd (omega (arith, none))

module _ (xs : List Entry) (left : List Item) (is : items xs ≡ left) where
  many : length left ≡ length xs
  many = ap length (sym is) ∙ length-map xs item

  pub none_in : length xs ≡ 0 → left ≡ []
  none_in none = no_items left (omega (arith, many, none))

  pub some_in : (length xs ≡ 0 → ⊥) → left ≢ []
  some_in some none = some (omega (arith, many, ap length none))

  pub as_many : (all : List Entry) → length xs ≡ length all → length (items all) ≤ length left
  as_many all same = omega (arith, many, same, length-map all item)

-- ---- the leaf

pub may_put_same : (h g : Header) (level : ℕ) (es : List Item) → g.block_size ≡ h.block_size → MayPut h level es
    → MayPut g level es
may_put_same h g level es same m = record { packable = m.packable; fits = omega (arith, same, m.fits) }

module _ (before : List ℕ) (range : Range) (es : List Item) where
  abbrev left : List Item
  left = left_by range es

  module _ (v : Visit) (t : Tree) (are : AreEntriesAt v.block 0 es before) (s : StandsBelow before v 0 t) where
    leaf : LeafBy before v t
    leaf = by_leaf before v t (image_below before v 0 t s) s.number.within s.sound

    same : leaf.es ≡ es
    same = sym (are v leaf.es refl (image_below before v 0 t s) leaf.has)

    has : HasEntries before v 0 es
    has = subst (HasEntries before v 0) same leaf.has

    tree_is : t ≡ leaf_tree v es
    tree_is = leaf.is ∙ ap (leaf_tree v) same

    only : t.blocks ≡ v.block ∷ []
    only = ap (λ (u : Tree). u.blocks) tree_is

    items_are : t.items ≡ es
    items_are = ap (λ (u : Tree). u.items) tree_is

    left_are : left ≡ left_by range t.items
    left_are = ap (left_by range) (sym items_are)

    stays : Leaves before before t.blocks t.blocks
    stays = leaves_same before t.blocks s.maps s.busy

    -- none is left
    pub none_left : left ≡ [] → LeavesNone before before t range (v.block ∷ [])
    none_left none = record {
      none = sym left_are ∙ none;
      leaves = subst (Leaves before before t.blocks) only stays;
    }

    -- all are left
    pub all_left : left ≢ [] → length es ≤ length left → LeavesTree before before v 0 t range
    all_left some long = record {
      tree = t;
      sound = s.sound;
      distinct = s.distinct;
      items_are = items_are ∙ sym (filter_same (λ e. not (is_in range e.key)) es long) ∙ left_are;
      some = λ none. some (left_are ∙ none);
      leaves = stays;
    }

    -- some are left, and may be put into the block
    pub left_may : left ≢ [] → MayPut (fields_of before) 0 left
    left_may some = record {
      packable = filter_leaves (λ e. not (is_in range e.key)) [] es (lawful_at before v 0 es has).packable;
      fits = omega (
        arith,
        left_packed (λ e. not (is_in range e.key)) es,
        has.right.head.fits,
      );
    }

    -- the entries that are left are lawful too
    pub still_lawful : left ≢ [] → entries.IsLawful (fields_of before) v 0 left
    still_lawful some =
        left_lawful (λ e. not (is_in range e.key)) (fields_of before) v es some (lawful_at before v 0 es has)

    module _ (some : left ≢ []) (after : List ℕ) (r : Rewrites before after (v.block ∷ [])) where
      fields : fields_of after ≡ fields_of before
      fields = rewrite_keeps_header before after (v.block ∷ []) r

      proper : AreNoMaps (v.block ∷ [])
      proper n there = subst (λ k. k % 512 ≢ 0) (sym (same_one n v.block there)) s.number.no_map

      j : IsImage after
      j = image_of after (rewrite_stays_lawful before after (v.block ∷ []) s.maps r proper)

      -- they stand in the block
      pub left_there : HasEntries after v 0 left → LeavesTree before after v 0 t range
      left_there there = record {
        tree = leaf_tree v left;
        sound = leaf_by after v left j there;
        distinct = subst (IsDistinct nat_eq) only s.distinct;
        items_are = left_are;
        some = λ none. some (left_are ∙ none);
        leaves = subst (Leaves before after t.blocks) only
            (leaves_written before after (v.block ∷ []) t.blocks r proper
            (λ n there. ap (λ bs. has_block bs n) only ∙ there) s.busy s.maps);
      }

    -- they are packed into it anew
    pub some_left : left ≢ [] → (after : List ℕ) → PutsEntries before after v.block 0 left
        → LeavesTree before after v 0 t range
    some_left some after put =
        let same = fields some after put.rewrites in
        left_there some after put.rewrites
        (written_entries after v 0 0 left (j some after put.rewrites)
        (omega (arith, s.number.within, ap (λ (k : Header). k.total) same)) put.bytes
        (subst (λ k. entries.IsLawful k v 0 left) (sym same) (still_lawful some))
        put.fits (subst (IsDueLevel v.level) has.level has.right.head.level)
        (omega (arith, has.right.head.stamped.tn, ap (λ (k : Header). k.tn) same)) (omega arith))

    -- the block is edited
    pub left_edited : left ≢ [] → (after new : List ℕ) → PutsBlock before after v.block new
        → IsEdited (block_of before v.block) new 0 left → length new ≡ length (block_of before v.block)
        → LeavesTree before after v 0 t range
    left_edited some after new put edited long =
        left_there some after put.rewrites
        (edited_there before after new v es left (image_below before v 0 t s) has (still_lawful some) edited long
        (fields some after put.rewrites) put.bytes_are)
