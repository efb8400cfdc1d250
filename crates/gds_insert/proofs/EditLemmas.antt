-- The bytes of a leaf in which an item is set.
use Rattle.std.proofs.Common.{◌≡◌, ℕ, ◌<◌, true, false, List, [], ◌∷◌, ◌++◌, length, Result}
use Rattle.std.proofs.Common.{Ok, Err, sym, ap, subst, ◌∙◌, arith}
use Rattle.std.specs.Prelude.{All, IfErr, OnOk}
use Rattle.std.specs.Bool.{OnTrue}
use Rattle.gds_block.specs.Block.{level_of}
use Rattle.gds_block.specs.Item.{Item}
use Rattle.gds_base.specs.Put.{PutsBlock}
use Rattle.gds_edit.specs.Edited.{IsEdit, IsEdited}
use Rattle.gds_edit.specs.declared.error.EditError.{EditError}
use Rattle.gds_edit.specs.declared.error.EditError.TheVariants.{Misplaced, NoRoom}
use Rattle.gds_header.specs.declared.header.Header.{Header}
use Rattle.gds_header.specs.Fields.{fields_of, block_of}
use Rattle.gds_law.specs.Path.{Steps}
use Rattle.gds_law.specs.Visit.{Visit}
use Rattle.gds_pack.specs.Packable.{ArePackable}
use Rattle.gds_pack.specs.Packed.{packed_size}
use Rattle.gds_search.specs.PackedBlock.{IsPackedBlock}
use Rattle.gds_search.specs.Place.{BeginsAt, IsPlaceFor}
use Rattle.gds_search.specs.declared.place.Place.{Place}
use Rattle.gds_search.proofs.PackedLemmas.{entries_of-packed}
use Rattle.gds_sound.specs.Sound.{Tree}
use Rattle.gds_tree.specs.Below.{HasEntries}
use Rattle.gds_tree.specs.Keeps.{IsImage}
use Rattle.gds_tree.specs.Lawful.{IsLawful}
use Rattle.gds_tree.specs.RightBlock.{IsDueLevel, IsRightBlock}
use Rattle.gds_tree.proofs.ImageLemmas.{block_long}
use Rattle.gds_file.proofs.RewriteLemmas.{rewrite_keeps_header}
use Rattle.gds_ancestors.specs.Ancestors.{Ancestor}
use Rattle.gds_find.proofs.WayLemmas.{packed_at}
use Rattle.gds_splice.specs.Parted.{MayPart}
use Rattle.gds_splice.proofs.ImageLemmas.{image_of}
use Rattle.gds_splice.proofs.StaysLemmas.{stays_one}
use Rattle.gds_insert.specs.Leaf.{IsLeafFor, items_alone, with_item}
use Rattle.gds_insert.specs.SetIn.{HasSet, MaySet}
use Rattle.gds_insert.proofs.SetLemmas.{leaf_is_set, leaf_parts}

-- ---- the block of a leaf that was edited

module _ (before after new : List ℕ) (leaf : Visit) (had es : List Item) (i : IsImage before)
    (has : HasEntries before leaf 0 had) (lawful : IsLawful (fields_of before) leaf 0 es)
    (e : IsEdited (block_of before leaf.block) new 0 es) (long : length new ≡ length (block_of before leaf.block)) where
  edited_right : IsRightBlock (fields_of before) leaf new es
  edited_right =
      let h = has.right.head in
      let full : length new ≡ (fields_of before).block_size = long ∙ block_long before leaf.block i has.there in
      record {
        head = record {
          stamped = record {
            version = e.version ∙ h.stamped.version;
            reserved = e.reserved ∙ h.stamped.reserved;
            tn = subst (λ n. n < (fields_of before).tn) (sym e.tn) h.stamped.tn;
          };
          level = subst (IsDueLevel leaf.level) (has.level ∙ sym e.packed.level) h.level;
          used = e.packed.used;
          fits = omega (arith, e.packed.used, e.packed.is_block.within, full);
        };
        found = entries_of-packed new 0 es e.packed;
        lawful = subst (λ n. IsLawful (fields_of before) leaf n es) (sym e.packed.level) lawful;
      }

  pub edited_there : fields_of after ≡ fields_of before → block_of after leaf.block ≡ new → HasEntries after leaf 0 es
  edited_there fields is = record {
    there = subst (λ (h : Header). leaf.block < h.total) (sym fields) has.there;
    level = ap level_of is ∙ e.packed.level;
    right = subst (λ h. IsRightBlock h leaf (block_of after leaf.block) es) (sym fields)
        (subst (λ b. IsRightBlock (fields_of before) leaf b es) (sym is) edited_right);
  }

-- ---- what an edit answers

-- what is said of the bytes of a leaf and an edit of them
abbrev pub Edits : List ℕ → List ℕ → Place → List ℕ → List ℕ → Result Unit EditError → Type 0
Edits old new place key rest answer =
    (front back : List Item) → IsPackedBlock old 0 (front ++ back) → IsPlaceFor (front ++ back) key place front back
    → ArePackable 0 (with_item place.is_equal front back (record { key = key; rest = rest }))
    → IsEdit old new 0 (with_item place.is_equal front back (record { key = key; rest = rest })) answer

-- what is said of a rest that is replaced at a place, and of an item that is inserted there
abbrev pub Replaces : List ℕ → List ℕ → Place → List ℕ → Result Unit EditError → Type 0
Replaces old new place rest answer =
    (height : ℕ) (key : List ℕ) (es a b : List Item) (e : Item) → IsPackedBlock old height es
    → IsPlaceFor es key place a (e ∷ b) → (height ≡ 0 → e.key ≡ key)
    → ArePackable height (a ++ record e { rest = rest } ∷ b)
    → IsEdit old new height (a ++ record e { rest = rest } ∷ b) answer

abbrev pub Inserts : List ℕ → List ℕ → Place → List ℕ → List ℕ → Result Unit EditError → Type 0
Inserts old new place key rest answer =
    (height : ℕ) (es a b : List Item) → IsPackedBlock old height es → IsPlaceFor es key place a b
    → ArePackable height (a ++ record { key = key; rest = rest } ∷ b)
    → IsEdit old new height (a ++ record { key = key; rest = rest } ∷ b) answer

module _ (old new : List ℕ) (place : Place) (key rest : List ℕ) (answer : Result Unit EditError) where
  abbrev With : List Item → Type 0
  With xs = ArePackable 0 xs → IsEdit old new 0 xs answer

  pub replaced : place.is_equal ≡ true → Replaces old new place rest answer → Edits old new place key rest answer
  replaced equal does front back packed spot =
      subst (λ s. With (with_item s front back (record { key = key; rest = rest }))) (sym equal) (by back packed spot)
    where
      by : (b : List Item) → IsPackedBlock old 0 (front ++ b) → IsPlaceFor (front ++ b) key place front b
          → With (with_item true front b (record { key = key; rest = rest }))
      by [] packed spot = absurd (subst (λ s. OnTrue s (BeginsAt key [])) equal spot.equal)
      by (e ∷ b) packed spot =
          let own : e.key ≡ key = subst (λ s. OnTrue s (BeginsAt key (e ∷ b))) equal spot.equal in
          subst (λ k. With (front ++ record { key = k; rest = rest } ∷ b)) own
          (does 0 key (front ++ e ∷ b) front b e packed spot (λ _. own))

  pub inserted : place.is_equal ≡ false → Inserts old new place key rest answer → Edits old new place key rest answer
  inserted unequal does front back packed spot =
      subst (λ s. With (with_item s front back (record { key = key; rest = rest }))) (sym unequal)
      (does 0 (front ++ back) front back packed spot)

module _ (before : List ℕ) (v : Visit) (t : Tree) (key rest : List ℕ) (place : Place) (steps : Steps)
    (above : List Ancestor) (leaf : Visit) (front back : List Item) (m : MaySet before v t key rest)
    (l : IsLeafFor before v t key place steps above leaf front back) (old new : List ℕ)
    (own : old ≡ block_of before leaf.block) (bytes : All (λ b. b < 256) old) (answer : Result Unit EditError)
    (edits : Edits old new place key rest answer) where
  abbrev es : List Item
  es = with_item place.is_equal front back (record { key = key; rest = rest })

  abbrev i : IsImage before
  i = image_of before m.maps

  abbrev may : MayPart before v above leaf 0 es (items_alone es)
  may = (leaf_parts before v t key rest place steps above leaf front back m l).may

  was_edited : IsEdit old new 0 es answer
  was_edited =
      edits front back
      (subst (λ b. IsPackedBlock b 0 (front ++ back)) (sym own)
      (packed_at before leaf 0 (front ++ back) i l.has (subst (All (λ b. b < 256)) own bytes))) l.parts
      may.lawful.packable

  pub set_there : (after : List ℕ) → answer ≡ Ok tt → length new ≡ length old → PutsBlock before after leaf.block new
      → HasSet before after v t key rest
  set_there after ok long put =
      let done : IsEdited old new 0 es = subst (λ a. OnOk a (IsEdited old new 0 es)) ok was_edited.done in
      let edited = subst (λ b. IsEdited b new 0 es) own done in
      leaf_is_set before v t key rest place steps above leaf front back m l after
      (stays_one before after v above leaf 0 es (items_alone es)
      may put.rewrites
      (edited_there before after new leaf (front ++ back) es i l.has may.lawful edited (long ∙ ap length own)
      (rewrite_keeps_header before after (leaf.block ∷ []) put.rewrites) put.bytes_are))

  pub not_misplaced : answer ≡ Err Misplaced → ⊥
  not_misplaced err =
      let full = subst (λ a. IfErr a (λ e. (e ≡ NoRoom) × (length old < packed_size es))) err was_edited.full in
      let no_room : Misplaced ≡ NoRoom = full.0 in
      absurd (cc)
