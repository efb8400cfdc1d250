-- The block of a leaf that was edited in place.
use Rattle.std.proofs.Common.{◌≡◌, ◌<◌, ℕ, List, length, sym, ap, subst, ◌∙◌, arith}
use Rattle.gds_block.specs.Block.{level_of}
use Rattle.gds_block.specs.Item.{Item}
use Rattle.gds_edit.specs.Edited.{IsEdited}
use Rattle.gds_header.specs.declared.header.Header.{Header}
use Rattle.gds_header.specs.Fields.{fields_of, block_of}
use Rattle.gds_law.specs.Visit.{Visit}
use Rattle.gds_search.proofs.PackedLemmas.{entries_of-packed}
use Rattle.gds_tree.specs.Below.{HasEntries}
use Rattle.gds_tree.specs.Keeps.{IsImage}
use Rattle.gds_tree.specs.Lawful.{IsLawful}
use Rattle.gds_tree.specs.RightBlock.{IsDueLevel, IsRightBlock}
use Rattle.gds_tree.proofs.ImageLemmas.{block_long}

module _ (before after new : List ℕ) (leaf : Visit) (had es : List Item) (i : IsImage before)
    (has : HasEntries before leaf 0 had) (lawful : IsLawful (fields_of before) leaf 0 es)
    (e : IsEdited (block_of before leaf.block) new 0 es) (long : length new ≡ length (block_of before leaf.block)) where
  edited_right : IsRightBlock (fields_of before) leaf new es
  edited_right =
      let h = has.right.head in
      let full : length new ≡ (fields_of before).block_size = long ∙ block_long before leaf.block i has.there in
      record {
        head = record {
          stamped = record {
            version = e.version ∙ h.stamped.version;
            reserved = e.reserved ∙ h.stamped.reserved;
            tn = subst (λ n. n < (fields_of before).tn) (sym e.tn) h.stamped.tn;
          };
          level = subst (IsDueLevel leaf.level) (has.level ∙ sym e.packed.level) h.level;
          used = e.packed.used;
          fits = omega (arith, e.packed.used, e.packed.is_block.within, full);
        };
        found = entries_of-packed new 0 es e.packed;
        lawful = subst (λ n. IsLawful (fields_of before) leaf n es) (sym e.packed.level) lawful;
      }

  pub edited_there : fields_of after ≡ fields_of before → block_of after leaf.block ≡ new → HasEntries after leaf 0 es
  edited_there fields is = record {
    there = subst (λ (h : Header). leaf.block < h.total) (sym fields) has.there;
    level = ap level_of is ∙ e.packed.level;
    right = subst (λ h. IsRightBlock h leaf (block_of after leaf.block) es) (sym fields)
        (subst (λ b. IsRightBlock (fields_of before) leaf b es) (sym is) edited_right);
  }
