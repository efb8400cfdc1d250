-- A root that is given back, and the entry that leads to it taken out of the directory.
use Rattle.std.proofs.Common.{◌≡◌, ℕ, Bool, true, false, List, [], ◌∷◌}
use Rattle.std.proofs.Common.{refl, sym, subst, ◌∙◌, arith}
use Rattle.std.specs.Prelude.{IsTrue}
use Rattle.std.proofs.lemmas.Bool.{and_from, false_from_ne_true, not_from_false}
use Rattle.m_key.specs.Key.{key_bytes, past_bytes}
use Rattle.gds_base.specs.Spaces.{Recycles}
use Rattle.gds_file.specs.Change.{items_outside}
use Rattle.gds_file.specs.Maps.{has_block, is_busy}
use Rattle.gds_file.specs.Reshape.{Reshapes}
use Rattle.gds_file.proofs.FrameLemmas.{kept_equal, root_kept}
use Rattle.gds_file.proofs.FreeLemmas.{free_reshapes}
use Rattle.gds_file.proofs.ReshapeLemmas.{reshapes_compose, reshapes_with_more}
use Rattle.gds_file.proofs.UseLemmas.{in_has}
use Rattle.gds_header.specs.Fields.{block_of, fields_of}
use Rattle.gds_law.specs.Visit.{directory_root}
use Rattle.gds_sound.specs.Sound.{Tree}
use Rattle.gds_sound.proofs.BlockLemmas.{level_at}
use Rattle.gds_splice.specs.Parted.{TreeBecomes}
use Rattle.gds_splice.proofs.CountedLemmas.{at_has, same_one}
use Rattle.gds_splice.proofs.ImageLemmas.{image_of}
use Rattle.gds_tree.specs.Keeps.{IsImage}
use Rattle.gds_tree.specs.Lawful.{IsTreeNumber}
use Rattle.gds_tree.proofs.PartLemmas.{numbered}
use Rattle.gds_remove.specs.Killed.{HasKilled, KillsIn, MayKill, items_beside}
use Rattle.gds_globals.specs.Killing.{MayDrop, name_node}
use Rattle.gds_globals.specs.Node.{name_key}
use Rattle.gds_globals.proofs.NameLemmas.{bare_key}

-- what is killed in the directory
killed_directory : (before after : List ℕ) (d : Tree) (low high : List ℕ) (empty : Bool)
    → HasKilled before after directory_root d low high empty
    → TreeBecomes before after directory_root d.blocks (items_beside low high d.items)
killed_directory before after d low high false has = has.1
killed_directory before after d low high true has =
    subst (TreeBecomes before after directory_root d.blocks) (sym has.0) has.1.becomes

module _ (before mid : List ℕ) (root : ℕ) (d : Tree) (may : MayDrop before d root)
    (recycled : Recycles before mid root) where
  own : Reshapes before mid (root ∷ []) []
  own = free_reshapes before mid root (recycled.frees may.root_busy)

  other : (n : ℕ) → IsTrue (has_block d.blocks n) → has_block (root ∷ []) n ≡ false
  other n there =
      false_from_ne_true _ (λ same.
      let here : IsTrue (has_block d.blocks root) =
      subst (λ k. IsTrue (has_block d.blocks k)) (same_one n root same) there in
      let both : true ≡ false = sym here ∙ may.other in
      absurd (cc))

  more : Reshapes before mid (root ∷ d.blocks) d.blocks
  more = reshapes_with_more before mid (root ∷ []) [] d.blocks own may.busy other

  image : IsImage before
  image = image_of before may.maps

  directory_number : IsTreeNumber (fields_of before).total 1
  directory_number = record {
    positive = omega arith;
    within = omega (arith, image.limits.total_from);
    no_map = λ e. absurd (omega (arith, e));
  }

  -- the directory's blocks
  number : (n : ℕ) → IsTrue (has_block d.blocks n) → IsTreeNumber (fields_of before).total n
  number n there =
      at_has (IsTreeNumber (fields_of before).total) d.blocks n
      (numbered before image (level_at before directory_root) directory_root d directory_number may.stands.sound) there

  number_now : (n : ℕ) → IsTreeNumber (fields_of before).total n → IsTreeNumber (fields_of mid).total n
  number_now n is = record {
    positive = is.positive;
    within = omega (arith, is.within, own.limits.total);
    no_map = is.no_map;
  }

  stays : (n : ℕ) → IsTrue (has_block d.blocks n) → block_of mid n ≡ block_of before n
  stays n there = own.stays n (number n there).no_map (may.busy n there) (other n there)

  pub may_kill_directory : MayKill mid directory_root d
  may_kill_directory = record {
    is_root = record { level = refl; number = number_now 1 directory_number };
    directory = λ e. refl;
    stands = record {
      sound = root_kept before mid own.limits directory_root d may.stands.sound
          (λ n i. kept_equal before mid n own.limits.tn (stays n (in_has d.blocks n i)));
      distinct = may.stands.distinct;
    };
    busy = λ n there.
        own.busy n (number_now n (number n there)).within (number n there).no_map
        ∙ and_from (is_busy before n) _ (may.busy n there) (not_from_false _ (other n there));
    maps = recycled.lawful may.maps;
  }

  pub dropped : (after : List ℕ) (name : List ℕ) (low high : List ℕ) (empty : Bool) → low ≡ name_key name
      → high ≡ past_bytes (name_node name) → KillsIn 1 low high empty mid after
      → TreeBecomes before after directory_root (root ∷ d.blocks) (items_outside (name_node name) d.items)
  dropped after name low high empty low_is high_is kills =
      let key : low ≡ key_bytes (name_node name) = low_is ∙ sym (bare_key name) in
      let has = kills directory_root d refl may_kill_directory in
      let b : TreeBecomes mid after directory_root d.blocks (items_outside (name_node name) d.items) =
      subst (λ k. TreeBecomes mid after directory_root d.blocks (items_beside k (past_bytes (name_node name)) d.items))
      key
      (subst (λ h. TreeBecomes mid after directory_root d.blocks (items_beside low h d.items)) high_is
      (killed_directory mid after d low high empty has)) in
      record {
        tree = b.tree;
        stands = b.stands;
        items_are = b.items_are;
        reshapes = reshapes_compose before mid after (root ∷ d.blocks) d.blocks b.tree.blocks more b.reshapes;
        lawful = b.lawful;
      }
