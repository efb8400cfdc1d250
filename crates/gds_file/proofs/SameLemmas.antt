-- Files that are the same but for blocks that were never used have the same trees and maps.
use Rattle.std.proofs.Common.{◌≡◌, ℕ, ◌+◌, ◌-◌, ◌*◌, ◌/◌, ◌<◌, ◌==◌, ◌%◌, Bool, false, not, ◌&&◌, List, []}
use Rattle.std.proofs.Common.{◌∷◌, length, take, drop, filter, flat_map, refl, sym}
use Rattle.std.proofs.Common.{ap, subst, ◌∙◌, arith, length-take, length-drop}
use Rattle.std.specs.Prelude.{nat_lt, nat_le}
use Rattle.std.specs.List.{range_with_len}
use Rattle.std.proofs.lemmas.Bool.{and_left, and_right, lt-leb, eq-eqb, ne_eqb, not_from_true}
use Rattle.std.proofs.lemmas.List.{ext_get_or, get_or-take, get_or-drop}
use Rattle.std.proofs.lemmas.Nat.{div-mul-add}
use Rattle.gds_block.specs.Block.{version_of, reserved_of, level_of, used_of, tn_of}
use Rattle.gds_block.specs.Item.{Item}
use Rattle.gds_bitmap.specs.Bitmap.{pair_of, is_free_at}
use Rattle.gds_header.specs.Fields.{fields_of, place_of, block_of}
use Rattle.gds_header.specs.Kinds.{groups_of, has_free}
use Rattle.gds_images.specs.Same.{IsSame, is_new_block, is_in_new_block}
use Rattle.gds_law.specs.Visit.{directory_root}
use Rattle.gds_law.specs.Maps.{map_of, is_present, has_free_place, free_blocks, places}
use Rattle.gds_law.proofs.MembershipLemmas.{IsIn, in_left, in_right}
use Rattle.gds_sound.specs.Sound.{Tree, root_of, IsRightMap, IsSound, is_in_use}
use Rattle.gds_sound.proofs.SoundLemmas.{AreTrees, blocks_of, sound, faultless}
use Rattle.gds_sound.proofs.HeaderLemmas.{same_fields, same_header_faults}
use Rattle.gds_file.specs.Reshape.{KeepsLimits}
use Rattle.gds_file.specs.SameLaws.{CarriesOver}
use Rattle.gds_file.proofs.FrameLemmas.{IsKeptIn, root_kept, kept_equal}
use Rattle.gds_file.proofs.UseLemmas.{in_has, busy_block}
use Rattle.gds_file.proofs.ItemLemmas.{items_stood_for, stands_for_items}

-- ---- trees of the entries of a directory whose blocks are kept

pub trees_kept : (a b : List ℕ) → KeepsLimits (fields_of a) (fields_of b) → (items : List Item) (globals : List Tree)
    → AreTrees a items globals → ((n : ℕ) → IsIn (flat_map (λ (t : Tree). t.blocks) globals) n → IsKeptIn a b n)
    → AreTrees b items globals
trees_kept a b limits [] [] zip keep = tt
trees_kept a b limits [] (t ∷ ts) zip keep = absurd zip
trees_kept a b limits (e ∷ es) [] zip keep = absurd zip
trees_kept a b limits (e ∷ es) (t ∷ ts) zip keep = (
  root_kept a b limits (root_of e) t zip.0
      (λ n i. keep n (in_left t.blocks (flat_map (λ (w : Tree). w.blocks) ts) n i)),
  trees_kept a b limits es ts zip.1 (λ n i. keep n (in_right t.blocks (flat_map (λ (w : Tree). w.blocks) ts) n i)),
)

-- ---- maps that are the same

module _ (a b : List ℕ) (fields : fields_of b ≡ fields_of a)
    (maps : (group : ℕ) → map_of b group ≡ map_of a group) where
  pub has_free_same : (group : ℕ) → has_free_place b group ≡ has_free_place a group
  has_free_same group =
      λ i. nat_lt 0 (length (filter (λ k. is_present (fields i) group k && is_free_at (maps group i) k) places))

  pub free_same : free_blocks b ≡ free_blocks a
  unfolding free_blocks
  free_same =
      λ i. length (flat_map (λ group. filter (λ k. is_present (fields i) group k && is_free_at (maps group i) k) places)
      (range_with_len 0 (groups_of (fields i))))

  pub map_same : (used : ℕ → Bool) (group : ℕ) → IsRightMap a used group → IsRightMap b used group
  map_same used group r = record {
    version = ap version_of (maps group) ∙ r.version;
    reserved = ap reserved_of (maps group) ∙ r.reserved;
    level = ap level_of (maps group) ∙ r.level;
    size = ap used_of (maps group) ∙ r.size;
    tn = omega (arith, r.tn, ap tn_of (maps group), ap (λ h. h.tn) fields);
    pairs = λ k low. record {
      busy = λ p u. ap (λ m. pair_of m k) (maps group)
          ∙ (r.pairs k low).busy (sym (ap (λ h. is_present h group k) fields) ∙ p) u;
      free = λ p u. ap (λ m. is_free_at m k) (maps group)
          ∙ (r.pairs k low).free (sym (ap (λ h. is_present h group k) fields) ∙ p) u;
      past = λ p. ap (λ m. pair_of m k) (maps group)
          ∙ (r.pairs k low).past (sym (ap (λ h. is_present h group k) fields) ∙ p);
    };
    master = ap (λ h. has_free h group) fields ∙ r.master ∙ sym (has_free_same group);
  }

-- ---- files that are the same

module _ (a b : List ℕ) (same : IsSame a b) where
  front_same : take 8192 a ≡ take 8192 b
  unfolding is_in_new_block
  front_same =
      ext_get_or 0 (take 8192 a) (take 8192 b)
      (omega (arith, length-take 8192 a, length-take 8192 b, same.len)) (λ i low.
      let front : i < 8192 = omega (arith, low, length-take 8192 a) in
      let inside : i < length a = omega (arith, low, length-take 8192 a) in
      get_or-take 8192 a i 0 front ∙ same.bytes i inside (and_left (nat_le 8192 i) _ (lt-leb 8192 i front))
      ∙ sym (get_or-take 8192 b i 0 front))

  fields_same : fields_of b ≡ fields_of a
  fields_same = sym (same_fields a b front_same)

  -- a byte of a block
  byte_at : (n j size : ℕ) → j < size → size ≡ (fields_of a).block_size → is_new_block a n ≡ false
      → is_in_new_block a (8192 + n * size + j) ≡ false
  unfolding is_in_new_block
  byte_at n j size low e h =
      let inside : 8192 + n * size + j - 8192 ≡ n * size + j = omega arith in
      let number : (8192 + n * size + j - 8192) / (fields_of a).block_size ≡ n =
      ap (λ i. i / (fields_of a).block_size) inside ∙ ap (λ k. (n * size + j) / k) (sym e) ∙ div-mul-add n size j low in
      and_right (nat_le 8192 (8192 + n * size + j)) _ (ap (is_new_block a) number ∙ h)

  block_same : (n : ℕ) → is_new_block a n ≡ false → block_of b n ≡ block_of a n
  block_same n h =
      let size : ℕ = (fields_of a).block_size in
      let place : ℕ = place_of (fields_of a) n in
      let read : take (fields_of b).block_size (drop (place_of (fields_of b) n) b) ≡ take size (drop place b) =
      ap (λ g. take g.block_size (drop (place_of g n) b)) fields_same in
      read ∙ ext_get_or 0 (take size (drop place b)) (take size (drop place a))
      (omega (
        arith,
        length-take size (drop place b),
        length-take size (drop place a),
        length-drop place b,
        length-drop place a,
        same.len,
      )) (λ j low.
      let within : j < size = omega (arith, low, length-take size (drop place b)) in
      let inside : place + j < length a =
      omega (arith, low, length-take size (drop place b), length-drop place b, same.len) in
      get_or-take size (drop place b) j 0 within ∙ get_or-drop place b j 0
      ∙ sym (same.bytes (place + j) inside (byte_at n j size within refl h))
      ∙ sym (get_or-drop place a j 0) ∙ sym (get_or-take size (drop place a) j 0 within))

  maps_same : (group : ℕ) → map_of b group ≡ map_of a group
  maps_same group =
      let multiple : 512 * group % 512 ≡ 0 = omega arith in
      block_same (512 * group) (and_left _ _ (not_from_true _ (eq-eqb (512 * group % 512) 0 multiple)))

  limits_same : KeepsLimits (fields_of a) (fields_of b)
  limits_same = record {
    block_size = ap (λ h. h.block_size) fields_same;
    key_max = ap (λ h. h.key_max) fields_same;
    value_max = ap (λ h. h.value_max) fields_same;
    total = omega (arith, ap (λ h. h.total) fields_same);
    tn = omega (arith, ap (λ h. h.tn) fields_same);
  }

  module _ (directory : Tree) (globals : List Tree) (s : IsSound a directory globals) where
    in_trees : (n : ℕ) → IsIn (blocks_of directory globals) n → IsKeptIn a b n
    in_trees n i =
        let busy = busy_block a directory globals s n (in_has (blocks_of directory globals) n i) in
        kept_equal a b n limits_same.tn (block_same n (and_right (not (n % 512 == 0)) _
        (ne_eqb (pair_of (map_of a (n / 512)) (n % 512)) 1 (λ e. omega (arith, e, busy)))))

    pub sound_same : IsSound b directory globals
    sound_same =
        let others : List ℕ = flat_map (λ (t : Tree). t.blocks) globals in
        record {
          header = sym (same_header_faults a b same.len front_same) ∙ s.header;
          directory_tree = root_kept a b limits_same directory_root directory s.directory_tree
              (λ n i. in_trees n (in_left directory.blocks others n i));
          global_trees = trees_kept a b limits_same directory.items globals s.global_trees
              (λ n i. in_trees n (in_right directory.blocks others n i));
          distinct = s.distinct;
          maps = λ group low. map_same a b fields_same maps_same (is_in_use (blocks_of directory globals)) group
              (s.maps group (subst (λ h. group < groups_of h) fields_same low));
          count = ap (λ h. h.free) fields_same ∙ s.count ∙ sym (free_same a b fields_same maps_same);
        }

  pub same_carries_over : CarriesOver a b
  same_carries_over = record {
    faultless = λ none.
        let s = sound a none in
        faultless b s.0 s.1 (sound_same s.0 s.1 s.2);
    sound = sound_same;
    stands = λ m st.
        let s = sound a st.faultless in
        stands_for_items b s.0 s.1 m (sound_same s.0 s.1 s.2) (items_stood_for a s.0 s.1 m s.2 st);
  }
