-- A new database is sound, and stands for the map without nodes.
use Rattle.std.proofs.Common.{◌≡◌, ℕ, ◌+◌, ◌-◌, ◌*◌, ◌<◌, ◌==◌, ◌/◌, ◌%◌, Bool, true, false, not, ◌&&◌}
use Rattle.std.proofs.Common.{List, [], ◌∷◌, ◌++◌, length, map, flat_map, Some, inl, inr, refl, sym, ap, subst, ◌∙◌}
use Rattle.std.proofs.Common.{◌≤◌, ◌^◌, arith, lit<, lit≤, append_assoc, min}
use Rattle.std.specs.Prelude.{nat_eq, nat_lt}
use Rattle.std.specs.List.{IsDistinct, starts_with, list_any, range_with_len}
use Rattle.std.specs.FinMap.{empty, entries, len-entries, len-empty}
use Rattle.std.proofs.lemmas.Bool.{cond-true, eq-eqb, cases_eq, lt-ltb, le-ltb, lt-leb, ltb-true, ltb_from_iff}
use Rattle.std.proofs.lemmas.List.{nil_from_length}
use Rattle.gds_block.specs.Block.{head_bytes, HasHead, version_of, reserved_of, level_of, used_of, tn_of}
use Rattle.gds_block.proofs.HeadLemmas.{HasHead-head_bytes}
use Rattle.gds_bitmap.specs.State.{state_from, is_free}
use Rattle.gds_bitmap.specs.Pairs.{count_below}
use Rattle.gds_bitmap.specs.Bitmap.{pair_of, is_free_at}
use Rattle.gds_header.specs.declared.header.Header.{Header}
use Rattle.gds_header.specs.Fields.{label, zeros, fields_of, header_bytes, block_of}
use Rattle.gds_header.specs.Kinds.{IsWithinLimits, header_faults, groups_of, has_free, groups_past, reserved_bytes}
use Rattle.gds_header.proofs.EndingLemmas.{reserved_bytes-front}
use Rattle.gds_law.specs.Maps.{map_of, is_present, free_places, has_free_place, free_blocks}
use Rattle.gds_law.specs.Visit.{directory_root}
use Rattle.gds_sound.specs.Sound.{is_in_use, tree_at, IsRightPair, IsRightMap, IsSound}
use Rattle.gds_sound.specs.Stands.{StandsFor}
use Rattle.gds_sound.proofs.PairLemmas.{item_of, readings_agree}
use Rattle.m_key.specs.Globals.{place_cmp}
use Rattle.gds_sound.proofs.HeaderLemmas.{right_header}
use Rattle.gds_new.specs.NewDatabase.{starts_free, group_starts_free, pairs_bytes, new_header, new_map}
use Rattle.gds_new.specs.NewDatabase.{new_root, new_leaf, new_block, new_database}
use Rattle.gds_new.proofs.HeaderLemmas.{new_limits, length-first_master}
use Rattle.gds_new.proofs.ReservedLemmas.{reserved_none}
use Rattle.gds_new.proofs.MasterLemmas.{has_free-new, none_past, first_place}
use Rattle.gds_new.proofs.CountLemmas.{kept, kept_of_all, counted}
use Rattle.gds_new.proofs.FreeLemmas.{free_is_present}
use Rattle.gds_new.proofs.MapLemmas.{pair_of-new_map, busy_code, free_code, past_code, state_is_free}
use Rattle.gds_new.specs.Laws.{empty_directory}
use Rattle.gds_new.proofs.BytesLemmas.{bytes_read}
use Rattle.gds_new.proofs.DirectoryLemmas.{directory_sound}
use Rattle.gds_new.proofs.ReadLemmas.{front_read, fields_read, block_read, whole_read, length_read}

same_test : (a b c d : ℕ) → (a < b → c < d) → (c < d → a < b) → nat_lt a b ≡ nat_lt c d
same_test a b c d to from = ltb_from_iff (λ e. to (ltb-true a b e), λ l. lt-ltb a b (from l))

no_entries : map item_of (entries {R = place_cmp} empty) ≡ []
no_entries =
    ap (map item_of)
    (nil_from_length (entries {R = place_cmp} empty) (sym (len-entries empty) ∙ len-empty place_cmp (List ℕ)))

two_blocks : IsDistinct nat_eq (1 ∷ 2 ∷ [])
unfolding IsDistinct
two_blocks = ((refl, tt), (tt, tt))

module _ (h : Header) (limits : IsWithinLimits h) where
  abbrev image : List ℕ
  image = new_database h

  total_read : (fields_of image).total ≡ h.total
  unfolding new_header
  total_read = ap (λ g. g.total) (fields_read h limits)

  first_tn : (1 ≤ (new_header h).tn) × ((new_header h).tn ≤ 2 ^ 63)
  unfolding new_header
  first_tn = (lit≤ tt, lit≤ tt)

  tn_read : (1 ≤ (fields_of image).tn) × ((fields_of image).tn ≤ 2 ^ 63)
  tn_read = subst (λ (g : Header). (1 ≤ g.tn) × (g.tn ≤ 2 ^ 63)) (sym (fields_read h limits)) first_tn

  -- ---- the header

  labelled : starts_with nat_eq image label ≡ true
  unfolding new_database header_bytes
  labelled = refl

  no_reserved : list_any (λ b. not (b == 0)) (reserved_bytes image) ≡ false
  unfolding new_header
  no_reserved =
      ap (list_any (λ b. not (b == 0)))
      (sym (reserved_bytes-front 8192 image (omega arith)) ∙ ap reserved_bytes (front_read h limits))
      ∙ reserved_none (new_header h) (length-first_master h)

  pub header_right : header_faults image ≡ []
  header_right = right_header image (record {
    long = omega (arith, length_read h limits);
    labelled = labelled;
    limits = subst IsWithinLimits (sym (fields_read h limits)) (new_limits h limits);
    len = sym (whole_read h limits);
    reserved = no_reserved;
    past = subst (λ g. list_any (has_free g) (groups_past g) ≡ false) (sym (fields_read h limits))
        (none_past h limits.total_from (omega arith));
    some = tn_read.0;
    small = tn_read.1;
  })

  -- ---- the maps

  group_inside : (group : ℕ) → group < groups_of (fields_of image) → group < groups_of h
  group_inside group low = subst (λ (n : ℕ). group < (n + 511) / 512) total_read low

  map_is : (group : ℕ) → new_block h (512 * group) ≡ new_map h group
  unfolding new_block
  map_is group =
      let first : 512 * group % 512 ≡ 0 = omega arith in
      let own : 512 * group / 512 ≡ group = omega arith in
      cond-true (512 * group % 512 == 0) _ _ (eq-eqb (512 * group % 512) 0 first) ∙ ap (new_map h) own

  map_read : (group : ℕ) → group < groups_of h → map_of image group ≡ new_map h group
  map_read group low = block_read h limits (512 * group) (omega arith) ∙ map_is group

  pub map_head : (group : ℕ) → HasHead (new_map h group) 255 144 0
  unfolding new_map
  map_head group =
      subst (λ xs. HasHead xs 255 144 0)
      (sym (append_assoc (head_bytes 255 144 0) (pairs_bytes h group) (zeros (h.block_size - 144))))
      (HasHead-head_bytes 255 144 0 (pairs_bytes h group ++ zeros (h.block_size - 144)) (lit< tt) (lit< tt))

  present_read : (group k : ℕ) (b : Bool) → is_present (fields_of image) group k ≡ b
      → nat_lt (512 * group + k) h.total ≡ b
  present_read group k b present = sym (ap (λ n. nat_lt (512 * group + k) n) total_read) ∙ present

  pub pair_right : (group k : ℕ) → group < groups_of h → k < 512 → IsRightPair image (is_in_use (1 ∷ 2 ∷ [])) group k
  pair_right group k inside low =
      let pair = ap (λ m. pair_of m k) (map_read group inside) ∙ pair_of-new_map h group k low in
      record {
        busy = λ present used. pair ∙ busy_code h (512 * group + k) used;
        free = λ present unused. ap (λ n. is_free (state_from n)) pair
            ∙ free_code h (512 * group + k) (present_read group k true present) unused;
        past = λ past. pair ∙ past_code h (512 * group + k) (present_read group k false past);
      }

  -- ---- how many blocks are free

  free_at : (group k : ℕ) → group < groups_of h → k < 512
      → (is_present (fields_of image) group k && is_free_at (map_of image group) k) ≡ starts_free h (512 * group + k)
  free_at group k inside low =
      let pair = ap (λ m. pair_of m k) (map_read group inside) ∙ pair_of-new_map h group k low in
      (λ i. nat_lt (512 * group + k) (total_read i)
      && (ap (λ n. is_free (state_from n)) pair ∙ state_is_free h (512 * group + k)) i)
      ∙ free_is_present h (512 * group + k)

  pub group_kept : (group : ℕ) → group < groups_of h
      → length (free_places image group) + count_below (starts_free h) (512 * group)
      ≡ count_below (starts_free h) (512 * (group + 1))
  group_kept group inside =
      let none : 512 * group + 0 ≡ 512 * group = omega arith in
      let next : 512 * group + (0 + 512) ≡ 512 * (group + 1) = omega arith in
      omega (
        arith,
        kept (starts_free h) (λ k. is_present (fields_of image) group k && is_free_at (map_of image group) k)
            (512 * group) 0 512 (λ k low. free_at group k inside (omega arith)),
        ap (count_below (starts_free h)) none,
        ap (count_below (starts_free h)) next,
      )

  pub free_count : (fields_of image).free ≡ free_blocks image
  unfolding free_blocks new_header
  free_count =
      let all = kept_of_all (starts_free h) (free_places image) 512 0 (groups_of h)
      (λ group low. group_kept group (omega (arith, low))) in
      let groups : groups_of h ≡ groups_of (fields_of image) = ap (λ n. (n + 511) / 512) (sym total_read) in
      let end : 512 * (0 + groups_of h) ≡ 512 * groups_of h = omega arith in
      let least : min (512 * groups_of h) h.total ≡ h.total = omega arith in
      let count : count_below (starts_free h) (512 * groups_of h) + 2 + (h.total + 511) / 512 ≡ h.total =
      subst (λ (m : ℕ). count_below (starts_free h) (512 * groups_of h) + 2 + (m + 511) / 512 ≡ m) least
      (counted h (512 * groups_of h) (omega arith) limits.total_from) in
      ap (λ g. g.free) (fields_read h limits)
      ∙ omega (arith, all, ap (count_below (starts_free h)) end, count)
      ∙ ap (λ n. length (flat_map (free_places image) (range_with_len 0 n))) groups

  -- ---- each group's map

  some_free : (group : ℕ) → group < groups_of h → has_free_place image group ≡ group_starts_free h group
  some_free group inside =
      let len : ℕ = length (free_places image group) in
      let all = group_kept group inside in
      let end = counted h (512 * (group + 1)) (omega arith) limits.total_from in
      elim (cases_eq group 0) [
        | inl first ↦
            let none : count_below (starts_free h) (512 * group) ≡ 0 =
            ap (λ g. count_below (starts_free h) (512 * g)) first in
            same_test 0 len 3 h.total (λ l. omega (arith, all, end, none, first))
            (λ l. omega (arith, all, end, none, first))
            ∙ sym (ap (group_starts_free h) first)
        | inr later ↦
            let start = counted h (512 * group) (omega arith) limits.total_from in
            same_test 0 len (512 * group + 1) h.total (λ l. omega (arith, all, end, start, inside))
            (λ l. omega (arith, all, end, start, inside))
            ∙ sym (ap (λ n. nat_lt n h.total) (first_place h group (omega arith)))
      ]

  pub map_right : (group : ℕ) → group < groups_of (fields_of image)
      → IsRightMap image (is_in_use (1 ∷ 2 ∷ [])) group
  map_right group low =
      let inside = group_inside group low in
      let read = map_read group inside in
      let head = map_head group in
      record {
        version = ap version_of read ∙ head.version;
        reserved = ap reserved_of read ∙ head.reserved;
        level = ap level_of read ∙ head.level;
        size = ap used_of read ∙ head.used;
        tn = omega (arith, ap tn_of read, head.tn, tn_read.0);
        pairs = λ k within. pair_right group k inside within;
        master = ap (λ g. has_free g group) (fields_read h limits) ∙ has_free-new h group (omega (arith, inside))
            ∙ sym (some_free group inside);
      }

  -- ---- the directory, and the whole

  root_read : block_of image 1 ≡ new_root h
  unfolding new_block
  root_read = block_read h limits 1 (omega arith)

  leaf_read : block_of image 2 ≡ new_leaf h
  unfolding new_block
  leaf_read = block_read h limits 2 (omega arith)

  size_read : (fields_of image).block_size ≡ h.block_size
  unfolding new_header
  size_read = ap (λ g. g.block_size) (fields_read h limits)

  tree_read : tree_at image directory_root ≡ Some empty_directory
  tree_read =
      directory_sound image h root_read leaf_read
      (le-ltb (fields_of image).block_size 24 (omega (arith, size_read)))
      (le-ltb (fields_of image).block_size 16 (omega (arith, size_read)))
      (lt-leb (fields_of image).total 2 (omega (arith, total_read)))
      (lt-ltb 2 (fields_of image).total (omega (arith, total_read)))
      (lt-leb (fields_of image).tn 0 (omega (arith, tn_read.0)))

  pub sound_read : IsSound image empty_directory []
  sound_read = record {
    header = header_right;
    directory_tree = tree_read;
    global_trees = tt;
    distinct = two_blocks;
    maps = map_right;
    count = free_count;
  }

  pub stands_read : StandsFor image empty
  stands_read = ((readings_agree image).pairs (bytes_read h) empty_directory [] empty sound_read).1 no_entries
