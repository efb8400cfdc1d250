-- The transaction numbers of a commit change no tree.
use Rattle.std.proofs.Common.{◌≡◌, ℕ, ◌+◌, ◌-◌, ◌*◌, ◌/◌, ◌^◌, ◌<◌, ◌≤◌, ◌%◌, Bool, false, ◌&&◌, ◌⊎◌, List}
use Rattle.std.proofs.Common.{[], ◌∷◌, ◌++◌, length, take, drop, filter, flat_map, get_or, inl, inr, refl, sym, ap}
use Rattle.std.proofs.Common.{subst, ◌∙◌, arith}
use Rattle.std.specs.Prelude.{nat_eq, nat_lt, slice_index}
use Rattle.std.specs.List.{starts_with, range_with_len}
use Rattle.std.specs.Cmp.Lexicographic.{pointwise}
use Rattle.std.proofs.lemmas.Bool.{or_from, ne_eqb, le-ltb}
use Rattle.std.proofs.lemmas.List.{length-take-le, take_at, drop_at, drop-drop, get_or-take, get_or-drop}
use Rattle.std.proofs.lemmas.Slice.{between_is}
use Rattle.gds_block.specs.Fields.{u16_at, u32_at, u64_bytes}
use Rattle.gds_block.specs.Block.{version_of, reserved_of, level_of, used_of, tn_of}
use Rattle.gds_block.specs.Record.{bytes_left}
use Rattle.gds_block.proofs.FieldLemmas.{u16_at-front, u32_at-front, u64_at-here, length-u64_bytes}
use Rattle.gds_bitmap.specs.State.{state_from, is_free}
use Rattle.gds_bitmap.specs.Bitmap.{pair_of}
use Rattle.gds_bitmap.specs.Pairs.{pair_in}
use Rattle.gds_header.specs.declared.header.Header.{Header}
use Rattle.gds_header.specs.declared.kind.HeaderKind.{HeaderKind}
use Rattle.gds_header.specs.declared.kind.HeaderKind.TheVariants.{BadTransactionNumber}
use Rattle.gds_header.specs.Fields.{label, fields_of, block_of}
use Rattle.gds_header.specs.Kinds.{kinds, header_faults, groups_of, has_free, reserved_bytes, holds}
use Rattle.gds_law.specs.Visit.{directory_root}
use Rattle.gds_law.specs.Maps.{map_of, is_present, free_places, free_blocks, places}
use Rattle.gds_law.proofs.MembershipLemmas.{IsIn, in_left, in_right}
use Rattle.gds_sound.specs.Sound.{Tree, IsRightMap, IsSound, is_in_use}
use Rattle.gds_sound.proofs.MapLemmas.{range_in}
use Rattle.gds_sound.proofs.SoundLemmas.{blocks_of}
use Rattle.gds_sound.proofs.HeaderLemmas.{held, holds-held, none_of_header, header_of_none, limits_of}
use Rattle.gds_sound.proofs.HeaderLemmas.{block_whole}
use Rattle.gds_file.specs.Reshape.{KeepsLimits}
use Rattle.gds_file.specs.Stamp.{with_number, IsStamped}
use Rattle.gds_file.specs.FileLaws.{StampKeepsTrees}
use Rattle.gds_file.proofs.FrameLemmas.{IsLike, IsKeptIn, root_kept}
use Rattle.gds_file.proofs.UseLemmas.{in_has, proper_block}
use Rattle.gds_file.proofs.SameLemmas.{trees_kept}

-- ---- a block with another transaction number

module _ (tn : ℕ) (x : List ℕ) (long : 16 ≤ length x) where
  front_long : length (take 8 x) ≡ 8
  front_long = length-take-le 8 x (omega (arith, long))

  front_stays : take 8 (with_number tn x) ≡ take 8 x
  front_stays = take_at (take 8 x) (u64_bytes tn ++ drop (8 + length (u64_bytes tn)) x) 8 front_long

  number_there : drop 8 (with_number tn x) ≡ u64_bytes tn ++ drop 16 x
  number_there =
      drop_at (take 8 x) (u64_bytes tn ++ drop (8 + length (u64_bytes tn)) x) 8 front_long
      ∙ ap (λ n. u64_bytes tn ++ drop (8 + n) x) (length-u64_bytes tn)

  rest_stays : drop 16 (with_number tn x) ≡ drop 16 x
  rest_stays =
      sym (drop-drop 8 8 (with_number tn x)) ∙ ap (drop 8) number_there
      ∙ drop_at (u64_bytes tn) (drop 16 x) 8 (length-u64_bytes tn)

  byte_stays : (i : ℕ) → i < 8 → slice_index (with_number tn x) i ≡ slice_index x i
  byte_stays i low =
      sym (get_or-take 8 (with_number tn x) i 0 low) ∙ ap (λ l. get_or l i 0) front_stays ∙ get_or-take 8 x i 0 low

  used_stays : used_of (with_number tn x) ≡ used_of x
  used_stays =
      sym (u32_at-front 8 (with_number tn x) 4 (omega arith)) ∙ ap (λ l. u32_at l 4) front_stays
      ∙ u32_at-front 8 x 4 (omega arith)

  version_stays : version_of (with_number tn x) ≡ version_of x
  version_stays =
      sym (u16_at-front 8 (with_number tn x) 0 (omega arith)) ∙ ap (λ l. u16_at l 0) front_stays
      ∙ u16_at-front 8 x 0 (omega arith)

  pub number_like : IsLike x (with_number tn x)
  number_like = record {
    version = version_stays;
    reserved = byte_stays 2 (omega arith);
    level = byte_stays 3 (omega arith);
    used = used_stays;
    left = sym (between_is (with_number tn x) 16 (used_of (with_number tn x)))
        ∙ (λ i. take (used_stays i - 16) (rest_stays i)) ∙ between_is x 16 (used_of x);
  }

  pub number_reads : tn < 2 ^ 64 → tn_of (with_number tn x) ≡ tn
  number_reads small = u64_at-here (with_number tn x) (drop 16 x) 8 tn small number_there

  pub pair_stays : (k : ℕ) → pair_of (with_number tn x) k ≡ pair_of x k
  pair_stays k =
      ap (λ byte. pair_in byte (k % 4))
      (sym (get_or-drop 16 (with_number tn x) (k / 4) 0) ∙ ap (λ l. get_or l (k / 4) 0) rest_stays
      ∙ get_or-drop 16 x (k / 4) 0)

-- ---- two blocks of a draft and of the file that the commit makes of it

record IsStampOf (tn : ℕ) (x y : List ℕ) : Type 0 where
  like : IsLike x y
  number : tn_of x < tn → tn_of y < tn + 1
  pairs : (k : ℕ) → pair_of y k ≡ pair_of x k

stamp_of : (tn : ℕ) (x y : List ℕ) → 16 ≤ length x → tn < 2 ^ 63 → (y ≡ x) ⊎ (y ≡ with_number tn x)
    → IsStampOf tn x y
stamp_of tn x y long small (inl e) = record {
  like = record {
    version = ap version_of e;
    reserved = ap reserved_of e;
    level = ap level_of e;
    used = ap used_of e;
    left = ap (λ l. bytes_left l 16) e;
  };
  number = λ low. omega (arith, low, ap tn_of e);
  pairs = λ k. ap (λ l. pair_of l k) e;
}
stamp_of tn x y long small (inr e) = subst (IsStampOf tn x) (sym e) (record {
  like = number_like tn x long;
  number = λ low. omega (arith, number_reads tn x long (omega (arith, small)));
  pairs = pair_stays tn x long;
})

-- lists that a function makes of equal parts
flat_map_same : {A B : Type 0} (f g : A → List B) (xs : List A) → ((x : A) → IsIn xs x → f x ≡ g x)
    → flat_map f xs ≡ flat_map g xs
flat_map_same f g [] h = refl
flat_map_same f g (x ∷ xs) h = λ i. h x (inl refl) i ++ flat_map_same f g xs (λ y j. h y (inr j)) i

module _ (draft file : List ℕ) (directory : Tree) (globals : List Tree) (s : IsSound draft directory globals)
    (stamped : IsStamped draft file) (small : (fields_of draft).tn < 2 ^ 63) where
  abbrev h : Header
  h = fields_of draft

  limits_kept : KeepsLimits (fields_of draft) (fields_of file)
  limits_kept = record {
    block_size = ap (λ g. g.block_size) stamped.fields;
    key_max = ap (λ g. g.key_max) stamped.fields;
    value_max = ap (λ g. g.value_max) stamped.fields;
    total = omega (arith, ap (λ g. g.total) stamped.fields);
    tn = omega (arith, ap (λ g. g.tn) stamped.fields);
  }

  -- a block has its whole length
  block_long : (n : ℕ) → n < (fields_of draft).total → 16 ≤ length (block_of draft n)
  block_long n low =
      omega (arith, block_whole draft n s.header low, (limits_of draft s.header).block_from)

  stamp_at : (n : ℕ) → n < (fields_of draft).total → IsStampOf (fields_of draft).tn (block_of draft n) (block_of file n)
  stamp_at n low =
      stamp_of (fields_of draft).tn (block_of draft n) (block_of file n) (block_long n low) small (stamped.blocks n low)

  next_number : (fields_of file).tn ≡ (fields_of draft).tn + 1
  next_number = ap (λ g. g.tn) stamped.fields

  total_stays : (fields_of file).total ≡ (fields_of draft).total
  total_stays = ap (λ g. g.total) stamped.fields

  stamp_kept : (n : ℕ) → IsIn (blocks_of directory globals) n → IsKeptIn draft file n
  stamp_kept n i =
      let proper = proper_block draft directory globals s n (in_has (blocks_of directory globals) n i) in
      let stamp = stamp_at n proper.within in
      record { like = stamp.like; number = λ low. omega (arith, stamp.number low, next_number) }

  -- ---- the header

  header_right : header_faults file ≡ []
  header_right = header_of_none file none
    where
      labels : starts_with nat_eq file label ≡ starts_with nat_eq draft label
      labels = ap (pointwise nat_eq label) stamped.label

      by : (kind : HeaderKind)
          → held (length draft) (starts_with nat_eq draft label) (fields_of draft) (reserved_bytes draft) kind ≡ false
          → held (length draft) (starts_with nat_eq draft label) (record (fields_of draft) {
            tn = (fields_of draft).tn + 1;
          }) (reserved_bytes draft) kind
          ≡ false
      by BadTransactionNumber e =
          or_from _ _ (ne_eqb ((fields_of draft).tn + 1) 0 (λ z. omega (arith, z)))
          (le-ltb (2 ^ 63) ((fields_of draft).tn + 1) (omega (arith, small)))
      by kind e = e

      none : (kind : HeaderKind) → IsIn kinds kind → holds file kind ≡ false
      none kind i =
          holds-held file kind
          ∙ (λ j. held (stamped.len j) (labels j) (stamped.fields j) (stamped.reserved j) kind)
          ∙ by kind (sym (holds-held draft kind) ∙ none_of_header draft s.header kind i)

  -- ---- the maps

  stamp_map : (group : ℕ) → group < groups_of (fields_of draft)
      → IsStampOf (fields_of draft).tn (map_of draft group) (map_of file group)
  stamp_map group low = stamp_at (512 * group) (omega (arith, low))

  free_places_same : (group : ℕ) → group < groups_of (fields_of draft)
      → free_places file group ≡ free_places draft group
  free_places_same group low =
      let stamp = stamp_map group low in
      λ i. filter (λ k. is_present (stamped.fields i) group k && is_free (state_from (stamp.pairs k i))) places

  free_same : free_blocks file ≡ free_blocks draft
  unfolding free_blocks
  free_same =
      ap (λ g. length (flat_map (free_places file) (range_with_len 0 (groups_of g)))) stamped.fields
      ∙ ap length (flat_map_same (free_places file) (free_places draft) (range_with_len 0 (groups_of (fields_of draft)))
      (λ group i. free_places_same group (omega (arith, range_in (groups_of (fields_of draft)) 0 group i))))

  map_right : (used : ℕ → Bool) (group : ℕ) → group < groups_of (fields_of draft) → IsRightMap draft used group
      → IsRightMap file used group
  map_right used group low r =
      let stamp = stamp_map group low in
      record {
        version = stamp.like.version ∙ r.version;
        reserved = stamp.like.reserved ∙ r.reserved;
        level = stamp.like.level ∙ r.level;
        size = stamp.like.used ∙ r.size;
        tn = omega (arith, stamp.number r.tn, next_number);
        pairs = λ k inside. record {
          busy = λ p u. stamp.pairs k
              ∙ (r.pairs k inside).busy (sym (ap (λ g. is_present g group k) stamped.fields) ∙ p) u;
          free = λ p u. ap (λ pair. is_free (state_from pair)) (stamp.pairs k)
              ∙ (r.pairs k inside).free (sym (ap (λ g. is_present g group k) stamped.fields) ∙ p) u;
          past = λ p. stamp.pairs k
              ∙ (r.pairs k inside).past (sym (ap (λ g. is_present g group k) stamped.fields) ∙ p);
        };
        master = ap (λ g. has_free g group) stamped.fields ∙ r.master
            ∙ sym (ap (λ l. nat_lt 0 (length l)) (free_places_same group low));
      }

  pub stamp_sound : IsSound file directory globals
  stamp_sound =
      let others : List ℕ = flat_map (λ (t : Tree). t.blocks) globals in
      record {
        header = header_right;
        directory_tree = root_kept draft file limits_kept directory_root directory s.directory_tree
            (λ n i. stamp_kept n (in_left directory.blocks others n i));
        global_trees = trees_kept draft file limits_kept directory.items globals s.global_trees
            (λ n i. stamp_kept n (in_right directory.blocks others n i));
        distinct = s.distinct;
        maps = λ group low.
            let inside : group < groups_of (fields_of draft) = subst (λ g. group < groups_of g) stamped.fields low in
            map_right (is_in_use (blocks_of directory globals)) group inside (s.maps group inside);
        count = ap (λ g. g.free) stamped.fields ∙ s.count ∙ sym free_same;
      }

pub stamp_keeps_trees : StampKeepsTrees
stamp_keeps_trees = stamp_sound
