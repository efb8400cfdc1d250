-- A sound tree whose blocks get other numbers.
use Rattle.std.proofs.Common.{◌≡◌, ℕ, zero, suc, ◌+◌, ◌^◌, ◌<◌, ◌≤◌, ◌==◌, List, [], ◌∷◌, ◌++◌, length}
use Rattle.std.proofs.Common.{map, Option, Some, option_map, if◌then◌else◌, refl, sym, ap, subst, ◌∙◌, arith}
use Rattle.std.proofs.Common.{append-nil}
use Rattle.std.specs.Prelude.{All}
use Rattle.std.specs.List.{AllByRecursion}
use Rattle.std.proofs.lemmas.Bool.{cond_both}
use Rattle.std.proofs.lemmas.List.{map-append}
use Rattle.std.proofs.lemmas.List.Elements.{All-from_recursion, recursion_from_All}
use Rattle.gds_block.specs.Block.{level_of}
use Rattle.gds_block.specs.Fields.{u32_at, u32_bytes}
use Rattle.gds_block.specs.Item.{Item}
use Rattle.gds_block.proofs.FieldLemmas.{length-u32_bytes, u32_at-here}
use Rattle.gds_header.specs.Fields.{fields_of, block_of}
use Rattle.gds_law.specs.Visit.{TreeRole, directory, global, Visit}
use Rattle.gds_pack.specs.Packed.{records_size, packed_size}
use Rattle.gds_pack.specs.Packable.{IsNext, AreLeaves, AreIndex, ArePackable}
use Rattle.gds_sound.specs.Sound.{Tree, joined, sound_tree}
use Rattle.gds_tree.specs.Lawful.{IsTreeNumber, IsPointer, IsLawfulRest, IsLawfulKey, IsLawfulEntry, IsLawful}
use Rattle.gds_tree.specs.RightBlock.{IsDueLevel}
use Rattle.gds_tree.specs.Below.{high_below, visit_below, trees_below, HasEntries}
use Rattle.gds_tree.specs.Keeps.{IsImage, KeepsSizes}
use Rattle.gds_tree.specs.Renumber.{exchanged, renumbered, renumbered_entries, renumbered_visit, renumbered_tree}
use Rattle.gds_tree.specs.Renumber.{IsRenumbered, KeepsNumbers}
use Rattle.gds_tree.proofs.BelowLemmas.{all_left, all_right, both_parts, some_both}
use Rattle.gds_tree.proofs.KeepLemmas.{pointers}
use Rattle.gds_tree.proofs.JoinLemmas.{elsewhere}
use Rattle.gds_tree.proofs.PartLemmas.{lawful_index}
use Rattle.gds_tree.proofs.TreeByLemmas.{leaf_by, index_by, by_leaf, by_index}

-- ---- one pointer

pub pointer_read : (n : ℕ) → n < 2 ^ 32 → u32_at (u32_bytes n) 0 ≡ n
pointer_read n low = u32_at-here (u32_bytes n) [] 0 n low (sym (append-nil (u32_bytes n)))

module _ (old new : List ℕ) (number : ℕ → ℕ) (i : IsImage old) (j : IsImage new) (sizes : KeepsSizes old new)
    (numbers : KeepsNumbers (fields_of old).total (fields_of new).total number) where
  small : (n : ℕ) → IsTreeNumber (fields_of new).total n → n < 2 ^ 32
  small n k = let a = k.within in let b = j.limits.total_to in let c = j.limits.limit_to in omega arith

  leads : (rest : List ℕ) → IsPointer (fields_of old) rest
      → u32_at (u32_bytes (number (u32_at rest 0))) 0 ≡ number (u32_at rest 0)
  leads rest p = pointer_read (number (u32_at rest 0))
      (small (number (u32_at rest 0)) (numbers (u32_at rest 0) p.leads))

  pointer_moved : (rest : List ℕ) → IsPointer (fields_of old) rest
      → IsPointer (fields_of new) (u32_bytes (number (u32_at rest 0)))
  pointer_moved rest p = record {
    size = length-u32_bytes (number (u32_at rest 0));
    leads = subst (IsTreeNumber (fields_of new).total) (sym (leads rest p)) (numbers (u32_at rest 0) p.leads);
  }

  -- ---- entries

  key_moved : (v : Visit) (level : ℕ) (e : Item) → IsLawfulEntry (fields_of old) v level e → (e.key ≡ [] → ⊥)
      → IsLawfulKey (fields_of new) v level e.key
  key_moved v level e l some =
      let k = l.key some in
      record {
        short = subst (λ n. length e.key ≤ n) (sym sizes.key_max) k.short;
        right = k.right;
        role = k.role;
        above = k.above;
        below = k.below;
      }

  value_kept : (v : Visit) (name : List ℕ) (e : Item) → v.role ≡ global name → IsLawfulEntry (fields_of old) v 0 e
      → IsLawfulEntry (fields_of new) v 0 e
  value_kept v name e role l =
      let fits = subst (λ role. IsLawfulRest (fields_of old) role 0 e.rest) role l.rest in
      record {
        key = key_moved v 0 e l;
        rest = subst (λ role. IsLawfulRest (fields_of new) role 0 e.rest) (sym role)
            (subst (λ n. length e.rest ≤ n) (sym sizes.value_max) fits);
      }

  -- a record of as many bytes
  sizes_moved : (previous : List ℕ) (es : List Item) → AllByRecursion (λ (e : Item). length e.rest ≡ 4) es
      → records_size previous (map (renumbered number) es) ≡ records_size previous es
  sizes_moved previous [] four = refl
  sizes_moved previous (e ∷ es) four =
      omega (
        arith,
        length-u32_bytes (number (u32_at e.rest 0)),
        four.0,
        sizes_moved e.key es four.1,
      )

  next_moved : (p : List ℕ) (e : Item) → IsNext p e → IsNext p (renumbered number e)
  next_moved p e n = record { is_key = n.is_key; above = n.above }

  leaves_moved : (p : List ℕ) (es : List Item) → AreLeaves p es → AreLeaves p (map (renumbered number) es)
  leaves_moved p [] h = tt
  leaves_moved p (e ∷ es) h = (next_moved p e h.0, leaves_moved e.key es h.1)

  index_moved : (p : List ℕ) (es : List Item) → AreIndex p es → AreIndex p (map (renumbered number) es)
  index_moved p [] h = absurd h
  index_moved p (e ∷ []) h = (h.0, length-u32_bytes (number (u32_at e.rest 0)))
  index_moved p (e ∷ f ∷ es) h =
      (next_moved p e h.0, length-u32_bytes (number (u32_at e.rest 0)), index_moved e.key (f ∷ es) h.2)

  -- What a list of entries with pointers becomes: lawful ones that need as many bytes.
  record IsMoved (v : Visit) (level : ℕ) (es fs : List Item) : Type 0 where
    lawful : IsLawful (fields_of new) v level fs
    size : packed_size fs ≡ packed_size es

  map_nil : (es : List Item) → map (renumbered number) es ≡ [] → es ≡ []
  map_nil [] e = refl
  map_nil (x ∷ es) e = absurd (cc)

  pointers_moved : (v : Visit) (level : ℕ) (es : List Item) → IsLawful (fields_of old) v level es
      → ArePackable level (map (renumbered number) es)
      → ((rest : List ℕ) → IsLawfulRest (fields_of old) v.role level rest → IsPointer (fields_of old) rest)
      → ((rest : List ℕ) → IsPointer (fields_of new) rest → IsLawfulRest (fields_of new) v.role level rest)
      → IsMoved v level es (map (renumbered number) es)
  pointers_moved v level es l packable from to =
      let all = recursion_from_All (IsLawfulEntry (fields_of old) v level) es l.each in
      record {
        lawful = record {
          packable = packable;
          each = All-from_recursion (IsLawfulEntry (fields_of new) v level) (map (renumbered number) es) (each es all);
          none = λ e. l.none (map_nil es e);
        };
        size = ap (λ n. 16 + n) (sizes_moved [] es (fours es all));
      }
    where
      each : (xs : List Item) → AllByRecursion (IsLawfulEntry (fields_of old) v level) xs
          → AllByRecursion (IsLawfulEntry (fields_of new) v level) (map (renumbered number) xs)
      each [] h = tt
      each (e ∷ xs) h = (
        record { key = key_moved v level e h.0; rest = to _ (pointer_moved e.rest (from e.rest h.0.rest)) },
        each xs h.1,
      )

      fours : (xs : List Item) → AllByRecursion (IsLawfulEntry (fields_of old) v level) xs
          → AllByRecursion (λ (e : Item). length e.rest ≡ 4) xs
      fours [] h = tt
      fours (e ∷ xs) h = ((from e.rest h.0.rest).size, fours xs h.1)

  values_kept : (v : Visit) (name : List ℕ) (es : List Item) → v.role ≡ global name
      → AllByRecursion (IsLawfulEntry (fields_of old) v 0) es → AllByRecursion (IsLawfulEntry (fields_of new) v 0) es
  values_kept v name [] role h = tt
  values_kept v name (e ∷ es) role h = (value_kept v name e role h.0, values_kept v name es role h.1)

  entries_moved : (v : Visit) (level : ℕ) (es : List Item) → IsLawful (fields_of old) v level es
      → IsMoved v level es (renumbered_entries number v.role level es)
  entries_moved v level es l = by v.role level refl l
    where
      from : (role : TreeRole) (level : ℕ) → v.role ≡ role
          → ((rest : List ℕ) → IsLawfulRest (fields_of old) role level rest → IsPointer (fields_of old) rest)
          → (rest : List ℕ) → IsLawfulRest (fields_of old) v.role level rest → IsPointer (fields_of old) rest
      from role level e f rest r = f rest (subst (λ role. IsLawfulRest (fields_of old) role level rest) e r)

      to : (role : TreeRole) (level : ℕ) → v.role ≡ role
          → ((rest : List ℕ) → IsPointer (fields_of new) rest → IsLawfulRest (fields_of new) role level rest)
          → (rest : List ℕ) → IsPointer (fields_of new) rest → IsLawfulRest (fields_of new) v.role level rest
      to role level e f rest r = subst (λ role. IsLawfulRest (fields_of new) role level rest) (sym e) (f rest r)

      by : (role : TreeRole) (level : ℕ) → v.role ≡ role → IsLawful (fields_of old) v level es
          → IsMoved v level es (renumbered_entries number role level es)
      by directory zero e l =
          pointers_moved v zero es l (leaves_moved [] es l.packable) (from directory zero e (λ rest r. r))
          (to directory zero e (λ rest r. r))
      by directory (suc level) e l =
          pointers_moved v (suc level) es l (index_moved [] es l.packable) (from directory (suc level) e (λ rest r. r))
          (to directory (suc level) e (λ rest r. r))
      by (global name) (suc level) e l =
          pointers_moved v (suc level) es l (index_moved [] es l.packable)
          (from (global name) (suc level) e (λ rest r. r)) (to (global name) (suc level) e (λ rest r. r))
      by (global name) zero e l = record {
        lawful = record {
          packable = l.packable;
          each = All-from_recursion (IsLawfulEntry (fields_of new) v 0) es
              (values_kept v name es e (recursion_from_All (IsLawfulEntry (fields_of old) v 0) es l.each));
          none = l.none;
        };
        size = refl;
      }

  -- ---- blocks

  has_moved : (v : Visit) (level : ℕ) (es : List Item) → HasEntries old v level es
      → IsTreeNumber (fields_of old).total v.block → IsRenumbered old new number v.role v.block
      → HasEntries new (renumbered_visit number v) level (renumbered_entries number v.role level es)
  has_moved v level es has n r =
      let block : List ℕ = block_of new (number v.block) in
      let fs : List Item = renumbered_entries number v.role level es in
      let right = has.right in
      let m = entries_moved v level es (subst (λ k. IsLawful (fields_of old) v k es) has.level right.lawful) in
      let height : level_of block ≡ level = r.level ∙ has.level in
      record {
        there = (numbers v.block n).within;
        level = height;
        right = record {
          head = record {
            stamped = r.stamped;
            level = subst (IsDueLevel v.level) (sym r.level) right.head.level;
            used = r.used ∙ right.head.used ∙ sym m.size;
            fits = omega (arith, m.size, right.head.fits, sizes.block_size);
          };
          found = r.entries ∙ ap (option_map (renumbered_entries number v.role (level_of (block_of old v.block))))
              right.found
              ∙ ap (λ k. Some (renumbered_entries number v.role k es)) has.level;
          lawful = subst (λ k. IsLawful (fields_of new) (renumbered_visit number v) k fs) (sym height)
              (elsewhere (fields_of new) v (renumbered_visit number v) level fs m.lawful refl refl refl);
        };
      }

  -- ---- trees

  role_append : (role : TreeRole) (xs ys : List Item) → renumbered_entries number role 0 (xs ++ ys)
      ≡ renumbered_entries number role 0 xs ++ renumbered_entries number role 0 ys
  role_append directory xs ys = map-append (renumbered number) xs ys
  role_append (global name) xs ys = refl

  joined_moved : (role : TreeRole) (a b : Tree)
      → joined (renumbered_tree number role a) (renumbered_tree number role b)
      ≡ renumbered_tree number role (joined a b)
  joined_moved role a b = sym (λ k. record {
    blocks = map-append number a.blocks b.blocks k;
    items = role_append role a.items b.items k;
  })

  none_moved : (role : TreeRole)
      → record { blocks = []; items = [] } ≡ renumbered_tree number role (record { blocks = []; items = [] })
  none_moved directory = refl
  none_moved (global name) = refl

  index_entries : (role : TreeRole) (level : ℕ) (es : List Item)
      → renumbered_entries number role (suc level) es ≡ map (renumbered number) es
  index_entries directory level es = refl
  index_entries (global name) level es = refl

  abbrev MovesAt : ℕ → Type 0
  MovesAt level = (v : Visit) (t : Tree) → IsTreeNumber (fields_of old).total v.block → sound_tree old level v ≡ Some t
      → AllByRecursion (IsRenumbered old new number v.role) t.blocks
      → sound_tree new level (renumbered_visit number v) ≡ Some (renumbered_tree number v.role t)

  below_moved : (v : Visit) (level : ℕ) (low : Option (List ℕ)) (es : List Item) (t : Tree) → MovesAt level
      → AllByRecursion (IsLawfulEntry (fields_of old) v (suc level)) es → trees_below old v level low es ≡ Some t
      → AllByRecursion (IsRenumbered old new number v.role) t.blocks
      → trees_below new (renumbered_visit number v) level low (map (renumbered number) es)
      ≡ Some (renumbered_tree number v.role t)
  below_moved v level low [] t moves lawful h r =
      let none : record { blocks = []; items = [] } ≡ t = cc in
      ap (λ w. Some w) (none_moved v.role ∙ ap (renumbered_tree number v.role) none)
  below_moved v level low (e ∷ es) t moves lawful h r =
      let c : Visit = visit_below v level low e in
      let p = both_parts (sound_tree old level c) (trees_below old v level (Some e.key) es) t h in
      let all = subst (λ (w : Tree). AllByRecursion (IsRenumbered old new number v.role) w.blocks) p.is r in
      let pointer = pointers (fields_of old) v v.role level e.rest lawful.0.rest in
      let first = moves c p.first pointer.leads p.here
      (all_left (IsRenumbered old new number v.role) p.first.blocks p.second.blocks all) in
      let here : sound_tree new level (visit_below (renumbered_visit number v) level low (renumbered number e))
      ≡ Some (renumbered_tree number v.role p.first) =
      ap (λ n. sound_tree new level (record {
        block = n;
        role = v.role;
        level = Some level;
        low = low;
        high = high_below v.high e.key;
      })) (leads e.rest pointer) ∙ first in
      let later = below_moved v level (Some e.key) es p.second moves lawful.1 p.later
      (all_right (IsRenumbered old new number v.role) p.first.blocks p.second.blocks all) in
      some_both _ _ (renumbered_tree number v.role p.first) (renumbered_tree number v.role p.second) here later
      ∙ ap (λ w. Some w) (joined_moved v.role p.first p.second ∙ ap (renumbered_tree number v.role) (sym p.is))

  tree_moved : (level : ℕ) → MovesAt level
  tree_moved zero v t n h r =
      let p = by_leaf old v t i n.within h in
      let all = subst (λ (w : Tree). AllByRecursion (IsRenumbered old new number v.role) w.blocks) p.is r in
      leaf_by new (renumbered_visit number v) (renumbered_entries number v.role 0 p.es) j
      (has_moved v 0 p.es p.has n all.0) ∙ ap (λ w. Some (renumbered_tree number v.role w)) (sym p.is)
  tree_moved (suc level) v t n h r =
      let p = by_index old v level t i n.within h in
      let all = subst (λ (w : Tree). AllByRecursion (IsRenumbered old new number v.role) w.blocks) p.is r in
      let below = below_moved v level v.low p.es p.below (tree_moved level) (lawful_index old v (suc level) p.es p.has)
      p.trees all.1 in
      index_by new (renumbered_visit number v) level (renumbered_entries number v.role (suc level) p.es)
      (renumbered_tree number v.role p.below) j (has_moved v (suc level) p.es p.has n all.0)
      (ap (trees_below new (renumbered_visit number v) level v.low) (index_entries v.role level p.es) ∙ below)
      ∙ ap (λ w. Some (renumbered_tree number v.role w)) (sym p.is)

pub moved : (old new : List ℕ) (number : ℕ → ℕ) (v : Visit) (level : ℕ) (t : Tree) → IsImage old → IsImage new
    → KeepsSizes old new → KeepsNumbers (fields_of old).total (fields_of new).total number
    → IsTreeNumber (fields_of old).total v.block → sound_tree old level v ≡ Some t
    → All (IsRenumbered old new number v.role) t.blocks
    → sound_tree new level (renumbered_visit number v) ≡ Some (renumbered_tree number v.role t)
moved old new number v level t i j sizes numbers n h all =
    tree_moved old new number i j sizes numbers level v t n h
    (recursion_from_All (IsRenumbered old new number v.role) t.blocks all)

pub exchange : (total a b : ℕ) → IsTreeNumber total a → IsTreeNumber total b → KeepsNumbers total total (exchanged a b)
exchange total a b k l n m =
    cond_both (n == a) b (if n == b then a else n) (IsTreeNumber total) (λ e. l)
    (λ e. cond_both (n == b) a n (IsTreeNumber total) (λ f. k) (λ f. m))
