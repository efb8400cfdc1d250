-- A sound tree stays one, with its blocks and items, where its blocks stay but for their transaction numbers, and the
-- limits of the header stay.
use Rattle.std.proofs.Common.{◌≡◌, ℕ, zero, suc, ◌+◌, ◌-◌, ◌<◌, ◌≤◌, ◌==◌, ◌%◌, Bool, true, false, not, ◌&&◌, ◌||◌}
use Rattle.std.proofs.Common.{if◌then◌else◌, List, [], ◌∷◌, ◌++◌, length, map, filter, take, drop, Option, None, Some}
use Rattle.std.proofs.Common.{option_map, option_and_then, inl, inr, refl, sym, ap, subst, ◌∙◌, arith}
use Rattle.std.specs.Prelude.{⊤, ◌^◌, nat_lt, nat_le}
use Rattle.std.specs.List.{list_any}
use Rattle.std.specs.Option.{option_map_or}
use Rattle.std.proofs.lemmas.Bool.{and_parts, and_from, and_left, and_right, not-true, cond-true, cond-false, cond_both}
use Rattle.std.proofs.lemmas.Bool.{ltb-true, lt-ltb, lt-leb, leb-false}
use Rattle.std.proofs.lemmas.List.{drop-drop}
use Rattle.gds_header.specs.declared.header.Header.{Header}
use Rattle.gds_header.specs.Fields.{fields_of, block_of}
use Rattle.gds_header.specs.Kinds.{through_first}
use Rattle.gds_block.specs.Fields.{u32_at}
use Rattle.gds_block.specs.Block.{version_of, reserved_of, level_of, used_of, tn_of}
use Rattle.gds_block.specs.Record.{Record, records_of, records_from, records_up_to, first_record, is_well_sized}
use Rattle.gds_block.specs.Record.{bytes_left}
use Rattle.gds_block.specs.Record as block
use Rattle.gds_law.specs.Kinds.{ends, head_kinds, record_kinds}
use Rattle.gds_law.specs.Visit.{TreeRole, directory, global, Visit, Child}
use Rattle.gds_law.specs.BlockReading.{BlockReading, PlacedRecord, has_values, points, is_last, pointer_of}
use Rattle.gds_law.specs.BlockReading.{key_of, rest_of, size_of}
use Rattle.gds_law.specs.Record.{holds, kinds_of, target_of, is_ended, child_to, children_of_record, is_sound}
use Rattle.gds_law.specs.Block.{head_holds, kinds_of_head, kinds_from, kinds_of_block, children_from, size_kinds}
use Rattle.gds_law.specs.Path.{children_at}
use Rattle.gds_sound.specs.Stands.{items_from}
use Rattle.gds_sound.specs.Sound.{Tree, joined, forest_of, items_at, sound_tree, tree_at}
use Rattle.gds_law.specs.declared.kind.FaultKind.{FaultKind}
use Rattle.gds_law.specs.declared.kind.FaultKind.TheVariants.{BadVersion, TransactionTooNew, RestNotPointer}
use Rattle.gds_law.specs.declared.kind.FaultKind.TheVariants.{ValueTooLong, PointerNotPositive, PointerTooLarge}
use Rattle.gds_law.specs.declared.kind.FaultKind.TheVariants.{PointerToMap}
use Rattle.gds_law.proofs.MembershipLemmas.{IsIn, in_left, in_right}
use Rattle.gds_sound.proofs.BlockLemmas.{nil_parts, map_nil, through_nil, filter_nil, nil_filter, seen, IsCleanRecord}
use Rattle.gds_sound.proofs.BlockLemmas.{clean_record, CleanRecords, clean_block, clean_pointer, asked_not_positive}
use Rattle.gds_sound.proofs.BlockLemmas.{reading_at, kinds_at, level_at, children_clean}
use Rattle.gds_sound.proofs.TreeLemmas.{root_only, faultless_from, leaf_parts, index_parts, forest_parts, own_level}
use Rattle.gds_file.specs.Reshape.{KeepsLimits}

-- What counts of a block for a tree: all but its transaction number and what stands behind its used bytes.
pub record IsLike (x y : List ℕ) : Type 0 where
  pub version : version_of y ≡ version_of x
  pub reserved : reserved_of y ≡ reserved_of x
  pub level : level_of y ≡ level_of x
  pub used : used_of y ≡ used_of x
  pub left : bytes_left y 16 ≡ bytes_left x 16

-- ---- a pointer under a greater total

pointer_stays : (p total more size : ℕ) (multiple : Bool) → total ≤ more
    → (nat_lt 0 p && nat_lt p total && not multiple) ≡ true
    → ((nat_le more p && nat_lt p size) ≡ false) × ((nat_lt 0 p && nat_lt p more && multiple) ≡ false)
    × ((nat_lt 0 p && nat_lt p more && not multiple) ≡ true)
pointer_stays p total more size multiple grown h =
    let parts = and_parts (nat_lt 0 p && nat_lt p total) (not multiple) h in
    let both = and_parts (nat_lt 0 p) (nat_lt p total) parts.0 in
    let within : p < more = omega (arith, ltb-true p total both.1) in (
      and_left (nat_le more p) (nat_lt p size) (lt-leb more p within),
      and_right (nat_lt 0 p && nat_lt p more) multiple (not-true multiple parts.1),
      and_from (nat_lt 0 p && nat_lt p more) (not multiple)
          (and_from (nat_lt 0 p) (nat_lt p more) both.0 (lt-ltb p more within)) parts.1,
    )

-- Records stand behind the head of their block.
abbrev StandBehind : List Record → Type 0
StandBehind [] = ⊤
StandBehind (r ∷ rs) = (16 ≤ r.offset) × StandBehind rs

stand_behind : (n level at : ℕ) (left : List ℕ) → 16 ≤ at → StandBehind (records_up_to n level at left)
stand_behind zero level at left from = tt
stand_behind (suc n) level at left from =
    let rest =
    stand_behind n level (at + block.size_of left) (drop (block.size_of left) left) (omega (arith, from)) in
    cond_both (is_well_sized level left) _ _ StandBehind (λ _. (from, rest)) (λ _. tt)

-- the new header with the limits of the old one
abbrev pub with_limits : Header → Header → Header
with_limits h g = record g { block_size = h.block_size; key_max = h.key_max; value_max = h.value_max }

module _ (h g : Header) (v : Visit) (level used : ℕ) where
  abbrev old : BlockReading
  old = record { header = h; visit = v; level = level; used = used }

  abbrev new : BlockReading
  new = record { header = with_limits h g; visit = v; level = level; used = used }

  values_same : (role : TreeRole) → has_values new role ≡ has_values old role
  values_same directory = refl
  values_same (global name) = refl

  points_same : points new ≡ points old
  points_same = ap not (values_same v.role)

  pointer_same : (s : PlacedRecord) → pointer_of new s ≡ pointer_of old s
  pointer_same s =
      ap (λ p. if is_last old s then Some (u32_at s.record_.body 0)
      else (if p && (length (rest_of old s) == 4) then Some (u32_at (rest_of old s) 0) else None)) points_same

  module _ (grown : h.total ≤ g.total) where
    -- the three kinds of pointers
    record NoPointerKind (o : Option ℕ) : Type 0 where
      positive : option_map_or (λ p. p == 0 || nat_le (2 ^ 31) p) o false ≡ false
      small : option_map_or (λ p. nat_le g.total p && nat_lt p (2 ^ 31)) o false ≡ false
      no_map : option_map_or (λ p. nat_lt 0 p && nat_lt p g.total && (p % 512 == 0)) o false ≡ false

    pointer_kinds : (s : PlacedRecord) → IsCleanRecord old s → NoPointerKind (pointer_of old s)
    pointer_kinds s c = by (pointer_of old s) refl
      where
        by : (o : Option ℕ) → pointer_of old s ≡ o → NoPointerKind o
        by None e = record { positive = refl; small = refl; no_map = refl }
        by (Some p) e =
            let stays = pointer_stays p h.total g.total (2 ^ 31) (p % 512 == 0) grown (clean_pointer old s p c e) in
            record {
              positive = sym (ap (λ o. option_map_or (λ q. q == 0 || nat_le (2 ^ 31) q) o false) e)
                  ∙ c.none PointerNotPositive asked_not_positive;
              small = stays.0;
              no_map = stays.1;
            }

    kept : (s : PlacedRecord) → IsCleanRecord old s → (kind : FaultKind) → holds old s kind ≡ false
        → holds new s kind ≡ false
    kept s c PointerNotPositive e =
        ap (λ o. option_map_or (λ p. p == 0 || nat_le (2 ^ 31) p) o false) (pointer_same s) ∙ e
    kept s c PointerTooLarge e =
        ap (λ o. option_map_or (λ p. nat_le g.total p && nat_lt p (2 ^ 31)) o false) (pointer_same s)
        ∙ (pointer_kinds s c).small
    kept s c PointerToMap e =
        ap (λ o. option_map_or (λ p. nat_lt 0 p && nat_lt p g.total && (p % 512 == 0)) o false) (pointer_same s)
        ∙ (pointer_kinds s c).no_map
    kept s c RestNotPointer e =
        ap (λ p. if is_last old s then false else p && not (length (rest_of old s) == 4)) points_same ∙ e
    kept s c ValueTooLong e =
        ap (λ p. if is_last old s then false else not p && nat_lt h.value_max (length (rest_of old s))) points_same ∙ e
    kept s c kind e = e

    clean_kept : (s : PlacedRecord) → IsCleanRecord old s → IsCleanRecord new s
    unfolding kinds_of is_ended
    clean_kept s c =
        let none : (kind : FaultKind) → IsIn record_kinds kind → holds new s kind ≡ false =
        λ kind i. kept s c kind (c.none kind i) in
        record {
          none = none;
          goes_on = ap (λ kinds. list_any ends (through_first ends kinds)) (nil_filter (holds new s) record_kinds none);
        }

    child_kept : (s : PlacedRecord) → IsCleanRecord old s → children_of_record new s ≡ children_of_record old s
    unfolding target_of
    child_kept s c = ap (child_to new s) (pointer_same s) ∙ by (pointer_of old s) refl
      where
        by : (o : Option ℕ) → pointer_of old s ≡ o → child_to new s o ≡ child_to old s o
        by None e = refl
        by (Some p) e =
            let sound = clean_pointer old s p c e in
            let stays = pointer_stays p h.total g.total 0 (p % 512 == 0) grown sound in
            cond-true (is_sound new p) _ _ stays.2 ∙ sym (cond-true (is_sound old p) _ _ sound)

    records_kept : (previous : List ℕ) (rs : List Record) → CleanRecords old previous rs → CleanRecords new previous rs
    records_kept previous [] c = tt
    records_kept previous (r ∷ rs) c =
        (clean_kept (seen previous r) c.0, records_kept (key_of old (seen previous r)) rs c.1)

    children_kept : (previous : List ℕ) (rs : List Record) → CleanRecords old previous rs
        → children_from new previous rs ≡ children_from old previous rs
    children_kept previous [] c = refl
    children_kept previous (r ∷ rs) c =
        let s : PlacedRecord = seen previous r in
        cond-false (is_ended new s) [] _ (clean_kept s c.0).goes_on
        ∙ (λ i. child_kept s c.0 i ++ children_kept (key_of old s) rs c.1 i)
        ∙ sym (cond-false (is_ended old s) [] _ c.0.goes_on)

    items_kept : (previous : List ℕ) (rs : List Record) → CleanRecords old previous rs
        → items_from new previous rs ≡ items_from old previous rs
    items_kept previous [] c = refl
    items_kept previous (r ∷ rs) c =
        let s : PlacedRecord = seen previous r in
        cond-false (is_ended new s) [] _ (clean_kept s c.0).goes_on
        ∙ ap (λ items. record { key = key_of old s; rest = rest_of old s } ∷ items) (items_kept (key_of old s) rs c.1)
        ∙ sym (cond-false (is_ended old s) [] _ c.0.goes_on)

    -- the kinds told of records, where none was told
    record_none : (s : PlacedRecord) → kinds_of old s ≡ [] → kinds_of new s ≡ []
    unfolding kinds_of
    record_none s e =
        let c = clean_record old s e in
        ap (through_first ends) (nil_filter (holds new s) record_kinds (λ kind i. kept s c kind (c.none kind i)))

    kinds_kept : (x y : List ℕ) (at : ℕ) (previous : List ℕ) (rs : List Record)
        → ((n : ℕ) → 16 ≤ n → bytes_left y n ≡ bytes_left x n) → 16 ≤ at → StandBehind rs
        → kinds_from old x at previous rs ≡ [] → kinds_from new y at previous rs ≡ []
    kinds_kept x y at previous [] same from behind e =
        ap (λ left. map (λ kind. (at, kind)) (size_kinds level left)) (same at from) ∙ e
    kinds_kept x y at previous (r ∷ rs) same from behind e =
        let s : PlacedRecord = seen previous r in
        let parts = nil_parts (map (λ kind. (r.offset, kind)) (kinds_of old s)) _ e in
        let none = map_nil (λ (kind : FaultKind). (r.offset, kind)) (kinds_of old s) parts.0 in
        let c = clean_record old s none in
        let rest =
        kinds_kept x y (r.offset + size_of s) (key_of old s) rs same (omega (arith, behind.0)) behind.1
        (sym (cond-false (is_ended old s) [] _ c.goes_on) ∙ parts.1) in
        (λ i. map (λ kind. (r.offset, kind)) (record_none s none i)
        ++ (if is_ended new s then [] else kinds_from new y (r.offset + size_of s) (key_of new s) rs))
        ∙ cond-false (is_ended new s) [] _ (clean_kept s c).goes_on ∙ rest

    head_kept : (x y : List ℕ) → version_of y ≡ version_of x → reserved_of y ≡ reserved_of x → tn_of y < g.tn
        → kinds_of_head old x ≡ [] → kinds_of_head new y ≡ []
    unfolding kinds_of_head
    head_kept x y version reserved number e =
        ap (through_first ends) (nil_filter (head_holds new y) head_kinds (λ kind i. by kind i (none kind i)))
      where
        none : (kind : FaultKind) → IsIn head_kinds kind → head_holds old x kind ≡ false
        none = filter_nil (head_holds old x) head_kinds (through_nil ends (filter (head_holds old x) head_kinds) e)

        by : (kind : FaultKind) → IsIn head_kinds kind → head_holds old x kind ≡ false → head_holds new y kind ≡ false
        by BadVersion i f = (λ j. not (version j == 1) || not (reserved j == 0)) ∙ f
        by TransactionTooNew i f = lt-leb g.tn (tn_of y) number
        by kind i f = f

    block_kept : (x y : List ℕ) → version_of y ≡ version_of x → reserved_of y ≡ reserved_of x → tn_of y < g.tn
        → records_of y ≡ records_of x → StandBehind (records_of x)
        → ((n : ℕ) → 16 ≤ n → bytes_left y n ≡ bytes_left x n) → kinds_of_block old x ≡ []
        → kinds_of_block new y ≡ []
    unfolding kinds_of_block
    block_kept x y version reserved number records behind same e =
        let parts = nil_parts (map (λ kind. (0, kind)) (kinds_of_head old x)) _ e in
        let head = map_nil (λ (kind : FaultKind). (0, kind)) (kinds_of_head old x) parts.0 in
        let goes : list_any ends (kinds_of_head old x) ≡ false = ap (list_any ends) head in
        let none = head_kept x y version reserved number head in
        let rest =
        kinds_kept x y 16 [] (records_of x) same (omega arith) behind
        (sym (cond-false (list_any ends (kinds_of_head old x)) [] _ goes) ∙ parts.1) in
        (λ i. map (λ kind. (0, kind)) (none i)
        ++ (if list_any ends (none i) then [] else kinds_from new y 16 [] (records i))) ∙ rest

-- ---- at a visit of two files

-- the bytes left behind the first 16 say those behind any further place
left_from : (x y : List ℕ) → bytes_left y 16 ≡ bytes_left x 16 → (n : ℕ) → 16 ≤ n → bytes_left y n ≡ bytes_left x n
left_from x y e n from =
    let place : 16 + (n - 16) ≡ n = omega arith in
    sym (ap (bytes_left y) place) ∙ sym (drop-drop (n - 16) 16 (take (used_of y) y)) ∙ ap (drop (n - 16)) e
    ∙ drop-drop (n - 16) 16 (take (used_of x) x) ∙ ap (bytes_left x) place

records_like : (x y : List ℕ) → IsLike x y → records_of y ≡ records_of x
records_like x y like = λ i. records_from (like.level i) 16 (like.left i)

behind_head : (x : List ℕ) → StandBehind (records_of x)
behind_head x = stand_behind (length (bytes_left x 16)) (level_of x) 16 (bytes_left x 16) (omega arith)

-- A block of a tree is kept in another file: it is like it was, and its transaction number isn't too new there.
pub record IsKeptIn (a b : List ℕ) (n : ℕ) : Type 0 where
  pub like : IsLike (block_of a n) (block_of b n)
  pub number : tn_of (block_of a n) < (fields_of a).tn → tn_of (block_of b n) < (fields_of b).tn

module _ (a b : List ℕ) (limits : KeepsLimits (fields_of a) (fields_of b)) where
  -- the reading of a block by the new header is that by its limits
  reading_same : (v : Visit) → IsKeptIn a b v.block
      → new (fields_of a) (fields_of b) v (level_at a v) (used_of (block_of a v.block)) ≡ reading_at b v
  reading_same v k = λ i. record {
    header = record (fields_of b) {
      block_size = sym limits.block_size i;
      key_max = sym limits.key_max i;
      value_max = sym limits.value_max i;
    };
    visit = v;
    level = sym k.like.level i;
    used = sym k.like.used i;
  }

  number_right : (v : Visit) → kinds_at a v ≡ [] → tn_of (block_of a v.block) < (fields_of a).tn
  unfolding kinds_of_block kinds_of_head
  number_right v e =
      let x : List ℕ = block_of a v.block in
      let parts = nil_parts (map (λ kind. (0, kind)) (kinds_of_head (reading_at a v) x)) _ e in
      let head = map_nil (λ (kind : FaultKind). (0, kind)) (kinds_of_head (reading_at a v) x) parts.0 in
      let none : filter (head_holds (reading_at a v) x) head_kinds ≡ [] = through_nil ends _ head in
      leb-false (fields_of a).tn (tn_of x)
      (filter_nil (head_holds (reading_at a v) x) head_kinds none TransactionTooNew (inr (inl refl)))

  clean_at_kept : (v : Visit) → IsKeptIn a b v.block → kinds_at a v ≡ [] → kinds_at b v ≡ []
  clean_at_kept v k e =
      let x : List ℕ = block_of a v.block in
      let y : List ℕ = block_of b v.block in
      sym (ap (λ r. kinds_of_block r y) (reading_same v k))
      ∙ block_kept (fields_of a) (fields_of b) v (level_at a v) (used_of x) limits.total x y k.like.version
      k.like.reserved (k.number (number_right v e)) (records_like x y k.like) (behind_head x)
      (left_from x y k.like.left) e

  children_same : (v : Visit) → IsKeptIn a b v.block → kinds_at a v ≡ [] → children_at b v ≡ children_at a v
  children_same v k e =
      let x : List ℕ = block_of a v.block in
      let c = (clean_block (reading_at a v) x e).records in
      children_clean b v (clean_at_kept v k e)
      ∙ (λ i. children_from (sym (reading_same v k) i) [] (records_like x (block_of b v.block) k.like i))
      ∙ children_kept (fields_of a) (fields_of b) v (level_at a v) (used_of x) limits.total [] (records_of x) c
      ∙ sym (children_clean a v e)

  items_same : (v : Visit) → IsKeptIn a b v.block → kinds_at a v ≡ [] → items_at b v ≡ items_at a v
  items_same v k e =
      let x : List ℕ = block_of a v.block in
      let c = (clean_block (reading_at a v) x e).records in
      (λ i. items_from (sym (reading_same v k) i) [] (records_like x (block_of b v.block) k.like i))
      ∙ items_kept (fields_of a) (fields_of b) v (level_at a v) (used_of x) limits.total [] (records_of x) c

  forest_kept : (tree other : Visit → Option Tree) (cs : List Child) (f : Tree) → forest_of tree cs ≡ Some f
      → ((c : Child) (t : Tree) → tree c.visit ≡ Some t → ((n : ℕ) → IsIn t.blocks n → IsIn f.blocks n)
      → other c.visit ≡ Some t) → forest_of other cs ≡ Some f
  forest_kept tree other [] f e each = e
  forest_kept tree other (c ∷ cs) f e each =
      let p = forest_parts tree c cs f e in
      let among : (n : ℕ) → IsIn (p.first.blocks ++ p.rest.blocks) n → IsIn f.blocks n =
      λ n i. subst (λ (t : Tree). IsIn t.blocks n) p.is i in
      let first = each c p.first p.here (λ n i. among n (in_left p.first.blocks p.rest.blocks n i)) in
      let rest = forest_kept tree other cs p.rest p.later
      (λ d t h more. each d t h (λ n i. among n (in_right p.first.blocks p.rest.blocks n (more n i)))) in
      ap (option_and_then (λ t. option_map (joined t) (forest_of other cs))) first
      ∙ ap (option_map (joined p.first)) rest ∙ ap (λ t. Some t) p.is

  pub tree_kept : (level : ℕ) (v : Visit) (t : Tree) → sound_tree a level v ≡ Some t
      → ((n : ℕ) → IsIn t.blocks n → IsKeptIn a b n) → sound_tree b level v ≡ Some t
  tree_kept zero v t e keep =
      let p = leaf_parts a v t e in
      let k = keep v.block (subst (λ (w : Tree). IsIn w.blocks v.block) p.is (inl refl)) in
      cond-true _ _ _ (faultless_from b v 0 (k.like.level ∙ p.level) (clean_at_kept v k p.none))
      ∙ (λ i. Some (record { blocks = v.block ∷ []; items = items_same v k p.none i })) ∙ ap (λ w. Some w) p.is
  tree_kept (suc level) v t e keep =
      let p = index_parts a level v t e in
      let among : (n : ℕ) → IsIn (v.block ∷ p.below.blocks) n → IsIn t.blocks n =
      λ n i. subst (λ (w : Tree). IsIn w.blocks n) p.is i in
      let k = keep v.block (among v.block (inl refl)) in
      let forest = forest_kept (sound_tree a level) (sound_tree b level) (children_at a v) p.below p.forest
      (λ c s h more. tree_kept level c.visit s h (λ n i. keep n (among n (inr (more n i))))) in
      cond-true _ _ _ (faultless_from b v (suc level) (k.like.level ∙ p.level) (clean_at_kept v k p.none))
      ∙ ap (λ cs. option_map (joined (root_only v)) (forest_of (sound_tree b level) cs)) (children_same v k p.none)
      ∙ ap (option_map (joined (root_only v))) forest ∙ ap (λ w. Some w) p.is

  -- a root's tree, whose level its block says
  pub root_kept : (v : Visit) (t : Tree) → tree_at a v ≡ Some t → ((n : ℕ) → IsIn t.blocks n → IsKeptIn a b n)
      → tree_at b v ≡ Some t
  root_kept v t e keep = own_level b (level_at a v) v t (tree_kept (level_at a v) v t e keep)

-- An equal block is kept.
pub kept_equal : (a b : List ℕ) (n : ℕ) → (fields_of a).tn ≤ (fields_of b).tn → block_of b n ≡ block_of a n
    → IsKeptIn a b n
kept_equal a b n tn e = record {
  like = record {
    version = ap version_of e;
    reserved = ap reserved_of e;
    level = ap level_of e;
    used = ap used_of e;
    left = ap (λ x. bytes_left x 16) e;
  };
  number = λ low. omega (arith, low, tn, ap tn_of e);
}
