-- The pair of one block is changed, with what the header says of it.
use Rattle.std.proofs.Common.{◌≡◌, ◌≢◌, ℕ, zero, suc, ◌+◌, ◌*◌, ◌/◌, ◌%◌, ◌<◌, ◌==◌, true, false, ◌&&◌, List, inl, inr}
use Rattle.std.proofs.Common.{[], length, take, filter, refl, sym, ap, subst, ◌∙◌, arith, length-take}
use Rattle.std.specs.Prelude.{nat_lt, IsTrue, slice_index}
use Rattle.std.proofs.lemmas.Bool.{both_ways, cases_eq, lt-ltb}
use Rattle.std.proofs.lemmas.List.{ext_get_or, get_or-take}
use Rattle.gds_block.specs.Block.{version_of, reserved_of, level_of, used_of, tn_of}
use Rattle.gds_block.specs.Fields.{u16_at, u32_at, u64_at}
use Rattle.gds_block.proofs.FieldLemmas.{u16_at-front, u32_at-front, u64_at-front}
use Rattle.gds_bitmap.specs.declared.state.State.{State}
use Rattle.gds_bitmap.specs.State.{code_of, state_from, is_free}
use Rattle.gds_bitmap.specs.Bitmap.{pair_of, state_at, is_free_at, Marks}
use Rattle.gds_header.specs.Fields.{fields_of, block_of}
use Rattle.gds_header.specs.Kinds.{header_faults, has_free}
use Rattle.gds_law.specs.Maps.{map_of, is_present, places, free_places, free_blocks, has_free_place}
use Rattle.gds_file.specs.Maps.{is_busy, IsLawfulMap}
use Rattle.gds_file.specs.Reshape.{KeepsLimits}
use Rattle.gds_file.specs.FileLaws.{IsLawful}
use Rattle.gds_file.proofs.FreeCountLemmas.{is_free_block}

-- ---- pairs and heads of a map

code_pair : (x : ℕ) → x < 4 → code_of (state_from x) ≡ x
code_pair zero h = refl
code_pair (suc zero) h = refl
code_pair (suc (suc zero)) h = refl
code_pair (suc (suc (suc zero))) h = refl
code_pair (suc (suc (suc (suc x)))) h = absurd (omega (arith, h))

-- A state tells its pair.
pub pair_by_state : (map : List ℕ) (k : ℕ) → pair_of map k ≡ code_of (state_at map k)
pair_by_state map k = sym (code_pair (pair_of map k) (omega arith))

pub record SameHead (old new : List ℕ) : Type 0 where
  pub version : version_of new ≡ version_of old
  pub reserved : reserved_of new ≡ reserved_of old
  pub level : level_of new ≡ level_of old
  pub size : used_of new ≡ used_of old
  pub tn : tn_of new ≡ tn_of old

pub same_head : (old new : List ℕ) → take 16 new ≡ take 16 old → SameHead old new
same_head old new front = record {
  version = sym (u16_at-front 16 new 0 (omega arith)) ∙ ap (λ l. u16_at l 0) front
      ∙ u16_at-front 16 old 0 (omega arith);
  reserved = byte 2 (omega arith);
  level = byte 3 (omega arith);
  size = sym (u32_at-front 16 new 4 (omega arith)) ∙ ap (λ l. u32_at l 4) front
      ∙ u32_at-front 16 old 4 (omega arith);
  tn = sym (u64_at-front 16 new 8 (omega arith)) ∙ ap (λ l. u64_at l 8) front ∙ u64_at-front 16 old 8 (omega arith);
}
  where
    byte : (i : ℕ) → i < 16 → slice_index new i ≡ slice_index old i
    byte i low =
        sym (get_or-take 16 new i 0 low) ∙ ap (λ l. slice_index l i) front ∙ get_or-take 16 old i 0 low

-- ---- a file of which one pair is changed

pub record Remarks (before after : List ℕ) (n : ℕ) (state : State) (free : ℕ) : Type 0 where
  pub fields : fields_of after ≡ record (fields_of before) { free = free; master = (fields_of after).master }
  pub pair : Marks (map_of before (n / 512)) (map_of after (n / 512)) (n % 512) state
  pub groups : (g : ℕ) → g ≢ n / 512 → has_free (fields_of after) g ≡ has_free (fields_of before) g
  pub others : (m : ℕ) → m ≢ 512 * (n / 512) → block_of after m ≡ block_of before m

module _ (before after : List ℕ) (n : ℕ) (state : State) (free : ℕ) (t : Remarks before after n state free) where
  abbrev mine : ℕ
  mine = n / 512

  abbrev place : ℕ
  place = n % 512

  pub total_same : (fields_of after).total ≡ (fields_of before).total
  total_same = ap (λ h. h.total) t.fields

  tn_same : (fields_of after).tn ≡ (fields_of before).tn
  tn_same = ap (λ h. h.tn) t.fields

  pub limits_same : KeepsLimits (fields_of before) (fields_of after)
  limits_same = record {
    block_size = ap (λ h. h.block_size) t.fields;
    key_max = ap (λ h. h.key_max) t.fields;
    value_max = ap (λ h. h.value_max) t.fields;
    total = omega (arith, total_same);
    tn = omega (arith, tn_same);
  }

  other_map : (g : ℕ) → g ≢ mine → map_of after g ≡ map_of before g
  other_map g other = t.others (512 * g) (λ e. other (omega (arith, e)))

  pub pair_same : (k : ℕ) → k ≢ place → pair_of (map_of after mine) k ≡ pair_of (map_of before mine) k
  pair_same k other =
      pair_by_state (map_of after mine) k ∙ ap code_of (t.pair.others k other)
      ∙ sym (pair_by_state (map_of before mine) k)

  pub pair_marked : pair_of (map_of after mine) place ≡ code_of state
  pair_marked = pair_by_state (map_of after mine) place ∙ ap code_of t.pair.marked

  -- the pair of another block
  pair_else : (m : ℕ) → m ≢ n → pair_of (map_of after (m / 512)) (m % 512)
      ≡ pair_of (map_of before (m / 512)) (m % 512)
  pair_else m other = elim (cases_eq (m / 512) mine) [
    | inl same ↦
        let apart : m % 512 ≢ place = λ e. other (omega (arith, e, same)) in
        ap (λ g. pair_of (map_of after g) (m % 512)) same ∙ pair_same (m % 512) apart
        ∙ ap (λ g. pair_of (map_of before g) (m % 512)) (sym same)
    | inr apart ↦ ap (λ map. pair_of map (m % 512)) (other_map (m / 512) apart)
  ]

  pub busy_else : (m : ℕ) → m ≢ n → is_busy after m ≡ is_busy before m
  unfolding is_busy
  busy_else m other = λ i. nat_lt m (total_same i) && (pair_else m other i == 0)

  pub free_else : (m : ℕ) → m ≢ n → is_free_block after m ≡ is_free_block before m
  free_else m other = λ i. nat_lt m (total_same i) && is_free (state_from (pair_else m other i))

  front_same : take 16 (map_of after mine) ≡ take 16 (map_of before mine)
  front_same =
      ext_get_or 0 (take 16 (map_of after mine)) (take 16 (map_of before mine))
      (omega (arith, length-take 16 (map_of after mine), length-take 16 (map_of before mine), t.pair.len))
      (λ i low.
      let head : i < 16 = omega (arith, low, length-take 16 (map_of after mine)) in
      get_or-take 16 (map_of after mine) i 0 head
      ∙ t.pair.bytes i (λ e. omega (arith, e, head))
      ∙ sym (get_or-take 16 (map_of before mine) i 0 head))

  present_same : (g k : ℕ) → is_present (fields_of after) g k ≡ is_present (fields_of before) g k
  present_same g k = ap (λ total. nat_lt (512 * g + k) total) total_same

  -- the places of another group that are free
  other_places : (g : ℕ) → g ≢ mine → free_places after g ≡ free_places before g
  other_places g other =
      λ i. filter (λ k. nat_lt (512 * g + k) (total_same i) && is_free_at (other_map g other i) k) places

  other_lawful : (g : ℕ) → g ≢ mine → IsLawfulMap before g → IsLawfulMap after g
  other_lawful g other l =
      let map = other_map g other in
      record {
        version = ap version_of map ∙ l.version;
        reserved = ap reserved_of map ∙ l.reserved;
        level = ap level_of map ∙ l.level;
        size = ap used_of map ∙ l.size;
        tn = omega (arith, l.tn, ap tn_of map, tn_same);
        pairs = λ k low. record {
          legal = λ p e. (l.pairs k low).legal (sym (present_same g k) ∙ p) (sym (ap (λ m. pair_of m k) map) ∙ e);
          past = λ p. ap (λ m. pair_of m k) map ∙ (l.pairs k low).past (sym (present_same g k) ∙ p);
        };
        own = ap (λ m. pair_of m 0) map ∙ l.own;
        master = t.groups g other ∙ l.master ∙ sym (ap (λ xs. nat_lt 0 (length xs)) (other_places g other));
      }

  -- The block is in the file and no map, and gets a lawful state, and the master map is right for its group.
  module _ (within : n < (fields_of before).total) (no_map : n % 512 ≢ 0) (right : code_of state ≢ 2)
      (group : has_free (fields_of after) (n / 512) ≡ has_free_place after (n / 512)) where
    present : is_present (fields_of after) mine place ≡ true
    present =
        let here : 512 * mine + place ≡ n = omega arith in
        lt-ltb (512 * mine + place) (fields_of after).total (omega (arith, here, within, total_same))

    mine_lawful : IsLawfulMap before mine → IsLawfulMap after mine
    mine_lawful l =
        let head = same_head (map_of before mine) (map_of after mine) front_same in
        record {
          version = head.version ∙ l.version;
          reserved = head.reserved ∙ l.reserved;
          level = head.level ∙ l.level;
          size = head.size ∙ l.size;
          tn = omega (arith, l.tn, head.tn, tn_same);
          pairs = λ k low. record { legal = legal k low; past = past k low };
          own = pair_same 0 (λ e. no_map (sym e)) ∙ l.own;
          master = group;
        }
      where
        legal : (k : ℕ) → k < 512 → IsTrue (is_present (fields_of after) mine k) → pair_of (map_of after mine) k ≢ 2
        legal k low p e = elim (cases_eq k place) [
          | inl same ↦ right (sym pair_marked ∙ ap (pair_of (map_of after mine)) (sym same) ∙ e)
          | inr other ↦ (l.pairs k low).legal (sym (present_same mine k) ∙ p) (sym (pair_same k other) ∙ e)
        ]

        past : (k : ℕ) → k < 512 → is_present (fields_of after) mine k ≡ false → pair_of (map_of after mine) k ≡ 0
        past k low p = elim (cases_eq k place) [
          | inl same ↦ absurd (both_ways (is_present (fields_of after) mine place)
              (ap (is_present (fields_of after) mine) (sym same) ∙ p) present)
          | inr other ↦ pair_same k other ∙ (l.pairs k low).past (sym (present_same mine k) ∙ p)
        ]

    pub marked_lawful : IsLawful before → header_faults after ≡ [] → free ≡ free_blocks after → IsLawful after
    marked_lawful lawful header count = record {
      header = header;
      maps = record {
        maps = λ g low.
            let was = lawful.maps.maps g (subst (λ total. g < (total + 511) / 512) total_same low) in
            elim (cases_eq g mine) [
              | inl same ↦ subst (IsLawfulMap after) (sym same) (mine_lawful (subst (IsLawfulMap before) same was))
              | inr other ↦ other_lawful g other was
            ];
        count = ap (λ h. h.free) t.fields ∙ count;
      };
    }
