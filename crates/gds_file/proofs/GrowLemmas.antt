-- A file that grows: its maps stay lawful, and no busy block comes or goes.
use Rattle.std.proofs.Common.{◌≡◌, ◌≢◌, ℕ, zero, suc, ◌+◌, ◌-◌, ◌*◌, ◌/◌, ◌%◌, ◌<◌, ◌≤◌, ◌==◌, Bool, true, false, not}
use Rattle.std.proofs.Common.{◌&&◌, ◌||◌, List, [], inl, inr, refl, sym, ap, ◌∙◌, arith, if◌then◌else◌}
use Rattle.std.proofs.lemmas.Bool.{cases_eq, cases_lt, eq-eqb, ne_eqb, false≢true, lt-ltb, ltb-true, ltb-false}
use Rattle.gds_bitmap.specs.declared.state.State.TheVariants.{Busy, New}
use Rattle.gds_bitmap.specs.State.{code_of, is_free}
use Rattle.gds_bitmap.specs.Pairs.{count_below}
use Rattle.gds_bitmap.specs.Bitmap.{pair_of, state_at}
use Rattle.gds_bitmap.proofs.CountLemmas.{count_below-add, count_below-same}
use Rattle.gds_header.specs.Fields.{fields_of}
use Rattle.gds_header.specs.Kinds.{header_faults}
use Rattle.gds_law.specs.Maps.{map_of, free_blocks}
use Rattle.gds_new.specs.NewDatabase.{bit_of}
use Rattle.gds_file.specs.Maps.{is_busy, IsLawfulPair, IsLawfulMap}
use Rattle.gds_file.specs.Reshape.{Reshapes}
use Rattle.gds_file.specs.FileLaws.{IsLawful}
use Rattle.gds_file.specs.Room.{groups_in, grown_free}
use Rattle.gds_file.specs.Grow.{state_of, coming_state, HasMapHead, Grows}
use Rattle.gds_file.specs.GrowLaws.{GrowStaysLawful, GrowReshapes}
use Rattle.gds_file.proofs.RightMapLemmas.{busy_by_pair, busy_within, not_busy_past}
use Rattle.gds_file.proofs.FreeCountLemmas.{is_free_block, free_by_blocks}
use Rattle.gds_file.proofs.MarkLemmas.{pair_by_state, same_head}

-- ---- numbers

-- From a number on, so many blocks are no maps.
no_maps : (from n : ℕ) → count_below (λ k. not ((from + k) % 512 == 0)) n + groups_in (from + n) ≡ n + groups_in from
no_maps from zero = let none : from + 0 ≡ from = omega arith in omega (arith, ap groups_in none)
no_maps from (suc n) = elim (cases_eq ((from + n) % 512) 0) [
  | inl map ↦
      let none : bit_of (not ((from + n) % 512 == 0)) ≡ 0 = ap (λ b. bit_of (not b)) (eq-eqb _ 0 map) in
      omega (arith, none, no_maps from n, map)
  | inr other ↦
      let one : bit_of (not ((from + n) % 512 == 0)) ≡ 1 = ap (λ b. bit_of (not b)) (ne_eqb _ 0 other) in
      omega (arith, one, no_maps from n, other)
]

counted_free : (free old total came : ℕ) → old < total → came + (total + 511) / 512 ≡ total - old + (old + 511) / 512
    → free + (total - old) - ((total + 511) / 512 - (old + 511) / 512) ≡ free + came
counted_free free old total came more counted = omega (arith, more, counted)

-- ---- states

place_state : (image : List ℕ) (group k : ℕ) → k < 512
    → state_at (map_of image group) k ≡ state_of image (512 * group + k)
place_state image group k low =
    let quotient : group ≡ (512 * group + k) / 512 = omega arith in
    let rest : k ≡ (512 * group + k) % 512 = omega arith in
    λ i. state_at (map_of image (quotient i)) (rest i)

pair_at : (image : List ℕ) (group k : ℕ) → k < 512
    → pair_of (map_of image group) k ≡ code_of (state_of image (512 * group + k))
pair_at image group k low = pair_by_state (map_of image group) k ∙ ap code_of (place_state image group k low)

coming_legal : (n : ℕ) → code_of (coming_state n) ≢ 2
coming_legal n = by (n % 512 == 0)
  where
    by : (b : Bool) → code_of (if b then Busy else New) ≢ 2
    by true e = omega (arith, e)
    by false e = omega (arith, e)

coming_map : (n : ℕ) → n % 512 ≡ 0 → code_of (coming_state n) ≡ 0
coming_map n map = ap (λ b. code_of (if b then Busy else New)) (eq-eqb (n % 512) 0 map)

coming_free : (n : ℕ) → is_free (coming_state n) ≡ not (n % 512 == 0)
coming_free n = by (n % 512 == 0)
  where
    by : (b : Bool) → is_free (if b then Busy else New) ≡ not b
    by true = refl
    by false = refl

module _ (before after : List ℕ) (total : ℕ) (g : Grows before after total) where
  abbrev old : ℕ
  old = (fields_of before).total

  total_now : (fields_of after).total ≡ total
  total_now = ap (λ h. h.total) g.fields

  tn_same : (fields_of after).tn ≡ (fields_of before).tn
  tn_same = ap (λ h. h.tn) g.fields

  -- ---- the pairs of a group

  pair_kept : (group k : ℕ) → k < 512 → 512 * group + k < old
      → pair_of (map_of after group) k ≡ pair_of (map_of before group) k
  pair_kept group k low was =
      pair_at after group k low ∙ ap code_of (g.kept (512 * group + k) was) ∙ sym (pair_at before group k low)

  pair_came : (group k : ℕ) → k < 512 → old ≤ 512 * group + k → 512 * group + k < total
      → pair_of (map_of after group) k ≡ code_of (coming_state (512 * group + k))
  pair_came group k low from below =
      pair_at after group k low ∙ ap code_of (g.came (512 * group + k) from below)

  module _ (lawful : IsLawful before) where
    map_lawful : (group k : ℕ) → 512 * group + k < old → IsLawfulMap before group
    map_lawful group k was = lawful.maps.maps group (omega (arith, was))

    legal : (group k : ℕ) → k < 512 → 512 * group + k < total → pair_of (map_of after group) k ≢ 2
    legal group k low below e = elim (cases_lt (512 * group + k) old) [
      | inl was ↦ ((map_lawful group k was).pairs k low).legal (lt-ltb (512 * group + k) old was)
          (sym (pair_kept group k low was) ∙ e)
      | inr from ↦ coming_legal (512 * group + k) (sym (pair_came group k low from below) ∙ e)
    ]

    past : (group k : ℕ) → k < 512 → group < groups_in total → total ≤ 512 * group + k
        → pair_of (map_of after group) k ≡ 0
    past group k low inside from =
        pair_at after group k low ∙ ap code_of (g.past (512 * group + k) from (omega (arith, low, inside)))

    pair_lawful : (group k : ℕ) → k < 512 → group < groups_in total → IsLawfulPair after group k
    pair_lawful group k low inside = record {
      legal = λ p. legal group k low
          (omega (arith, total_now, ltb-true (512 * group + k) (fields_of after).total p));
      past = λ p. past group k low inside
          (omega (arith, total_now, ltb-false (512 * group + k) (fields_of after).total p));
    }

    own : (group : ℕ) → group < groups_in total → pair_of (map_of after group) 0 ≡ 0
    own group inside = elim (cases_lt (512 * group + 0) old) [
      | inl was ↦ pair_kept group 0 (omega arith) was ∙ (map_lawful group 0 was).own
      | inr from ↦ pair_came group 0 (omega arith) from (omega (arith, inside))
          ∙ coming_map (512 * group + 0) (omega arith)
    ]

    -- ---- the maps

    head_kept : (group : ℕ) → group < groups_in old → HasMapHead after group
    head_kept group was =
        let same = same_head (map_of before group) (map_of after group) (g.heads group was) in
        let l = lawful.maps.maps group was in
        record {
          head = record {
            version = same.version ∙ l.version;
            reserved = same.reserved ∙ l.reserved;
            level = same.level ∙ l.level;
            used = same.size ∙ l.size;
            tn = refl;
          };
          tn = omega (arith, same.tn, l.tn, tn_same);
        }

    head : (group : ℕ) → group < groups_in total → HasMapHead after group
    head group inside = elim (cases_lt group (groups_in old)) [
      | inl was ↦ head_kept group was
      | inr from ↦ g.new_heads group from inside
    ]

    lawful_map : (group : ℕ) → group < groups_in total → IsLawfulMap after group
    lawful_map group inside =
        let h = head group inside in
        record {
          version = h.head.version;
          reserved = h.head.reserved;
          level = h.head.level;
          size = h.head.used;
          tn = h.tn;
          pairs = λ k low. pair_lawful group k low inside;
          own = own group inside;
          master = g.groups group inside;
        }

    -- ---- the free blocks

    free_kept : (n : ℕ) → n < old → is_free_block after n ≡ is_free_block before n
    free_kept n was =
        let within = lt-ltb n (fields_of after).total (omega (arith, total_now, was, g.more)) in
        λ i. (within ∙ sym (lt-ltb n old was)) i && is_free (g.kept n was i)

    free_came : (k : ℕ) → k < total - old → is_free_block after (old + k) ≡ not ((old + k) % 512 == 0)
    free_came k low =
        let within = lt-ltb (old + k) (fields_of after).total (omega (arith, total_now, low)) in
        (λ i. within i && is_free (g.came (old + k) (omega arith) (omega (arith, low)) i)) ∙ coming_free (old + k)

    came : ℕ
    came = count_below (λ k. not ((old + k) % 512 == 0)) (total - old)

    free_now : free_blocks after ≡ free_blocks before + came
    unfolding came
    free_now =
        let parts : (fields_of after).total ≡ old + (total - old) = omega (arith, total_now, g.more) in
        free_by_blocks after ∙ ap (count_below (is_free_block after)) parts
        ∙ count_below-add (is_free_block after) old (total - old)
        ∙ (λ i. (count_below-same (is_free_block after) (is_free_block before) old free_kept
        ∙ sym (free_by_blocks before)) i + count_below-same (λ k. is_free_block after (old + k))
        (λ k. not ((old + k) % 512 == 0)) (total - old) free_came i)

    count : grown_free (fields_of before) total ≡ free_blocks after
    unfolding came
    count =
        let all : old + (total - old) ≡ total = omega (arith, g.more) in
        let counted = ap (λ n. came + groups_in n) (sym all) ∙ no_maps old (total - old) in
        counted_free (fields_of before).free old total came g.more counted
        ∙ ap (λ n. n + came) lawful.maps.count ∙ sym free_now

    grow_lawful : header_faults after ≡ [] → IsLawful after
    grow_lawful header = record {
      header = header;
      maps = record {
        maps = λ group low. lawful_map group (omega (arith, low, ap groups_in total_now));
        count = ap (λ h. h.free) g.fields ∙ count;
      };
    }

  -- ---- the blocks that are busy

  -- no change of a busy block
  stay_busy : (b : Bool) → b ≡ (false || (b && not false))
  stay_busy true = refl
  stay_busy false = refl

  busy_kept : (n : ℕ) → n < old → is_busy after n ≡ is_busy before n
  busy_kept n was =
      let states : state_of after n ≡ state_of before n = g.kept n was in
      let pairs : pair_of (map_of after (n / 512)) (n % 512) ≡ pair_of (map_of before (n / 512)) (n % 512) =
      pair_by_state (map_of after (n / 512)) (n % 512) ∙ ap code_of states
      ∙ sym (pair_by_state (map_of before (n / 512)) (n % 512)) in
      busy_by_pair after n (omega (arith, total_now, was, g.more)) ∙ ap (λ pair. pair == 0) pairs
      ∙ sym (busy_by_pair before n was)

  busy_came : (n : ℕ) → n % 512 ≢ 0 → old ≤ n → n < total → is_busy after n ≡ false
  busy_came n no_map from below =
      busy_by_pair after n (omega (arith, total_now, below))
      ∙ ap (λ pair. pair == 0) (pair_by_state (map_of after (n / 512)) (n % 512))
      ∙ ap (λ state. code_of state == 0) (g.came n from below)
      ∙ ap (λ b. code_of (if b then Busy else New) == 0) (ne_eqb (n % 512) 0 no_map)

  grow_is_reshape : Reshapes before after [] []
  grow_is_reshape = record {
    limits = record {
      block_size = ap (λ h. h.block_size) g.fields;
      key_max = ap (λ h. h.key_max) g.fields;
      value_max = ap (λ h. h.value_max) g.fields;
      total = omega (arith, total_now, g.more);
      tn = omega (arith, tn_same);
    };
    stays = λ n no_map busy out. g.others n (busy_within before n busy) no_map;
    taken = λ n no_map there out. absurd (false≢true there);
    busy = λ n low no_map. elim (cases_lt n old) [
      | inl was ↦ busy_kept n was ∙ stay_busy (is_busy before n)
      | inr from ↦ busy_came n no_map from (omega (arith, low, total_now)) ∙ sym (not_busy_past before n from)
          ∙ stay_busy (is_busy before n)
    ];
  }

pub grow_stays_lawful : GrowStaysLawful
grow_stays_lawful before after total lawful g header = grow_lawful before after total g lawful header

pub grow_reshapes : GrowReshapes
grow_reshapes before after total g = grow_is_reshape before after total g
