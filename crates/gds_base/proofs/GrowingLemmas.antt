-- A file that has grown, by its header, the map of its last group, and new maps.
use Rattle.std.proofs.Common.{◌≡◌, ◌≢◌, ℕ, ◌+◌, ◌-◌, ◌*◌, ◌/◌, ◌%◌, ◌<◌, ◌≤◌, ◌==◌, Bool, true, false, not, ◌&&◌, List}
use Rattle.std.proofs.Common.{inl, inr, refl, sym, ap, ◌∙◌, arith, if◌then◌else◌, take}
use Rattle.std.specs.Prelude.{nat_lt}
use Rattle.std.proofs.lemmas.Bool.{cases_eq, cases_lt, false≢true, le-ltb, lt-ltb, ltb-false, ltb-true}
use Rattle.std.proofs.lemmas.Bool.{ne_eqb}
use Rattle.gds_bitmap.specs.declared.state.State.TheVariants.{Busy, New}
use Rattle.gds_bitmap.specs.State.{is_free, state_from}
use Rattle.gds_bitmap.specs.Bitmap.{is_free_at, state_at}
use Rattle.gds_bitmap.proofs.CountLemmas.{count_below-same}
use Rattle.gds_header.specs.Fields.{block_of, fields_of}
use Rattle.gds_header.specs.Kinds.{has_free}
use Rattle.gds_law.specs.Maps.{has_free_place, is_present, map_of}
use Rattle.gds_sound.proofs.HeaderLemmas.{limits_of}
use Rattle.gds_file.specs.FileLaws.{IsLawful}
use Rattle.gds_file.specs.Grow.{Grows, HasMapHead}
use Rattle.gds_file.specs.Room.{groups_in}
use Rattle.gds_file.proofs.FreeCountLemmas.{counted}
use Rattle.gds_base.specs.Reserve.{GetsPlaces, GrowsHeader, IsNewMap}
use Rattle.gds_base.specs.Spaces.{present_in}
use Rattle.gds_base.proofs.PlaceLemmas.{place_left}

-- the last group of a file of so many blocks
abbrev pub last_group : ℕ → ℕ
last_group total = (total - 1) / 512

-- a place of a group is free in a file
abbrev is_free_in : List ℕ → ℕ → ℕ → Bool
is_free_in image group k = is_present (fields_of image) group k && is_free_at (map_of image group) k

coming : (first : Bool) → (if not first && true then New else Busy) ≡ (if first then Busy else New)
coming true = refl
coming false = refl

no_place : (first : Bool) → (if not first && false then New else Busy) ≡ Busy
no_place true = refl
no_place false = refl

module _ (before after : List ℕ) (total tn : ℕ) (lawful : IsLawful before) (more : (fields_of before).total < total)
    (header : GrowsHeader (fields_of before) (fields_of after) total)
    (stays : (n : ℕ) → n < (fields_of before).total → n ≢ 512 * last_group (fields_of before).total
    → block_of after n ≡ block_of before n)
    (places : GetsPlaces (map_of before (last_group (fields_of before).total))
    (map_of after (last_group (fields_of before).total))
    ((fields_of before).total - 512 * last_group (fields_of before).total)
    (present_in (fields_of after) (last_group (fields_of before).total)))
    (new : (group : ℕ) → last_group (fields_of before).total < group → group < groups_in total
    → IsNewMap (map_of after group) tn (present_in (fields_of after) group))
    (older : tn < (fields_of before).tn) where
  abbrev old : ℕ
  old = (fields_of before).total

  abbrev last : ℕ
  last = last_group old

  some : 3 ≤ old
  some = (limits_of before lawful.header).total_from

  total_now : (fields_of after).total ≡ total
  total_now = ap (λ h. h.total) header.fields

  map_stays : (group : ℕ) → 512 * group < old → group ≢ last → map_of after group ≡ map_of before group
  map_stays group low other = stays (512 * group) low (λ e. other (omega (arith, e)))

  -- ---- the states of a group's places

  kept : (group k : ℕ) → k < 512 → 512 * group + k < old
      → state_at (map_of after group) k ≡ state_at (map_of before group) k
  kept group k low was = elim (cases_eq group last) [
    | inl same ↦
        ap (λ g. state_at (map_of after g) k) same ∙ places.before k (omega (arith, was, same))
        ∙ ap (λ g. state_at (map_of before g) k) (sym same)
    | inr other ↦ ap (λ m. state_at m k) (map_stays group (omega (arith, was)) other)
  ]

  came : (group k : ℕ) → k < 512 → old ≤ 512 * group + k → 512 * group + k < total
      → state_at (map_of after group) k ≡ (if k == 0 then Busy else New)
  came group k low from below = elim (cases_lt last group) [
    | inl later ↦
        let present : k < present_in (fields_of after) group = omega (arith, below, low, total_now) in
        (new group later (omega (arith, below))).states k low
        ∙ ap (λ t. if not (k == 0) && t then New else Busy) (lt-ltb k (present_in (fields_of after) group) present)
        ∙ coming (k == 0)
    | inr not_later ↦
        let same : group ≡ last = omega (arith, not_later, low, from, some) in
        let above : old - 512 * last ≤ k = omega (arith, same, from) in
        ap (λ g. state_at (map_of after g) k) same
        ∙ places.came k above (omega (arith, same, below, low, total_now))
        ∙ ap (λ t. if t then Busy else New) (sym (ne_eqb k 0 (λ e. omega (arith, e, above, some))))
  ]

  past : (group k : ℕ) → k < 512 → group < groups_in total → total ≤ 512 * group + k
      → state_at (map_of after group) k ≡ Busy
  past group k low inside from = elim (cases_lt last group) [
    | inl later ↦
        let absent : present_in (fields_of after) group ≤ k = omega (arith, from, total_now) in
        (new group later inside).states k low
        ∙ ap (λ t. if not (k == 0) && t then New else Busy) (le-ltb k (present_in (fields_of after) group) absent)
        ∙ no_place (k == 0)
    | inr not_later ↦
        let same : group ≡ last = omega (arith, not_later, low, from, some, more) in
        let pairs = (lawful.maps.maps last (omega (arith, some))).pairs k low in
        let absent = le-ltb (512 * last + k) old (omega (arith, from, more, same)) in
        ap (λ g. state_at (map_of after g) k) same ∙ places.past k (omega (arith, same, from, total_now))
        ∙ ap state_from (pairs.past absent)
  ]

  -- ---- the groups that have a free block

  same_places : (group : ℕ) → group < old / 512 → has_free_place after group ≡ has_free_place before group
  same_places group low =
      ap (nat_lt 0)
      (counted (is_free_in after group) 512
      ∙ count_below-same (is_free_in after group) (is_free_in before group) 512 by
      ∙ sym (counted (is_free_in before group) 512))
    where
      by : (k : ℕ) → k < 512 → is_free_in after group k ≡ is_free_in before group k
      by k below =
          let was : 512 * group + k < old = omega (arith, low, below) in
          let here = lt-ltb (512 * group + k) (fields_of after).total (omega (arith, was, more, total_now)) in
          λ i. (here ∙ sym (lt-ltb (512 * group + k) old was)) i && is_free (kept group k below was i)

  -- a group that got blocks has a free one where it has more than its map
  new_places : (group : ℕ) → old / 512 ≤ group → group < groups_in total
      → nat_lt 1 (present_in (fields_of after) group) ≡ has_free_place after group
  new_places group from inside = by (nat_lt 1 (present_in (fields_of after) group)) refl
    where
      there : 512 * group < (fields_of after).total
      there = omega (arith, inside, total_now)

      free : (k : ℕ) → 0 < k → k < 512 → old ≤ 512 * group + k → 512 * group + k < total
          → is_free_at (map_of after group) k ≡ true
      free k some_place low came_from below =
          ap is_free
          (came group k low came_from below
          ∙ ap (λ t. if t then Busy else New) (ne_eqb k 0 (λ e. omega (arith, e, some_place))))

      by : (t : Bool) → nat_lt 1 (present_in (fields_of after) group) ≡ t → t ≡ has_free_place after group
      by true is =
          let two : 1 < present_in (fields_of after) group = ltb-true 1 (present_in (fields_of after) group) is in
          place_left after group (present_in (fields_of after) group) true there refl
          (elim (cases_lt (512 * group) old) [
            | inl part ↦ (
              old - 512 * group,
              omega (arith, part, from, more, total_now),
              free (old - 512 * group) (omega (arith, part)) (omega (arith, from)) (omega (arith, part))
                  (omega (arith, part, more)),
            )
            | inr whole ↦ (
              1,
              two,
              free 1 (omega arith) (omega arith) (omega (arith, whole)) (omega (arith, two, total_now)),
            )
          ])
      by false is =
          let one : present_in (fields_of after) group ≤ 1 = ltb-false 1 (present_in (fields_of after) group) is in
          place_left after group (present_in (fields_of after) group) false there refl
          (λ k low passes.
          let first : k ≡ 0 = omega (arith, low, one) in
          let behind : old ≤ 512 * group + 0 = omega (arith, one, more, total_now) in
          let busy = came group 0 (omega arith) behind (omega (arith, there, total_now)) in
          false≢true (sym (ap is_free busy) ∙ ap (is_free_at (map_of after group)) (sym first) ∙ passes))

  groups : (group : ℕ) → group < groups_in total → has_free (fields_of after) group ≡ has_free_place after group
  groups group inside = elim (cases_lt group (old / 512)) [
    | inl full ↦
        header.before group full ∙ (lawful.maps.maps group (omega (arith, full))).master ∙ sym (same_places group full)
    | inr from ↦ header.came group from inside ∙ new_places group from inside
  ]

  -- ---- the maps

  heads : (group : ℕ) → group < groups_in old → take 16 (map_of after group) ≡ take 16 (map_of before group)
  heads group was = elim (cases_eq group last) [
    | inl same ↦
        ap (λ g. take 16 (map_of after g)) same ∙ places.head ∙ ap (λ g. take 16 (map_of before g)) (sym same)
    | inr other ↦ ap (take 16) (map_stays group (omega (arith, was)) other)
  ]

  new_heads : (group : ℕ) → groups_in old ≤ group → group < groups_in total → HasMapHead after group
  new_heads group from inside =
      let h = (new group (omega (arith, from, some)) inside).head in
      record {
        head = record { version = h.version; reserved = h.reserved; level = h.level; used = h.used; tn = refl };
        tn = omega (arith, h.tn, older, ap (λ f. f.tn) header.fields);
      }

  pub grown : Grows before after total
  grown = record {
    more = more;
    fields = header.fields;
    kept = λ n was. kept (n / 512) (n % 512) (omega arith) (omega (arith, was));
    came = λ n from below. came (n / 512) (n % 512) (omega arith) (omega (arith, from)) (omega (arith, below));
    past = λ n from below. past (n / 512) (n % 512) (omega arith) (omega (arith, below)) (omega (arith, from));
    heads = heads;
    new_heads = new_heads;
    groups = groups;
    others = λ n was no_map. stays n was (λ e. no_map (omega (arith, e)));
  }
