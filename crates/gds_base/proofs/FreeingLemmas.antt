-- A block of the image with a draft that becomes free.
use Rattle.std.proofs.Common.{◌≡◌, ◌≢◌, ℕ, ◌+◌, ◌*◌, ◌/◌, ◌%◌, ◌<◌, ◌≤◌, true, ◌&&◌, List, inl, inr}
use Rattle.std.proofs.Common.{[], add-zero, length, sym, ap, subst, ◌∙◌, arith}
use Rattle.std.specs.Prelude.{IsTrue, if◌then◌else◌}
use Rattle.std.proofs.lemmas.Bool.{cases_eq, eq-eqb, eqb-true, lt-ltb}
use Rattle.gds_bitmap.specs.declared.state.State.TheVariants.{Recycled}
use Rattle.gds_bitmap.specs.State.{is_free, state_from}
use Rattle.gds_bitmap.specs.Bitmap.{Marks, pair_of, state_at}
use Rattle.gds_bitmap.specs.Pairs.{count_below}
use Rattle.gds_bitmap.proofs.CountLemmas.{count_below-same, count_below_le}
use Rattle.gds_header.specs.declared.header.Header.{Header}
use Rattle.gds_header.specs.Fields.{fields_of}
use Rattle.gds_header.specs.Kinds.{has_free, header_faults}
use Rattle.gds_law.specs.Maps.{free_blocks, map_of}
use Rattle.gds_file.specs.FileLaws.{IsLawful}
use Rattle.gds_file.specs.Free.{Frees}
use Rattle.gds_file.specs.Maps.{is_busy}
use Rattle.gds_file.proofs.FreeCountLemmas.{free_by_blocks, group_of_free, is_free_block}
use Rattle.gds_file.proofs.FreeLemmas.{free_stays_lawful}
use Rattle.gds_file.proofs.MarkLemmas.{Remarks, free_else, marked_lawful, pair_marked, total_same}
use Rattle.gds_file.proofs.RightMapLemmas.{busy_by_pair, free_pair}
use Rattle.gds_draft.specs.Draft.{DraftState, IsDraft, with_block}
use Rattle.gds_draft.specs.Drafted.{drafted}
use Rattle.gds_draft.specs.Laws.{IsDraftOf}
use Rattle.gds_draft.proofs.DraftLemmas.{drafted_read}
use Rattle.gds_base.specs.Spaces.{Recycles}
use Rattle.gds_base.proofs.MapLemmas.{fields_now, remarked, right_still}

-- ---- no more than all are free

pub free_at_most : (image : List ℕ) → IsLawful image → (fields_of image).free ≤ (fields_of image).total
free_at_most image lawful =
    omega (
      arith,
      lawful.maps.count,
      free_by_blocks image,
      count_below_le (is_free_block image) (fields_of image).total,
    )

-- ---- a pair that becomes that of a used and free block

module _ (before after : List ℕ) (n free : ℕ) (r : Remarks before after n Recycled free)
    (within : n < (fields_of before).total) (no_map : n % 512 ≢ 0)
    (counted : free ≡ (fields_of before).free
    + (if is_free (state_from (pair_of (map_of before (n / 512)) (n % 512))) then 0 else 1))
    (group : has_free (fields_of after) (n / 512) ≡ true) (right : header_faults before ≡ [] → header_faults after ≡ [])
  where
    abbrev pair : ℕ
    pair = pair_of (map_of before (n / 512)) (n % 512)

    total : (fields_of after).total ≡ (fields_of before).total
    total = total_same before after n Recycled free r

    now_free : is_free_block after n ≡ true
    now_free =
        let present = lt-ltb n (fields_of after).total (omega (arith, within, total)) in
        λ i. present i && is_free (state_from (pair_marked before after n Recycled free r i))

    frees : pair ≡ 0 → Frees before after n
    frees busy = record {
      fields = r.fields
          ∙ (λ i. record (fields_of before) {
            free = (counted ∙ ap (λ p. (fields_of before).free + (if is_free (state_from p) then 0 else 1)) busy) i;
            master = (fields_of after).master;
          });
      pair = r.pair;
      group = group;
      groups = r.groups;
      others = r.others;
    }

    pair_of_busy : IsTrue (is_busy before n) → pair ≡ 0
    pair_of_busy busy = eqb-true pair 0 (sym (busy_by_pair before n within) ∙ busy)

    -- it was free already
    same_count : is_free (state_from pair) ≡ true → IsLawful before → free ≡ free_blocks after
    same_count was lawful =
        let present = lt-ltb n (fields_of before).total within in
        let was_free : is_free_block before n ≡ true = λ i. present i && was i in
        counted ∙ ap (λ b. (fields_of before).free + (if b then 0 else 1)) was ∙ add-zero (fields_of before).free
        ∙ lawful.maps.count ∙ free_by_blocks before
        ∙ sym (count_below-same (is_free_block after) (is_free_block before) (fields_of before).total (by was_free))
        ∙ ap (count_below (is_free_block after)) (sym total) ∙ sym (free_by_blocks after)
      where
        by : is_free_block before n ≡ true → (m : ℕ) → m < (fields_of before).total
            → is_free_block after m ≡ is_free_block before m
        by was_free m low = elim (cases_eq m n) [
          | inl same ↦ ap (is_free_block after) same ∙ now_free ∙ sym (ap (is_free_block before) same ∙ was_free)
          | inr other ↦ free_else before after n Recycled free r m other
        ]

    still_lawful : IsLawful before → IsLawful after
    still_lawful lawful = elim (cases_eq pair 0) [
      | inl busy ↦
          let is_busy_now = busy_by_pair before n within ∙ eq-eqb pair 0 busy in
          free_stays_lawful before after n lawful (record { no_map = no_map; busy = is_busy_now }) (frees busy)
          (right lawful.header)
      | inr other ↦
          let present = lt-ltb (512 * (n / 512) + n % 512) (fields_of before).total (omega (arith, within)) in
          let pairs = (lawful.maps.maps (n / 512) (omega (arith, within))).pairs (n % 512) (omega arith) in
          marked_lawful before after n Recycled free r within no_map (λ e. omega (arith, e))
          (group ∙ sym (group_of_free after n now_free)) lawful (right lawful.header)
          (same_count (free_pair pair other (pairs.legal present)) lawful)
    ]

    pub recycled : Recycles before after n
    recycled = record {
      pair = r.pair;
      others = r.others;
      frees = λ busy. frees (pair_of_busy busy);
      lawful = still_lawful;
    }

-- ---- a draft that gets the map, and a header that fits it

module _ (image : List ℕ) (draft : DraftState) (n : ℕ) (map : List ℕ) (h : Header) (is : IsDraftOf image draft)
    (within : n < draft.header.total) (no_map : n % 512 ≢ 0) (size : length map ≡ draft.header.block_size)
    (fields : h ≡ record draft.header { free = h.free; master = h.master })
    (new : IsDraft (record (with_block draft (512 * (n / 512)) map) { header = h })) where
  abbrev old : List ℕ
  old = drafted draft image

  abbrev now : List ℕ
  now = drafted (record (with_block draft (512 * (n / 512)) map) { header = h }) image

  pub block_recycled : Marks (map_of old (n / 512)) map (n % 512) Recycled
      → ((g : ℕ) → g ≢ n / 512 → has_free h g ≡ has_free draft.header g)
      → h.free ≡ draft.header.free + (if is_free (state_at (map_of old (n / 512)) (n % 512)) then 0 else 1)
      → has_free h (n / 512) ≡ true → Recycles old now n
  block_recycled marks groups counted marked =
      let there : 512 * (n / 512) < draft.header.total = omega (arith, within) in
      let small : n % 512 < 512 = omega arith in
      let whole : 512 * (n / 512) + n % 512 ≡ n = omega arith in
      let was = (drafted_read image draft is).fields in
      let next : DraftState = record (with_block draft (512 * (n / 512)) map) { header = h } in
      let still =
      right_still image draft (n / 512) map h is there size fields new (n % 512) Recycled small marks groups in
      let is_now = subst (λ m. Remarks old now m Recycled h.free) whole
      (remarked image draft (n / 512) map h is there size fields new (n % 512) Recycled small marks groups) in
      recycled old now n h.free is_now (omega (arith, within, ap (λ (g : Header). g.total) was)) no_map
      (counted
      ∙ ap (λ (g : Header). g.free + (if is_free (state_at (map_of old (n / 512)) (n % 512)) then 0 else 1)) (sym was))
      (ap (λ f. has_free f (n / 512)) (fields_now image draft (n / 512) map h is there size fields new) ∙ marked) still
