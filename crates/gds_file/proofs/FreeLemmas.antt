-- A busy block becomes free.
use Rattle.std.proofs.Common.{◌≡◌, ℕ, ◌+◌, ◌/◌, ◌%◌, ◌<◌, ◌==◌, Bool, true, false, not, ◌&&◌, ◌||◌, List, []}
use Rattle.std.proofs.Common.{◌∷◌, inl, inr, refl, sym, ap, ◌∙◌, arith}
use Rattle.std.specs.Prelude.{nat_eq, nat_lt}
use Rattle.std.proofs.lemmas.Bool.{false≢true, cases_eq, and_right, eq-eqb, ne_eqb, lt-ltb}
use Rattle.std.proofs.lemmas.Bool.{eqb-true}
use Rattle.gds_bitmap.specs.declared.state.State.TheVariants.{Recycled}
use Rattle.gds_bitmap.specs.State.{state_from, is_free}
use Rattle.gds_bitmap.specs.Pairs.{count_below}
use Rattle.gds_bitmap.specs.Bitmap.{pair_of}
use Rattle.gds_header.specs.Fields.{fields_of}
use Rattle.gds_header.specs.Kinds.{header_faults}
use Rattle.gds_law.specs.Maps.{map_of, free_blocks}
use Rattle.gds_file.specs.Maps.{is_busy}
use Rattle.gds_file.specs.Reshape.{Reshapes}
use Rattle.gds_file.specs.FileLaws.{IsLawful}
use Rattle.gds_file.specs.Free.{Frees}
use Rattle.gds_file.specs.FreeLaws.{IsBusy, FreeStaysLawful, FreeReshapes}
use Rattle.gds_file.proofs.RightMapLemmas.{busy_by_pair, busy_within}
use Rattle.gds_file.proofs.FreeCountLemmas.{is_free_block, count_less, free_by_blocks, group_of_free}
use Rattle.gds_file.proofs.MarkLemmas.{Remarks, total_same, limits_same, pair_marked, busy_else, free_else}
use Rattle.gds_file.proofs.MarkLemmas.{marked_lawful}

module _ (before after : List ℕ) (n : ℕ) (t : Frees before after n) where
  abbrev more : ℕ
  more = (fields_of before).free + 1

  marks : Remarks before after n Recycled more
  marks = record { fields = t.fields; pair = t.pair; groups = t.groups; others = t.others }

  pair_now : pair_of (map_of after (n / 512)) (n % 512) ≡ 3
  pair_now = pair_marked before after n Recycled more marks

  -- ---- the free blocks

  module _ (is : IsBusy before n) (lawful : IsLawful before) where
    within : n < (fields_of before).total
    within = busy_within before n is.busy

    total : (fields_of after).total ≡ (fields_of before).total
    total = total_same before after n Recycled more marks

    was_busy : is_free_block before n ≡ false
    was_busy =
        and_right (nat_lt n (fields_of before).total) _
        (ap (λ pair. is_free (state_from pair)) (eqb-true _ 0 (sym (busy_by_pair before n within) ∙ is.busy)))

    is_freed : is_free_block after n ≡ true
    is_freed =
        let present = lt-ltb n (fields_of after).total (omega (arith, within, total)) in
        λ i. present i && is_free (state_from (pair_now i))

    count : more ≡ free_blocks after
    count =
        let counts = count_less (is_free_block after) (is_free_block before) n (fields_of before).total within
        is_freed was_busy (λ m other. sym (free_else before after n Recycled more marks m other)) in
        omega (
          arith,
          counts,
          lawful.maps.count,
          free_by_blocks before,
          free_by_blocks after,
          ap (count_below (is_free_block after)) total,
        )

    free_lawful : header_faults after ≡ [] → IsLawful after
    free_lawful header =
        marked_lawful before after n Recycled more marks within is.no_map (λ e. omega (arith, e))
        (t.group ∙ sym (group_of_free after n is_freed)) lawful header count

  -- ---- the blocks that are busy

  free_here : is_busy after n ≡ false
  unfolding is_busy
  free_here = and_right (nat_lt n (fields_of after).total) _ (ap (λ pair. pair == 0) pair_now)

  none_left : (own busy : Bool) → own ≡ true → (false || (busy && not (own || false))) ≡ false
  none_left true busy e = and_right busy false refl
  none_left false busy e = absurd (false≢true e)

  none_gone : (own busy : Bool) → own ≡ false → (false || (busy && not (own || false))) ≡ busy
  none_gone true busy e = absurd (false≢true (sym e))
  none_gone false true e = refl
  none_gone false false e = refl

  free_is_reshape : Reshapes before after (n ∷ []) []
  free_is_reshape = record {
    limits = limits_same before after n Recycled more marks;
    stays = λ m no_map busy out. t.others m (λ e. no_map (omega (arith, e)));
    taken = λ m no_map there out. absurd (false≢true there);
    busy = λ m low no_map. elim (cases_eq m n) [
      | inl same ↦ ap (is_busy after) same ∙ free_here
          ∙ sym (none_left (nat_eq m n) (is_busy before m) (eq-eqb m n same))
      | inr other ↦ busy_else before after n Recycled more marks m other
          ∙ sym (none_gone (nat_eq m n) (is_busy before m) (ne_eqb m n other))
    ];
  }

pub free_stays_lawful : FreeStaysLawful
free_stays_lawful before after n lawful is t header = free_lawful before after n t is lawful header

pub free_reshapes : FreeReshapes
free_reshapes before after n t = free_is_reshape before after n t
