-- A free block is taken.
use Rattle.std.proofs.Common.{◌≡◌, ℕ, ◌+◌, ◌-◌, ◌*◌, ◌/◌, ◌%◌, Bool, true, false, not, ◌&&◌, ◌||◌, List, []}
use Rattle.std.proofs.Common.{◌∷◌, inl, inr, refl, sym, ap, ◌∙◌, arith}
use Rattle.std.specs.Prelude.{nat_eq, nat_lt, IsTrue}
use Rattle.std.proofs.lemmas.Bool.{cases_eq, and_right, or_left, eq-eqb, ne_eqb, lt-ltb, eqb-true, eqb-false}
use Rattle.gds_bitmap.specs.declared.state.State.TheVariants.{Busy}
use Rattle.gds_bitmap.specs.State.{state_from, is_free}
use Rattle.gds_bitmap.specs.Pairs.{count_below}
use Rattle.gds_bitmap.specs.Bitmap.{pair_of}
use Rattle.gds_header.specs.Fields.{fields_of}
use Rattle.gds_header.specs.Kinds.{header_faults}
use Rattle.gds_law.specs.Maps.{map_of, free_blocks}
use Rattle.gds_file.specs.Maps.{has_block, is_busy}
use Rattle.gds_file.specs.Reshape.{Reshapes}
use Rattle.gds_file.specs.FileLaws.{IsLawful}
use Rattle.gds_file.specs.Take.{Takes}
use Rattle.gds_file.specs.TakeLaws.{IsFree, TakeStaysLawful, TakeReshapes}
use Rattle.gds_file.proofs.RightMapLemmas.{free_pair, busy_by_pair}
use Rattle.gds_file.proofs.FreeCountLemmas.{is_free_block, count_less, free_by_blocks}
use Rattle.gds_file.proofs.MarkLemmas.{Remarks, total_same, limits_same, pair_marked, busy_else, free_else}
use Rattle.gds_file.proofs.MarkLemmas.{marked_lawful}

module _ (before after : List ℕ) (n : ℕ) (t : Takes before after n) (is : IsFree before n) where
  abbrev less : ℕ
  less = (fields_of before).free - 1

  marks : Remarks before after n Busy less
  marks = record { fields = t.fields; pair = t.pair; groups = t.groups; others = t.others }

  total : (fields_of after).total ≡ (fields_of before).total
  total = total_same before after n Busy less marks

  -- ---- the free blocks

  module _ (lawful : IsLawful before) where
    was_free : is_free_block before n ≡ true
    was_free =
        let group = lawful.maps.maps (n / 512) (omega (arith, is.within)) in
        let here : 512 * (n / 512) + n % 512 ≡ n = omega arith in
        let present = lt-ltb (512 * (n / 512) + n % 512) (fields_of before).total (omega (arith, here, is.within)) in
        let pair = free_pair (pair_of (map_of before (n / 512)) (n % 512))
        (eqb-false _ 0 (sym (busy_by_pair before n is.within) ∙ is.free))
        ((group.pairs (n % 512) (omega arith)).legal present) in
        λ i. lt-ltb n (fields_of before).total is.within i && pair i

    is_taken : is_free_block after n ≡ false
    is_taken =
        and_right (nat_lt n (fields_of after).total) _
        (ap (λ pair. is_free (state_from pair)) (pair_marked before after n Busy less marks))

    count : less ≡ free_blocks after
    count =
        let counts = count_less (is_free_block before) (is_free_block after) n (fields_of before).total is.within
        was_free is_taken (free_else before after n Busy less marks) in
        omega (
          arith,
          counts,
          lawful.maps.count,
          free_by_blocks before,
          free_by_blocks after,
          ap (count_below (is_free_block after)) total,
        )

    take_lawful : header_faults after ≡ [] → IsLawful after
    take_lawful header =
        marked_lawful before after n Busy less marks is.within is.no_map (λ e. omega (arith, e)) t.group lawful
        header count

  -- ---- the blocks that are busy

  busy_here : is_busy after n ≡ true
  busy_here =
      busy_by_pair after n (omega (arith, is.within, total))
      ∙ eq-eqb (pair_of (map_of after (n / 512)) (n % 512)) 0 (pair_marked before after n Busy less marks)

  take_is_reshape : Reshapes before after [] (n ∷ [])
  take_is_reshape = record {
    limits = limits_same before after n Busy less marks;
    stays = λ m no_map busy out. t.others m (λ e. no_map (omega (arith, e)));
    taken = λ m no_map there out. ap (is_busy before) (only m there) ∙ is.free;
    busy = λ m low no_map. busy m;
  }
    where
      or_none : (b : Bool) → (b || false) ≡ true → b ≡ true
      or_none true h = refl
      or_none false h = h

      only : (m : ℕ) → IsTrue (has_block (n ∷ []) m) → m ≡ n
      only m there = eqb-true m n (or_none (nat_eq m n) there)

      or_more : (own busy : Bool) → own ≡ false → ((own || false) || (busy && not false)) ≡ busy
      or_more true busy e = absurd (cc)
      or_more false true e = refl
      or_more false false e = refl

      busy : (m : ℕ) → is_busy after m ≡ (has_block (n ∷ []) m || (is_busy before m && not (has_block [] m)))
      busy m = elim (cases_eq m n) [
        | inl same ↦ ap (is_busy after) same ∙ busy_here
            ∙ sym (or_left (has_block (n ∷ []) m) _ (or_left (nat_eq m n) false (eq-eqb m n same)))
        | inr other ↦ busy_else before after n Busy less marks m other
            ∙ sym (or_more (nat_eq m n) (is_busy before m) (ne_eqb m n other))
      ]

pub take_stays_lawful : TakeStaysLawful
take_stays_lawful before after n lawful is t header = take_lawful before after n t is lawful header

pub take_reshapes : TakeReshapes
take_reshapes before after n is t = take_is_reshape before after n t is
