-- Free blocks that are taken one after another.
use Rattle.std.proofs.Common.{◌≡◌, ℕ, suc, ◌-◌, ◌||◌, Bool, true, false}
use Rattle.std.proofs.Common.{List, [], ◌∷◌, ◌++◌, length, inl, inr, refl, sym, ap, subst, ◌∙◌, arith}
use Rattle.std.specs.Prelude.{nat_eq, IsTrue}
use Rattle.std.specs.List.{AllByRecursion}
use Rattle.std.proofs.lemmas.Bool.{or_left, or_cases, both_ways, eq-eqb, eqb-true, false_from_ne_true}
use Rattle.std.proofs.lemmas.List.Elements.{All-from_recursion, recursion_from_All}
use Rattle.gds_header.specs.declared.header.Header.{Header}
use Rattle.gds_header.specs.Fields.{fields_of}
use Rattle.gds_sound.proofs.PathLemmas.{distinct_from_counts}
use Rattle.gds_tree.specs.Lawful.{IsTreeNumber}
use Rattle.gds_file.specs.FileLaws.{IsLawful}
use Rattle.gds_file.specs.Maps.{has_block, is_busy}
use Rattle.gds_file.specs.Reshape.{Reshapes}
use Rattle.gds_file.specs.Take.{Takes}
use Rattle.gds_file.specs.TakeLaws.{IsFree}
use Rattle.gds_file.proofs.ReshapeLemmas.{nothing_reshapes, reshapes_compose, reshapes_with_more, reshapes_in_any_order}
use Rattle.gds_file.proofs.ReshapeLemmas.{has_append}
use Rattle.gds_file.proofs.TakeLemmas.{take_reshapes}
use Rattle.gds_splice.specs.Parted.{TakenAll, TakesAll}
use Rattle.gds_splice.proofs.CountedLemmas.{at_has, distinct_more}

none_taken : (file : List ℕ) → IsLawful file → TakenAll file file []
none_taken file l = record {
  lawful = l;
  fields = let same : (fields_of file).free ≡ (fields_of file).free - 0 = omega arith in
      ap (λ n. record (fields_of file) { free = n; master = (fields_of file).master }) same;
  others = λ n no_map. refl;
  distinct = distinct_from_counts [] (λ n. omega arith);
  numbered = All-from_recursion (IsTreeNumber (fields_of file).total) [] tt;
  were_free = λ n there. absurd (cc);
  busy = λ n there. absurd (cc);
  reshapes = nothing_reshapes file [] (λ n there. absurd (cc));
}

module _ (before mid after : List ℕ) (n : ℕ) (numbers : List ℕ) (is : IsFree before n) (t : Takes before mid n)
    (rest : TakenAll mid after numbers) where
  first : Reshapes before mid [] (n ∷ [])
  first = take_reshapes before mid n is t

  total_same : (fields_of mid).total ≡ (fields_of before).total
  total_same = ap (λ (h : Header). h.total) t.fields

  -- it is busy from then on
  now_busy : is_busy mid n ≡ true
  now_busy =
      first.busy n (omega (arith, is.within, total_same)) is.no_map
      ∙ or_left (has_block (n ∷ []) n) _ (or_left (nat_eq n n) false (eq-eqb n n refl))

  other : has_block numbers n ≡ false
  other =
      false_from_ne_true (has_block numbers n)
      (λ there. both_ways (is_busy mid n) (rest.were_free n there) now_busy)

  -- the others, while it stays
  others : Reshapes mid after (n ∷ []) (n ∷ numbers)
  others =
      reshapes_in_any_order mid after ([] ++ n ∷ []) (numbers ++ n ∷ []) (n ∷ []) (n ∷ numbers)
      (reshapes_with_more mid after [] numbers (n ∷ []) rest.reshapes
      (λ m there. ap (is_busy mid) (same m there) ∙ now_busy) (λ m there. refl)) (λ m. refl)
      (λ m. has_append numbers (n ∷ []) m ∙ turned (has_block numbers m) (nat_eq m n))
    where
      same : (m : ℕ) → IsTrue (has_block (n ∷ []) m) → m ≡ n
      same m there = elim (or_cases (nat_eq m n) false there) [
        | inl e ↦ eqb-true m n e
        | inr e ↦ absurd (cc)
      ]

      turned : (a b : Bool) → (a || (b || false)) ≡ (b || a)
      turned true true = refl
      turned true false = refl
      turned false true = refl
      turned false false = refl

  whole : Reshapes before after [] (n ∷ numbers)
  whole = reshapes_compose before mid after [] (n ∷ []) (n ∷ numbers) first others

  numbered : AllByRecursion (IsTreeNumber (fields_of before).total) (n ∷ numbers)
  numbered = (
    record { positive = omega (arith, is.no_map); within = is.within; no_map = is.no_map },
    subst (λ total. AllByRecursion (IsTreeNumber total) numbers) total_same
        (recursion_from_All (IsTreeNumber (fields_of mid).total) numbers rest.numbered),
  )

  number : (m : ℕ) → IsTrue (has_block (n ∷ numbers) m) → IsTreeNumber (fields_of before).total m
  number m there = at_has (IsTreeNumber (fields_of before).total) (n ∷ numbers) m numbered there

  fields_now : fields_of after ≡ record (fields_of before) {
    free = (fields_of before).free - length (n ∷ numbers);
    master = (fields_of after).master;
  }
  fields_now =
      let less : (fields_of before).free - 1 - length numbers ≡ (fields_of before).free - suc (length numbers) =
      omega arith in
      rest.fields
      ∙ ap (λ (h : Header). record h { free = h.free - length numbers; master = (fields_of after).master }) t.fields
      ∙ ap (λ k. record (fields_of before) { free = k; master = (fields_of after).master }) less

  one_more : TakenAll before after (n ∷ numbers)
  one_more = record {
    lawful = rest.lawful;
    fields = fields_now;
    others = λ m no_map. rest.others m no_map ∙ t.others m (λ e. absurd (omega (arith, e, no_map)));
    distinct = distinct_more n numbers other rest.distinct;
    numbered = All-from_recursion (IsTreeNumber (fields_of before).total) (n ∷ numbers) numbered;
    were_free = λ m there. whole.taken m (number m there).no_map there refl;
    busy = λ m there.
        whole.busy m (omega (arith, (number m there).within, whole.limits.total)) (number m there).no_map
        ∙ or_left (has_block (n ∷ numbers) m) _ there;
    reshapes = whole;
  }

pub taken : (before after numbers : List ℕ) → IsLawful before → TakesAll before after numbers
    → TakenAll before after numbers
taken before after [] l t = subst (λ file. TakenAll before file []) (sym t) (none_taken before l)
taken before after (n ∷ numbers) l t =
    one_more before t.0 after n numbers t.1 t.2 (taken t.0 after numbers t.3 t.4)
