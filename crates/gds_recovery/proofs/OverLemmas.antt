-- Images laid over a database file: what stays outside their ranges.
use Rattle.std.proofs.Common.{ℕ, zero, suc, ◌+◌, ◌<◌, ◌≤◌, List, [], ◌∷◌, length, get_or, refl, ◌∙◌}
use Rattle.std.proofs.Common.{inl, inr, ⊎_elim, arith}
use Rattle.std.proofs.lemmas.Bool.{cases_lt}
use Rattle.host_model.specs.Disk.{Torn}
use Rattle.gds_images.specs.declared.chain.Place.{Place}
use Rattle.gds_images.specs.Laws.{IsCovered}
use Rattle.gds_recovery.specs.Steps.{LaysOver}

pub LaysOver-refl : (places : List Place) (file : List ℕ) → LaysOver places file file
LaysOver-refl places file = record { no_shorter = omega arith; outside = λ i within out. refl }

pub LaysOver-then : (places : List Place) (a b c : List ℕ) → LaysOver places a b → LaysOver places b c
    → LaysOver places a c
LaysOver-then places a b c first second =
    let longer = first.no_shorter in
    record {
      no_shorter = omega (arith, second.no_shorter);
      outside = λ i within out. second.outside i (omega arith) out ∙ first.outside i within out;
    }

-- Of more images as well.
pub LaysOver-more : (some more : List Place) (a b : List ℕ) → ((i : ℕ) → IsCovered some i → IsCovered more i)
    → LaysOver some a b → LaysOver more a b
LaysOver-more some more a b covers over = record {
  no_shorter = over.no_shorter;
  outside = λ i within out. over.outside i within (λ covered. out (covers i covered));
}

-- What an image of a list covers, the list covers.
pub IsCovered-one : (places : List Place) (k : ℕ) (d : Place) → k < length places
    → (i : ℕ) → IsCovered (get_or places k d ∷ []) i → IsCovered places i
IsCovered-one [] k d lt i covered = absurd (omega arith)
IsCovered-one (place ∷ places) zero d lt i covered = ⊎_elim inl (λ none. absurd none) covered
IsCovered-one (place ∷ places) (suc k) d lt i covered = inr (IsCovered-one places k d (omega arith) i covered)

-- a torn write within an image's range
pub torn-LaysOver : (place : Place) (at n : ℕ) (a b : List ℕ) → place.at ≤ at → at + n ≤ place.at + place.len
    → Torn at n a b → LaysOver (place ∷ []) a b
torn-LaysOver place at n a b from to torn = record {
  no_shorter = torn.no_shorter;
  outside = λ i within out. ⊎_elim
      (λ (before : i < at). torn.before i within before)
      (λ (behind : at ≤ i). ⊎_elim
      (λ (inside : i < at + n). absurd (out (inl (omega arith, omega arith))))
      (λ (past : at + n ≤ i). torn.behind i within past)
      (cases_lt i (at + n)))
      (cases_lt i at);
}
