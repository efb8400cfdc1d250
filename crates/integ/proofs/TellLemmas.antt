-- How what a sink is told adds up: over a loop, and over two calls.
use Rattle.std.proofs.Common.{ℕ, ◌≡◌, ◌≤◌, List, [], ◌++◌, length, ◌∙◌, ap, subst, arith, append_assoc}
use Rattle.std.specs.Prelude.{Result, Ok, Err}
use Rattle.std.proofs.lemmas.List.{append-nil}
use Rattle.gds_law.specs.declared.fault.Fault.{Fault}
use Rattle.gds_law.specs.Sink.{WasTold}
use Rattle.gds_law.proofs.SinkLemmas.{Reached, Reached-none, Reached-all, Reached-front, WasTold-ok, WasTold-refused}

-- Where nothing is left, all of it was told.
pub counted-end : {A : Type 0} (old now rest whole : List A) (n : ℕ) → Reached old now rest whole n → rest ≡ []
    → (now ≡ old ++ whole) × (n ≡ length whole)
counted-end {A} old now rest whole n reached e =
    Reached-all old now whole n (subst (λ (xs : List A). Reached old now xs whole n) e reached)

module _ {S : Type 0} (list : S → List Fault) (count : S → ℕ) where
  pub told-end : {T E : Type 0} (old now : S) (rest whole : List Fault) (n : ℕ) (x : T) (failed : E)
      → Reached (list old) (list now) rest whole n → rest ≡ [] → count old ≤ count now
      → WasTold list count old now whole (Ok x) failed
  told-end old now rest whole n x failed reached e le =
      WasTold-ok list count old now whole x failed (counted-end (list old) (list now) rest whole n reached e).0 le

  -- The first of two calls is refused, or the second, or none.
  pub first-refused : {T U E F : Type 0} (old new : S) (xs rest : List Fault) (failed y : E) (r : Result U F)
      (other z : F)
      → WasTold {T = T} list count old new xs (Err y) failed → r ≡ Err z → (z ≡ other → y ≡ failed)
      → WasTold list count old new (xs ++ rest) r other
  first-refused old new xs rest failed y r other z told is same =
      WasTold-refused list count old old new xs rest (xs ++ rest) 0 failed y r other z
      (Reached-none (list old) (xs ++ rest)) (omega arith) told is same

  pub second-refused : {T U E F : Type 0} (old now new : S) (xs ys : List Fault) (failed y : E) (r : Result U F)
      (other z : F)
      → list now ≡ list old ++ xs → count old ≤ count now
      → WasTold {T = T} list count now new ys (Err y) failed → r ≡ Err z → (z ≡ other → y ≡ failed)
      → WasTold list count old new (xs ++ ys) r other
  second-refused old now new xs ys failed y r other z e le told is same =
      WasTold-refused list count old now new ys [] (xs ++ ys) (length xs) failed y r other z
      (Reached-front (list old) (list now) xs (ys ++ []) (xs ++ ys) e (ap (λ zs. xs ++ zs) (append-nil ys))) le told
      is same

  pub both-told : {T E : Type 0} (old now new : S) (xs ys : List Fault) (x : T) (failed : E)
      → list now ≡ list old ++ xs → count old ≤ count now → list new ≡ list now ++ ys → count now ≤ count new
      → WasTold list count old new (xs ++ ys) (Ok x) failed
  both-told old now new xs ys x failed e le f more =
      WasTold-ok list count old new (xs ++ ys) x failed
      (f ∙ ap (λ zs. zs ++ ys) e ∙ append_assoc (list old) xs ys) (omega (arith, le, more))
