-- How far a list has come that is to grow by another one, item by item or in runs; and the same of a sink.
use Rattle.std.proofs.Common.{ℕ, ◌≡◌, ◌+◌, ◌≤◌, List, [], ◌++◌, length, take, refl, sym, ◌∙◌, ap, subst, arith}
use Rattle.std.proofs.Common.{append_assoc, length-append}
use Rattle.std.specs.Prelude.{OnErr, Result, Ok, Err}
use Rattle.std.proofs.lemmas.List.{append-nil, take-append-drop, take_all, take_at}
use Rattle.host_model.specs.Failures.{Rose}
use Rattle.gds_law.specs.declared.fault.Fault.{Fault}
use Rattle.gds_law.specs.Sink.{IsCut, Grew, WasTold}

-- The list was old, and is now by some items longer, count of them. They and the rest are the whole.
pub record Reached {A : Type 0} (old now rest whole : List A) (count : ℕ) : Type 0 where
  pub done : List A
  pub so_far : now ≡ old ++ done
  pub parts : done ++ rest ≡ whole
  pub counted : count ≡ length done

module _ {A : Type 0} where
  pub Reached-none : (old whole : List A) → Reached old old whole whole 0
  Reached-none old whole = record { done = []; so_far = sym (append-nil old); parts = refl; counted = refl }

  pub Reached-more : (old now later xs rest whole : List A) (count total : ℕ) → Reached old now (xs ++ rest) whole count
      → later ≡ now ++ xs → total ≡ count + length xs → Reached old later rest whole total
  Reached-more old now later xs rest whole count total r e n = record {
    done = r.done ++ xs;
    so_far = e ∙ ap (λ ys. ys ++ xs) r.so_far ∙ append_assoc old r.done xs;
    parts = append_assoc r.done xs rest ∙ r.parts;
    counted = omega (arith, r.counted, length-append r.done xs);
  }

  pub Reached-all : (old now whole : List A) (count : ℕ) → Reached old now [] whole count
      → (now ≡ old ++ whole) × (count ≡ length whole)
  Reached-all old now whole count r =
      let same : r.done ≡ whole = sym (append-nil r.done) ∙ r.parts in
      (r.so_far ∙ ap (λ ys. old ++ ys) same, r.counted ∙ ap length same)

  take_part : (done xs rest : List A) (n : ℕ) → (m : ℕ) × (done ++ take n xs ≡ take m (done ++ (xs ++ rest)))
  take_part done xs rest n =
      let front = done ++ take n xs in (
        length front,
        sym
            (ap (take (length front))
            (ap (λ ys. done ++ (ys ++ rest)) (sym (take-append-drop n xs))
            ∙ ap (λ ys. done ++ ys) (append_assoc (take n xs) _ rest)
            ∙ sym (append_assoc done (take n xs) _))
            ∙ take_at front _ (length front) refl),
      )

  pub IsCut-more : (old now later xs rest whole : List A) (count : ℕ) → Reached old now (xs ++ rest) whole count
      → IsCut now later xs → IsCut old later whole
  IsCut-more old now later xs rest whole count r (n, e) =
      let part = take_part r.done xs rest n in (
        part.0,
        e ∙ ap (λ ys. ys ++ take n xs) r.so_far ∙ append_assoc old r.done (take n xs)
            ∙ ap (λ ys. old ++ ys) (part.1 ∙ ap (take part.0) r.parts),
      )

  -- Nothing more was added.
  pub IsCut-stop : (old now later rest whole : List A) (count : ℕ) → Reached old now rest whole count
      → later ≡ now → IsCut old later whole
  IsCut-stop old now later rest whole count r e = (
    length r.done,
    e ∙ r.so_far
        ∙ ap (λ ys. old ++ ys) (sym (take_at r.done rest (length r.done) refl) ∙ ap (take (length r.done)) r.parts),
  )

  -- Some items were added before those.
  pub Reached-front : (old now front rest whole : List A) → now ≡ old ++ front → front ++ rest ≡ whole
      → Reached old now rest whole (length front)
  Reached-front old now front rest whole e w = record { done = front; so_far = e; parts = w; counted = refl }

  pub IsCut-behind : (old now later front xs whole : List A) → now ≡ old ++ front → front ++ xs ≡ whole
      → IsCut now later xs → IsCut old later whole
  IsCut-behind old now later front xs whole e w cut =
      IsCut-more old now later xs [] whole (length front)
      (Reached-front old now front (xs ++ []) whole e (ap (λ ys. front ++ ys) (append-nil xs) ∙ w)) cut

  -- More would have been added behind them.
  pub IsCut-front : (old later xs rest whole : List A) → xs ++ rest ≡ whole → IsCut old later xs → IsCut old later whole
  IsCut-front old later xs rest whole w cut =
      IsCut-more old old later xs rest whole 0 (record {
        done = [];
        so_far = sym (append-nil old);
        parts = w;
        counted =
            refl;
      }) cut

  -- Nothing was added.
  pub IsCut-none : (old whole : List A) → IsCut old old whole
  IsCut-none old whole = IsCut-stop old old old whole whole 0 (Reached-none old whole) refl

  -- All of it was added.
  pub IsCut-all : (old now whole : List A) → now ≡ old ++ whole → IsCut old now whole
  IsCut-all old now whole e =
      (length whole, e ∙ ap (λ ys. old ++ ys) (sym (take_all (length whole) whole (omega arith))))

pub OnErr-any : {T E : Type 0} (r : Result T E) (P : Type 0) → P → OnErr r P
OnErr-any (Ok x) P h = tt
OnErr-any (Err e) P h = h

-- ---- a list, by the result of the call

module _ {A T E : Type 0} (old new due : List A) where
  pub Grew-ok : (x : T) → new ≡ old ++ due → Grew {T = T} {E = E} old new due (Ok x)
  Grew-ok x e = record { all = e; some = tt }

  pub Grew-err : (r : Result T E) (y : E) → r ≡ Err y → IsCut old new due → Grew old new due r
  Grew-err r y is cut =
      let P : Result T E → Type 0 = λ q. Grew old new due q in
      subst P (sym is) (record { all = tt; some = cut })

  -- A refusal is handed on.
  pub Grew-handed : {U F : Type 0} (y : E) (r : Result U F) (z : F) → Grew {T = T} old new due (Err y) → r ≡ Err z
      → Grew old new due r
  Grew-handed {U} {F} y r z grew is =
      let P : Result U F → Type 0 = λ q. Grew old new due q in
      subst P (sym is) (record { all = tt; some = grew.some })

-- ---- a sink

same_error : {T E : Type 0} (r : Result T E) (y z : E) → r ≡ Err y → r ≡ Err z → y ≡ z
same_error r y z h k = cc

module _ {S : Type 0} (list : S → List Fault) (count : S → ℕ) where
  pub WasTold-ok : {T E : Type 0} (old new : S) (due : List Fault) (x : T) (failed : E)
      → list new ≡ list old ++ due → count old ≤ count new → WasTold list count old new due (Ok x) failed
  WasTold-ok old new due x failed e le =
      record { faults = Grew-ok (list old) (list new) due x e; failures = le; rose = λ h. absurd (cc) }

  pub WasTold-err : {T E : Type 0} (old new : S) (due : List Fault) (r : Result T E) (failed y : E) → r ≡ Err y
      → IsCut (list old) (list new) due → count old ≤ count new → (y ≡ failed → Rose (count old) (count new))
      → WasTold list count old new due r failed
  WasTold-err {T} {E} old new due r failed y is cut le rose =
      let P : Result T E → Type 0 = λ q. WasTold list count old new due q failed in
      subst P (sym is)
      (record {
        faults = record { all = tt; some = cut };
        failures = le;
        rose =
            λ h. rose (same_error (Err y) y failed refl h);
      })

  -- A refusal is handed on.
  pub WasTold-handed : {T U E F : Type 0} (old new : S) (due : List Fault) (failed y : E) (r : Result U F) (other z : F)
      → WasTold {T = T} list count old new due (Err y) failed → r ≡ Err z → (z ≡ other → y ≡ failed)
      → WasTold list count old new due r other
  WasTold-handed old new due failed y r other z told is same =
      WasTold-err old new due r other z is told.faults.some told.failures (λ e. told.rose (ap Err (same e)))

  -- A sink that was told a part of what is due is told the next part, and the call is refused.
  pub WasTold-refused : {T U E F : Type 0} (old now new : S) (xs rest whole : List Fault) (n : ℕ)
      (failed : E) (y : E) (r : Result U F) (other z : F)
      → Reached (list old) (list now) (xs ++ rest) whole n → count old ≤ count now
      → WasTold {T = T} list count now new xs (Err y) failed
      → r ≡ Err z → (z ≡ other → y ≡ failed) → WasTold list count old new whole r other
  WasTold-refused old now new xs rest whole n failed y r other z reached le told is same =
      WasTold-err old new whole r other z is
      (IsCut-more (list old) (list now) (list new) xs rest whole n reached told.faults.some)
      (omega (arith, le, told.failures))
      (λ e. let rose = told.rose (ap Err (same e)) in omega (arith, le, rose))

  -- It is told the last part, and the call answers what that answered.
  pub WasTold-last : {T E : Type 0} (old now new : S) (xs whole : List Fault) (n : ℕ) (failed : E) (r : Result T E)
      → Reached (list old) (list now) xs whole n → count old ≤ count now
      → WasTold list count now new xs r failed → WasTold list count old new whole r failed
  WasTold-last {T} {E} old now new xs whole n failed (Ok x) reached le told =
      let end = Reached-all (list old) (list new) whole _
      (Reached-more (list old) (list now) (list new) xs [] whole n (n + length xs)
      (subst (λ (ys : List Fault). Reached (list old) (list now) ys whole n) (sym (append-nil xs)) reached)
      told.faults.all refl) in
      WasTold-ok old new whole x failed end.0 (omega (arith, le, told.failures))
  WasTold-last {T} {E} old now new xs whole n failed (Err y) reached le told =
      WasTold-refused {T = T} old now new xs [] whole n failed y (Err y) failed y
      (subst (λ (ys : List Fault). Reached (list old) (list now) ys whole n) (sym (append-nil xs)) reached)
      le told refl (λ e. e)
