-- What holds where a call answered Ok, and what where it was refused.
use Rattle.std.proofs.Common.{◌≡◌, refl}
use Rattle.std.specs.Prelude.{Result, Ok, Err, OnOk, OnErr}

module _ {T E : Type 0} where
  pub on_ok : (r : Result T E) (P Q : Type 0) → OnOk r P → (P → Q) → OnOk r Q
  on_ok (Ok x) P Q h f = f h
  on_ok (Err e) P Q h f = tt

  pub at_ok : (r : Result T E) (x : T) (P : Type 0) → r ≡ Ok x → OnOk r P → P
  at_ok (Ok y) x P e h = h
  at_ok (Err y) x P e h = absurd (cc)

  pub at_err : (r : Result T E) (y : E) (P : Type 0) → r ≡ Err y → OnErr r P → P
  at_err (Ok x) y P e h = absurd (cc)
  at_err (Err x) y P e h = h

  pub only_ok : (r : Result T E) (x : T) (P Q : Type 0) → r ≡ Ok x → P → OnOk r P × OnErr r Q
  only_ok (Ok y) x P Q e h = (h, tt)
  only_ok (Err y) x P Q e h = absurd (cc)

  pub only_err : (r : Result T E) (y : E) (P Q : Type 0) → r ≡ Err y → Q → OnOk r P × OnErr r Q
  only_err (Ok x) y P Q e h = absurd (cc)
  only_err (Err x) y P Q e h = (tt, h)

  pub either : (r : Result T E) (P Q : Type 0) → ((x : T) → r ≡ Ok x → P) → ((y : E) → r ≡ Err y → Q)
      → OnOk r P × OnErr r Q
  either (Ok x) P Q f g = (f x refl, tt)
  either (Err y) P Q f g = (tt, g y refl)
