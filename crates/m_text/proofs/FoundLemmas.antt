-- A front and the text behind it.
use Rattle.std.proofs.Common.{◌≡◌, ℕ, List, [], ◌++◌, Option, None, Some, refl, sym, ap}
use Rattle.std.proofs.lemmas.List.{append_assoc}
use Rattle.m_text.specs.Front.{Found, with_front}

-- what a front was put before
pub record IsFronted (front : List ℕ) (found : Option Found) (bytes rest : List ℕ) : Type 0 where
  pub behind_front : List ℕ
  pub is : found ≡ Some (behind_front, rest)
  pub bytes_are : bytes ≡ front ++ behind_front

from_some : Found → Option Found → Found
from_some d None = d
from_some d (Some p) = p

pub pair_of : (a b x y : List ℕ) → ◌≡◌ {A = Option Found} (Some (a, b)) (Some (x, y)) → (a ≡ x) × (b ≡ y)
unfolding from_some
pair_of a b x y e =
    let f : Found → List ℕ = λ p. p.0 in
    let g : Found → List ℕ = λ p. p.1 in
    let pair : ◌≡◌ {A = Found} (a, b) (x, y) = ap (from_some (a, b)) e in
    (ap f pair, ap g pair)

pub fronted : (front : List ℕ) (found : Option Found) (bytes rest : List ℕ)
    → with_front front found ≡ Some (bytes, rest) → IsFronted front found bytes rest
fronted front None bytes rest e = absurd (cc)
fronted front (Some x) bytes rest e =
    let p = pair_of (front ++ x.0) x.1 bytes rest e in
    record { behind_front = x.0; is = ap (λ (r : List ℕ). Some (x.0, r)) p.1; bytes_are = sym p.0 }

pub with_front-nil : (found : Option Found) → with_front [] found ≡ found
with_front-nil None = refl
with_front-nil (Some x) = refl

pub with_front-with_front : (a b : List ℕ) (found : Option Found)
    → with_front a (with_front b found) ≡ with_front (a ++ b) found
with_front-with_front a b None = refl
with_front-with_front a b (Some x) = ap (λ (t : List ℕ). Some (t, x.1)) (sym (append_assoc a b x.0))

pub with_front-none : (front : List ℕ) (found : Option Found) → with_front front found ≡ None → found ≡ None
with_front-none front None e = refl
with_front-none front (Some x) e = absurd (cc)
