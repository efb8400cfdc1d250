-- When a key follows another one with nothing wrong.
use Rattle.std.proofs.Common.{ℕ, zero, suc, ◌≡◌, ◌+◌, ◌-◌, ◌<◌, ◌≤◌, ◌⊎◌, inl, inr, true, List, []}
use Rattle.std.proofs.Common.{◌∷◌, ◌++◌, length, get_or, take, drop, refl, sym, ◌∙◌, ap, subst}
use Rattle.std.proofs.Common.{arith, append_assoc, length-append, length-take}
use Rattle.std.specs.Prelude.{count_by, ◌==◌, slice_index}
use Rattle.std.proofs.lemmas.List.{drop_at, take-append-drop, take-append-le, take-take, get_or-take}
use Rattle.std.proofs.lemmas.List.{take_rest}
use Rattle.gds_header.specs.declared.header.Header.{Header}
use Rattle.m_key.specs.KeyEnd.{shared}
use Rattle.m_key.proofs.KeyEndLemmas.{end_within-some}
use Rattle.m_key.specs.Node.{is_name}
use Rattle.gds_law.specs.Record.{is_below}
use Rattle.integ_quick.specs.Subscripts.{AreSubscripts, IsKeyOf, IsStart}
use Rattle.integ_quick.specs.Record.{EndsIn, Follows}
use Rattle.integ_quick.proofs.OrderLemmas.{is_below-parted, shared-parted}
use Rattle.integ_quick.proofs.SubscriptLemmas.{name_part-key, key_fault-none, few-short, few-counted}
use Rattle.integ_quick.proofs.SubscriptLemmas.{AreSubscripts-spliced}

-- So few bytes, or so few zeros, leave no room for more than 31 subscripts.
abbrev pub HasFew : List ℕ → Type 0
HasFew key = (length key ≤ 66) ⊎ (count_by (λ b. b == 0) key ≤ 33)

few : (name key : List ℕ) → is_name name ≡ true → (k : IsKeyOf name key) → HasFew key → length k.subscripts.parts ≤ 31
few name key named k (inl h) = few-short name key named k h
few name key named k (inr h) = few-counted name key named k h

module _ (header : Header) (name previous : List ℕ) (count : ℕ) (body key : List ℕ) (named : is_name name ≡ true)
    (ending : EndsIn header previous count body key) (has_few : HasFew key) where
  follows : count ≡ shared previous key → is_below previous key ≡ true → IsKeyOf name key
      → Follows header name previous count body key
  follows s b k = record {
    ending = ending;
    shares = s;
    rises = b;
    right = k;
    named = name_part-key name key named k;
    faultless = key_fault-none name key named k (few name key named k has_few);
  }

-- ---- the first key

some_key : (name rest : List ℕ) → is_below [] (name ++ 0 ∷ rest) ≡ true
some_key [] rest = refl
some_key (b ∷ name) rest = refl

pub Follows-first : (header : Header) (name old : List ℕ) (count : ℕ) (body key : List ℕ) → is_name name ≡ true
    → old ≡ [] → EndsIn header old count body key → HasFew key
    → count ≡ 0 → key ≡ name ++ 0 ∷ drop (length name + 1) key → AreSubscripts (drop (length name + 1) key)
    → Follows header name [] count body key
Follows-first header name old count body key named none ending has_few first whole subscripts =
    follows header name [] count body key named (subst (λ xs. EndsIn header xs count body key) none ending) has_few
    first
    (ap (is_below []) whole ∙ some_key name _)
    (record { rest = drop (length name + 1) key; whole = whole; subscripts = subscripts })

-- ---- a further key

first_changed : (body : List ℕ) (n : ℕ) → 1 ≤ n → 1 ≤ length body
    → (rest : List ℕ) × (take n body ≡ get_or body 0 0 ∷ rest)
first_changed [] n h l = absurd (omega arith)
first_changed (b ∷ body) zero h l = absurd (omega arith)
first_changed (b ∷ body) (suc n) h l = (take n body, refl)

module _ (header : Header) (name previous : List ℕ) (count : ℕ) (body key : List ℕ)
    (ending : EndsIn header previous count body key) (less : count < length previous) (some : 1 ≤ length body)
    (above : get_or previous count 0 < get_or body 0 0) where
  changed : (rest : List ℕ) × (take ending.key_end body ≡ get_or body 0 0 ∷ rest)
  changed = first_changed body ending.key_end
      (end_within-some header.key_max (take count previous) body ending.key_end ending.ends) some

  key-parted : key ≡ take count previous ++ get_or body 0 0 ∷ changed.0
  key-parted = ending.bytes ∙ ap (λ xs. take count previous ++ xs) changed.1

  rises : is_below previous key ≡ true
  rises = ap (is_below previous) key-parted ∙ is_below-parted previous count (get_or body 0 0) changed.0 less above

  shares : count ≡ shared previous key
  shares = sym (ap (shared previous) key-parted ∙ shared-parted (get_or body 0 0) changed.0 previous count less above)

  -- the same bytes before a place that isn't behind the count
  same_front : (n : ℕ) → n ≤ count → take n key ≡ take n previous
  same_front n h =
      ap (take n) ending.bytes
      ∙ take-append-le n (take count previous) _ (omega (arith, length-take count previous))
      ∙ take-take n count previous h

  pub Follows-next : is_name name ≡ true → HasFew key → (k : IsKeyOf name previous) → length name < count
      → (start : ℕ) → (bytes : List ℕ) → bytes ≡ take (count - (length name + 1)) (drop (length name + 1) previous)
      → start ≤ length bytes → IsStart bytes start → AreSubscripts (drop (length name + 1 + start) key)
      → Follows header name previous count body key
  Follows-next named has_few k behind start bytes is within at subscripts =
      follows header name previous count body key named ending has_few shares rises
      (record {
        rest = take start k.rest ++ drop (length name + 1 + start) key;
        whole = sym (take-append-drop (length name + 1 + start) key)
            ∙ ap (λ xs. xs ++ drop (length name + 1 + start) key) front
            ∙ append_assoc name (0 ∷ take start k.rest) (drop (length name + 1 + start) key);
        subscripts =
            AreSubscripts-spliced (drop (length name + 1 + start) key) subscripts k.rest start k.subscripts start-less
            start-at;
      })
    where
      size : length previous ≡ length name + 1 + length k.rest
      size = omega (arith, ap length k.whole, length-append name (0 ∷ k.rest))

      behind-name : drop (length name + 1) previous ≡ k.rest
      behind-name =
          ap (drop (length name + 1)) (k.whole ∙ sym (append_assoc name (0 ∷ []) k.rest))
          ∙ drop_at (name ++ 0 ∷ []) k.rest (length name + 1) (omega (arith, length-append name (0 ∷ [])))

      slice : bytes ≡ take (count - (length name + 1)) k.rest
      slice = is ∙ ap (take (count - (length name + 1))) behind-name

      start-within : start ≤ count - (length name + 1)
      start-within = omega (arith, within, ap length slice, length-take (count - (length name + 1)) k.rest)

      start-less : start < length k.rest
      start-less = omega (arith, start-within, size)

      start-at : IsStart k.rest start
      start-at = elim at [ inl h ↦ inl h | inr h ↦ at-zero start start-within h ]
        where
          at-zero : (n : ℕ) → n ≤ count - (length name + 1) → slice_index bytes (n - 1) ≡ 0 → IsStart k.rest n
          at-zero zero l h = inl refl
          at-zero (suc n) l h =
              inr
              (sym (get_or-take (count - (length name + 1)) k.rest (suc n - 1) 0 (omega arith))
              ∙ ap (λ xs. slice_index xs (suc n - 1)) (sym slice) ∙ h)

      front : take (length name + 1 + start) key ≡ name ++ 0 ∷ take start k.rest
      front =
          same_front (length name + 1 + start) (omega (arith, start-within))
          ∙ ap (take (length name + 1 + start)) k.whole
          ∙ front_named name k.rest
        where
          front_named : (name rest : List ℕ)
              → take (length name + 1 + start) (name ++ 0 ∷ rest) ≡ name ++ 0 ∷ take start rest
          front_named [] rest = ap (λ n. take n (0 ∷ rest)) (let e : 0 + 1 + start ≡ suc start = omega arith in e)
          front_named (b ∷ name) rest =
              ap (λ n. take n (b ∷ (name ++ 0 ∷ rest)))
              (let e : suc (length name) + 1 + start ≡ suc (length name + 1 + start) = omega arith in e)
              ∙ ap (λ xs. b ∷ xs) (front_named name rest)

-- the bytes of a slice from a place on
pub AreSubscripts-slice : (xs ys : List ℕ) (n : ℕ) → xs ≡ ys → AreSubscripts (take (length xs - n) (drop n xs))
    → AreSubscripts (drop n ys)
AreSubscripts-slice xs ys n e h = subst (λ zs. AreSubscripts (drop n zs)) e (subst AreSubscripts (take_rest xs n) h)
