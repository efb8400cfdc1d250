-- Rising lists whose elements a rule settles, which asks of a value no more than which smaller ones are elements. There
-- is
-- just one such list, if only finitely many values can be elements.
use Rattle.std.proofs.Common.{◌≡◌, List, [], ◌∷◌, ◌++◌, ◌⊎◌, inl, inr, Ordering, Less, Equal, Greater, refl, sym, subst}
use Rattle.std.proofs.Common.{append_assoc}
use Rattle.std.specs.Cmp.{IsTotalOrder}
use Rattle.std.specs.FinMap.{IsAntisymmetric}
use Rattle.gds_law.proofs.MembershipLemmas.{IsIn, in_left, in_right, in_either, Decided}
use Rattle.gds_law.proofs.RisingLemmas.{Rising, rises, Rising-behind, Rising-without, not_below_itself}
use Rattle.gds_law.proofs.RisingLemmas.{below_from_above, not_both_below, arranged}

module _ {A : Type 0} (cmp : A → A → Ordering) where
  -- the elements are those that the rule allows, and the list rises
  pub record IsSettled (rule : List A → A → Type 0) (xs : List A) : Type 0 where
    pub rising : Rising cmp xs
    pub allowed : (x : A) → IsIn xs x → rule xs x
    pub whole : (x : A) → rule xs x → IsIn xs x

  -- Below x the lists have the same elements.
  pub record AgreeBelow (xs ys : List A) (x : A) : Type 0 where
    pub there : (y : A) → cmp y x ≡ Less → IsIn xs y → IsIn ys y
    pub back : (y : A) → cmp y x ≡ Less → IsIn ys y → IsIn xs y

  abbrev pub IsLocal : (List A → A → Type 0) → Type 0
  IsLocal rule = (xs ys : List A) (x : A) → AgreeBelow xs ys x → rule xs x → rule ys x

module _ (A : Type 0) (cmp : A → A → Ordering) (total : IsTotalOrder cmp) (exact : IsAntisymmetric cmp) where
  not_after : (y : A) (ys : List A) (x : A) → Rising cmp (x ∷ ys) → cmp y x ≡ Less → IsIn (x ∷ ys) y → ⊥
  not_after y ys x r h (inl e) = not_below_itself A cmp total exact x (subst (λ w. cmp w x ≡ Less) (sym e) h)
  not_after y ys x r h (inr i) = not_both_below A cmp total exact y x h (r.0 y i)

  -- what stands from x on counts for nothing below x
  front_agrees : (xs ys : List A) (x : A) → ((y : A) → cmp y x ≡ Less → IsIn ys y → ⊥) → AgreeBelow cmp xs (xs ++ ys) x
  front_agrees xs ys x none = record {
    there = λ y h i. in_left xs ys y i;
    back = λ y h i. elim (in_either xs ys y i) [ inl j ↦ j | inr j ↦ absurd (none y h j) ];
  }

  turned : (xs ys : List A) (x : A) → AgreeBelow cmp xs ys x → AgreeBelow cmp ys xs x
  turned xs ys x a = record { there = a.back; back = a.there }

  module _ (rule : List A → A → Type 0) (local : IsLocal cmp rule) where
    -- Behind a common front the smaller of two heads would be allowed in both lists.
    no_first : (xs : List A) (x : A) (ps qs : List A) → IsSettled cmp rule (xs ++ x ∷ ps)
        → IsSettled cmp rule (xs ++ qs) → ((y : A) → IsIn qs y → cmp x y ≡ Less) → ⊥
    no_first xs x ps qs a b later = by (in_either xs qs x (b.whole x right))
      where
        at_front : rule xs x
        at_front =
            local (xs ++ x ∷ ps) xs x
            (turned _ _ x (front_agrees xs (x ∷ ps) x
            (λ y h i. not_after y ps x (Rising-behind cmp xs (x ∷ ps) a.rising) h i)))
            (a.allowed x (in_right xs (x ∷ ps) x (inl refl)))

        right : rule (xs ++ qs) x
        right = local xs (xs
            ++ qs) x (front_agrees xs qs x (λ y h i. not_both_below A cmp total exact y x h (later y i))) at_front

        by : IsIn xs x ⊎ IsIn qs x → ⊥
        by (inl i) = not_below_itself A cmp total exact x (rises cmp xs (x ∷ ps) a.rising x x i (inl refl))
        by (inr i) = not_below_itself A cmp total exact x (later x i)

    later_too : (p q : A) (qs : List A) → cmp p q ≡ Less → Rising cmp (q ∷ qs) → (y : A) → IsIn (q ∷ qs) y
        → cmp p y ≡ Less
    later_too p q qs h r y (inl e) = subst (λ w. cmp p w ≡ Less) e h
    later_too p q qs h r y (inr i) = total.trans p q y h (r.0 y i)

    same_rest : (xs ps qs : List A) → IsSettled cmp rule (xs ++ ps) → IsSettled cmp rule (xs ++ qs) → ps ≡ qs
    same_rest xs [] [] a b = refl
    same_rest xs [] (q ∷ qs) a b = absurd (no_first xs q qs [] b a (λ y i. absurd i))
    same_rest xs (p ∷ ps) [] a b = absurd (no_first xs p ps [] a b (λ y i. absurd i))
    same_rest xs (p ∷ ps) (q ∷ qs) a b = by (cmp p q) refl (same_rest (xs ++ p ∷ []) ps qs)
      where
        by : (o : Ordering) → cmp p q ≡ o
            → (IsSettled cmp rule ((xs ++ p ∷ []) ++ ps) → IsSettled cmp rule ((xs ++ p ∷ []) ++ qs) → ps ≡ qs)
            → p ∷ ps ≡ q ∷ qs
        by Less h next =
            absurd (no_first xs p ps (q ∷ qs) a b (later_too p q qs h (Rising-behind cmp xs (q ∷ qs) b.rising)))
        by Greater h next =
            absurd (no_first xs q qs (p ∷ ps) b a (later_too q p ps (below_from_above A cmp total exact p q h)
            (Rising-behind cmp xs (p ∷ ps) a.rising)))
        by Equal h next =
            let e = exact p q h in
            let c : IsSettled cmp rule (xs ++ p ∷ qs) = subst (λ w. IsSettled cmp rule (xs ++ w ∷ qs)) (sym e) b in
            let rest = next
            (subst (IsSettled cmp rule) (sym (append_assoc xs (p ∷ []) ps)) a)
            (subst (IsSettled cmp rule) (sym (append_assoc xs (p ∷ []) qs)) c) in
            λ i. e i ∷ rest i

    -- There are no two.
    pub one_settled : (xs ys : List A) → IsSettled cmp rule xs → IsSettled cmp rule ys → xs ≡ ys
    one_settled xs ys a b = same_rest [] xs ys a b

    -- what goes behind a front, where the rest of the values is still to be decided
    record IsRest (xs todo ys : List A) : Type 0 where
      rising : Rising cmp (xs ++ ys)
      among : (x : A) → IsIn ys x → IsIn todo x
      allowed : (x : A) → IsIn ys x → rule (xs ++ ys) x
      whole : (x : A) → IsIn todo x → rule (xs ++ ys) x → IsIn ys x

    later_agrees : (xs : List A) (q : A) (todo ys : List A) → Rising cmp (q ∷ todo)
        → ((y : A) → IsIn ys y → IsIn (q ∷ todo) y) → AgreeBelow cmp xs (xs ++ ys) q
    later_agrees xs q todo ys r among = front_agrees xs ys q (λ y h i. not_after y todo q r h (among y i))

    kept : (xs : List A) (q : A) (todo ys : List A) → Rising cmp (xs ++ q ∷ todo) → rule xs q
        → IsRest (xs ++ q ∷ []) todo ys → IsRest xs (q ∷ todo) (q ∷ ys)
    kept xs q todo ys r h s =
        record { rising = subst (Rising cmp) assoc s.rising; among = among; allowed = allowed; whole = whole }
      where
        assoc : (xs ++ q ∷ []) ++ ys ≡ xs ++ q ∷ ys
        assoc = append_assoc xs (q ∷ []) ys

        among : (x : A) → IsIn (q ∷ ys) x → IsIn (q ∷ todo) x
        among x (inl e) = inl e
        among x (inr i) = inr (s.among x i)

        first : rule (xs ++ q ∷ ys) q
        first = local xs (xs ++ q ∷ ys) q (later_agrees xs q todo (q ∷ ys) (Rising-behind cmp xs (q ∷ todo) r) among) h

        allowed : (x : A) → IsIn (q ∷ ys) x → rule (xs ++ q ∷ ys) x
        allowed x (inl e) = subst (rule (xs ++ q ∷ ys)) e first
        allowed x (inr i) = subst (λ l. rule l x) assoc (s.allowed x i)

        whole : (x : A) → IsIn (q ∷ todo) x → rule (xs ++ q ∷ ys) x → IsIn (q ∷ ys) x
        whole x (inl e) k = inl e
        whole x (inr i) k = inr (s.whole x i (subst (λ l. rule l x) (sym assoc) k))

    dropped : (xs : List A) (q : A) (todo ys : List A) → Rising cmp (xs ++ q ∷ todo) → (rule xs q → ⊥)
        → IsRest xs todo ys → IsRest xs (q ∷ todo) ys
    dropped xs q todo ys r no_rule s =
        record { rising = s.rising; among = λ x i. inr (s.among x i); allowed = s.allowed; whole = whole }
      where
        agrees : AgreeBelow cmp xs (xs ++ ys) q
        agrees = later_agrees xs q todo ys (Rising-behind cmp xs (q ∷ todo) r) (λ y i. inr (s.among y i))

        whole : (x : A) → IsIn (q ∷ todo) x → rule (xs ++ ys) x → IsIn ys x
        whole x (inl e) k =
            absurd (no_rule (local (xs ++ ys) xs q (turned xs (xs ++ ys) q agrees) (subst (rule (xs ++ ys)) (sym e) k)))
        whole x (inr i) k = s.whole x i k

    module _ (decide : (xs : List A) (x : A) → Decided (rule xs x)) where
      rest_of : (xs todo : List A) → Rising cmp (xs ++ todo) → (ys : List A) × IsRest xs todo ys
      rest_of xs [] r = ([], record { rising = r; among = λ x i. i; allowed = λ x i. absurd i; whole = λ x i k. i })
      rest_of xs (q ∷ todo) r = by (decide xs q) (rest_of (xs ++ q ∷ []) todo) (rest_of xs todo)
        where
          by : Decided (rule xs q)
              → (Rising cmp ((xs ++ q ∷ []) ++ todo) → (ys : List A) × IsRest (xs ++ q ∷ []) todo ys)
              → (Rising cmp (xs ++ todo) → (ys : List A) × IsRest xs todo ys)
              → (ys : List A) × IsRest xs (q ∷ todo) ys
          by (inl h) with_it without =
              let rest = with_it (subst (Rising cmp) (sym (append_assoc xs (q ∷ []) todo)) r) in
              (q ∷ rest.0, kept xs q todo rest.0 r h rest.1)
          by (inr n) with_it without =
              let rest = without (Rising-without cmp xs q todo r) in
              (rest.0, dropped xs q todo rest.0 r n rest.1)

      -- There is one, if the rule allows no values but those of some list.
      pub some_settled : (all : List A) → ((xs : List A) (x : A) → rule xs x → IsIn all x)
          → (ys : List A) × IsSettled cmp rule ys
      some_settled all covered =
          let rising = arranged A cmp total exact all in
          let rest = rest_of [] rising.0 rising.1 in (
            rest.0,
            record {
              rising = rest.1.rising;
              allowed = rest.1.allowed;
              whole = λ x h. rest.1.whole x (rising.2 x (covered rest.0 x h)) h;
            },
          )
