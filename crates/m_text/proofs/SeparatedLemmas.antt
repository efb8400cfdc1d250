-- Items one after another with a byte before each but the first, read from the front of a text.
use Rattle.std.proofs.Common.{◌≡◌, ℕ, zero, suc, ◌<◌, ◌≤◌, true, false, cond, eqb, List, [], ◌∷◌, ◌++◌, length, map}
use Rattle.std.proofs.Common.{flat_map, Option, None, Some, option_and_then, refl, sym, ap, ◌∙◌, arith, ⊎_elim}
use Rattle.std.proofs.Common.{length-append}
use Rattle.std.specs.List.{AllByRecursion}
use Rattle.std.proofs.lemmas.List.{append_assoc, append-nil}
use Rattle.std.proofs.lemmas.Bool.{eqb-true, eq-eqb, cond-true, cases_Bool, cond-false}
use Rattle.m_text.specs.Grammar.{joined}
use Rattle.m_text.specs.Front.{Found, with_front, leads, continued, separated_at, list_at}
use Rattle.m_text.proofs.FoundLemmas.{pair_of, fronted, with_front-with_front}

module _ (item : List ℕ → Option Found) (by : ℕ) where
  -- what stands behind an item is cond-false longer than the text
  abbrev pub Shortens : Type 0
  Shortens = (text bytes rest : List ℕ) → item text ≡ Some (bytes, rest) → length rest ≤ length text

  pub continued-end : (next : List ℕ → Option Found) (front rest : List ℕ) → leads by rest ≡ false
      → continued by next front rest ≡ Some (front, rest)
  continued-end next front [] l = refl
  continued-end next front (b ∷ bs) l = cond-false (eqb b by) _ _ l

  pub continued-more : (next : List ℕ → Option Found) (front more : List ℕ)
      → continued by next front (by ∷ more) ≡ with_front front (next more)
  continued-more next front more = cond-true (eqb by by) _ _ (eq-eqb by by refl)

  same_rest : (next next' : List ℕ → Option Found) (size : ℕ) (front rest : List ℕ) → length rest ≤ size
      → ((t : List ℕ) → length t < size → next t ≡ next' t)
      → continued by next front rest ≡ continued by next' front rest
  same_rest next next' size front [] l h = refl
  same_rest next next' size front (b ∷ bs) l h =
      ap (λ (o : Option Found). cond (eqb b by) (with_front front o) (Some (front, b ∷ bs))) (h bs (omega (arith, l)))

  same_next : (next next' : List ℕ → Option Found) (size : ℕ) (o : Option Found)
      → ((bytes rest : List ℕ) → o ≡ Some (bytes, rest) → length rest ≤ size)
      → ((t : List ℕ) → length t < size → next t ≡ next' t)
      → option_and_then (λ (f : Found). continued by next f.0 f.1) o
      ≡ option_and_then (λ (f : Found). continued by next' f.0 f.1) o
  same_next next next' size None s h = refl
  same_next next next' size (Some f) s h = same_rest next next' size f.0 f.1 (s f.0 f.1 refl) h

  -- the count doesn't matter where it is above the length
  pub enough : Shortens → (j k : ℕ) (text : List ℕ) → length text < j → length text < k
      → separated_at item by j text ≡ separated_at item by k text
  enough s zero k text a b = absurd (omega (arith, a))
  enough s (suc j) zero text a b = absurd (omega (arith, b))
  enough s (suc j) (suc k) text a b =
      same_next (separated_at item by j) (separated_at item by k) (length text) (item text)
      (λ bytes rest e. s text bytes rest e) (λ t l. enough s j k t (omega (arith, a, l)) (omega (arith, b, l)))

  pub list_step : Shortens → (old new text more : List ℕ) → with_front old (item text) ≡ Some (new, by ∷ more)
      → with_front old (list_at item by text) ≡ with_front new (list_at item by more)
  list_step s old new text more e =
      let h = fronted old (item text) new (by ∷ more) e in
      let l : suc (length more) ≤ length text = s text h.behind_front (by ∷ more) h.is in
      let found : list_at item by text ≡ with_front h.behind_front (list_at item by more) =
      ap (option_and_then (λ (f : Found). continued by (separated_at item by (length text)) f.0 f.1)) h.is
      ∙ continued-more (separated_at item by (length text)) h.behind_front more
      ∙ ap (with_front h.behind_front) (enough s (length text) (suc (length more)) more (omega (
        arith,
        l,
      )) (omega arith)) in
      ap (with_front old) found
      ∙ with_front-with_front old h.behind_front (list_at item by more)
      ∙ ap (λ (t : List ℕ). with_front t (list_at item by more)) (sym h.bytes_are)

  pub item_shorter : Shortens → (old new text more : List ℕ) → with_front old (item text) ≡ Some (new, by ∷ more)
      → length more < length text
  item_shorter s old new text more e =
      let h = fronted old (item text) new (by ∷ more) e in
      let l : suc (length more) ≤ length text = s text h.behind_front (by ∷ more) h.is in
      omega (arith, l)

  pub list_end : (old new text rest : List ℕ) → with_front old (item text) ≡ Some (new, rest) → leads by rest ≡ false
      → with_front old (list_at item by text) ≡ Some (new, rest)
  list_end old new text rest e l =
      let h = fronted old (item text) new rest e in
      let found : list_at item by text ≡ Some (h.behind_front, rest) =
      ap (option_and_then (λ (f : Found). continued by (separated_at item by (length text)) f.0 f.1)) h.is
      ∙ continued-end (separated_at item by (length text)) h.behind_front rest l in
      ap (with_front old) found ∙ ap (λ (t : List ℕ). Some (t, rest)) (sym h.bytes_are)

  pub list_none : (text : List ℕ) → item text ≡ None → list_at item by text ≡ None
  list_none text e = ap (option_and_then (λ (f : Found). continued by (separated_at item by (length text)) f.0 f.1)) e

module _ {I : Type 0} (item : List ℕ → Option Found) (by : ℕ) (text_of bytes_of : I → List ℕ) (Right : I → Type 0) where
  pub record IsItem (text bytes rest : List ℕ) : Type 0 where
    pub it : I
    pub right : Right it
    pub written : text ≡ text_of it ++ rest
    pub meant : bytes ≡ bytes_of it

  pub record AreItems (text bytes rest : List ℕ) : Type 0 where
    pub first : I
    pub others : List I
    pub right : AllByRecursion Right (first ∷ others)
    pub written : text ≡ joined by (map text_of (first ∷ others)) ++ rest
    pub meant : bytes ≡ flat_map bytes_of (first ∷ others)

  one_item : (text bytes rest : List ℕ) → IsItem text bytes rest → AreItems text bytes rest
  one_item text bytes rest h = record {
    first = h.it;
    others = [];
    right = (h.right, tt);
    written = h.written ∙ ap (λ (t : List ℕ). t ++ rest) (sym (append-nil (text_of h.it)));
    meant = h.meant ∙ sym (append-nil (bytes_of h.it));
  }

  more_items : (text front more back rest bytes : List ℕ) → IsItem text front (by ∷ more) → AreItems more back rest
      → bytes ≡ front ++ back → AreItems text bytes rest
  more_items text front more back rest bytes h others e =
      let behind : List ℕ = joined by (map text_of (others.first ∷ others.others)) in
      record {
        first = h.it;
        others = others.first ∷ others.others;
        right = (h.right, others.right);
        written = h.written ∙ ap (λ (t : List ℕ). text_of h.it ++ by ∷ t) others.written
            ∙ sym (append_assoc (text_of h.it) (by ∷ behind) rest);
        meant = e ∙ ap (λ (t : List ℕ). t ++ back) h.meant ∙ ap (λ (t : List ℕ). bytes_of h.it ++ t) others.meant;
      }

  items_behind : (next : List ℕ → Option Found) (text front behind bytes rest : List ℕ)
      → ((t b r : List ℕ) → next t ≡ Some (b, r) → AreItems t b r) → IsItem text front behind
      → continued by next front behind ≡ Some (bytes, rest) → AreItems text bytes rest
  items_behind next text front [] bytes rest more h e =
      let p = pair_of front [] bytes rest e in
      one_item text bytes rest (record {
        it = h.it;
        right = h.right;
        written = h.written
            ∙ ap (λ (r : List ℕ). text_of h.it ++ r) p.1;
        meant = sym p.0 ∙ h.meant;
      })
  items_behind next text front (b ∷ bs) bytes rest more h e =
      ⊎_elim
      (λ (q : eqb b by ≡ true).
      let f = fronted front (next bs) bytes rest
      (sym (cond-true (eqb b by) (with_front front (next bs)) (Some (front, b ∷ bs)) q) ∙ e) in
      let here : IsItem text front (by ∷ bs) =
      record {
        it = h.it;
        right = h.right;
        written = h.written
            ∙ ap (λ (x : ℕ). text_of h.it ++ x ∷ bs) (eqb-true b by q);
        meant = h.meant;
      } in
      more_items text front bs f.behind_front rest bytes here (more bs f.behind_front rest f.is) f.bytes_are)
      (λ (q : eqb b by ≡ false).
      let p = pair_of front (b ∷ bs) bytes rest
      (sym (cond-false (eqb b by) (with_front front (next bs)) (Some (front, b ∷ bs)) q) ∙ e) in
      one_item text bytes rest (record {
        it = h.it;
        right = h.right;
        written = h.written
            ∙ ap (λ (r : List ℕ). text_of h.it ++ r) p.1;
        meant = sym p.0 ∙ h.meant;
      }))
      (cases_Bool (eqb b by))

  items_from : (next : List ℕ → Option Found) (text bytes rest : List ℕ) (o : Option Found)
      → ((t b r : List ℕ) → next t ≡ Some (b, r) → AreItems t b r)
      → ((b r : List ℕ) → o ≡ Some (b, r) → IsItem text b r)
      → option_and_then (λ (f : Found). continued by next f.0 f.1) o ≡ Some (bytes, rest) → AreItems text bytes rest
  items_from next text bytes rest None more one e = absurd (cc)
  items_from next text bytes rest (Some f) more one e =
      items_behind next text f.0 f.1 bytes rest more (one f.0 f.1 refl) e

  -- what is read stands there
  pub separated-found : ((t b r : List ℕ) → item t ≡ Some (b, r) → IsItem t b r)
      → (count : ℕ) (text bytes rest : List ℕ) → separated_at item by count text ≡ Some (bytes, rest)
      → AreItems text bytes rest
  separated-found one zero text bytes rest e = absurd (cc)
  separated-found one (suc count) text bytes rest e =
      items_from (separated_at item by count) text bytes rest (item text) (separated-found one count) (one text) e

  module _ (Fine : List ℕ → Type 0) where
    -- what stands there is read
    pub separated-again : ((it : I) (r : List ℕ) → Right it → Fine r → item (text_of it ++ r) ≡ Some (bytes_of it, r))
        → ((r : List ℕ) → Fine (by ∷ r)) → (count : ℕ) (first : I) (others : List I) (rest : List ℕ)
        → length others < count → AllByRecursion Right (first ∷ others) → Fine rest → leads by rest ≡ false
        → separated_at item by count (joined by (map text_of (first ∷ others)) ++ rest)
        ≡ Some (flat_map bytes_of (first ∷ others), rest)
    separated-again one go_on zero first others rest l right fine ended = absurd (omega (arith, l))
    separated-again one go_on (suc count) first [] rest l right fine ended =
        let next : List ℕ → Option Found = separated_at item by count in
        let here : item ((text_of first ++ []) ++ rest) ≡ Some (bytes_of first, rest) =
        ap (λ (t : List ℕ). item (t ++ rest)) (append-nil (text_of first)) ∙ one first rest right.0 fine in
        ap (option_and_then (λ (f : Found). continued by next f.0 f.1)) here
        ∙ continued-end item by next (bytes_of first) rest ended
        ∙ ap (λ (t : List ℕ). Some (t, rest)) (sym (append-nil (bytes_of first)))
    separated-again one go_on (suc count) first (x ∷ xs) rest l right fine ended =
        let next : List ℕ → Option Found = separated_at item by count in
        let behind : List ℕ = joined by (map text_of (x ∷ xs)) in
        let here : item ((text_of first ++ by ∷ behind) ++ rest) ≡ Some (bytes_of first, by ∷ (behind ++ rest)) =
        ap item (append_assoc (text_of first) (by ∷ behind) rest)
        ∙ one first (by ∷ (behind ++ rest)) right.0 (go_on (behind ++ rest)) in
        ap (option_and_then (λ (f : Found). continued by next f.0 f.1)) here
        ∙ continued-more item by next (bytes_of first) (behind ++ rest)
        ∙ ap (with_front (bytes_of first)) (separated-again one go_on count x xs rest (omega (
          arith,
          l,
        )) right.1 fine ended)

    others_long : (xs : List I) → length xs ≤ length (flat_map (λ (next : List ℕ). by ∷ next) (map text_of xs))
    others_long [] = omega arith
    others_long (x ∷ xs) =
        omega (
          arith,
          others_long xs,
          length-append (by ∷ text_of x) (flat_map (λ (next : List ℕ). by ∷ next) (map text_of xs)),
        )

    pub list-again : ((it : I) (r : List ℕ) → Right it → Fine r → item (text_of it ++ r) ≡ Some (bytes_of it, r))
        → ((r : List ℕ) → Fine (by ∷ r)) → (first : I) (others : List I) (rest : List ℕ)
        → AllByRecursion Right (first ∷ others) → Fine rest → leads by rest ≡ false
        → list_at item by (joined by (map text_of (first ∷ others)) ++ rest)
        ≡ Some (flat_map bytes_of (first ∷ others), rest)
    list-again one go_on first others rest right fine ended =
        let tail : List ℕ = flat_map (λ (next : List ℕ). by ∷ next) (map text_of others) in
        let l : length others ≤ length ((text_of first ++ tail) ++ rest) =
        omega (
          arith,
          others_long others,
          length-append (text_of first) tail,
          length-append (text_of first ++ tail) rest,
        ) in
        separated-again one go_on (suc (length ((text_of first ++ tail) ++ rest))) first others rest (omega (
          arith,
          l,
        )) right fine ended
