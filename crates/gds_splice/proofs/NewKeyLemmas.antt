-- Entries of an index block of which at most two have keys that another block's entries haven't.
use Rattle.std.proofs.Common.{◌≡◌, ◌+◌, ◌*◌, ◌<◌, ◌≤◌, ℕ, suc, Bool, true, false, List, [], ◌∷◌, ◌++◌, length}
use Rattle.std.proofs.Common.{◌⊎◌, inl, inr, refl, sym, ap, ◌∙◌, subst, arith, append_assoc}
use Rattle.std.specs.Prelude.{cond, filter, not, nat_eq}
use Rattle.std.specs.List.{AllByRecursion}
use Rattle.std.specs.Ordering.{nat_cmp}
use Rattle.std.specs.Cmp.Lexicographic.{slice_cmp}
use Rattle.std.specs.declared.cmp.Ordering.TheVariants.{Less}
use Rattle.std.proofs.lemmas.Bool.{cases_lt, cases_order, cond-true, cond-false, eq-eqb, ne_eqb, true≢false}
use Rattle.std.proofs.lemmas.Bool.{not-true}
use Rattle.std.proofs.lemmas.List.Elements.{filter-append}
use Rattle.gds_block.specs.Item.{Item}
use Rattle.m_key.specs.KeyEnd.{shared}
use Rattle.m_key.proofs.KeyEndLemmas.{shared-le, shared-nil}
use Rattle.gds_pack.specs.Packable.{AreIndex}
use Rattle.gds_pack.specs.Packed.{first_key, key_behind, packed_size, records_size}
use Rattle.gds_pack.proofs.BoundLemmas.{heads_of, packed_size-added_rising, records_size-moved, share}
use Rattle.gds_pack.proofs.SizeLemmas.{length-key_behind, packed_size-back, packed_size-front}
use Rattle.gds_pack.proofs.SizeLemmas.{records_size-append, records_size-behind}
use Rattle.gds_tree.proofs.BelowLemmas.{all_right}
use Rattle.gds_splice.specs.NewKeys.{has_key, with_new_keys}
use Rattle.gds_splice.specs.Parts.{FitInThree}
use Rattle.gds_splice.proofs.FewerLemmas.{AreAmong, behind, has_star, packed_fewer}

-- ---- a key between two others

-- The lower one shares with it what it shares with the upper one.
share_up : (a b c : List ℕ) → slice_cmp nat_cmp a b ≡ Less → slice_cmp nat_cmp b c ≡ Less → shared a c ≤ shared a b
share_up [] b c h k = omega arith
share_up (x ∷ a) b [] h k = omega (arith, shared-nil (x ∷ a))
share_up (x ∷ a) [] (z ∷ c) h k = absurd (cc)
share_up (x ∷ a) (y ∷ b) (z ∷ c) h k =
    let one = heads_of x y a b (nat_cmp x y) refl h in
    let two = heads_of y z b c (nat_cmp y z) refl k in
    elim (cases_order x z) [
      | inl e ↦
          let up : x ≡ y = omega (arith, one.below, two.below, e) in
          let over : y ≡ z = omega (arith, one.below, two.below, e) in
          let rest = share_up a b c (one.tails up) (two.tails over) in
          omega (
            arith,
            rest,
            cond-true (nat_eq x z) (1 + shared a c) 0 (eq-eqb x z e),
            cond-true (nat_eq x y) (1 + shared a b) 0 (eq-eqb x y up),
          )
      | inr d ↦
          let ne : x ≡ z → ⊥ = λ e. elim d [ inl l ↦ omega (arith, l, e) | inr l ↦ omega (arith, l, e) ] in
          omega (arith, cond-false (nat_eq x z) (1 + shared a c) 0 (ne_eqb x z ne))
    ]

-- ---- what an index block has at a place

next_at : (p : List ℕ) (a : List Item) (e : Item) (b : List Item) → (b ≡ [] → ⊥) → AreIndex p (a ++ e ∷ b)
    → slice_cmp nat_cmp (key_behind p a) e.key ≡ Less
next_at p a e [] some index = absurd (some refl)
next_at p [] e (f ∷ b) some index = index.0.above
next_at p (x ∷ []) e (f ∷ b) some index = next_at x.key [] e (f ∷ b) some index.2
next_at p (x ∷ y ∷ a) e (f ∷ b) some index = next_at x.key (y ∷ a) e (f ∷ b) some index.2

last_at : (p : List ℕ) (a : List Item) (e : Item) → AreIndex p (a ++ e ∷ []) → e.key ≡ []
last_at p [] e index = index.0
last_at p (x ∷ []) e index = last_at x.key [] e index.2
last_at p (x ∷ y ∷ a) e index = last_at x.key (y ∷ a) e index.2

without : (p : List ℕ) (a : List Item) (e : Item) (b : List Item) → (b ≡ [] → ⊥) → AreIndex p (a ++ e ∷ b)
    → AreIndex p (a ++ b)
without p a e [] some index = absurd (some refl)
without p [] e (f ∷ b) some index = behind p e f b index
without p (x ∷ []) e (f ∷ b) some index = (index.0, index.1, without x.key [] e (f ∷ b) some index.2)
without p (x ∷ y ∷ a) e (f ∷ b) some index = (index.0, index.1, without x.key (y ∷ a) e (f ∷ b) some index.2)

index_behind : (p : List ℕ) (a : List Item) (e : Item) (b : List Item) → (b ≡ [] → ⊥) → AreIndex p (a ++ e ∷ b)
    → AreIndex e.key b
index_behind p a e [] some index = absurd (some refl)
index_behind p [] e (f ∷ b) some index = index.2
index_behind p (x ∷ []) e (f ∷ b) some index = index_behind x.key [] e (f ∷ b) some index.2
index_behind p (x ∷ y ∷ a) e (f ∷ b) some index = index_behind x.key (y ∷ a) e (f ∷ b) some index.2

four_at : (p : List ℕ) (a : List Item) (e : Item) (b : List Item) → AreIndex p (a ++ e ∷ b) → length e.rest ≡ 4
four_at p [] e [] index = index.1
four_at p [] e (f ∷ b) index = index.1
four_at p (x ∷ []) e b index = four_at x.key [] e b index.2
four_at p (x ∷ y ∷ a) e b index = four_at x.key (y ∷ a) e b index.2

some_at : (a : List Item) (e : Item) (b : List Item) → a ++ e ∷ b ≡ [] → ⊥
some_at [] e b none = absurd (cc)
some_at (x ∷ a) e b none = absurd (cc)

pub none_left : (es : List Item) → length es ≤ 0 → es ≡ []
none_left [] none = refl
none_left (e ∷ es) none = absurd (omega (arith, none))

-- What the key before a place shares with the one that follows it shares with a key between.
share_with : (a : List Item) (x : Item) (b : List Item) (y : Item) (c : List Item)
    → AreIndex [] (a ++ x ∷ (b ++ y ∷ c))
    → shared (key_behind [] a) (first_key b) ≤ shared (key_behind [] a) x.key
share_with a x [] y c index = omega (arith, shared-nil (key_behind [] a))
share_with a x (e ∷ b) y c index =
    share_up (key_behind [] a) x.key e.key (next_at [] a x (e ∷ (b ++ y ∷ c)) (some_at [] e (b ++ y ∷ c)) index)
    (next_at x.key [] e (b ++ y ∷ c) (some_at b y c) (index_behind [] a x (e ∷ (b ++ y ∷ c)) (some_at [] e (b ++ y ∷ c))
    index))

-- ---- two entries among others that fit

module _ (limit most : ℕ) (a b c : List Item) (x y : Item) (keys_fit : 16 + 3 * (8 + most) ≤ limit)
    (short_x : length x.key ≤ most) (short_y : length y.key ≤ most) (four_x : length x.rest ≡ 4)
    (four_y : length y.rest ≡ 4) (fits : packed_size (a ++ b ++ c) ≤ limit)
    (share_x : shared (key_behind [] a) (first_key b) ≤ shared (key_behind [] a) x.key)
    (share_y : shared (key_behind [] (a ++ b)) (first_key c) ≤ shared y.key (first_key c)) where
  abbrev before_b : List ℕ
  before_b = key_behind [] a

  abbrev before_c : List ℕ
  before_c = key_behind [] (a ++ b)

  sizes : records_size [] a + records_size before_b b + records_size before_c c + 16 ≤ limit
  sizes =
      omega (
        arith,
        fits,
        records_size-append [] (a ++ b) c,
        records_size-append [] a b,
      )

  moved_b : records_size before_b b + shared before_b (first_key b) ≡ records_size [] b
  moved_b = omega (arith, records_size-moved [] before_b b)

  moved_c : records_size before_c c + shared before_c (first_key c) ≡ records_size [] c
  moved_c = omega (arith, records_size-moved [] before_c c)

  moved_y : records_size y.key c + shared y.key (first_key c) ≡ records_size [] c
  moved_y = omega (arith, records_size-moved [] y.key c)

  enough_a : shared before_b (first_key b) ≤ records_size [] a
  enough_a = omega (arith, (shared-le before_b (first_key b)).0, length-key_behind [] a)

  abbrev all : List Item
  all = a ++ x ∷ (b ++ y ∷ c)

  -- Both go with the entries between, if these leave room.
  around_middle : packed_size b + 2 * (8 + most) ≤ limit → FitInThree limit all
  around_middle room = record {
    front = a;
    middle = x ∷ (b ++ y ∷ []);
    back = c;
    whole = ap (λ es. a ++ x ∷ es) (sym (append_assoc b (y ∷ []) c)) ∙ sym (append_assoc a (x ∷ (b ++ y ∷ [])) c);
    some = some_at a x (b ++ y ∷ c);
    front_fits = omega (arith, fits, packed_size-front (a ++ b) c, packed_size-front a b);
    middle_fits = omega (
      arith,
      room,
      four_x,
      four_y,
      short_x,
      short_y,
      records_size-append x.key b (y ∷ []),
      (records_size-behind x.key b).0,
    );
    back_fits = omega (arith, fits, packed_size-back (a ++ b) c);
  }

  -- Else those leave room before and behind.
  beside_middle : limit < packed_size b + 2 * (8 + most) → FitInThree limit all
  beside_middle full = record {
    front = a ++ x ∷ [];
    middle = b;
    back = y ∷ c;
    whole = sym (ap (λ es. es ++ y ∷ c) (append_assoc a (x ∷ []) b) ∙ append_assoc a (x ∷ b) (y ∷ c));
    some = some_at a x (b ++ y ∷ c);
    front_fits = omega (
      arith,
      keys_fit,
      full,
      sizes,
      moved_b,
      share_x,
      four_x,
      short_x,
      records_size-append [] a (x ∷ []),
      (shared-le before_b x.key).1,
    );
    middle_fits = omega (arith, fits, packed_size-front (a ++ b) c, packed_size-back a b);
    back_fits = omega (
      arith,
      keys_fit,
      full,
      sizes,
      moved_b,
      moved_c,
      moved_y,
      enough_a,
      share_y,
      four_y,
      short_y,
    );
  }

  pub two_fit : FitInThree limit all
  two_fit =
      elim (cases_lt limit (packed_size b + 2 * (8 + most))) [
        | inl full ↦ beside_middle full
        | inr room ↦ around_middle room
      ]

-- ---- the entries with new keys

-- The first of some entries that passes a test: none before it does.
record First (test : Item → Bool) (es : List Item) : Type 0 where
  pub front : List Item
  pub found : Item
  pub back : List Item
  pub whole : es ≡ front ++ found ∷ back
  pub none : filter test front ≡ []
  pub passes : test found ≡ true
  pub count : length (filter test es) ≡ suc (length (filter test back))

first_of : (test : Item → Bool) (es : List Item) → (filter test es ≡ []) ⊎ First test es
first_of test [] = inl refl
first_of test (e ∷ es) = by (first_of test es) (test e) refl
  where
    by : (filter test es ≡ []) ⊎ First test es → (t : Bool) → test e ≡ t
        → (filter test (e ∷ es) ≡ []) ⊎ First test (e ∷ es)
    by later true is =
        inr (record {
          front = [];
          found = e;
          back = es;
          whole = refl;
          none = refl;
          passes = is;
          count = ap length (cond-true (test e) (e ∷ filter test es) (filter test es) is);
        })
    by (inl none) false is = inl (cond-false (test e) (e ∷ filter test es) (filter test es) is ∙ none)
    by (inr f) false is =
        inr (record {
          front = e ∷ f.front;
          found = f.found;
          back = f.back;
          whole = ap (λ xs. e ∷ xs) f.whole;
          none = cond-false (test e) (e ∷ filter test f.front) (filter test f.front) is ∙ f.none;
          passes = f.passes;
          count = ap length (cond-false (test e) (e ∷ filter test es) (filter test es) is) ∙ f.count;
        })

pub are_among : (others es : List Item) → with_new_keys others es ≡ [] → AreAmong others es
are_among others [] none = tt
are_among others (e ∷ es) none = by (has_key others e.key) refl (are_among others es)
  where
    by : (t : Bool) → has_key others e.key ≡ t → (with_new_keys others es ≡ [] → AreAmong others es)
        → AreAmong others (e ∷ es)
    by true is rest = (
      is,
      rest (sym (ap (λ t. cond (not t) (e ∷ with_new_keys others es)
          (with_new_keys others es)) is) ∙ none),
    )
    by false is rest =
        let some : e ∷ with_new_keys others es ≡ [] = sym (ap (λ t. cond (not t)
        (e ∷ with_new_keys others es) (with_new_keys others es)) is) ∙ none in
        absurd (cc)

-- ---- what at most two of them need

-- Entries fit in three blocks of so many bytes, and need at most the room of two records more than others.
pub record TakesFew (limit most : ℕ) (others es : List Item) : Type 0 where
  pub three : FitInThree limit es
  pub more : packed_size es ≤ packed_size others + 2 * (8 + most)

module _ (limit most : ℕ) (others : List Item) (was : AreIndex [] others)
    (keys_fit : 16 + 3 * (8 + most) ≤ limit) (fits : packed_size others ≤ limit) where
  abbrev IsNew : Item → Bool
  IsNew e = not (has_key others e.key)

  abbrev AreShort : List Item → Type 0
  AreShort es = AllByRecursion (λ e. length e.key ≤ most) es

  fewer : (es : List Item) → AreIndex [] es → filter IsNew es ≡ [] → packed_size es ≤ packed_size others
  fewer es index none = packed_fewer es others index was (are_among others es none)

  -- The star is among them.
  not_last : (a : List Item) (e : Item) (b : List Item) → AreIndex [] (a ++ e ∷ b) → IsNew e ≡ true → b ≡ [] → ⊥
  not_last a e b index new last =
      let star = last_at [] a e (subst (λ es. AreIndex [] (a ++ e ∷ es)) last index) in
      true≢false (sym (ap (has_key others) star ∙ has_star [] others was) ∙ not-true (has_key others e.key) new)

  none_new : (es : List Item) → AreIndex [] es → filter IsNew es ≡ [] → TakesFew limit most others es
  none_new [] index none = absurd index
  none_new (e ∷ es) index none =
      let size = fewer (e ∷ es) index none in record {
        three = record {
          front = [];
          middle = [];
          back = e ∷ es;
          whole = refl;
          some = some_at [] e es;
          front_fits = omega (arith, keys_fit);
          middle_fits = omega (arith, keys_fit);
          back_fits = omega (arith, size, fits);
        };
        more = omega (arith, size);
      }

  one_new : (a : List Item) (x : Item) (b : List Item) → AreIndex [] (a ++ x ∷ b) → AreShort (a ++ x ∷ b)
      → IsNew x ≡ true → filter IsNew a ≡ [] → filter IsNew b ≡ [] → TakesFew limit most others (a ++ x ∷ b)
  one_new a x b index short new none_a none_b =
      let still = without [] a x b (not_last a x b index new) index in
      let none = filter-append IsNew a b ∙ ap (λ es. es ++ filter IsNew b) none_a ∙ none_b in
      let size = fewer (a ++ b) still none in
      let four = four_at [] a x b index in
      let short_x = (all_right (λ (e : Item). length e.key ≤ most) a (x ∷ b) short).0 in
      record {
        three = record {
          front = a;
          middle = x ∷ [];
          back = b;
          whole = sym (append_assoc a (x ∷ []) b);
          some = some_at a x b;
          front_fits = omega (arith, size, fits, packed_size-front a b);
          middle_fits = omega (arith, keys_fit, four, short_x);
          back_fits = omega (arith, size, fits, packed_size-back a b);
        };
        more = omega (arith, size, four, short_x, packed_size-added_rising 1 a b x index);
      }

  two_new : (a : List Item) (x : Item) (b : List Item) (y : Item) (c : List Item)
      → AreIndex [] (a ++ x ∷ (b ++ y ∷ c)) → AreShort (a ++ x ∷ (b ++ y ∷ c)) → IsNew x ≡ true → IsNew y ≡ true
      → filter IsNew a ≡ [] → filter IsNew b ≡ [] → filter IsNew c ≡ []
      → TakesFew limit most others (a ++ x ∷ (b ++ y ∷ c))
  two_new a x b y c index short new_x new_y none_a none_b none_c =
      let first = without [] a x (b ++ y ∷ c) (some_at b y c) index in
      let same : a ++ (b ++ y ∷ c) ≡ (a ++ b) ++ y ∷ c = sym (append_assoc a b (y ∷ c)) in
      let second : AreIndex [] ((a ++ b) ++ y ∷ c) = subst (AreIndex []) same first in
      let still = without [] (a ++ b) y c (not_last (a ++ b) y c second new_y) second in
      let none = filter-append IsNew (a ++ b) c ∙ ap (λ es. es ++ filter IsNew c) (filter-append IsNew a b
      ∙ ap (λ es. es ++ filter IsNew b) none_a ∙ none_b) ∙ none_c in
      let size = fewer (a ++ b ++ c) still none in
      let four_x = four_at [] a x (b ++ y ∷ c) index in
      let four_y = four_at [] (a ++ b) y c second in
      let behind_a = all_right (λ (e : Item). length e.key ≤ most) a (x ∷ (b ++ y ∷ c)) short in
      let short_y = (all_right (λ (e : Item). length e.key ≤ most) b (y ∷ c) behind_a.1).0 in
      record {
        three = two_fit limit most a b c x y keys_fit behind_a.0 short_y four_x four_y (omega (arith, size, fits))
            (share_with a x b y c index) (share 1 (a ++ b) c y second);
        more = omega (
          arith,
          size,
          four_x,
          four_y,
          behind_a.0,
          short_y,
          packed_size-added_rising 1 a (b ++ y ∷ c) x index,
          ap packed_size same,
          packed_size-added_rising 1 (a ++ b) c y second,
        );
      }

  pub takes_few : (es : List Item) → AreIndex [] es → AreShort es → length (filter IsNew es) ≤ 2
      → TakesFew limit most others es
  takes_few es index short few = at_first (first_of IsNew es)
    where
      at_second : (f : First IsNew es) → (filter IsNew f.back ≡ []) ⊎ First IsNew f.back
          → TakesFew limit most others es
      at_second f (inl none) =
          subst (TakesFew limit most others) (sym f.whole)
          (one_new f.front f.found f.back (subst (AreIndex []) f.whole index) (subst AreShort f.whole short) f.passes
          f.none none)
      at_second f (inr g) =
          let whole : es ≡ f.front ++ f.found ∷ (g.front ++ g.found ∷ g.back) =
          f.whole ∙ ap (λ xs. f.front ++ f.found ∷ xs) g.whole in
          let none = none_left (filter IsNew g.back) (omega (arith, few, f.count, g.count)) in
          subst (TakesFew limit most others) (sym whole)
          (two_new f.front f.found g.front g.found g.back (subst (AreIndex []) whole index) (subst AreShort whole short)
          f.passes g.passes f.none g.none none)

      at_first : (filter IsNew es ≡ []) ⊎ First IsNew es → TakesFew limit most others es
      at_first (inl none) = none_new es index none
      at_first (inr f) = at_second f (first_of IsNew f.back)
