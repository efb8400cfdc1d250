-- What is left of a range on a way along children, whose keys rise.
use Rattle.std.proofs.Common.{◌≡◌, ◌≢◌, ◌⊎◌, ℕ, Bool, true, false, not, ◌&&◌, List, [], ◌∷◌, Option, None, Some}
use Rattle.std.proofs.Common.{inl, inr}
use Rattle.std.proofs.Common.{length, refl, sym, ap, ◌∙◌, subst, arith}
use Rattle.std.specs.Ordering.{is_le}
use Rattle.std.specs.Prelude.{◌==◌}
use Rattle.std.proofs.lemmas.Bool.{and_right, cases_Bool, false≢true, ne_eqb}
use Rattle.gds_law.specs.Record.{is_below}
use Rattle.gds_sound.proofs.OrderLemmas.{cmp}
use Rattle.gds_tree.specs.Lawful.{IsAboveLow}
use Rattle.gds_tree.proofs.TestLemmas.{at_most, below_less, below_most, most_from, most_most, not_below}
use Rattle.m_key.specs.Key.{Below}
use Rattle.gds_remove.specs.Range.{BeginsBehind, BeginsBelow, EndsBelow, GoesOn, IsLeft, IsReached}
use Rattle.gds_remove.specs.Range.{Left, Range, StaysLeft, TakesPart, is_from, is_up_to}

-- A key that isn't at most another one is above it, and one without bytes is empty.
not_most : (a b : List ℕ) (t : Bool) → t ≡ is_le (cmp a b) → t ≡ false → Below b a
not_most a b t is refuted = elim (cases_Bool (is_below b a)) [
  | inl below ↦ below
  | inr other ↦ absurd (false≢true (sym refuted ∙ is ∙ at_most a b other))
]

no_bytes : (key : List ℕ) → true ≡ (length key == 0) → key ≡ []
no_bytes [] is = refl
no_bytes (b ∷ key) is = absurd (false≢true (sym (is ∙ ne_eqb (length (b ∷ key)) 0 (λ e. omega (arith, e)))))

some_bytes : (key : List ℕ) → false ≡ (length key == 0) → key ≢ []
some_bytes key is none = absurd (false≢true (is ∙ ap (λ k. length k == 0) none))

pub begins_behind : (low : Option (List ℕ)) (least key : List ℕ) (t : Bool) → low ≡ Some least
    → false ≡ (length key == 0) → t ≡ is_le (cmp key least) → t ≡ true → BeginsBehind low key
begins_behind low least key t is some le true_is =
    record { least = least; low_is = is; some = some_bytes key some; most = sym le ∙ true_is }

pub begins_below : (low : Option (List ℕ)) (least key : List ℕ) (t : Bool) → low ≡ Some least
    → t ≡ is_le (cmp key least) → t ≡ false → BeginsBelow low key
begins_below low least key t is le refuted =
    subst (λ l. BeginsBelow l key) (sym is) (λ some. not_most key least t le refuted)

pub ends_below : (high : Option (List ℕ)) (end key : List ℕ) (t : Bool) → high ≡ Some end → t ≡ is_le (cmp end key)
    → t ≡ true → EndsBelow high key
ends_below high end key t is le true_is =
    record { end = end; high_is = is; most = λ some. sym le ∙ true_is }

pub ends_in_last : (high : Option (List ℕ)) (end key : List ℕ) → high ≡ Some end → true ≡ (length key == 0)
    → EndsBelow high key
ends_in_last high end key is none =
    record { end = end; high_is = is; most = λ some. absurd (some (no_bytes key none)) }

pub goes_on : (high : Option (List ℕ)) (end key : List ℕ) (t : Bool) → high ≡ Some end
    → false ≡ (length key == 0) → t ≡ is_le (cmp end key) → t ≡ false → GoesOn high key
goes_on high end key t is some le refuted =
    subst (λ h. GoesOn h key) (sym is) (some_bytes key some, not_most end key t le refuted)

-- ---- a child is passed

reached_on : (end from : Option (List ℕ)) (key : List ℕ) → IsReached end from → IsAboveLow 0 from key
    → IsReached end (Some key)
reached_on end from key r above = record {
  key = r.key;
  bound = key;
  end_is = r.end_is;
  from_is = refl;
  most = most_most r.key r.bound key r.most (subst (λ low. IsAboveLow 0 low key) r.from_is above);
}

-- What is left stays so, where nothing of it is taken.
stays : (range : Range) (from : Option (List ℕ)) (key : List ℕ) (left : Left) → IsLeft range from left
    → StaysLeft range from key left
stays range from key left l some above = record {
  low = elim l.low [
    | inl same ↦ inl same
    | inr gone ↦ inr (gone.0, reached_on range.low from key gone.1 above)
  ];
  high = l.high;
  past = λ is. reached_on range.high from key (l.past is) above;
}

-- ---- no part

up_to_reached : (high from : Option (List ℕ)) (k : List ℕ) → IsReached high from → IsAboveLow 0 from k
    → is_up_to high k ≡ false
up_to_reached high from k r above =
    ap (λ h. is_up_to h k) r.end_is
    ∙ not_below r.key k
    (most_most r.key r.bound k r.most (subst (λ low. IsAboveLow 0 low k) r.from_is above))

pub none_past : (range : Range) (from : Option (List ℕ)) (key : List ℕ) (left : Left) → IsLeft range from left
    → left.past ≡ true → TakesPart range from key left None
none_past range from key left l past =
    let r = l.past past in
    record {
      part_is = (
        λ k bounds. and_right (is_from range.low k) (is_up_to range.high k)
            (up_to_reached range.high from k r bounds.above),
        λ none. let e : None ≡ Some r.bound = sym none ∙ r.from_is in absurd (cc),
      );
      stays = stays range from key left l;
    }

pub none_before : (range : Range) (from : Option (List ℕ)) (key : List ℕ) (left : Left) → IsLeft range from left
    → BeginsBehind left.low key → TakesPart range from key left None
none_before range from key left l b =
    let is : range.low ≡ Some b.least = elim l.low [
      | inl same ↦ sym same ∙ b.low_is
      | inr gone ↦ (let e : None ≡ Some b.least = sym gone.0 ∙ b.low_is in absurd (cc))
    ] in
    record {
      part_is = (
        λ k bounds.
            ap (λ low. is_from low k && is_up_to range.high k) is
            ∙ ap (λ t. not t && is_up_to range.high k) (below_most k key b.least (bounds.below b.some) b.most),
        λ none. b.some,
      );
      stays = stays range from key left l;
    }

-- ---- a part

from_reached : (low from : Option (List ℕ)) (k : List ℕ) → IsReached low from → IsAboveLow 0 from k
    → is_from low k ≡ true
from_reached low from k r above =
    ap (λ l. is_from l k) r.end_is
    ∙ ap not (not_below r.key k
    (most_most r.key r.bound k r.most (subst (λ low. IsAboveLow 0 low k) r.from_is above)))

same_from : (range : Range) (from : Option (List ℕ)) (left : Left) (k : List ℕ) → IsLeft range from left
    → IsAboveLow 0 from k → is_from left.low k ≡ is_from range.low k
same_from range from left k l above = elim l.low [
  | inl same ↦ ap (λ low. is_from low k) same
  | inr gone ↦ ap (λ low. is_from low k) gone.0 ∙ sym (from_reached range.low from k gone.1 above)
]

goes_up : (high : Option (List ℕ)) (key k : List ℕ) → GoesOn high key → (key ≢ [] → Below k key)
    → true ≡ is_up_to high k
goes_up None key k g below = refl
goes_up (Some high) key k g below =
    sym (below_most k key high (below g.0) (most_from key high (inl (below_less key high g.1))))

same_up : (high : Option (List ℕ)) (p : Bool) (part : Option (List ℕ)) (key k : List ℕ)
    → (p ≡ true → part ≡ high) → (p ≡ false → part ≡ None) → (p ≡ false → GoesOn high key)
    → (key ≢ [] → Below k key) → is_up_to part k ≡ is_up_to high k
same_up high true part key k whole none on below = ap (λ h. is_up_to h k) (whole refl)
same_up high false part key k whole none on below =
    ap (λ h. is_up_to h k) (none refl) ∙ goes_up high key k (on refl) below

abbrev IsTaken : Range → List ℕ → Type 0
IsTaken range key =
    let none : Option (List ℕ) = None in (none ≡ range.low) ⊎ ((none ≡ None) × IsReached range.low (Some key))

low_taken : (low : Option (List ℕ)) (range : Range) (from : Option (List ℕ)) (key : List ℕ)
    → (low ≡ range.low) ⊎ ((low ≡ None) × IsReached range.low from) → BeginsBelow low key
    → key ≢ [] → IsAboveLow 0 from key
    → IsTaken range key
low_taken None range from key (inl same) begins some above = inl same
low_taken (Some low) range from key (inl same) begins some above =
    inr (
      refl,
      record {
        key = low;
        bound = key;
        end_is = sym same;
        from_is = refl;
        most = most_from low key (inl (below_less low key (begins some)));
      },
    )
low_taken low range from key (inr gone) begins some above = inr (refl, reached_on range.low from key gone.1 above)

pub some_part : (range : Range) (from : Option (List ℕ)) (key : List ℕ) (left : Left) (p : Bool)
    (high : Option (List ℕ)) → IsLeft range from left → BeginsBelow left.low key
    → (p ≡ true → EndsBelow left.high key) → (p ≡ false → GoesOn left.high key)
    → (p ≡ true → high ≡ left.high) → (p ≡ false → high ≡ None)
    → TakesPart range from key (record { low = None; high = left.high; past = p })
    (Some (record { low = left.low; high = high }))
some_part range from key left p high l begins ends on whole none = record {
  part_is = λ k bounds i.
      same_from range from left k l bounds.above i
      && (same_up left.high p high key k whole none on bounds.below ∙ ap (λ h. is_up_to h k) l.high) i;
  stays = λ some above. record {
    low = low_taken left.low range from key l.low begins some above;
    high = l.high;
    past = λ is.
        let e = ends is in
        record {
          key = e.end;
          bound = key;
          end_is = sym l.high ∙ e.high_is;
          from_is = refl;
          most = e.most some;
        };
  };
}
