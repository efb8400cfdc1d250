-- The keys of a sound tree rise, and lie within the bounds that its visit says.
use Rattle.std.proofs.Common.{◌≡◌, ℕ, zero, suc, ◌+◌, ◌<◌, ◌≤◌, ◌==◌, Bool, true, false, not, ◌&&◌, if◌then◌else◌, List}
use Rattle.std.proofs.Common.{[], ◌∷◌, ◌++◌, length, take, drop, Option, None, Some, Ordering, Less, Equal, Greater}
use Rattle.std.proofs.Common.{nat_cmp, is_lt, inl, inr, refl, sym, ap, subst, ◌∙◌, arith, append-nil, append_assoc}
use Rattle.std.specs.Prelude.{⊤, nat_lt, nat_le, option_map, option_and_then}
use Rattle.std.specs.Ordering.{ordering_reverse}
use Rattle.std.specs.Cmp.{IsTotalOrder}
use Rattle.std.specs.Cmp.Lexicographic.{slice_cmp}
use Rattle.std.specs.FinMap.{IsAntisymmetric, slice_cmp-IsAntisymmetric, nat_cmp-IsAntisymmetric}
use Rattle.std.proofs.lemmas.Cmp.{nat_list_cmp_total}
use Rattle.std.proofs.lemmas.Bool.{cases_Bool, eqb-true, eq-eqb, ne_eqb, leb-true, lt-leb, and_parts, and_left}
use Rattle.std.proofs.lemmas.Bool.{or_parts, cond-true, cond-false, cond_both}
use Rattle.std.proofs.lemmas.List.{length-take, length-take-le, length-drop}
use Rattle.gds_header.specs.Fields.{block_of}
use Rattle.gds_block.specs.Record.{Record, records_of, records_up_to, first_record, is_well_sized, least_size}
use Rattle.gds_block.specs.Record.{bytes_left}
use Rattle.gds_block.specs.Record as block
use Rattle.gds_block.specs.Block.{used_of}
use Rattle.gds_block.specs.Item.{Item}
use Rattle.gds_law.specs.Kinds.{record_kinds}
use Rattle.gds_law.specs.Visit.{Visit, Child}
use Rattle.gds_law.specs.BlockReading.{BlockReading, PlacedRecord, is_first, is_last, size_of, key_of, pointer_of}
use Rattle.gds_law.specs.Record.{is_below, is_above_bound, is_below_bound, is_ended, low_of, high_of, target_of}
use Rattle.gds_law.specs.Record.{child_to, children_of_record, is_sound}
use Rattle.gds_law.specs.Block.{children_from}
use Rattle.gds_sound.specs.Stands.{items_from}
use Rattle.gds_sound.specs.Sound.{Tree, joined, forest_of, sound_tree}
use Rattle.gds_law.specs.declared.kind.FaultKind.TheVariants.{KeyOutOfOrder, KeyAboveBound, KeyBelowBound}
use Rattle.gds_law.proofs.MembershipLemmas.{IsIn, in_left, in_right, in_either}
use Rattle.gds_law.proofs.RisingLemmas.{Rising, below_from_above}
use Rattle.gds_sound.proofs.BlockLemmas.{seen, IsCleanRecord, CleanRecords, clean_block, reading_at, level_at}
use Rattle.gds_sound.proofs.BlockLemmas.{children_clean, not_last}
use Rattle.gds_sound.proofs.TreeLemmas.{leaf_parts, index_parts, forest_parts}

-- ---- keys in order

abbrev pub cmp : List ℕ → List ℕ → Ordering
cmp a b = slice_cmp nat_cmp a b

pub cmp_total : IsTotalOrder cmp
cmp_total = nat_list_cmp_total

pub cmp_exact : IsAntisymmetric cmp
cmp_exact = slice_cmp-IsAntisymmetric nat_cmp-IsAntisymmetric

abbrev pub key_cmp : Item → Item → Ordering
key_cmp a b = cmp a.key b.key

less_from : (o : Ordering) → not (is_lt o) ≡ false → o ≡ Less
less_from Less h = refl
less_from Equal h = absurd (cc)
less_from Greater h = absurd (cc)

not_less : (o : Ordering) → o ≡ Less → is_lt o ≡ false → ⊥
not_less o e h = cc (ap is_lt e)

-- x is below k, and y isn't
pub less_across : (x k y : List ℕ) → cmp x k ≡ Less → is_below y k ≡ false → cmp x y ≡ Less
less_across x k y h n = by (cmp y k) refl
  where
    by : (o : Ordering) → cmp y k ≡ o → cmp x y ≡ Less
    by Less e = absurd (not_less (cmp y k) e n)
    by Equal e = subst (λ z. cmp x z ≡ Less) (sym (cmp_exact y k e)) h
    by Greater e = cmp_total.trans x k y h (below_from_above (List ℕ) cmp cmp_total cmp_exact y k e)

not_below : (x y : List ℕ) → cmp y x ≡ Less → is_below x y ≡ false
not_below x y h = ap is_lt (cmp_total.antisymm x y ∙ ap ordering_reverse h)

-- within bounds
abbrev pub AboveLow : Option (List ℕ) → List ℕ → Type 0
AboveLow None key = ⊤
AboveLow (Some low) key = is_below key low ≡ false

abbrev pub BelowHigh : Option (List ℕ) → List ℕ → Type 0
BelowHigh None key = ⊤
BelowHigh (Some high) key = cmp key high ≡ Less

above_more : (low : Option (List ℕ)) (k y : List ℕ) → AboveLow low k → is_below y k ≡ false → AboveLow low y
above_more None k y h n = tt
above_more (Some low) k y h n = by (is_below y low) refl
  where
    by : (t : Bool) → is_below y low ≡ t → is_below y low ≡ false
    by false e = e
    by true e =
        let less : cmp y low ≡ Less = less_from (cmp y low) (ap not e) in
        absurd (not_less (cmp y k) (less_across y low k less h) n)

below_more : (high : Option (List ℕ)) (k x : List ℕ) → BelowHigh high k → cmp x k ≡ Less → BelowHigh high x
below_more None k x h l = tt
below_more (Some high) k x h l = cmp_total.trans x k high l h

pub record AreOrdered (low high : Option (List ℕ)) (items : List Item) : Type 0 where
  pub rising : Rising key_cmp items
  pub above : (item : Item) → IsIn items item → AboveLow low item.key
  pub below : (item : Item) → IsIn items item → BelowHigh high item.key

pub Rising_append : {A : Type 0} (c : A → A → Ordering) (xs ys : List A) → Rising c xs → Rising c ys
    → ((x y : A) → IsIn xs x → IsIn ys y → c x y ≡ Less) → Rising c (xs ++ ys)
Rising_append c [] ys r s h = s
Rising_append c (x ∷ xs) ys r s h = (
  λ y i. elim (in_either xs ys y i) [ inl j ↦ r.0 y j | inr j ↦ h x y (inl refl) j ],
  Rising_append c xs ys r.1 s (λ z y i j. h z y (inr i) j),
)

none_ordered : (low high : Option (List ℕ)) → AreOrdered low high []
none_ordered low high = record { rising = tt; above = λ item i. absurd i; below = λ item i. absurd i }

-- below a key, and from it on
both_ordered : (low high : Option (List ℕ)) (k : List ℕ) (xs ys : List Item) → AreOrdered low (Some k) xs
    → AreOrdered (Some k) high ys → AboveLow low k → BelowHigh high k → AreOrdered low high (xs ++ ys)
both_ordered low high k xs ys a b l h = record {
  rising = Rising_append key_cmp xs ys a.rising b.rising
      (λ x y i j. less_across x.key k y.key (a.below x i) (b.above y j));
  above = λ item i. elim (in_either xs ys item i)
      [ inl j ↦ a.above item j | inr j ↦ above_more low k item.key l (b.above item j) ];
  below = λ item i. elim (in_either xs ys item i)
      [ inl j ↦ below_more high k item.key h (a.below item j) | inr j ↦ b.below item j ];
}

-- ---- what is known of a record's key

asked_order : IsIn record_kinds KeyOutOfOrder
asked_order = inr (inr (inr (inr (inr (inr (inr (inl refl)))))))

asked_above : IsIn record_kinds KeyAboveBound
asked_above = inr (inr (inr (inr (inr (inr (inr (inr (inr (inr (inr (inr (inr (inr (inr (inl refl)))))))))))))))

asked_below : IsIn record_kinds KeyBelowBound
asked_below = inr (inr (inr (inr (inr (inr (inr (inr (inr (inr (inr (inr (inr (inr (inr (inr (inl refl))))))))))))))))

pub key_rises : (b : BlockReading) (s : PlacedRecord) → IsCleanRecord b s → is_last b s ≡ false
    → cmp s.previous (key_of b s) ≡ Less
key_rises b s c l =
    less_from (cmp s.previous (key_of b s)) (sym (cond-false (is_last b s) _ _ l) ∙ c.none KeyOutOfOrder asked_order)

high_from : (high : Option (List ℕ)) (key : List ℕ) → is_above_bound high key ≡ false → BelowHigh high key
high_from None key h = tt
high_from (Some high) key h = less_from (cmp key high) h

key_high : (b : BlockReading) (s : PlacedRecord) → IsCleanRecord b s → is_last b s ≡ false
    → BelowHigh b.visit.high (key_of b s)
key_high b s c l =
    high_from b.visit.high (key_of b s) (sym (cond-false (is_last b s) _ _ l) ∙ c.none KeyAboveBound asked_above)

low_from : (level : ℕ) (low : Option (List ℕ)) (key : List ℕ) → is_below_bound level low key ≡ false → AboveLow low key
low_from level None key h = tt
low_from level (Some low) key h = (or_parts (is_below key low) _ h).0

key_low : (b : BlockReading) (s : PlacedRecord) → IsCleanRecord b s → is_last b s ≡ false
    → AboveLow b.visit.low (key_of b s)
key_low b s c l =
    low_from b.level b.visit.low (key_of b s) (sym (cond-false (is_last b s) _ _ l) ∙ c.none KeyBelowBound asked_below)

-- ---- leaves

record IsLeafOrdered (b : BlockReading) (previous : List ℕ) (items : List Item) : Type 0 where
  ordered : AreOrdered b.visit.low b.visit.high items
  later : (item : Item) → IsIn items item → cmp previous item.key ≡ Less

leaf_ordered : (b : BlockReading) (previous : List ℕ) (rs : List Record) → (b.level == 0) ≡ true
    → CleanRecords b previous rs → IsLeafOrdered b previous (items_from b previous rs)
leaf_ordered b previous [] z c = record { ordered = none_ordered b.visit.low b.visit.high; later = λ item i. absurd i }
leaf_ordered b previous (r ∷ rs) z c =
    let s : PlacedRecord = seen previous r in
    let l = not_last b s z in
    let less = key_rises b s c.0 l in
    let rest = leaf_ordered b (key_of b s) rs z c.1 in
    let items : List Item = items_from b (key_of b s) rs in
    subst (IsLeafOrdered b previous) (sym (cond-false (is_ended b s) [] _ c.0.goes_on)) (record {
      ordered = record {
        rising = (λ y i. rest.later y i, rest.ordered.rising);
        above = λ item i. elim i [
          | inl e ↦ subst (λ (w : Item). AboveLow b.visit.low w.key) e (key_low b s c.0 l)
          | inr j ↦ rest.ordered.above item j
        ];
        below = λ item i. elim i [
          | inl e ↦ subst (λ (w : Item). BelowHigh b.visit.high w.key) e (key_high b s c.0 l)
          | inr j ↦ rest.ordered.below item j
        ];
      };
      later = λ item i. elim i [
        | inl e ↦ subst (λ (w : Item). cmp previous w.key ≡ Less) e less
        | inr j ↦ cmp_total.trans previous (key_of b s) item.key less (rest.later item j)
      ];
    })

-- ---- which records are the first and the last

abbrev pub AfterFirst : List Record → Type 0
AfterFirst [] = ⊤
AfterFirst (r ∷ rs) = (r.offset == 16) ≡ false

abbrev pub InPlace : BlockReading → List Record → Type 0
InPlace b [] = ⊤
InPlace b (r ∷ rs) = (is_last b (seen [] r) ≡ true → rs ≡ []) × AfterFirst rs × InPlace b rs

none_left : (n level at : ℕ) (left : List ℕ) → length left ≡ 0 → records_up_to n level at left ≡ []
none_left zero level at left h = refl
none_left (suc n) level at left h =
    cond-false (is_well_sized level left) _ _
    (and_left (nat_le 4 (length left)
    && nat_le (least_size level) (block.size_of left)) _
    (and_left (nat_le 4 (length left)) _ (lt-leb 4 (length left) (omega arith))))

after_first : (n level at : ℕ) (left : List ℕ) → 16 < at → AfterFirst (records_up_to n level at left)
after_first zero level at left h = tt
after_first (suc n) level at left h =
    cond_both (is_well_sized level left) _ _ AfterFirst (λ _. ne_eqb at 16 (λ e. omega arith)) (λ _. tt)

record HasSize (left : List ℕ) : Type 0 where
  some : 5 ≤ block.size_of left
  within : block.size_of left ≤ length left

has_size : (level : ℕ) (left : List ℕ) → is_well_sized level left ≡ true → HasSize left
has_size level left h =
    let parts =
    and_parts (nat_le 4 (length left)
    && nat_le (least_size level) (block.size_of left)) (nat_le (block.size_of left) (length left)) h in
    let least = leb-true (least_size level) (block.size_of left) (and_parts (nat_le 4 (length left)) _ parts.0).1 in
    let some : 5 ≤ least_size level = cond_both (level == 0) 5 8 (λ n. 5 ≤ n) (λ _. omega arith) (λ _. omega arith) in
    record { some = omega (arith, least, some); within = leb-true (block.size_of left) (length left) parts.1 }

body_size : (at : ℕ) (left : List ℕ) → HasSize left → size_of (seen [] (first_record at left)) ≡ block.size_of left
body_size at left h =
    omega (
      arith,
      h.some,
      h.within,
      length-drop 4 (take (block.size_of left) left),
      length-take-le (block.size_of left) left h.within,
    )

in_place : (b : BlockReading) (n level at : ℕ) (left : List ℕ) → 16 ≤ at
    → (0 < length left → at + length left ≤ b.used) → InPlace b (records_up_to n level at left)
in_place b zero level at left low within = tt
in_place b (suc n) level at left low within =
    by (is_well_sized level left) refl (in_place b n level (at + block.size_of left) (drop (block.size_of left) left))
  where
    last : HasSize left → is_last b (seen [] (first_record at left)) ≡ true
        → records_up_to n level (at + block.size_of left) (drop (block.size_of left) left) ≡ []
    last h e =
        let ends =
        eqb-true (at + size_of (seen [] (first_record at left))) b.used (and_parts (nat_lt 0 b.level) _ e).1 in
        let all = within (omega (arith, h.some, h.within)) in
        none_left n level (at + block.size_of left) (drop (block.size_of left) left)
        (omega (arith, ends, all, body_size at left h, length-drop (block.size_of left) left))

    by : (t : Bool) → is_well_sized level left ≡ t
        → (16 ≤ at + block.size_of left
        → (0 < length (drop (block.size_of left) left)
        → at + block.size_of left + length (drop (block.size_of left) left) ≤ b.used)
        → InPlace b (records_up_to n level (at + block.size_of left) (drop (block.size_of left) left)))
        → InPlace b (if t then first_record at left ∷ records_up_to n level (at
        + block.size_of left) (drop (block.size_of left) left) else [])
    by false e next = tt
    by true e next =
        let h = has_size level left e in (
          last h,
          after_first n level (at + block.size_of left) (drop (block.size_of left) left) (omega (arith, h.some)),
          next (omega arith) (λ more. omega (
            arith,
            more,
            h.some,
            h.within,
            within (omega (arith, h.some, h.within)),
            length-drop (block.size_of left) left,
          )),
        )

-- ---- index blocks

-- the forest of children in two parts
record AreTwo (tree : Visit → Option Tree) (cs ds : List Child) (f : Tree) : Type 0 where
  front : Tree
  back : Tree
  first : forest_of tree cs ≡ Some front
  second : forest_of tree ds ≡ Some back
  items : f.items ≡ front.items ++ back.items

two_parts : (tree : Visit → Option Tree) (cs ds : List Child) (f : Tree) → forest_of tree (cs ++ ds) ≡ Some f
    → AreTwo tree cs ds f
two_parts tree [] ds f h =
    record { front = record { blocks = []; items = [] }; back = f; first = refl; second = h; items = refl }
two_parts tree (c ∷ cs) ds f h =
    let p = forest_parts tree c (cs ++ ds) f h in
    let q = two_parts tree cs ds p.rest p.later in
    record {
      front = joined p.first q.front;
      back = q.back;
      first = ap (option_and_then (λ t. option_map (joined t) (forest_of tree cs))) p.here
          ∙ ap (option_map (joined p.first)) q.first;
      second = q.second;
      items = ap (λ (t : Tree). t.items) (sym p.is) ∙ ap (λ l. p.first.items ++ l) q.items
          ∙ sym (append_assoc p.first.items q.front.items q.back.items);
    }

abbrev EachOrdered : (Visit → Option Tree) → List Child → Type 0
EachOrdered tree cs = (c : Child) (t : Tree) → IsIn cs c → tree c.visit ≡ Some t
    → AreOrdered c.visit.low c.visit.high t.items

empty_ordered : (tree : Visit → Option Tree) (low high : Option (List ℕ)) (f : Tree) → forest_of tree [] ≡ Some f
    → AreOrdered low high f.items
empty_ordered tree low high f h =
    let same : record { blocks = []; items = [] } ≡ f = cc in
    subst (λ (t : Tree). AreOrdered low high t.items) same (none_ordered low high)

one_ordered : (tree : Visit → Option Tree) (c : Child) (f : Tree) → EachOrdered tree (c ∷ [])
    → forest_of tree (c ∷ []) ≡ Some f → AreOrdered c.visit.low c.visit.high f.items
one_ordered tree c f each h =
    let p = forest_parts tree c [] f h in
    let none : record { blocks = []; items = [] } ≡ p.rest = cc (p.later) in
    let same : p.first.items ≡ f.items = sym (append-nil p.first.items)
    ∙ ap (λ (t : Tree). p.first.items ++ t.items) none ∙ ap (λ (t : Tree). t.items) p.is in
    subst (AreOrdered c.visit.low c.visit.high) same (each c p.first (inl refl) p.here)

target_bounds : (b : BlockReading) (s : PlacedRecord) (p : ℕ) → (b.level == 0) ≡ false
    → ((target_of b s p).low ≡ low_of b s) × ((target_of b s p).high ≡ high_of b s)
unfolding target_of
target_bounds b s p z = rw z (refl, refl)

child_ordered : (tree : Visit → Option Tree) (b : BlockReading) (s : PlacedRecord) (f : Tree) → (b.level == 0) ≡ false
    → EachOrdered tree (children_of_record b s) → forest_of tree (children_of_record b s) ≡ Some f
    → AreOrdered (low_of b s) (high_of b s) f.items
child_ordered tree b s f z each h = by (pointer_of b s) each h
  where
    under : (p : ℕ) (t : Bool)
        → EachOrdered tree (if t then record { offset = s.record_.offset; visit = target_of b s p } ∷ [] else [])
        → forest_of tree (if t then record { offset = s.record_.offset; visit = target_of b s p } ∷ [] else [])
        ≡ Some f → AreOrdered (low_of b s) (high_of b s) f.items
    under p true e k =
        let o = one_ordered tree (record { offset = s.record_.offset; visit = target_of b s p }) f e k in
        let w = target_bounds b s p z in
        subst (λ low. AreOrdered low (high_of b s) f.items) w.0
        (subst (λ high. AreOrdered (target_of b s p).low high f.items) w.1 o)
    under p false e k = empty_ordered tree (low_of b s) (high_of b s) f k

    by : (o : Option ℕ) → EachOrdered tree (child_to b s o) → forest_of tree (child_to b s o) ≡ Some f
        → AreOrdered (low_of b s) (high_of b s) f.items
    by None e k = empty_ordered tree (low_of b s) (high_of b s) f k
    by (Some p) e k = under p (is_sound b p) e k

-- the lower bound from the first of some records on
abbrev pub LowIs : BlockReading → List ℕ → Option (List ℕ) → List Record → Type 0
LowIs b previous low [] = ⊤
LowIs b previous low (r ∷ rs) = low_of b (seen previous r) ≡ low

low_later : (b : BlockReading) (key : List ℕ) (rs : List Record) → AfterFirst rs → LowIs b key (Some key) rs
low_later b key [] a = tt
low_later b key (r ∷ rs) a = cond-false (r.offset == 16) _ _ a

low_first : (b : BlockReading) (n level : ℕ) (left : List ℕ) → LowIs b [] b.visit.low (records_up_to n level 16 left)
low_first b zero level left = tt
low_first b (suc n) level left = cond_both (is_well_sized level left) _ _ (LowIs b [] b.visit.low) (λ _. refl) (λ _. tt)

key_above : (b : BlockReading) (s : PlacedRecord) → IsCleanRecord b s → is_last b s ≡ false
    → AboveLow (low_of b s) (key_of b s)
key_above b s c l =
    cond_both (is_first s) _ _ (λ low. AboveLow low (key_of b s)) (λ _. key_low b s c l)
    (λ _. not_below (key_of b s) s.previous (key_rises b s c l))

high_last : (b : BlockReading) (s : PlacedRecord) → is_last b s ≡ true → high_of b s ≡ b.visit.high
high_last b s l = cond-true (is_last b s) _ _ l

high_key : (b : BlockReading) (s : PlacedRecord) → is_last b s ≡ false → high_of b s ≡ Some (key_of b s)
high_key b s l = cond-false (is_last b s) _ _ l

index_ordered : (tree : Visit
    → Option Tree) (b : BlockReading) (previous : List ℕ) (rs : List Record) (low : Option (List ℕ)) (f : Tree)
    → (b.level == 0) ≡ false → CleanRecords b previous rs → InPlace b rs → LowIs b previous low rs
    → EachOrdered tree (children_from b previous rs) → forest_of tree (children_from b previous rs) ≡ Some f
    → AreOrdered low b.visit.high f.items
index_ordered tree b previous [] low f z c place is each h = empty_ordered tree low b.visit.high f h
index_ordered tree b previous (r ∷ rs) low f z c place is each h =
    let s : PlacedRecord = seen previous r in
    let rest : List Child = children_from b (key_of b s) rs in
    let whole : children_from b previous (r ∷ rs) ≡ children_of_record b s ++ rest =
    cond-false (is_ended b s) [] _ c.0.goes_on in
    let each' : EachOrdered tree (children_of_record b s ++ rest) = subst (EachOrdered tree) whole each in
    let two = two_parts tree (children_of_record b s) rest f (ap (forest_of tree) (sym whole) ∙ h) in
    let front =
    child_ordered tree b s two.front z (λ d t i. each' d t (in_left (children_of_record b s) rest d i)) two.first in
    let front' : AreOrdered low (high_of b s) two.front.items =
    subst (λ w. AreOrdered w (high_of b s) two.front.items) is front in
    subst (AreOrdered low b.visit.high) (sym two.items)
    (elim (cases_Bool (is_last b s)) [
      | inl l ↦
          let none : rs ≡ [] = place.0 l in
          let empty : two.back.items ≡ [] =
          no_items tree two.back (ap (forest_of tree) (ap (children_from b (key_of b s)) (sym none))
          ∙ two.second) in
          let whole' : two.front.items ≡ two.front.items ++ two.back.items = sym (append-nil two.front.items)
          ∙ ap (λ l. two.front.items ++ l) (sym empty) in
          subst (AreOrdered low b.visit.high) whole'
          (subst (λ high. AreOrdered low high two.front.items) (high_last b s l) front')
      | inr l ↦
          let back =
          index_ordered tree b (key_of b s) rs (Some (key_of b s)) two.back z c.1 place.2
          (low_later b (key_of b s) rs place.1) (λ d t i. each' d t (in_right (children_of_record b s) rest d i))
          two.second in
          both_ordered low b.visit.high (key_of b s) two.front.items two.back.items
          (subst (λ high. AreOrdered low high two.front.items) (high_key b s l) front') back
          (subst (λ w. AboveLow w (key_of b s)) is (key_above b s c.0 l)) (key_high b s c.0 l)
    ])
  where
    no_items : (t : Visit → Option Tree) (g : Tree) → forest_of t [] ≡ Some g → g.items ≡ []
    no_items t g k = ap (λ (w : Tree). w.items) (sym (empty_is t g k))
      where
        empty_is : (t : Visit → Option Tree) (g : Tree) → forest_of t [] ≡ Some g
            → record { blocks = []; items = [] } ≡ g
        empty_is t g k = cc

-- ---- trees

pub sound_ordered : (image : List ℕ) (level : ℕ) (v : Visit) (t : Tree) → sound_tree image level v ≡ Some t
    → AreOrdered v.low v.high t.items
sound_ordered image zero v t h =
    let p = leaf_parts image v t h in
    let c = clean_block (reading_at image v) (block_of image v.block) p.none in
    let o = leaf_ordered (reading_at image v) [] (records_of (block_of image v.block))
    (eq-eqb (level_at image v) 0 p.level) c.records in
    subst (λ (w : Tree). AreOrdered v.low v.high w.items) p.is o.ordered
sound_ordered image (suc level) v t h =
    let p = index_parts image level v t h in
    let bytes : List ℕ = block_of image v.block in
    let b : BlockReading = reading_at image v in
    let left : List ℕ = bytes_left bytes 16 in
    let c = clean_block b bytes p.none in
    let whole = children_clean image v p.none in
    let place = in_place b (length left) (level_at image v) 16 left (omega arith)
    (λ some. omega (arith, some, length-drop 16 (take (used_of bytes) bytes), length-take (used_of bytes) bytes)) in
    let each : EachOrdered (sound_tree image level) (children_from b [] (records_of bytes)) =
    λ d s i found. sound_ordered image level d.visit s found in
    let o = index_ordered (sound_tree image level) b [] (records_of bytes) v.low p.below
    (ne_eqb (level_at image v) 0 (λ e. omega (arith, e, p.level))) c.records place
    (low_first b (length left) (level_at image v) left) each (ap (forest_of (sound_tree image level)) (sym whole)
    ∙ p.forest) in
    subst (λ (w : Tree). AreOrdered v.low v.high w.items) p.is o
