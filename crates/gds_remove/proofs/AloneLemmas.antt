-- An entry of a leaf that alone is in a range of keys is taken out in place.
use Rattle.std.proofs.Common.{◌≡◌, ◌≢◌, ◌+◌, ◌<◌, ◌≤◌, ◌&&◌, ℕ, Bool, true, false, not, List, [], ◌∷◌, ◌++◌, length}
use Rattle.std.proofs.Common.{filter, take, refl, sym, ap, ◌∙◌, subst, arith, append_assoc, inl, inr, Some}
use Rattle.std.specs.Prelude.{All}
use Rattle.std.specs.Bool.{OnTrue}
use Rattle.std.specs.List.{AllByRecursion}
use Rattle.std.proofs.lemmas.Bool.{and_right, cond-false, cond-true}
use Rattle.std.proofs.lemmas.List.Elements.{filter-append, recursion_from_All}
use Rattle.gds_base.specs.Put.{PutsBlock}
use Rattle.gds_block.specs.Item.{Item}
use Rattle.gds_find.proofs.WayLemmas.{packed_at}
use Rattle.gds_header.specs.Fields.{block_of}
use Rattle.gds_law.specs.Record.{is_below}
use Rattle.gds_law.specs.Visit.{Visit}
use Rattle.gds_pack.specs.Packable.{AreLeaves}
use Rattle.gds_pack.specs.Packed.{key_behind, packed_size, records_size}
use Rattle.gds_pack.specs.Unpacked.{entries_of}
use Rattle.gds_pack.proofs.SizeLemmas.{key_behind-append, records_size-append}
use Rattle.gds_search.specs.PackedBlock.{IsPackedBlock}
use Rattle.gds_search.specs.Place.{BeginsAt, IsBelow, IsPlace, IsPlaceFor}
use Rattle.gds_search.specs.declared.place.Place.{Place}
use Rattle.gds_sound.specs.Sound.{Tree}
use Rattle.gds_tree.specs.Keeps.{IsImage}
use Rattle.gds_tree.proofs.TestLemmas.{most_from, most_most, not_below}
use Rattle.gds_tree.proofs.TreeByLemmas.{LeafBy, by_leaf}
use Rattle.m_key.specs.Key.{AtMost, Below}
use Rattle.m_key.specs.KeyEnd.{shared}
use Rattle.m_key.proofs.KeyEndLemmas.{take-shared}
use Rattle.gds_remove.specs.Alone.{HasAlone, TakesAlone, between}
use Rattle.gds_remove.specs.Block.{AreEntriesAt}
use Rattle.gds_remove.specs.Cut.{LeavesTree, StandsBelow}
use Rattle.gds_remove.proofs.FreeingLemmas.{image_below}
use Rattle.gds_remove.proofs.LeafLemmas.{left_edited}
use Rattle.gds_remove.specs.Range.{is_in, left_by}

-- ---- filters

module _ {X : Type 0} (test : X → Bool) where
  all_pass : (xs : List X) → AllByRecursion (λ x. test x ≡ true) xs → filter test xs ≡ xs
  all_pass [] all = refl
  all_pass (x ∷ xs) all =
      cond-true (test x) (x ∷ filter test xs) (filter test xs) all.0 ∙ ap (λ ys. x ∷ ys) (all_pass xs all.1)

  one_fails : (a b : List X) (x : X) → AllByRecursion (λ y. test y ≡ true) a → test x ≡ false
      → AllByRecursion (λ y. test y ≡ true) b → filter test (a ++ x ∷ b) ≡ a ++ b
  one_fails a b x front out back =
      filter-append test a (x ∷ b)
      ∙ (λ i. all_pass a front i
      ++ (cond-false (test x) (x ∷ filter test b) (filter test b) out ∙ all_pass b back) i)

some_front : {X : Type 0} (a b : List X) → (a ≡ [] → ⊥) → a ++ b ≢ []
some_front [] b some none = some refl
some_front (x ∷ a) b some none = absurd (omega (arith, ap length none))

some_back : {X : Type 0} (a : List X) (x : X) (b : List X) → a ++ x ∷ b ≢ []
some_back [] x b none = absurd (omega (arith, ap length none))
some_back (y ∷ a) x b none = absurd (omega (arith, ap length none))

-- ---- keys below a range, in it and above it

module _ (low high : List ℕ) where
  abbrev is_out : Item → Bool
  is_out e = not (is_in (between low high) e.key)

  below_out : (es : List Item) → AllByRecursion (IsBelow low) es → AllByRecursion (λ e. is_out e ≡ true) es
  below_out [] all = tt
  below_out (e ∷ es) all = (ap (λ b. not (not b && is_below e.key high)) all.0.1, below_out es all.1)

  high_out : (e : Item) → AtMost high e.key → is_out e ≡ true
  high_out e above =
      ap not (and_right (not (is_below e.key low)) (is_below e.key high) (not_below high e.key above))

  above_out : (p : List ℕ) (es : List Item) → AtMost high p → AreLeaves p es
      → AllByRecursion (λ e. is_out e ≡ true) es
  above_out p [] most are = tt
  above_out p (e ∷ es) most are =
      let above : AtMost high e.key = most_most high p e.key most (most_from p e.key (inl are.0.above)) in
      (high_out e above, above_out e.key es above are.1)

  own_in : (key : List ℕ) → key ≡ low → Below low high → not (is_in (between low high) key) ≡ false
  own_in key same less =
      ap (λ k. not (not (is_below k low) && is_below k high)) same
      ∙ (λ i. not (not (not_below low low (most_from low low (inr refl)) i) && less i))

  -- ---- an entry that alone is in the range

  behind_leaves : (p : List ℕ) (a b : List Item) → AreLeaves p (a ++ b) → AreLeaves (key_behind p a) b
  behind_leaves p [] b are = are
  behind_leaves p (e ∷ a) b are = behind_leaves e.key a b are.1

  -- The first entry behind it is at or above the range's end, if there is one.
  abbrev pub BeginsHigh : List Item → Type 0
  BeginsHigh [] = Unit {0}
  BeginsHigh (e ∷ es) = AtMost high e.key

  high_behind : (p : List ℕ) (es : List Item) → AreLeaves p es → BeginsHigh es
      → AllByRecursion (λ e. is_out e ≡ true) es
  high_behind p [] are above = tt
  high_behind p (e ∷ es) are above = (high_out e above, above_out e.key es above are.1)

  module _ (block : List ℕ) (es : List Item) (place : Place) (packed : IsPackedBlock block 0 es)
      (less : Below low high) where
    -- the entry at the place has the key
    pub record IsHit : Type 0 where
      pub before : List Item
      pub own : Item
      pub behind : List Item
      pub place_is : IsPlaceFor es low place before (own ∷ behind)
      pub own_is : own.key ≡ low

    pub hit : IsPlace es low place → place.is_equal ≡ true → IsHit
    hit found equal = by found.1 found.2
      where
        by : (behind : List Item) → IsPlaceFor es low place found.0 behind → IsHit
        by [] spot = absurd (subst (λ t. OnTrue t (BeginsAt low [])) equal spot.equal)
        by (own ∷ behind) spot = record {
          before = found.0;
          own = own;
          behind = behind;
          place_is = spot;
          own_is = subst (λ t. OnTrue t (BeginsAt low (own ∷ behind))) equal spot.equal;
        }

    module _ (h : IsHit) where
      -- the entry's record reads as its key begins
      pub own_front : take (shared (key_behind [] h.before) h.own.key) low
          ≡ take (shared (key_behind [] h.before) h.own.key) h.own.key
      own_front = ap (take (shared (key_behind [] h.before) h.own.key)) (sym h.own_is)

      alone : BeginsHigh h.behind → h.before ++ h.behind ≢ [] → HasAlone es low high place
      alone above some = record {
        before = h.before;
        own = h.own;
        behind = h.behind;
        place_is = h.place_is;
        left_are = ap (left_by (between low high)) h.place_is.parts
            ∙ one_fails is_out h.before h.behind h.own
            (below_out h.before (recursion_from_All (IsBelow low) h.before h.place_is.below))
            (own_in h.own.key h.own_is less)
            (high_behind h.own.key h.behind
            (behind_leaves [] h.before (h.own ∷ h.behind)
            (subst (AreLeaves []) h.place_is.parts packed.packable)).1 above);
        some = some;
      }

      sizes : packed_size es ≡ packed_size (h.before ++ h.own ∷ []) + records_size h.own.key h.behind
      sizes =
          let again = append_assoc h.before (h.own ∷ []) h.behind in
          omega (
            arith,
            ap packed_size h.place_is.parts,
            ap packed_size again,
            records_size-append [] (h.before ++ h.own ∷ []) h.behind,
            ap (λ k. records_size k h.behind) (key_behind-append [] h.before (h.own ∷ [])),
          )

      -- it is the last one, and not the first
      pub last_alone : packed_size es ≤ packed_size (h.before ++ h.own ∷ []) → 16 < place.offset
          → HasAlone es low high place
      last_alone last first = by h.behind refl
        where
          by : (behind : List Item) → h.behind ≡ behind → HasAlone es low high place
          by [] is = alone (subst BeginsHigh (sym is) tt) (some_front h.before h.behind (λ none. omega (
            arith,
            first,
            h.place_is.offset,
            ap packed_size none,
          )))
          by (n ∷ behind) is = absurd (omega (arith, last, sizes, ap (records_size h.own.key) is))

      -- another one follows
      pub record HasNext : Type 0 where
        pub next : Item
        pub rest : List Item
        pub is : h.behind ≡ next ∷ rest

      pub has_next : packed_size (h.before ++ h.own ∷ []) < packed_size es → HasNext
      has_next more = by h.behind refl
        where
          by : (behind : List Item) → h.behind ≡ behind → HasNext
          by [] is = absurd (omega (arith, more, sizes, ap (records_size h.own.key) is))
          by (n ∷ behind) is = record { next = n; rest = behind; is = is }

      module _ (n : HasNext) where
        pub next_parts : es ≡ (h.before ++ h.own ∷ []) ++ n.next ∷ n.rest
        next_parts =
            h.place_is.parts ∙ ap (λ xs. h.before ++ h.own ∷ xs) n.is
            ∙ sym (append_assoc h.before (h.own ∷ []) (n.next ∷ n.rest))

        pub next_front : take (shared (key_behind [] (h.before ++ h.own ∷ [])) n.next.key) low
            ≡ take (shared (key_behind [] (h.before ++ h.own ∷ [])) n.next.key) n.next.key
        next_front =
            subst (λ k. take (shared k n.next.key) low ≡ take (shared k n.next.key) n.next.key)
            (sym (key_behind-append [] h.before (h.own ∷ []) ∙ h.own_is)) (take-shared low n.next.key)

        pub next_alone : AtMost high n.next.key → HasAlone es low high place
        next_alone above = alone (subst BeginsHigh (sym n.is) above)
            (subst (λ xs. h.before ++ xs ≢ []) (sym n.is) (some_back h.before n.next n.rest))

-- ---- what is said of bytes where a test answers yes

pub on_true : (P : Type 0) (test : Bool) → P → OnTrue test P
on_true P true holds = holds
on_true P false holds = tt

-- ---- the leaf's block gets the bytes

module _ (before : List ℕ) (low high : List ℕ) (v : Visit) (t : Tree) (s : StandsBelow before v 0 t)
    (bytes : All (λ b. b < 256) (block_of before v.block)) (after new : List ℕ)
    (takes : TakesAlone (block_of before v.block) new low high) (put : PutsBlock before after v.block new)
    (long : length new ≡ length (block_of before v.block)) where
  i : IsImage before
  i = image_below before v 0 t s

  leaf : LeafBy before v t
  leaf = by_leaf before v t i s.number.within s.sound

  are : AreEntriesAt v.block 0 leaf.es before
  are w others same _ has =
      let e : Some leaf.es ≡ Some others =
      sym leaf.has.right.found ∙ ap (λ n. entries_of (block_of before n)) (sym same) ∙ has.right.found in
      cc

  pub put_alone : LeavesTree before after v 0 t (between low high)
  put_alone =
      let e = takes leaf.es (packed_at before v 0 leaf.es i leaf.has bytes) in
      left_edited before (between low high) leaf.es v t are s e.0 after new put e.1 long
