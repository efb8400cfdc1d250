-- What is told of a block whose records are read one after another, where nothing is wrong with them.
use Rattle.std.proofs.Common.{ℕ, ◌≡◌, ◌+◌, ◌-◌, ◌≤◌, ◌<◌, inl, inr, false, List, [], ◌∷◌, ◌++◌, length}
use Rattle.std.proofs.Common.{take, drop, refl, sym, ◌∙◌, ap, subst, arith, length-take, length-drop}
use Rattle.std.specs.Prelude.{map, option_map, Option, if◌then◌else◌}
use Rattle.std.proofs.lemmas.Bool.{cond-false}
use Rattle.std.proofs.lemmas.List.{drop-drop, nil_from_length}
use Rattle.gds_block.specs.Block.{used_of, level_of}
use Rattle.gds_block.specs.Record as block
use Rattle.gds_block.specs.Record.{Record, bytes_left, records_of, records_from, first_record, is_well_sized}
use Rattle.gds_block.proofs.RecordLemmas.{Fits, Fits-from_well_sized, records_from-first}
use Rattle.m_key.specs.KeyEnd.{HasOpenFronts}
use Rattle.m_key.proofs.KeyEndLemmas.{HasOpenFronts-nil}
use Rattle.gds_law.specs.Visit.{global}
use Rattle.gds_law.specs.Block.{kinds_from, size_kinds}
use Rattle.gds_law.specs.BlockReading.{BlockReading, PlacedRecord, size_of, key_of}
use Rattle.gds_law.specs.Record.{is_ended, is_above_bound, is_below_bound}
use Rattle.integ_quick.specs.Record.{IsFront, Follows}
use Rattle.integ_quick.specs.declared.leaf.Leaf.{Leaf}
use Rattle.integ_quick.specs.Leaf.{Reads, GoesOn, IsReadTo}
use Rattle.integ_quick.proofs.KindLemmas.{IsClean, kinds_of-clean, is_ended-clean}
use Rattle.integ_quick.proofs.OrderLemmas.{not_above-back, not_below-on}
use Rattle.integ_quick.proofs.RecordLemmas.{IsPlaced, IsClean-follows, key_of-is, fronts-key}

module _ (b : BlockReading) (bytes : List ℕ) (at : ℕ) (previous : List ℕ) (r : Record) (rs : List Record) where
  abbrev here : PlacedRecord
  here = record { previous = previous; record_ = r }

  kinds_from-clean : (next : ℕ) (key : List ℕ) → IsClean b here → r.offset + size_of here ≡ next → key_of b here ≡ key
      → kinds_from b bytes at previous (r ∷ rs) ≡ kinds_from b bytes next key rs
  kinds_from-clean next key clean e k =
      ap (λ ks. map (λ kind. (r.offset, kind)) ks
      ++ (if is_ended b here then [] else kinds_from b bytes (r.offset + size_of here) (key_of b here) rs))
      (kinds_of-clean b here clean)
      ∙ cond-false (is_ended b here) _ _ (is_ended-clean b here clean)
      ∙ ap (λ n. kinds_from b bytes n (key_of b here) rs) e
      ∙ ap (λ x. kinds_from b bytes next x rs) k

-- one record more, which stands at a place
module _ (b : BlockReading) (bytes name previous key rest body more : List ℕ) (count at : ℕ) where
  abbrev r : Record
  r = first_record at rest

  abbrev s : PlacedRecord
  s = record { previous = previous; record_ = r }

  -- the place behind it
  abbrev next : ℕ
  next = used_of bytes - length more

  module _ (level : b.level ≡ 0) (role : b.visit.role ≡ global name) (placed : IsPlaced s)
      (front : IsFront rest count body more) (follows : Follows b.header name previous count body key)
      (fronts : HasOpenFronts previous) (left : rest ≡ bytes_left bytes at)
      (used : at + length rest ≡ used_of bytes) (below : is_below_bound 0 b.visit.low key ≡ false) where
    follows-s : Follows b.header name previous r.count r.body key
    follows-s =
        subst (λ n. Follows b.header name previous n r.body key) front.count_field
        (subst (λ xs. Follows b.header name previous count xs key) front.bytes follows)

    fits : Fits rest
    fits = Fits-from_well_sized 0 rest front.sized

    length-body : 4 + length r.body ≡ block.size_of rest
    length-body =
        let whole = length-drop 4 (take (block.size_of rest) rest) in
        omega (arith, fits.least, fits.within, whole, length-take (block.size_of rest) rest)

    length-more : length more + block.size_of rest ≡ length rest
    length-more = omega (arith, fits.within, ap length front.behind, length-drop (block.size_of rest) rest)

    next-at : at + block.size_of rest ≡ next
    next-at = omega (arith, length-more)

    told : is_above_bound b.visit.high key ≡ false
        → kinds_from b bytes at previous (records_from 0 at rest)
        ≡ kinds_from b bytes next key (records_from 0 next more)
    told above =
        ap (kinds_from b bytes at previous) (records_from-first 0 at rest front.sized)
        ∙ kinds_from-clean b bytes at previous r _ next key
        (IsClean-follows b s placed fronts name key level role follows-s above below)
        (ap (λ n. at + n) length-body ∙ next-at)
        (key_of-is b s placed fronts key follows-s.ending)
        ∙ ap (λ xs. kinds_from b bytes next key (records_from 0 (at + block.size_of rest) xs)) (sym front.behind)
        ∙ ap (λ n. kinds_from b bytes next key (records_from 0 n more)) next-at

    left-next : more ≡ bytes_left bytes next
    left-next =
        front.behind ∙ ap (drop (block.size_of rest)) left
        ∙ drop-drop (block.size_of rest) at (take (used_of bytes) bytes) ∙ ap (bytes_left bytes) next-at

    GoesOn-step : 16 ≤ at
        → (is_above_bound b.visit.high key ≡ false
        → kinds_from b bytes 16 [] (records_of bytes) ≡ kinds_from b bytes at previous (records_from 0 at rest))
        → GoesOn b bytes more key
    GoesOn-step head before = record {
      behind = omega (arith, fits.least, length-more);
      left = left-next;
      fronts = fronts-key b s placed fronts key follows-s.ending;
      not_below = below;
      told = λ above. before above ∙ told above;
    }

-- the first record
pub GoesOn-first : (b : BlockReading) (bytes name key left body more : List ℕ) (count : ℕ) → b.level ≡ 0
    → b.visit.role ≡ global name → level_of bytes ≡ 0 → left ≡ bytes_left bytes 16 → length left + 16 ≡ used_of bytes
    → IsFront left count body more → count ≡ 0 → Follows b.header name [] count body key
    → is_below_bound 0 b.visit.low key ≡ false → GoesOn b bytes more key
GoesOn-first b bytes name key left body more count level role height is used front first follows below =
    GoesOn-step b bytes name [] key left body more count 16 level role (inl (refl, sym front.count_field ∙ first)) front
    follows HasOpenFronts-nil is (omega arith) below (omega arith)
    (λ above.
    ap (λ n. kinds_from b bytes 16 [] (records_from n 16 (bytes_left bytes 16))) height
    ∙ ap (λ xs. kinds_from b bytes 16 [] (records_from 0 16 xs)) (sym is))

-- any other one
pub GoesOn-next : (b : BlockReading) (bytes name previous key rest body more : List ℕ) (count : ℕ) → b.level ≡ 0
    → b.visit.role ≡ global name → GoesOn b bytes rest previous → IsFront rest count body more
    → count < length previous → Follows b.header name previous count body key → GoesOn b bytes more key
GoesOn-next b bytes name previous key rest body more count level role g front less follows =
    let behind = g.behind in
    let place : 16 < used_of bytes - length rest = omega arith in
    GoesOn-step b bytes name previous key rest body more count (used_of bytes - length rest) level role
    (inr (place, subst (λ n. n < length previous) front.count_field less)) front follows g.fronts g.left (omega arith)
    (not_below-on b.visit.low previous key follows.rises g.not_below) (omega arith)
    (λ above. g.told (not_above-back b.visit.high previous key follows.rises above))

-- nothing left
pub GoesOn-end : (b : BlockReading) (bytes rest key : List ℕ) → GoesOn b bytes rest key → rest ≡ []
    → is_above_bound b.visit.high key ≡ false → kinds_from b bytes 16 [] (records_of bytes) ≡ []
GoesOn-end b bytes rest key g e above =
    g.told above
    ∙ ap (λ xs. kinds_from b bytes (used_of bytes - length rest) key (records_from 0 (used_of bytes - length rest) xs))
    e
    ∙ ap (λ xs. map (λ kind. (used_of bytes - length rest, kind)) (size_kinds b.level xs)) (sym g.left ∙ e)

-- ---- as the program reads them

abbrev low_of : Leaf → Option (List ℕ)
low_of leaf = option_map (λ low. low.items) leaf.low.now

abbrev high_of : Leaf → Option (List ℕ)
high_of leaf = option_map (λ high. high.items) leaf.high.now

pub IsReadTo-first : (leaf : Leaf) (left key more body : List ℕ) (count : ℕ) → IsFront left count body more → count ≡ 0
    → Follows leaf.header.now leaf.name.now [] count body key
    → is_below_bound 0 (low_of leaf) key ≡ false → IsReadTo leaf left more key
IsReadTo-first leaf left key more body count front first follows below = record {
  right = follows.right;
  goes_on = λ b bytes r.
      GoesOn-first b bytes leaf.name.now key left body more count r.level r.role r.height r.records r.used front first
      (subst (λ h. Follows h leaf.name.now [] count body key) (sym r.header) follows)
      (ap (λ low. is_below_bound 0 low key) r.low ∙ below);
}

pub IsReadTo-next : (leaf : Leaf) (left previous key rest more body : List ℕ) (count : ℕ)
    → IsReadTo leaf left rest previous → IsFront rest count body more → count < length previous
    → Follows leaf.header.now leaf.name.now previous count body key → IsReadTo leaf left more key
IsReadTo-next leaf left previous key rest more body count is front less follows = record {
  right = follows.right;
  goes_on = λ b bytes r.
      GoesOn-next b bytes leaf.name.now previous key rest body more count r.level r.role (is.goes_on b bytes r) front
      less
      (subst (λ h. Follows h leaf.name.now previous count body key) (sym r.header) follows);
}

pub IsReadTo-end : (leaf : Leaf) (left rest key : List ℕ) → IsReadTo leaf left rest key → length rest ≡ 0
    → is_above_bound (high_of leaf) key ≡ false
    → (b : BlockReading) (bytes : List ℕ) → Reads leaf b bytes left → kinds_from b bytes 16 [] (records_of bytes) ≡ []
IsReadTo-end leaf left rest key is none above b bytes r =
    GoesOn-end b bytes rest key (is.goes_on b bytes r) (nil_from_length rest none)
    (ap (λ high. is_above_bound high key) r.high ∙ above)
