-- The kinds and the children of records one after another: those of the first, and those of the rest.
use Rattle.std.proofs.Common.{ℕ, ◌≡◌, ◌+◌, Bool, true, false, List, [], ◌∷◌, ◌++◌, length, take, drop, inl, inr, refl}
use Rattle.std.proofs.Common.{sym, ◌∙◌, ap, subst, arith, length-take, length-drop}
use Rattle.std.specs.Prelude.{map, ◌&&◌, if◌then◌else◌, None}
use Rattle.integ_quick.proofs.KindLemmas.{if_none}
use Rattle.std.proofs.lemmas.Bool.{eqb-true, cond-true, cond-false}
use Rattle.std.proofs.lemmas.List.{drop_all, drop-drop, length-map, map-append}
use Rattle.gds_block.specs.Block.{used_of}
use Rattle.gds_block.specs.Record as block
use Rattle.gds_block.specs.Record.{Record, AreRecords, bytes_left, is_well_sized}
use Rattle.gds_block.proofs.RecordLemmas.{Fits-from_well_sized}
use Rattle.gds_law.specs.Block.{fault_at, kinds_from, children_from, size_kinds}
use Rattle.gds_law.specs.BlockReading.{BlockReading, PlacedRecord, size_of, is_last, key_of}
use Rattle.gds_law.specs.Record.{kinds_of, is_ended, children_of_record}
use Rattle.gds_law.specs.Visit.{Child}
use Rattle.gds_law.specs.declared.fault.Fault.{Fault}
use Rattle.gds_law.specs.declared.kind.FaultKind.{FaultKind}
use Rattle.integ_block.specs.Entry.{Leaves, IsNext, children_at}
use Rattle.integ_block.specs.BlockReading.{faults_at}

-- ---- where records stand

none-left : (level at : ℕ) (rs : List Record) → AreRecords level at [] rs → rs ≡ []
none-left level at [] h = refl
none-left level at (r ∷ rs) (w, e, more) = absurd (cc)

back_true : (x y : Bool) → (x && y) ≡ true → y ≡ true
back_true true y h = h
back_true false y h = absurd (cc)

module _ (level : ℕ) (bytes : List ℕ) (at : ℕ) (r : Record) (rs : List Record)
    (are : AreRecords level at (bytes_left bytes at) (r ∷ rs)) where
  abbrev size : ℕ
  size = block.size_of (bytes_left bytes at)

  length-body : length (drop 4 (take size (bytes_left bytes at))) + 4 ≡ size
  length-body =
      let fits = Fits-from_well_sized level (bytes_left bytes at) are.0 in
      omega (
        arith,
        fits.least,
        fits.within,
        length-drop 4 (take size (bytes_left bytes at)),
        length-take size (bytes_left bytes at),
      )

  ends-at : r.offset + (4 + length r.body) ≡ at + size
  ends-at = omega (arith, length-body, ap (λ q. q.offset) are.1, ap (λ q. length q.body) are.1)

  pub AreRecords-next : (end : ℕ) → end ≡ r.offset + (4 + length r.body)
      → AreRecords level end (bytes_left bytes end) rs
  AreRecords-next end e =
      let same : at + size ≡ end = omega (arith, ends-at) in
      let left : drop size (bytes_left bytes at) ≡ bytes_left bytes (at + size) =
      drop-drop size at (take (used_of bytes) bytes) in
      subst (λ n. AreRecords level n (bytes_left bytes n) rs) same
      (subst (λ xs. AreRecords level (at + size) xs rs) left are.2)

  none-behind : (used : ℕ) → used ≡ used_of bytes → r.offset + (4 + length r.body) ≡ used
      → bytes_left bytes (r.offset + (4 + length r.body)) ≡ []
  none-behind used u e = drop_all _ (take (used_of bytes) bytes) (omega (arith, length-take (used_of bytes) bytes))

  no-more : (used : ℕ) → used ≡ used_of bytes → r.offset + (4 + length r.body) ≡ used → rs ≡ []
  no-more used u e =
      none-left level (r.offset + (4 + length r.body)) rs
      (subst (λ xs. AreRecords level (r.offset
      + (4 + length r.body)) xs rs) (none-behind used u e) (AreRecords-next (r.offset + (4 + length r.body)) refl))

-- ---- what is told of them, and their children

pub length-faults : (b : BlockReading) (path : List (ℕ × ℕ)) (offset : ℕ) (kinds : List FaultKind)
    → length (faults_at b path offset kinds) ≡ length kinds
length-faults b path offset kinds = length-map (map (λ kind. (offset, kind)) kinds) (fault_at b path)
    ∙ length-map kinds (λ kind. (offset, kind))

pulled : {A : Type 0} (t : Bool) (xs : List A) → (if t then [] else xs ++ []) ≡ (if t then [] else xs) ++ []
pulled true xs = refl
pulled false xs = refl

both : {A : Type 0} (t : Bool) (xs ys : List A)
    → (if t then [] else xs ++ ys) ≡ (if t then [] else xs) ++ (if t then [] else ys)
both true xs ys = refl
both false xs ys = refl

module _ (b : BlockReading) (bytes : List ℕ) (at : ℕ) (previous : List ℕ) (r : Record) (rs : List Record) where
  abbrev pub here : PlacedRecord
  here = record { previous = previous; record_ = r }

  -- the kinds of the bytes that are left behind the last record
  abbrev kinds_left : List ℕ → List (ℕ × FaultKind)
  kinds_left xs = map (λ kind. (r.offset + size_of here, kind)) (size_kinds b.level xs)

  module _ (path : List (ℕ × ℕ)) where
    -- with what there may be behind the record
    abbrev pub behind : List Fault
    behind = map (fault_at b path) (if is_ended b here then [] else kinds_from b bytes (r.offset
        + size_of here) (key_of b here) rs)

    pub told-behind : map (fault_at b path) (kinds_from b bytes at previous (r ∷ rs))
        ≡ faults_at b path r.offset (kinds_of b here) ++ behind
    told-behind = map-append (fault_at b path) (map (λ kind. (r.offset, kind)) (kinds_of b here)) _

    -- with what goes on behind it
    pub told-next : (end : ℕ) (key : List ℕ) → end ≡ r.offset + size_of here → IsNext b here key
        → map (fault_at b path) (kinds_from b bytes at previous (r ∷ rs))
        ≡ faults_at b path r.offset (kinds_of b here) ++ map (fault_at b path) (kinds_from b bytes end key rs)
    told-next end key e next =
        ap (λ xs. map (fault_at b path) (map (λ kind. (r.offset, kind)) (kinds_of b here) ++ xs))
        (cond-false (is_ended b here) _ _ next.goes_on
        ∙ ap (λ n. kinds_from b bytes n (key_of b here) rs) (sym e)
        ∙ ap (λ k. kinds_from b bytes end k rs) next.whole)
        ∙ map-append (fault_at b path) (map (λ kind. (r.offset, kind)) (kinds_of b here))
        (kinds_from b bytes end key rs)

  -- with what there may be behind it
  abbrev pub more_children : List Child
  more_children = if is_ended b here then [] else children_from b (key_of b here) rs

  pub children-behind : children_from b previous (r ∷ rs) ≡ children_at b here ++ more_children
  children-behind = both (is_ended b here) (children_of_record b here) (children_from b (key_of b here) rs)

  pub children-next : (key : List ℕ) → IsNext b here key
      → children_from b previous (r ∷ rs) ≡ children_at b here ++ children_from b key rs
  children-next key next =
      cond-false (is_ended b here) _ _ next.goes_on
      ∙ ap (λ xs. xs ++ children_from b (key_of b here) rs) (sym (cond-false (is_ended b here) _ _ next.goes_on))
      ∙ ap (λ k. children_at b here ++ children_from b k rs) next.whole

  -- with nothing behind it
  module _ (used : b.used
      ≡ used_of bytes) (are : AreRecords b.level at (bytes_left bytes at) (r ∷ rs)) (leaves : Leaves b here None) where
    ends : is_last b here ≡ true → r.offset + (4 + length r.body) ≡ b.used
    ends last = eqb-true _ _ (back_true _ _ last)

    kinds-stop : (if is_ended b here then [] else kinds_from b bytes (r.offset + size_of here) (key_of b here) rs) ≡ []
    kinds-stop =
        elim leaves [
          | inl h ↦ cond-true (is_ended b here) _ _ h
          | inr last ↦
              if_none (is_ended b here) _
              (ap (kinds_from b bytes (r.offset
              + size_of here) (key_of b here)) (no-more b.level bytes at r rs are b.used used (ends last))
              ∙ ap (λ xs. kinds_left xs) (none-behind b.level bytes at r rs are b.used used (ends last)))
        ]

    pub told-stop : (path : List (ℕ × ℕ))
        → map (fault_at b path) (kinds_from b bytes at previous (r ∷ rs))
        ≡ faults_at b path r.offset (kinds_of b here) ++ []
    told-stop path =
        ap (λ xs. map (fault_at b path) (map (λ kind. (r.offset, kind)) (kinds_of b here) ++ xs)) kinds-stop
        ∙ map-append (fault_at b path) (map (λ kind. (r.offset, kind)) (kinds_of b here)) []

    pub children-stop : children_from b previous (r ∷ rs) ≡ children_at b here ++ []
    children-stop =
        elim leaves [
          | inl h ↦ cond-true (is_ended b here) _ _ h ∙ ap (λ xs. xs ++ []) (sym (cond-true (is_ended b here) _ _ h))
          | inr last ↦
              ap (λ ys. if is_ended b here then [] else children_of_record b here
              ++ children_from b (key_of b here) ys) (no-more b.level bytes at r rs are b.used used (ends last))
              ∙ pulled (is_ended b here) (children_of_record b here)
        ]
