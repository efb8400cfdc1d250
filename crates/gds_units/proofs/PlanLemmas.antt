-- Plans: their units, and the header once one is carried out.
use Rattle.std.proofs.Common.{◌≡◌, ◌≢◌, ℕ, zero, suc, ◌+◌, ◌-◌, ◌*◌, ◌<◌, ◌≤◌, ◌==◌, Bool, true, false, List, []}
use Rattle.std.proofs.Common.{◌∷◌, ◌++◌, length, take, drop, get_or, None, refl, sym, ap, subst, ◌∙◌, arith, lit≤}
use Rattle.std.specs.Prelude.{All, AllPairs, if◌then◌else◌}
use Rattle.std.proofs.lemmas.Bool.{eqb-false, eqb-true, ne_eqb}
use Rattle.std.proofs.lemmas.List.{get_or-map, length-map, map_more}
use Rattle.std.proofs.lemmas.List.Elements.{All-head, All-push, All-tail}
use Rattle.std.proofs.Math.Seq.{take-append_seam}
use Rattle.host_model.specs.Disk.{written}
use Rattle.gds_header.specs.Fields.{fields_of}
use Rattle.gds_header.specs.Kinds.{IsWithinLimits, unreadable}
use Rattle.gds_header.specs.declared.header.Header.{Header}
use Rattle.gds_header.proofs.EndingLemmas.{fields_of-front, within_limits}
use Rattle.gds_images.proofs.WrittenLemmas.{length-written_within}
use Rattle.gds_epoch.specs.Waiting.{LiesWithin, WaitingUnit, patched, place_of}
use Rattle.gds_epoch.specs.WaitingView.{unit_of, units_of}
use Rattle.gds_epoch.specs.declared.waiting.UnitBytes.{UnitBytes}
use Rattle.gds_units.specs.Plan.{header_after}
use Rattle.gds_units.proofs.DropLemmas.{front_behind}

-- one of the units that are kept in a vector
module _ (items : List UnitBytes) (k : ℕ) (unit : UnitBytes) (within : k < length items)
    (is : unit ≡ get_or items k unit) where
  -- what holds of all holds of it
  pub unit_has : (P : WaitingUnit → Type 0) → All P (units_of items) → P (unit_of unit)
  unit_has P all = subst P (get_or-map unit_of items k unit (unit_of unit) within ∙ ap unit_of (sym is))
      (all k (unit_of unit) (omega (arith, within, length-map items unit_of)))

  -- and of all up to it, if it holds of all before it too
  pub all_more : (P : WaitingUnit → Type 0) → All P (units_of (take k items)) → P (unit_of unit)
      → All P (units_of (take (k + 1) items))
  all_more P before this =
      let before_units : List WaitingUnit = units_of (take k items) in
      subst (All P)
      (sym (map_more unit_of items k unit within ∙ ap (λ (u : UnitBytes). before_units ++ unit_of u ∷ []) (sym is)))
      (All-push P before_units (unit_of unit) before this)

-- ---- The header once a plan is carried out.

-- the first 8,192 bytes then
abbrev front_of : List ℕ → List WaitingUnit → List ℕ
front_of front [] = front
front_of front (first ∷ plan) = if first.unit == 0 then first.bytes else front_of front plan

-- Units that aren't the header leave it.
abbrev NoHeader : WaitingUnit → Type 0
NoHeader w = w.unit ≢ 0

header_kept : (size : ℕ) (unit : WaitingUnit) (file : List ℕ) → unit.unit ≢ 0 → LiesWithin size (length file) unit
    → take 8192 (written (place_of size unit.unit) unit.bytes file) ≡ take 8192 file
header_kept size unit file some is =
    let more : (unit.unit == 0) ≡ false = ne_eqb unit.unit 0 some in
    let behind : 8192 ≤ place_of size unit.unit = rw more (omega arith) in
    front_behind 8192 (place_of size unit.unit) unit.bytes file behind (omega (arith, is.within))

others_kept : (size : ℕ) (plan : List WaitingUnit) (file : List ℕ) → All NoHeader plan
    → All (LiesWithin size (length file)) plan → take 8192 (patched size plan file) ≡ take 8192 file
others_kept size [] file none inside = refl
others_kept size (x ∷ plan) file none inside =
    let is = All-head (LiesWithin size (length file)) x plan inside in
    let next = written (place_of size x.unit) x.bytes file in
    let same : length next ≡ length file = length-written_within (place_of size x.unit) x.bytes file is.within in
    others_kept size plan next (All-tail NoHeader x plan none)
    (subst (λ n. All (LiesWithin size n) plan) (sym same) (All-tail (LiesWithin size (length file)) x plan inside))
    ∙ header_kept size x file (All-head NoHeader x plan none) is

-- a whole header at the front of a file
take_front : (n : ℕ) (bytes rest : List ℕ) → length bytes ≡ n → take n (bytes ++ rest) ≡ bytes
take_front n bytes rest len = ap (λ k. take k (bytes ++ rest)) (sym len) ∙ take-append_seam bytes rest

abbrev pub AreDistinct : List WaitingUnit → Type 0
AreDistinct plan = AllPairs (λ (first second : WaitingUnit). first.unit ≢ second.unit) plan

front_patched : (size : ℕ) (plan : List WaitingUnit) (file : List ℕ) → AreDistinct plan
    → All (LiesWithin size (length file)) plan
    → take 8192 (patched size plan file) ≡ front_of (take 8192 file) plan
front_patched size [] file distinct inside = refl
front_patched size (x ∷ plan) file distinct inside =
    by_number (x.unit == 0) refl
    (front_patched size plan (written (place_of size x.unit) x.bytes file)
    (λ i j d less within. distinct (suc i) (suc j) d (omega (arith, less)) (omega (arith, within))) rest)
  where
    is : LiesWithin size (length file) x
    is = All-head (LiesWithin size (length file)) x plan inside

    same : length (written (place_of size x.unit) x.bytes file) ≡ length file
    same = length-written_within (place_of size x.unit) x.bytes file is.within

    rest : All (LiesWithin size (length (written (place_of size x.unit) x.bytes file))) plan
    rest = subst (λ n. All (LiesWithin size n) plan) (sym same) (All-tail (LiesWithin size (length file)) x plan inside)

    by_number : (t : Bool) → (x.unit == 0) ≡ t
        → take 8192 (patched size plan (written (place_of size x.unit) x.bytes file))
        ≡ front_of (take 8192 (written (place_of size x.unit) x.bytes file)) plan
        → take 8192 (patched size plan (written (place_of size x.unit) x.bytes file))
        ≡ (if t then x.bytes else front_of (take 8192 file) plan)
    by_number true at_front further =
        let number : x.unit ≡ 0 = eqb-true x.unit 0 at_front in
        let none : All NoHeader plan =
        λ j d within e. distinct zero (suc j) d (omega arith) (omega (arith, within)) (number ∙ sym e) in
        let place : place_of size x.unit ≡ 0 = ap (λ t. if t then 0 else 8192 + (x.unit - 1) * size) at_front in
        let len : length x.bytes ≡ 8192 = is.size ∙ ap (λ t. if t then 8192 else size) at_front in
        others_kept size plan (written (place_of size x.unit) x.bytes file) none rest
        ∙ ap (λ at. take 8192 (written at x.bytes file)) place
        ∙ take_front 8192 x.bytes (drop (0 + length x.bytes) file) len
    by_number false some further =
        further
        ∙ ap (λ front. front_of front plan) (header_kept size x file (eqb-false x.unit 0 some) is)

-- Its fields are those that the plan says, and it can be read.
fields-front_of : (front : List ℕ) (plan : List WaitingUnit)
    → fields_of (front_of front plan) ≡ header_after (fields_of front) plan
fields-front_of front [] = refl
fields-front_of front (x ∷ plan) = by_number (x.unit == 0) (fields-front_of front plan)
  where
    by_number : (t : Bool) → fields_of (front_of front plan) ≡ header_after (fields_of front) plan
        → fields_of (if t then x.bytes else front_of front plan)
        ≡ (if t then fields_of x.bytes else header_after (fields_of front) plan)
    by_number true further = refl
    by_number false further = further

abbrev pub CanBeRead : WaitingUnit → Type 0
CanBeRead w = w.unit ≡ 0 → unreadable w.bytes ≡ None

readable-front_of : (front : List ℕ) (plan : List WaitingUnit) → unreadable front ≡ None → All CanBeRead plan
    → unreadable (front_of front plan) ≡ None
readable-front_of front [] fine read = fine
readable-front_of front (x ∷ plan) fine read =
    by_number (x.unit == 0) refl (readable-front_of front plan fine (All-tail CanBeRead x plan read))
  where
    by_number : (t : Bool) → (x.unit == 0) ≡ t → unreadable (front_of front plan) ≡ None
        → unreadable (if t then x.bytes else front_of front plan) ≡ None
    by_number true at_front further = All-head CanBeRead x plan read (eqb-true x.unit 0 at_front)
    by_number false some further = further

-- It keeps the limits.
pub limits_after : (h : Header) (plan : List WaitingUnit) → IsWithinLimits h → All CanBeRead plan
    → IsWithinLimits (header_after h plan)
limits_after h [] limits read = limits
limits_after h (x ∷ plan) limits read =
    by_number (x.unit == 0) refl (limits_after h plan limits (All-tail CanBeRead x plan read))
  where
    by_number : (t : Bool) → (x.unit == 0) ≡ t → IsWithinLimits (header_after h plan)
        → IsWithinLimits (if t then fields_of x.bytes else header_after h plan)
    by_number true at_front further =
        within_limits x.bytes (All-head CanBeRead x plan read (eqb-true x.unit 0 at_front))
    by_number false some further = further

module _ (size : ℕ) (plan : List WaitingUnit) (file : List ℕ) (distinct : AreDistinct plan)
    (inside : All (LiesWithin size (length file)) plan) where
  pub fields_patched : (h : Header) → fields_of file ≡ h → fields_of (patched size plan file) ≡ header_after h plan
  fields_patched h is =
      sym (fields_of-front 8192 (patched size plan file) (lit≤ tt))
      ∙ ap fields_of (front_patched size plan file distinct inside)
      ∙ fields-front_of (take 8192 file) plan
      ∙ ap (λ k. header_after k plan) (fields_of-front 8192 file (lit≤ tt) ∙ is)

  pub readable_patched : unreadable (take 8192 file) ≡ None → All CanBeRead plan
      → unreadable (take 8192 (patched size plan file)) ≡ None
  readable_patched fine read =
      ap unreadable (front_patched size plan file distinct inside)
      ∙ readable-front_of (take 8192 file) plan fine read
