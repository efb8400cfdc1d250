-- Writes of units, torn and whole.
use Rattle.std.proofs.Common.{◌≡◌, ◌⊎◌, ℕ, zero, suc, ◌+◌, ◌<◌, ◌≤◌, List, [], ◌∷◌, ◌++◌, length, get_or}
use Rattle.std.proofs.Common.{slice_index, take}
use Rattle.std.proofs.Common.{refl, sym, subst, ap, ◌∙◌, inl, inr, ⊎_elim, arith}
use Rattle.std.specs.Prelude.{All, Any}
use Rattle.std.proofs.lemmas.Bool.{cases_lt}
use Rattle.std.proofs.lemmas.List.{ext_get_or, get_or-map, length-map, map_more, take-map}
use Rattle.std.proofs.lemmas.List.Elements.{All-append, All-cons, All-head, All-nil, All-tail, All-take}
use Rattle.host_model.specs.declared.host.FileNo.TheVariants.{Db}
use Rattle.host_model.specs.Disk.{Changes, Torn, written}
use Rattle.host_model.specs.Files.{Contents, with_file}
use Rattle.host_model.proofs.FileLemmas.{written-before}
use Rattle.gds_images.proofs.WrittenLemmas.{length-written_within, written_behind, written_within}
use Rattle.gds_epoch.specs.Waiting.{HasBytes, IsUnder, LiesWithin, TornUnits, WaitingUnit, patched, place_of}
use Rattle.gds_epoch.specs.WaitingView.{unit_of, units_of}
use Rattle.gds_epoch.specs.declared.waiting.UnitBytes.{UnitBytes}

-- one that has a property is the first or is among the others
any_cases : {X : Type 0} (P : X → Type 0) (x : X) (xs : List X) → Any P (x ∷ xs) → P x ⊎ Any P xs
any_cases {X} P x xs some = at some.0 some.1 some.2 some.3 some.4
  where
    at : (k : ℕ) (y : X) → k < length (x ∷ xs) → get_or (x ∷ xs) k y ≡ y → P y → P x ⊎ Any P xs
    at zero y within is has = inl (subst P (sym is) has)
    at (suc k) y within is has = inr (k, y, omega arith, is, has)

-- nothing is written
pub TornUnits-refl : (size : ℕ) (units : List WaitingUnit) (file : List ℕ) → TornUnits size units file file
TornUnits-refl size units file =
    record { no_shorter = omega arith; no_longer = λ n long ends. long; outside = λ i within none. refl }

pub TornUnits-then : (size : ℕ) (units : List WaitingUnit) (a b c : List ℕ)
    → TornUnits size units a b → TornUnits size units b c → TornUnits size units a c
TornUnits-then size units a b c first second = record {
  no_shorter = omega (arith, first.no_shorter, second.no_shorter);
  no_longer = λ n long ends. second.no_longer n (first.no_longer n long ends) ends;
  outside = λ i within none.
      second.outside i (omega (arith, within, first.no_shorter)) none ∙ first.outside i within none;
}

-- a torn write of one of the units
pub unit_torn : (size : ℕ) (units : List WaitingUnit) (k : ℕ) (unit : WaitingUnit) (old new : List ℕ)
    → k < length units → get_or units k unit ≡ unit
    → Torn (place_of size unit.unit) (length unit.bytes) old new → TornUnits size units old new
unit_torn size units k unit old new within is torn =
    let at = place_of size unit.unit in
    let n = length unit.bytes in
    record {
      no_shorter = torn.no_shorter;
      no_longer = λ m long ends.
          let end : at + n ≤ m =
          subst (λ (w : WaitingUnit). place_of size w.unit + length w.bytes ≤ m) is (ends k unit within) in
          omega (arith, torn.no_longer, long, end);
      outside = λ i inside none.
          ⊎_elim (λ (before : i < at). torn.before i inside before)
          (λ (from : at ≤ i).
          ⊎_elim (λ (under : i < at + n). absurd (none (k, unit, within, is, (from, under))))
          (λ (behind : at + n ≤ i). torn.behind i inside behind) (cases_lt i (at + n)))
          (cases_lt i at);
    }

-- The units are written one after another.
pub patched-append : (size : ℕ) (first second : List WaitingUnit) (file : List ℕ)
    → patched size (first ++ second) file ≡ patched size second (patched size first file)
patched-append size [] second file = refl
patched-append size (x ∷ first) second file =
    patched-append size first second (written (place_of size x.unit) x.bytes file)

pub length-patched : (size : ℕ) (units : List WaitingUnit) (file : List ℕ)
    → All (LiesWithin size (length file)) units → length (patched size units file) ≡ length file
length-patched size [] file inside = refl
length-patched size (x ∷ units) file inside =
    let next = written (place_of size x.unit) x.bytes file in
    let same : length next ≡ length file =
    length-written_within (place_of size x.unit) x.bytes file
    (All-head (LiesWithin size (length file)) x units inside).within in
    length-patched size units next
    (subst (λ n. All (LiesWithin size n) units) (sym same) (All-tail (LiesWithin size (length file)) x units inside))
    ∙ same

-- Two files of one length that agree outside the units agree everywhere once these are written.
patched_agrees_at : (size : ℕ) (units : List WaitingUnit) (a b : List ℕ) (i : ℕ) → length a ≡ length b
    → All (LiesWithin size (length a)) units → i < length a
    → ((IsUnder size units i → ⊥) → slice_index a i ≡ slice_index b i)
    → slice_index (patched size units a) i ≡ slice_index (patched size units b) i
patched_agrees_at size [] a b i long inside within same = same (λ some. omega (arith, some.2))
patched_agrees_at size (x ∷ units) a b i long inside within same =
    let at = place_of size x.unit in
    let bytes = x.bytes in
    let fits = (All-head (LiesWithin size (length a)) x units inside).within in
    let fits_too : at + length bytes ≤ length b = omega (arith, fits, long) in
    let next = written at bytes a in
    let other = written at bytes b in
    let next_long : length next ≡ length a = length-written_within at bytes a fits in
    let other_long : length other ≡ length b = length-written_within at bytes b fits_too in
    let rest = subst (λ n. All (LiesWithin size n) units) (sym next_long)
    (All-tail (LiesWithin size (length a)) x units inside) in
    patched_agrees_at size units next other i (next_long ∙ long ∙ sym other_long) rest
    (omega (arith, next_long, within))
    (λ none.
    ⊎_elim
    (λ (before : i < at).
    written-before at bytes a i within before
    ∙ same (λ some. ⊎_elim (λ here. omega (arith, here.0)) none (any_cases _ x units some))
    ∙ sym (written-before at bytes b i (omega (arith, within, long)) before))
    (λ (from : at ≤ i).
    ⊎_elim
    (λ (under : i < at + length bytes).
    written_within at bytes a i (omega arith) from under
    ∙ sym (written_within at bytes b i (omega arith) from under))
    (λ (behind : at + length bytes ≤ i).
    written_behind at bytes a i fits behind
    ∙ same (λ some. ⊎_elim (λ here. omega (arith, here.1)) none (any_cases _ x units some))
    ∙ sym (written_behind at bytes b i fits_too behind))
    (cases_lt i (at + length bytes)))
    (cases_lt i at))

pub patched_agrees : (size : ℕ) (units : List WaitingUnit) (a b : List ℕ) → length a ≡ length b
    → All (LiesWithin size (length a)) units
    → ((i : ℕ) → i < length a → (IsUnder size units i → ⊥) → slice_index a i ≡ slice_index b i)
    → patched size units a ≡ patched size units b
patched_agrees size units a b long inside same =
    let first : length (patched size units a) ≡ length a = length-patched size units a inside in
    let second : length (patched size units b) ≡ length b =
    length-patched size units b (subst (λ n. All (LiesWithin size n) units) long inside) in
    ext_get_or 0 (patched size units a) (patched size units b) (first ∙ long ∙ sym second)
    (λ i below.
    let within : i < length a = omega (arith, below, first) in
    patched_agrees_at size units a b i long inside within (λ none. same i within none))

-- a step in which units may be torn
abbrev pub UnitsTorn : ℕ → List WaitingUnit → Contents → Contents → Type 0
UnitsTorn size units = Changes Db (TornUnits size units)

pub UnitsTorn-then : (size : ℕ) (units : List WaitingUnit) (a b c : Contents)
    → UnitsTorn size units a b → UnitsTorn size units b c → UnitsTorn size units a c
UnitsTorn-then size units a b c first second = record {
  changed = TornUnits-then size units a.db b.db c.db first.changed second.changed;
  other = λ file not. second.other file not ∙ first.other file not;
  said = second.said ∙ first.said;
}

-- one of the units that are kept in a vector, and the write of it
module _ (size : ℕ) (items : List UnitBytes) (k : ℕ) (unit : UnitBytes) (within : k < length items)
    (is : unit ≡ get_or items k unit) (at : ℕ) (bytes : List ℕ) (place : at ≡ place_of size unit.unit)
    (bytes_are : bytes ≡ unit.bytes.items) where
  pub write_torn : (old new : Contents) → Changes Db (Torn at (length bytes)) old new
      → UnitsTorn size (units_of items) old new
  write_torn old new step = record {
    changed = unit_torn size (units_of items) k (unit_of unit) old.db new.db
        (omega (arith, within, length-map items unit_of))
        (get_or-map unit_of items k unit (unit_of unit) within ∙ ap unit_of (sym is))
        (subst (λ n. Torn n (length unit.bytes.items) old.db new.db) place
        (subst (λ bs. Torn at (length bs) old.db new.db) bytes_are step.changed));
    other = step.other;
    said = step.said;
  }

  pub more_written : (c d e : Contents) → d ≡ record c { db = patched size (units_of (take k items)) c.db }
      → e ≡ with_file Db (written at bytes d.db) d
      → e ≡ record c { db = patched size (units_of (take (k + 1) items)) c.db }
  more_written c d e so_far now =
      let before : List WaitingUnit = units_of (take k items) in
      let next : units_of (take (k + 1) items) ≡ before ++ unit_of unit ∷ [] =
      map_more unit_of items k unit within ∙ ap (λ u. before ++ unit_of u ∷ []) (sym is) in
      let same : written at bytes (patched size before c.db) ≡ patched size (units_of (take (k + 1) items)) c.db =
      ap (λ n. written n bytes (patched size before c.db)) place
      ∙ ap (λ bs. written (place_of size unit.unit) bs (patched size before c.db)) bytes_are
      ∙ sym (patched-append size before (unit_of unit ∷ []) c.db)
      ∙ ap (λ us. patched size us c.db) (sym next) in
      now ∙ ap (λ (x : Contents). with_file Db (written at bytes x.db) x) so_far ∙ ap (λ xs. record c { db = xs }) same

  -- its place is in the file, also while some of the units are written
  pub place_within : (c d : Contents) → All (LiesWithin size (length c.db)) (units_of items)
      → d ≡ record c { db = patched size (units_of (take k items)) c.db } → at ≤ length d.db
  place_within c d inside so_far =
      let some : All (LiesWithin size (length c.db)) (units_of (take k items)) =
      subst (All (LiesWithin size (length c.db))) (take-map unit_of k items)
      (All-take (LiesWithin size (length c.db)) k (units_of items) inside) in
      let long : length d.db ≡ length c.db =
      ap (λ (x : Contents). length x.db) so_far ∙ length-patched size (units_of (take k items)) c.db some in
      let this : LiesWithin size (length c.db) (unit_of unit) =
      subst (LiesWithin size (length c.db))
      (get_or-map unit_of items k unit (unit_of unit) within ∙ ap unit_of (sym is))
      (inside k (unit_of unit) (omega (arith, within, length-map items unit_of))) in
      omega (arith, this.within, place, long)

-- One unit more has bytes.
pub more_bytes : (items : List UnitBytes) (k : ℕ) (unit : UnitBytes) → k < length items → unit ≡ get_or items k unit
    → (bytes : List ℕ) → bytes ≡ unit.bytes.items → All (λ b. b < 256) bytes → All HasBytes (units_of (take k items))
    → All HasBytes (units_of (take (k + 1) items))
more_bytes items k unit within is bytes bytes_are this so_far =
    let before : List WaitingUnit = units_of (take k items) in
    let next : units_of (take (k + 1) items) ≡ before ++ unit_of unit ∷ [] =
    map_more unit_of items k unit within ∙ ap (λ u. before ++ unit_of u ∷ []) (sym is) in
    let one : HasBytes (unit_of unit) = subst (All (λ b. b < 256)) bytes_are this in
    subst (All HasBytes) (sym next)
    (All-append HasBytes before (unit_of unit ∷ []) so_far (All-cons HasBytes (unit_of unit) [] one (All-nil HasBytes)))
