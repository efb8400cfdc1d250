-- What a read leaves of units, and what it gives.
use Rattle.std.proofs.Common.{◌≡◌, ◌≢◌, ℕ, ◌+◌, ◌≤◌, ◌==◌, Bool, true, false, List, [], ◌∷◌, Result, Ok, Err, length}
use Rattle.std.proofs.Common.{take, drop, Option, None, Some, sym, ap, subst, ◌∙◌, refl}
use Rattle.std.proofs.Common.{arith, Bor}
use Rattle.std.specs.Option.{ForSome, option_copied}
use Rattle.std.specs.Prelude.{All, IfSome, OnErr, option_map}
use Rattle.std.proofs.lemmas.Bool.{cond-false, cond-true, eqb-true}
use Rattle.std.proofs.lemmas.List.Elements.{All-head, All-tail}
use Rattle.host_model.specs.Failures.{Failures}
use Rattle.host_model.specs.Disk.{Stays}
use Rattle.host_model.specs.Files.{Contents}
use Rattle.host_model.specs.Units.{IsUnit, block_length, unit_bytes}
use Rattle.gds_header.specs.Fields.{fields_of, file_length_of}
use Rattle.gds_header.specs.declared.header.Header.{Header}
use Rattle.gds_images.specs.Group.{Image}
use Rattle.gds_images.specs.Outcome.{IsWhole}
use Rattle.gds_law.proofs.UnitLemmas.{block_length-is}
use Rattle.gds_epoch.specs.Epoch.{database_of}
use Rattle.gds_epoch.specs.Waiting.{IsRising, LiesWithin, WaitingUnit, patched, place_of, size_of, waiting_bytes}
use Rattle.gds_epoch.proofs.UnitLemmas.{length-patched}
use Rattle.gds_units.specs.Held.{AreInPlace, AreUnits, IsHeld}
use Rattle.gds_units.specs.State.{file_with}
use Rattle.gds_units.specs.Ending.{EndsReading}
use Rattle.gds_units.specs.declared.error.UnitError.{UnitError}
use Rattle.gds_units.specs.declared.error.UnitError.TheVariants.{Changed}
use Rattle.gds_units.proofs.HeldLemmas.{image_fields, inside_more}
use Rattle.gds_units.proofs.DurableLemmas.{image_is, some_same}
use Rattle.gds_units.proofs.UnitLemmas.{held_by, held_other, held_waiting, unit_held, unit_length_is, unit_within}

module _ {H : Type 0} {told : H → Option Contents} {moment : H → ℕ} {left_since : H → ℕ → Contents → Type 0} where
  -- A host that was only read.
  pub after_reading : (old new : H) (h : Header) (units : List WaitingUnit) (images : List Image) (epoch extent : ℕ)
      (stopped : Bool) → AreUnits told moment left_since old h units images epoch extent stopped
      → told new ≡ told old → Stays (left_since old (moment old)) (left_since new (moment new))
      → AreUnits told moment left_since new h units images epoch extent stopped
  after_reading old new h units images epoch extent stopped are same stays = record {
    places = are.places;
    held = λ c tells. are.held c (sym same ∙ tells);
    found = λ c tells d left. are.found c (sym same ∙ tells) d (stays d left);
    resting = λ going c tells.
        let resting = are.resting going c (sym same ∙ tells) in
        record { each = λ d left. resting.each d (stays d left); old = resting.old };
  }

-- what is told of the image comes from what is told
told_at : (size : ℕ) (units : List WaitingUnit) (o : Option Contents) (x : List ℕ)
    → option_map database_of (file_with size units o) ≡ Some x
    → (c : Contents) × (o ≡ Some c) × (database_of (patched size units c.db) ≡ x)
told_at size units None x is = absurd (let no : None ≡ Some x = is in cc)
told_at size units (Some c) x is = (c, refl, image_is size units (Some c) c x refl is)

none_if : (o : Option Contents) → ((c : Contents) → o ≡ Some c → ⊥) → o ≡ None
none_if None never = refl
none_if (Some c) never = absurd (never c refl)

-- a unit that waits lies where the others do, in its size
first_lies : (size n unit : ℕ) (x : WaitingUnit) (units : List WaitingUnit) (bytes : List ℕ) → LiesWithin size n x
    → waiting_bytes (x ∷ units) unit ≡ Some bytes → (t : Bool) → (x.unit == unit) ≡ t
    → (waiting_bytes units unit ≡ Some bytes → LiesWithin size n (record { unit = unit; bytes = bytes }))
    → LiesWithin size n (record { unit = unit; bytes = bytes })
first_lies size n unit x units bytes is found true same others =
    let own = some_same x.bytes bytes (sym (cond-true (x.unit == unit) _ _ same) ∙ found) in
    subst (λ number. LiesWithin size n (record { unit = number; bytes = bytes })) (eqb-true x.unit unit same)
    (subst (λ own_bytes. LiesWithin size n (record { unit = x.unit; bytes = own_bytes })) own is)
first_lies size n unit x units bytes is found false other others =
    others (sym (cond-false (x.unit == unit) _ _ other) ∙ found)

waiting_lies : (size n unit : ℕ) (units : List WaitingUnit) (bytes : List ℕ) → All (LiesWithin size n) units
    → waiting_bytes units unit ≡ Some bytes → LiesWithin size n (record { unit = unit; bytes = bytes })
waiting_lies size n unit [] bytes inside found = absurd (let no : None ≡ Some bytes = found in cc)
waiting_lies size n unit (x ∷ units) bytes inside found =
    first_lies size n unit x units bytes (All-head (LiesWithin size n) x units inside) found (x.unit == unit) refl
    (waiting_lies size n unit units bytes (All-tail (LiesWithin size n) x units inside))

-- It is a unit of the image, of so many bytes.
pub waiting_asked : (h : Header) (units : List WaitingUnit) (epoch extent : ℕ) (images : List Image)
    → AreInPlace h epoch extent images units → (told : Option Contents) → ForSome told (IsHeld h extent units)
    → (unit : ℕ) (bytes : List ℕ) → waiting_bytes units unit ≡ Some bytes
    → ForSome (option_map database_of (file_with h.block_size units told)) (λ image. IsUnit image unit (length bytes))
waiting_asked h units epoch extent images places told held unit bytes found image is =
    let at = told_at h.block_size units told image is in
    let whole = subst IsWhole at.2 (held at.0 at.1).whole in
    let fields = image_fields h units extent told held image is in
    let size : block_length image ≡ h.block_size = block_length-is image ∙ ap (λ (x : Header). x.block_size) fields in
    let lies = waiting_lies h.block_size (file_length_of h) unit units bytes places.inside found in record {
      length_is = lies.size ∙ ap (λ k. size_of k unit) (sym size);
      within = omega (arith, lies.within, ap (λ k. place_of k unit) size, whole.len, ap file_length_of fields);
    }

-- what is lent is what waits
pub lent : (P : List ℕ → Type 0) (found : Option (Bor (List ℕ))) (units : List WaitingUnit) (unit : ℕ)
    → option_copied found ≡ waiting_bytes units unit
    → ((bytes : List ℕ) → waiting_bytes units unit ≡ Some bytes → P bytes) → IfSome found (λ bytes. P bytes.now)
lent P None units unit is so = tt
lent P (Some bytes) units unit is so = so bytes.now (sym is)

-- ---- A unit of the image.

module _ (h : Header) (units : List WaitingUnit) (epoch extent : ℕ) (images : List Image)
    (places : AreInPlace h epoch extent images units) (told : Option Contents)
    (held : ForSome told (IsHeld h extent units))
    (unit n : ℕ)
    (asked : ForSome (option_map database_of (file_with h.block_size units told)) (λ image. IsUnit image unit n)) where
  fields_at : (c : Contents) → (tells : told ≡ Some c) → option_map database_of (file_with h.block_size units told)
      ≡ Some (database_of (patched h.block_size units c.db))
  fields_at c tells = ap (λ o. option_map database_of (file_with h.block_size units o)) tells

  module _ (c : Contents) (tells : told ≡ Some c) where
    abbrev pub image : List ℕ
    image = database_of (patched h.block_size units c.db)

    is_unit : IsUnit image unit n
    is_unit = asked image (fields_at c tells)

    has_fields : fields_of image ≡ h
    has_fields = image_fields h units extent told held image (fields_at c tells)

    long : length (patched h.block_size units c.db) ≡ length c.db
    long = length-patched h.block_size units c.db
        (inside_more h.block_size (file_length_of h) (length c.db) units
        (omega (arith, places.now, (held c tells).long)) places.inside)

    -- It lies within the file, and has as many bytes as are asked for.
    pub asked_within : place_of h.block_size unit + n ≤ length c.db
    asked_within =
        omega (arith, long, unit_within h (patched h.block_size units c.db) image unit n has_fields refl is_unit)

    pub asked_length : n ≡ size_of h.block_size unit
    asked_length = unit_length_is h (patched h.block_size units c.db) image unit n has_fields refl is_unit

    is_held : unit_bytes image unit ≡ held_by h.block_size unit (patched h.block_size units c.db)
    is_held = unit_held h (patched h.block_size units c.db) image unit n has_fields refl is_unit

    inside : All (LiesWithin h.block_size (length c.db)) units
    inside = inside_more h.block_size (file_length_of h) (length c.db) units
        (omega (arith, places.now, (held c tells).long)) places.inside

    pub unit_waiting : (bytes : List ℕ) → IsRising units → waiting_bytes units unit ≡ Some bytes
        → unit_bytes image unit ≡ bytes
    unit_waiting bytes rising found =
        is_held ∙ held_waiting h.block_size unit units c.db bytes rising inside found

    pub unit_in_file : waiting_bytes units unit ≡ None
        → unit_bytes image unit ≡ take n (drop (place_of h.block_size unit) c.db)
    unit_in_file none =
        is_held ∙ held_other h.block_size unit units c.db inside none
        ∙ ap (λ k. take k (drop (place_of h.block_size unit) c.db)) (sym asked_length)

  -- What was given is the image's unit, where the host tells it.
  pub given_waiting : (bytes out : List ℕ) → IsRising units → waiting_bytes units unit ≡ Some bytes → out ≡ bytes
      → ForSome (option_map database_of (file_with h.block_size units told)) (λ x. out ≡ unit_bytes x unit)
  given_waiting bytes out rising found is x tells =
      let at = told_at h.block_size units told x tells in
      is ∙ sym (unit_waiting at.0 at.1 bytes rising found) ∙ ap (λ xs. unit_bytes xs unit) at.2

  pub given_read : (out : List ℕ) → length out ≡ n → waiting_bytes units unit ≡ None
      → ForSome told (λ c. out ≡ take (length out) (drop (place_of h.block_size unit) c.db))
      → ForSome (option_map database_of (file_with h.block_size units told)) (λ x. out ≡ unit_bytes x unit)
  given_read out long none is x tells =
      let at = told_at h.block_size units told x tells in
      is at.0 at.1 ∙ ap (λ k. take k (drop (place_of h.block_size unit) at.0.db)) long
      ∙ sym (unit_in_file at.0 at.1 none) ∙ ap (λ xs. unit_bytes xs unit) at.2

  -- One that waits has as many bytes as are asked for, so a copy fails over a host that tells nothing alone.
  pub copy_ends : {T : Type 0} (before now : Failures) (bytes : List ℕ) (result : Result T UnitError)
      → waiting_bytes units unit ≡ Some bytes
      → OnErr result ((length bytes ≢ n) × (result ≡ Err (Changed unit)))
      → EndsReading told before now result
  copy_ends before now bytes (Ok value) found err = tt
  copy_ends before now bytes (Err e) found err =
      subst (EndsReading told before now) (sym err.1)
      (none_if told (λ c tells. err.0
      ((waiting_lies h.block_size (file_length_of h) unit units bytes places.inside found).size
      ∙ sym (asked_length c tells))))
