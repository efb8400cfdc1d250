-- The image as a source of units has it.
use Rattle.std.proofs.Common.{◌≡◌, ℕ, ◌<◌, ◌≤◌, ◌+◌, List, [], ◌∷◌, ◌++◌, length, take, drop}
use Rattle.std.proofs.Common.{Option, None, Some, IfSome, Result, Err}
use Rattle.std.proofs.Common.{refl, ap, subst, arith, length-take}
use Rattle.std.specs.Prelude.{All, option_map}
use Rattle.std.specs.Option.{ForSome}
use Rattle.std.proofs.lemmas.List.Elements.{All-append, All-drop, All-head, All-tail, All-take}
use Rattle.host_model.specs.Disk.{written}
use Rattle.host_model.specs.Files.{AreBytes, Contents}
use Rattle.gds_header.specs.Fields.{file_length_of, image_length}
use Rattle.gds_header.specs.declared.header.Header.{Header}
use Rattle.gds_images.specs.Group.{Image}
use Rattle.gds_epoch.specs.Epoch.{database_of}
use Rattle.gds_epoch.specs.Waiting.{HasBytes, WaitingUnit, patched, place_of}
use Rattle.gds_epoch.proofs.UnitLemmas.{length-patched}
use Rattle.gds_units.specs.Ending.{EndsReading}
use Rattle.gds_units.specs.Reading.{trouble_of}
use Rattle.gds_units.specs.declared.error.UnitError.{UnitError}
use Rattle.gds_units.specs.declared.error.UnitError.TheVariants as answer
use Rattle.host_model.specs.Failures.{Failures}
use Rattle.host_model.specs.declared.units.UnitTrouble.TheVariants as trouble
use Rattle.gds_units.specs.Held.{AreInPlace, IsHeld}
use Rattle.gds_units.specs.State.{UnitsState, file_with, image_of}
use Rattle.gds_units.proofs.HeldLemmas.{inside_more}

-- A file of bytes in which units of bytes are put is one of bytes.
patched_bytes : (size : ℕ) (units : List WaitingUnit) (file : List ℕ) → All HasBytes units → All (λ b. b < 256) file
    → All (λ b. b < 256) (patched size units file)
patched_bytes size [] file has are = are
patched_bytes size (w ∷ units) file has are =
    let at = place_of size w.unit in
    let IsByte : ℕ → Type 0 = λ b. b < 256 in
    patched_bytes size units (written at w.bytes file) (All-tail HasBytes w units has)
    (All-append IsByte (take at file ++ w.bytes) (drop (at + length w.bytes) file)
    (All-append IsByte (take at file) w.bytes (All-take IsByte at file are) (All-head HasBytes w units has))
    (All-drop IsByte (at + length w.bytes) file are))

pub image_bytes : (told : Option Contents) (size : ℕ) (units : List WaitingUnit) → IfSome told AreBytes
    → All HasBytes units → IfSome (option_map database_of (file_with size units told)) (λ file. All (λ b. b < 256) file)
image_bytes None size units are has = tt
image_bytes (Some c) size units are has =
    let file = patched size units c.db in
    All-take (λ b. b < 256) (image_length file) file (patched_bytes size units c.db has are.db)

-- The image is as long as its header says.
pub image_long : (told : Option Contents) (h : Header) (units : List WaitingUnit) (images : List Image)
    (epoch extent n : ℕ) → n ≡ file_length_of h → AreInPlace h epoch extent images units
    → ForSome told (IsHeld h extent units)
    → IfSome (option_map database_of (file_with h.block_size units told)) (λ file. n ≡ length file)
image_long None h units images epoch extent n long places held = tt
image_long (Some c) h units images epoch extent n long places held =
    let is = held c refl in
    let file = patched h.block_size units c.db in
    let within : file_length_of h ≤ length c.db = omega (arith, is.long, places.now) in
    let same : length file ≡ length c.db =
    length-patched h.block_size units c.db (inside_more h.block_size (file_length_of h) (length c.db) units within
    places.inside) in
    let whole : image_length file ≡ file_length_of h = ap file_length_of is.fields in
    omega (arith, length-take (image_length file) file, same, within, whole, long)

-- so it is said of the units' state
pub of_state : {H : Type 0} (P : List ℕ → Type 0) (a b : UnitsState H) → a ≡ b → IfSome (image_of a) P
    → IfSome (image_of b) P
of_state P a b same is = subst (λ s. IfSome (image_of s) P) same is

-- Where reading a unit ended since it has changed, the host tells nothing.
pub changed_untold : (told : Option Contents) (before now : Failures) (error : UnitError) (unit : ℕ)
    → EndsReading {T = Unit {0}} told before now (Err error) → trouble_of error ≡ trouble.Changed unit → told ≡ None
changed_untold told before now answer.Memory unit ends is = absurd (cc)
changed_untold told before now answer.ReadFault unit ends is = absurd (cc)
changed_untold told before now (answer.Changed n) unit ends is = ends
changed_untold told before now _ unit ends is = absurd ends

pub if_told : {A : Type 0} (told : Option A) (P : A → Type 0) → ForSome told P → IfSome told P
if_told None P is = tt
if_told (Some x) P is = is x refl

pub same_err : {T E : Type 0} (r : Result T E) (a b : E) → r ≡ Err a → r ≡ Err b → a ≡ b
same_err r a b first second = cc
