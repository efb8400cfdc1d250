-- Room for a draft behind the image, and what a crash leaves while it is made.
use Rattle.std.proofs.Common.{◌≡◌, ℕ, ◌-◌, ◌≤◌, List, length, replicate, Option, None, Some, refl, sym, ap}
use Rattle.std.proofs.Common.{◌∙◌, arith, length-take}
use Rattle.std.specs.Prelude.{option_map}
use Rattle.std.specs.Option.{ForSome}
use Rattle.host_model.specs.Disk.{written}
use Rattle.host_model.specs.Told.{TellsOn}
use Rattle.host_model.proofs.FrameLemmas.{TellsOn-some}
use Rattle.gds_header.specs.Fields.{fields_of, file_length_of, image_length, place_of}
use Rattle.gds_images.specs.Outcome.{IsWhole}
use Rattle.gds_epoch.specs.Epoch.{database_of}
use Rattle.gds_units.specs.State.{UnitsState, image_of}
use Rattle.gds_units.proofs.DurableLemmas.{some_same}
use Rattle.gds_base.specs.Room.{HasZeros}
use Rattle.gds_base.proofs.CommitLemmas.{zeros_written}

-- the file that an image begins
pub file_of_image : (o : Option (List ℕ)) (image : List ℕ) → option_map database_of o ≡ Some image
    → (file : List ℕ) × (o ≡ Some file) × (database_of file ≡ image)
file_of_image None image is = absurd (let no : None ≡ Some image = is in cc)
file_of_image (Some file) image is = (file, refl, some_same (database_of file) image is)

-- A file that grew has zeros behind the image.
pub zeros_grown : {H : Type 0} (old new : UnitsState H) (total : ℕ) → image_of new ≡ image_of old
    → ForSome (image_of old) IsWhole → ForSome (image_of old) (λ image. fields_of image ≡ old.header)
    → TellsOn old.file new.file (λ before now. now ≡ written (file_length_of old.header)
    (replicate (place_of old.header total - file_length_of old.header) 0) before)
    → ForSome new.file (HasZeros old.header total)
zeros_grown old new total same whole fields tells file is =
    let told : image_of old ≡ Some (database_of file) = sym same ∙ ap (option_map database_of) is in
    let at = file_of_image old.file (database_of file) told in
    let grown = TellsOn-some old.file new.file (λ before now. now ≡ written (file_length_of old.header)
    (replicate (place_of old.header total - file_length_of old.header) 0) before) at.0 at.1 tells in
    let here : grown.0 ≡ file = some_same grown.0 file (sym grown.1 ∙ is) in
    let ends : length (database_of file) ≡ file_length_of old.header =
    sym (whole (database_of file) told).len ∙ ap file_length_of (fields (database_of file) told) in
    let long : file_length_of old.header ≤ length at.0 =
    omega (arith, ends, ap length at.2, length-take (image_length at.0) at.0) in
    zeros_written old.header total at.0 file long (sym here ∙ grown.2)
