-- Reading a file of images on from a place, and what is blamed where that ends early.
use Rattle.std.specs.Prelude.{◌≡◌, ℕ, ◌+◌, List, [], ◌++◌, length, Option, None, Some, Result, Ok, Err}
use Rattle.std.specs.Option.{ForSome}
use Rattle.host_model.specs.Failures.{Failures, Rose}
use Rattle.host_model.specs.Files.{Contents}
use Rattle.host_model.specs.Frames.{WasRead}
use Rattle.host_model.specs.Moments.{LeavesTheSame}
use Rattle.gds_images.specs.declared.chain.Chain.{Chain}
use Rattle.gds_images.specs.declared.chain.Place.{Place}
use Rattle.gds_images.specs.declared.error.ImagesError.{ImagesError}
use Rattle.gds_images.specs.declared.error.ImagesError.TheVariants.{BadImages, Changed, Memory, ReadFault}
use Rattle.gds_images.specs.declared.fields.BadField.{BadField}
use Rattle.gds_images.specs.declared.fields.Start.{Start}
use Rattle.gds_images.specs.Chain.{and_then, bad_field, chain_behind, chain_of, first_gate, first_images}
use Rattle.gds_images.specs.Chain.{image_at, images_from}

-- What is read from a place on, where so many bytes of a group are left and the images so far are these.
abbrev pub read_on : List ℕ → ℕ → List Place → ℕ → ℕ → Result Chain ℕ
read_on file epoch images at left =
    and_then (images_from file epoch at left)
    (λ more. chain_behind (length file) file epoch (images ++ more) (at + left))

-- and what from a gate on
abbrev pub read_gate : List ℕ → ℕ → List Place → ℕ → Result Chain ℕ
read_gate file epoch images gate = chain_behind (length file) file epoch images gate

-- The beginning of the file says how its chain goes on, or which field is bad.
abbrev pub IsStart : List ℕ → ℕ → Result (Option Start) BadField → Type 0
IsStart file n (Ok None) = chain_of file n ≡ Ok (record { epoch_length = 0; images = []; next_gate = first_gate })
IsStart file n (Ok (Some start)) = chain_of file n ≡ read_on file start.epoch_length [] first_images start.size
IsStart file n (Err bad) = chain_of file n ≡ Err bad.at

-- So does a gate, whatever images stand before it. An open one says how many bytes its group has.
abbrev pub IsGate : List ℕ → ℕ → List Place → ℕ → Result (Option ℕ) BadField → Type 0
IsGate file epoch images gate (Ok None) =
    read_gate file epoch images gate ≡ Ok (record { epoch_length = epoch; images = images; next_gate = gate })
IsGate file epoch images gate (Ok (Some size)) =
    read_gate file epoch images gate ≡ read_on file epoch images (gate + 9) size
IsGate file epoch images gate (Err bad) = read_gate file epoch images gate ≡ Err bad.at

-- And an image.
abbrev pub IsImage : List ℕ → ℕ → ℕ → ℕ → Result Place BadField → Type 0
IsImage file epoch at left (Ok place) = (bad_field file epoch at left ≡ None) × (place ≡ image_at file at)
IsImage file epoch at left (Err bad) = bad_field file epoch at left ≡ Some bad.at

-- Only a failure that the host counted is blamed on it, a bad field only on bytes that have one, and a change only on
-- files that aren't told.
abbrev pub IsCause : ImagesError → Option Contents → Failures → Failures → (Contents → ℕ → Type 0) → Type 0
IsCause Memory told before now bad = Unit {0}
IsCause ReadFault told before now bad = Rose before.read now.read
IsCause (BadImages at) told before now bad = ForSome told (λ c. bad c at)
IsCause (Changed unit) told before now bad = told ≡ None

-- The host was only read, and crashes find no difference.
pub record OnlyRead {H : Type 0} (contents : H → Option Contents) (moment : H → ℕ) (counts : H → Failures)
    (left_since : H → ℕ → Contents → Type 0) (old new : H) : Type 0 where
  pub read : WasRead contents counts old new
  pub crash : LeavesTheSame moment left_since old new
