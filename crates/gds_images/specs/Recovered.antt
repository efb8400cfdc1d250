-- What an opening makes of the two files.
use Rattle.std.specs.Prelude.{ℕ, ◌==◌, List, [], ◌∷◌, length, take, Option, None, Some, Result, Ok, Err}
use Rattle.std.specs.Prelude.{if◌then◌else◌}
use Rattle.gds_header.specs.Fields.{image_length}
use Rattle.gds_header.specs.Kinds.{ending_kind}
use Rattle.gds_header.specs.declared.kind.HeaderKind.{HeaderKind}
use Rattle.host_model.specs.Disk.{written}
use Rattle.gds_images.specs.declared.chain.Chain.{Chain}
use Rattle.gds_images.specs.declared.chain.Place.{Place}
use Rattle.gds_images.specs.Chain.{bytes_of, chain_of, first_gate}

-- the database file with images laid over it, from the last to the first, so that the first of two stands
abbrev pub laid : List ℕ → List Place → List ℕ → List ℕ
laid images [] db = db
laid images (place ∷ places) db = written place.at (bytes_of images place) (laid images places db)

-- the file of the epoch: where gate 0 is open, the images are laid back and the file is cut to its length then
abbrev pub laid_back : List ℕ → Chain → List ℕ → List ℕ
laid_back images chain db =
    if chain.next_gate == first_gate then db else take chain.epoch_length (laid images chain.images db)

-- the file cut to the length that its header says, where nothing ends the reading of the header
abbrev pub trimmed_by : Option HeaderKind → List ℕ → List ℕ
trimmed_by None file = take (image_length file) file
trimmed_by (Some kind) file = file

unfoldable pub trimmed : List ℕ → List ℕ
trimmed file = trimmed_by (ending_kind file) file

-- the database that an opening makes of both files, if the chain of images has no bad field
abbrev pub recovered_by : List ℕ → List ℕ → Result Chain ℕ → Option (List ℕ)
recovered_by db images (Ok chain) = Some (trimmed (laid_back images chain db))
recovered_by db images (Err at) = None

unfoldable pub recovered : List ℕ → List ℕ → Option (List ℕ)
recovered db images = recovered_by db images (chain_of images (length db))
