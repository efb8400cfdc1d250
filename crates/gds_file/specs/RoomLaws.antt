-- The room of a file, and that an extension finds it.
use Rattle.std.specs.Prelude.{◌≡◌, ◌↔◌, ℕ, ◌≤◌, List}
use Rattle.gds_header.specs.declared.header.Header.{Header}
use Rattle.gds_header.specs.Fields.{fields_of}
use Rattle.gds_header.specs.Kinds.{IsWithinLimits}
use Rattle.gds_shape.specs.Room.{room}
use Rattle.gds_file.specs.Room.{grown_free, room_of, extended}

-- The room is how many blocks would be free if the file grew to its limit.
abbrev pub RoomByHeader : Type 0
RoomByHeader =
    (image : List ℕ) → (fields_of image).total ≤ (fields_of image).limit → room image ≡ room_of (fields_of image)

-- Where a file grows by its extension, at least 32 blocks are free exactly where there is room for 32.
abbrev pub ExtendedHasRoom : Type 0
ExtendedHasRoom = (h : Header) → IsWithinLimits h → (32 ≤ grown_free h (extended h)) ↔ (32 ≤ room_of h)
