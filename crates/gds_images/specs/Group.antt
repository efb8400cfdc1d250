-- The bytes of a group of images, as they are written behind its gate.
use Rattle.std.specs.Prelude.{◌≡◌, ℕ, zero, suc, ◌+◌, ◌^◌, ◌<◌, ◌≤◌, ◌==◌, All, List, [], ◌∷◌, ◌++◌, length, take, drop}
use Rattle.std.specs.Prelude.{if◌then◌else◌}
use Rattle.std.specs.List.{flat_map}
use Rattle.gds_block.specs.Fields.{u32_at, u64_at, u32_bytes, u64_bytes}
use Rattle.gds_images.specs.declared.chain.Place.{Place}
use Rattle.gds_images.specs.Chain.{first_gate}

-- bytes of the database file as they were, and where they belong
pub record Image : Type 0 where
  pub at : ℕ
  pub bytes : List ℕ

abbrev pub image_bytes : Image → List ℕ
image_bytes image = u64_bytes image.at ++ u32_bytes (length image.bytes) ++ image.bytes

abbrev pub images_bytes : List Image → List ℕ
images_bytes images = flat_map image_bytes images

-- what stands between the gate at a place and the images: their length, and behind gate 0 that of the epoch's database
abbrev pub front_bytes : ℕ → ℕ → ℕ → List ℕ
front_bytes gate epoch n = u64_bytes n ++ (if gate == first_gate then u64_bytes epoch else [])

-- the group behind the gate at a place, with the next gate closed
unfoldable pub group_bytes : ℕ → ℕ → List Image → List ℕ
group_bytes gate epoch images =
    front_bytes gate epoch (length (images_bytes images)) ++ images_bytes images ++ 0 ∷ []

-- where its first image and its next gate stand
abbrev pub images_place : ℕ → ℕ
images_place gate = gate + 9 + (if gate == first_gate then 8 else 0)

abbrev pub gate_behind : ℕ → List Image → ℕ
gate_behind gate images = images_place gate + length (images_bytes images)

-- the places of images that stand one after another from a place on
abbrev pub places_from : ℕ → List Image → List Place
places_from from [] = []
places_from from (image ∷ images) =
    record { at = image.at; len = length image.bytes; from = from + 12 }
    ∷ places_from (from + 12 + length image.bytes) images

-- The fields of an image hold where it belongs and how long it is.
pub record HasFields (image : Image) : Type 0 where
  pub at : image.at < 2 ^ 64
  pub short : length image.bytes < 2 ^ 32

-- The first images of which the bytes stand one behind the other, so many of them.
abbrev pub images_in : ℕ → List ℕ → List Image
images_in zero bytes = []
images_in (suc n) bytes =
    let len = u32_at bytes 8 in
    record { at = u64_at bytes 0; bytes = take len (drop 12 bytes) } ∷ images_in n (drop (12 + len) bytes)

-- The bytes begin with those of these images, and more stand behind them.
pub record BeginsWith (images : List Image) (bytes : List ℕ) : Type 0 where
  pub front : take (length (images_bytes images)) bytes ≡ images_bytes images
  pub more : length (images_bytes images) < length bytes
  pub fields : All HasFields images

-- How images wait in memory: behind room for the front of their group, and with the closed gate that will stand behind
-- them.
abbrev pub front_room : ℕ
front_room = 16

pub record IsBuffer (count : ℕ) (bytes : List ℕ) : Type 0 where
  pub images : drop front_room bytes ≡ images_bytes (images_in count (drop front_room bytes)) ++ 0 ∷ []
  pub fields : All HasFields (images_in count (drop front_room bytes))
  pub short : length bytes ≤ 2 ^ 62
