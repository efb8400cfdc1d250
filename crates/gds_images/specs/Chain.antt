-- The file of before images, read from its front: a label, gates, and behind each open gate a group of images.
use Rattle.std.specs.Prelude.{ℕ, zero, suc, ◌+◌, ◌-◌, ◌<◌, ◌≤◌, ◌==◌, All, Bool, not, ◌||◌, nat_eq, nat_lt, nat_le}
use Rattle.std.specs.Prelude.{if◌then◌else◌}
use Rattle.std.specs.Prelude.{List, [], ◌∷◌, ◌++◌, length, take, drop, slice_index, codes, Option, None, Some}
use Rattle.std.specs.Prelude.{Result, Ok, Err}
use Rattle.std.specs.List.{starts_with}
use Rattle.gds_block.specs.Fields.{u32_at, u64_at}
use Rattle.gds_images.specs.declared.chain.Chain.{Chain}
use Rattle.gds_images.specs.declared.chain.Place.{Place}

-- the label of each file of images
abbrev pub label : List ℕ
label = codes "GDSBIMG1"

-- Gate 0 stands behind the label. Where it is open, the length of group 0 follows, then the length of the database at
-- the epoch, and then the images of the group.
abbrev pub first_gate : ℕ
first_gate = 8

abbrev pub first_images : ℕ
first_images = 25

-- The file has so many bytes from a place on.
abbrev pub is_whole : List ℕ → ℕ → ℕ → Bool
is_whole file at n = nat_le (at + n) (length file)

-- An image is its place in the database file, its length, and its bytes.
abbrev pub image_length : List ℕ → ℕ → ℕ
image_length file at = u32_at file (at + 8)

abbrev pub image_at : List ℕ → ℕ → Place
image_at file at = record { at = u64_at file at; len = image_length file at; from = at + 12 }

-- the bytes of an image
abbrev pub bytes_of : List ℕ → Place → List ℕ
bytes_of file place = take place.len (drop place.from file)

-- The first bad field of the image at a place, where so many bytes of its group are left. An image that passes the end
-- of its group is bad at its first byte.
unfoldable pub bad_field : List ℕ → ℕ → ℕ → ℕ → Option ℕ
bad_field file epoch at left =
    if not (is_whole file at 8) || nat_lt left 12 then Some at
    else (if not (is_whole file (at + 8) 4) then Some (at + 8)
    else (if nat_lt left (12 + image_length file at) then Some at
    else (if (image_length file at == 0) || nat_lt epoch (u64_at file at + image_length file at) then Some (at + 8)
    else (if not (is_whole file (at + 12) (image_length file at)) then Some (at + 12) else None))))

-- what follows, unless a field is bad
abbrev pub unless : {A : Type 0} → Option ℕ → Result A ℕ → Result A ℕ
unless None next = next
unless (Some at) next = Err at

abbrev pub and_then : {A B : Type 0} → Result A ℕ → (A → Result B ℕ) → Result B ℕ
and_then (Ok a) next = next a
and_then (Err at) next = Err at

abbrev pub with_first : Place → List Place → Result (List Place) ℕ
with_first place places = Ok (place ∷ places)

-- The images that fill so many bytes from a place on, or the place of the first bad field. There are n of them at most.
abbrev pub images_up_to : ℕ → List ℕ → ℕ → ℕ → ℕ → Result (List Place) ℕ
images_up_to zero file epoch at left = Ok []
images_up_to (suc n) file epoch at left =
    if left == 0 then Ok []
    else unless (bad_field file epoch at left) (and_then
    (images_up_to n file epoch (at + 12 + image_length file at) (left - (12 + image_length file at)))
    (with_first (image_at file at)))

-- There are no more of them than bytes.
abbrev pub images_from : List ℕ → ℕ → ℕ → ℕ → Result (List Place) ℕ
images_from file epoch at left = images_up_to (length file) file epoch at left

-- The chain that goes on with the gate at a place, where the images so far are these: it ends there where the gate is
-- closed, and else goes on behind the next group. There are n groups more at most.
abbrev pub chain_behind : ℕ → List ℕ → ℕ → List Place → ℕ → Result Chain ℕ
chain_behind zero file epoch images gate = Err gate
chain_behind (suc n) file epoch images gate =
    if not (is_whole file gate 1) then Err gate
    else (if slice_index file gate == 0 then Ok (record { epoch_length = epoch; images = images; next_gate = gate })
    else (if not (is_whole file (gate + 1) 8) then Err (gate + 1)
    else and_then (images_from file epoch (gate + 9) (u64_at file (gate + 1)))
    (λ more. chain_behind n file epoch (images ++ more) (gate + 9 + u64_at file (gate + 1)))))

-- The chain of a file of images beside a database of so many bytes, or the place of the first bad field: one that isn't
-- whole in the file or breaks its rule.
unfoldable pub chain_of : List ℕ → ℕ → Result Chain ℕ
chain_of file db_length =
    if not (starts_with nat_eq file label) then Err 0
    else (if not (is_whole file first_gate 1) then Err first_gate
    else (if slice_index file first_gate == 0 then Ok (record { epoch_length = 0; images = []; next_gate = first_gate })
    else (if not (is_whole file 9 8) then Err 9
    else (if not (is_whole file 17 8) || nat_lt db_length (u64_at file 17) then Err 17
    else and_then (images_from file (u64_at file 17) first_images (u64_at file 9))
    (λ images. chain_behind (length file) file (u64_at file 17) images (first_images + u64_at file 9))))))

-- An image that can be laid back: it has bytes, which belong within the database of the epoch and stand before a place
-- in the file of images.
pub record LiesBefore (end epoch : ℕ) (place : Place) : Type 0 where
  pub some : 0 < place.len
  pub within : place.at + place.len ≤ epoch
  pub before : place.from + place.len ≤ end

-- All images of the chain can be laid back over a database of so many bytes.
pub record CanBeLaid (n : ℕ) (chain : Chain) : Type 0 where
  pub long : chain.epoch_length ≤ n
  pub gate : first_gate ≤ chain.next_gate
  pub images : All (LiesBefore chain.next_gate chain.epoch_length) chain.images
