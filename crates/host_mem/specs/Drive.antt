-- One file on a disk: what a read gives, and what a crash may leave of it.
use Rattle.std.specs.Prelude.{◌≡◌, ℕ, ◌+◌, ◌<◌, ◌≤◌, ◌%◌, ◌==◌, min, max, Bool, false, ◌&&◌, ◌||◌, if◌then◌else◌}
use Rattle.std.specs.Prelude.{List, [], ◌∷◌, ◌++◌, length, take, map, slice_index}
use Rattle.std.specs.List.{list_any, range_with_len}
use Rattle.std.specs.Bool.{nat_le, nat_lt}
use Rattle.host_model.specs.Disk.{written}
use Rattle.host_mem.specs.declared.step.Range.{Range}

-- what a read gives, what the last sync that succeeded left, the least length since, and the ranges written since
pub record Drive : Type 0 where
  pub now : List ℕ
  pub stable : List ℕ
  pub least : ℕ
  pub ranges : List Range

-- a file of which a crash leaves what a read gives
abbrev pub settled : List ℕ → Drive
settled file = record { now = file; stable = file; least = length file; ranges = [] }

abbrev pub is_within : ℕ → Range → Bool
is_within i range = nat_le range.at i && nat_lt i (range.at + range.len)

-- whether a range covers the byte
abbrev pub is_covered : ℕ → List Range → Bool
is_covered i ranges = list_any (is_within i) ranges

-- the farthest end of the ranges, at least n
abbrev pub farthest : ℕ → List Range → ℕ
farthest n [] = n
farthest n (range ∷ ranges) = max (range.at + range.len) (farthest n ranges)

-- the greatest length since the last sync that succeeded
abbrev pub most : Drive → ℕ
most drive = farthest (length drive.stable) drive.ranges

-- What a crash may leave: the length is any between the least and the greatest since the last sync that succeeded,
-- each byte below the least that no range covers is the stable one, and all others are any.
pub record Leaves (drive : Drive) (bytes : List ℕ) : Type 0 where
  pub no_shorter : drive.least ≤ length bytes
  pub no_longer : length bytes ≤ most drive
  pub stays : (i : ℕ) → i < drive.least → is_covered i drive.ranges ≡ false
      → slice_index bytes i ≡ slice_index drive.stable i

-- A write. One that failed left what a read gives as it was; its range counts all the same.
abbrev pub wrote : ℕ → List ℕ → Bool → Drive → Drive
wrote at bytes done drive = record drive {
  now = (if done then written at bytes drive.now else drive.now);
  ranges = drive.ranges ++ record { at = at; len = length bytes } ∷ [];
}

-- A cut to n bytes. One that failed left what a read gives as it was; the length counts all the same.
abbrev pub shortened : ℕ → Bool → Drive → Drive
shortened n done drive = record drive {
  now = (if done then take n drive.now else drive.now);
  least = min drive.least n;
}

-- a sync that succeeded
abbrev pub synced : Drive → Drive
synced drive = settled drive.now

-- a byte of which a crash may leave anything
abbrev pub is_loose : Drive → ℕ → Bool
is_loose drive i = nat_le drive.least i || is_covered i drive.ranges

-- so many bytes: the stable ones, and FF hex for each that a crash may change
abbrev pub scribbled : Drive → ℕ → List ℕ
scribbled drive n = map (λ i. if is_loose drive i then 255 else slice_index drive.stable i) (range_with_len 0 n)

-- what the crash of this choice leaves
abbrev pub crashed : ℕ → Drive → List ℕ
crashed choice drive = (if choice % 4 == 0 then drive.stable else
    if choice % 4 == 1 then drive.now else
    if choice % 4 == 2 then scribbled drive (length drive.stable) else scribbled drive (length drive.now))
