-- How much room a file has.
use Rattle.std.proofs.Common.{◌≡◌, ℕ, zero, suc, ◌+◌, ◌-◌, ◌/◌, ◌%◌, ◌≤◌, ◌==◌, length, filter, inl, inr, refl}
use Rattle.std.proofs.Common.{ap, ◌∙◌, arith}
use Rattle.std.specs.List.{range_with_len}
use Rattle.std.proofs.lemmas.Bool.{cases_eq, cases_lt, eq-eqb, ne_eqb}
use Rattle.gds_bitmap.specs.Pairs.{count_below}
use Rattle.gds_header.specs.Fields.{fields_of}
use Rattle.gds_new.specs.NewDatabase.{bit_of}
use Rattle.gds_new.proofs.CountLemmas.{kept}
use Rattle.gds_shape.specs.Room.{room}
use Rattle.gds_file.specs.Room.{groups_in, new_maps, grown_free, room_of, extended}
use Rattle.gds_file.specs.RoomLaws.{RoomByHeader, ExtendedHasRoom}

-- Each group has one map.
maps_below : (n : ℕ) → count_below (λ k. k % 512 == 0) n ≡ groups_in n
maps_below zero = refl
maps_below (suc n) = elim (cases_eq (n % 512) 0) [
  | inl map ↦
      let one : bit_of (n % 512 == 0) ≡ 1 = ap bit_of (eq-eqb (n % 512) 0 map) in
      omega (arith, one, maps_below n, map)
  | inr other ↦
      let none : bit_of (n % 512 == 0) ≡ 0 = ap bit_of (ne_eqb (n % 512) 0 other) in
      omega (arith, none, maps_below n, other)
]

maps_between : (from n : ℕ) → length (filter (λ k. k % 512 == 0) (range_with_len from n)) ≡ new_maps from (from + n)
maps_between from n =
    let first : 0 + from ≡ from = omega arith in
    let last : 0 + (from + n) ≡ from + n = omega arith in
    let all = kept (λ k. k % 512 == 0) (λ k. k % 512 == 0) 0 from n
    (λ k low. let same : k ≡ 0 + k = omega arith in ap (λ (m : ℕ). m % 512 == 0) same) in
    omega (
      arith,
      all,
      ap (count_below (λ k. k % 512 == 0)) first,
      ap (count_below (λ k. k % 512 == 0)) last,
      maps_below from,
      maps_below (from + n),
    )

pub room_by_header : RoomByHeader
unfolding room
room_by_header image within =
    let h = fields_of image in
    let end : h.total + (h.limit - h.total) ≡ h.limit = omega (arith, within) in
    ap (λ maps. h.free + (h.limit - h.total) - maps)
    (maps_between h.total (h.limit - h.total) ∙ ap (new_maps h.total) end)

-- A file that grows by 64 blocks or more has 32 free ones at least.
much_free : (free old total : ℕ) → old + 64 ≤ total
    → 32 ≤ free + (total - old) - ((total + 511) / 512 - (old + 511) / 512)
much_free free old total more = omega (arith, more)

pub extended_has_room : ExtendedHasRoom
extended_has_room h limits = elim (cases_lt h.limit (h.total + h.extension)) [
  | inl over ↦
      let least : extended h ≡ h.limit = omega (arith, over) in
      let same : grown_free h (extended h) ≡ room_of h = ap (grown_free h) least in
      (λ low. omega (arith, low, same), λ low. omega (arith, low, same))
  | inr within ↦
      let least : extended h ≡ h.total + h.extension = omega (arith, within) in
      let here = much_free h.free h.total (extended h) (omega (arith, least, limits.extension_from)) in
      let there = much_free h.free h.total h.limit (omega (arith, within, limits.extension_from)) in
      (λ low. there, λ low. here)
]
