-- How bytes of numbers are taken apart again.
use Rattle.std.specs.Prelude.{ℕ, ◌-◌, ◌/◌, ◌%◌, ◌==◌, ◌&&◌, nat_lt, nat_le, Bool, List, [], ◌∷◌, length, take}
use Rattle.std.specs.Prelude.{slice_index}
use Rattle.std.specs.Prelude.{if◌then◌else◌}
use Rattle.std.specs.List.{list_all}

-- a byte of a positive number, as it stands in one of this sign, and back
abbrev pub signed_byte : Bool → ℕ → ℕ
signed_byte negative b = if negative then 0xFF - b else b

-- the two digits of a packed byte
abbrev pub pair_of : Bool → ℕ → List ℕ
pair_of negative b = (signed_byte negative b - 1) / 16 ∷ (signed_byte negative b - 1) % 16 ∷ []

-- without a 0 at the end
abbrev pub unfilled : List ℕ → List ℕ
unfilled ds = if slice_index ds (length ds - 1) == 0 then take (length ds - 1) ds else ds

-- a byte of a positive number's digits: two digits, packed
abbrev pub is_pair : ℕ → Bool
is_pair b = nat_lt 0 b && (nat_lt ((b - 1) / 16) 10 && nat_lt ((b - 1) % 16) 10)

-- 1 to 9 bytes of a number of this sign, of which the first doesn't begin with the digit 0 and the last isn't 00
abbrev pub have_ends : Bool → List ℕ → Bool
have_ends negative packed =
    nat_lt 0 (length packed) && nat_le (length packed) 9 && nat_lt 16 (signed_byte negative (slice_index packed 0))
    && nat_lt 1 (signed_byte negative (slice_index packed (length packed - 1)))

-- the bytes of the digits of a number of this sign that isn't zero
abbrev pub are_pairs : Bool → List ℕ → Bool
are_pairs negative packed =
    have_ends negative packed && list_all (λ b. is_pair (signed_byte negative b)) packed

-- the same with the first byte that the number has without its sign
abbrev pub is_nonzero : Bool → ℕ → List ℕ → Bool
is_nonzero negative first packed = (nat_lt 147 first && nat_lt first 238) && are_pairs negative packed
