-- The kinds of a header's faults that don't end the reading, by the header, its bytes and the file's length.
use Rattle.std.specs.Prelude.{ℕ, ◌^◌, Bool, ◌||◌, not, nat_lt, ◌==◌, List, [], ◌∷◌, slice_range}
use Rattle.std.specs.List.{list_any}
use Rattle.gds_header.specs.declared.header.Header.{Header}
use Rattle.gds_header.specs.Fields.{file_length_of}
use Rattle.gds_header.specs.Kinds.{groups_past, has_free}
use Rattle.gds_law.specs.declared.kind.FaultKind.{FaultKind}
use Rattle.gds_law.specs.declared.kind.FaultKind.TheVariants.{LongFile, ReservedByte, BadTransactionNumber}
use Rattle.integ.specs.Standing.{standing}

abbrev pub any_set : List ℕ → Bool
any_set bytes = list_any (λ b. not (b == 0)) bytes

-- a byte or a bit of the master map that must be 0 isn't
abbrev pub is_marked : Header → List ℕ → Bool
is_marked h bytes =
    any_set (slice_range bytes 36 40)
    || (any_set (slice_range bytes 48 4096) ||
    (any_set (slice_range bytes 4352 8192) || list_any (has_free h) (groups_past h)))

-- the transaction number may not be this one
abbrev pub is_bad_number : ℕ → Bool
is_bad_number tn = (tn == 0) || nat_lt (2 ^ 63) tn

-- those of the kinds that stand
unfoldable pub open_kinds : Header → List ℕ → ℕ → List FaultKind
open_kinds h bytes size =
    standing ((LongFile, nat_lt (file_length_of h) size) ∷ (ReservedByte, is_marked h bytes)
    ∷ (BadTransactionNumber, is_bad_number h.tn) ∷ [])
