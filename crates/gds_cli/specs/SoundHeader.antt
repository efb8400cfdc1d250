-- The header of a file that has no fault, and the test for it.
use Rattle.std.specs.Prelude.{ℕ, ◌≡◌, ◌^◌, Bool, not, ◌&&◌, ◌==◌, nat_le, List, [], length, slice_range}
use Rattle.std.specs.List.{list_all, list_any}
use Rattle.gds_header.specs.declared.header.Header.{Header}
use Rattle.gds_header.specs.Fields.{fields_of, file_length_of}
use Rattle.gds_header.specs.Kinds.{IsWithinLimits, header_faults, has_free, groups_past}

-- the header of a file, which has no fault
pub record IsHeaderOf (h : Header) (d : List ℕ) : Type 0 where
  pub fields : fields_of d ≡ h
  pub limits : IsWithinLimits h
  pub whole : length d ≡ file_length_of h
  pub sound : header_faults d ≡ []

abbrev pub are_zeros : List ℕ → Bool
are_zeros bytes = list_all (λ b. b == 0) bytes

-- what must be 0 is, in the bytes of a header
abbrev pub is_clear : Header → List ℕ → Bool
is_clear h front =
    are_zeros (slice_range front 36 40)
    &&
    (are_zeros (slice_range front 48 4096) &&
    (are_zeros (slice_range front 4352 8192) && not (list_any (has_free h) (groups_past h))))

-- the header has none of the faults that could be read past, in a file of this length
abbrev pub is_faultless : Header → List ℕ → ℕ → Bool
is_faultless h front size = (file_length_of h == size) && (is_clear h front && (nat_le 1 h.tn && nat_le h.tn (2 ^ 63)))
