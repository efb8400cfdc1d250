-- The key and the rest of a record, from how many bytes of its body belong to the key.
use Rattle.std.proofs.Common.{◌≡◌, ℕ, ◌+◌, ◌++◌, length, take, drop, Some, ap, ◌∙◌}
use Rattle.std.specs.Prelude.{unwrap_or}
use Rattle.std.proofs.Math.Seq.{take-append-add, drop-append-add}
use Rattle.gds_law.specs.BlockReading.{BlockReading, PlacedRecord, full_of, key_end, key_of, rest_of}

module _ (b : BlockReading) (s : PlacedRecord) (n : ℕ)
    (found : key_end b s ≡ Some (length (take s.record_.count s.previous) + n)) where
  pub key_of-found : key_of b s ≡ take s.record_.count s.previous ++ take n s.record_.body
  key_of-found =
      ap (λ o. take (unwrap_or o 0) (full_of s)) found
      ∙ take-append-add (take s.record_.count s.previous) s.record_.body n

  pub rest_of-found : rest_of b s ≡ drop n s.record_.body
  rest_of-found =
      ap (λ o. drop (unwrap_or o 0) (full_of s)) found
      ∙ drop-append-add (take s.record_.count s.previous) s.record_.body n
