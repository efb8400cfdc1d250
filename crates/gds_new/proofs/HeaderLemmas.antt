-- The header of a new database: its fields are read again, and its length is that of a header.
use Rattle.std.proofs.Common.{◌≡◌, ℕ, ◌+◌, ◌*◌, length, length-append, arith}
use Rattle.std.proofs.lemmas.List.{length-replicate}
use Rattle.std.proofs.lemmas.List.FromFn.{length-map-range_with_len}
use Rattle.gds_block.proofs.FieldLemmas.{length-u32_bytes, length-u64_bytes}
use Rattle.gds_header.specs.declared.header.Header.{Header}
use Rattle.gds_header.specs.Fields.{zeros, header_bytes, fields_of}
use Rattle.gds_header.specs.Kinds.{IsWithinLimits}
use Rattle.gds_header.proofs.WritingLemmas.{Fit, fields_of-header_bytes}
use Rattle.gds_new.specs.NewDatabase.{byte_of_bits, group_starts_free, first_master, new_header}

pub length-zeros : (n : ℕ) → length (zeros n) ≡ n
unfolding zeros
length-zeros n = length-replicate n 0

pub length-header_bytes : (h : Header) → length h.master ≡ 256 → length (header_bytes h) ≡ 8192
unfolding header_bytes
length-header_bytes h master =
    simp (length-append, length-u32_bytes, length-u64_bytes, length-zeros, master)

pub length-first_master : (h : Header) → length (first_master h) ≡ 256
unfolding first_master
length-first_master h = length-map-range_with_len (λ i. byte_of_bits (λ j. group_starts_free h (8 * i + j))) 0 256

module _ (h : Header) (limits : IsWithinLimits h) where
  pub new_limits : IsWithinLimits (new_header h)
  unfolding new_header
  new_limits = record {
    block_multiple = limits.block_multiple;
    block_from = limits.block_from;
    block_to = limits.block_to;
    limit_from = limits.limit_from;
    limit_to = limits.limit_to;
    total_from = limits.total_from;
    total_to = limits.total_to;
    extension_from = limits.extension_from;
    extension_to = limits.extension_to;
    key_from = limits.key_from;
    key_to = limits.key_to;
    keys_fit = limits.keys_fit;
    value_fits = limits.value_fits;
  }

  new_fits : Fit (new_header h)
  unfolding new_header
  new_fits = record {
    block_size = omega arith;
    total = omega arith;
    free = omega arith;
    extension = omega arith;
    limit = omega arith;
    key_max = omega arith;
    value_max = omega arith;
    tn = omega arith;
    master = length-first_master h;
  }

  pub new_header_read : fields_of (header_bytes (new_header h)) ≡ new_header h
  new_header_read = fields_of-header_bytes (new_header h) new_fits

  pub new_header_long : length (header_bytes (new_header h)) ≡ 8192
  unfolding new_header
  new_header_long = length-header_bytes (new_header h) (length-first_master h)
