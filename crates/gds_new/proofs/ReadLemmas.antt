-- How a new database is read: its header, its blocks and its length, and that nothing ends the reading of its header.
use Rattle.std.proofs.Common.{◌≡◌, ℕ, ◌+◌, ◌*◌, ◌<◌, ◌≤◌, List, ◌++◌, length, length-append, take, drop, flat_map, None}
use Rattle.std.proofs.Common.{refl, sym, ap, ◌∙◌, arith, lit≤, ltb}
use Rattle.std.proofs.lemmas.Bool.{le-ltb, cond-false}
use Rattle.std.specs.List.{range_with_len}
use Rattle.std.proofs.lemmas.List.{take_at, drop_at, drop-drop}
use Rattle.gds_header.specs.declared.header.Header.{Header}
use Rattle.gds_header.specs.Fields.{header_bytes, fields_of, file_length_of, image_length, block_of, place_of}
use Rattle.gds_header.specs.Kinds.{IsWithinLimits, ending_kind, unreadable}
use Rattle.gds_header.proofs.EndingLemmas.{fields_of-front, ending_kind-readable}
use Rattle.gds_header.proofs.WritingLemmas.{readable-header_bytes}
use Rattle.gds_new.specs.NewDatabase.{new_header, new_block, new_database}
use Rattle.gds_new.proofs.PieceLemmas.{length-pieces, piece_at}
use Rattle.gds_new.proofs.HeaderLemmas.{new_limits, new_header_read, new_header_long}
use Rattle.gds_new.proofs.BlockLemmas.{length-new_block}

-- the block at a place behind a front
behind : (front rest : List ℕ) (at more size : ℕ) → length front ≡ at
    → take size (drop (at + more) (front ++ rest)) ≡ take size (drop more rest)
behind front rest at more size long =
    ap (take size) (sym (drop-drop more at (front ++ rest)) ∙ ap (drop more) (drop_at front rest at long))

module _ (h : Header) (limits : IsWithinLimits h) where
  room : 144 ≤ h.block_size
  room = omega arith

  parts : new_database h ≡ header_bytes (new_header h) ++ flat_map (new_block h) (range_with_len 0 h.total)
  unfolding new_database
  parts = refl

  pub front_read : take 8192 (new_database h) ≡ header_bytes (new_header h)
  front_read = ap (take 8192) parts ∙ take_at (header_bytes (new_header h)) _ 8192 (new_header_long h limits)

  pub fields_read : fields_of (new_database h) ≡ new_header h
  fields_read =
      sym (fields_of-front 8192 (new_database h) (lit≤ tt)) ∙ ap fields_of front_read ∙ new_header_read h limits

  pub length_read : length (new_database h) ≡ file_length_of h
  length_read =
      ap length parts
      ∙ length-append (header_bytes (new_header h)) (flat_map (new_block h) (range_with_len 0 h.total))
      ∙ omega (
        arith,
        new_header_long h limits,
        length-pieces (new_block h) h.block_size (length-new_block h room) 0 h.total,
      )

  pub block_read : (n : ℕ) → n < h.total → block_of (new_database h) n ≡ new_block h n
  unfolding new_header
  block_read n low =
      ap (λ g. take g.block_size (drop (place_of g n) (new_database h))) fields_read
      ∙ ap (λ xs. take h.block_size (drop (place_of h n) xs)) parts
      ∙ behind (header_bytes (new_header h)) (flat_map (new_block h) (range_with_len 0 h.total)) 8192
      (n * h.block_size) h.block_size (new_header_long h limits)
      ∙ piece_at (new_block h) h.block_size (length-new_block h room) 0 h.total n low
      ∙ ap (new_block h) zero_before
    where
      zero_before : 0 + n ≡ n
      zero_before = omega arith

  same_length : file_length_of (new_header h) ≡ file_length_of h
  unfolding new_header
  same_length = refl

  pub whole_read : image_length (new_database h) ≡ length (new_database h)
  whole_read = ap file_length_of fields_read ∙ same_length ∙ sym length_read

  new_readable : unreadable (header_bytes (new_header h)) ≡ None
  new_readable = readable-header_bytes (new_header h) (new_header_read h limits) (new_limits h limits)

  pub nothing_ends : ending_kind (new_database h) ≡ None
  nothing_ends =
      let long : image_length (header_bytes (new_header h)) ≤ length (new_database h) =
      omega (arith, ap file_length_of (new_header_read h limits), same_length, length_read) in
      ending_kind-readable (new_database h) (header_bytes (new_header h)) front_read (new_header_long h limits)
      new_readable
      ∙ cond-false (ltb (length (new_database h)) (image_length (header_bytes (new_header h)))) _ _
      (le-ltb (length (new_database h)) (image_length (header_bytes (new_header h))) long)
