-- Bytes that are put over others, one piece behind the other.
use Rattle.std.proofs.Common.{ℕ, ◌≡◌, ◌+◌, ◌-◌, ◌≤◌, List, ◌++◌, length, take, drop, refl, sym, ◌∙◌, ap, arith}
use Rattle.std.proofs.Common.{append_assoc, length-append, length-take, length-drop}
use Rattle.std.proofs.lemmas.List.{take-append-drop, take_at, drop_at, drop-drop, take-take}
use Rattle.gds_block.specs.Fields.{with_bytes}
use Rattle.gds_block.proofs.FieldLemmas.{put_behind}

module _ (old piece : List ℕ) (at : ℕ) (fits : at + length piece ≤ length old) where
  pub take-with_bytes : take (at + length piece) (with_bytes old at piece) ≡ take at old ++ piece
  take-with_bytes = put_behind old (with_bytes old at piece) (take at old) piece at _ refl refl fits refl

  pub drop-with_bytes : drop (at + length piece) (with_bytes old at piece) ≡ drop (at + length piece) old
  drop-with_bytes =
      let long : length (take at old ++ piece) ≡ at + length piece =
      omega (arith, length-append (take at old) piece, length-take at old) in
      ap (drop (at + length piece)) (sym (append_assoc (take at old) piece (drop (at + length piece) old)))
      ∙ drop_at (take at old ++ piece) (drop (at + length piece) old) (at + length piece) long

  pub drop-with_bytes_from : (n : ℕ) → at + length piece ≤ n → drop n (with_bytes old at piece) ≡ drop n old
  drop-with_bytes_from n h =
      let whole : at + length piece + (n - (at + length piece)) ≡ n = omega arith in
      ap (λ k. drop k (with_bytes old at piece)) (sym whole)
      ∙ sym (drop-drop (n - (at + length piece)) (at + length piece) (with_bytes old at piece))
      ∙ ap (drop (n - (at + length piece))) drop-with_bytes
      ∙ drop-drop (n - (at + length piece)) (at + length piece) old
      ∙ ap (λ k. drop k old) whole

  -- What stands before the piece stays.
  pub take-with_bytes_below : (n : ℕ) → n ≤ at → take n (with_bytes old at piece) ≡ take n old
  take-with_bytes_below n h =
      sym (take-take n at (with_bytes old at piece) h)
      ∙ ap (take n) (take_at (take at old) (piece ++ drop (at + length piece) old) at
      (omega (arith, length-take at old)))
      ∙ take-take n at old h

  -- One piece behind another is one piece.
  pub with_bytes-then : (more : List ℕ) (mid : ℕ) → mid ≡ at + length piece → mid + length more ≤ length old
      → with_bytes (with_bytes old at piece) mid more ≡ with_bytes old at (piece ++ more)
  with_bytes-then more mid behind room =
      let one = with_bytes old at piece in
      let sum : at + length (piece ++ more) ≡ mid + length more = omega (arith, length-append piece more) in
      let front : take mid one ≡ take at old ++ piece = ap (λ n. take n one) behind ∙ take-with_bytes in
      let back : drop (mid + length more) one ≡ drop (at + length (piece ++ more)) old =
      drop-with_bytes_from (mid + length more) (omega arith) ∙ ap (λ n. drop n old) (sym sum) in
      (λ k. front k ++ (more ++ back k))
      ∙ append_assoc (take at old) piece (more ++ drop (at + length (piece ++ more)) old)
      ∙ ap (λ xs. take at old ++ xs) (sym (append_assoc piece more (drop (at + length (piece ++ more)) old)))

  -- Bytes that stay behind a piece are as good as put there.
  pub with_bytes-kept : (n : ℕ) → at + length piece + n ≤ length old
      → with_bytes old at piece ≡ with_bytes old at (piece ++ take n (drop (at + length piece) old))
  with_bytes-kept n room =
      let mid = at + length piece in
      let kept = take n (drop mid old) in
      let long : length kept ≡ n = omega (arith, length-take n (drop mid old), length-drop mid old) in
      let sum : mid + n ≡ at + length (piece ++ kept) = omega (arith, length-append piece kept) in
      let parts : drop mid old ≡ kept ++ drop (at + length (piece ++ kept)) old =
      sym (take-append-drop n (drop mid old))
      ∙ ap (λ xs. kept ++ xs) (drop-drop n mid old ∙ ap (λ k. drop k old) sum) in
      ap (λ xs. take at old ++ (piece ++ xs)) parts
      ∙ ap (λ xs. take at old ++ xs) (sym (append_assoc piece kept (drop (at + length (piece ++ kept)) old)))
