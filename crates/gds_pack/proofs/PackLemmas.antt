-- A block and a record that were written, from their parts.
use Rattle.std.proofs.Common.{ℕ, ◌≡◌, ◌-◌, ◌≤◌, ◌+◌, List, [], ◌++◌, length, take, drop, refl, sym, ◌∙◌, ap, arith}
use Rattle.std.proofs.Common.{append_assoc, length-append, length-take, length-drop}
use Rattle.std.specs.Prelude.{replicate}
use Rattle.std.proofs.lemmas.List.{take-append-drop, take_at, drop_at, append-nil}
use Rattle.gds_block.specs.Fields.{u16_bytes, with_bytes}
use Rattle.gds_block.specs.Block.{head_bytes}
use Rattle.gds_block.specs.Item.{Item}
use Rattle.gds_block.proofs.HeadLemmas.{length-head_bytes}
use Rattle.gds_block.proofs.FieldLemmas.{length-u16_bytes, length-with_bytes, put_behind}
use Rattle.m_key.specs.KeyEnd.{shared}
use Rattle.gds_pack.specs.Packed.{record_size, record_bytes, packed_size, records_bytes, block_bytes}
use Rattle.gds_pack.proofs.SizeLemmas.{length-records_bytes}

module _ (is : List Item) (level tn end room : ℕ) (before out written : List ℕ)
    (ends : end ≡ packed_size is) (records : take end out ≡ take 16 before ++ records_bytes [] is)
    (long : 16 ≤ length before) (headed : written ≡ head_bytes level end tn ++ drop 16 out) where
  behind_head : drop 16 out ≡ records_bytes [] is ++ drop end out
  behind_head =
      let whole : (take 16 before ++ records_bytes [] is) ++ drop end out ≡ out =
      ap (λ xs. xs ++ drop end out) (sym records) ∙ take-append-drop end out in
      let front : length (take 16 before) ≡ 16 = omega (arith, length-take 16 before) in
      ap (drop 16) (sym whole ∙ append_assoc (take 16 before) (records_bytes [] is) (drop end out))
      ∙ drop_at (take 16 before) (records_bytes [] is ++ drop end out) 16 front

  pub used_bytes : take end written ≡ head_bytes level end tn ++ records_bytes [] is
  used_bytes =
      let head = head_bytes level end tn in
      let parts : written ≡ (head ++ records_bytes [] is) ++ drop end out =
      headed ∙ ap (λ xs. head ++ xs) behind_head ∙ sym (append_assoc head (records_bytes [] is) (drop end out)) in
      let front : length (head ++ records_bytes [] is) ≡ end =
      length-append head (records_bytes [] is)
      ∙ omega (arith, length-head_bytes level end tn, length-records_bytes [] is) in
      ap (take end) parts ∙ take_at (head ++ records_bytes [] is) (drop end out) end front

  pub written_block : (zeros tail : List ℕ) → zeros ≡ replicate (room - end) 0 → tail ≡ []
      → take end written ++ (zeros ++ tail) ≡ block_bytes is level tn room
  unfolding block_bytes
  written_block zeros tail e none =
      let rest : zeros ++ tail ≡ replicate (room - end) 0 = ap (λ xs. zeros ++ xs) none ∙ append-nil zeros ∙ e in
      ap (λ xs. xs ++ (zeros ++ tail)) used_bytes
      ∙ ap (λ xs. (head_bytes level end tn ++ records_bytes [] is) ++ xs) rest
      ∙ ap (λ n. (head_bytes level n tn ++ records_bytes [] is) ++ replicate (room - n) 0) ends

-- A record that was put at a place field by field: its size, its count, the end of its key and its rest.
module _ (previous : List ℕ) (i : Item) (at count : ℕ) (body rest a b c d e : List ℕ)
    (counted : count ≡ shared previous i.key) (end_of_key : body ≡ drop count i.key)
    (same : rest ≡ i.rest) (fits : at + record_size previous i ≤ length a)
    (first : b ≡ with_bytes a at (u16_bytes (4 + length body + length rest)))
    (second : c ≡ with_bytes b (at + 2) (u16_bytes count)) (third : d ≡ with_bytes c (at + 4) body)
    (fourth : e ≡ with_bytes d (at + 4 + length body) rest) where
  put_size : 4 + length body + length rest ≡ record_size previous i
  put_size = omega (arith, counted, ap length end_of_key, ap length same, length-drop count i.key)

  pub record_put : take (at + (4 + length body + length rest)) e ≡ take at a ++ record_bytes previous i
  unfolding record_bytes
  record_put =
      let size = 4 + length body + length rest in
      let room : at + size ≤ length a = omega (arith, put_size) in
      let two = length-u16_bytes size in
      let other = length-u16_bytes count in
      let long_b : length b ≡ length a = ap length first ∙ length-with_bytes a (u16_bytes size) at (omega arith) in
      let long_c : length c ≡ length b =
      ap length second ∙ length-with_bytes b (u16_bytes count) (at + 2) (omega arith) in
      let long_d : length d ≡ length c = ap length third ∙ length-with_bytes c body (at + 4) (omega arith) in
      let one = put_behind a b (take at a) (u16_bytes size) at (at + 2) refl first (omega arith) (omega arith) in
      let two = put_behind b c _ (u16_bytes count) (at + 2) (at + 4) one second (omega arith) (omega arith) in
      let three = put_behind c d _ body (at + 4) (at + 4 + length body) two third (omega arith) (omega arith) in
      put_behind d e _ rest (at + 4 + length body) (at + size) three fourth (omega arith) (omega arith)
      ∙ simp append_assoc (rw (put_size, end_of_key, counted, same) refl)
