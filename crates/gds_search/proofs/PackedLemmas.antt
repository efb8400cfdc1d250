-- What is known of packed blocks.
use Rattle.std.proofs.Common.{ℕ, ◌≡◌, ◌≤◌, List, [], length, take, Some, refl, sym, ◌∙◌, ap, arith, length-drop}
use Rattle.std.specs.Prelude.{nat_eq, if◌then◌else◌}
use Rattle.std.proofs.lemmas.Bool.{eq-eqb, cond-true}
use Rattle.std.proofs.lemmas.List.{length-take-le}
use Rattle.gds_block.specs.Block.{IsBlock, level_of, used_of}
use Rattle.gds_block.specs.Record.{bytes_left, records_of, records_from}
use Rattle.gds_block.specs.Item.{Item}
use Rattle.gds_block.proofs.RecordLemmas.{records_from-unique}
use Rattle.gds_pack.specs.Packable.{ArePackable}
use Rattle.gds_pack.specs.Packed.{packed_size, packed_records, records_bytes, block_bytes}
use Rattle.gds_pack.specs.Unpacked.{entries_of, end_of, leaf_items, index_items}
use Rattle.gds_pack.proofs.SizeLemmas.{length-records_bytes}
use Rattle.gds_pack.proofs.ReadLemmas.{AreSized-packable, AreRecords-packed, end_of-packed, items-packed}
use Rattle.gds_pack.proofs.ReadLemmas.{IsBlock-block_bytes, level_of-block_bytes, used_of-block_bytes}
use Rattle.gds_pack.proofs.ReadLemmas.{bytes_left-block_bytes, length-block_bytes}
use Rattle.gds_search.specs.PackedBlock.{IsPackedBlock}

pub records_of-packed : (block : List ℕ) (height : ℕ) (es : List Item) → IsPackedBlock block height es
    → records_of block ≡ packed_records 16 [] es
records_of-packed block height es p =
    let small = p.is_block.within in
    (λ k. records_from (p.level k) 16 (p.records k))
    ∙ sym (records_from-unique height 16 _ (packed_records 16 [] es)
    (AreRecords-packed height 16 [] es (AreSized-packable height es p.packable (omega (arith, small, p.room, p.used)))))

pub entries_of-packed : (block : List ℕ) (height : ℕ) (es : List Item) → IsPackedBlock block height es
    → entries_of block ≡ Some es
unfolding entries_of
entries_of-packed block height es p =
    let recs = records_of-packed block height es p in
    cond-true (nat_eq (end_of 16 (records_of block)) (used_of block)) _ _
    (eq-eqb _ _ (ap (end_of 16) recs ∙ end_of-packed 16 [] es ∙ sym p.used))
    ∙ (λ k. if nat_eq (p.level k) 0 then leaf_items [] (recs k) else index_items [] (recs k))
    ∙ items-packed height es p.packable

pub IsPackedBlock-written : (es : List Item) (height tn room : ℕ) → packed_size es ≤ room → room ≤ 65024
    → ArePackable height es
    → IsPackedBlock (block_bytes es height tn room) height es
IsPackedBlock-written es height tn room fits small packable = record {
  is_block = IsBlock-block_bytes es height tn room fits small;
  room = omega (arith, length-block_bytes es height tn room fits small);
  level = level_of-block_bytes es height tn room fits small;
  used = used_of-block_bytes es height tn room fits small;
  records = bytes_left-block_bytes es height tn room fits small;
  packable = packable;
}

pub IsPackedBlock-used_bytes : (block : List ℕ) (es : List Item) → IsBlock block → length block ≤ 65024
    → bytes_left block 16 ≡ records_bytes [] es → ArePackable (level_of block) es
    → IsPackedBlock block (level_of block) es
IsPackedBlock-used_bytes block es is_block room records packable = record {
  is_block = is_block;
  room = room;
  level = refl;
  used =
      omega (
        arith,
        is_block.covered,
        ap length records,
        length-records_bytes [] es,
        length-drop 16 (take (used_of block) block),
        length-take-le (used_of block) block is_block.within,
      );
  records = records;
  packable = packable;
}
