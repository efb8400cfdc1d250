-- A block with which nothing is wrong is right, with lawful entries.
use Rattle.std.proofs.Common.{◌≡◌, ℕ, zero, suc, ◌+◌, ◌<◌, ◌≤◌, ◌==◌, false, List, [], length, take}
use Rattle.std.proofs.Common.{if◌then◌else◌, Some, inl, inr, refl, sym, ap, subst, ◌∙◌, arith}
use Rattle.std.specs.Prelude.{nat_eq}
use Rattle.std.proofs.lemmas.Bool.{cond-true, eq-eqb, ne_eqb, eqb-false, cases_eq}
use Rattle.std.proofs.lemmas.List.{length-drop, length-take}
use Rattle.std.proofs.lemmas.List.Elements.{All-from_recursion}
use Rattle.gds_block.specs.Block.{level_of, used_of}
use Rattle.gds_block.specs.Item.{Item}
use Rattle.gds_block.specs.Record.{Record, records_of, bytes_left}
use Rattle.gds_block.proofs.RecordLemmas.{AreRecords-records_from}
use Rattle.gds_header.specs.declared.header.Header.{Header}
use Rattle.gds_law.specs.Visit.{Visit}
use Rattle.gds_law.specs.BlockReading.{BlockReading, reading_of}
use Rattle.gds_law.specs.Block.{kinds_of_block}
use Rattle.gds_pack.specs.Packed.{records_size, packed_size, packed_records}
use Rattle.gds_pack.specs.Packable.{ArePackable}
use Rattle.gds_pack.specs.Unpacked.{leaf_items, index_items, end_of, entries_of}
use Rattle.gds_pack.proofs.ReadLemmas.{items-packed, end_of-packed}
use Rattle.gds_tree.specs.Lawful.{IsLawfulEntry}
use Rattle.gds_tree.specs.RightBlock.{IsRightBlock}
use Rattle.gds_tree.proofs.UsedLemmas.{none_parts}
use Rattle.gds_tree.proofs.ReadLemmas.{AreEntries, leaf_read, index_read}
use Rattle.gds_tree.proofs.HeadLemmas.{used_least, used_most, head_right, empty_only}

-- Packed records that end at the used count are read as what was packed.
pub packed_found : (block : List ℕ) (es : List Item) → records_of block ≡ packed_records 16 [] es
    → used_of block ≡ packed_size es → ArePackable (level_of block) es → entries_of block ≡ Some es
unfolding entries_of
packed_found block es records used packable =
    cond-true (nat_eq (end_of 16 (records_of block)) (used_of block)) _ _
    (eq-eqb _ _ (ap (end_of 16) records ∙ end_of-packed 16 [] es ∙ sym used))
    ∙ (λ k. if level_of block == 0 then leaf_items [] (records k) else index_items [] (records k))
    ∙ items-packed (level_of block) es packable

-- the entries of a block's records, and that a block may have them
abbrev Entries : BlockReading → List Record → Type 0
Entries b rs = (es : List Item) × AreEntries b 16 [] rs es × ArePackable b.level es

-- An entry takes some bytes.
none_where_small : (previous : List ℕ) (es : List Item) → es ≡ [] → records_size previous es ≡ 0
none_where_small previous es e = ap (records_size previous) e

module _ (h : Header) (v : Visit) (block : List ℕ) (limit : h.key_max ≤ 255) (long : length block ≡ h.block_size)
    (none : kinds_of_block (reading_of h v block) block ≡ []) where
  left_size : 16 + length (bytes_left block 16) ≡ used_of block
  left_size =
      let p = none_parts (reading_of h v block) block none in
      let least = used_least h v block p.head in
      let most = used_most h v block p.head in
      omega (arith, long, length-drop 16 (take (used_of block) block), length-take (used_of block) block)

  -- An index block has some entry.
  left_some : (level_of block == 0) ≡ false → 0 < length (bytes_left block 16)
  left_some z =
      let p = none_parts (reading_of h v block) block none in
      let least = used_least h v block p.head in
      elim (cases_eq (used_of block) 16) [
        | inl e ↦ absurd (eqb-false (level_of block) 0 z (empty_only h v block p.head e).leaf)
        | inr n ↦ omega (arith, left_size, n)
      ]

  entries_by : (level : ℕ) → level_of block ≡ level → Entries (reading_of h v block) (records_of block)
  entries_by zero e =
      let p = none_parts (reading_of h v block) block none in
      let r = leaf_read (reading_of h v block) block limit e 16 [] (bytes_left block 16) (records_of block) refl
      left_size (AreRecords-records_from (level_of block) 16 (bytes_left block 16)) p.records in
      (r.0, r.1, subst (λ n. ArePackable n r.0) (sym e) r.2)
  entries_by (suc level) e =
      let p = none_parts (reading_of h v block) block none in
      let z : (level_of block == 0) ≡ false = ne_eqb (level_of block) 0 (λ k. omega (arith, e, k)) in
      let r = index_read (reading_of h v block) block limit z 16 [] (bytes_left block 16) (records_of block) refl
      left_size (left_some z) (AreRecords-records_from (level_of block) 16 (bytes_left block 16)) p.records in
      (r.0, r.1, subst (λ n. ArePackable n r.0) (sym e) r.2)

  pub right_from : (es : List Item) × IsRightBlock h v block es
  right_from =
      let p = none_parts (reading_of h v block) block none in
      let r = entries_by (level_of block) refl in
      let used : used_of block ≡ packed_size r.0 = sym r.1.size in (
        r.0,
        record {
          head = head_right h v block p.head (packed_size r.0) used;
          found = packed_found block r.0 r.1.records used r.2;
          lawful = record {
            packable = r.2;
            each = All-from_recursion (IsLawfulEntry h v (level_of block)) r.0 r.1.each;
            none = λ e. empty_only h v block p.head (omega (arith, used, none_where_small [] r.0 e));
          };
        },
      )
