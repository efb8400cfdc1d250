-- With a right block nothing is wrong, and its children and items are by its entries. What is packed is right.
use Rattle.std.proofs.Common.{◌≡◌, ℕ, zero, suc, ◌+◌, ◌-◌, ◌<◌, ◌≤◌, not, List, [], ◌∷◌, ◌++◌}
use Rattle.std.proofs.Common.{length, take, inl, refl, sym, ap, subst, ◌∙◌, arith}
use Rattle.std.proofs.Common.{append_assoc}
use Rattle.std.specs.Prelude.{◌^◌, replicate}
use Rattle.std.specs.List.{list_any}
use Rattle.std.proofs.lemmas.Bool.{cond-false, eq-eqb}
use Rattle.std.proofs.lemmas.List.{drop_all, length-take}
use Rattle.std.proofs.lemmas.List.Elements.{recursion_from_All}
use Rattle.gds_block.specs.Block.{level_of, used_of, head_bytes, HasHead}
use Rattle.gds_block.specs.Item.{Item}
use Rattle.gds_block.specs.Record.{records_of, bytes_left}
use Rattle.gds_block.proofs.HeadLemmas.{HasHead-front, take-head_bytes}
use Rattle.gds_header.specs.declared.header.Header.{Header}
use Rattle.gds_header.specs.Fields.{fields_of, block_of}
use Rattle.gds_header.specs.Kinds.{IsWithinLimits}
use Rattle.gds_law.specs.Kinds.{ends}
use Rattle.gds_law.specs.Visit.{TreeRole, directory, global, Visit}
use Rattle.gds_law.specs.BlockReading.{reading_of, has_values}
use Rattle.gds_law.specs.Block.{kinds_of_head, kinds_from, kinds_of_block, children_from, children_of}
use Rattle.gds_pack.specs.Packed.{records_size, records_bytes, packed_size, packed_records, block_bytes}
use Rattle.gds_pack.specs.Packable.{ArePackable}
use Rattle.gds_pack.proofs.ReadLemmas.{level_of-block_bytes, length-block_bytes, entries_of-block_bytes}
use Rattle.gds_sound.specs.Stands.{items_from, items_of}
use Rattle.gds_sound.proofs.BlockLemmas.{value_children}
use Rattle.gds_tree.specs.Lawful.{IsLawfulEntry, IsLawful}
use Rattle.gds_tree.specs.RightBlock.{IsDueLevel, IsRightBlock}
use Rattle.gds_tree.specs.Below.{leaf_children, children_by, HasEntries}
use Rattle.gds_tree.specs.Keeps.{IsImage}
use Rattle.gds_tree.proofs.UsedLemmas.{none_from}
use Rattle.gds_tree.proofs.HeadLemmas.{no_head_kinds}
use Rattle.gds_tree.proofs.FineLemmas.{Lawful, leaf_kinds, leaf_items, root_children}
use Rattle.gds_tree.proofs.IndexLemmas.{index_kinds, children_are}
use Rattle.gds_tree.proofs.PackedLemmas.{packed_from}

-- A list that needs nothing but a head is empty.
none_packed : (es : List Item) → packed_size es ≡ 16 → es ≡ []
none_packed [] e = refl
none_packed (i ∷ es) e = absurd (omega arith)

module _ (h : Header) (v : Visit) (block : List ℕ) (es : List Item) (limits : IsWithinLimits h)
    (right : IsRightBlock h v block es) where
  total : h.total ≤ 2 ^ 31
  total = let low = limits.total_to in let high = limits.limit_to in omega arith

  ended : bytes_left block (used_of block) ≡ []
  ended = drop_all (used_of block) (take (used_of block) block) (omega (arith, length-take (used_of block) block))

  pub records_are : records_of block ≡ packed_records 16 [] es
  records_are = packed_from block es right.found right.head.used

  filled : 16 + records_size [] es ≡ used_of block
  filled = sym right.head.used

  lawful : Lawful (reading_of h v block) es
  lawful = recursion_from_All (IsLawfulEntry h v (level_of block)) es right.lawful.each

  pub within_block : length block ≡ h.block_size → used_of block ≤ length block
  within_block long = let size = right.head.used in let fits = right.head.fits in omega arith

  -- ---- no kinds

  kinds_by : (level : ℕ) → level_of block ≡ level → ArePackable level es
      → kinds_from (reading_of h v block) block 16 [] (packed_records 16 [] es) ≡ []
  kinds_by zero z packable =
      leaf_kinds (reading_of h v block) block total ended z 16 [] es (inl (refl, refl)) packable lawful filled
  kinds_by (suc level) z packable =
      index_kinds (reading_of h v block) block total ended level z 16 [] es (inl (refl, refl)) packable lawful filled

  head_none : kinds_of_head (reading_of h v block) block ≡ []
  head_none =
      no_head_kinds h v block (packed_size es) right.head (omega arith) (λ e. right.lawful.none (none_packed es e))

  pub no_kinds : kinds_of_block (reading_of h v block) block ≡ []
  no_kinds = none_from (reading_of h v block) block (record {
    head = head_none;
    records = ap (kinds_from (reading_of h v block) block 16 []) records_are
        ∙ kinds_by (level_of block) refl right.lawful.packable;
  })

  -- ---- the children

  role_children : (role : TreeRole) → v.role ≡ role → level_of block ≡ 0 → ArePackable 0 es
      → children_from (reading_of h v block) [] (packed_records 16 [] es) ≡ leaf_children role es
  role_children directory e z packable =
      root_children (reading_of h v block) block total ended z
      (ap (λ role. not (has_values (reading_of h v block) role)) e) 16 [] es (inl (refl, refl)) packable lawful
  role_children (global name) e z packable =
      value_children (reading_of h v block) [] (packed_records 16 [] es) (eq-eqb (level_of block) 0 z)
      (ap (λ role. not (has_values (reading_of h v block) role)) e ∙ ap not (eq-eqb (level_of block) 0 z))

  children_at_level : (level : ℕ) → level_of block ≡ level → ArePackable level es
      → children_from (reading_of h v block) [] (packed_records 16 [] es) ≡ children_by v level es
  children_at_level zero z packable = role_children v.role refl z packable
  children_at_level (suc level) z packable =
      children_are (reading_of h v block) block total ended level z 16 [] v.low es (inl (refl, refl))
      (inl (refl, refl)) packable lawful filled

  pub children_right : children_of h v block ≡ children_by v (level_of block) es
  unfolding children_of
  children_right =
      cond-false (list_any ends (kinds_of_head (reading_of h v block) block)) [] _ (ap (list_any ends) head_none)
      ∙ ap (children_from (reading_of h v block) []) records_are
      ∙ children_at_level (level_of block) refl right.lawful.packable

  -- ---- the items

  pub items_right : level_of block ≡ 0 → items_of (reading_of h v block) block ≡ es
  items_right z =
      ap (items_from (reading_of h v block) []) records_are
      ∙ leaf_items (reading_of h v block) block total ended z 16 [] es (inl (refl, refl))
      (subst (λ n. ArePackable n es) z right.lawful.packable) lawful

-- ---- what is packed

module _ (h : Header) (v : Visit) (level tn : ℕ) (es : List Item) (limits : IsWithinLimits h)
    (lawful : IsLawful h v level es)
    (fits : packed_size es ≤ h.block_size) (due : IsDueLevel v.level level) (low : tn < h.tn)
    (small : tn < 2 ^ 64) where
  has_head : HasHead (block_bytes es level tn h.block_size) level (packed_size es) tn
  unfolding block_bytes
  has_head =
      let most = limits.block_to in
      let head : List ℕ = head_bytes level (packed_size es) tn in
      let zeros : List ℕ = replicate (h.block_size - packed_size es) 0 in
      HasHead-front (block_bytes es level tn h.block_size) level (packed_size es) tn
      (ap (take 16) (append_assoc head (records_bytes [] es) zeros)
      ∙ take-head_bytes level (packed_size es) tn (records_bytes [] es ++ zeros))
      (omega arith) small

  pub packed_right : IsRightBlock h v (block_bytes es level tn h.block_size) es
  packed_right =
      let head = has_head in
      record {
        head = record {
          stamped = record {
            version = head.version;
            reserved = head.reserved;
            tn = subst (λ n. n < h.tn) (sym head.tn) low;
          };
          level = subst (IsDueLevel v.level) (sym head.level) due;
          used = head.used;
          fits = fits;
        };
        found = entries_of-block_bytes es level tn h.block_size fits limits.block_to lawful.packable;
        lawful = subst (λ n. IsLawful h v n es) (sym head.level) lawful;
      }

pub packed_long : (h : Header) (level tn : ℕ) (es : List Item) → IsWithinLimits h → packed_size es ≤ h.block_size
    → length (block_bytes es level tn h.block_size) ≡ h.block_size
packed_long h level tn es limits fits = length-block_bytes es level tn h.block_size fits limits.block_to

-- An image in which it stands has these entries there.
pub written_entries : (image : List ℕ) (v : Visit) (level tn : ℕ) (es : List Item) → IsImage image
    → v.block < (fields_of image).total → block_of image v.block ≡ block_bytes es level tn (fields_of image).block_size
    → IsLawful (fields_of image) v level es → packed_size es ≤ (fields_of image).block_size → IsDueLevel v.level level
    → tn < (fields_of image).tn → tn < 2 ^ 64 → HasEntries image v level es
written_entries image v level tn es i there is lawful fits due low small = record {
  there = there;
  level = ap level_of is ∙ level_of-block_bytes es level tn (fields_of image).block_size fits i.limits.block_to;
  right = subst (λ b. IsRightBlock (fields_of image) v b es) (sym is)
      (packed_right (fields_of image) v level tn es i.limits lawful fits due low small);
}
