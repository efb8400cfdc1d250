-- The way of a key, from a block of a tree to the child in whose bounds it lies.
use Rattle.std.proofs.Common.{◌≡◌, ℕ, suc, ◌+◌, ◌-◌, ◌<◌, ◌≤◌, ◌==◌, List, [], ◌∷◌, ◌++◌, length, find}
use Rattle.std.proofs.Common.{Option, Some, option_map, ◌⊎◌, inl, inr, refl, sym, ap, subst, ◌∙◌, arith, drop}
use Rattle.std.specs.Prelude.{All}
use Rattle.std.specs.List.{AllByRecursion}
use Rattle.std.proofs.lemmas.Bool.{cond-true, cond-false, eq-eqb, ne_eqb, cases_lt}
use Rattle.std.proofs.lemmas.List.{length-drop, length-take, nil_from_length}
use Rattle.std.proofs.lemmas.List.Elements.{recursion_from_All}
use Rattle.std.proofs.Math.Nat.{mul-le-mul_right}
use Rattle.gds_block.specs.Block.{level_of, used_of}
use Rattle.gds_block.specs.Fields.{u32_at}
use Rattle.gds_block.specs.Item.{Item}
use Rattle.gds_header.specs.Fields.{fields_of, block_of, image_length, place_of}
use Rattle.gds_law.specs.Path.{child_at}
use Rattle.gds_law.specs.Visit.{Visit}
use Rattle.gds_law.specs.Visit as law
use Rattle.gds_law.specs.BlockReading.{reading_of}
use Rattle.gds_pack.specs.Packed.{packed_size, record_size, records_size}
use Rattle.gds_pack.specs.Packable.{ArePackable}
use Rattle.gds_search.specs.Child.{IsChild, IsChildFor}
use Rattle.gds_search.specs.PackedBlock.{IsPackedBlock}
use Rattle.gds_search.specs.declared.reading.Child.{Child}
use Rattle.gds_sound.specs.Sound.{Tree, sound_tree, tree_at}
use Rattle.gds_sound.proofs.TreeLemmas.{own_level, tree_clean, tree_level}
use Rattle.gds_tree.specs.Below.{high_below, visit_below, index_children, low_behind, trees_below, HasEntries}
use Rattle.gds_tree.specs.Keeps.{IsImage}
use Rattle.gds_tree.specs.Lawful.{IsAboveLow, IsBelowHigh}
use Rattle.gds_tree.proofs.BelowLemmas.{both_parts, below_append}
use Rattle.gds_tree.proofs.BytesLemmas.{used_bytes_are}
use Rattle.gds_tree.proofs.FaultlessLemmas.{records_are}
use Rattle.gds_tree.proofs.HeadLemmas.{used_least}
use Rattle.gds_tree.proofs.ImageLemmas.{block_long, has_children}
use Rattle.gds_tree.proofs.UsedLemmas.{none_parts}
use Rattle.m_key.specs.Key.{AtMost, Below}
use Rattle.m_key.specs.KeyEnd.{IsKey}
use Rattle.gds_find.specs.Trail.{HoldsKey}
use Rattle.gds_find.specs.Turn.{LeadsDown}

-- A block with entries that is made of bytes is packed.
pub packed_at : (image : List ℕ) (v : Visit) (level : ℕ) (es : List Item) → IsImage image
    → HasEntries image v level es → All (λ b. b < 256) (block_of image v.block)
    → IsPackedBlock (block_of image v.block) level es
packed_at image v level es i has bytes =
    let long = block_long image v.block i has.there in
    let within : used_of (block_of image v.block) ≤ length (block_of image v.block) =
    omega (arith, long, has.right.head.used, has.right.head.fits) in
    record {
      is_block = record {
        head = omega (arith, long, i.limits.block_from);
        covered = omega (arith, has.right.head.used);
        within = within;
      };
      room = omega (arith, long, i.limits.block_to);
      level = has.level;
      used = has.right.head.used;
      records = used_bytes_are (block_of image v.block) es bytes within
          (records_are (fields_of image) v (block_of image v.block) es i.limits has.right) has.right.head.used;
      packable = subst (λ n. ArePackable n es) has.level has.right.lawful.packable;
    }

-- ---- a sound tree stands within its file

none_used : used_of [] ≡ 0
unfolding u32_at
none_used = refl

-- behind the last block of a file stands nothing
none_behind : (image : List ℕ) (n : ℕ) → length image ≡ image_length image → (fields_of image).total ≤ n
    → block_of image n ≡ []
none_behind image n long past =
    let rows = mul-le-mul_right (fields_of image).block_size past in
    nil_from_length (block_of image n)
    (omega (
      arith,
      long,
      rows,
      length-take (fields_of image).block_size (drop (place_of (fields_of image) n) image),
      length-drop (place_of (fields_of image) n) image,
    ))

pub tree_within : (image : List ℕ) (v : Visit) (t : Tree) → length image ≡ image_length image
    → tree_at image v ≡ Some t → v.block < (fields_of image).total
tree_within image v t long sound = elim (cases_lt v.block (fields_of image).total) [
  | inl low ↦ low
  | inr past ↦
      let block : List ℕ = block_of image v.block in
      let clean = none_parts (reading_of (fields_of image) v block) block
      (tree_clean image (level_of block) v t sound) in
      absurd (omega (
        arith,
        used_least (fields_of image) v block clean.head,
        ap used_of (none_behind image v.block long past),
        none_used,
      ))
]

-- ---- the child behind some entries

-- the child of a list of children whose record begins at an offset
abbrev child_in : List law.Child → ℕ → Option Visit
child_in children offset = option_map (λ c. c.visit) (find (λ c. c.offset == offset) children)

child_behind : (v : Visit) (level at : ℕ) (previous : List ℕ) (low : Option (List ℕ)) (before : List Item) (own : Item)
    (behind : List Item) (offset : ℕ) → offset ≡ at + records_size previous before
    → child_in (index_children v level at previous low (before ++ own ∷ behind)) offset
    ≡ Some (visit_below v level (low_behind low before) own)
child_behind v level at previous low [] own behind offset e =
    ap (option_map (λ c. c.visit)) (cond-true (at == offset) _ _ (eq-eqb at offset (omega (arith, e))))
child_behind v level at previous low (f ∷ before) own behind offset e =
    ap (option_map (λ c. c.visit)) (cond-false (at == offset) _ _ (ne_eqb at offset (λ k. omega (arith, e, k))))
    ∙ child_behind v level (at + record_size previous f) f.key (Some f.key) before own behind offset
    (omega (arith, e))

pub child_found : (image : List ℕ) (v : Visit) (level : ℕ) (before : List Item) (own : Item) (behind : List Item)
    (offset : ℕ) → IsImage image → HasEntries image v (suc level) (before ++ own ∷ behind)
    → offset ≡ packed_size before
    → child_at image v offset ≡ Some (visit_below v level (low_behind v.low before) own)
child_found image v level before own behind offset i has e =
    ap (λ cs. child_in cs offset) (has_children image v (suc level) (before ++ own ∷ behind) i has)
    ∙ child_behind v level 16 [] v.low before own behind offset e

-- ---- its bounds hold the key

low_holds : (key : List ℕ) (low : Option (List ℕ)) (before : List Item) → IsAboveLow 0 low key
    → AllByRecursion (λ e. AtMost e.key key) before → IsAboveLow 0 (low_behind low before) key
low_holds key low [] h all = h
low_holds key low (e ∷ before) h all = low_holds key (Some e.key) before all.0 all.1

high_holds : (key : List ℕ) (high : Option (List ℕ)) (own : List ℕ) → IsBelowHigh high key
    → (own ≡ []) ⊎ Below key own → IsBelowHigh (high_below high own) key
high_holds key high [] h above = h
high_holds key high (b ∷ own) h (inl none) = absurd (cc)
high_holds key high (b ∷ own) h (inr above) = above

pub holds_below : (v : Visit) (level : ℕ) (key : List ℕ) (es before : List Item) (own : Item) (behind : List Item)
    (child : Child) → HoldsKey v key → IsChildFor es key child before own behind
    → HoldsKey (visit_below v level (low_behind v.low before) own) key
holds_below v level key es before own behind child holds is = record {
  above = low_holds key v.low before holds.above (recursion_from_All (λ e. AtMost e.key key) before is.not_above);
  below = high_holds key v.high own.key holds.below is.above;
}

-- ---- the way goes on there

pub goes_on : (image : List ℕ) (v : Visit) (level : ℕ) (t : Tree) (es : List Item) (key : List ℕ) (child : Child)
    → IsImage image → HasEntries image v (suc level) es → trees_below image v level v.low es ≡ Some t → HoldsKey v key
    → IsKey key → IsChild es key child → (height : ℕ) → height ≡ suc level
    → LeadsDown image v key height child.offset child.block
goes_on image v level t es key child i has trees holds is_key (before, own, behind, is) height same =
    let w : Visit = visit_below v level (low_behind v.low before) own in
    let there = subst (HasEntries image v (suc level)) is.parts has in
    let p = both_parts (trees_below image v level v.low before)
    (trees_below image v level (low_behind v.low before) (own ∷ behind)) t
    (sym (below_append image v level v.low before (own ∷ behind))
    ∙ ap (trees_below image v level v.low) (sym is.parts) ∙ trees) in
    let q = both_parts (sound_tree image level w) (trees_below image v level (Some own.key) behind) p.second p.later in
    let lower : level ≡ height - 1 = omega (arith, same) in
    record {
      child = w;
      leads = child_found image v level before own behind child.offset i there is.offset;
      own_level = has.level ∙ sym same;
      next_level = ap suc (tree_level image level w q.first q.here) ∙ sym same;
      tree = record {
        block_is = sym is.block;
        level_is = ap (λ n. Some n) lower;
        tree = q.first;
        sound = own_level image level w q.first q.here;
        holds = holds_below v level key es before own behind child holds is;
        is_key = is_key;
      };
    }
