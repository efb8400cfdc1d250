-- The root of the directory is written over a block without entries, which was free.
use Rattle.std.proofs.Common.{◌≡◌, ◌≢◌, ◌<◌, ◌≤◌, ◌%◌, ◌||◌, ℕ, Bool, true, false, List, [], ◌∷◌}
use Rattle.std.proofs.Common.{refl, sym, ap, ◌∙◌, subst, arith, inl, inr}
use Rattle.std.specs.Prelude.{IsTrue, nat_eq}
use Rattle.std.proofs.lemmas.Bool.{both_ways, eqb-true, ne_eqb, or_cases, or_left}
use Rattle.std.proofs.lemmas.List.Elements.{All-from_recursion}
use Rattle.gds_base.specs.Spaces.{TakesLeast}
use Rattle.gds_block.specs.Item.{Item}
use Rattle.gds_block.proofs.FieldLemmas.{length-u32_bytes}
use Rattle.gds_header.specs.Fields.{block_of, fields_of}
use Rattle.gds_header.specs.declared.header.Header.{Header}
use Rattle.gds_law.specs.Visit.{Visit, directory_root}
use Rattle.gds_pack.specs.Packable.{ArePackable}
use Rattle.gds_pack.specs.Packed.{block_bytes}
use Rattle.gds_split.specs.Pieces.{entry_to}
use Rattle.gds_split.proofs.AboveLemmas.{leads, pointer_to}
use Rattle.gds_tree.specs.Below.{HasEntries, visit_below}
use Rattle.gds_tree.specs.Keeps.{IsImage}
use Rattle.gds_tree.specs.Lawful.{IsLawfulEntry, IsTreeNumber}
use Rattle.gds_tree.specs.Lawful as entries
use Rattle.gds_tree.proofs.FaultlessLemmas.{written_entries}
use Rattle.gds_file.specs.FileLaws.{IsLawful}
use Rattle.gds_file.specs.FreeLaws.{IsBusy}
use Rattle.gds_file.specs.Maps.{has_block, is_busy}
use Rattle.gds_file.specs.Reshape.{Reshapes}
use Rattle.gds_file.specs.Rewrite.{AreAllBusy, AreNoMaps, Rewrites}
use Rattle.gds_file.proofs.ReshapeLemmas.{reshapes_compose, reshapes_in_any_order, reshapes_with_more}
use Rattle.gds_file.proofs.RightMapLemmas.{busy_within}
use Rattle.gds_file.proofs.RewriteLemmas.{rewrite_is_reshape, rewrite_keeps_header, rewrite_stays_lawful}
use Rattle.gds_file.proofs.RewriteLemmas.{rewrites_compose}
use Rattle.gds_file.proofs.TakeLemmas.{take_reshapes}
use Rattle.gds_splice.specs.Divided.{MayPut}
use Rattle.gds_splice.specs.Writing.{PutsEntries}
use Rattle.gds_splice.proofs.CountedLemmas.{same_one}
use Rattle.gds_splice.proofs.ImageLemmas.{image_of}
use Rattle.gds_remove.specs.Emptied.{HasEmptyDirectory}

-- ---- the entries may be put

abbrev star : ℕ → List Item
star leaf = entry_to leaf [] ∷ []

star_packable : (leaf : ℕ) → ArePackable 1 (star leaf)
star_packable leaf = (refl, length-u32_bytes leaf)

pub may_put_none : (h : Header) → 512 ≤ h.block_size → MayPut h 0 []
may_put_none h long = record { packable = tt; fits = omega (arith, long) }

pub may_put_star : (h : Header) (leaf : ℕ) → 512 ≤ h.block_size → MayPut h 1 (star leaf)
may_put_star h leaf long =
    record { packable = star_packable leaf; fits = omega (arith, long, length-u32_bytes leaf) }

-- a lawful file has blocks of such a size, and transaction numbers from 1 on
pub sized : (file : List ℕ) → IsLawful file → 512 ≤ (fields_of file).block_size
sized file l = let i = image_of file l in i.limits.block_from

started : (file : List ℕ) → IsLawful file → 0 < (fields_of file).tn
started file l =
    let i = image_of file l in
    let map = l.maps.maps 0 (omega (arith, i.limits.total_from)) in
    omega (arith, map.tn)

turned : (a b : Bool) → (a || (b || false)) ≡ (b || (a || false))
turned true true = refl
turned true false = refl
turned false true = refl
turned false false = refl

-- ---- a free block is taken and written, and the root

module _ (before m1 m2 after : List ℕ) (leaf : ℕ) (l : IsLawful before) (is : IsBusy before directory_root.block)
    (taken : TakesLeast before m1 leaf) (put : PutsEntries m1 m2 leaf 0 [])
    (top : PutsEntries m2 after directory_root.block 1 (star leaf)) where
  abbrev root : ℕ
  root = directory_root.block

  abbrev two : List ℕ
  two = leaf ∷ root ∷ []

  other : leaf ≢ root
  other same = both_ways (is_busy before leaf) taken.free.free (ap (is_busy before) same ∙ is.busy)

  own_busy : AreAllBusy before (root ∷ [])
  own_busy n there = ap (is_busy before) (same_one n root there) ∙ is.busy

  took : Reshapes before m1 (root ∷ []) two
  took =
      reshapes_with_more before m1 [] (leaf ∷ []) (root ∷ []) (take_reshapes before m1 leaf taken.free taken.takes)
      own_busy (λ n there. refl)

  proper : AreNoMaps two
  proper n there = elim (or_cases (nat_eq n leaf) (has_block (root ∷ []) n) there) [
    | inl e ↦ subst (λ k. k % 512 ≢ 0) (sym (eqb-true n leaf e)) taken.free.no_map
    | inr e ↦ subst (λ k. k % 512 ≢ 0) (sym (same_one n root e)) is.no_map
  ]

  within : (n : ℕ) → IsTrue (has_block two n) → n < (fields_of before).total
  within n there = elim (or_cases (nat_eq n leaf) (has_block (root ∷ []) n) there) [
    | inl e ↦ subst (λ k. k < (fields_of before).total) (sym (eqb-true n leaf e)) taken.free.within
    | inr e ↦ busy_within before n (own_busy n e)
  ]

  both_busy : AreAllBusy m1 two
  both_busy n there =
      took.busy n (omega (arith, within n there, took.limits.total)) (proper n there)
      ∙ or_left (has_block two n) _ there

  written : Rewrites m1 after two
  written = rewrites_compose m1 m2 after (leaf ∷ []) (root ∷ []) put.rewrites top.rewrites

  lawful : IsLawful after
  lawful = rewrite_stays_lawful m1 after two taken.lawful written proper

  j : IsImage after
  j = image_of after lawful

  reshapes : Reshapes before after (root ∷ []) (root ∷ leaf ∷ [])
  reshapes =
      reshapes_in_any_order before after (root ∷ []) two (root ∷ []) (root ∷ leaf ∷ [])
      (reshapes_compose before m1 after (root ∷ []) two two took
      (rewrite_is_reshape m1 after two two written proper (λ n there. there) both_busy))
      (λ n. refl) (λ n. turned (nat_eq n leaf) (nat_eq n root))

  number : IsTreeNumber (fields_of after).total leaf
  number = record {
    positive = omega (arith, taken.free.no_map);
    within = omega (arith, taken.free.within, reshapes.limits.total);
    no_map = taken.free.no_map;
  }

  root_lawful : entries.IsLawful (fields_of after) directory_root 1 (star leaf)
  root_lawful = record {
    packable = star_packable leaf;
    each = All-from_recursion (IsLawfulEntry (fields_of after) directory_root 1) (star leaf)
        (record { key = λ some. absurd (some refl); rest = pointer_to (fields_of after) leaf j.limits number }, tt);
    none = λ none. absurd (cc);
  }

  root_has : HasEntries after directory_root 1 (star leaf)
  root_has =
      written_entries after directory_root 1 0 (star leaf) j (omega (arith, j.limits.total_from)) top.bytes root_lawful
      top.fits (omega arith, omega arith) (started after lawful) (omega arith)

  abbrev below : Visit
  below = visit_below directory_root 0 directory_root.low (entry_to leaf [])

  below_is : below.block ≡ leaf
  below_is = leads (fields_of after) leaf j.limits number

  leaf_lawful : entries.IsLawful (fields_of after) below 0 []
  leaf_lawful = record {
    packable = tt;
    each = All-from_recursion (IsLawfulEntry (fields_of after) below 0) [] tt;
    none = λ none. record { leaf = refl; role = refl; low = refl; high = refl };
  }

  fields_last : fields_of after ≡ fields_of m2
  fields_last = rewrite_keeps_header m2 after (root ∷ []) top.rewrites

  leaf_bytes : block_of after below.block ≡ block_bytes [] 0 0 (fields_of after).block_size
  leaf_bytes =
      ap (block_of after) below_is ∙ top.rewrites.others leaf (ap (λ t. t || false) (ne_eqb leaf root other))
      ∙ put.bytes ∙ ap (λ (h : Header). block_bytes [] 0 0 h.block_size) (sym fields_last)

  leaf_has : HasEntries after below 0 []
  leaf_has =
      written_entries after below 0 0 [] j (subst (λ n. n < (fields_of after).total) (sym below_is) number.within)
      leaf_bytes leaf_lawful (omega (arith, j.limits.block_from)) refl (started after lawful) (omega arith)

  pub emptied : HasEmptyDirectory before after
  emptied = record {
    leaf = leaf;
    number = number;
    other = other;
    root_has = root_has;
    leaf_has = leaf_has;
    reshapes = reshapes;
    lawful = lawful;
  }
