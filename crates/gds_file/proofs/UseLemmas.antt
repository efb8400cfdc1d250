-- The blocks of a sound file's trees: the file has them, they are no maps, and the maps call them busy.
use Rattle.std.proofs.Common.{◌≡◌, ◌≢◌, ℕ, ◌+◌, ◌*◌, ◌/◌, ◌<◌, ◌==◌, ◌%◌, Bool, true, false, not, ◌&&◌}
use Rattle.std.proofs.Common.{if◌then◌else◌, List, [], ◌∷◌, ◌++◌, Option, None, Some, inl, inr, refl, sym, ap, subst}
use Rattle.std.proofs.Common.{◌∙◌, arith}
use Rattle.std.specs.Prelude.{nat_eq, nat_lt}
use Rattle.std.specs.List.{list_any}
use Rattle.std.proofs.lemmas.Bool.{and_parts, not-true, eqb-true, eqb-false, eq-eqb, ltb-true, lt-ltb, or_right}
use Rattle.std.proofs.lemmas.Bool.{cond_both}
use Rattle.gds_block.specs.Record.{Record, records_of}
use Rattle.gds_bitmap.specs.Bitmap.{pair_of}
use Rattle.gds_header.specs.Fields.{fields_of, block_of}
use Rattle.gds_law.specs.Kinds.{ends}
use Rattle.gds_law.specs.Visit.{Visit, Child, directory_root}
use Rattle.gds_law.specs.BlockReading.{BlockReading, PlacedRecord, pointer_of, key_of}
use Rattle.gds_law.specs.Record.{target_of, is_ended, child_to, children_of_record, is_sound}
use Rattle.gds_law.specs.Block.{children_from, children_of, kinds_of_head}
use Rattle.gds_law.specs.Path.{Steps, children_at, visit_from}
use Rattle.gds_law.specs.Maps.{map_of}
use Rattle.gds_law.proofs.MembershipLemmas.{IsIn, in_either}
use Rattle.gds_sound.specs.Sound.{Tree, IsSound, is_in_use}
use Rattle.gds_sound.proofs.BlockLemmas.{seen, reading_at}
use Rattle.gds_sound.proofs.TreeLemmas.{leads_through}
use Rattle.gds_sound.proofs.PathLemmas.{any_counted, counted_ends}
use Rattle.gds_sound.proofs.KeptLemmas.{any_in, in_any}
use Rattle.gds_sound.proofs.SoundLemmas.{blocks_of, all_counted}
use Rattle.gds_sound.proofs.HeaderLemmas.{limits_of}
use Rattle.gds_file.specs.Maps.{has_block}

-- ---- a block among others

pub has_in : (blocks : List ℕ) (n : ℕ) → has_block blocks n ≡ true → IsIn blocks n
has_in blocks n h =
    let found = any_in (nat_eq n) blocks h in
    subst (IsIn blocks) (sym (eqb-true n found.0 found.2)) found.1

pub in_has : (blocks : List ℕ) (n : ℕ) → IsIn blocks n → has_block blocks n ≡ true
in_has blocks n i = in_any (nat_eq n) blocks n i (eq-eqb n n refl)

-- ---- children have sound pointers

target_block : (b : BlockReading) (s : PlacedRecord) (p : ℕ) → (target_of b s p).block ≡ p
unfolding target_of
target_block b s p = cond_both (b.level == 0) _ _ (λ (v : Visit). v.block ≡ p) (λ _. refl) (λ _. refl)

child_sound : (b : BlockReading) (s : PlacedRecord) (c : Child) → IsIn (children_of_record b s) c
    → is_sound b c.visit.block ≡ true
child_sound b s c i = by (pointer_of b s) i
  where
    under : (p : ℕ) (t : Bool) → is_sound b p ≡ t
        → IsIn (if t then record { offset = s.record_.offset; visit = target_of b s p } ∷ [] else []) c
        → is_sound b c.visit.block ≡ true
    under p true e (inl same) =
        ap (is_sound b) (sym (ap (λ (d : Child). d.visit.block) same) ∙ target_block b s p) ∙ e
    under p true e (inr j) = absurd j
    under p false e j = absurd j

    by : (o : Option ℕ) → IsIn (child_to b s o) c → is_sound b c.visit.block ≡ true
    by None j = absurd j
    by (Some p) j = under p (is_sound b p) refl j

children_sound : (b : BlockReading) (previous : List ℕ) (rs : List Record) (c : Child)
    → IsIn (children_from b previous rs) c → is_sound b c.visit.block ≡ true
children_sound b previous [] c i = absurd i
children_sound b previous (r ∷ rs) c i =
    by (is_ended b (seen previous r)) i (children_sound b (key_of b (seen previous r)) rs c)
  where
    by : (t : Bool)
        → IsIn (if t then [] else children_of_record b (seen previous r)
        ++ children_from b (key_of b (seen previous r)) rs) c
        → (IsIn (children_from b (key_of b (seen previous r)) rs) c → is_sound b c.visit.block ≡ true)
        → is_sound b c.visit.block ≡ true
    by true j next = absurd j
    by false j next =
        let rest : List Child = children_from b (key_of b (seen previous r)) rs in
        elim (in_either (children_of_record b (seen previous r)) rest c j) [
          | inl k ↦ child_sound b (seen previous r) c k
          | inr k ↦ next k
        ]

-- A file has the block, and it is no map.
pub record IsProper (image : List ℕ) (n : ℕ) : Type 0 where
  pub some : 0 < n
  pub within : n < (fields_of image).total
  pub no_map : n % 512 ≢ 0

proper_child : (image : List ℕ) (v : Visit) (c : Child) → IsIn (children_at image v) c → IsProper image c.visit.block
unfolding children_at children_of
proper_child image v c i =
    let b : BlockReading = reading_at image v in
    let bytes : List ℕ = block_of image v.block in
    let p : ℕ = c.visit.block in
    let sound : is_sound b p ≡ true =
    by (list_any ends (kinds_of_head b bytes)) i in
    let parts = and_parts (nat_lt 0 p && nat_lt p (fields_of image).total) (not (p % 512 == 0)) sound in
    let both = and_parts (nat_lt 0 p) (nat_lt p (fields_of image).total) parts.0 in
    record {
      some = ltb-true 0 p both.0;
      within = ltb-true p (fields_of image).total both.1;
      no_map = eqb-false (p % 512) 0 (not-true (p % 512 == 0) parts.1);
    }
  where
    by : (t : Bool)
        → IsIn (if t then [] else children_from (reading_at image v) [] (records_of (block_of image v.block))) c
        → is_sound (reading_at image v) c.visit.block ≡ true
    by true j = absurd j
    by false j = children_sound (reading_at image v) [] (records_of (block_of image v.block)) c j

proper_path : (image : List ℕ) (path : Steps) (v w : Visit) → IsProper image v.block
    → visit_from image v path ≡ Some w → IsProper image w.block
proper_path image [] v w p h = let same : v ≡ w = cc in subst (λ (u : Visit). IsProper image u.block) same p
proper_path image ((block, offset) ∷ steps) v w p h =
    let l = leads_through image v block offset steps w h in
    proper_path image steps l.child.visit w (proper_child image v l.child l.there) l.rest

module _ (image : List ℕ) (directory : Tree) (globals : List Tree) (s : IsSound image directory globals) where
  proper_root : IsProper image 1
  proper_root =
      let limits = limits_of image s.header in
      record { some = omega arith; within = omega (arith, limits.total_from); no_map = λ e. omega (arith, e) }

  pub proper_block : (n : ℕ) → has_block (blocks_of directory globals) n ≡ true → IsProper image n
  proper_block n h =
      let some = any_counted n (blocks_of directory globals) h in
      let all = all_counted image directory globals s.directory_tree s.global_trees n in
      let ends_in = counted_ends image 16 directory_root n (omega (arith, some, all)) in
      subst (IsProper image) ends_in.same
      (proper_path image ends_in.path directory_root ends_in.visit proper_root ends_in.leads)

  pub busy_block : (n : ℕ) → has_block (blocks_of directory globals) n ≡ true
      → pair_of (map_of image (n / 512)) (n % 512) ≡ 0
  busy_block n h =
      let proper = proper_block n h in
      let number : 512 * (n / 512) + n % 512 ≡ n = omega arith in
      let right = (s.maps (n / 512) (omega (arith, proper.within))).pairs (n % 512) (omega arith) in
      right.busy (lt-ltb _ (fields_of image).total (omega (arith, number, proper.within)))
      (ap (is_in_use (blocks_of directory globals)) number
      ∙ or_right (n % 512 == 0) (has_block (blocks_of directory globals) n) h)
