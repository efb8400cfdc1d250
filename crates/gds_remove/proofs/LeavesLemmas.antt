-- Blocks of trees that are left one change after another, beside others, and where one block is freed or written.
use Rattle.std.proofs.Common.{◌≡◌, ℕ, ◌*◌, ◌/◌, ◌%◌, false, not, ◌&&◌, List, [], ◌∷◌, ◌++◌, inl, inr}
use Rattle.std.proofs.Common.{sym, ap, ◌∙◌, arith}
use Rattle.std.specs.Prelude.{IsTrue}
use Rattle.std.proofs.lemmas.Bool.{cases_Bool, cases_eq, both_ways, false≢true, or_cases, or_left, or_parts}
use Rattle.std.proofs.lemmas.Bool.{false_from_ne_true, or_right}
use Rattle.gds_base.specs.Spaces.{Recycles}
use Rattle.gds_bitmap.specs.Bitmap.{state_at}
use Rattle.gds_file.specs.FileLaws.{IsLawful}
use Rattle.gds_file.specs.FreeLaws.{IsBusy}
use Rattle.gds_file.specs.Grow.{state_of}
use Rattle.gds_file.specs.Maps.{has_block}
use Rattle.gds_file.specs.Rewrite.{AreAllBusy, AreNoMaps, Rewrites}
use Rattle.gds_file.proofs.FreeLemmas.{free_reshapes}
use Rattle.gds_file.proofs.ReshapeLemmas.{has_append, nothing_reshapes, reshapes_compose, reshapes_in_any_order}
use Rattle.gds_file.proofs.ReshapeLemmas.{reshapes_with_more}
use Rattle.gds_file.proofs.RightMapLemmas.{busy_within}
use Rattle.gds_file.proofs.RewriteLemmas.{rewrite_is_reshape, rewrite_keeps_header, rewrite_stays_lawful}
use Rattle.gds_header.specs.declared.header.Header.{Header}
use Rattle.gds_law.specs.Maps.{map_of}
use Rattle.gds_splice.proofs.CountedLemmas.{same_one}
use Rattle.gds_remove.specs.Cut.{KeepsRecycled, Leaves}

-- ---- nothing happens

pub leaves_same : (file blocks : List ℕ) → IsLawful file → AreAllBusy file blocks → Leaves file file blocks blocks
leaves_same file blocks lawful busy = record {
  reshapes = nothing_reshapes file blocks busy;
  within = λ n there. there;
  gone = λ n there out. absurd (both_ways (has_block blocks n) out there);
  recycled = λ n is. is;
  more = omega arith;
  lawful = lawful;
}

-- ---- one change after another

module _ (a b c first second third : List ℕ) (r : Leaves a b first second) (s : Leaves b c second third) where
  pub leaves_compose : Leaves a c first third
  leaves_compose = record {
    reshapes = reshapes_compose a b c first second third r.reshapes s.reshapes;
    within = λ n there. r.within n (s.within n there);
    gone = λ n there out. elim (cases_Bool (has_block second n)) [
      | inl between ↦ s.gone n between out
      | inr gone ↦ s.recycled n (r.gone n there gone)
    ];
    recycled = λ n is. s.recycled n (r.recycled n is);
    more = omega (arith, r.more, s.more);
    lawful = s.lawful;
  }

-- ---- beside other busy blocks

module _ (before after old new more : List ℕ) (r : Leaves before after old new) (busy : AreAllBusy before more)
    (apart : (n : ℕ) → IsTrue (has_block more n) → has_block old n ≡ false) where
  pub leaves_with_more : Leaves before after (old ++ more) (new ++ more)
  leaves_with_more = record {
    reshapes = reshapes_with_more before after old new more r.reshapes busy apart;
    within = λ n there. has_append old more n ∙ elim (or_cases _ _ (sym (has_append new more n) ∙ there)) [
      | inl left ↦ or_left (has_block old n) (has_block more n) (r.within n left)
      | inr other ↦ or_right (has_block old n) (has_block more n) other
    ];
    gone = λ n there out.
        let parts = or_parts (has_block new n) (has_block more n) (sym (has_append new more n) ∙ out) in
        elim (or_cases (has_block old n) (has_block more n) (sym (has_append old more n) ∙ there)) [
          | inl was ↦ r.gone n was parts.0
          | inr other ↦ absurd (both_ways (has_block more n) parts.1 other)
        ];
    recycled = r.recycled;
    more = r.more;
    lawful = r.lawful;
  }

-- ---- only which blocks there are counts

pub leaves_in_any_order : (before after old new old' new' : List ℕ) → Leaves before after old new
    → ((n : ℕ) → has_block old n ≡ has_block old' n) → ((n : ℕ) → has_block new n ≡ has_block new' n)
    → Leaves before after old' new'
leaves_in_any_order before after old new old' new' r olds news = record {
  reshapes = reshapes_in_any_order before after old new old' new' r.reshapes olds news;
  within = λ n there. sym (olds n) ∙ r.within n (news n ∙ there);
  gone = λ n there out. r.gone n (olds n ∙ there) (news n ∙ out);
  recycled = r.recycled;
  more = r.more;
  lawful = r.lawful;
}

-- ---- what is left is busy

-- those of the old blocks that are left are busy, where none is a map
pub left_are_busy : (before after old new : List ℕ) → Leaves before after old new → AreAllBusy before old
    → AreNoMaps new → AreAllBusy after new
left_are_busy before after old new r busy proper n there =
    r.reshapes.busy n
    (omega (arith, busy_within before n (busy n (r.within n there)), r.reshapes.limits.total)) (proper n there)
    ∙ or_left (has_block new n) _ there

-- other busy blocks stay busy
pub others_stay_busy : (before after old new more : List ℕ) → Leaves before after old new → AreAllBusy before more
    → AreNoMaps more → ((n : ℕ) → IsTrue (has_block more n) → has_block old n ≡ false) → AreAllBusy after more
others_stay_busy before after old new more r busy proper apart n there =
    r.reshapes.busy n (omega (arith, busy_within before n (busy n there), r.reshapes.limits.total)) (proper n there)
    ∙ or_right (has_block new n) _ (λ i. busy n there i && not (apart n there i))

-- ---- a block that is freed

module _ (before after : List ℕ) (block : ℕ) (r : Recycles before after block) where
  keeps_recycled : KeepsRecycled before after
  keeps_recycled n is = elim (cases_eq (n / 512) (block / 512)) [
    | inl mine ↦ elim (cases_eq (n % 512) (block % 512)) [
      | inl same ↦ (λ i. state_at (map_of after (mine i)) (same i)) ∙ r.pair.marked
      | inr other ↦ ap (λ g. state_at (map_of after g) (n % 512)) mine ∙ r.pair.others (n % 512) other
          ∙ ap (λ g. state_at (map_of before g) (n % 512)) (sym mine) ∙ is
    ]
    | inr other ↦
        ap (λ map. state_at map (n % 512)) (r.others (512 * (n / 512)) (λ e. other (omega (arith, e)))) ∙ is
  ]

  module _ (lawful : IsLawful before) (is : IsBusy before block) where
    pub leaves_freed : Leaves before after (block ∷ []) []
    leaves_freed =
        let frees = r.frees is.busy in record {
          reshapes = free_reshapes before after block frees;
          within = λ n there. absurd (false≢true there);
          gone = λ n there out. ap (state_of after) (same_one n block there) ∙ r.pair.marked;
          recycled = keeps_recycled;
          more = omega (arith, ap (λ (h : Header). h.free) frees.fields);
          lawful = r.lawful lawful;
        }

-- ---- blocks that are written

module _ (before after blocks all : List ℕ) (r : Rewrites before after blocks) (proper : AreNoMaps blocks)
    (among : (n : ℕ) → IsTrue (has_block blocks n) → IsTrue (has_block all n)) (busy : AreAllBusy before all)
    (lawful : IsLawful before) where
  map_stays : (group : ℕ) → map_of after group ≡ map_of before group
  map_stays group =
      r.others (512 * group)
      (false_from_ne_true (has_block blocks (512 * group)) (λ there. proper (512 * group) there (omega arith)))

  pub leaves_written : Leaves before after all all
  leaves_written = record {
    reshapes = rewrite_is_reshape before after blocks all r proper among busy;
    within = λ n there. there;
    gone = λ n there out. absurd (both_ways (has_block all n) out there);
    recycled = λ n is. ap (λ map. state_at map (n % 512)) (map_stays (n / 512)) ∙ is;
    more = omega (arith, ap (λ (h : Header). h.free) (rewrite_keeps_header before after blocks r));
    lawful = rewrite_stays_lawful before after blocks lawful r proper;
  }
