-- A level-0 block of a global of whose head and records no kind stands.
use Rattle.std.proofs.Common.{ℕ, ◌≡◌, ◌≤◌, false, List, [], ◌++◌, length}
use Rattle.std.proofs.Common.{◌∙◌, ap, arith}
use Rattle.std.specs.Prelude.{map, not, is_none, ◌==◌, if◌then◌else◌}
use Rattle.std.specs.List.{AllByRecursion, list_any}
use Rattle.std.proofs.lemmas.Bool.{eq-eqb, ne_eqb, lt-leb, le-ltb, and_left, or_from}
use Rattle.gds_block.specs.Block.{version_of, reserved_of, level_of, used_of, tn_of}
use Rattle.gds_block.specs.Record.{records_of}
use Rattle.gds_header.specs.declared.header.Header.{Header}
use Rattle.gds_header.specs.Kinds.{through_first}
use Rattle.gds_law.specs.Kinds.{ends, head_kinds}
use Rattle.gds_law.specs.Visit.{Visit, global}
use Rattle.gds_law.specs.BlockReading.{BlockReading, reading_of, has_values}
use Rattle.gds_law.specs.Block.{head_holds, is_wrong_level, may_be_empty, kinds_of_head, kinds_from, kinds_of_block}
use Rattle.gds_law.specs.Block.{children_of}
use Rattle.integ_quick.specs.Head.{IsCleanHead}
use Rattle.integ_quick.proofs.KindLemmas.{filter-none, if_none, children_from-none}

module _ (h : Header) (v : Visit) (bytes : List ℕ) (whole : length bytes ≡ h.block_size)
    (head : IsCleanHead h v.level bytes) where
  abbrev b : BlockReading
  b = reading_of h v bytes

  within : used_of bytes ≤ h.block_size
  within = omega (arith, head.within)

  none_hold : AllByRecursion (λ k. head_holds b bytes k ≡ false) head_kinds
  none_hold = (
    or_from (not (version_of bytes == 1)) (not (reserved_of bytes == 0))
        (ap not (eq-eqb _ _ head.version)) (ap not (eq-eqb _ _ head.reserved)),
    (
      lt-leb h.tn (tn_of bytes) head.tn,
      (
        le-ltb (used_of bytes) 16 (omega (arith, head.some)),
        (
          le-ltb h.block_size (used_of bytes) within,
          (
            and_left (is_none v.level) (level_of bytes == 0) (ap is_none head.due_level),
            (
              ap (λ due. is_wrong_level due (level_of bytes)) head.due_level ∙ ap not (eq-eqb _ _ head.level),
              (
                and_left (used_of bytes == 16) (not (may_be_empty b)) (ne_eqb _ _ (λ e. omega (arith, head.some, e))),
                tt,
              ),
            ),
          ),
        ),
      ),
    ),
  )

  kinds_of_head-none : kinds_of_head b bytes ≡ []
  unfolding kinds_of_head
  kinds_of_head-none = ap (through_first ends) (filter-none (head_holds b bytes) head_kinds none_hold)

  pub kinds_of_block-none : kinds_from b bytes 16 [] (records_of bytes) ≡ [] → kinds_of_block b bytes ≡ []
  unfolding kinds_of_block
  kinds_of_block-none none =
      ap (λ ks. map (λ kind. (0, kind)) ks
      ++ (if list_any ends ks then [] else kinds_from b bytes 16 [] (records_of bytes))) kinds_of_head-none ∙ none

  pub children_of-none : (name : List ℕ) → v.role ≡ global name → children_of h v bytes ≡ []
  unfolding children_of
  children_of-none name role =
      if_none (list_any ends (kinds_of_head b bytes)) _
      (children_from-none b [] (records_of bytes) head.level
      (ap (λ r. not (has_values b r)) role ∙ ap not (eq-eqb (level_of bytes) 0 head.level)))
