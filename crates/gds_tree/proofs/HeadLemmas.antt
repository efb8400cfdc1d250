-- A right head, said by the kinds that are asked of it: one from the other.
use Rattle.std.proofs.Common.{◌≡◌, ℕ, ◌≤◌, ◌==◌, true, false, not, ◌&&◌, List, []}
use Rattle.std.proofs.Common.{filter, Option, None, Some, inl, inr, refl, sym, ap, subst, ◌∙◌, arith}
use Rattle.std.specs.Prelude.{slice_get, is_none}
use Rattle.std.proofs.lemmas.Bool.{not-false, eqb-true, eq-eqb, ne_eqb, ltb-false, le-ltb, lt-leb, leb-false, and_parts}
use Rattle.std.proofs.lemmas.Bool.{and_left, and_right, and_from, or_parts, or_from, not_from_true, eqb-false}
use Rattle.std.proofs.lemmas.Bool.{cases_Bool}
use Rattle.gds_block.specs.Block.{version_of, reserved_of, level_of, used_of, tn_of}
use Rattle.gds_header.specs.declared.header.Header.{Header}
use Rattle.gds_header.specs.Kinds.{through_first}
use Rattle.gds_law.specs.Kinds.{ends, head_kinds}
use Rattle.gds_law.specs.Visit.{TreeRole, directory, global, Visit}
use Rattle.gds_law.specs.BlockReading.{BlockReading, reading_of}
use Rattle.gds_law.specs.Record.{is_directory}
use Rattle.gds_law.specs.Block.{is_wrong_level, may_be_empty, head_holds, kinds_of_head}
use Rattle.gds_law.specs.declared.kind.FaultKind.{FaultKind}
use Rattle.gds_law.specs.declared.kind.FaultKind.TheVariants.{BadVersion, TransactionTooNew, UsedTooSmall, UsedTooLarge}
use Rattle.gds_law.specs.declared.kind.FaultKind.TheVariants.{RootAtLevelZero, WrongLevel, EmptyBlock}
use Rattle.gds_sound.proofs.BlockLemmas.{through_nil, filter_nil, nil_filter}
use Rattle.gds_tree.specs.Lawful.{MayBeEmpty}
use Rattle.gds_tree.specs.RightBlock.{IsStamped, IsDueLevel, HasRightHead}
use Rattle.gds_tree.proofs.EntryLemmas.{in_at}

-- ---- the level that is due

due_from : (due : Option ℕ) (level : ℕ) → (is_none due && (level == 0)) ≡ false → is_wrong_level due level ≡ false
    → IsDueLevel due level
due_from None level h k =
    let some = eqb-false level 0 h in
    (omega arith, ltb-false 7 level k)
due_from (Some due) level h k = eqb-true level due (not-false _ k)

due_root : (due : Option ℕ) (level : ℕ) → IsDueLevel due level → (is_none due && (level == 0)) ≡ false
due_root None level h = let low = h.0 in ne_eqb level 0 (λ e. omega arith)
due_root (Some due) level h = refl

due_right : (due : Option ℕ) (level : ℕ) → IsDueLevel due level → is_wrong_level due level ≡ false
due_right None level h = le-ltb 7 level h.1
due_right (Some due) level h = not_from_true (level == due) (eq-eqb level due h)

-- ---- where a block may be empty

is_none_from : {A : Type 0} (o : Option A) → is_none o ≡ true → o ≡ None
is_none_from None h = refl
is_none_from (Some x) h = absurd (cc)

directory_from : (role : TreeRole) → is_directory role ≡ true → role ≡ directory
directory_from directory h = refl
directory_from (global name) h = absurd (cc)

empty_from : (b : BlockReading) → may_be_empty b ≡ true → MayBeEmpty b.visit b.level
empty_from b h =
    let p = and_parts ((b.level == 0) && is_directory b.visit.role && is_none b.visit.low) (is_none b.visit.high) h in
    let q = and_parts ((b.level == 0) && is_directory b.visit.role) (is_none b.visit.low) p.0 in
    let r = and_parts (b.level == 0) (is_directory b.visit.role) q.0 in
    record {
      leaf = eqb-true b.level 0 r.0;
      role = directory_from b.visit.role r.1;
      low = is_none_from b.visit.low q.1;
      high = is_none_from b.visit.high p.1;
    }

empty_to : (b : BlockReading) → MayBeEmpty b.visit b.level → may_be_empty b ≡ true
empty_to b m =
    and_from ((b.level == 0) && is_directory b.visit.role && is_none b.visit.low) (is_none b.visit.high)
    (and_from ((b.level == 0) && is_directory b.visit.role) (is_none b.visit.low)
    (and_from (b.level == 0) (is_directory b.visit.role) (eq-eqb b.level 0 m.leaf) (ap is_directory m.role))
    (ap is_none m.low))
    (ap is_none m.high)

-- ---- from no kinds

module _ (h : Header) (v : Visit) (block : List ℕ) (none : kinds_of_head (reading_of h v block) block ≡ []) where
  none_head : (n : ℕ) (kind : FaultKind) → slice_get head_kinds n ≡ Some kind
      → head_holds (reading_of h v block) block kind ≡ false
  unfolding kinds_of_head
  none_head n kind e =
      filter_nil (head_holds (reading_of h v block) block) head_kinds
      (through_nil ends (filter (head_holds (reading_of h v block) block) head_kinds) none) kind
      (in_at head_kinds n kind e)

  pub used_least : 16 ≤ used_of block
  used_least = ltb-false (used_of block) 16 (none_head 2 UsedTooSmall refl)

  pub used_most : used_of block ≤ h.block_size
  used_most = ltb-false h.block_size (used_of block) (none_head 3 UsedTooLarge refl)

  stamped : IsStamped h block
  stamped =
      let p = or_parts (not (version_of block == 1)) (not (reserved_of block == 0)) (none_head 0 BadVersion refl) in
      record {
        version = eqb-true (version_of block) 1 (not-false _ p.0);
        reserved = eqb-true (reserved_of block) 0 (not-false _ p.1);
        tn = leb-false h.tn (tn_of block) (none_head 1 TransactionTooNew refl);
      }

  pub head_right : (size : ℕ) → used_of block ≡ size → HasRightHead h v block size
  head_right size e = record {
    stamped = stamped;
    level = due_from v.level (level_of block) (none_head 4 RootAtLevelZero refl) (none_head 5 WrongLevel refl);
    used = e;
    fits = subst (λ n. n ≤ h.block_size) e used_most;
  }

  pub empty_only : used_of block ≡ 16 → MayBeEmpty v (level_of block)
  empty_only e =
      empty_from (reading_of h v block)
      (not-false _ (ap (λ t. t && not (may_be_empty (reading_of h v block))) (sym (eq-eqb (used_of block) 16 e))
      ∙ none_head 6 EmptyBlock refl))

-- ---- and back

module _ (h : Header) (v : Visit) (block : List ℕ) (size : ℕ) (head : HasRightHead h v block size) (least : 16 ≤ size)
    (some : size ≡ 16 → MayBeEmpty v (level_of block)) where
  stamp : IsStamped h block
  stamp = head.stamped

  empty_kind : ((used_of block == 16) && not (may_be_empty (reading_of h v block))) ≡ false
  empty_kind = elim (cases_Bool (used_of block == 16)) [
    | inl e ↦
        and_right (used_of block == 16) (not (may_be_empty (reading_of h v block)))
        (not_from_true _ (empty_to (reading_of h v block) (some (sym head.used ∙ eqb-true (used_of block) 16 e))))
    | inr e ↦ and_left (used_of block == 16) _ e
  ]

  no_head_kind : (kind : FaultKind) → head_holds (reading_of h v block) block kind ≡ false
  no_head_kind BadVersion =
      or_from (not (version_of block == 1)) (not (reserved_of block == 0))
      (not_from_true (version_of block == 1) (eq-eqb (version_of block) 1 stamp.version))
      (not_from_true (reserved_of block == 0) (eq-eqb (reserved_of block) 0 stamp.reserved))
  no_head_kind TransactionTooNew = lt-leb h.tn (tn_of block) stamp.tn
  no_head_kind UsedTooSmall = le-ltb (used_of block) 16 (omega (arith, head.used, least))
  no_head_kind UsedTooLarge = le-ltb h.block_size (used_of block) (omega (arith, head.used, head.fits))
  no_head_kind RootAtLevelZero = due_root v.level (level_of block) head.level
  no_head_kind WrongLevel = due_right v.level (level_of block) head.level
  no_head_kind EmptyBlock = empty_kind
  no_head_kind kind = refl

  pub no_head_kinds : kinds_of_head (reading_of h v block) block ≡ []
  unfolding kinds_of_head
  no_head_kinds =
      ap (through_first ends) (nil_filter (head_holds (reading_of h v block) block) head_kinds
      (λ kind i. no_head_kind kind))
