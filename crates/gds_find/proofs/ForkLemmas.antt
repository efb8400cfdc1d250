-- What the entries of a block say of the items from a bound on.
use Rattle.std.proofs.Common.{◌≡◌, ℕ, zero, suc, ◌+◌, ◌<◌, ◌≤◌, List, [], ◌∷◌, ◌++◌, length}
use Rattle.std.proofs.Common.{Option, None, Some, inl, inr, refl, sym, ap, ◌∙◌, arith, append_assoc, length-append}
use Rattle.std.proofs.lemmas.List.{drop_at}
use Rattle.std.specs.Prelude.{IsSomeAnd}
use Rattle.std.specs.Int.{w32, from_le_bytes}
use Rattle.std.specs.declared.ops.Bound.{Bound}
use Rattle.std.specs.declared.ops.Bound.TheVariants.{Included, Excluded, Unbounded}
use Rattle.gds_block.specs.Block.{level_of}
use Rattle.gds_block.specs.Fields.{u32_at}
use Rattle.gds_block.specs.Item.{Item}
use Rattle.gds_pack.specs.Packable.{ArePackable}
use Rattle.gds_pack.specs.Packed.{packed_size}
use Rattle.gds_search.specs.PackedBlock.{IsPackedBlock}
use Rattle.gds_find.specs.Fork.{IsBoundKey, IsBranch, IsStart, IsStartFor, first_child, past}
use Rattle.gds_find.specs.declared.forking.Branch.{Branch}
use Rattle.gds_find.proofs.RecordLemmas.{either_at}
use Rattle.gds_find.proofs.StartLemmas.{StartsWith, behind_there, index_there, none_behind}

-- ---- the pointer of an entry

pub four_bytes : (level : ℕ) (before : List Item) (own : Item) (behind : List Item)
    → ArePackable (suc level) (before ++ own ∷ behind) → length own.rest ≡ 4
four_bytes level before own behind packable = elim (either_at (suc level) before own behind packable) [
  | inl star ↦ star.four
  | inr keyed ↦ keyed.four (omega arith)
]

-- the number at the end of bytes
u32_at-end : (front pointer : List ℕ) (n : ℕ) → length front ≡ n → u32_at (front ++ pointer) n ≡ u32_at pointer 0
unfolding u32_at
u32_at-end front pointer n is = ap (from_le_bytes w32) (drop_at front pointer n is)

pub body_long : (front body rest : List ℕ) → body ≡ front ++ rest → length rest ≡ 4 → 4 ≤ length body
body_long front body rest is four = omega (arith, ap length is, length-append front rest, four)

pub pointer_is : (front body rest : List ℕ) (start : ℕ) → body ≡ front ++ rest → length rest ≡ 4
    → start + 4 ≡ length body → u32_at body start ≡ u32_at rest 0
pointer_is front body rest start is four at =
    ap (λ xs. u32_at xs start) is
    ∙ u32_at-end front rest start (omega (arith, at, ap length is, length-append front rest, four))

-- ---- the branch of an index block

-- what is said of a block of any level above 0
abbrev SaysBranch : List ℕ → Bound (List ℕ) → ℕ → Option Branch → Type 0
SaysBranch bytes from used o =
    (level : ℕ) (es : List Item) → IsBoundKey from → IsPackedBlock bytes (suc level) es → used ≡ packed_size es
    → IsSomeAnd o (λ b. IsBranch es from b.child b.next)

pub branch_said : (bytes : List ℕ) (from : Bound (List ℕ)) (used : ℕ) (o : Option Branch)
    → SaysBranch bytes from used o → (height : ℕ) (es : List Item) → IsBoundKey from → (level_of bytes ≡ 0 → ⊥)
    → IsPackedBlock bytes height es → used ≡ packed_size es → IsSomeAnd o (λ b. IsBranch es from b.child b.next)
branch_said bytes from used o says zero es is_key index packed size = absurd (index packed.level)
branch_said bytes from used o says (suc level) es is_key index packed size = says level es is_key packed size

pub past_key : (from : Bound (List ℕ)) → IsBoundKey from → IsBoundKey (past from)
past_key (Included key) is_key = is_key
past_key (Excluded key) is_key = is_key
past_key Unbounded is_key = tt

module _ (level : ℕ) (es : List Item) (from : Bound (List ℕ)) (start : ℕ) (packable : ArePackable (suc level) es) where
  pub branch_there : IsStart es (past from) start → StartsWith es (past from) start
  branch_there is = index_there es (past from) start is packable

  module _ (before : List Item) (own : Item) (behind : List Item)
      (is : IsStartFor es (past from) start before (own ∷ behind)) (child : ℕ) (child_is : child ≡ u32_at own.rest 0)
      (end used : ℕ) (end_is : end ≡ packed_size (before ++ own ∷ [])) (used_is : used ≡ packed_size es) where
    pub branch_last : (end < used → ⊥) → IsBranch es from child None
    branch_last past_end = (
      before,
      own,
      behind,
      record {
        parts = is.parts;
        passed = is.passed;
        begins = is.begins;
        child_is = child_is;
        next_is = sym (ap first_child none);
      },
    )
      where
        none : behind ≡ []
        none = none_behind before own behind (omega (arith, past_end, end_is, used_is, ap packed_size is.parts))

    -- The entry behind.
    pub record Behind : Type 0 where
      pub entry : Item
      pub others : List Item
      pub behind_is : behind ≡ entry ∷ others
      pub parts : es ≡ (before ++ own ∷ []) ++ entry ∷ others

    pub behind_own : end < used → Behind
    behind_own low = by behind is.parts (omega (arith, low, end_is, used_is, ap packed_size is.parts)) refl
      where
        by : (xs : List Item) → es ≡ before ++ own ∷ xs
            → packed_size (before ++ own ∷ []) < packed_size (before ++ own ∷ xs) → behind ≡ xs → Behind
        by [] parts low same = absurd (behind_there before own [] low refl)
        by (e ∷ xs) parts low same = record {
          entry = e;
          others = xs;
          behind_is = same;
          parts = parts ∙ sym (append_assoc before (own ∷ []) (e ∷ xs));
        }

    pub branch_next : (b : Behind) (next : ℕ) → next ≡ u32_at b.entry.rest 0 → IsBranch es from child (Some next)
    branch_next b next next_is = (
      before,
      own,
      behind,
      record {
        parts = is.parts;
        passed = is.passed;
        begins = is.begins;
        child_is = child_is;
        next_is = ap (λ n. Some n) next_is ∙ sym (ap first_child b.behind_is);
      },
    )
