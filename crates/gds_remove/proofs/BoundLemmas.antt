-- Bounds of visits, entries of index blocks and blocks, as they stay or go on.
use Rattle.std.proofs.Common.{◌≡◌, ◌≤◌, ℕ, suc, List, [], ◌∷◌, ◌++◌, length}
use Rattle.std.proofs.Common.{Option, None, Some, inl, sym, subst}
use Rattle.std.specs.Prelude.{IsTrue}
use Rattle.std.specs.List.{AllByRecursion}
use Rattle.std.proofs.lemmas.List.Elements.{All-from_recursion}
use Rattle.gds_block.specs.Item.{Item}
use Rattle.gds_header.specs.declared.header.Header.{Header}
use Rattle.gds_header.specs.Fields.{block_of}
use Rattle.gds_law.specs.Visit.{TreeRole, directory, global, Visit}
use Rattle.gds_pack.specs.Packable.{AreIndex}
use Rattle.gds_tree.specs.Below.{low_behind}
use Rattle.gds_tree.specs.Keeps.{IsHigherHigh, IsImage, IsLowerLow, KeepsBlocks}
use Rattle.gds_tree.specs.Lawful.{IsAboveLow, IsLawfulEntry, IsLawfulRest}
use Rattle.gds_tree.proofs.ItemLemmas.{LowBelow, next_low}
use Rattle.gds_tree.proofs.TestLemmas.{below_less, most_from, most_most}
use Rattle.gds_tree.proofs.WidenLemmas.{most_same}
use Rattle.gds_file.specs.Maps.{has_block}
use Rattle.gds_file.specs.Reshape.{KeepsLimits}
use Rattle.gds_splice.proofs.CountedLemmas.{all_has}
use Rattle.gds_splice.proofs.WritingLemmas.{number_grown}

-- ---- bounds

pub lower_same : (low : Option (List ℕ)) → IsLowerLow low low
lower_same None = tt
lower_same (Some low) = most_same low

pub high_same : (high : Option (List ℕ)) → IsHigherHigh high high
high_same None = tt
high_same (Some high) = most_same high

pub lower_lower : (a b c : Option (List ℕ)) → IsLowerLow a b → IsLowerLow b c → IsLowerLow a c
lower_lower None b c h k = tt
lower_lower (Some a) None c h k = absurd h
lower_lower (Some a) (Some b) None h k = absurd k
lower_lower (Some a) (Some b) (Some c) h k = most_most a b c h k

pub lower_above : (low : Option (List ℕ)) (key : List ℕ) → IsAboveLow 1 low key → IsLowerLow low (Some key)
lower_above None key h = tt
lower_above (Some low) key h = most_from low key (inl (below_less low key h))

pub above_first : (low : Option (List ℕ)) (key : List ℕ) → IsAboveLow 1 low key → IsAboveLow 0 low key
above_first None key h = tt
above_first (Some low) key h = most_from low key (inl (below_less low key h))

-- An entry before others of an index block has a key above the bound behind the entries before it.
pub above_behind : (image : List ℕ) (i : IsImage image) (low : Option (List ℕ)) (p : List ℕ) (a : List Item)
    (e f : Item) (b : List Item) → AreIndex p (a ++ e ∷ f ∷ b) → LowBelow low (a ++ e ∷ f ∷ b)
    → IsAboveLow 1 (low_behind low a) e.key
above_behind image i low p [] e f b index first = first
above_behind image i low p (d ∷ []) e f b index first = next_low image i d (e ∷ f ∷ b) index.2
above_behind image i low p (d ∷ g ∷ a) e f b index first =
    above_behind image i (Some d.key) d.key (g ∷ a) e f b index.2 (next_low image i d (g ∷ a ++ e ∷ f ∷ b) index.2)

-- ---- lawful entries under another header

rest_on : (h g : Header) (role : TreeRole) (level : ℕ) (rest : List ℕ) → h.total ≤ g.total
    → IsLawfulRest h role (suc level) rest → IsLawfulRest g role (suc level) rest
rest_on h g directory level rest more l =
    record { size = l.size; leads = number_grown h.total g.total _ more l.leads }
rest_on h g (global name) level rest more l =
    record { size = l.size; leads = number_grown h.total g.total _ more l.leads }

pub each_on : (h g : Header) (v : Visit) (level : ℕ) (es : List Item) → KeepsLimits h g
    → AllByRecursion (IsLawfulEntry h v (suc level)) es → AllByRecursion (IsLawfulEntry g v (suc level)) es
each_on h g v level [] limits l = tt
each_on h g v level (e ∷ es) limits l = (
  record {
    key = λ some.
        let k = l.0.key some in
        record {
          short = subst (λ n. length e.key ≤ n) (sym limits.key_max) k.short;
          right = k.right;
          role = k.role;
          above = k.above;
          below = k.below;
        };
    rest = rest_on h g v.role level e.rest limits.total l.0.rest;
  },
  each_on h g v level es limits l.1,
)

pub kept_by : (old new xs : List ℕ) → ((n : ℕ) → IsTrue (has_block xs n) → block_of new n ≡ block_of old n)
    → KeepsBlocks old new xs
kept_by old new xs same =
    All-from_recursion (λ n. block_of new n ≡ block_of old n) xs
    (all_has (λ n. block_of new n ≡ block_of old n) xs same)

pub append_none : (a b : List Item) → a ++ b ≡ [] → b ≡ []
append_none [] b is = is
append_none (x ∷ a) b is = absurd (not_none is)
  where
    not_none : x ∷ (a ++ b) ≡ [] → ⊥
    not_none is = cc
