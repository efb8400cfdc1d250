-- Entries in the place of neighbouring children of an index block.
use Rattle.std.proofs.Common.{◌≡◌, ℕ, suc, List, [], ◌∷◌, ◌++◌, Some, sym, ap, subst, ◌∙◌, append_assoc}
use Rattle.std.specs.List.{AllByRecursion}
use Rattle.std.proofs.lemmas.List.Elements.{recursion_from_All}
use Rattle.gds_block.specs.Item.{Item}
use Rattle.gds_header.specs.Fields.{fields_of}
use Rattle.gds_law.specs.Visit.{Visit}
use Rattle.gds_pack.specs.Packable.{AreIndex}
use Rattle.gds_sound.specs.Sound.{Tree}
use Rattle.gds_tree.specs.Around.{around}
use Rattle.gds_tree.specs.Below.{low_behind, trees_below}
use Rattle.gds_tree.specs.Keeps.{IsImage}
use Rattle.gds_tree.specs.Lawful.{IsLawfulEntry}
use Rattle.gds_tree.specs.Lawful as entries
use Rattle.gds_tree.specs.RightBlock.{IsDueLevel}
use Rattle.gds_tree.proofs.BelowLemmas.{all_both, all_left, all_right}
use Rattle.gds_tree.proofs.LawfulLemmas.{each}
use Rattle.gds_tree.proofs.PartLemmas.{lawful_at}
use Rattle.gds_tree.proofs.ReplaceLemmas.{NoHigher}
use Rattle.gds_ancestors.proofs.SpliceLemmas.{spliced, three_parts}
use Rattle.gds_ancestors.proofs.StarLemmas.{star_trees}
use Rattle.gds_split.specs.Pieces.{starred}
use Rattle.gds_split.proofs.CutLemmas.{last_of, starred_last}
use Rattle.gds_splice.specs.Splicing.{SplicedMayPart}
use Rattle.gds_splice.proofs.ImageLemmas.{image_of}

-- ---- the star

-- Where the last has the star's key, nothing changes.
pub had_star : (previous : List ℕ) (a : List Item) (e : Item) (b : List Item) → AreIndex previous (a ++ e ∷ b)
    → (c : List Item) → starred (c ++ e ∷ b) ≡ c ++ e ∷ b
had_star previous [] e [] index [] = ap (λ key. record { key = key; rest = e.rest } ∷ []) (sym index.0)
had_star previous [] e (f ∷ b) index [] = ap (λ es. e ∷ es) (had_star e.key [] f b index.2 [])
had_star previous (x ∷ []) e b index [] = had_star x.key [] e b index.2 []
had_star previous (x ∷ y ∷ a) e b index [] = had_star x.key (y ∷ a) e b index.2 []
had_star previous a e b index (z ∷ []) = ap (λ es. z ∷ es) (had_star previous a e b index [])
had_star previous a e b index (z ∷ w ∷ c) = ap (λ es. z ∷ es) (had_star previous a e b index (w ∷ c))

-- The same trees stand below them.
star_below : (file : List ℕ) (v : Visit) (level : ℕ) (es : List Item) (t : Tree) → IsImage file
    → AllByRecursion (IsLawfulEntry (fields_of file) v (suc level)) es → trees_below file v level v.low es ≡ Some t
    → trees_below file v level v.low (starred es) ≡ Some t
star_below file v level [] t i l below = below
star_below file v level (e ∷ es) t i l below =
    let h = last_of (e ∷ es) (λ none. absurd (let no : e ∷ es ≡ [] = none in cc)) in
    let entry = (all_right (IsLawfulEntry (fields_of file) v (suc level)) h.front (h.last ∷ [])
    (subst (AllByRecursion (IsLawfulEntry (fields_of file) v (suc level))) (sym h.whole) l)).0 in
    ap (λ xs. trees_below file v level v.low xs) (ap starred (sym h.whole) ∙ starred_last h.front h.last)
    ∙ star_trees file v level v.low h.front h.last t i entry
    (ap (λ xs. trees_below file v level v.low xs) h.whole ∙ below)

-- ---- what stands below

module _ (file : List ℕ) (v : Visit) (level : ℕ) (front gone put : List Item) (left middle right : Tree)
    (i : IsImage file) (first : trees_below file v level v.low front ≡ Some left)
    (second : trees_below file v level (low_behind v.low front) put ≡ Some middle)
    (lawful_put : AllByRecursion (IsLawfulEntry (fields_of file) v (suc level)) put) where
  below_spliced : (back : List Item) → entries.IsLawful (fields_of file) v (suc level) (front ++ gone ++ back)
      → entries.IsLawful (fields_of file) v (suc level) (starred (front ++ put ++ back))
      → ((back ≡ [] → ⊥) → NoHigher put gone)
      → trees_below file v level (low_behind v.low (front ++ gone)) back ≡ Some right
      → trees_below file v level v.low (starred (front ++ put ++ back)) ≡ Some (around left middle right)
  below_spliced [] was now higher third =
      star_below file v level (front ++ put ++ []) (around left middle right) i
      (all_both (IsLawfulEntry (fields_of file) v (suc level)) (front ++ put) []
      (all_both (IsLawfulEntry (fields_of file) v (suc level)) front put
      (all_left (IsLawfulEntry (fields_of file) v (suc level)) front (gone ++ [])
      (subst (AllByRecursion (IsLawfulEntry (fields_of file) v (suc level))) (append_assoc front gone [])
      (each (fields_of file) v (suc level) (front ++ gone ++ []) was))) lawful_put) tt)
      (three_parts file v level v.low front put [] left middle right first second third)
  below_spliced (e ∷ back) was now higher third =
      let same = had_star [] (front ++ gone) e back was.packable (front ++ put) in
      ap (λ xs. trees_below file v level v.low xs) same
      ∙ spliced file v level front gone put (e ∷ back) left middle right i was
      (subst (entries.IsLawful (fields_of file) v (suc level)) same now)
      (higher (λ none. absurd (let no : e ∷ back ≡ [] = none in cc))) first second third

-- ---- the block with them

pub spliced_may_part : SplicedMayPart
spliced_may_part file root above v level p put middle m =
    let i = image_of file m.maps in record {
      is_root = m.is_root;
      lead = m.lead;
      due = subst (IsDueLevel v.level) m.has.level m.has.right.head.level;
      lawful = m.lawful;
      has_below = below_spliced file v level p.front p.gone put p.left middle p.right i m.left m.middle_is
          (recursion_from_All (IsLawfulEntry (fields_of file) v (suc level)) put m.each) p.back
          (lawful_at file v (suc level) (p.front ++ p.gone ++ p.back) m.has) m.lawful m.no_higher m.right;
      distinct = m.distinct;
      busy = m.busy;
      maps = m.maps;
    }
