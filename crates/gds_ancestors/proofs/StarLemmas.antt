-- The last entries of an index block go, and the last one that is left becomes the star.
use Rattle.std.proofs.Common.{◌≡◌, ℕ, suc, List, [], ◌∷◌, ◌++◌, Option, None, Some, inl, refl, sym, ap, ◌∙◌}
use Rattle.std.proofs.lemmas.List.Elements.{All-from_recursion}
use Rattle.gds_block.specs.Item.{Item}
use Rattle.gds_header.specs.declared.header.Header.{Header}
use Rattle.gds_header.specs.Fields.{fields_of}
use Rattle.gds_law.specs.Visit.{Visit}
use Rattle.gds_sound.specs.Sound.{Tree, sound_tree}
use Rattle.gds_tree.specs.Lawful.{IsBelowHigh, IsLawfulEntry, IsLawful}
use Rattle.gds_tree.specs.Below.{as_star, high_below, visit_below, low_behind, trees_below}
use Rattle.gds_tree.specs.Keeps.{IsImage, IsLowerLow, IsHigherHigh, IsWider}
use Rattle.gds_tree.proofs.BelowLemmas.{all_right, both_parts, some_both, below_append}
use Rattle.gds_tree.proofs.JoinLemmas.{index_ended}
use Rattle.gds_tree.proofs.KeepLemmas.{pointers}
use Rattle.gds_tree.proofs.LawfulLemmas.{each}
use Rattle.gds_tree.proofs.TestLemmas.{below_less, most_from}
use Rattle.gds_tree.proofs.WidenLemmas.{most_same, widened}

-- ---- the entries

pub star_lawful : (h : Header) (v : Visit) (level : ℕ) (a : List Item) (m : Item) (b : List Item)
    → IsLawful h v (suc level) (a ++ m ∷ b) → IsLawful h v (suc level) (a ++ as_star m ∷ [])
star_lawful h v level a m b l =
    let entry = (all_right (IsLawfulEntry h v (suc level)) a (m ∷ b) (each h v (suc level) (a ++ m ∷ b) l)).0 in
    index_ended h v level a m b (as_star m ∷ []) l (refl, (pointers h v v.role level m.rest entry.rest).size)
    (All-from_recursion (IsLawfulEntry h v (suc level)) (as_star m ∷ [])
    (record { key = λ some. absurd (some refl); rest = entry.rest }, tt))

-- ---- what stands below them

lower_same : (low : Option (List ℕ)) → IsLowerLow low low
lower_same None = tt
lower_same (Some low) = most_same low

-- The block's upper bound isn't below that below an entry.
higher_block : (high : Option (List ℕ)) (key : List ℕ) → ((key ≡ [] → ⊥) → IsBelowHigh high key)
    → IsHigherHigh high (high_below high key)
higher_block None key h = tt
higher_block (Some high) [] h = most_same high
higher_block (Some high) (k ∷ key) h =
    most_from (k ∷ key) high (inl (below_less (k ∷ key) high (h (λ e. cc))))

pub star_trees : (image : List ℕ) (v : Visit) (level : ℕ) (low : Option (List ℕ)) (a : List Item) (m : Item) (t : Tree)
    → IsImage image → IsLawfulEntry (fields_of image) v (suc level) m
    → trees_below image v level low (a ++ m ∷ []) ≡ Some t
    → trees_below image v level low (a ++ as_star m ∷ []) ≡ Some t
star_trees image v level low a m t i l h =
    let c : Visit = visit_below v level (low_behind low a) m in
    let d : Visit = visit_below v level (low_behind low a) (as_star m) in
    let p = both_parts (trees_below image v level low a) (trees_below image v level (low_behind low a) (m ∷ [])) t
    (sym (below_append image v level low a (m ∷ [])) ∙ h) in
    let q = both_parts (sound_tree image level c) (Some (record { blocks = []; items = [] })) p.second p.later in
    let wider : IsWider d c = record {
      block = refl;
      role = refl;
      level = refl;
      low = lower_same (low_behind low a);
      high = higher_block v.high m.key (λ some. (l.key some).below);
    } in
    let pointer = pointers (fields_of image) v v.role level m.rest l.rest in
    below_append image v level low a (as_star m ∷ [])
    ∙ some_both (trees_below image v level low a) _ p.first p.second p.here
    (some_both (sound_tree image level d) (Some (record { blocks = []; items = [] })) q.first q.second
    (widened image i level d c q.first wider pointer.leads.within q.here) q.later
    ∙ ap (λ s. Some s) (sym q.is))
    ∙ ap (λ s. Some s) (sym p.is)
