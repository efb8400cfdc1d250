-- The trees below entries, in parts.
use Rattle.std.proofs.Common.{◌≡◌, ℕ, zero, suc, List, [], ◌∷◌, ◌++◌, Option, None, Some, option_map, refl, sym}
use Rattle.std.proofs.Common.{ap, ◌∙◌, append_assoc, append-nil}
use Rattle.std.specs.List.{AllByRecursion}
use Rattle.gds_block.specs.Item.{Item}
use Rattle.gds_law.specs.Visit.{Visit}
use Rattle.gds_law.proofs.PathLemmas.{some_then}
use Rattle.gds_sound.specs.Sound.{Tree, joined, sound_tree}
use Rattle.gds_sound.proofs.TreeLemmas.{some_map, leaf_parts, index_parts}
use Rattle.gds_tree.specs.Below.{visit_below, low_behind, both, trees_below}

-- ---- what holds of each element, in parts

pub all_left : {A : Type 0} (P : A → Type 0) (xs ys : List A) → AllByRecursion P (xs ++ ys) → AllByRecursion P xs
all_left P [] ys h = tt
all_left P (x ∷ xs) ys h = (h.0, all_left P xs ys h.1)

pub all_right : {A : Type 0} (P : A → Type 0) (xs ys : List A) → AllByRecursion P (xs ++ ys) → AllByRecursion P ys
all_right P [] ys h = h
all_right P (x ∷ xs) ys h = all_right P xs ys h.1

pub all_both : {A : Type 0} (P : A → Type 0) (xs ys : List A) → AllByRecursion P xs → AllByRecursion P ys
    → AllByRecursion P (xs ++ ys)
all_both P [] ys h k = k
all_both P (x ∷ xs) ys h k = (h.0, all_both P xs ys h.1 k)

pub all_weaker : {A : Type 0} (P Q : A → Type 0) (xs : List A) → ((x : A) → P x → Q x) → AllByRecursion P xs
    → AllByRecursion Q xs
all_weaker P Q [] f h = tt
all_weaker P Q (x ∷ xs) f h = (f x h.0, all_weaker P Q xs f h.1)

-- ---- two trees together

pub record AreBoth (a b : Option Tree) (t : Tree) : Type 0 where
  pub first : Tree
  pub second : Tree
  pub here : a ≡ Some first
  pub later : b ≡ Some second
  pub is : t ≡ joined first second

pub both_parts : (a b : Option Tree) (t : Tree) → both a b ≡ Some t → AreBoth a b t
both_parts a b t h =
    let p = some_then (λ x. option_map (joined x) b) a t h in
    let q = some_map (joined p.0) b t p.2 in
    record { first = p.0; second = q.0; here = p.1; later = q.1; is = sym q.2 }

pub some_both : (a b : Option Tree) (x y : Tree) → a ≡ Some x → b ≡ Some y → both a b ≡ Some (joined x y)
some_both a b x y e f = ap (λ o. both o b) e ∙ ap (both (Some x)) f

pub none_before : (a : Option Tree) → both (Some (record { blocks = []; items = [] })) a ≡ a
none_before None = refl
none_before (Some t) = refl

pub joined_assoc : (a b c : Tree) → joined (joined a b) c ≡ joined a (joined b c)
joined_assoc a b c = λ i. record {
  blocks = append_assoc a.blocks b.blocks c.blocks i;
  items = append_assoc a.items b.items c.items i;
}

pub joined_none : (a : Tree) → joined a (record { blocks = []; items = [] }) ≡ a
joined_none a = λ i. record { blocks = append-nil a.blocks i; items = append-nil a.items i }

pub both_assoc : (a b c : Option Tree) → both (both a b) c ≡ both a (both b c)
both_assoc None b c = refl
both_assoc (Some a) None c = refl
both_assoc (Some a) (Some b) None = refl
both_assoc (Some a) (Some b) (Some c) = ap (λ t. Some t) (joined_assoc a b c)

-- ---- the trees below entries

pub below_append : (image : List ℕ) (v : Visit) (level : ℕ) (low : Option (List ℕ)) (a b : List Item)
    → trees_below image v level low (a ++ b)
    ≡ both (trees_below image v level low a) (trees_below image v level (low_behind low a) b)
below_append image v level low [] b = sym (none_before (trees_below image v level low b))
below_append image v level low (e ∷ a) b =
    ap (both (sound_tree image level (visit_below v level low e))) (below_append image v level (Some e.key) a b)
    ∙ sym (both_assoc (sound_tree image level (visit_below v level low e)) (trees_below image v level (Some e.key) a)
    (trees_below image v level (low_behind (Some e.key) a) b))

pub low_append : (low : Option (List ℕ)) (a b : List Item) → low_behind low (a ++ b) ≡ low_behind (low_behind low a) b
low_append low [] b = refl
low_append low (e ∷ a) b = low_append (Some e.key) a b

-- A tree's first block is that of its visit.
pub first_block : (image : List ℕ) (level : ℕ) (v : Visit) (t : Tree) → sound_tree image level v ≡ Some t
    → (rest : List ℕ) × (v.block ∷ rest ≡ t.blocks)
first_block image zero v t h = let p = leaf_parts image v t h in ([], ap (λ (w : Tree). w.blocks) p.is)
first_block image (suc level) v t h =
    let p = index_parts image level v t h in
    (p.below.blocks, ap (λ (w : Tree). w.blocks) p.is)
