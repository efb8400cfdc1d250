-- What the tree over ancestors has: its items in order, and its blocks.
use Rattle.std.proofs.Common.{◌≡◌, ℕ, List, [], ◌∷◌, ◌++◌, ◌||◌, ◌↔◌, sym, ap, subst, ◌∙◌, append_assoc, append-nil}
use Rattle.std.specs.Prelude.{nat_eq}
use Rattle.std.specs.List.{IsDistinct, list_any}
use Rattle.std.specs.List.Sorted.{IsPermutation}
use Rattle.std.proofs.lemmas.List.Folds.{list_any-append}
use Rattle.std.specs.Cmp.{both_ways}
use Rattle.std.proofs.lemmas.Bool.{eqb-true, eq-eqb}
use Rattle.std.proofs.lemmas.List.Sorted.{IsPermutation-refl, IsPermutation-trans, IsPermutation-sym}
use Rattle.std.proofs.lemmas.List.Sorted.{IsPermutation-cons, IsPermutation-append_comm, IsPermutation-append_right}
use Rattle.std.proofs.lemmas.List.Sorted.{list_any-IsPermutation}
use Rattle.std.proofs.lemmas.Map.Keys.{IsDistinct-IsPermutation}
use Rattle.gds_sound.specs.Sound.{Tree}
use Rattle.gds_ancestors.specs.Ancestors.{Ancestor, tree_with, whole_with, outer_blocks, items_before, items_behind}

-- ---- items

five_parts : {A : Type 0} (p l m r q : List A) → p ++ (l ++ m ++ r) ++ q ≡ (p ++ l) ++ m ++ (r ++ q)
five_parts p l m r q =
    append_assoc p (l ++ m ++ r) q
    ∙ ap (λ x. p ++ x) (append_assoc (l ++ m) r q ∙ append_assoc l m (r ++ q))
    ∙ sym (append_assoc p l (m ++ (r ++ q)))
    ∙ sym (append_assoc (p ++ l) m (r ++ q))

pub whole_items : (above : List Ancestor) (inner : Tree)
    → (whole_with above inner).items ≡ items_before above ++ inner.items ++ items_behind above
whole_items [] inner = sym (append-nil inner.items)
whole_items (a ∷ above) inner =
    whole_items above (tree_with a inner)
    ∙ five_parts (items_before above) a.left.items inner.items a.right.items (items_behind above)

-- ---- blocks

inner_last : (l m r o : List ℕ) → IsPermutation (l ++ m ++ r ++ o) (l ++ r ++ o ++ m)
inner_last l m r o =
    let before : l ++ m ++ r ++ o ≡ l ++ (m ++ (r ++ o)) = append_assoc (l ++ m) r o ∙ append_assoc l m (r ++ o) in
    let after : l ++ r ++ o ++ m ≡ l ++ (r ++ o ++ m) =
    ap (λ xs. xs ++ m) (append_assoc l r o) ∙ append_assoc l (r ++ o) m in
    subst (IsPermutation (l ++ m ++ r ++ o)) (sym after)
    (subst (λ xs. IsPermutation xs (l ++ (r ++ o ++ m))) (sym before)
    (IsPermutation-append_right l (m ++ (r ++ o)) (r ++ o ++ m) (IsPermutation-append_comm m (r ++ o))))

pub whole_blocks : (above : List Ancestor) (inner : Tree)
    → IsPermutation (whole_with above inner).blocks (outer_blocks above ++ inner.blocks)
whole_blocks [] inner = IsPermutation-refl inner.blocks
whole_blocks (a ∷ above) inner =
    let own : ℕ = a.visit.block in
    let outer : List ℕ = outer_blocks above in
    let here : List ℕ = a.left.blocks ++ inner.blocks ++ a.right.blocks in
    let whole : List ℕ = (whole_with (a ∷ above) inner).blocks in
    IsPermutation-trans whole (outer ++ own ∷ here) _ (whole_blocks above (tree_with a inner))
    (IsPermutation-trans (outer ++ own ∷ here) (own ∷ here ++ outer) _ (IsPermutation-append_comm outer (own ∷ here))
    (IsPermutation-cons own (here ++ outer) (a.left.blocks ++ a.right.blocks ++ outer ++ inner.blocks)
    (inner_last a.left.blocks inner.blocks a.right.blocks outer)))

pub whole_has : (above : List Ancestor) (inner : Tree) (n : ℕ)
    → list_any (nat_eq n) (whole_with above inner).blocks
    ≡ (list_any (nat_eq n) (outer_blocks above) || list_any (nat_eq n) inner.blocks)
whole_has above inner n =
    list_any-IsPermutation (nat_eq n) _ (outer_blocks above ++ inner.blocks) (whole_blocks above inner)
    ∙ list_any-append (nat_eq n) (outer_blocks above) inner.blocks

eq_flips : (x y : ℕ) → nat_eq x y ≡ nat_eq y x
eq_flips x y =
    both_ways (nat_eq x y) (nat_eq y x) (λ e. eq-eqb y x (sym (eqb-true x y e)))
    (λ e. eq-eqb x y (sym (eqb-true y x e)))

pub whole_distinct : (above : List Ancestor) (inner : Tree)
    → IsDistinct nat_eq (whole_with above inner).blocks ↔ IsDistinct nat_eq (outer_blocks above ++ inner.blocks)
whole_distinct above inner =
    let whole : List ℕ = (whole_with above inner).blocks in
    let parts : List ℕ = outer_blocks above ++ inner.blocks in
    let order = whole_blocks above inner in (
      IsDistinct-IsPermutation nat_eq eq_flips whole parts order,
      IsDistinct-IsPermutation nat_eq eq_flips parts whole (IsPermutation-sym whole parts order),
    )
