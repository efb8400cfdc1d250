-- An item that is set in the tree of a global.
use Rattle.std.proofs.Common.{◌≡◌, List, [], ◌∷◌, ◌++◌, length, Some}
use Rattle.std.proofs.Common.{inl, inr, refl, sym, ap, subst, ◌∙◌, arith}
use Rattle.std.specs.List.{AllZip}
use Rattle.gds_block.specs.Item.{Item}
use Rattle.gds_file.specs.Change.{SetsItem, items_in}
use Rattle.gds_file.proofs.ChangeLemmas.{set_in_one_tree, set_item_is_set}
use Rattle.gds_file.proofs.FileLemmas.{global_changes}
use Rattle.gds_law.proofs.MembershipLemmas.{IsIn, in_from_Contains}
use Rattle.gds_sound.specs.Sound.{IsSound, Tree, root_of, tree_at}
use Rattle.gds_globals.specs.SetLaws.{SetInGlobal, SetIsInMap}
use Rattle.gds_globals.proofs.FileLemmas.{some_same}

pub set_is_in_map : SetIsInMap
set_is_in_map before file directory globals m p value s st bytes with_item =
    set_item_is_set before file directory with_item.directory globals with_item.globals m p value s st with_item.sound
    bytes with_item.sets

-- two lists that belong together, parted at an element of the first
pub record PartsAt {A B : Type 0} (R : A → B → Type 0) (xs : List A) (ys : List B) (x : A) : Type 0 where
  pub front : List A
  pub back : List A
  pub left : List B
  pub here : B
  pub right : List B
  pub firsts : xs ≡ front ++ x ∷ back
  pub seconds : ys ≡ left ++ here ∷ right
  pub as_many : length front ≡ length left
  pub related : R x here

pub parts_at : {A B : Type 0} (R : A → B → Type 0) (xs : List A) (ys : List B) → AllZip R xs ys → (x : A) → IsIn xs x
    → PartsAt R xs ys x
parts_at R [] ys h x i = absurd i
parts_at R (z ∷ xs) [] h x i = absurd h
parts_at R (z ∷ xs) (y ∷ ys) h x (inl e) = record {
  front = [];
  back = xs;
  left = [];
  here = y;
  right = ys;
  firsts = λ j. e j ∷ xs;
  seconds = refl;
  as_many = refl;
  related = subst (λ w. R w y) e h.0;
}
parts_at R (z ∷ xs) (y ∷ ys) h x (inr i) =
    let p = parts_at R xs ys h.1 x i in
    record {
      front = z ∷ p.front;
      back = p.back;
      left = y ∷ p.left;
      here = p.here;
      right = p.right;
      firsts = λ j. z ∷ p.firsts j;
      seconds = λ j. y ∷ p.seconds j;
      as_many = omega (arith, p.as_many);
      related = p.related;
    }

pub set_in_global : SetInGlobal
set_in_global before file directory old globals entry item items s there found sets becomes =
    let p = parts_at (λ (e : Item) (t : Tree). tree_at before (root_of e) ≡ Some t) directory.items globals
    s.global_trees entry (in_from_Contains directory.items entry there) in
    let same : p.here ≡ old = some_same p.here old (sym p.related ∙ found) in
    let trees : globals ≡ p.left ++ old ∷ p.right = p.seconds ∙ ap (λ t. p.left ++ t ∷ p.right) same in
    let new : Tree = becomes.tree in
    record {
      directory = directory;
      globals = p.left ++ new ∷ p.right;
      sound = global_changes before file directory p.left p.right old new p.front p.back entry
          (subst (IsSound before directory) trees s) p.firsts p.as_many becomes.reshapes becomes.stands becomes.lawful;
      sets = subst (λ ts. SetsItem (items_in ts) (items_in (p.left ++ new ∷ p.right)) item) (sym trees)
          (set_in_one_tree p.left p.right old new item
          (subst (λ is. SetsItem old.items is item) (sym becomes.items_are) sets));
    }
