-- Ancestors and the offsets of their steps.
use Rattle.std.proofs.Common.{◌≡◌, ℕ, suc, ◌+◌, List, [], ◌∷◌, ◌++◌, Option, Some, inl, inr, refl, sym, ap, subst, ◌∙◌}
use Rattle.std.proofs.Common.{append_assoc, append-nil, length, arith}
use Rattle.std.proofs.lemmas.List.{length-append}
use Rattle.gds_block.specs.Item.{Item}
use Rattle.gds_law.specs.Visit.{Visit, Child}
use Rattle.gds_law.specs.Path.{Steps, visit_from}
use Rattle.gds_law.proofs.MembershipLemmas.{IsIn}
use Rattle.gds_pack.specs.Packed.{record_size, records_size, packed_size}
use Rattle.gds_sound.proofs.PathLemmas.{step_leads}
use Rattle.gds_tree.specs.Below.{visit_below, index_children, low_behind}
use Rattle.gds_tree.specs.Keeps.{IsImage}
use Rattle.gds_tree.proofs.ImageLemmas.{has_children}
use Rattle.gds_ancestors.specs.Ancestors.{Ancestor, steps_to, AreAncestors}

-- ---- the path of ancestors

pub step_count : (above : List Ancestor) → length (steps_to above) ≡ length above
step_count [] = refl
step_count (a ∷ above) =
    let last : Steps = (a.visit.block, packed_size a.front) ∷ [] in
    omega (arith, length-append (steps_to above) last, step_count above)

-- the child by an entry behind others
abbrev child_by : Visit → ℕ → ℕ → List ℕ → Option (List ℕ) → List Item → Item → Child
child_by v level at previous low front entry =
    record { offset = at + records_size previous front; visit = visit_below v level (low_behind low front) entry }

in_children : (v : Visit) (level at : ℕ) (previous : List ℕ) (low : Option (List ℕ)) (front : List Item) (entry : Item)
    (back : List Item)
    → IsIn (index_children v level at previous low (front ++ entry ∷ back))
    (child_by v level at previous low front entry)
in_children v level at previous low [] entry back =
    let same : at ≡ at + 0 = omega arith in
    inl (λ i. record { offset = same i; visit = visit_below v level low entry })
in_children v level at previous low (f ∷ front) entry back =
    let cs : List Child = index_children v level (at + record_size previous f) f.key (Some f.key)
    (front ++ entry ∷ back) in
    let visit : Visit = visit_below v level (low_behind (Some f.key) front) entry in
    let more : at + record_size previous f + records_size f.key front
    ≡ at + (record_size previous f + records_size f.key front) = omega arith in
    inr (subst (λ n. IsIn cs (record { offset = n; visit = visit })) more
    (in_children v level (at + record_size previous f) f.key (Some f.key) front entry back))

module _ (image : List ℕ) (i : IsImage image) where
  -- a path that goes on from the visit below ancestors
  path_on : (root v w : Visit) (above : List Ancestor) (level : ℕ) (path : Steps)
      → AreAncestors image root above v level → visit_from image v path ≡ Some w
      → visit_from image root (steps_to above ++ path) ≡ Some w
  path_on root v w [] level path lead h = ap (λ u. visit_from image u path) (sym lead) ∙ h
  path_on root v w (a ∷ above) level path lead h =
      let c : Child = child_by a.visit level 16 [] a.visit.low a.front a.entry in
      let there = subst (λ cs. IsIn cs c)
      (sym (has_children image a.visit (suc level) (a.front ++ a.entry ∷ a.back) i lead.0.has))
      (in_children a.visit level 16 [] a.visit.low a.front a.entry a.back) in
      let step : Steps = (a.visit.block, packed_size a.front) ∷ [] in
      ap (visit_from image root) (append_assoc (steps_to above) step path)
      ∙ path_on root a.visit w above (suc level) ((a.visit.block, packed_size a.front) ∷ path) lead.1
      (step_leads image a.visit c path w there (ap (λ u. visit_from image u path) (sym lead.0.leads) ∙ h))

  pub path_of : (root w : Visit) (above : List Ancestor) (level : ℕ) → AreAncestors image root above w level
      → visit_from image root (steps_to above) ≡ Some w
  path_of root w above level lead =
      ap (visit_from image root) (sym (append-nil (steps_to above))) ∙ path_on root w w above level [] lead refl

-- ---- the entry at an offset

pub record IsSameEntry (a : List Item) (e : Item) (b c : List Item) (f : Item) (d : List Item) : Type 0 where
  pub front : a ≡ c
  pub entry : e ≡ f
  pub back : b ≡ d

head_same : (e f : Item) (b d : List Item) → e ∷ b ≡ f ∷ d → e ≡ f
head_same e f b d same = cc

tail_same : (e f : Item) (b d : List Item) → e ∷ b ≡ f ∷ d → b ≡ d
tail_same e f b d same = cc

-- the sizes of the records behind a first one
size_behind : (p : List ℕ) (x y : Item) (a c : List Item) → x ≡ y
    → record_size p x + records_size x.key a ≡ record_size p y + records_size y.key c
    → records_size x.key a ≡ records_size x.key c
size_behind p x y a c e h =
    let size = ap (record_size p) e in
    let rest = ap (λ (z : Item). records_size z.key c) e in
    omega arith

pub same_entry : (p : List ℕ) (a : List Item) (e : Item) (b c : List Item) (f : Item) (d : List Item)
    → a ++ e ∷ b ≡ c ++ f ∷ d → records_size p a ≡ records_size p c → IsSameEntry a e b c f d
same_entry p [] e b [] f d same size =
    record { front = refl; entry = head_same e f b d same; back = tail_same e f b d same }
same_entry p [] e b (y ∷ c) f d same size = absurd (omega arith)
same_entry p (x ∷ a) e b [] f d same size = absurd (omega arith)
same_entry p (x ∷ a) e b (y ∷ c) f d same size =
    let first = head_same x y (a ++ e ∷ b) (c ++ f ∷ d) same in
    let r = same_entry x.key a e b c f d (tail_same x y (a ++ e ∷ b) (c ++ f ∷ d) same)
    (size_behind p x y a c first size) in
    record { front = λ i. first i ∷ r.front i; entry = r.entry; back = r.back }
