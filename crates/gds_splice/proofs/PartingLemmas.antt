-- Parts that are told upwards, one index block after another.
use Rattle.std.proofs.Common.{◌≡◌, ◌+◌, ◌≤◌, ℕ, suc, Bool, false, List, [], ◌∷◌, ◌++◌, length, refl, sym, ap, ◌∙◌}
use Rattle.std.proofs.Common.{arith}
use Rattle.std.proofs.Common.{length-append, rules, tests}
use Rattle.std.specs.Prelude.{◌==◌, All}
use Rattle.std.proofs.lemmas.Bool.{false≢true}
use Rattle.std.proofs.lemmas.List.{length-map, map-append}
use Rattle.std.proofs.lemmas.List.Elements.{All-cons, All-from_recursion, recursion_from_All}
use Rattle.std.specs.List.{AllByRecursion}
use Rattle.gds_file.specs.Reshape.{KeepsLimits}
use Rattle.gds_header.specs.Fields.{fields_of}
use Rattle.gds_header.specs.declared.header.Header.{Header}
use Rattle.gds_law.specs.Visit.{Visit}
use Rattle.gds_pack.specs.Packed.{packed_size}
use Rattle.gds_sound.specs.Sound.{Tree}
use Rattle.gds_split.specs.Pieces.{Piece}
use Rattle.gds_tree.specs.Around.{around}
use Rattle.gds_ancestors.specs.Ancestors.{Ancestor, outer_blocks, steps_to}
use Rattle.gds_splice.specs.OneUp.{AreNone, CannotTellOne, EndsHere, GoesOnUp, GoesUp, IsAtEnd, IsToTell}
use Rattle.gds_splice.specs.Parted.{items_around, part_blocks}
use Rattle.gds_splice.specs.Parting.{CannotGrow, CannotPart, IsFull, IsToPart, PartsUpwards}
use Rattle.gds_find.specs.Trail.{steps_of}
use Rattle.gds_splice.specs.declared.parts.Parts.{Parts}
use Rattle.gds_find.specs.declared.trail.Step.{Step}
use Rattle.gds_splice.proofs.AboveLemmas.{same_parts}
use Rattle.gds_splice.proofs.AncestorLemmas.{ancestor_becomes, becomes_behind}

-- ---- the last step

pub steps_long : (above : List Ancestor) → length (steps_to above) ≡ length above
steps_long [] = refl
steps_long (a ∷ above) =
    length-append (steps_to above) ((a.visit.block, packed_size a.front) ∷ [])
    ∙ omega (arith, steps_long above)

-- The last step is to the innermost ancestor, and those before it are to the others.
pub record IsLast (a : Ancestor) (above : List Ancestor) (outer : List Step) (step : Step) : Type 0 where
  pub outer_lead : steps_of outer ≡ steps_to above
  pub block : a.visit.block ≡ step.block
  pub place : packed_size a.front ≡ step.offset

pub last_step : (a : Ancestor) (above : List Ancestor) (steps outer : List Step) (step : Step)
    → steps ≡ outer ++ step ∷ [] → steps_of steps ≡ steps_to (a ∷ above) → IsLast a above outer step
last_step a above steps outer step is lead =
    let both : steps_of outer ++ (step.block, step.offset) ∷ []
    ≡ steps_to above ++ (a.visit.block, packed_size a.front) ∷ [] =
    sym (map-append (λ (s : Step). (s.block, s.offset)) outer (step ∷ [])) ∙ ap steps_of (sym is) ∙ lead in
    let long : length (steps_of outer) ≡ length (steps_to above) =
    omega (
      arith,
      ap length both,
      length-append (steps_of outer) ((step.block, step.offset) ∷ []),
      length-append (steps_to above) ((a.visit.block, packed_size a.front) ∷ []),
    ) in
    let parts = same_parts (steps_of outer) (step.block, step.offset) [] (steps_to above)
    (a.visit.block, packed_size a.front) [] long both in
    record {
      outer_lead = parts.front;
      block = ap (λ (p : ℕ × ℕ). p.0) (sym parts.one);
      place = ap (λ (p : ℕ × ℕ). p.1) (sym parts.one);
    }

pub none_if : (above : List Ancestor) (n : ℕ) (top : Bool) → n ≡ length above → top ≡ (n == 0) → AreNone above top
none_if [] n top long is = is ∙ ap (λ k. k == 0) long
none_if (a ∷ above) n top long is = is ∙ ap (λ k. k == 0) long ∙ search (rules, tests)

pub is_to_tell : (file : List ℕ) (root : Visit) (a : Ancestor) (above : List Ancestor) (child : Visit) (level : ℕ)
    (pieces : List Piece) (below : Tree) (steps outer : List Step) (step : Step) (top : Bool) (parts : Parts)
    → IsToPart file root a above child level pieces below steps parts → steps ≡ outer ++ step ∷ []
    → top ≡ (length outer == 0) → IsToTell file root a above child level pieces below step top parts
is_to_tell file root a above child level pieces below steps outer step top parts p is empty =
    let l = last_step a above steps outer step is p.leads in record {
      parted = p.parted;
      few = p.few;
      block = l.block;
      place = l.place;
      at_top = none_if above (length outer) top
          (sym (length-map outer (λ (s : Step). (s.block, s.offset))) ∙ ap length l.outer_lead ∙ steps_long above)
          empty;
      told = p.told;
    }

-- ---- no steps

pub no_steps : (file : List ℕ) (steps : List Step) (parts : Parts) → length steps ≡ 0 → CannotPart steps parts file
no_steps file [] parts none root a above child level pieces below p free =
    omega (
      arith,
      ap length p.leads,
      length-append (steps_to above) ((a.visit.block, packed_size a.front) ∷ []),
    )
no_steps file (s ∷ steps) parts none root a above child level pieces below p free = absurd (omega arith)

-- ---- blocks that were full before

all_still_full : (h g : Header) → KeepsLimits h g → (above : List Ancestor) → AllByRecursion (IsFull g) above
    → AllByRecursion (IsFull h) above
all_still_full h g limits [] full = tt
all_still_full h g limits (c ∷ above) full =
    (omega (arith, full.0, limits.block_size, limits.key_max), all_still_full h g limits above full.1)

pub still_full : (h g : Header) → KeepsLimits h g → (above : List Ancestor) → All (IsFull g) above
    → All (IsFull h) above
still_full h g limits above full =
    All-from_recursion (IsFull h) above (all_still_full h g limits above (recursion_from_All (IsFull g) above full))

-- ---- one block told

module _ (file : List ℕ) (steps outer : List Step) (step : Step) (top : Bool) (parts : Parts)
    (is : steps ≡ outer ++ step ∷ []) (empty : top ≡ (length outer == 0)) where
  pub upwards_here : (after : List ℕ) → EndsHere step top parts file after → PartsUpwards steps parts file after
  unfolding is_to_tell
  upwards_here after ends root a above child level pieces below p =
      ends root a above child level pieces below
      (is_to_tell file root a above child level pieces below steps outer step top parts p is empty)

  long : length steps ≡ length outer + 1
  long = ap length is ∙ length-append outer (step ∷ [])

  pub cannot_one : CannotTellOne step top parts file → CannotPart steps parts file
  cannot_one cannot root a above child level pieces below p free =
      cannot root a above child level pieces below
      (is_to_tell file root a above child level pieces below steps outer step top parts p is empty)
      (omega (arith, free))

  pub ends_one : IsAtEnd step top parts file → CannotGrow steps parts file
  ends_one ends root a above child level pieces below p =
      ends root a above child level pieces below
      (is_to_tell file root a above child level pieces below steps outer step top parts p is empty)

  module _ (mid : List ℕ) (own : Parts) (below_others : top ≡ false) (goes : GoesOnUp step top parts own file mid) where
    up : (root : Visit) (a b : Ancestor) (above : List Ancestor) (child : Visit) (level : ℕ) (pieces : List Piece)
        (below : Tree) → (p : IsToPart file root a (b ∷ above) child level pieces below steps parts)
        → GoesUp file mid root a b above child level pieces below p.parted own
    unfolding is_to_tell
    up root a b above child level pieces below p =
        goes root a b above child level pieces below
        (is_to_tell file root a (b ∷ above) child level pieces below steps outer step top parts p is empty)

    next : (root : Visit) (a b : Ancestor) (above : List Ancestor) (child : Visit) (level : ℕ) (pieces : List Piece)
        (below : Tree) → (p : IsToPart file root a (b ∷ above) child level pieces below steps parts)
        → IsToPart mid root b above a.visit (suc level) (up root a b above child level pieces below p).own
        (around a.left p.parted.over.tree a.right) outer own
    next root a b above child level pieces below p =
        let u = up root a b above child level pieces below p in record {
          parted = u.goes.parted;
          few = u.few;
          leads = (last_step a (b ∷ above) steps outer step is p.leads).outer_lead;
          told = u.told;
        }

    not_top : (root : Visit) (a : Ancestor) (child : Visit) (level : ℕ) (pieces : List Piece) (below : Tree)
        → IsToPart file root a [] child level pieces below steps parts → ⊥
    not_top root a child level pieces below p =
        false≢true (sym below_others
        ∙ (is_to_tell file root a [] child level pieces below steps outer step top parts p is empty).at_top)

    pub upwards_on : (after : List ℕ) → PartsUpwards outer own mid after → PartsUpwards steps parts file after
    unfolding next
    upwards_on after rest root a [] child level pieces below p = absurd (not_top root a child level pieces below p)
    upwards_on after rest root a (b ∷ above) child level pieces below p =
        let u = up root a b above child level pieces below p in
        let n = next root a b above child level pieces below p in
        let inner : Tree = around a.left p.parted.over.tree a.right in
        ancestor_becomes file after root a (b ∷ above) child level pieces below p.parted
        (becomes_behind file mid after root (part_blocks (b ∷ above) a.visit inner)
        (n.parted.over.tree.blocks ++ outer_blocks (b ∷ above)) (items_around (b ∷ above) inner.items) u.goes.reshapes
        (rest root b above a.visit (suc level) u.own inner n))

    pub cannot_on : (fields_of file).free ≤ (fields_of mid).free + 2 → CannotPart outer own mid
        → CannotPart steps parts file
    cannot_on kept rest root a [] child level pieces below p free = not_top root a child level pieces below p
    cannot_on kept rest root a (b ∷ above) child level pieces below p free =
        let u = up root a b above child level pieces below p in
        rest root b above a.visit (suc level) u.own (around a.left p.parted.over.tree a.right)
        (next root a b above child level pieces below p) (omega (arith, free, kept))

    pub grows_on : CannotGrow outer own mid → CannotGrow steps parts file
    grows_on rest root a [] child level pieces below p = absurd (not_top root a child level pieces below p)
    grows_on rest root a (b ∷ above) child level pieces below p =
        let u = up root a b above child level pieces below p in
        let deep = rest root b above a.visit (suc level) u.own (around a.left p.parted.over.tree a.right)
        (next root a b above child level pieces below p) in record {
          levels = omega (arith, deep.levels);
          full = All-cons (IsFull (fields_of file)) a (b ∷ above) u.full
              (still_full (fields_of file) (fields_of mid) u.goes.reshapes.limits (b ∷ above) deep.full);
        }
