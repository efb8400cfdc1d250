-- One index block is told of the parts of its child.
use Rattle.std.proofs.Common.{◌≡◌, ◌≢◌, ◌<◌, ◌≤◌, ℕ, suc, List, [], ◌∷◌, ◌++◌, drop, Bool, Option, None, Some}
use Rattle.std.proofs.Common.{◌==◌, false, refl, sym, ap, ◌∙◌, subst, arith}
use Rattle.std.proofs.Common.{rules, tests}
use Rattle.std.specs.Prelude.{All, IsTrue}
use Rattle.gds_file.specs.Maps.{has_block}
use Rattle.std.specs.List.{AllByRecursion}
use Rattle.std.proofs.lemmas.Bool.{cond-false, false≢true, ne_eqb}
use Rattle.std.proofs.lemmas.List.Elements.{All-append, All-cons, All-from_recursion, All-nil, recursion_from_All}
use Rattle.gds_block.specs.Item.{Item}
use Rattle.gds_file.specs.FileLaws.{IsLawful}
use Rattle.gds_header.specs.Fields.{fields_of}
use Rattle.gds_law.specs.Visit.{Visit}
use Rattle.gds_pack.specs.Entry.{items}
use Rattle.gds_pack.specs.Packable.{ArePackable}
use Rattle.gds_pack.specs.Packed.{packed_size}
use Rattle.gds_sound.specs.Sound.{Tree}
use Rattle.gds_split.specs.Pieces.{GoInto, Piece, numbers_of, pieces_above}
use Rattle.gds_tree.specs.Around.{around}
use Rattle.gds_tree.specs.Lawful.{IsTreeNumber}
use Rattle.gds_ancestors.specs.Ancestors.{Ancestor}
use Rattle.gds_tree.specs.RightBlock.{IsDueLevel}
use Rattle.gds_splice.specs.Divided.{Divides}
use Rattle.gds_splice.specs.Parting.{IsFull, blocks_taken}
use Rattle.gds_splice.specs.NodePut.{CannotPut, IsHighest, IsToPut, PutsNode}
use Rattle.gds_splice.specs.OneUp.{AreNone, CannotTellOne, EndsHere, GoesOnUp, IsAtEnd, IsToTell, TellsOne}
use Rattle.gds_splice.specs.Parted.{HasRoom, MayPart}
use Rattle.gds_splice.specs.Parts.{FitInRuns, FitInThree, pieces_of, told_entries}
use Rattle.gds_splice.specs.Told.{IsStepTo, IsTold, IsToldAt}
use Rattle.gds_splice.specs.declared.node.Node.{Node}
use Rattle.gds_splice.specs.declared.parts.Parts.{Parts}
use Rattle.gds_find.specs.declared.trail.Step.{Step}
use Rattle.gds_splice.proofs.AncestorLemmas.{ancestor_becomes, ancestor_may_part, parted_has_room}
use Rattle.gds_splice.proofs.ImageLemmas.{image_of}
use Rattle.gds_splice.proofs.PutLemmas.{entries_are, numbers_are, pieces_long}
use Rattle.gds_splice.proofs.RunLemmas.{some_of}
use Rattle.gds_splice.proofs.TakenLemmas.{taken}

-- ---- entries that go into pieces

all_some : (limit : ℕ) (lengths numbers : List ℕ) (es : List Item) → FitInRuns limit lengths es
    → AllByRecursion (λ (p : Piece). p.entries ≢ []) (pieces_of lengths numbers es)
all_some limit lengths [] es fits = tt
all_some limit [] (n ∷ numbers) es fits = (fits.0, tt)
all_some limit (k ∷ lengths) (n ∷ numbers) es fits = (fits.0, all_some limit lengths numbers (drop k es) fits.2)

all_numbered : (P : ℕ → Type 0) (pieces : List Piece) → AllByRecursion P (numbers_of pieces)
    → AllByRecursion (λ (p : Piece). P p.number) pieces
all_numbered P [] all = tt
all_numbered P (p ∷ pieces) all = (all.0, all_numbered P pieces all.1)

pub divided_into : (before after kept : List ℕ) (level : ℕ) (es : List Item) (parts : Parts) → IsLawful before
    → All (IsTreeNumber (fields_of before).total) kept → (d : Divides before after kept level es parts)
    → GoInto (fields_of before).total es (pieces_of d.lengths (kept ++ d.fresh) es)
divided_into before after kept level es parts l own d =
    let total : ℕ = (fields_of before).total in
    let numbers : List ℕ = kept ++ d.fresh in
    let pieces : List Piece = pieces_of d.lengths numbers es in
    let t = taken before d.writes.mid d.fresh l d.writes.taken in
    let all : All (IsTreeNumber total) numbers = All-append (IsTreeNumber total) kept d.fresh own t.numbered in
    record {
      whole = entries_are d.lengths numbers es d.count;
      any = some_of pieces (omega (arith, pieces_long d.lengths numbers es d.count, d.count));
      some = All-from_recursion (λ (p : Piece). p.entries ≢ []) pieces
          (all_some (fields_of before).block_size d.lengths numbers es d.fits);
      numbered = All-from_recursion (λ (p : Piece). IsTreeNumber total p.number) pieces
          (all_numbered (IsTreeNumber total) pieces
          (recursion_from_All (IsTreeNumber total) (numbers_of pieces)
          (subst (All (IsTreeNumber total)) (sym (numbers_are d.lengths numbers es d.count)) all)));
    }

-- ---- blocks among others

pub in_first : (x : ℕ) (xs : List ℕ) (n : ℕ) → n ≡ x → IsTrue (has_block (x ∷ xs) n)
in_first x xs n is = subst (λ m. IsTrue (has_block (x ∷ xs) m)) (sym is) (search (rules, tests))

-- ---- the index block and its child

module _ (file : List ℕ) (root : Visit) (a : Ancestor) (above : List Ancestor) (child : Visit) (level : ℕ)
    (pieces : List Piece) (below : Tree) (step : Step) (top : Bool) (parts : Parts)
    (p : IsToTell file root a above child level pieces below step top parts) where
  abbrev pub entries_now : List Item
  entries_now = a.front ++ pieces_above level pieces a.entry.key ++ a.back

  abbrev pub below_now : Tree
  below_now = around a.left p.parted.over.tree a.right

  pub may_part : MayPart file root above a.visit (suc level) entries_now below_now
  may_part = ancestor_may_part file root a above child level pieces below p.parted

  pub step_to : IsStepTo file step a.visit level a.front a.entry a.back
  step_to = record {
    image = image_of file p.parted.maps;
    block = p.block;
    has = p.parted.lead.0.has;
    place = p.place;
  }

  pub told_now : told_entries parts a.front a.entry a.back ≡ entries_now
  told_now = ap (λ xs. a.front ++ xs ++ a.back) (sym p.told)

  pub packable_now : ArePackable (suc level) (told_entries parts a.front a.entry a.back)
  packable_now = subst (ArePackable (suc level)) (sym told_now) may_part.lawful.packable

  pub room : HasRoom (fields_of file) a (pieces_above level pieces a.entry.key)
  room = parted_has_room file root a above child level pieces below p.parted p.few

  some_now : (es : List Item) → ArePackable (suc level) es → es ≢ []
  some_now [] packable = absurd packable
  some_now (e ∷ es) packable = λ none. absurd (let no : e ∷ es ≡ [] = none in cc)

  pub three : FitInThree (fields_of file).block_size entries_now
  three = record {
    front = a.front;
    middle = pieces_above level pieces a.entry.key;
    back = a.back;
    whole = refl;
    some = some_now entries_now may_part.lawful.packable;
    front_fits = room.front;
    middle_fits = room.put_fits;
    back_fits = room.back;
  }

  pub is_full : (fields_of file).block_size < packed_size entries_now → IsFull (fields_of file) a
  is_full more = omega (arith, more, room.more)

-- ---- the node that was read

pub entries_told : (file : List ℕ) (root : Visit) (a : Ancestor) (above : List Ancestor) (child : Visit) (level : ℕ)
    (pieces : List Piece) (below : Tree) (step : Step) (top : Bool) (parts : Parts)
    (p : IsToTell file root a above child level pieces below step top parts) (node : Node)
    → IsTold parts level a.front a.entry a.back node
    → items node.entries.items ≡ a.front ++ pieces_above level pieces a.entry.key ++ a.back
entries_told file root a above child level pieces below step top parts p node told =
    told.entries_are ∙ told_now file root a above child level pieces below step top parts p

-- a root below level 7 takes three, and an index block below others two
pub three_for_root : (level free : ℕ) → blocks_taken level [] ≤ free → level < 7 → 3 ≤ free
three_for_root level free enough low =
    let other : (level == 7) ≡ false = ne_eqb level 7 (omega arith) in
    let three : blocks_taken level [] ≡ 3 = cond-false (level == 7) _ _ other in
    omega (arith, enough, three)

pub two_below : (above : List Ancestor) (top : Bool) (level free : ℕ) → AreNone above top → top ≡ false
    → blocks_taken level above ≤ free → 2 ≤ free
two_below [] top level free at_top below enough = absurd (false≢true (sym below ∙ at_top))
two_below (b ∷ above) top level free at_top below enough = enough

pub three_told : (file : List ℕ) (root : Visit) (a : Ancestor) (above : List Ancestor) (child : Visit) (level : ℕ)
    (pieces : List Piece) (below : Tree) (step : Step) (top : Bool) (parts : Parts)
    (p : IsToTell file root a above child level pieces below step top parts) (node : Node)
    → IsTold parts level a.front a.entry a.back node
    → FitInThree (fields_of file).block_size (items node.entries.items)
three_told file root a above child level pieces below step top parts p node told =
    subst (FitInThree (fields_of file).block_size)
    (sym (entries_told file root a above child level pieces below step top parts p node told))
    (three file root a above child level pieces below step top parts p)

pub to_put : (file : List ℕ) (root : Visit) (a : Ancestor) (above : List Ancestor) (child : Visit) (level : ℕ)
    (pieces : List Piece) (below : Tree) (step : Step) (top : Bool) (parts : Parts)
    (p : IsToTell file root a above child level pieces below step top parts) (node : Node)
    → IsToldAt step parts node file
    → IsToPut file root above a.visit level (around a.left p.parted.over.tree a.right) step.block top node
to_put file root a above child level pieces below step top parts p node at =
    let told = at a.visit level a.front a.entry a.back
    (step_to file root a above child level pieces below step top parts p) in
    let entries = entries_told file root a above child level pieces below step top parts p node told in record {
      may = subst
          (λ es. MayPart file root above a.visit (suc level) es (around a.left p.parted.over.tree a.right))
          (sym entries) (may_part file root a above child level pieces below step top parts p);
      level_is = told.level_is;
      block_is = p.block;
      at_top = p.at_top;
      three = three_told file root a above child level pieces below step top parts p node told;
    }

-- ---- what is left to tell

ends_one : (step : Step) (top : Bool) (parts : Parts) (node : Node) (file after : List ℕ)
    → IsToldAt step parts node file → PutsNode step.block top node None file after → EndsHere step top parts file after
ends_one step top parts node file after at puts root a above child level pieces below p =
    ancestor_becomes file after root a above child level pieces below p.parted
    (puts root above a.visit level (around a.left p.parted.over.tree a.right)
    (to_put file root a above child level pieces below step top parts p node at))

goes_on_up : (step : Step) (top : Bool) (parts : Parts) (node : Node) (file after : List ℕ) (own : Parts)
    → IsToldAt step parts node file → PutsNode step.block top node (Some own) file after
    → GoesOnUp step top parts own file after
goes_on_up step top parts node file after own at puts root a b above child level pieces below p =
    let u = puts root b above a.visit level (around a.left p.parted.over.tree a.right)
    (to_put file root a (b ∷ above) child level pieces below step top parts p node at) in
    let told = at a.visit level a.front a.entry a.back
    (step_to file root a (b ∷ above) child level pieces below step top parts p) in
    let entries = entries_told file root a (b ∷ above) child level pieces below step top parts p node told in record {
      own = u.own;
      few = u.few;
      goes = u.goes;
      told = u.told;
      full = is_full file root a (b ∷ above) child level pieces below step top parts p
          (omega (arith, u.more, ap packed_size entries));
    }

pub tells_one : (step : Step) (top : Bool) (parts : Parts) (node : Node) (file after : List ℕ) (own : Option Parts)
    → IsToldAt step parts node file → PutsNode step.block top node own file after
    → TellsOne step top parts own file after
tells_one step top parts node file after None at puts = ends_one step top parts node file after at puts
tells_one step top parts node file after (Some own) at puts = goes_on_up step top parts node file after own at puts

pub cannot_tell : (step : Step) (top : Bool) (parts : Parts) (node : Node) (file : List ℕ)
    → IsToldAt step parts node file → CannotPut step.block top node file → CannotTellOne step top parts file
cannot_tell step top parts node file at cannot root a above child level pieces below p free =
    cannot root above a.visit level (around a.left p.parted.over.tree a.right)
    (to_put file root a above child level pieces below step top parts p node at) (λ more. free)

pub is_at_end : (step : Step) (top : Bool) (parts : Parts) (node : Node) (file : List ℕ)
    → IsToldAt step parts node file → IsHighest top node file → IsAtEnd step top parts file
is_at_end step top parts node file at h root a [] child level pieces below p =
    let to = to_put file root a [] child level pieces below step top parts p node at in
    let told = at a.visit level a.front a.entry a.back
    (step_to file root a [] child level pieces below step top parts p) in
    let entries = entries_told file root a [] child level pieces below step top parts p node told in
    let due : IsDueLevel a.visit.level (suc level) = to.may.due in
    let none : a.visit.level ≡ None = ap (λ (v : Visit). v.level) to.may.lead ∙ to.may.is_root.level in
    let most : suc level ≤ 7 = (subst (λ l. IsDueLevel l (suc level)) none due).1 in record {
      levels = omega (arith, h.high, to.level_is, most);
      full = All-cons (IsFull (fields_of file)) a []
          (is_full file root a [] child level pieces below step top parts p
          (omega (arith, h.more, ap packed_size entries)))
          (All-nil (IsFull (fields_of file)));
    }
is_at_end step top parts node file at h root a (b ∷ above) child level pieces below p =
    absurd (false≢true (sym p.at_top ∙ h.is_top))
