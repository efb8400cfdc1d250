-- How a scan goes on, in the leaf that it keeps and to the next one.
use Rattle.std.proofs.Common.{◌≡◌, ℕ, ◌<◌, Bool, true, false, List, [], ◌∷◌, ◌++◌}
use Rattle.std.proofs.Common.{Option, None, Some, Result, Ok, Err, refl, sym, ap, subst, ◌∙◌, arith, append_assoc}
use Rattle.std.proofs.Common.{append-nil, inl, inr}
use Rattle.std.specs.Prelude.{All, IfOk, IsSomeAnd}
use Rattle.std.specs.Option.{ForSome}
use Rattle.std.specs.List.{AllByRecursion}
use Rattle.std.specs.declared.ops.Bound.{Bound}
use Rattle.std.specs.declared.ops.Bound.TheVariants.{Unbounded}
use Rattle.std.proofs.lemmas.List.Elements.{recursion_from_All}
use Rattle.gds_base.specs.declared.error.BaseError.{BaseError}
use Rattle.gds_block.specs.Block.{level_of}
use Rattle.gds_block.specs.Item.{Item}
use Rattle.gds_draft.specs.Draft.{DraftState}
use Rattle.gds_draft.specs.Drafted.{drafted}
use Rattle.gds_draft.specs.Laws.{IsDraftOf}
use Rattle.gds_header.specs.Fields.{block_of, fields_of}
use Rattle.gds_law.specs.Visit.{Visit}
use Rattle.gds_pack.specs.Entry.{item}
use Rattle.gds_pack.specs.Packable.{AreLeaves}
use Rattle.gds_pack.specs.Packed.{packed_size}
use Rattle.gds_pack.specs.declared.entry.Entry.{Entry}
use Rattle.gds_pack.proofs.SizeLemmas.{key_behind-append}
use Rattle.gds_search.specs.PackedBlock.{IsPackedBlock}
use Rattle.gds_tree.specs.Lawful.{IsLawfulKey}
use Rattle.gds_tree.proofs.BelowLemmas.{all_both, all_right, all_weaker}
use Rattle.gds_tree.proofs.ItemLemmas.{AreItems, items_of_tree, keys_lawful}
use Rattle.gds_tree.proofs.ListLemmas.{keys_above, keys_below, leaves_right}
use Rattle.gds_tree.proofs.TestLemmas.{below_less, below_most, most_from}
use Rattle.m_key.specs.Key.{AtMost, Below}
use Rattle.gds_find.specs.Fork.{BeginsWith, IsFirstTaken, LeafPlace, TakesFirst}
use Rattle.gds_find.specs.Next.{HasTreeFrom, IsBefore, IsBoundWithin}
use Rattle.gds_find.specs.Scan.{CursorGoesTo, EndsWith, HasTaken, IsAhead, IsCursorOf, behind_key}
use Rattle.gds_find.specs.declared.scan.Cursor.{Cursor}
use Rattle.gds_find.proofs.FindLemmas.{IsExact, drafted_exact}
use Rattle.gds_find.proofs.NextLemmas.{FirstThere, HasNone, none_first}
use Rattle.gds_find.proofs.StartLemmas.{next_shared}
use Rattle.gds_find.proofs.ValueLemmas.{not_itself}
use Rattle.gds_find.proofs.WayLemmas.{tree_within}

-- ---- in the leaf

-- The entry with which a leaf goes on.
pub record NextOwn (cursor : Cursor) (left : List Item) : Type 0 where
  pub begun : cursor.begun ≡ true
  pub before : List Item
  pub own : Item
  pub behind : List Item
  later : List Item
  pub packed : IsPackedBlock cursor.leaf.items 0 (before ++ own ∷ behind)
  used_is : cursor.used ≡ packed_size (before ++ own ∷ behind)
  pub end_is : packed_size before ≡ cursor.end
  pub begins : BeginsWith cursor.entry.key.items before (own ∷ behind)
  left_is : left ≡ own ∷ (behind ++ later)

pub next_own : (cursor : Cursor) (left : List Item) → cursor.end < cursor.used → IsAhead cursor left
    → NextOwn cursor left
next_own cursor left low a = by a.behind a.packed a.used_is a.begins a.left_is
  where
    by : (behind : List Item) → IsPackedBlock cursor.leaf.items 0 (a.before ++ behind)
        → cursor.used ≡ packed_size (a.before ++ behind) → BeginsWith cursor.entry.key.items a.before behind
        → left ≡ behind ++ a.later → NextOwn cursor left
    by [] packed used begins left_is =
        absurd (omega (arith, low, used, a.end_is, ap packed_size (append-nil a.before)))
    by (own ∷ behind) packed used begins left_is = record {
      begun = a.begun;
      before = a.before;
      own = own;
      behind = behind;
      later = a.later;
      packed = packed;
      used_is = used;
      end_is = a.end_is;
      begins = begins;
      left_is = left_is;
    }

-- one more of the items that are left
one_more : (items passed left more : List Item) (own e : Item) → items ≡ passed ++ left → left ≡ own ∷ more → e ≡ own
    → items ≡ (passed ++ e ∷ []) ++ more
one_more items passed left more own e parts is same =
    parts ∙ ap (λ xs. passed ++ xs) is ∙ ap (λ i. passed ++ i ∷ more) (sym same)
    ∙ sym (append_assoc passed (e ∷ []) more)

pub some_and : (P : ℕ → Type 0) (o : Option ℕ) (n : ℕ) → IsSomeAnd o P → o ≡ Some n → P n
some_and P o n has is = subst (λ x. IsSomeAnd x P) is has

pub stepped : (items passed left : List Item) (cursor : Cursor) (entry : Entry) (end : ℕ) → items ≡ passed ++ left
    → (n : NextOwn cursor left) → item entry ≡ n.own → end ≡ packed_size (n.before ++ n.own ∷ [])
    → IsCursorOf items (record {
      begun = cursor.begun;
      entry = entry;
      leaf = cursor.leaf;
      used = cursor.used;
      end = end;
    }) (passed ++ item entry ∷ [])
stepped items passed left cursor entry end parts n same at =
    let whole = append_assoc n.before (n.own ∷ []) n.behind in
    record {
      left = n.behind ++ n.later;
      parts = one_more items passed left (n.behind ++ n.later) n.own (item entry) parts n.left_is same;
      last = subst (λ b. EndsWith b (passed ++ item entry ∷ []) (item entry)) (sym n.begun) (passed, refl);
      ahead = λ low. record {
        begun = n.begun;
        before = n.before ++ n.own ∷ [];
        behind = n.behind;
        later = n.later;
        packed = subst (IsPackedBlock cursor.leaf.items 0) (sym whole) n.packed;
        used_is = n.used_is ∙ ap packed_size (sym whole);
        end_is = sym at;
        begins = next_shared entry.key.items (n.before ++ n.own ∷ []) n.behind
            (key_behind-append [] n.before (n.own ∷ []) ∙ sym (ap (λ (i : Item). i.key) same));
        left_is = refl;
      };
    }

-- ---- to the next leaf

abbrev AllMost : List ℕ → List Item → Type 0
AllMost key items = AllByRecursion (λ (e : Item). AtMost e.key key) items

abbrev AllAbove : List ℕ → List Item → Type 0
AllAbove key items = AllByRecursion (λ (e : Item). Below key e.key) items

not_both : (key other : List ℕ) → AtMost other key → Below key other → ⊥
not_both key other most above = not_itself key (below_most key other key above most)

none_left : (key : List ℕ) (items : List Item) → AllMost key items → AllAbove key items → items ≡ []
none_left key [] most above = refl
none_left key (e ∷ items) most above = absurd (not_both key e.key most.0 above.0)

-- Items that rise are parted in one way at a key.
split_once : (key : List ℕ) (before passed : List Item) (e : Item) (behind left : List Item)
    → before ++ e ∷ behind ≡ passed ++ left → AllMost key before → Below key e.key → AllMost key passed
    → AllAbove key left → left ≡ e ∷ behind
split_once key [] [] e behind left same most own passed above = sym same
split_once key [] (p ∷ passed) e behind left same most own all above =
    let first : e ≡ p = cc in
    absurd (not_both key p.key all.0 (subst (λ (i : Item). Below key i.key) first own))
split_once key (x ∷ before) [] e behind left same most own passed above =
    absurd (not_both key x.key most.0 (subst (AllAbove key) (sym same) above).0)
split_once key (x ∷ before) (p ∷ passed) e behind left same most own all above =
    let rest : before ++ e ∷ behind ≡ passed ++ left = cc in
    split_once key before passed e behind left rest most.1 own all.1 above

module _ (items : List Item) (leaves : AreLeaves [] items) where
  -- the items around the last that was given
  record Around (passed left : List Item) (e : Item) : Type 0 where
    most : AllMost e.key passed
    above : AllAbove e.key left

  around : (passed left front : List Item) (e : Item) → items ≡ passed ++ left → passed ≡ front ++ e ∷ []
      → Around passed left e
  around passed left front e parts is =
      let whole : items ≡ front ++ e ∷ left =
      parts ∙ ap (λ xs. xs ++ left) is ∙ append_assoc front (e ∷ []) left in
      let own = subst (AreLeaves []) whole leaves in
      record {
        most = subst (AllMost e.key) (sym is)
            (all_both (λ (x : Item). AtMost x.key e.key) front (e ∷ [])
            (all_weaker (λ (x : Item). Below x.key e.key) (λ (x : Item). AtMost x.key e.key) front
            (λ x low. most_from x.key e.key (inl (below_less x.key e.key low))) (keys_below [] front e left own))
            (most_from e.key e.key (inr refl), tt));
        above = keys_above e.key left (leaves_right [] front (e ∷ left) own).1;
      }

  left_begins : (begun : Bool) (passed left : List Item) (e : Item) → items ≡ passed ++ left → EndsWith begun passed e
      → (took : LeafPlace → Item → Type 0) (t : IsFirstTaken items (behind_key begun e.key) took)
      → left ≡ t.e ∷ t.first.behind
  left_begins false passed left e parts none took t =
      let first = none_first t.first.before
      (recursion_from_All (λ (i : Item). IsBefore Unbounded i.key) t.first.before t.first.passed) in
      sym (parts ∙ ap (λ xs. xs ++ left) none) ∙ t.first.parts ∙ ap (λ xs. xs ++ t.e ∷ t.first.behind) first
  left_begins true passed left e parts (front, is) took t =
      let a = around passed left front e parts is in
      split_once e.key t.first.before passed t.e t.first.behind left (sym t.first.parts ∙ parts)
      (recursion_from_All (λ (i : Item). AtMost i.key e.key) t.first.before t.first.passed) t.first.from_there a.most
      a.above

  left_ends : (begun : Bool) (passed left : List Item) (e : Item) → items ≡ passed ++ left → EndsWith begun passed e
      → All (λ i. IsBefore (behind_key begun e.key) i.key) items → left ≡ []
  left_ends false passed left e parts none all =
      sym (parts ∙ ap (λ xs. xs ++ left) none)
      ∙ none_first items (recursion_from_All (λ (i : Item). IsBefore Unbounded i.key) items all)
  left_ends true passed left e parts (front, is) all =
      let a = around passed left front e parts is in
      let each = recursion_from_All (λ (i : Item). AtMost i.key e.key) items all in
      none_left e.key left
      (all_right (λ (i : Item). AtMost i.key e.key) passed left (subst (AllMost e.key) parts each)) a.above

-- what was taken from the next leaf
taken_on : (items passed left : List Item) (cursor : Cursor) (from : Bound (List ℕ)) → items ≡ passed ++ left
    → (t : IsFirstTaken items from (HasTaken cursor)) → left ≡ t.e ∷ t.first.behind
    → IsCursorOf items cursor (passed ++ item cursor.entry ∷ [])
taken_on items passed left cursor from parts t begins =
    let taken = t.taken in
    let leaf = t.leaf in
    let whole = append_assoc leaf.front (t.e ∷ []) leaf.back in
    record {
      left = t.first.behind;
      parts = one_more items passed left t.first.behind t.e (item cursor.entry) parts begins taken.entry;
      last = subst (λ b. EndsWith b (passed ++ item cursor.entry ∷ []) (item cursor.entry)) (sym taken.begun)
          (passed, refl);
      ahead = λ low. record {
        begun = taken.begun;
        before = leaf.front ++ t.e ∷ [];
        behind = leaf.back;
        later = leaf.later;
        packed = subst (IsPackedBlock cursor.leaf.items 0) (sym whole)
            (subst (λ bytes. IsPackedBlock bytes 0 (leaf.front ++ t.e ∷ leaf.back)) (sym taken.leaf) leaf.packed);
        used_is = taken.used ∙ leaf.used_is ∙ ap packed_size (sym whole);
        end_is = leaf.end_is ∙ sym taken.end;
        begins = next_shared cursor.entry.key.items (leaf.front ++ t.e ∷ []) leaf.back
            (key_behind-append [] leaf.front (t.e ∷ []) ∙ sym (ap (λ (i : Item). i.key) taken.entry));
        left_is = leaf.behind_is;
      };
    }

-- ---- the tree that is scanned

module _ (file : List ℕ) (exact : IsExact file) (v : Visit) (root : ℕ) (has : HasTreeFrom file v root None Unbounded)
    (cursor : Cursor) (passed : List Item) (is : IsCursorOf has.tree.items cursor passed) where
  abbrev last_key : List ℕ
  last_key = cursor.entry.key.items

  are_items : AreItems (fields_of file) v has.tree.items
  are_items =
      items_of_tree file exact.image (level_of (block_of file v.block)) v has.tree
      (tree_within file v has.tree exact.long has.sound) has.sound

  pub bound_within : (begun : Bool) (e : Item) → EndsWith begun passed e → IsBoundWithin v (behind_key begun e.key)
  bound_within false e none = tt
  bound_within true e (front, last) =
      let whole : has.tree.items ≡ front ++ e ∷ is.left =
      is.parts ∙ ap (λ xs. xs ++ is.left) last ∙ append_assoc front (e ∷ []) is.left in
      let lawful = (all_right (λ (x : Item). IsLawfulKey (fields_of file) v 0 x.key) front (e ∷ is.left)
      (subst (AllByRecursion (λ (x : Item). IsLawfulKey (fields_of file) v 0 x.key)) whole
      (keys_lawful (fields_of file) v [] has.tree.items are_items.leaves are_items.each))).0 in
      record {
        is_key = (leaves_right [] front (e ∷ is.left) (subst (AreLeaves []) whole are_items.leaves)).0.is_key;
        holds = record { above = lawful.above; below = lawful.below };
      }

  abbrev pub tree_behind : HasTreeFrom file v root None (behind_key cursor.begun last_key)
  tree_behind = record {
    block_is = has.block_is;
    level_is = has.level_is;
    tree = has.tree;
    sound = has.sound;
    within = bound_within cursor.begun (item cursor.entry) is.last;
  }

  pub goes : (new : Cursor) (found : Bool)
      → TakesFirst has.tree.items (behind_key cursor.begun last_key) (HasTaken new) found
      → CursorGoesTo has.tree.items passed new found
  goes new false none =
      is.parts
      ∙ ap (λ xs. passed ++ xs)
      (left_ends has.tree.items are_items.leaves cursor.begun passed is.left (item cursor.entry) is.parts is.last none)
      ∙ append-nil passed
  goes new true t =
      taken_on has.tree.items passed is.left new (behind_key cursor.begun last_key) is.parts t
      (left_begins has.tree.items are_items.leaves cursor.begun passed is.left (item cursor.entry) is.parts is.last
      (HasTaken new) t)

-- ---- where the image is told

module _ (told : Option (List ℕ)) (draft : DraftState) (root : ℕ) (is : ForSome told (λ image. IsDraftOf image draft))
    (cursor : Cursor) (from : Bound (List ℕ)) (same : from ≡ behind_key cursor.begun cursor.entry.key.items) where
  pub none_scanned : HasNone told draft root None from
      → ForSome told (λ image. (v : Visit) (has : HasTreeFrom (drafted draft image) v root None Unbounded)
      (passed : List Item) → IsCursorOf has.tree.items cursor passed → ⊥)
  none_scanned none image is_told v has passed scans =
      none image is_told v
      (subst (HasTreeFrom (drafted draft image) v root None) (sym same)
      (tree_behind (drafted draft image) (drafted_exact image draft (is image is_told)) v root has cursor passed scans))

  pub scan_answered : (new : Cursor) (r : Result Bool BaseError)
      → IfOk r (FirstThere told draft root None from (HasTaken new))
      → IfOk r (λ found. ForSome told (λ image. (v : Visit)
      (has : HasTreeFrom (drafted draft image) v root None Unbounded) (passed : List Item)
      → IsCursorOf has.tree.items cursor passed → CursorGoesTo has.tree.items passed new found))
  scan_answered new (Err error) finds = tt
  scan_answered new (Ok found) finds =
      λ image is_told v has passed scans.
      let file : List ℕ = drafted draft image in
      let exact = drafted_exact image draft (is image is_told) in
      goes file exact v root has cursor passed scans new found
      (subst (λ b. FirstThere told draft root None b (HasTaken new) found) same finds image is_told v
      (tree_behind file exact v root has cursor passed scans))
