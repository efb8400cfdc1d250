-- A leaf that is read, with an item set among its entries.
use Rattle.std.proofs.Common.{◌≡◌, ◌<◌, ℕ, Bool, true, false, List, ◌++◌, Option, Some, sym, ap, subst, ◌∙◌, arith}
use Rattle.std.specs.Prelude.{◌↔◌, IsTrue}
use Rattle.std.specs.Option.{ForSome}
use Rattle.std.proofs.lemmas.Bool.{both_ways}
use Rattle.gds_block.specs.Block.{IsBlock, level_of}
use Rattle.gds_block.specs.Item.{Item}
use Rattle.gds_draft.specs.Draft.{DraftState}
use Rattle.gds_draft.specs.Drafted.{drafted}
use Rattle.gds_draft.specs.Laws.{IsDraftOf}
use Rattle.gds_find.specs.declared.trail.Step.{Step}
use Rattle.gds_header.specs.declared.header.Header.{Header}
use Rattle.gds_header.specs.Fields.{block_of}
use Rattle.gds_law.specs.Visit.{Visit}
use Rattle.gds_pack.specs.declared.entry.Entry.{Entry}
use Rattle.gds_pack.specs.Entry.{items}
use Rattle.gds_pack.specs.Packable.{ArePackable}
use Rattle.gds_pack.specs.Packed.{packed_size}
use Rattle.gds_pack.specs.Unpacked.{entries_of}
use Rattle.gds_tree.proofs.ImageLemmas.{block_long}
use Rattle.gds_tree.proofs.RootLemmas.{same_entries}
use Rattle.gds_splice.specs.Writing.{CannotRead, IsNodeAt}
use Rattle.gds_splice.specs.declared.node.Node.{Node}
use Rattle.gds_splice.proofs.EntriesPutLemmas.{drafted_fields}
use Rattle.gds_insert.specs.Leaf.{with_item}
use Rattle.gds_insert.specs.Node.{CannotHave, HasItemAt, IsPlaceAt}

module _ (file : List ℕ) (step : Step) (leaf : Visit) (front back : List Item)
    (p : IsPlaceAt file step leaf front back) where
  readable : IsBlock (block_of file step.block)
  readable =
      let long = block_long file leaf.block p.image p.has.there in
      let head = p.has.right.head in
      subst (λ n. IsBlock (block_of file n)) p.block (record {
        head = omega (arith, long, p.image.limits.block_from);
        covered = omega (arith, head.used);
        within = omega (arith, head.used, head.fits, long);
      })

  found : entries_of (block_of file step.block) ≡ Some (front ++ back)
  found = ap (λ n. entries_of (block_of file n)) (sym p.block) ∙ p.has.right.found

  -- the entries of a node that was read, of which some are others now
  has_item : (equal : Bool) (item : Item) (node : Node) (new : List Entry) → IsNodeAt file step.block node
      → ((a b : List Item) → items node.entries.items ≡ a ++ b → packed_size a ≡ step.offset
      → items new ≡ with_item equal a b item)
      → (node.level ≡ 0) × (items new ≡ with_item equal front back item)
  has_item equal item node new is sets = (
    sym is.level ∙ ap (λ n. level_of (block_of file n)) (sym p.block) ∙ p.has.level,
    sets front back (same_entries (items node.entries.items) (front ++ back) (entries_of (block_of file step.block))
        is.entries found) p.place,
  )

module _ (told : Option (List ℕ)) (draft : DraftState) (step : Step) (equal : Bool) (item : Item) where
  pub cannot_have_read : ForSome told (λ image. IsDraftOf image draft)
      → ForSome told (λ image. step.block < draft.header.total → CannotRead (drafted draft image) step.block)
      → ForSome told (λ image. CannotHave step equal item (drafted draft image))
  cannot_have_read is_draft none image is leaf front back p packable =
      let fields = drafted_fields image draft (is_draft image is) in
      let within = subst (λ (h : Header). leaf.block < h.total) fields p.has.there in
      none image is (subst (λ n. n < draft.header.total) p.block within) (front ++ back)
      (readable (drafted draft image) step leaf front back p) (found (drafted draft image) step leaf front back p)

  module _ (node : Node) (new : List Entry)
      (is_node : ForSome told (λ image. IsNodeAt (drafted draft image) step.block node))
      (sets : (a b : List Item) → items node.entries.items ≡ a ++ b → packed_size a ≡ step.offset
      → items new ≡ with_item equal a b item) where
    pub has_item_at : (now : Node) → now.level ≡ node.level → items now.entries.items ≡ items new
        → ForSome told (λ image. HasItemAt step equal item now (drafted draft image))
    has_item_at now same_level same image is leaf front back p =
        let h = has_item (drafted draft image) step leaf front back p equal item node new (is_node image is) sets in
        record { level_is = same_level ∙ h.0; entries_are = same ∙ h.1 }

    pub cannot_have_others : (answer : Bool) → IsTrue answer ↔ ArePackable node.level (items new) → answer ≡ false
        → ForSome told (λ image. CannotHave step equal item (drafted draft image))
    cannot_have_others answer tells no_answer image is leaf front back p packable =
        let h = has_item (drafted draft image) step leaf front back p equal item node new (is_node image is) sets in
        let can : answer ≡ true =
        tells.1 (subst (λ n. ArePackable n (items new)) (sym h.0) (subst (ArePackable 0) (sym h.1) packable)) in
        absurd (both_ways answer no_answer can)
