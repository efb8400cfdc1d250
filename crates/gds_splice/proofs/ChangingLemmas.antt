-- Entries of an index block that go, and others in their place.
use Rattle.std.proofs.Common.{◌≡◌, ◌<◌, ◌≤◌, ◌+◌, ℕ, suc, List, [], ◌∷◌, ◌++◌, length, take, drop, Some, refl}
use Rattle.std.proofs.Common.{sym, ap, ◌∙◌, subst, arith, append_assoc, length-append}
use Rattle.std.proofs.lemmas.List.{drop-map, length-map, map-append, take-map}
use Rattle.std.proofs.Math.Seq.{drop-append_seam, take-append_seam}
use Rattle.gds_block.specs.Block.{IsBlock, level_of}
use Rattle.gds_block.specs.Item.{Item}
use Rattle.gds_header.specs.Fields.{block_of, fields_of}
use Rattle.gds_pack.specs.Entry.{item, items}
use Rattle.gds_pack.specs.Packable.{ArePackable}
use Rattle.gds_pack.specs.Packed.{packed_size}
use Rattle.gds_pack.specs.Unpacked.{entries_of}
use Rattle.gds_pack.specs.declared.entry.Entry.{Entry}
use Rattle.gds_split.specs.Pieces.{starred}
use Rattle.gds_split.proofs.CutLemmas.{starred_last}
use Rattle.gds_tree.specs.Below.{as_star}
use Rattle.gds_splice.specs.SplicedNode.{AreGone, CannotSpliceAt}
use Rattle.gds_splice.specs.Writing.{CannotRead, IsNodeAt}
use Rattle.gds_splice.specs.declared.node.Node.{Node}
use Rattle.gds_find.specs.declared.trail.Step.{Step}
use Rattle.gds_splice.proofs.RunLemmas.{place_is}
use Rattle.gds_splice.proofs.ToldLemmas.{is_block_at}

-- ---- the star

pub star_put : (old rest new : List Entry) (last x : Entry) → old ≡ rest ++ last ∷ [] → new ≡ rest ++ x ∷ []
    → item x ≡ as_star (item last) → items new ≡ starred (items old)
star_put old rest new last x is is' same =
    ap items is' ∙ map-append item rest (x ∷ []) ∙ (λ k. items rest ++ same k ∷ [])
    ∙ sym (ap (λ xs. starred (items xs)) is ∙ ap starred (map-append item rest (last ∷ []))
    ∙ starred_last (items rest) (item last))

-- ---- the place

-- No entry has a record at the offset.
pub no_place : (es : List Item) (offset taken : ℕ)
    → ((front : List Item) (e : Item) (back : List Item) → es ≡ front ++ e ∷ back → packed_size front ≡ offset → ⊥)
    → (front gone back : List Item) → es ≡ front ++ gone ++ back → AreGone offset taken front gone → ⊥
no_place es offset taken none front [] back is g = g.some refl
no_place es offset taken none front (e ∷ gone) back is g =
    none front e (gone ++ back) (is ∙ append_assoc front (e ∷ gone) back) g.place

module _ (list : List Entry) (place taken offset : ℕ) (low : place < length list)
    (size : packed_size (items (take place list)) ≡ offset) where
  long : (front gone back : List Item) → items list ≡ front ++ gone ++ back → AreGone offset taken front gone
      → length front ≡ place
  long front [] back is g = absurd (g.some refl)
  long front (e ∷ gone) back is g =
      place_is (items list) front (gone ++ back) e place offset (is ∙ append_assoc front (e ∷ gone) back) g.place
      (omega (arith, length-map list item)) (ap packed_size (take-map item place list) ∙ size)

  pub enough : (front gone back : List Item) → items list ≡ front ++ gone ++ back → AreGone offset taken front gone
      → place + taken ≤ length list
  enough front gone back is g =
      omega (
        arith,
        long front gone back is g,
        g.count,
        length-map list item,
        ap length is,
        length-append (front ++ gone) back,
        length-append front gone,
      )

  pub spliced_is : (put : List Item) (new : List Entry)
      → items new ≡ starred (items (take place list) ++ put ++ items (drop (place + taken) list))
      → (front gone back : List Item) → items list ≡ front ++ gone ++ back → AreGone offset taken front gone
      → items new ≡ starred (front ++ put ++ back)
  spliced_is put new now front gone back is g =
      let at = long front gone back is g in
      let both : length (front ++ gone) ≡ place + taken =
      omega (arith, length-append front gone, at, g.count) in
      let first : items (take place list) ≡ front =
      sym (take-map item place list) ∙ ap (take place) (is ∙ append_assoc front gone back)
      ∙ ap (λ n. take n (front ++ (gone ++ back))) (sym at) ∙ take-append_seam front (gone ++ back) in
      let last : items (drop (place + taken) list) ≡ back =
      sym (drop-map item (place + taken) list) ∙ ap (drop (place + taken)) is
      ∙ ap (λ n. drop n (front ++ gone ++ back)) (sym both) ∙ drop-append_seam (front ++ gone) back in
      now ∙ (λ k. starred (first k ++ put ++ last k))

-- ---- the block that is read

pub can_read_span : (file : List ℕ) (step : Step) (taken : ℕ) (put : List Item)
    → (step.block < (fields_of file).total → CannotRead file step.block) → CannotSpliceAt step taken put file
can_read_span file step taken put cannot v level front gone back to packable =
    cannot (subst (λ n. n < (fields_of file).total) to.block to.has.there) (front ++ gone ++ back)
    (subst (λ n. IsBlock (block_of file n)) to.block
    (is_block_at file v (suc level) (front ++ gone ++ back) to.image to.has))
    (ap (λ n. entries_of (block_of file n)) (sym to.block) ∙ to.has.right.found)

pub cannot_splice : (file : List ℕ) (step : Step) (taken : ℕ) (put : List Item) (node : Node)
    → IsNodeAt file step.block node
    → ((front gone back : List Item) → items node.entries.items ≡ front ++ gone ++ back
    → AreGone step.offset taken front gone → 0 < node.level
    → ArePackable node.level (starred (front ++ put ++ back)) → ⊥)
    → CannotSpliceAt step taken put file
cannot_splice file step taken put node at none v level front gone back to packable =
    let level_is : node.level ≡ suc level =
    sym at.level ∙ ap (λ n. level_of (block_of file n)) (sym to.block) ∙ to.has.level in
    let found : Some (items node.entries.items) ≡ Some (front ++ gone ++ back) =
    sym at.entries ∙ ap (λ n. entries_of (block_of file n)) (sym to.block) ∙ to.has.right.found in
    let same : items node.entries.items ≡ front ++ gone ++ back = cc in
    none front gone back same to.gone_are (omega (arith, level_is))
    (subst (λ n. ArePackable n (starred (front ++ put ++ back))) (sym level_is) packable)
