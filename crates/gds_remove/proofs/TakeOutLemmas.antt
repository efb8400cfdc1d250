-- An entry of an index block that is taken out.
use Rattle.std.proofs.Common.{◌≡◌, ◌≢◌, ◌+◌, ◌<◌, ℕ, Bool, false, List, [], ◌∷◌, ◌++◌, length, take, drop, sym, ap, ◌∙◌}
use Rattle.std.proofs.Common.{subst, arith, append_assoc}
use Rattle.std.specs.Prelude.{IsTrue}
use Rattle.std.proofs.lemmas.Bool.{false≢true}
use Rattle.std.specs.List.{drop-map, take-map}
use Rattle.std.proofs.Math.Seq.{drop-append_seam, take-append_seam}
use Rattle.std.proofs.lemmas.List.{length-append, length-map, map-append}
use Rattle.gds_block.specs.Item.{Item}
use Rattle.gds_header.specs.Fields.{fields_of}
use Rattle.gds_header.specs.declared.header.Header.{Header}
use Rattle.gds_pack.specs.Entry.{item, items}
use Rattle.gds_pack.specs.Packable.{ArePackable}
use Rattle.gds_pack.specs.Packed.{packed_size}
use Rattle.gds_pack.specs.declared.entry.Entry.{Entry}
use Rattle.gds_split.specs.Pieces.{starred}
use Rattle.gds_splice.proofs.RunLemmas.{place_is}
use Rattle.gds_remove.specs.Block.{AreEntriesAt, HasNoEntries}
use Rattle.gds_remove.specs.Child.{CannotPutKept, PutsKept}
use Rattle.gds_remove.specs.Sole.{CannotTakeOut, TakesOut}

-- ---- in a list

drop_one : (a : List Item) (e : Item) (b : List Item) → drop (length a + 1) (a ++ e ∷ b) ≡ b
drop_one a e b =
    ap (λ n. drop n (a ++ e ∷ b)) (sym (length-append a (e ∷ [])))
    ∙ ap (drop (length (a ++ e ∷ []))) (sym (append_assoc a (e ∷ []) b))
    ∙ drop-append_seam (a ++ e ∷ []) b

pub removed : (xs : List Entry) (at offset : ℕ) (front : List Item) (e : Item) (back : List Item)
    → at < length xs → packed_size (items (take at xs)) ≡ offset → items xs ≡ front ++ e ∷ back
    → packed_size front ≡ offset → items (take at xs ++ drop (at + 1) xs) ≡ front ++ back
removed xs at offset front e back low size is here =
    let long : length front ≡ at = place_is (items xs) front back e at offset is here
    (omega (arith, low, length-map xs item)) (ap packed_size (take-map item at xs) ∙ size) in
    map-append item (take at xs) (drop (at + 1) xs)
    ∙ (λ i. (sym (take-map item at xs) ∙ ap (take at) is ∙ ap (λ n. take n (front ++ e ∷ back)) (sym long)
    ∙ take-append_seam front (e ∷ back)) i
    ++ (sym (drop-map item (at + 1) xs) ∙ ap (drop (at + 1)) is
    ∙ ap (λ n. drop (n + 1) (front ++ e ∷ back)) (sym long) ∙ drop_one front e back) i)

-- ---- in a file

-- what is removed from entries at an offset
abbrev pub IsRemoved : List Item → List Item → ℕ → Bool → Type 0
IsRemoved old new offset there =
    (front : List Item) (e : Item) (back : List Item) → old ≡ front ++ e ∷ back → packed_size front ≡ offset
    → IsTrue there × (new ≡ front ++ back)

module _ (file : List ℕ) (n level offset : ℕ) where
  pub nothing_read : HasNoEntries n level file → CannotTakeOut n level offset file
  nothing_read cannot v front e back same i has at may = cannot v (front ++ e ∷ back) same i has

  module _ (es kept : List Item) (are : AreEntriesAt n level es file) (there : Bool)
      (gone : IsRemoved es kept offset there) where
    pub none_there : there ≡ false → CannotTakeOut n level offset file
    none_there none v front e back same i has at may =
        false≢true (sym none ∙ (gone front e back (are v (front ++ e ∷ back) same i has) at).0)

    pub takes_out : (after : List ℕ) (count : ℕ) (empty : Bool) → count ≡ length es
        → PutsKept n level count kept empty file after → TakesOut n level offset empty file after
    takes_out after count empty counted put v front e back same i has at =
        let whole = are v (front ++ e ∷ back) same i has in
        subst (λ k. PutsKept n level k (front ++ back) empty file after) (counted ∙ ap length whole)
        (subst (λ xs. PutsKept n level count xs empty file after) (gone front e back whole at).1 put)

    pub cannot_put_out : (h : Header) (count : ℕ) → (fields_of file).block_size ≡ h.block_size
        → CannotPutKept h level count kept → CannotTakeOut n level offset file
    cannot_put_out h count size cannot v front e back same i has at may =
        let left = (gone front e back (are v (front ++ e ∷ back) same i has) at).1 in
        let put = may (subst (λ xs. xs ≢ []) left cannot.some) in
        cannot.cannot (record {
          packable = subst (λ xs. ArePackable level (starred xs)) (sym left) put.packable;
          fits = omega (arith, put.fits, size, ap (λ xs. packed_size (starred xs)) left);
        })
