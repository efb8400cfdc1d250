-- What stands below the entries that lead to pieces.
use Rattle.std.proofs.Common.{◌≡◌, ◌≢◌, ℕ, suc, ◌+◌, List, [], ◌∷◌, ◌++◌, Option, Some}
use Rattle.std.proofs.Common.{refl, sym, ap, subst, ◌∙◌, arith, append-nil}
use Rattle.std.specs.List.{AllByRecursion}
use Rattle.std.proofs.lemmas.List.Elements.{recursion_from_All}
use Rattle.gds_block.specs.Item.{Item}
use Rattle.gds_header.specs.Fields.{fields_of}
use Rattle.gds_law.specs.Visit.{Visit}
use Rattle.gds_pack.specs.Packable.{AreIndex}
use Rattle.gds_pack.specs.Packed.{key_behind}
use Rattle.gds_pack.proofs.SizeLemmas.{key_behind-append}
use Rattle.gds_sound.specs.Sound.{Tree, joined, sound_tree}
use Rattle.gds_sound.proofs.CountLemmas.{count, count_append}
use Rattle.gds_tree.specs.Below.{low_behind, visit_below, from_key, trees_below, leaf_tree, index_tree}
use Rattle.gds_tree.specs.Keeps.{IsImage}
use Rattle.gds_tree.specs.Lawful.{IsTreeNumber, IsLawful}
use Rattle.gds_tree.proofs.BelowLemmas.{AreBoth, both_parts, some_both, below_append, joined_none}
use Rattle.gds_tree.proofs.FineLemmas.{some_key}
use Rattle.gds_tree.proofs.RootLemmas.{same_below, high_key, front_below}
use Rattle.gds_tree.proofs.TreeByLemmas.{leaf_by, index_by}
use Rattle.gds_split.specs.Pieces.{Piece, GoInto, entries_in, numbers_of, starred, entry_to, key_above}
use Rattle.gds_split.specs.Pieces.{pieces_above, IsVisitBelow, HasPieces, HasPieceTrees}
use Rattle.gds_split.proofs.AboveLemmas.{leads, low_is}
use Rattle.gds_split.proofs.CountLemmas.{any_order}
use Rattle.gds_split.proofs.CutLemmas.{IsCut, last_of, starred_last, own_whole, cut}
use Rattle.gds_split.proofs.LawfulLemmas.{AreSome, more_behind, below_left}

-- the bound behind some entries is the key of the last of them
low_run : (low : Option (List ℕ)) (es : List Item) → (es ≡ [] → ⊥) → low_behind low es ≡ Some (key_behind [] es)
low_run low [] some = absurd (some refl)
low_run low (e ∷ es) some = low_is e.key es

-- ---- the trees of one image

abbrev none : Tree
none = record { blocks = []; items = [] }

module _ (image : List ℕ) (i : IsImage image) (v : Visit) where
  abbrev AreNumbered : List Piece → Type 0
  AreNumbered pieces = AllByRecursion (λ (p : Piece). IsTreeNumber (fields_of image).total p.number) pieces

  -- ---- at level 0

  leaf_trees : (low : Option (List ℕ)) (pieces : List Piece) (key : List ℕ) → AreNumbered pieces
      → HasPieces image v 0 low pieces key
      → trees_below image v 0 low (pieces_above 0 pieces key)
      ≡ Some (record { blocks = numbers_of pieces; items = entries_in pieces })
  leaf_trees low [] key numbered has = refl
  leaf_trees low (p ∷ pieces) key numbered has =
      let k : List ℕ = key_above 0 p pieces key in
      let c : Visit = visit_below v 0 low (entry_to p.number k) in
      let rest : Tree = record { blocks = numbers_of pieces; items = entries_in pieces } in
      some_both (sound_tree image 0 c) (trees_below image v 0 (Some k) (pieces_above 0 pieces key))
      (leaf_tree c p.entries) rest (leaf_by image c p.entries i has.0)
      (leaf_trees (Some k) pieces key numbered.1 has.1)
      ∙ ap (λ n. Some (record { blocks = n ∷ numbers_of pieces; items = p.entries ++ entries_in pieces }))
      (leads (fields_of image) p.number i.limits numbered.0)

  pub leaves : (low : Option (List ℕ)) (es : List Item) (pieces : List Piece) (key : List ℕ)
      → GoInto (fields_of image).total es pieces → HasPieces image v 0 low pieces key
      → trees_below image v 0 low (pieces_above 0 pieces key)
      ≡ Some (record { blocks = numbers_of pieces; items = es })
  leaves low es pieces key g has =
      leaf_trees low pieces key
      (recursion_from_All (λ (p : Piece). IsTreeNumber (fields_of image).total p.number) pieces g.numbered) has
      ∙ ap (λ items. Some (record { blocks = numbers_of pieces; items = items })) g.whole

  -- ---- above it

  module _ (level : ℕ) where
    record Trees (low : Option (List ℕ)) (pieces : List Piece) (key : List ℕ) (below : Tree) : Type 0 where
      tree : Tree
      sound : trees_below image v (suc level) low (pieces_above (suc level) pieces key) ≡ Some tree
      items : tree.items ≡ below.items
      blocks : (n : ℕ) → count n tree.blocks ≡ count n (numbers_of pieces) + count n below.blocks

    -- what stands below the entries of a piece, in its own block
    own_front : (w c : Visit) (low : Option (List ℕ)) (a : List Item) (m : Item) → c.role ≡ w.role
        → c.high ≡ Some (key_behind [] (a ++ m ∷ [])) → (key_behind [] (a ++ m ∷ []) ≡ [] → ⊥)
        → AreIndex [] (starred (a ++ m ∷ []))
        → trees_below image c level low (starred (a ++ m ∷ [])) ≡ trees_below image w level low (a ++ m ∷ [])
    own_front w c low a m role high keyed index =
        let key : key_behind [] (a ++ m ∷ []) ≡ m.key = key_behind-append [] a (m ∷ []) in
        ap (trees_below image c level low) (starred_last a m)
        ∙ front_below image w c level [] low a m role (high ∙ ap (λ k. Some k) key) (λ empty. keyed (key ∙ empty))
        (subst (AreIndex []) (starred_last a m) index)

    own_below : (w c : Visit) (low : Option (List ℕ)) (run : List Item) → (run ≡ [] → ⊥) → c.role ≡ w.role
        → c.high ≡ Some (key_behind [] run) → (key_behind [] run ≡ [] → ⊥) → AreIndex [] (starred run)
        → trees_below image c level low (starred run) ≡ trees_below image w level low run
    own_below w c low run some role =
        let x = last_of run some in
        subst (λ r. c.high ≡ Some (key_behind [] r) → (key_behind [] r ≡ [] → ⊥) → AreIndex [] (starred r)
        → trees_below image c level low (starred r) ≡ trees_below image w level low r) x.whole
        (own_front w c low x.front x.last role)

    one_tree : (w : Visit) (low : Option (List ℕ)) (p : Piece) (key : List ℕ) (below : Tree)
        → IsVisitBelow v low key w → IsTreeNumber (fields_of image).total p.number → AreIndex [] p.entries
        → trees_below image w level w.low p.entries ≡ Some below
        → HasPieces image v (suc level) low (p ∷ []) key → Trees low (p ∷ []) key below
    one_tree w low p key below at number index h has =
        let c : Visit = visit_below v (suc level) low (entry_to p.number key) in
        let own : trees_below image c level low (starred p.entries) ≡ Some below =
        ap (trees_below image c level low) (own_whole (suc level) p.entries index)
        ∙ same_below image c w level low p.entries (sym at.same_role) (sym at.upper)
        ∙ ap (λ l. trees_below image w level l p.entries) (sym at.lower) ∙ h in
        let here = index_by image c level (starred p.entries) below i has.0 own in
        record {
          tree = index_tree c below;
          sound = some_both (sound_tree image (suc level) c) (Some none) (index_tree c below) none here refl
              ∙ ap (λ t. Some t) (joined_none (index_tree c below));
          items = refl;
          blocks = λ n. omega (arith, ap (λ m. count n (m ∷ [])) (leads (fields_of image) p.number i.limits number));
        }

    more_trees : (w : Visit) (low : Option (List ℕ)) (p q : Piece) (pieces : List Piece) (key : List ℕ)
        (below : Tree) → IsVisitBelow v low key w → IsTreeNumber (fields_of image).total p.number
        → (p.entries ≡ [] → ⊥) → IsCut (fields_of image) w (suc level) p.entries (entries_in (q ∷ pieces))
        → (x : AreBoth (trees_below image w level w.low p.entries)
        (trees_below image w level (low_behind w.low p.entries) (entries_in (q ∷ pieces))) below)
        → HasPieces image v (suc level) low (p ∷ q ∷ pieces) key
        → Trees (Some (key_behind [] p.entries)) (q ∷ pieces) key x.second → Trees low (p ∷ q ∷ pieces) key below
    more_trees w low p q pieces key below at number some c x has rest =
        let k : List ℕ = key_behind [] p.entries in
        let d : Visit = visit_below v (suc level) low (entry_to p.number k) in
        let keyed = some_key k c.is_key in
        let own : trees_below image d level low (starred p.entries) ≡ Some x.first =
        own_below w d low p.entries some (sym at.same_role) (high_key v.high k keyed) keyed c.front.packable
        ∙ ap (λ l. trees_below image w level l p.entries) (sym at.lower) ∙ x.here in
        let here = index_by image d level (starred p.entries) x.first i has.0 own in
        record {
          tree = joined (index_tree d x.first) rest.tree;
          sound = some_both (sound_tree image (suc level) d)
              (trees_below image v (suc level) (Some k) (pieces_above (suc level) (q ∷ pieces) key))
              (index_tree d x.first) rest.tree here rest.sound;
          items = ap (λ xs. x.first.items ++ xs) rest.items ∙ sym (ap (λ (t : Tree). t.items) x.is);
          blocks = λ n. omega (
            arith,
            count_append n (d.block ∷ x.first.blocks) rest.tree.blocks,
            ap (λ (t : Tree). count n t.blocks) x.is,
            count_append n x.first.blocks x.second.blocks,
            rest.blocks n,
            ap (λ m. count n (m ∷ [])) (leads (fields_of image) p.number i.limits number),
          );
        }

    trees : (w : Visit) (low : Option (List ℕ)) (pieces : List Piece) (key : List ℕ) (below : Tree) → pieces ≢ []
        → IsVisitBelow v low key w → AreSome pieces → AreNumbered pieces
        → IsLawful (fields_of image) w (suc level) (entries_in pieces)
        → trees_below image w level w.low (entries_in pieces) ≡ Some below
        → HasPieces image v (suc level) low pieces key → Trees low pieces key below
    trees w low [] key below any at some numbered l h has = absurd (any refl)
    trees w low (p ∷ []) key below any at some numbered l h has =
        let same : p.entries ++ [] ≡ p.entries = append-nil p.entries in
        one_tree w low p key below at numbered.0 (subst (AreIndex []) same l.packable)
        (ap (trees_below image w level w.low) (sym same) ∙ h) has
    trees w low (p ∷ q ∷ pieces) key below any at some numbered l h has =
        let behind : List Item = entries_in (q ∷ pieces) in
        let k : List ℕ = key_behind [] p.entries in
        let c = cut (fields_of image) w (suc level) p.entries behind l some.0 (more_behind q pieces some.1) in
        let x = both_parts (trees_below image w level w.low p.entries)
        (trees_below image w level (low_behind w.low p.entries) behind) below
        (sym (below_append image w level w.low p.entries behind) ∙ h) in
        let later : trees_below image (from_key w k) level (Some k) behind ≡ Some x.second =
        same_below image (from_key w k) w level (Some k) behind refl refl
        ∙ ap (λ l. trees_below image w level l behind) (sym (low_run w.low p.entries some.0)) ∙ x.later in
        more_trees w low p q pieces key below at numbered.0 some.0 c x has
        (trees (from_key w k) (Some k) (q ∷ pieces) key x.second (λ none. absurd (cc))
        (below_left v w low key k at) some.1 numbered.1 c.back later has.1)

    pub over : (w : Visit) (low : Option (List ℕ)) (es : List Item) (pieces : List Piece) (key : List ℕ)
        (below : Tree) → IsVisitBelow v low key w → IsLawful (fields_of image) w (suc level) es
        → GoInto (fields_of image).total es pieces → trees_below image w level w.low es ≡ Some below
        → HasPieces image v (suc level) low pieces key → HasPieceTrees image v (suc level) low pieces key below
    over w low es pieces key below at l g h has =
        let t = trees w low pieces key below g.any at
        (recursion_from_All (λ (p : Piece). p.entries ≡ [] → ⊥) pieces g.some)
        (recursion_from_All (λ (p : Piece). IsTreeNumber (fields_of image).total p.number) pieces g.numbered)
        (subst (IsLawful (fields_of image) w (suc level)) (sym g.whole) l)
        (ap (trees_below image w level w.low) g.whole ∙ h) has in
        record {
          tree = t.tree;
          sound = t.sound;
          items = t.items;
          blocks = any_order t.tree.blocks (numbers_of pieces ++ below.blocks)
              (λ n. t.blocks n ∙ sym (count_append n (numbers_of pieces) below.blocks));
        }
