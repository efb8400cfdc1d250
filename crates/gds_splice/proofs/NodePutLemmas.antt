-- One index block gets other entries.
use Rattle.std.proofs.Common.{◌≡◌, ◌+◌, ◌<◌, ◌≤◌, ℕ, suc, List, [], ◌∷◌, ◌++◌, length, Bool, true}
use Rattle.std.proofs.Common.{sym, ap, ◌∙◌, subst, arith}
use Rattle.std.proofs.lemmas.Bool.{false≢true}
use Rattle.std.proofs.lemmas.List.Elements.{All-cons, All-nil}
use Rattle.gds_block.specs.Item.{Item}
use Rattle.gds_file.specs.FileLaws.{IsLawful}
use Rattle.gds_file.specs.Rewrite.{AreAllBusy, Rewrites}
use Rattle.gds_file.proofs.RewriteLemmas.{rewrite_keeps_header}
use Rattle.gds_header.specs.Fields.{block_of, fields_of}
use Rattle.gds_header.specs.declared.header.Header.{Header}
use Rattle.gds_law.specs.Visit.{Visit}
use Rattle.gds_pack.specs.Entry.{items}
use Rattle.gds_pack.specs.Packable.{ArePackable}
use Rattle.gds_pack.specs.Packed.{block_bytes, packed_size}
use Rattle.gds_sound.specs.Sound.{Tree}
use Rattle.gds_split.specs.Pieces.{Piece, numbers_of, pieces_above}
use Rattle.gds_split.proofs.AboveLemmas.{above_count}
use Rattle.gds_split.proofs.RootLemmas.{raised_lawful}
use Rattle.gds_split.proofs.SizeLemmas.{few_entries}
use Rattle.gds_tree.specs.Lawful.{IsTreeNumber}
use Rattle.gds_ancestors.specs.Ancestors.{Ancestor, outer_blocks}
use Rattle.gds_ancestors.proofs.VisitLemmas.{number_of}
use Rattle.gds_splice.specs.Divided.{CannotRaise, Divides, MayPut, Raises}
use Rattle.gds_splice.specs.NodePut.{IsToPut, NodeGoesUp}
use Rattle.gds_splice.specs.Parted.{IsPackedAt, TreeBecomes, WritesPieces, items_around, part_blocks}
use Rattle.gds_splice.specs.Parting.{blocks_taken}
use Rattle.gds_splice.specs.Parts.{above_parts, pieces_of}
use Rattle.gds_splice.specs.Writing.{PutsEntries}
use Rattle.gds_splice.specs.declared.node.Node.{Node}
use Rattle.gds_splice.specs.declared.parts.Parts.{Parts}
use Rattle.gds_splice.proofs.CountedLemmas.{same_one}
use Rattle.gds_splice.proofs.DividedLemmas.{had_some}
use Rattle.gds_splice.proofs.ImageLemmas.{image_of}
use Rattle.gds_splice.proofs.OneUpLemmas.{divided_into, in_first, three_for_root}
use Rattle.gds_splice.proofs.PieceLemmas.{goes_into_pieces}
use Rattle.gds_splice.proofs.PutLemmas.{numbers_are, pieces_long}
use Rattle.gds_splice.proofs.RaisedLemmas.{raised_root_is_there, root_is_raised}
use Rattle.gds_splice.proofs.StaysLemmas.{block_is_there, stays_one}
use Rattle.gds_splice.proofs.TakenLemmas.{taken}

module _ (file : List ℕ) (root : Visit) (above : List Ancestor) (v : Visit) (level : ℕ) (below : Tree)
    (block : ℕ) (top : Bool) (node : Node) (p : IsToPut file root above v level below block top node) where
  abbrev es : List Item
  es = items node.entries.items

  -- It stays one block.
  pub stays : (after : List ℕ) → PutsEntries file after block node.level es
      → TreeBecomes file after root (part_blocks above v below) (items_around above below.items)
  stays after put =
      let rewrites : Rewrites file after (v.block ∷ []) =
      subst (λ n. Rewrites file after (n ∷ [])) (sym p.block_is) put.rewrites in
      let same = rewrite_keeps_header file after (v.block ∷ []) rewrites in
      let packed : IsPackedAt after v.block (suc level) es = record {
        tn = 0;
        bytes = ap (block_of after) p.block_is ∙ put.bytes
            ∙ ap (λ n. block_bytes es n 0 (fields_of after).block_size) p.level_is;
        fits = put.fits;
        past = omega (arith, had_some file p.may.maps, ap (λ (h : Header). h.tn) same);
        small = omega arith;
      } in
      stays_one file after root above v (suc level) es below p.may rewrites
      (block_is_there file after root above v (suc level) es below p.may rewrites packed)

  -- The block has a number of a tree.
  pub number : IsTreeNumber (fields_of file).total block
  number = subst (IsTreeNumber (fields_of file).total) p.block_is
      (number_of file root v above (suc level) p.may.is_root.number p.may.lead)

  -- It is busy.
  pub is_busy_one : AreAllBusy file (block ∷ [])
  is_busy_one n there =
      p.may.busy n (in_first v.block (below.blocks ++ outer_blocks above) n
      (same_one n block there ∙ sym p.block_is))

-- ---- a root

module _ (file : List ℕ) (root : Visit) (v : Visit) (level : ℕ) (below : Tree) (block : ℕ) (top : Bool)
    (node : Node) (p : IsToPut file root [] v level below block top node) where
  abbrev own_es : List Item
  own_es = items node.entries.items

  pub raised : (after : List ℕ) → Raises file after block (suc level) own_es → suc level < 7
      → TreeBecomes file after root (part_blocks [] v below) (items_around [] below.items)
  raised after r low =
      let d = r.divides in
      let own : List Piece = pieces_of d.lengths ([] ++ d.fresh) own_es in
      let into = divided_into file r.mid [] (suc level) own_es r.parts p.may.maps
      (All-nil (IsTreeNumber (fields_of file).total)) d in
      let writes : WritesPieces file r.mid (numbers_of own) (suc level) own =
      subst (λ ns. WritesPieces file r.mid ns (suc level) own)
      (sym (numbers_are d.lengths ([] ++ d.fresh) own_es d.count)) d.writes in
      let rewrites : Rewrites r.mid after (v.block ∷ []) =
      subst (λ n. Rewrites r.mid after (n ∷ [])) (sym p.block_is) r.put.rewrites in
      let t = taken file d.writes.mid d.fresh p.may.maps d.writes.taken in
      let same = rewrite_keeps_header r.mid after (v.block ∷ []) rewrites
      ∙ rewrite_keeps_header d.writes.mid r.mid (numbers_of own) d.writes.rewrites in
      let one_more : suc level + 1 ≡ suc (suc level) = omega arith in
      let entries : above_parts r.parts [] ≡ pieces_above (suc level) own [] = sym (d.told []) in
      let packed : IsPackedAt after v.block (suc (suc level)) (pieces_above (suc level) own []) = record {
        tn = 0;
        bytes = ap (block_of after) p.block_is ∙ r.put.bytes
            ∙ (λ i. block_bytes (entries i) (one_more i) 0 (fields_of after).block_size);
        fits = omega (arith, r.put.fits, ap packed_size entries);
        past = omega (arith, had_some d.writes.mid t.lawful, ap (λ (h : Header). h.tn) same);
        small = omega arith;
      } in
      root_is_raised file r.mid after root v level own_es below own p.may into writes rewrites
      (raised_root_is_there file r.mid after root v level own_es below own p.may into writes rewrites low packed)

  -- The root can lead to its pieces.
  leads_to_own : (mid : List ℕ) (own : Parts) → Divides file mid [] (suc level) own_es own
      → MayPut (fields_of file) (suc level + 1) (above_parts own [])
  leads_to_own mid own d =
      let h : Header = fields_of file in
      let limits = (image_of file p.may.maps).limits in
      let ps : List Piece = pieces_of d.lengths ([] ++ d.fresh) own_es in
      let into = divided_into file mid [] (suc level) own_es own p.may.maps (All-nil (IsTreeNumber h.total)) d in
      let lawful = raised_lawful h v (suc level) own_es ps limits p.may.lawful into in
      let few : length (pieces_above (suc level) ps []) ≤ 3 =
      omega (
        arith,
        above_count (suc level) ps [],
        pieces_long d.lengths ([] ++ d.fresh) own_es d.count,
        d.count,
        d.few,
      ) in
      let size = few_entries h v (suc level) (pieces_above (suc level) ps []) lawful.each few in
      let one_more : suc (suc level) ≡ suc level + 1 = omega arith in
      record {
        packable = subst (λ n. ArePackable n (above_parts own [])) one_more
            (subst (ArePackable (suc (suc level))) (d.told []) lawful.packable);
        fits = omega (arith, size, ap packed_size (d.told []), limits.keys_fit);
      }

  pub raise_refused : CannotRaise (suc level) own_es file → blocks_taken (suc level) [] ≤ (fields_of file).free → ⊥
  raise_refused cannot free =
      cannot p.may.maps p.three (three_for_root (suc level) (fields_of file).free free) leads_to_own

-- Where it is the root there are no others above.
pub put_at_root : (file : List ℕ) (root : Visit) (above : List Ancestor) (v : Visit) (level : ℕ) (below : Tree)
    (block : ℕ) (top : Bool) (node : Node) → IsToPut file root above v level below block top node → top ≡ true
    → (after : List ℕ) → Raises file after block node.level (items node.entries.items) → node.level < 7
    → TreeBecomes file after root (part_blocks above v below) (items_around above below.items)
put_at_root file root [] v level below block top node p is_top after r low =
    raised file root v level below block top node p after
    (subst (λ n. Raises file after block n (items node.entries.items)) p.level_is r) (omega (arith, low, p.level_is))
put_at_root file root (b ∷ above) v level below block top node p is_top after r low =
    absurd (false≢true (sym p.at_top ∙ is_top))

pub root_refused : (file : List ℕ) (root : Visit) (above : List Ancestor) (v : Visit) (level : ℕ) (below : Tree)
    (block : ℕ) (top : Bool) (node : Node) → IsToPut file root above v level below block top node → top ≡ true
    → CannotRaise node.level (items node.entries.items) file → blocks_taken (suc level) above ≤ (fields_of file).free
    → ⊥
root_refused file root [] v level below block top node p is_top cannot free =
    raise_refused file root v level below block top node p
    (subst (λ n. CannotRaise n (items node.entries.items) file) p.level_is cannot) free
root_refused file root (b ∷ above) v level below block top node p is_top cannot free =
    absurd (false≢true (sym p.at_top ∙ is_top))

-- ---- a block below others

pub node_goes_up : (file : List ℕ) (root : Visit) (b : Ancestor) (above : List Ancestor) (v : Visit) (level : ℕ)
    (below : Tree) (block : ℕ) (top : Bool) (node : Node) → IsToPut file root (b ∷ above) v level below block top node
    → (after : List ℕ) (own : Parts)
    → (IsLawful file → AreAllBusy file (block ∷ [])
    → Divides file after (block ∷ []) node.level (items node.entries.items) own)
    → (fields_of file).block_size < packed_size (items node.entries.items)
    → NodeGoesUp file after root b above v level below node own
node_goes_up file root b above v level below block top node p after own divides more =
    let es : List Item = items node.entries.items in
    let d : Divides file after (block ∷ []) (suc level) es own =
    subst (λ n. Divides file after (block ∷ []) n es own) p.level_is
    (divides p.may.maps (is_busy_one file root (b ∷ above) v level below block top node p)) in
    let numbers : List ℕ = (block ∷ []) ++ d.fresh in
    let ps : List Piece = pieces_of d.lengths numbers es in
    let into = divided_into file after (block ∷ []) (suc level) es own p.may.maps
    (All-cons (IsTreeNumber (fields_of file).total) block []
    (number file root (b ∷ above) v level below block top node p)
    (All-nil (IsTreeNumber (fields_of file).total))) d in
    record {
      own = ps;
      few = omega (arith, pieces_long d.lengths numbers es d.count, d.count, d.few);
      goes = goes_into_pieces file after root b above v (suc level) es below d.fresh ps p.may into
          (numbers_are d.lengths numbers es d.count ∙ ap (λ n. n ∷ d.fresh) (sym p.block_is)) d.writes;
      told = d.told b.entry.key;
      more = more;
    }
