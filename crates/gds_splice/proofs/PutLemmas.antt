-- Pieces that are written one after another, and the parts that say which they are.
use Rattle.std.proofs.Common.{◌≡◌, ◌<◌, ◌+◌, ◌-◌, ℕ, List, [], ◌∷◌, ◌++◌, length, take, drop, get_or, refl, sym, ap}
use Rattle.std.specs.Prelude.{map}
use Rattle.std.proofs.Common.{◌∙◌, append-nil, arith, subst, false}
use Rattle.std.specs.Prelude.{nat_eq}
use Rattle.std.specs.List.{AllByRecursion, IsDistinct}
use Rattle.std.proofs.lemmas.Bool.{or_from}
use Rattle.std.proofs.lemmas.List.{length-map, take-append-drop}
use Rattle.std.proofs.lemmas.List.Elements.{All-cons, All-head, All-nil}
use Rattle.std.proofs.lemmas.Map.Keys.{IsDistinct-head, IsDistinct-tail}
use Rattle.gds_block.specs.Item.{Item}
use Rattle.gds_file.specs.Maps.{has_block}
use Rattle.gds_file.proofs.RewriteLemmas.{rewrite_keeps_header, rewrites_compose}
use Rattle.gds_header.specs.Fields.{block_of, fields_of}
use Rattle.gds_header.specs.declared.header.Header.{Header}
use Rattle.gds_pack.specs.Packable.{ArePackable}
use Rattle.gds_pack.specs.Packed.{block_bytes}
use Rattle.gds_split.specs.Pieces.{IsWritten, Piece, entries_in, entry_to, key_above, numbers_of, own_entries}
use Rattle.gds_split.specs.Pieces.{parting_key}
use Rattle.gds_split.specs.Pieces.{pieces_above}
use Rattle.gds_split.proofs.CutLemmas.{own_whole}
use Rattle.gds_splice.specs.Parts.{above_parts, part_entry, pieces_of}
use Rattle.gds_splice.specs.declared.parts.Part.{Part}
use Rattle.gds_splice.specs.declared.parts.Parts.{Parts}
use Rattle.gds_splice.specs.Writing.{PutsEntries, PutsPieces}
use Rattle.gds_splice.proofs.CuttingLemmas.{other_numbers}

-- ---- pieces by lengths and numbers

pub numbers_are : (lengths numbers : List ℕ) (es : List Item) → length numbers ≡ length lengths + 1
    → numbers_of (pieces_of lengths numbers es) ≡ numbers
numbers_are lengths [] es count = refl
numbers_are [] (n ∷ []) es count = refl
numbers_are [] (n ∷ m ∷ numbers) es count = absurd (omega arith)
numbers_are (k ∷ lengths) (n ∷ numbers) es count =
    ap (λ ns. n ∷ ns) (numbers_are lengths numbers (drop k es) (omega arith))

pub entries_are : (lengths numbers : List ℕ) (es : List Item) → length numbers ≡ length lengths + 1
    → entries_in (pieces_of lengths numbers es) ≡ es
entries_are lengths [] es count = absurd (omega arith)
entries_are [] (n ∷ []) es count = append-nil es
entries_are [] (n ∷ m ∷ numbers) es count = absurd (omega arith)
entries_are (k ∷ lengths) (n ∷ numbers) es count =
    ap (λ xs. take k es ++ xs) (entries_are lengths numbers (drop k es) (omega arith)) ∙ take-append-drop k es

pub pieces_long : (lengths numbers : List ℕ) (es : List Item) → length numbers ≡ length lengths + 1
    → length (pieces_of lengths numbers es) ≡ length numbers
pieces_long lengths numbers es count =
    sym (length-map (pieces_of lengths numbers es) (λ (p : Piece). p.number))
    ∙ ap length (numbers_are lengths numbers es count)

-- the key above a piece that has others behind it
key_parting : (level : ℕ) (p : Piece) (pieces : List Piece) (key : List ℕ) (es : List Item) → 0 < length pieces
    → entries_in pieces ≡ es → key_above level p pieces key ≡ parting_key level p.entries es
key_parting level p [] key es some whole = absurd (omega arith)
key_parting level p (q ∷ pieces) key es some whole = ap (parting_key level p.entries) whole

pub first_above : (level k : ℕ) (lengths : List ℕ) (n : ℕ) (numbers : List ℕ) (es : List Item) (key : List ℕ)
    → length numbers ≡ length lengths + 1
    → pieces_above level (pieces_of (k ∷ lengths) (n ∷ numbers) es) key
    ≡ entry_to n (parting_key level (take k es) (drop k es))
    ∷ pieces_above level (pieces_of lengths numbers (drop k es)) key
first_above level k lengths n numbers es key count =
    let pieces : List Piece = pieces_of lengths numbers (drop k es) in
    ap (λ key'. entry_to n key' ∷ pieces_above level pieces key)
    (key_parting level (record { number = n; entries = take k es }) pieces key (drop k es)
    (omega (arith, pieces_long lengths numbers (drop k es) count)) (entries_are lengths numbers (drop k es) count))

-- ---- one piece

pub one_put : (before after : List ℕ) (level : ℕ) (n : ℕ) (es : List Item) → 0 < (fields_of before).tn
    → PutsEntries before after n level (own_entries level es)
    → PutsPieces before after level (record { number = n; entries = es } ∷ [])
one_put before after level n es past put =
    let same = rewrite_keeps_header before after (n ∷ []) put.rewrites in
    let p : Piece = record { number = n; entries = es } in
    record {
      rewrites = put.rewrites;
      each = All-cons (IsWritten after level) p [] (record {
        tn = 0;
        bytes = put.bytes;
        fits = put.fits;
        before = omega (arith, past, ap (λ (h : Header). h.tn) same);
        small = omega arith;
      }) (All-nil (IsWritten after level));
    }

-- It stays where other blocks are written.
stays_written : (mid after : List ℕ) (level : ℕ) (p : Piece) → fields_of after ≡ fields_of mid
    → block_of after p.number ≡ block_of mid p.number → IsWritten mid level p → IsWritten after level p
stays_written mid after level p fields block w = record {
  tn = w.tn;
  bytes = block ∙ w.bytes
      ∙ ap (λ (h : Header). block_bytes (own_entries level p.entries) level w.tn h.block_size) (sym fields);
  fits = omega (arith, w.fits, ap (λ (h : Header). h.block_size) fields);
  before = omega (arith, w.before, ap (λ (h : Header). h.tn) fields);
  small = w.small;
}

pub more_put : (before mid after : List ℕ) (level : ℕ) (p : Piece) (pieces : List Piece)
    → PutsPieces before mid level (p ∷ []) → PutsPieces mid after level pieces
    → has_block (numbers_of pieces) p.number ≡ false → PutsPieces before after level (p ∷ pieces)
more_put before mid after level p pieces first others apart = record {
  rewrites = rewrites_compose before mid after (p.number ∷ []) (numbers_of pieces) first.rewrites others.rewrites;
  each = All-cons (IsWritten after level) p pieces
      (stays_written mid after level p (rewrite_keeps_header mid after (numbers_of pieces) others.rewrites)
      (others.rewrites.others p.number apart) (All-head (IsWritten mid level) p [] first.each)) others.each;
}

-- ---- the first of several numbers

first_apart : (n : ℕ) (numbers : List ℕ) → IsDistinct nat_eq (n ∷ numbers) → has_block numbers n ≡ false
first_apart n numbers distinct = none_of numbers (IsDistinct-head nat_eq n numbers distinct)
  where
    none_of : (xs : List ℕ) → AllByRecursion (λ y. nat_eq n y ≡ false) xs → has_block xs n ≡ false
    none_of [] h = refl
    none_of (x ∷ xs) h = or_from (nat_eq n x) (has_block xs n) h.0 (none_of xs h.1)

pub last_piece : (before after : List ℕ) (level : ℕ) (lengths numbers : List ℕ) (es : List Item)
    → length lengths ≡ 0 → length numbers ≡ length lengths + 1 → ArePackable level es → 0 < (fields_of before).tn
    → PutsEntries before after (get_or numbers 0 0) level es
    → PutsPieces before after level (pieces_of lengths numbers es)
last_piece before after level [] [] es none count packable past put = absurd (omega arith)
last_piece before after level [] (n ∷ []) es none count packable past put =
    one_put before after level n es past
    (subst (PutsEntries before after n level) (sym (own_whole level es packable)) put)
last_piece before after level [] (n ∷ m ∷ numbers) es none count packable past put = absurd (omega arith)
last_piece before after level (k ∷ lengths) numbers es none count packable past put = absurd (omega arith)

pub first_piece : (before mid after : List ℕ) (level k : ℕ) (all lengths numbers : List ℕ) (es : List Item)
    → all ≡ k ∷ lengths → length numbers ≡ length all + 1 → 0 < (fields_of before).tn → IsDistinct nat_eq numbers
    → PutsEntries before mid (get_or numbers 0 0) level (own_entries level (take k es))
    → (0 < (fields_of mid).tn → IsDistinct nat_eq (drop 1 numbers)
    → PutsPieces mid after level (pieces_of lengths (drop 1 numbers) (drop k es)))
    → PutsPieces before after level (pieces_of all numbers es)
first_piece before mid after level k all lengths [] es is count past distinct put others = absurd (omega arith)
first_piece before mid after level k all lengths (n ∷ numbers) es is count past distinct put others =
    let counted : length numbers ≡ length lengths + 1 = omega (arith, count, ap length is) in
    let same = rewrite_keeps_header before mid (n ∷ []) put.rewrites in
    let p : Piece = record { number = n; entries = take k es } in
    let pieces : List Piece = pieces_of lengths numbers (drop k es) in
    subst (λ ks. PutsPieces before after level (pieces_of ks (n ∷ numbers) es)) (sym is)
    (more_put before mid after level p pieces (one_put before mid level n (take k es) past put)
    (others (omega (arith, past, ap (λ (h : Header). h.tn) same)) (IsDistinct-tail nat_eq n numbers distinct))
    (ap (λ ns. has_block ns n) (numbers_are lengths numbers (drop k es) counted) ∙ first_apart n numbers distinct))

pub first_part : (level k : ℕ) (all lengths numbers : List ℕ) (es : List Item) (key : List ℕ) → all ≡ k ∷ lengths
    → length numbers ≡ length all + 1
    → pieces_above level (pieces_of all numbers es) key
    ≡ entry_to (get_or numbers 0 0) (parting_key level (take k es) (drop k es))
    ∷ pieces_above level (pieces_of lengths (drop 1 numbers) (drop k es)) key
first_part level k all lengths [] es key is count = absurd (omega arith)
first_part level k all lengths (n ∷ numbers) es key is count =
    ap (λ ks. pieces_above level (pieces_of ks (n ∷ numbers) es) key) is
    ∙ first_above level k lengths n numbers es key (omega (arith, count, ap length is))

pub last_part : (level : ℕ) (lengths numbers : List ℕ) (es : List Item) (key : List ℕ) → length lengths ≡ 0
    → length numbers ≡ length lengths + 1
    → pieces_above level (pieces_of lengths numbers es) key ≡ entry_to (get_or numbers 0 0) key ∷ []
last_part level [] [] es key none count = absurd (omega arith)
last_part level [] (n ∷ []) es key none count = refl
last_part level [] (n ∷ m ∷ numbers) es key none count = absurd (omega arith)
last_part level (k ∷ lengths) numbers es key none count = absurd (omega arith)

-- One part more stands before the others.
pub front_above : (old new : Parts) (p : Part) (key : List ℕ) → new.last ≡ old.last
    → new.parted.items ≡ p ∷ old.parted.items → above_parts new key ≡ part_entry p ∷ above_parts old key
front_above old new p key last parted =
    (λ i. map part_entry (parted i) ++ entry_to (last i) key ∷ [])

pub parts_more : (level k : ℕ) (all lengths numbers : List ℕ) (es run behind : List Item) (key : List ℕ)
    (old new : Parts) (p : Part) → all ≡ k ∷ lengths → length numbers ≡ length all + 1 → run ≡ take k es
    → behind ≡ drop k es → p.block ≡ get_or numbers 0 0 → p.key.items ≡ parting_key level run behind
    → pieces_above level (pieces_of lengths (take (length numbers - 1) (drop 1 numbers)) behind) key
    ≡ above_parts old key
    → new.last ≡ old.last → new.parted.items ≡ p ∷ old.parted.items
    → pieces_above level (pieces_of all numbers es) key ≡ above_parts new key
parts_more level k all lengths numbers es run behind key old new p is count run_is behind_is block key_is rest last
    parted =
    first_part level k all lengths numbers es key is count
    ∙ (λ i. entry_to (sym block i) ((ap (λ xs. parting_key level xs (drop k es)) (sym run_is)
    ∙ ap (parting_key level run) (sym behind_is) ∙ sym key_is) i)
    ∷ pieces_above level (pieces_of lengths (sym (other_numbers numbers) i) (sym behind_is i)) key)
    ∙ ap (λ xs. part_entry p ∷ xs) rest ∙ sym (front_above old new p key last parted)
