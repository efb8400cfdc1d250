use Rattle.std.proofs.Common.{◌≡◌, ◌+◌, ◌∙◌, ◌∷◌, List, ℕ, ap, sym, arith, refl, subst, length, length-drop}
use Rattle.std.proofs.Common.{get_or, take}
use Rattle.std.proofs.Common.{drop, ◌-◌}
use Rattle.std.specs.Prelude.{nat_eq}
use Rattle.std.specs.List.{IsDistinct}
use Rattle.gds_split.specs.Pieces.{own_entries, parting_key}
use Rattle.gds_splice.specs.declared.parts.Parts.{Parts}
use Rattle.gds_splice.specs.Parts.{pieces_of}
use Rattle.gds_draft.specs.Drafted.{drafted}
use Rattle.gds_pack.specs.declared.entry.Entry.{Entry}
use Rattle.gds_splice.specs.Writing.{PutsEntries, PutsPieces}
use Rattle.gds_splice.proofs.PutLemmas.{first_piece, last_piece, parts_more}
use Rattle.gds_header.specs.declared.header.Header.{Header}
use Rattle.gds_pack.specs.Packable.{ArePackable}
use Rattle.gds_pack.specs.Packed.{packed_size}
use Rattle.gds_splice.proofs.EntriesPutLemmas.{draft_with_more}
use Rattle.gds_block.specs.Item.{Item}
use Rattle.gds_pack.specs.Entry.{items}
use Rattle.gds_splice.proofs.CuttingLemmas.{are_cut, other_numbers, others_within, run_within, some_items}
use Rattle.gds_splice.proofs.pieces.+write_pieces.Goals as goal

pub split_off-requires : goal.split_off-requires
split_off-requires g t c =
    let parts : c.args.lengths.now ≡ c.in-Some.length.now ∷ c.in-Some.lengths.now = c.in-Some.ensures.cases.0 in
    omega (
      arith,
      run_within c.args.base.now.header.block_size c.in-Some.length.now c.args.lengths.now c.in-Some.lengths.now
          c.args.entries.items parts c.requires.fits,
      c.args.entries.ok.0,
    )

pub part_key-key-requires-clause-more : goal.part_key-key-requires-clause-more
part_key-key-requires-clause-more g t c =
    let parts : c.args.lengths.now ≡ c.in-Some.length.now ∷ c.in-Some.lengths.now = c.in-Some.ensures.cases.0 in
    let cut = are_cut c.args.level c.args.base.now.header.block_size c.in-Some.length.now c.args.lengths.now
    c.in-Some.lengths.now c.args.entries.items c.split_off.new.self.items c.in_ok-behind.behind.items parts
    c.requires.fits c.requires.packable c.in_ok-behind.ensures.items c.in_ok-behind.ensures.tail in
    omega (arith, some_items c.in_ok-behind.behind.items cut.more, ap length c.deref-2.ensures.value)

pub put_entries-requires-2-clause-fits : goal.put_entries-requires-2-clause-fits
put_entries-requires-2-clause-fits g t c =
    let parts : c.args.lengths.now ≡ c.in-Some.length.now ∷ c.in-Some.lengths.now = c.in-Some.ensures.cases.0 in
    let cut = are_cut c.args.level c.args.base.now.header.block_size c.in-Some.length.now c.args.lengths.now
    c.in-Some.lengths.now c.args.entries.items c.split_off.new.self.items c.in_ok-behind.behind.items parts
    c.requires.fits c.requires.packable c.in_ok-behind.ensures.items c.in_ok-behind.ensures.tail in
    omega (
      arith,
      cut.run_fits,
      ap packed_size (ap items c.deref-3.ensures.value ∙ c.part_key-key.ensures.own),
    )

pub put_entries-requires-2-clause-packable : goal.put_entries-requires-2-clause-packable
put_entries-requires-2-clause-packable g t c =
    let parts : c.args.lengths.now ≡ c.in-Some.length.now ∷ c.in-Some.lengths.now = c.in-Some.ensures.cases.0 in
    let cut = are_cut c.args.level c.args.base.now.header.block_size c.in-Some.length.now c.args.lengths.now
    c.in-Some.lengths.now c.args.entries.items c.split_off.new.self.items c.in_ok-behind.behind.items parts
    c.requires.fits c.requires.packable c.in_ok-behind.ensures.items c.in_ok-behind.ensures.tail in
    subst (ArePackable c.args.level) (sym (ap items c.deref-3.ensures.value ∙ c.part_key-key.ensures.own))
    cut.run_packable

-- The call for what is behind the first run: its measure, that of the lifetimes, and what it requires.
pub write_pieces-requires : goal.write_pieces-requires
write_pieces-requires g t c κs within =
    let parts : c.args.lengths.now ≡ c.in-Some.length.now ∷ c.in-Some.lengths.now = c.in-Some.ensures.cases.0 in
    let cut = are_cut c.args.level c.args.base.now.header.block_size c.in-Some.length.now c.args.lengths.now
    c.in-Some.lengths.now c.args.entries.items c.split_off.new.self.items c.in_ok-behind.behind.items parts
    c.requires.fits c.requires.packable c.in_ok-behind.ensures.items c.in_ok-behind.ensures.tail in
    let numbers : List ℕ = c.args.numbers.now in
    let more = c.put_entries-2.ensures.more in
    let draft = draft_with_more c.args.base.now.header c.args.draft.now c.put_entries-2.new.draft 1 more
    c.requires.draft in
    let count : length (take (length numbers - 1) (drop 1 numbers)) ≡ length c.in-Some.lengths.now + 1 = omega (
      arith,
      ap length (other_numbers numbers),
      length-drop 1 numbers,
      c.requires.count,
      ap length parts,
    ) in
    let others = others_within c.args.draft.now.header.total c.put_entries-2.new.draft.header.total numbers
    (ap (λ (h : Header). h.total) more.header) c.requires.within in (
      omega (arith, ap length parts, c.decreases),
      (within, (draft, (cut.rest_fits, (cut.rest_packable, (count, others))))),
    )

pub returns-in_default-clause-put : goal.returns-in_default-clause-put
returns-in_default-clause-put g t c x is past distinct =
    let before : List ℕ = drafted c.args.draft.now x in
    let after : List ℕ = drafted c.put_entries.new.draft x in
    let numbers : List ℕ = c.args.numbers.now in
    last_piece before after c.args.level c.args.lengths.now numbers (items c.args.entries.items)
    c.in_default.ensures.cases c.requires.count c.requires.packable past
    (subst (λ (es : List Entry). PutsEntries before after (get_or numbers 0 0) c.args.level (items es))
    c.deref.ensures.value (c.in_ok-put_entries.ensures.put x is))

pub returns-clause-put : goal.returns-clause-put
returns-clause-put g t c x is past distinct =
    let parts : c.args.lengths.now ≡ c.in-Some.length.now ∷ c.in-Some.lengths.now = c.in-Some.ensures.cases.0 in
    let cut = are_cut c.args.level c.args.base.now.header.block_size c.in-Some.length.now c.args.lengths.now
    c.in-Some.lengths.now c.args.entries.items c.split_off.new.self.items c.in_ok-behind.behind.items parts
    c.requires.fits c.requires.packable c.in_ok-behind.ensures.items c.in_ok-behind.ensures.tail in
    let before : List ℕ = drafted c.args.draft.now x in
    let mid : List ℕ = drafted c.put_entries-2.new.draft x in
    let after : List ℕ = drafted c.write_pieces.new.draft x in
    let numbers : List ℕ = c.args.numbers.now in
    let level : ℕ = c.args.level in
    let lengths : List ℕ = c.in-Some.lengths.now in
    let behind : List Item = drop c.in-Some.length.now (items c.args.entries.items) in
    first_piece before mid after level c.in-Some.length.now c.args.lengths.now lengths numbers
    (items c.args.entries.items) parts c.requires.count past distinct
    (subst (PutsEntries before mid (get_or numbers 0 0) level)
    (ap items c.deref-3.ensures.value ∙ c.part_key-key.ensures.own ∙ ap (own_entries level) cut.run_is)
    (c.in_ok-put_entries-2.ensures.put x is))
    (λ past' distinct'.
    subst (λ ns. PutsPieces mid after level (pieces_of lengths ns behind)) (other_numbers numbers)
    (subst (λ es. PutsPieces mid after level (pieces_of lengths (take (length numbers - 1) (drop 1 numbers)) es))
    cut.behind_is (c.in_ok-parts.ensures.put x is past'
    (subst (IsDistinct nat_eq) (sym (other_numbers numbers)) distinct'))))

pub returns-clause-parts : goal.returns-clause-parts
returns-clause-parts g t c key =
    let parts : c.args.lengths.now ≡ c.in-Some.length.now ∷ c.in-Some.lengths.now = c.in-Some.ensures.cases.0 in
    let cut = are_cut c.args.level c.args.base.now.header.block_size c.in-Some.length.now c.args.lengths.now
    c.in-Some.lengths.now c.args.entries.items c.split_off.new.self.items c.in_ok-behind.behind.items parts
    c.requires.fits c.requires.packable c.in_ok-behind.ensures.items c.in_ok-behind.ensures.tail in
    let numbers : List ℕ = c.args.numbers.now in
    let run : List Item = items c.split_off.new.self.items in
    let behind : List Item = items c.in_ok-behind.behind.items in
    parts_more c.args.level c.in-Some.length.now c.args.lengths.now c.in-Some.lengths.now numbers
    (items c.args.entries.items) run behind key c.in_ok-parts.parts c.add_front.new.parts
    (record { key = c.part_key-key.result; block = get_or numbers 0 0 }) parts c.requires.count cut.run_is cut.behind_is
    refl (c.part_key-key.ensures.key ∙ ap (λ xs. parting_key c.args.level run (items xs)) c.deref-2.ensures.value)
    (c.in_ok-parts.ensures.parts key) (ap (λ (ps : Parts). ps.last) c.in_ok-add_front.ensures.0)
    c.in_ok-add_front.ensures.1
