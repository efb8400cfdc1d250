use Rattle.std.proofs.Common.{Bool, List, ℕ, vec_len, sym, ap, ◌∙◌, subst, arith}
use Rattle.std.proofs.lemmas.Bool.{both_ways, eq-eqb, eqb-true}
use Rattle.std.specs.Global.{Vec}
use Rattle.gds_pack.specs.Entry.{items}
use Rattle.gds_pack.specs.declared.entry.Entry.{Entry}
use Rattle.host_model.proofs.FailureLemmas.{NeverFell-refl}
use Rattle.gds_block.specs.Item.{Item}
use Rattle.gds_draft.specs.Drafted.{drafted}
use Rattle.gds_header.specs.Fields.{fields_of}
use Rattle.gds_header.specs.declared.header.Header.{Header}
use Rattle.gds_splice.specs.Divided.{MayPut}
use Rattle.gds_splice.specs.Writing.{PutsEntries}
use Rattle.gds_splice.proofs.EntriesPutLemmas.{drafted_fields}
use Rattle.gds_splice.proofs.DraftingLemmas.{ends_exit, same_header, same_image}
use Rattle.gds_remove.specs.Block.{AreEntriesAt}
use Rattle.gds_remove.specs.Range.{left_by, range_of}
use Rattle.gds_remove.proofs.LeafLemmas.{all_left, as_many, left_may, may_put_same, no_leaf_none, none_in, none_left}
use Rattle.gds_remove.proofs.LeafLemmas.{some_in, some_left}
use Rattle.gds_remove.proofs.leaf.cut_unpacked.Goals as goal

pub returns-in_err-entries-clause-ends : goal.returns-in_err-entries-clause-ends
returns-in_err-entries-clause-ends g c =
    let now = g.H.Host.failures c.args.base.now.host in
    ends_exit (Vec Entry) Bool now now (g.H.Host.failures c.read_level.new.base.host) _ _ c.in_err-entries.field-0.0
    c.from_residual.result (NeverFell-refl now)
    (λ none image is. no_leaf_none (drafted c.args.draft.now image) c.args.n (none image is))
    c.from_residual.ensures.1 c.in_err-entries.ensures.ends

pub returns-then-is_empty-clause-cut : goal.returns-then-is_empty-clause-cut
returns-then-is_empty-clause-cut g c image is v t same s =
    let es : List Item = items c.in_ok-entries.entries.items in
    let file : List ℕ = drafted c.args.draft.now image in
    none_left file (range_of c.args.range) es v t
    (subst (λ k. AreEntriesAt k 0 es file) (sym same) (c.in_ok-entries.ensures.entries image is)) s
    (none_in c.retain_outside.new.entries.items _ c.retain_outside.ensures
    (omega (
      arith,
      eqb-true (vec_len c.retain_outside.new.entries) 0 (sym c.is_empty.ensures ∙ c.if-is_empty.true),
      c.retain_outside.new.entries.ok.0,
    )))

pub returns-then-len-count-clause-cut : goal.returns-then-len-count-clause-cut
returns-then-len-count-clause-cut g c image is v t same s =
    let es : List Item = items c.in_ok-entries.entries.items in
    let file : List ℕ = drafted c.args.draft.now image in
    all_left file (range_of c.args.range) es v t
    (subst (λ k. AreEntriesAt k 0 es file) (sym same) (c.in_ok-entries.ensures.entries image is)) s
    (some_in c.retain_outside.new.entries.items _ c.retain_outside.ensures (λ none.
    both_ways _ c.if-is_empty.false (c.is_empty.ensures
    ∙ eq-eqb (vec_len c.retain_outside.new.entries) 0 (omega (arith, none, c.retain_outside.new.entries.ok.0)))))
    (as_many c.retain_outside.new.entries.items _ c.retain_outside.ensures c.in_ok-entries.entries.items (omega (
      arith,
      c.if-len-count.true,
      c.len.ensures,
      c.len-count.ensures,
    )))

pub returns-in_err-put_left-clause-ends : goal.returns-in_err-put_left-clause-ends
returns-in_err-put_left-clause-ends g c =
    let h = g.H.Host in
    let read = c.in_ok-entries.ensures.read in
    let there = h.failures c.read_level.new.base.host in
    let es : List Item = items c.in_ok-entries.entries.items in
    ends_exit (Unit {0}) Bool (h.failures c.args.base.now.host) there there _ _ c.in_err-put_left.field-0.0
    c.from_residual-in_err-put_left.result read.read.failures
    (λ cannot image is v t same s.
    let file : List ℕ = drafted c.args.draft.now image in
    cannot (subst (MayPut c.read_level.new.base.header 0)
    (sym c.retain_outside.ensures ∙ ap items (sym c.deref.ensures.value))
    (may_put_same (fields_of file) c.read_level.new.base.header 0 (left_by (range_of c.args.range) es)
    (ap (λ (k : Header). k.block_size)
    (same_header h.told h.moment h.failures h.left_since c.args.base.now c.read_level.new.base read)
    ∙ sym c.requires.block_size
    ∙ sym (ap (λ (k : Header). k.block_size) (drafted_fields image c.args.draft.now (c.hold_draft.ensures image is))))
    (left_may file (range_of c.args.range) es v t
    (subst (λ k. AreEntriesAt k 0 es file) (sym same) (c.in_ok-entries.ensures.entries image is)) s
    (some_in c.retain_outside.new.entries.items _ c.retain_outside.ensures (λ none.
    both_ways _ c.if-is_empty.false (c.is_empty.ensures
    ∙ eq-eqb (vec_len c.retain_outside.new.entries) 0 (omega (arith, none, c.retain_outside.new.entries.ok.0)))))))))
    c.from_residual-in_err-put_left.ensures.1 c.in_err-put_left.ensures.ends

pub returns-clause-cut : goal.returns-clause-cut
returns-clause-cut g c image is v t same s =
    let h = g.H.Host in
    let es : List Item = items c.in_ok-entries.entries.items in
    let file : List ℕ = drafted c.args.draft.now image in
    let told = same_image h.told h.moment h.failures h.left_since c.args.base.now c.read_level.new.base
    c.in_ok-entries.ensures.read ∙ is in
    some_left file (range_of c.args.range) es v t
    (subst (λ k. AreEntriesAt k 0 es file) (sym same) (c.in_ok-entries.ensures.entries image is)) s
    (some_in c.retain_outside.new.entries.items _ c.retain_outside.ensures (λ none.
    both_ways _ c.if-is_empty.false (c.is_empty.ensures
    ∙ eq-eqb (vec_len c.retain_outside.new.entries) 0 (omega (arith, none, c.retain_outside.new.entries.ok.0)))))
    (drafted c.put_left.new.draft image) (subst (PutsEntries file (drafted c.put_left.new.draft image) v.block 0)
    (ap items c.deref.ensures.value ∙ c.retain_outside.ensures)
    (subst (λ k. PutsEntries file (drafted c.put_left.new.draft image) k 0 (items c.deref.result.now)) (sym same)
    (c.in_ok-put_left.ensures.put image told)))
