use Rattle.std.proofs.Common.{◌<◌, List, ℕ, suc, Option, ap, ◌∙◌, subst, arith}
use Rattle.host_model.proofs.FailureLemmas.{NeverFell-refl}
use Rattle.gds_draft.specs.Drafted.{drafted}
use Rattle.gds_header.specs.Fields.{fields_of}
use Rattle.gds_header.specs.declared.header.Header.{Header}
use Rattle.gds_pack.specs.Entry.{items}
use Rattle.gds_pack.specs.Packed.{packed_size}
use Rattle.gds_pack.specs.declared.entry.Entry.{Entry}
use Rattle.gds_splice.specs.Parts.{FitInThree}
use Rattle.gds_splice.specs.Writing.{PutsEntries}
use Rattle.gds_splice.specs.declared.parts.Parts.{Parts}
use Rattle.gds_splice.proofs.EndingLemmas.{parting_exit, reading_exit}
use Rattle.gds_splice.proofs.EntriesPutLemmas.{drafted_fields}
use Rattle.gds_splice.proofs.NodePutLemmas.{node_goes_up, put_at_root, root_refused, stays}
use Rattle.gds_splice.proofs.OneUpLemmas.{two_below}
use Rattle.gds_splice.proofs.putting.put_node.Goals as goal

pub returns-then-packed_size-from-clause-put : goal.returns-then-packed_size-from-clause-put
returns-then-packed_size-from-clause-put g c image is root above v level below p =
    let file : List ℕ = drafted c.args.draft.now image in
    let after : List ℕ = drafted c.put_entries.new.draft image in
    stays file root above v level below c.args.step.block c.args.is_root c.args.node p after
    (subst (λ (es : List Entry). PutsEntries file after c.args.step.block c.args.node.level (items es))
    c.deref-then-packed_size-from.ensures.value (c.in_ok-put_entries.ensures.put image is))

pub returns-in_err-raise_root-clause-ends : goal.returns-in_err-raise_root-clause-ends
returns-in_err-raise_root-clause-ends g c =
    let h = g.H.Host in
    let now = h.failures c.args.base.now.host in
    parting_exit (Unit {0}) (Option Parts) now now (h.failures c.raise_root.new.base.host) _ _ _ _
    c.in_err-raise_root.field-0.0 c.from_residual-in_err-raise_root.result (NeverFell-refl now)
    (λ cannot image is root above v level below p free.
    let fields = drafted_fields image c.args.draft.now (c.hold_draft.ensures image is) in
    root_refused (drafted c.args.draft.now image) root above v level below c.args.step.block c.args.is_root c.args.node
    p c.if-is_root.true (cannot image is) (free (omega (
      arith,
      c.if-packed_size-from.false,
      c.packed_size.ensures,
      ap (λ (es : List Entry). packed_size (items es)) c.deref.ensures.value,
      c.from.ensures,
      ap (λ (x : Header). x.block_size) c.header.ensures.header,
      ap (λ (x : Header). x.block_size) fields,
      c.requires.draft.block_size,
    ))))
    (λ high image is.
    let file : List ℕ = drafted c.args.draft.now image in
    let fields = drafted_fields image c.args.draft.now (c.hold_draft.ensures image is) in record {
      is_top = c.if-is_root.true;
      high = high;
      more = omega (
        arith,
        c.if-packed_size-from.false,
        c.packed_size.ensures,
        ap (λ (es : List Entry). packed_size (items es)) c.deref.ensures.value,
        c.from.ensures,
        ap (λ (x : Header). x.block_size) c.header.ensures.header,
        ap (λ (x : Header). x.block_size) fields,
        c.requires.draft.block_size,
      );
    })
    c.from_residual-in_err-raise_root.ensures.1 c.in_err-raise_root.ensures.ends

pub returns-then-is_root-clause-put : goal.returns-then-is_root-clause-put
returns-then-is_root-clause-put g c image is root above v level below p =
    put_at_root (drafted c.args.draft.now image) root above v level below c.args.step.block c.args.is_root c.args.node
    p c.if-is_root.true (drafted c.raise_root.new.draft image) (c.in_ok-raise_root.ensures.raised image is p.may.maps)
    c.in_ok-raise_root.ensures.low

pub returns-in_err-divide-clause-ends : goal.returns-in_err-divide-clause-ends
returns-in_err-divide-clause-ends g c =
    let h = g.H.Host in
    let now = h.failures c.args.base.now.host in
    reading_exit Parts (Option Parts) now now (h.failures c.divide.new.base.host) _ _ _ c.in_err-divide.field-0.0
    c.from_residual-in_err-divide.result (NeverFell-refl now)
    (λ cannot image is root above v level below p free.
    let file : List ℕ = drafted c.args.draft.now image in
    let fields = drafted_fields image c.args.draft.now (c.hold_draft.ensures image is) in
    let more : (fields_of file).block_size < packed_size (items c.args.node.entries.items) = omega (
      arith,
      c.if-packed_size-from.false,
      c.packed_size.ensures,
      ap (λ (es : List Entry). packed_size (items es)) c.deref.ensures.value,
      c.from.ensures,
      ap (λ (x : Header). x.block_size) c.header.ensures.header,
      ap (λ (x : Header). x.block_size) fields,
      c.requires.draft.block_size,
    ) in
    cannot image is p.may.maps
    (subst (λ n. FitInThree n (items c.args.node.entries.items))
    (ap (λ (x : Header). x.block_size) fields ∙ c.requires.draft.block_size) p.three)
    (omega (
      arith,
      two_below above c.args.is_root (suc level) (fields_of file).free p.at_top c.if-is_root.false (free more),
      ap (λ (x : Header). x.free) fields,
    )))
    c.from_residual-in_err-divide.ensures.1 c.in_err-divide.ensures.ends

pub returns-clause-put : goal.returns-clause-put
returns-clause-put g c image is root b above v level below p =
    let file : List ℕ = drafted c.args.draft.now image in
    let fields = drafted_fields image c.args.draft.now (c.hold_draft.ensures image is) in
    let more : (fields_of file).block_size < packed_size (items c.args.node.entries.items) = omega (
      arith,
      c.if-packed_size-from.false,
      c.packed_size.ensures,
      ap (λ (es : List Entry). packed_size (items es)) c.deref.ensures.value,
      c.from.ensures,
      ap (λ (x : Header). x.block_size) c.header.ensures.header,
      ap (λ (x : Header). x.block_size) fields,
      c.requires.draft.block_size,
    ) in
    node_goes_up file root b above v level below c.args.step.block c.args.is_root c.args.node p
    (drafted c.divide.new.draft image) c.in_ok-divide.field-0 (c.in_ok-divide.ensures.divided image is) more
