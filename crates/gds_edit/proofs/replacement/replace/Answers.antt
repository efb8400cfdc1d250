use Rattle.std.proofs.Common.{◌+◌, ◌∙◌, sym, ap, subst, arith}
use Rattle.std.proofs.lemmas.Result.{err_from_is_err_and}
use Rattle.gds_block.specs.Fields.{with_bytes}
use Rattle.gds_edit.specs.Reading.{StandsAt}
use Rattle.gds_edit.proofs.EditLemmas.{IsEdit-refused}
use Rattle.gds_edit.proofs.ReplaceLemmas.{record_there, has_key, has_pointer, too_long, replaced}
use Rattle.gds_edit.proofs.replacement.replace.Goals as goal

pub returns-in_default-record_head-clause-replaced : goal.returns-in_default-record_head-clause-replaced
returns-in_default-record_head-clause-replaced c =
    λ height key es a b e packed spot keyed packable.
    absurd (c.in_default-record_head.ensures.read
    (subst (StandsAt c.args.block.now c.args.place.now.offset) (sym c.in-Some.ensures.1)
    (record_there c.args.block.now height key es a b e c.args.rest.now c.args.place.now packed spot keyed packable)))

pub returns-in_default-key_part-clause-replaced : goal.returns-in_default-key_part-clause-replaced
returns-in_default-key_part-clause-replaced c =
    λ height key es a b e packed spot keyed packable.
    let head = c.in-Some-record_head.ensures.read.1 in
    let old = c.args.block.now in
    let level_is = c.level.ensures ∙ packed.level in
    absurd (c.in_default-key_part.ensures.none
    (λ leaf.
    let part = has_key old height key es a b e c.args.rest.now c.args.place.now packed spot keyed packable
    (sym level_is ∙ leaf) in (
      omega (arith, part.0, ap (λ h. h.count) head),
      omega (arith, part.1, ap (λ h. h.count) head, ap (λ h. h.size) head),
    ))
    (λ above. omega (
      arith,
      has_pointer old height key es a b e c.args.rest.now c.args.place.now packed spot keyed packable
          (λ leaf. above (level_is ∙ leaf)),
      ap (λ h. h.size) head,
    )))

pub returns-in_err-push_tail-clause-replaced : goal.returns-in_err-push_tail-clause-replaced
returns-in_err-push_tail-clause-replaced c =
    λ height key es a b e packed spot keyed packable.
    let p = err_from_is_err_and c.from_residual.result c.from_residual.ensures.1 in
    let head = c.in-Some-record_head.ensures.read.1 in
    let full = c.in_err-push_tail.ensures.full in
    IsEdit-refused c.args.block.now _ height _ c.from_residual.result p.0 p.1 (p.2 ∙ full.0)
    (too_long c.args.block.now height key es a b e c.args.rest.now c.args.place.now packed spot keyed packable
    c.level.result c.in-Some-record_head.head.size c.in-Some-record_head.head.count c.in-Some-key_part.key
    c.in-Some.used c.saturating_add-end.result c.level.ensures (ap (λ h. h.size) head) (ap (λ h. h.count) head)
    c.in-Some.ensures.1
    c.in-Some-key_part.ensures.some.1 c.in-Some-key_part.ensures.some.2 c.saturating_add-end.ensures full.1)

pub returns-clause-replaced : goal.returns-clause-replaced
returns-clause-replaced c =
    λ height key es a b e packed spot keyed packable.
    let head = c.in-Some-record_head.ensures.read.1 in
    record {
      done =
          replaced c.args.block.now height key es a b e c.args.rest.now c.args.place.now packed spot keyed packable
          c.level.result c.in-Some-record_head.head.size c.in-Some-record_head.head.count c.in-Some-key_part.key
          c.in-Some.used c.saturating_add-end.result c.level.ensures (ap (λ h. h.size) head)
          (ap (λ h. h.count) head) c.in-Some.ensures.1
          c.in-Some-key_part.ensures.some.1 c.in-Some-key_part.ensures.some.2 c.saturating_add-end.ensures
          c.push_tail.new.block c.put_bytes.new.out
          c.in_ok-push_tail.ensures.moved
          (c.put_bytes.ensures
          ∙ ap (λ xs. with_bytes xs (c.args.place.now.offset + 4 + c.in-Some-key_part.key) c.args.rest.now)
          c.put_u16.ensures);
      full = tt;
    }
