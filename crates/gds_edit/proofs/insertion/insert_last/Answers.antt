use Rattle.std.proofs.Common.{◌∙◌, ap, arith}
use Rattle.std.proofs.lemmas.Result.{err_from_is_err_and}
use Rattle.gds_block.specs.Fields.{with_bytes}
use Rattle.gds_edit.proofs.EditLemmas.{IsEdit-refused}
use Rattle.gds_edit.proofs.InsertLemmas.{size-new, bytes-new, size_of_last, IsEdited-last}
use Rattle.gds_edit.proofs.insertion.insert_last.Goals as goal

pub returns-in_err-push_tail-clause-inserted : goal.returns-in_err-push_tail-clause-inserted
returns-in_err-push_tail-clause-inserted c =
    λ height a e packed all is packable.
    let p = err_from_is_err_and c.from_residual.result c.from_residual.ensures.1 in
    let full = c.in_err-push_tail.ensures.full in
    let size = size-new _ e c.args.fresh is in
    IsEdit-refused c.args.block.now _ height _ c.from_residual.result p.0 p.1 (p.2 ∙ full.0)
    (omega (
      arith,
      full.1,
      size,
      size_of_last c.args.block.now height a e packed c.args.used all,
      c.saturating_add-end.ensures,
      c.size.ensures,
      c.requires.short,
    ))

pub returns-clause-inserted : goal.returns-clause-inserted
returns-clause-inserted c =
    λ height a e packed all is packable.
    let m = c.in_ok-push_tail.ensures.moved in
    let size = size-new _ e c.args.fresh is in
    record {
      done =
          IsEdited-last c.args.block.now height a e packed c.args.used all c.push_tail.new.block c.put.new.out
          c.saturating_add-end.result m
          (omega (arith, size, m.fits, c.saturating_add-end.ensures, c.size.ensures, c.requires.short))
          (c.put.ensures ∙ ap (with_bytes c.push_tail.new.block c.args.used) (bytes-new _ e c.args.fresh is))
          packable;
      full = tt;
    }
