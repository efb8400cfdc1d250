use Rattle.std.proofs.Common.{[], ◌≡◌, ◌-◌, ◌+◌, ◌++◌, ◌∙◌, sym, ap, arith}
use Rattle.std.proofs.lemmas.Result.{err_from_is_err_and}
use Rattle.gds_block.specs.Fields.{u16_bytes, with_bytes}
use Rattle.m_key.specs.KeyEnd.{shared}
use Rattle.m_key.proofs.KeyEndLemmas.{shared-le}
use Rattle.gds_pack.specs.Packed.{record_size, key_behind}
use Rattle.gds_edit.proofs.EditLemmas.{IsEdit-refused}
use Rattle.gds_edit.proofs.InsertLemmas.{size-new, bytes-new, size_of_before, IsEdited-before}
use Rattle.gds_edit.proofs.insertion.insert_before.Goals as goal

pub returns-in_err-push_tail-clause-inserted : goal.returns-in_err-push_tail-clause-inserted
returns-in_err-push_tail-clause-inserted c =
    λ height a b e n packed place all is head shares packable.
    let p = err_from_is_err_and c.from_residual.result c.from_residual.ensures.1 in
    let full = c.in_err-push_tail.ensures.full in
    let size = size-new _ e c.args.fresh is in
    let more = ap (λ k. k + c.args.more) (sym head.counted) ∙ shares in
    IsEdit-refused c.args.block.now _ height _ c.from_residual.result p.0 p.1 (p.2 ∙ full.0)
    (omega (
      arith,
      full.1,
      size,
      size_of_before c.args.block.now height a b e n packed c.args.at c.args.used c.args.more place all more,
      c.saturating_add-end.ensures,
      c.saturating_add.ensures,
      c.size.ensures,
      c.requires.short,
    ))

pub returns-clause-inserted : goal.returns-clause-inserted
returns-clause-inserted c =
    λ height a b e n packed place all is head shares packable.
    let m = c.in_ok-push_tail.ensures.moved in
    let size = size-new _ e c.args.fresh is in
    let more = ap (λ k. k + c.args.more) (sym head.counted) ∙ shares in
    let p = key_behind [] a in
    let end = c.saturating_add-end.result in
    let sized : c.args.next.size - c.args.more ≡ record_size e.key n =
    omega (arith, head.sized, head.counted, shares, shared-le p n.key, shared-le e.key n.key) in
    let bytes = bytes-new p e c.args.fresh is in
    record {
      done =
          IsEdited-before c.args.block.now height a b e n packed c.args.at c.args.used c.args.more place all more
          c.push_tail.new.block c.put-2.new.out c.saturating_add.result end m
          (omega (
            arith,
            size,
            m.fits,
            c.saturating_add-end.ensures,
            c.saturating_add.ensures,
            c.size.ensures,
            c.requires.short,
          ))
          (omega (arith, m.fits, c.saturating_add.ensures, c.requires.short))
          (c.put-2.ensures
          ∙ (λ k. with_bytes (c.put.ensures k) end (u16_bytes (sized k) ++ u16_bytes (shares k)))
          ∙ ap (λ xs. with_bytes (with_bytes c.push_tail.new.block c.args.at xs) end
          (u16_bytes (record_size e.key n) ++ u16_bytes (shared e.key n.key))) bytes)
          packable;
      full = tt;
    }
