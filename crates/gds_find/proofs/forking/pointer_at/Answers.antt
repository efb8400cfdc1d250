use Rattle.std.proofs.Common.{◌∙◌, [], arith, drop, subst, suc}
use Rattle.gds_pack.specs.Packable.{ArePackable}
use Rattle.gds_pack.specs.Packed.{key_behind}
use Rattle.gds_search.proofs.ReadingLemmas.{entry_stands}
use Rattle.m_key.specs.KeyEnd.{shared}
use Rattle.gds_find.proofs.ForkLemmas.{body_long, four_bytes, pointer_is}
use Rattle.gds_find.proofs.RecordLemmas.{end_at}
use Rattle.gds_find.proofs.forking.pointer_at.Goals as goal

pub returns-in_err-record : goal.returns-in_err-record
returns-in_err-record c level es before behind own packed parts at =
    absurd (c.in_err-record.ensures.found _ packed.is_block
    (entry_stands c.args.bytes.now (suc level) es before behind own packed parts) at)

pub returns-in_err-start : goal.returns-in_err-start
returns-in_err-start c level es before behind own packed parts at =
    let x = c.in_ok-record.ensures.found _ packed.is_block
    (entry_stands c.args.bytes.now (suc level) es before behind own packed parts) at in
    let four = four_bytes level before own behind (subst (ArePackable (suc level)) parts packed.packable) in
    absurd (omega (
      arith,
      c.in_err-start.ensures,
      body_long (drop (shared (key_behind [] before) own.key) own.key) c.in_ok-record.record.body.now own.rest x.1 four,
    ))

pub returns : goal.returns
returns c level es before behind own packed parts at =
    let x = c.in_ok-record.ensures.found _ packed.is_block
    (entry_stands c.args.bytes.now (suc level) es before behind own packed parts) at in
    let four = four_bytes level before own behind (subst (ArePackable (suc level)) parts packed.packable) in
    let start = c.in_ok-start.ensures in (
      c.u32_at.ensures
          ∙ pointer_is (drop (shared (key_behind [] before) own.key) own.key) c.in_ok-record.record.body.now own.rest
          c.in_ok-start.start x.1 four (omega (arith, start.0, start.1)),
      end_at before own c.args.offset c.in_ok-record.record.body.now at x.1,
    )
