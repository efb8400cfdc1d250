use Rattle.std.proofs.Common.{◌∙◌, ◌++◌, [], ap, refl, subst, sym, take}
use Rattle.gds_block.specs.Block.{level_of}
use Rattle.gds_pack.specs.Packable.{ArePackable}
use Rattle.gds_pack.specs.Packed.{key_behind}
use Rattle.gds_search.proofs.ReadingLemmas.{entry_stands}
use Rattle.gds_find.proofs.RecordLemmas.{either_at, end_at, front_long, has_end, key_read, keyed_there, rest_read}
use Rattle.gds_find.proofs.RecordLemmas.{star_body, star_there}
use Rattle.gds_find.proofs.record.record_at.Goals as goal

pub returns-in_err-record : goal.returns-in_err-record
returns-in_err-record c height es before behind own packed parts at agree =
    absurd (c.in_err-record.ensures.found _ packed.is_block
    (entry_stands c.args.block.now height es before behind own packed parts) at)

pub returns-then-is_star : goal.returns-then-is_star
returns-then-is_star c height es before behind own packed parts at agree =
    let x = c.in_ok-record.ensures.found _ packed.is_block
    (entry_stands c.args.block.now height es before behind own packed parts) at in
    let p = key_behind [] before in
    let count = c.in_ok-record.record.count in
    let body = c.in_ok-record.record.body.now in
    let level = c.level-level.ensures ∙ ap level_of c.in_ok-new.ensures.1 ∙ packed.level in
    let star = star_there p own count body x.0 x.1 height c.level-level.result level
    (either_at height before own behind (subst (ArePackable height) parts packed.packable)) c.is_star.result
    c.is_star.ensures c.if-is_star.true in (
      c.new-then-is_star.ensures ∙ sym star.none,
      star_body p own count body x.0 x.1 height star,
      end_at before own c.args.offset body at x.1,
    )

pub returns-then-front-record : goal.returns-then-front-record
returns-then-front-record c height es before behind own packed parts at agree =
    let x = c.in_ok-record.ensures.found _ packed.is_block
    (entry_stands c.args.block.now height es before behind own packed parts) at in
    let p = key_behind [] before in
    let count = c.in_ok-record.record.count in
    let body = c.in_ok-record.record.body.now in
    let level = c.level-level.ensures ∙ ap level_of c.in_ok-new.ensures.1 ∙ packed.level in
    let keyed = keyed_there p own count body x.0 x.1 height c.level-level.result level
    (either_at height before own behind (subst (ArePackable height) parts packed.packable)) c.is_star.result
    c.is_star.ensures c.if-is_star.false in
    front_long p own count body x.0 x.1 height keyed c.args.front.now agree c.if-front-record.true

pub returns-in_err-len : goal.returns-in_err-len
returns-in_err-len c height es before behind own packed parts at agree =
    let x = c.in_ok-record.ensures.found _ packed.is_block
    (entry_stands c.args.block.now height es before behind own packed parts) at in
    let p = key_behind [] before in
    let count = c.in_ok-record.record.count in
    let body = c.in_ok-record.record.body.now in
    let level = c.level-level.ensures ∙ ap level_of c.in_ok-new.ensures.1 ∙ packed.level in
    let keyed = keyed_there p own count body x.0 x.1 height c.level-level.result level
    (either_at height before own behind (subst (ArePackable height) parts packed.packable)) c.is_star.result
    c.is_star.ensures c.if-is_star.false in
    absurd (has_end p own count body x.0 x.1 height keyed c.args.front.now agree _ refl
    (sym c.end_within.ensures.value ∙ c.in_err-len.was))

pub returns : goal.returns
returns c height es before behind own packed parts at agree =
    let x = c.in_ok-record.ensures.found _ packed.is_block
    (entry_stands c.args.block.now height es before behind own packed parts) at in
    let p = key_behind [] before in
    let count = c.in_ok-record.record.count in
    let body = c.in_ok-record.record.body.now in
    let level = c.level-level.ensures ∙ ap level_of c.in_ok-new.ensures.1 ∙ packed.level in
    let keyed = keyed_there p own count body x.0 x.1 height c.level-level.result level
    (either_at height before own behind (subst (ArePackable height) parts packed.packable)) c.is_star.result
    c.is_star.ensures c.if-is_star.false in
    let found = sym c.end_within.ensures.value ∙ c.in_ok-len.was in (
      c.join_key.ensures ∙ ap (λ xs. take count c.args.front.now ++ xs) c.split_at.ensures.front
          ∙ key_read p own count body x.0 x.1 height keyed c.args.front.now agree _ refl c.in_ok-len.len found,
      c.split_at.ensures.back
          ∙ rest_read p own count body x.0 x.1 height keyed c.args.front.now agree _ refl c.in_ok-len.len found,
      end_at before own c.args.offset body at x.1,
    )
