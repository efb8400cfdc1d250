use Rattle.std.proofs.Common.{◌∙◌, sym}
use Rattle.gds_block.specs.View.{record_of}
use Rattle.gds_pack.proofs.UnpackLemmas.{IfNone-leaf_item, IfSome-IsKeyPart}
use Rattle.gds_pack.proofs.unpacking.key_part.Goals as goal

pub returns-clause-none : goal.returns-clause-none
returns-clause-none c =
    IfNone-leaf_item c.args.previous.now (record_of c.args.view) c.requires
    (sym c.is_count.ensures ∙ c.if-not-is_count.false) c.end_within.result c.end_within.ensures.key

pub returns-clause-some : goal.returns-clause-some
returns-clause-some c =
    IfSome-IsKeyPart c.args.previous.now (record_of c.args.view) c.requires
    (sym c.is_count.ensures ∙ c.if-not-is_count.false) c.end_within.result c.end_within.ensures.key
    c.end_within.ensures.within c.end_within.ensures.short
