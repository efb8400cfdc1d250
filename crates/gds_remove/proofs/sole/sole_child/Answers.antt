use Rattle.std.proofs.Common.{◌-◌, arith}
use Rattle.gds_draft.specs.Drafted.{drafted}
use Rattle.gds_remove.specs.Range.{range_of}
use Rattle.gds_remove.proofs.SoleFoundLemmas.{if_some, sole_of}
use Rattle.gds_remove.proofs.sole.sole_child.Goals as goal

pub returns-clause-sole : goal.returns-clause-sole
returns-clause-sole g c =
    if_some c.sole_in.result _ _
    (λ sole found image is. sole_of (drafted c.args.draft.now image) c.args.n c.args.level (c.args.level - 1)
    (range_of c.args.range) sole c.in_ok-bytes.bytes.now (omega (arith, c.requires.index))
    (c.in_ok-bytes.ensures.bytes image is) c.are_bytes.ensures found)
    c.sole_in.ensures
