use Rattle.std.proofs.Common.{◌+◌, ◌∙◌, ap, arith}
use Rattle.gds_block.specs.Fields.{u16_bytes, with_bytes}
use Rattle.gds_block.proofs.FieldLemmas.{length-u16_bytes}
use Rattle.gds_edit.proofs.PutLemmas.{with_bytes-then}
use Rattle.gds_edit.proofs.record.RecordHead.put.Goals as goal

pub returns : goal.returns
returns c =
    let size = c.args.self.size in
    let count = c.args.self.count in
    let one = length-u16_bytes size in
    let two = length-u16_bytes count in
    c.put_u16-2.ensures
    ∙ ap (λ xs. with_bytes xs (c.args.at + 2) (u16_bytes count)) c.put_u16.ensures
    ∙ with_bytes-then c.args.out.now (u16_bytes size) c.args.at (omega (arith, c.requires.fits)) (u16_bytes count)
    (c.args.at + 2) (omega arith) (omega (arith, c.requires.fits))
