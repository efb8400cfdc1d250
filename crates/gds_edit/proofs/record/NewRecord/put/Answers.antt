use Rattle.std.proofs.Common.{◌+◌, ◌++◌, ◌∙◌, length, ap, arith, length-append}
use Rattle.gds_block.specs.Fields.{u16_bytes, with_bytes}
use Rattle.gds_block.proofs.FieldLemmas.{length-u16_bytes}
use Rattle.gds_edit.proofs.PutLemmas.{with_bytes-then}
use Rattle.gds_edit.proofs.record.NewRecord.put.Goals as goal

pub returns : goal.returns
returns c =
    let at = c.args.at in
    let out = c.args.out.now in
    let key = c.args.self.key.now in
    let rest = c.args.self.rest.now in
    let size = u16_bytes (4 + length key + length rest) in
    let count = u16_bytes c.args.self.count in
    let one = length-u16_bytes (4 + length key + length rest) in
    let two = length-u16_bytes c.args.self.count in
    let head = length-append size count in
    let front = length-append (size ++ count) key in
    let fits = c.requires.fits in
    c.put_bytes-2.ensures
    ∙ ap (λ xs. with_bytes xs (at + 4 + length key) rest)
    (c.put_bytes.ensures
    ∙ ap (λ xs. with_bytes xs (at + 4) key) c.put.ensures
    ∙ with_bytes-then out (size ++ count) at (omega arith) key (at + 4) (omega arith) (omega arith))
    ∙ with_bytes-then out (size ++ count ++ key) at (omega arith) rest (at + 4 + length key) (omega arith) (omega arith)
