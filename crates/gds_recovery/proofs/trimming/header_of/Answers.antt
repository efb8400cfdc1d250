use Rattle.std.proofs.Common.{arith}
use Rattle.gds_header.specs.Kinds.{kind_of}
use Rattle.gds_recovery.proofs.TrimLemmas.{read_readable, read_short}
use Rattle.gds_recovery.proofs.trimming.header_of.Goals as goal

pub returns-then-file_length-clause-some : goal.returns-then-file_length-clause-some
returns-then-file_length-clause-some c file begins len =
    let test = c.if-file_length.true in
    let n = c.file_length.ensures in
    read_readable c.in-Ok.header c.args.bytes.now file begins c.in-Ok.ensures.fields
    (c.in-Ok.ensures.file_ok file begins)
    (omega arith)

pub returns-else-file_length-clause-none : goal.returns-else-file_length-clause-none
returns-else-file_length-clause-none c file begins len =
    let test = c.if-file_length.false in
    let n = c.file_length.ensures in
    read_short c.in-Ok.header file (c.in-Ok.ensures.file_ok file begins) (omega arith)

pub returns-in-Err-clause-none : goal.returns-in-Err-clause-none
returns-in-Err-clause-none c file begins len =
    record { kind = kind_of c.in-Err.field-0; ends = c.in-Err.ensures.file_err file begins }
