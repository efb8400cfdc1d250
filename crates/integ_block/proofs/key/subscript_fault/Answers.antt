use Rattle.std.proofs.Common.{sym}
use Rattle.integ_block.proofs.KeyLemmas.{is_number_then}
use Rattle.integ_block.proofs.key.subscript_fault.Goals as goal

pub returns-in-None : goal.returns-in-None
returns-in-None c = sym (is_number_then c.args.part.now c.in-None.ensures.cases (sym c.if-is_number.ensures))
