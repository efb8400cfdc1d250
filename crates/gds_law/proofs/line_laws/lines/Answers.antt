-- Each line is computed.
use Rattle.std.proofs.Common.{refl}
use Rattle.std.specs.Fmt.{digits}
use Rattle.gds_law.specs.Line.{line_of}
use Rattle.gds_law.proofs.line_laws.lines.Goals as goal

pub returns-clause-file : goal.returns-clause-file
unfolding line_of digits
returns-clause-file c = refl

pub returns-clause-root : goal.returns-clause-root
unfolding line_of digits
returns-clause-root c = refl

pub returns-clause-block : goal.returns-clause-block
unfolding line_of digits
returns-clause-block c = refl

pub returns-clause-record_ : goal.returns-clause-record_
unfolding line_of digits
returns-clause-record_ c = refl

pub returns-clause-bitmap : goal.returns-clause-bitmap
unfolding line_of digits
returns-clause-bitmap c = refl

pub returns-clause-pair : goal.returns-clause-pair
unfolding line_of digits
returns-clause-pair c = refl
