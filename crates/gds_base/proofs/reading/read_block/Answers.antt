use Rattle.std.proofs.Common.{◌∙◌, Err, ap}
use Rattle.std.proofs.lemmas.Result.{err_from_is_err_and}
use Rattle.gds_law.proofs.UnitLemmas.{unit_is}
use Rattle.gds_base.proofs.ReadingLemmas.{block_is_unit, reading_ends}
use Rattle.gds_base.proofs.reading.read_block.Goals as goal

pub unit-requires : goal.unit-requires
unit-requires g c image is =
    let e = c.header-header.ensures in
    block_is_unit image c.args.units.now.header c.args.n _ (e.image image is) (e.fields image is) c.requires.there
    c.requires.size

pub returns-in_err-unit-clause-ends : goal.returns-in_err-unit-clause-ends
returns-in_err-unit-clause-ends g c =
    let h = g.H.Host in
    let exit = err_from_is_err_and c.from_residual.result c.from_residual.ensures.1 in
    reading_ends (h.told c.args.units.now.host) _ (h.failures c.args.units.now.host)
    (h.failures c.unit.new.self.host) c.in_err-unit.field-0.0 c.from_residual.result c.hold_told.ensures.untold
    c.in_err-unit.ensures.cause (exit.1 ∙ ap Err exit.2)

pub returns-clause-bytes : goal.returns-clause-bytes
returns-clause-bytes g c image is = c.in_ok-unit.ensures.bytes image is ∙ unit_is image c.args.n
