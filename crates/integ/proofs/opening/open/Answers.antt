use Rattle.std.proofs.Common.{◌≡◌, length, sym, ◌∙◌, arith}
use Rattle.host_model.specs.Units.{unit_bytes}
use Rattle.gds_header.proofs.EndingLemmas.{ending_kind-short}
use Rattle.integ.proofs.MapLemmas.{some_at}
use Rattle.integ.proofs.IntegLemmas.{opens-from}
use Rattle.integ.proofs.opening.open.Goals as goal

pub returns-then-size-clause-opens : goal.returns-then-size-clause-opens
returns-then-size-clause-opens g c x tells =
    let long = some_at (g.U.UnitSource.image c.args.units.now) (λ file. c.in_ok-size.size ≡ length file) x tells
    c.in_ok-size.ensures.length in
    ending_kind-short x (omega (arith, long, c.if-size.true))

pub returns-clause-opens : goal.returns-clause-opens
returns-clause-opens g c x tells =
    let long = some_at (g.U.UnitSource.image c.args.units.now) (λ file. c.in_ok-size.size ≡ length file) x tells
    c.in_ok-size.ensures.length in
    let front = some_at (g.U.UnitSource.image c.length.new.self) (λ file. c.unit.new.out ≡ unit_bytes file 0) x
    (c.in_ok-size.ensures.image ∙ tells) c.in_ok-unit.ensures.bytes in
    opens-from c.read_header.result x c.unit.new.out c.in_ok-size.size (sym front) (sym long)
    c.read_header.ensures.fields c.read_header.ensures.goes_on c.read_header.ensures.ends
