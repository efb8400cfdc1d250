use Rattle.std.proofs.Common.{length, arith}
use Rattle.integ.proofs.RawFileLemmas.{unit_read, read_whole, place_small}
use Rattle.integ.proofs.raw_file.RawFileUnitSource.unit.Goals as goal

pub returns-in_default-clause-changed : goal.returns-in_default-clause-changed
returns-in_default-clause-changed g c unit is =
    place_small (g.H.Host.told c.args.self.now) c.args.unit (length c.args.out.now) c.in_ok-length.field-0
    c.requires c.in_ok-length.ensures.length (omega arith) c.in_default.ensures

pub returns-then-count-out-clause-changed : goal.returns-then-count-out-clause-changed
returns-then-count-out-clause-changed g c unit is =
    read_whole (g.H.Host.told c.args.self.now) c.args.unit c.in-Some.at c.in_ok-count.count c.args.out.now
    c.read.new.out c.requires c.in-Some.ensures.1
    (rw c.self.view_is at c.in_ok-count.ensures.bytes)
    (omega (arith, c.if-count-out.true, c.read.auto.out))

pub returns-clause-bytes : goal.returns-clause-bytes
returns-clause-bytes g c =
    unit_read (g.H.Host.told c.args.self.now) c.args.unit c.in-Some.at c.in_ok-count.count c.args.out.now
    c.read.new.out c.requires c.in-Some.ensures.1
    (rw c.self.view_is at c.in_ok-count.ensures.bytes)
    (omega (arith, c.if-count-out.false, c.read.auto.out)) c.in_ok-count.ensures.count c.read.auto.out
