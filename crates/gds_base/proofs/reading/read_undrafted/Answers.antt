use Rattle.std.proofs.Common.{◌∙◌, ap, replicate, arith}
use Rattle.gds_header.specs.declared.header.Header.{Header}
use Rattle.gds_base.proofs.ReadingLemmas.{behind_end}
use Rattle.gds_base.proofs.reading.read_undrafted.Goals as goal

pub returns-clause-bytes : goal.returns-clause-bytes
returns-clause-bytes g c image is =
    let e = c.header.ensures in
    let h = c.args.units.now.header in
    let total = ap (λ (f : Header). f.total) e.header in
    behind_end image h h c.args.n c.fill.new.self (e.fields image is) (omega (arith, c.if-n-header.false, total))
    (c.fill.ensures.after (λ y same. same) ∙ ap (λ k. replicate k 0) c.requires.size)
