use Rattle.std.proofs.Common.{◌≡◌, ◌+◌, true, length, ap, arith}
use Rattle.std.specs.Prelude.{not}
use Rattle.std.proofs.lemmas.Bool.{ne_eqb}
use Rattle.gds_law.specs.Record.{last_holds}
use Rattle.gds_law.specs.declared.kind.FaultKind.TheVariants.{StarSize}
use Rattle.integ_block.specs.Entry.{seen}
use Rattle.integ_block.specs.BlockReading.{reading}
use Rattle.integ_block.proofs.EntryLemmas.{kinds_of-star}
use Rattle.integ_block.proofs.record.Record.read_star.Goals as goal

pub returns-then-self-ne4-clause-err : goal.returns-then-self-ne4-clause-err
returns-then-self-ne4-clause-err c =
    let s = seen c.args.self in
    let h : last_holds s StarSize ≡ true =
    ap not (ne_eqb (4 + length s.record_.body) 8 (λ e. c.if-self-ne4.true (omega arith))) in
    kinds_of-star (reading c.args.self.reading) s c.requires h
