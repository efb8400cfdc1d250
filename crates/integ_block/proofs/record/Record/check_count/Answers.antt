use Rattle.std.proofs.Common.{◌≡◌, true, false, length, sym, ◌∙◌, ap, arith}
use Rattle.std.specs.Prelude.{◌&&◌, not, nat_eq, nat_le}
use Rattle.std.proofs.lemmas.Bool.{ne_eqb, le-leb}
use Rattle.gds_law.specs.Record.{keyed_holds}
use Rattle.gds_law.specs.declared.kind.FaultKind.TheVariants.{FirstCount, CountTooLarge}
use Rattle.integ_block.specs.Entry.{seen}
use Rattle.integ_block.specs.BlockReading.{reading}
use Rattle.integ_block.proofs.EntryLemmas.{kinds_of-first, kinds_of-later}
use Rattle.integ_block.proofs.record.Record.check_count.Goals as goal

pub returns-then-self-gt0-clause-err : goal.returns-then-self-gt0-clause-err
returns-then-self-gt0-clause-err c =
    let b = reading c.args.self.now.reading in
    let s = seen c.args.self.now in
    let first = sym c.is_first.ensures ∙ c.if-is_first.true in
    let h : keyed_holds b s FirstCount ≡ true =
    ap (λ t. t && not (nat_eq s.record_.count 0)) first ∙ ap not (ne_eqb s.record_.count 0 (λ e. omega arith)) in
    kinds_of-first b s c.requires h

pub returns-then-self-as_slice-clause-err : goal.returns-then-self-as_slice-clause-err
returns-then-self-as_slice-clause-err c =
    let b = reading c.args.self.now.reading in
    let s = seen c.args.self.now in
    let later = sym c.is_first.ensures ∙ c.if-is_first.false in
    let first : keyed_holds b s FirstCount ≡ false = ap (λ t. t && not (nat_eq s.record_.count 0)) later in
    let h : keyed_holds b s CountTooLarge ≡ true =
    ap (λ t. not t && nat_le (length s.previous) s.record_.count) later
    ∙ le-leb (length s.previous) s.record_.count (omega (arith, ap length c.as_slice.ensures.value)) in
    kinds_of-later b s c.requires first h
