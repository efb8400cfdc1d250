use Rattle.std.proofs.Common.{◌≡◌, List, [], ◌∷◌, length, ltb, subst}
use Rattle.std.specs.Prelude.{map, IfOk}
use Rattle.gds_law.specs.Maps.{fault_of}
use Rattle.gds_law.specs.Sink.{WasTold}
use Rattle.gds_law.specs.declared.kind.FaultKind.{FaultKind}
use Rattle.gds_law.specs.declared.kind.FaultKind.TheVariants.{LongFile, ReservedByte, BadTransactionNumber}
use Rattle.gds_law.specs.declared.sink.SinkTrouble.TheVariants.{Failed}
use Rattle.integ.specs.Header.{open_kinds}
use Rattle.integ.specs.Standing.{standing}
use Rattle.integ.proofs.header.tell_header.Goals as goal

pub returns-clause-told : goal.returns-clause-told
unfolding open_kinds
returns-clause-told g c =
    let due : List FaultKind
    → Type 0 = λ ks. WasTold g.F.FaultSink.listed g.F.FaultSink.failures c.args.sink.now
    c.tell_standing.new.sink (map (fault_of 0) ks) c.tell_standing.result Failed in
    subst due
    (λ i. standing ((LongFile, ltb (c.file_length.ensures i) c.args.size) ∷ (ReservedByte, c.is_marked.ensures i)
    ∷ (BadTransactionNumber, c.is_bad_number.ensures i) ∷ []))
    c.tell_standing.ensures.told

pub returns-clause-count : goal.returns-clause-count
unfolding open_kinds
returns-clause-count g c =
    let due : List FaultKind → Type 0 = λ ks. IfOk c.tell_standing.result (λ count. count ≡ length ks) in
    subst due
    (λ i. standing ((LongFile, ltb (c.file_length.ensures i) c.args.size) ∷ (ReservedByte, c.is_marked.ensures i)
    ∷ (BadTransactionNumber, c.is_bad_number.ensures i) ∷ []))
    c.tell_standing.ensures.count
