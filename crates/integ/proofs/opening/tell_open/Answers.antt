use Rattle.std.proofs.Common.{ℕ, List, ◌++◌, length, sym, ◌∙◌, ap, subst}
use Rattle.std.proofs.lemmas.List.{length-map}
use Rattle.gds_law.specs.Maps.{fault_of}
use Rattle.gds_law.specs.Sink.{IsCut}
use Rattle.gds_law.specs.declared.fault.Fault.{Fault}
use Rattle.gds_law.proofs.SinkLemmas.{OnErr-any}
use Rattle.integ.specs.Header.{open_kinds}
use Rattle.integ_walk.specs.Walk.{IsWalked}
use Rattle.integ.proofs.HeaderLemmas.{header-told}
use Rattle.integ.proofs.IntegLemmas.{header-refused, walk-refused, maps-refused, all-told, header-of}
use Rattle.integ.proofs.opening.tell_open.Goals as goal

pub walk-requires-clause-header : goal.walk-requires-clause-header
walk-requires-clause-header g c x tells =
    let is = c.requires.opens x tells in
    record { readable = is.goes_on; same = header-of x c.args.bytes.now c.args.header.now is }

pub map_faults-requires-clause-header : goal.map_faults-requires-clause-header
map_faults-requires-clause-header g c x tells =
    let is = c.requires.opens x (sym c.in_ok-seen.ensures.cause.image ∙ tells) in
    record { readable = is.goes_on; same = header-of x c.args.bytes.now c.args.header.now is }

pub returns-in_err-of_header-clause-refused : goal.returns-in_err-of_header-clause-refused
returns-in_err-of_header-clause-refused g c x tells =
    let is = c.requires.opens x tells in
    let old = g.F.FaultSink.listed c.args.sink.now in
    let new = g.F.FaultSink.listed c.tell_header.new.sink in
    let same = header-told x c.args.bytes.now c.args.header.now c.args.size is (c.requires.size x tells) in
    OnErr-any c.from_residual.result _
    (header-refused x is.goes_on old new
    (subst (λ (xs : List Fault). IsCut old new xs) (sym same) c.in_err-of_header.ensures.told.faults.some))

pub returns-in_err-seen-clause-refused : goal.returns-in_err-seen-clause-refused
returns-in_err-seen-clause-refused g c x tells =
    let is = c.requires.opens x tells in
    let old = g.F.FaultSink.listed c.args.sink.now in
    let same = header-told x c.args.bytes.now c.args.header.now c.args.size is (c.requires.size x tells) in
    OnErr-any c.from_residual-in_err-seen.result _
    (walk-refused x is.goes_on old (g.F.FaultSink.listed c.tell_header.new.sink) (g.F.FaultSink.listed c.walk.new.sink)
    (c.in_ok-of_header.ensures.told.faults.all ∙ ap (λ xs. old ++ xs) (sym same))
    (c.in_err-seen.ensures.refused x tells))

pub returns-in_err-of_maps-clause-refused : goal.returns-in_err-of_maps-clause-refused
returns-in_err-of_maps-clause-refused g c x tells =
    let is = c.requires.opens x tells in
    let old = g.F.FaultSink.listed c.args.sink.now in
    let now = g.F.FaultSink.listed c.tell_header.new.sink in
    let later = g.F.FaultSink.listed c.walk.new.sink in
    let same = header-told x c.args.bytes.now c.args.header.now c.args.size is (c.requires.size x tells) in
    let walked = subst (λ (used : List ℕ). IsWalked x now later used c.in_ok-seen.seen.faults)
    (sym c.as_slice.ensures.value) (c.in_ok-seen.ensures.walked x tells) in
    OnErr-any c.from_residual-in_err-of_maps.result _
    (maps-refused x is.goes_on old now later c.as_slice.result.now c.in_ok-seen.seen.faults
    (c.in_ok-of_header.ensures.told.faults.all ∙ ap (λ xs. old ++ xs) (sym same)) walked
    (g.F.FaultSink.listed c.map_faults.new.sink)
    (c.in_err-of_maps.ensures.told x (c.in_ok-seen.ensures.cause.image ∙ tells)).some)

pub returns-clause-told : goal.returns-clause-told
returns-clause-told g c x tells =
    let is = c.requires.opens x tells in
    let old = g.F.FaultSink.listed c.args.sink.now in
    let now = g.F.FaultSink.listed c.tell_header.new.sink in
    let later = g.F.FaultSink.listed c.walk.new.sink in
    let kinds = open_kinds c.args.header.now c.args.bytes.now c.args.size in
    let same = header-told x c.args.bytes.now c.args.header.now c.args.size is (c.requires.size x tells) in
    let walked = subst (λ (used : List ℕ). IsWalked x now later used c.in_ok-seen.seen.faults)
    (sym c.as_slice.ensures.value) (c.in_ok-seen.ensures.walked x tells) in
    let told = c.in_ok-seen.ensures.cause.image ∙ tells in
    all-told x is.goes_on old now later c.as_slice.result.now c.in_ok-seen.seen.faults
    (c.in_ok-of_header.ensures.told.faults.all ∙ ap (λ xs. old ++ xs) (sym same)) walked
    (g.F.FaultSink.listed c.map_faults.new.sink)
    c.in_ok-of_header.of_header c.in_ok-of_maps.of_maps
    (c.in_ok-of_header.ensures.count ∙ sym (length-map kinds (fault_of 0)) ∙ ap length (sym same))
    (c.in_ok-of_maps.ensures.told x told).all (c.in_ok-of_maps.ensures.count x told)
