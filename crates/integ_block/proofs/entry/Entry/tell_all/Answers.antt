use Rattle.std.proofs.Common.{◌≡◌, ◌++◌, length, sym, ◌∙◌, ap}
use Rattle.std.specs.Prelude.{map, filter}
use Rattle.std.specs.Option.{option_to_list}
use Rattle.std.proofs.lemmas.List.{append-nil, map-append}
use Rattle.integ_block.specs.Entry.{seen, faults_here}
use Rattle.integ_block.specs.BlockReading.{reading, faults_at}
use Rattle.integ_block.specs.Child.{child_of}
use Rattle.gds_law.proofs.SinkLemmas.{IsCut-all, IsCut-none, IsCut-stop, Reached-none, Grew-ok, Grew-err, WasTold-ok}
use Rattle.gds_law.proofs.SinkLemmas.{WasTold-err, WasTold-handed}
use Rattle.std.proofs.lemmas.Result.{err_from_is_err_and}
use Rattle.gds_law.specs.Record.{holds}
use Rattle.gds_law.specs.declared.sink.SinkTrouble.TheVariants.{Failed}
use Rattle.integ_block.proofs.EntryLemmas.{entry_kinds}
use Rattle.integ_block.proofs.ReadLemmas.{kinds_of-read, Leaves-read, children-read}
use Rattle.integ_block.proofs.entry.Entry.tell_all.Given.{Over}
use Rattle.integ_block.proofs.entry.Entry.tell_all.Goals as goal
use Rattle.integ_block.proofs.entry.Entry.tell_all.Goals.{After-tell, in-Some+in_ok-push, in_default}

-- the same faults, as the record has them
told_here : (g : Over) (c : After-tell g) → faults_here c.args.self.record
    ≡ faults_at (reading c.args.self.record.reading) c.args.self.record.reading.at.now.path
    c.args.self.record.view.offset
    (filter (holds (reading c.args.self.record.reading) (seen c.args.self.record)) entry_kinds)
told_here g c =
    let e = c.args.self in
    let b = reading e.record.reading in
    ap (faults_at b e.record.reading.at.now.path e.record.view.offset)
    (kinds_of-read b (seen e.record) e.key e.rest.now e.fault c.requires)

pub returns-in_err-count-clause-told : goal.returns-in_err-count-clause-told
returns-in_err-count-clause-told g c =
    let p = err_from_is_err_and c.from_residual.result c.from_residual.ensures.1 in
    rw (told_here g (goal.at.returns-in_err-count-clause-told g c).After-tell)
    (WasTold-handed g.F.FaultSink.listed g.F.FaultSink.failures c.args.sink.now c.tell.new.sink _ Failed _
    c.from_residual.result Failed p.0
    c.in_err-count.ensures.told p.1 (λ e. sym p.2 ∙ e))

pub returns-in_err-count-clause-children : goal.returns-in_err-count-clause-children
returns-in_err-count-clause-children g c =
    let p = err_from_is_err_and c.from_residual.result c.from_residual.ensures.1 in
    Grew-err _ _ _ c.from_residual.result p.0 p.1 (IsCut-none _ _)

pub returns-in_err-push-clause-told : goal.returns-in_err-push-clause-told
returns-in_err-push-clause-told g c =
    let p = err_from_is_err_and c.from_residual-in_err-push.result c.from_residual-in_err-push.ensures.1 in
    rw (told_here g (goal.at.returns-in_err-push-clause-told g c).After-tell)
    (WasTold-err g.F.FaultSink.listed g.F.FaultSink.failures c.args.sink.now c.tell.new.sink _
    c.from_residual-in_err-push.result Failed p.0 p.1
    (IsCut-all _ _ _ c.in_ok-count.ensures.told.faults.all) c.in_ok-count.ensures.told.failures (λ e. let no = sym p.2
    ∙ e in absurd (cc)))

pub returns-in_err-push-clause-children : goal.returns-in_err-push-clause-children
returns-in_err-push-clause-children g c =
    let p = err_from_is_err_and c.from_residual-in_err-push.result c.from_residual-in_err-push.ensures.1 in
    Grew-err _ _ _ c.from_residual-in_err-push.result p.0 p.1
    (IsCut-stop _ _ _ _ _ 0 (Reached-none _ _) (ap (map child_of) c.in_err-push.ensures.items))

pub returns-clause-told : goal.returns-clause-told
returns-clause-told g c =
    let same = told_here g (goal.at.returns-clause-told g c).After-tell in
    WasTold-ok g.F.FaultSink.listed g.F.FaultSink.failures c.args.sink.now c.tell.new.sink _ _ Failed
    (c.in_ok-count.ensures.told.faults.all ∙ ap (λ xs. g.F.FaultSink.listed c.args.sink.now ++ xs) (sym same))
    c.in_ok-count.ensures.told.failures

pub returns-clause-count : goal.returns-clause-count
returns-clause-count g c =
    let e = c.args.self in
    c.in_ok-count.ensures.count
    ∙ ap length (sym (kinds_of-read (reading e.record.reading) (seen e.record) e.key e.rest.now e.fault c.requires))

pub returns-clause-leaves : goal.returns-clause-leaves
returns-clause-leaves g c =
    let e = c.args.self in
    Leaves-read (reading e.record.reading) (seen e.record) e.key e.rest.now e.fault c.requires

pub returns-clause-children : goal.returns-clause-children
returns-clause-children g c =
    let e = c.args.self in
    let b = reading e.record.reading in
    let s = seen e.record in
    let before = map child_of c.args.children.now.items in
    let here = c.child.ensures ∙ children-read b s e.key e.rest.now e.fault c.requires in
    Grew-ok _ _ _ _
    (elim c.match-child.branch [
      | in-Some+in_ok-push w ↦
          let i = w.in-Some.is in
          ap (λ (v : _). map child_of v.items) w.children-is ∙ ap (map child_of) w.in_ok-push.ensures.items
          ∙ map-append child_of _ _
          ∙ ap (λ o. before ++ map child_of (option_to_list o)) (sym w.in-Some.is) ∙ ap (λ xs. before ++ xs) here
      | in_default w ↦
          let i = w.in_default.is in
          ap (λ (v : _). map child_of v.items) w.children-is ∙ sym (append-nil before)
          ∙ ap (λ o. before ++ map child_of (option_to_list o)) (sym w.in_default.is) ∙ ap (λ xs. before ++ xs) here
    ])
