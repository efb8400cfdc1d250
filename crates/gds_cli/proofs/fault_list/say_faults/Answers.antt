use Rattle.std.proofs.Common.{◌+◌, ◌∙◌, ◌++◌, sym, ap}
use Rattle.std.proofs.lemmas.Result.{err_from_is_err_and}
use Rattle.host_model.proofs.FailureLemmas.{NeverFell-trans}
use Rattle.gds_cli.specs.FaultText.{fault_line, fault_text}
use Rattle.gds_cli.proofs.SayingLemmas.{on_break, texts_more, said_last, waits_more, waits_less, waits_front}
use Rattle.gds_cli.proofs.SayingLemmas.{waits_broken}
use Rattle.gds_cli.proofs.FaultsDueLemmas.{rest_of, text_of}
use Rattle.gds_cli.proofs.fault_list.say_faults.Goals as goal

pub returns-in_err-write_fault-clause-said : goal.returns-in_err-write_fault-clause-said
returns-in_err-write_fault-clause-said g c x tells =
    let faults = c.args.faults.now in
    let i = c.loop-fault.fault-index in
    let p = err_from_is_err_and c.from_residual.result c.from_residual.ensures.1 in
    on_break x (fault_text faults) _ p.0 _ p.1
    (waits_front x _ _ _ (c.loop-fault.invariant.said x tells) _ (fault_text faults) (rest_of faults i))

pub returns-in_err-say_piece-clause-said : goal.returns-in_err-say_piece-clause-said
returns-in_err-say_piece-clause-said g c x tells =
    let faults = c.args.faults.now in
    let i = c.loop-fault.fault-index in
    let longer =
    waits_more x _ _ _ (c.loop-fault.invariant.said x tells) _ _ _ c.in_ok-write_fault.ensures
    (texts_more fault_line faults i c.fault-item.result c.loop-fault-test.true c.fault-item.is) in
    let p = err_from_is_err_and c.from_residual-in_err-say_piece.result c.from_residual-in_err-say_piece.ensures.1 in
    on_break x (fault_text faults) _ p.0 _ p.1
    (waits_broken x _ _ _ longer _ _ (fault_text faults) (c.in_err-say_piece.ensures.said _ longer.1)
    (rest_of faults (i + 1)))

pub loop-fault-preserved : goal.loop-fault-preserved
loop-fault-preserved g c = record {
  said = λ x tells.
      let faults = c.args.faults.now in
      let i = c.loop-fault.fault-index in
      let longer =
      waits_more x _ _ _ (c.loop-fault.invariant.said x tells) _ _ _ c.in_ok-write_fault.ensures
      (texts_more fault_line faults i c.fault-item.result c.loop-fault-test.true c.fault-item.is) in
      waits_less x _ _ _ longer _ _ (c.in_ok-say_piece.ensures.said _ longer.1);
  failures = NeverFell-trans _ _ _ c.loop-fault.invariant.failures c.in_ok-say_piece.ensures.failures;
}

pub returns-in_err-write_count-clause-said : goal.returns-in_err-write_count-clause-said
returns-in_err-write_count-clause-said g c x tells =
    let faults = c.args.faults.now in
    let i = c.loop-fault.fault-index in
    let p =
    err_from_is_err_and c.from_residual-in_err-write_count.result c.from_residual-in_err-write_count.ensures.1 in
    on_break x (fault_text faults) _ p.0 _ p.1
    (waits_front x _ _ _ (c.loop-fault.invariant.said x tells) _ (fault_text faults) (rest_of faults i))

pub returns-clause-said : goal.returns-clause-said
returns-clause-said g c x tells =
    let faults = c.args.faults.now in
    let i = c.loop-fault.fault-index in
    let whole =
    waits_more x _ _ _ (c.loop-fault.invariant.said x tells) _ _ (fault_text faults) c.in_ok-write_count.ensures
    (text_of faults i c.loop-fault-test.false) in
    said_last x whole.0 c.as_bytes.result.now (fault_text faults) _ _ (c.say_text.ensures.said _ whole.1)
    (whole.2 ∙ ap (λ t. whole.0 ++ t) (sym c.as_bytes.ensures.value))
