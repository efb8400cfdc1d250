use Rattle.std.proofs.Common.{true, false, refl, sym, ◌∙◌, ap}
use Rattle.std.specs.Option.{option_to_list}
use Rattle.integ.proofs.PairLemmas.{busy_kinds, illegal_kinds, free_kinds, none_past, past_kinds, of_pair}
use Rattle.integ.proofs.pairs.pair_fault.Goals as goal

pub returns-in-Illegal : goal.returns-in-Illegal
returns-in-Illegal c pair is =
    of_pair true c.args.is_used c.args.is_present c.args.is_used _ pair _ (illegal_kinds c.args.is_used)
    c.if-is_present.true refl (sym c.in-Illegal.is ∙ is)

pub returns-in-Busy : goal.returns-in-Busy
returns-in-Busy c pair is =
    of_pair true c.args.is_used c.args.is_present c.args.is_used _ pair _
    (ap option_to_list c.then_some.ensures ∙ busy_kinds c.args.is_used) c.if-is_present.true refl
    (sym c.in-Busy.is ∙ is)

pub returns-in-New : goal.returns-in-New
returns-in-New c pair is =
    of_pair true c.args.is_used c.args.is_present c.args.is_used c.args.state pair _
    (ap option_to_list c.then_some-in-New.ensures ∙ free_kinds c.args.state c.args.is_used c.in-New.is)
    c.if-is_present.true refl is

pub returns-in-Busy-state : goal.returns-in-Busy-state
returns-in-Busy-state c pair is =
    of_pair false c.args.is_used c.args.is_present c.args.is_used _ pair _ (none_past c.args.is_used)
    c.if-is_present.false refl (sym c.in-Busy-state.is ∙ is)

pub returns-in_default : goal.returns-in_default
returns-in_default c pair is =
    of_pair false c.args.is_used c.args.is_present c.args.is_used c.args.state pair _
    (past_kinds c.args.state c.args.is_used c.in_default.not-Busy) c.if-is_present.false refl is
