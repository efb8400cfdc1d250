use Rattle.std.proofs.Common.{◌∙◌, Err, None, Some, ap, sym}
use Rattle.std.specs.Option.{option_copied}
use Rattle.std.proofs.lemmas.Result.{err_from_is_err_and}
use Rattle.gds_units.specs.State.{image_of}
use Rattle.gds_globals.proofs.AskLemmas.{none_there, value_there}
use Rattle.gds_globals.proofs.EndingLemmas.{passed_on}
use Rattle.gds_globals.proofs.asking.value_of.Goals as goal

pub returns-in_err-value-clause-ends : goal.returns-in_err-value-clause-ends
returns-in_err-value-clause-ends g c =
    let h = g.H.Host in
    let same = ap image_of c.find.ensures.read.rest in
    let exit = err_from_is_err_and c.from_residual-in_err-value.result c.from_residual-in_err-value.ensures.1 in
    passed_on _ _ (h.failures c.args.base.now.host) (h.failures c.find.new.base.host)
    (h.failures c.value_at.follows.lender-at-none.host) _ _ c.find.ensures.read.read.failures
    (none_there (image_of c.args.base.now) c.args.draft.now (image_of c.find.new.base) same c.args.root c.args.key.now
    c.find.new.trail c.in_ok-find.ensures.found) c.value_at.result c.from_residual-in_err-value.result
    c.in_err-value.field-0.0 c.value_at.follows.holds-at-none.ends c.in_err-value.was (exit.1 ∙ ap Err exit.2)

pub returns-in_default-clause-value : goal.returns-in_default-clause-value
returns-in_default-clause-value g c =
    value_there (image_of c.args.base.now) c.args.draft.now (image_of c.find.new.base)
    (ap image_of c.find.ensures.read.rest) c.args.root c.args.key.now c.find.new.trail c.in_ok-find.ensures.found
    (option_copied c.in_ok-value.field-0) None (ap option_copied c.in_default.is) c.in_ok-value.ensures.value

pub returns-clause-value : goal.returns-clause-value
returns-clause-value g c =
    value_there (image_of c.args.base.now) c.args.draft.now (image_of c.find.new.base)
    (ap image_of c.find.ensures.read.rest) c.args.root c.args.key.now c.find.new.trail c.in_ok-find.ensures.found
    (option_copied c.in_ok-value.field-0) (Some c.in_ok-from_slice.field-0.items)
    (ap option_copied c.in-Some.is ∙ ap Some (sym c.in_ok-from_slice.ensures.items)) c.in_ok-value.ensures.value
