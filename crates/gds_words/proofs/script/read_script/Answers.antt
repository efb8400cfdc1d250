use Rattle.std.proofs.Common.{sym, ◌∙◌}
use Rattle.std.proofs.lemmas.Bool.{false≢true}
use Rattle.std.proofs.lemmas.Slice.Eq.{bytes_eq-Decides}
use Rattle.gds_words.proofs.FormLemmas.{none_asked}
use Rattle.gds_words.proofs.script.read_script.Goals as goal

pub returns-in_default-clause-none : goal.returns-in_default-clause-none
returns-in_default-clause-none c =
    none_asked c.args.line.now c.in_default.ensures.none
    (λ e. false≢true (sym c.if-eq.false ∙ c.eq.ensures
    ∙ (bytes_eq-Decides c.args.line.now c.as_slice.result.now).1 (e ∙ sym c.as_slice.ensures)))
