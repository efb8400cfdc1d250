-- How answering a line ends.
use Rattle.std.proofs.Common.{◌≡◌, ℕ, List, ◌∷◌, ◌++◌, length, take, Option, Err, sym, ap, subst}
use Rattle.std.proofs.Common.{◌∙◌, refl, inl, take_at}
use Rattle.std.proofs.lemmas.Grind.{flat_map-append}
use Rattle.host_model.specs.Files.{Contents}
use Rattle.gds_units.specs.State.{UnitsState}
use Rattle.gds_words.specs.Script.{Asks, Request}
use Rattle.gds_script.specs.declared.answer.Answer.{Answer}
use Rattle.gds_script.specs.Answer.{answer_line, answer_lines}
use Rattle.gds_script.specs.Script.{Answers, State}
use Rattle.gds_script.proofs.KeptLemmas.{IsNoEpoch}
use Rattle.gds_script.proofs.StepLemmas.{OneRequest}
use Rattle.gds_run.specs.declared.error.RunError.{RunError}
use Rattle.gds_run.specs.declared.error.RunError.TheVariants.{SayFault}
use Rattle.gds_run.specs.Progress.{GoesOn, IsCutShort, Origin, Progress}
use Rattle.gds_run.specs.Request.{IsAnswered, IsStateOf}
use Rattle.gds_run.proofs.AnsweredLemmas.{unchanged}

module _ {H : Type 0} (tells : H → Option Contents) (moment : H → ℕ) (left_since : H → ℕ → Contents → Type 0)
    (o : Origin H) (line : List ℕ) (rest : List (List ℕ)) (base : UnitsState H) (waits : List ℕ) (changes : ℕ) where
  -- Nothing of what waits was said.
  cut_now : Progress tells moment left_since o (line ∷ rest) base waits changes
      → IsCutShort tells moment left_since o base.host
  cut_now p = record {
    lines = p.done.told_lines ++ p.done.waiting_lines;
    rest = line ∷ rest;
    script_is = p.script_is;
    answers = p.done.told ++ p.done.waiting;
    state = p.state;
    runs = p.runs;
    contents = p.contents;
    host_tells = p.host_tells;
    n = length (answer_lines p.done.told);
    said_is = p.said_is ∙ ap (λ bytes. o.said ++ bytes)
        (sym (take_at (answer_lines p.done.told) (answer_lines p.done.waiting) (length (answer_lines p.done.told)) refl)
        ∙ ap (take (length (answer_lines p.done.told)))
        (sym (flat_map-append answer_line p.done.told p.done.waiting)));
    only = p.only;
  }

  -- The line isn't answered.
  pub left_over : (error : RunError) → Progress tells moment left_since o (line ∷ rest) base waits changes
      → GoesOn tells moment left_since o {T = Unit {0}} line rest base waits changes (Err error)
  left_over SayFault p = cut_now p
  left_over error p = p

  -- Saying failed.
  pub said_short : (error : RunError) → error ≡ SayFault → IsCutShort tells moment left_since o base.host
      → GoesOn tells moment left_since o {T = Unit {0}} line rest base waits changes (Err error)
  said_short error is cut =
      subst (λ e. GoesOn tells moment left_since o {T = Unit {0}} line rest base waits changes (Err e)) (sym is) cut

  -- A request was answered, and the image stays.
  pub answered : (one : OneRequest) (old : UnitsState H) (request : Request) (answer : Answer) → Asks line request
      → IsAnswered old base request answer
      → ((state : State) → Answers request state answer state → IsNoEpoch answer)
      → Progress tells moment left_since o (line ∷ rest) base waits changes
      → Progress tells moment left_since o rest base (waits ++ answer_line answer) changes
  answered one old request answer asks is none p =
      let state : IsStateOf old p.state = record { image_is = sym is.0 ∙ p.image_is; stands = p.stands } in
      let answers = is.1 p.state state in
      unchanged tells moment left_since one o line rest base waits changes p answer (none p.state answers)
      (inl (request, asks, answers))
