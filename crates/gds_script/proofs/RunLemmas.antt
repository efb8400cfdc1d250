-- Lines that are answered one after another: one more, and how many changes the answers may tell.
use Rattle.std.proofs.Common.{◌≡◌, ℕ, ◌≤◌, List, [], ◌∷◌, ◌++◌, Contains}
use Rattle.std.proofs.Common.{zero, suc, ◌<◌, get_or, refl, sym, ap, subst, ◌∙◌, arith}
use Rattle.std.proofs.Common.{inl, inr, ⊎_elim}
use Rattle.std.proofs.lemmas.List.Elements.{Contains-append_cases, Contains-push}
use Rattle.gds_words.specs.Script.{Asks, Request, epoch}
use Rattle.gds_words.specs.Script as asked
use Rattle.gds_script.specs.declared.answer.Answer.{Answer}
use Rattle.gds_script.specs.declared.answer.Answer.TheVariants.{BadLine, Epoch}
use Rattle.gds_script.specs.Script.{Answers, Runs, State, Steps}
use Rattle.gds_script.proofs.EpochLemmas.{IsOther, other_answer}
use Rattle.gds_script.proofs.StepLemmas.{OneRequest, step_made}

-- one line more
pub runs_more : (a b c : State) (lines : List (List ℕ)) (answers : List Answer) (line : List ℕ) (answer : Answer)
    → Runs a lines answers b → Steps b line answer c → Runs a (lines ++ line ∷ []) (answers ++ answer ∷ []) c
runs_more a b c [] [] line answer run step = (c, subst (λ s. Steps s line answer c) run step, refl)
runs_more a b c (first ∷ lines) (reply ∷ answers) line answer run step =
    (run.0, run.1, runs_more run.0 b c lines answers line answer run.2 step)
runs_more a b c [] (reply ∷ answers) line answer run step = absurd run
runs_more a b c (first ∷ lines) [] line answer run step = absurd run

-- the last of some lines, with its answer
pub record EndsRun (a b : State) (lines : List (List ℕ)) (line : List ℕ) (answers : List Answer) : Type 0 where
  pub front : List Answer
  pub last : Answer
  pub mid : State
  pub answers_are : answers ≡ front ++ last ∷ []
  pub runs : Runs a lines front mid
  pub step : Steps mid line last b

pub runs_last : (a b : State) (lines : List (List ℕ)) (line : List ℕ) (answers : List Answer)
    → Runs a (lines ++ line ∷ []) answers b → EndsRun a b lines line answers
runs_last a b [] line [] run = absurd run
runs_last a b [] line (answer ∷ []) run = record {
  front = [];
  last = answer;
  mid = a;
  answers_are = refl;
  runs = refl;
  step = subst (λ s. Steps a line answer s) (sym run.2) run.1;
}
runs_last a b [] line (answer ∷ (other ∷ answers)) run = absurd run.2
runs_last a b (first ∷ lines) line [] run = absurd run
runs_last a b (first ∷ lines) line (answer ∷ answers) run =
    let rest = runs_last run.0 b lines line answers run.2 in record {
      front = answer ∷ rest.front;
      last = rest.last;
      mid = rest.mid;
      answers_are = ap (λ all. answer ∷ all) rest.answers_are;
      runs = (run.0, run.1, rest.runs);
      step = rest.step;
    }

-- An EPOCH as the last line tells the number of changes.
epoch_step : OneRequest → (a b : State) (line : List ℕ) (answer : Answer) → Asks line epoch → Steps a line answer b
    → answer ≡ Epoch b.changes
epoch_step one a b line answer asks =
    ⊎_elim
    (λ (is : (request : Request) × Asks line request × Answers request a answer b).
    let same : is.0 ≡ epoch = one line is.0 epoch is.1 asks in
    let ends = subst (λ request. Answers request a answer b) same is.2 in
    ends.0 ∙ ap (λ (s : State). Epoch s.changes) (sym ends.1))
    (λ (none : ((request : Request) → Asks line request → ⊥) × (answer ≡ BadLine) × (b ≡ a)).
    absurd (none.0 epoch asks))

pub last_epoch : OneRequest → (a b : State) (lines : List (List ℕ)) (line : List ℕ) (answers : List Answer)
    → Asks line epoch → Runs a (lines ++ line ∷ []) answers b → Contains answers (Epoch b.changes)
last_epoch one a b lines line answers asks run =
    let ends = runs_last a b lines line answers run in
    let last = epoch_step one ends.mid b line ends.last asks ends.step in
    subst (λ all. Contains all (Epoch b.changes))
    (sym (ends.answers_are ∙ ap (λ answer. ends.front ++ answer ∷ []) last))
    (Contains-push ends.front (Epoch b.changes))

-- ---- the numbers of changes that EPOCH lines tell

-- An answer that tells a number of changes tells no greater one.
abbrev pub TellsFew : Answer → ℕ → Type 0
TellsFew (Epoch n) changes = n ≤ changes
TellsFew answer changes = Unit {0}

few_if_other : (answer : Answer) (changes : ℕ) → IsOther answer → TellsFew answer changes
few_if_other (Epoch n) changes never = absurd never
few_if_other answer changes other = tt

few_if_epoch : (answer : Answer) (old new : State) → answer ≡ Epoch old.changes → new ≡ old
    → TellsFew answer new.changes
few_if_epoch answer old new is same =
    let no_less : old.changes ≤ new.changes = omega (arith, ap (λ s. s.changes) same) in
    subst (λ a. TellsFew a new.changes) (sym is) no_less

few_if_asked : (request : Request) (old new : State) (answer : Answer) → Answers request old answer new
    → TellsFew answer new.changes
few_if_asked epoch old new answer is = few_if_epoch answer old new is.0 is.1
few_if_asked (asked.set node value) old new answer is =
    few_if_other answer new.changes (other_answer (asked.set node value) old new answer tt is)
few_if_asked (asked.kill node) old new answer is =
    few_if_other answer new.changes (other_answer (asked.kill node) old new answer tt is)
few_if_asked (asked.get node) old new answer is =
    few_if_other answer new.changes (other_answer (asked.get node) old new answer tt is)
few_if_asked (asked.order node first) old new answer is =
    few_if_other answer new.changes (other_answer (asked.order node first) old new answer tt is)
few_if_asked (asked.data_of node) old new answer is =
    few_if_other answer new.changes (other_answer (asked.data_of node) old new answer tt is)
few_if_asked (asked.query node) old new answer is =
    few_if_other answer new.changes (other_answer (asked.query node) old new answer tt is)

step_tells_few : (line : List ℕ) (old new : State) (answer : Answer) → Steps old line answer new
    → TellsFew answer new.changes
step_tells_few line old new answer (inl is) = few_if_asked is.0 old new answer is.2
step_tells_few line old new answer (inr is) = subst (λ a. TellsFew a new.changes) (sym is.1) tt

-- changes only come
pub runs_changes : OneRequest → (lines : List (List ℕ)) (answers : List Answer) (old new : State)
    → Runs old lines answers new → old.changes ≤ new.changes
runs_changes one [] [] old new run = omega (arith, ap (λ s. s.changes) run)
runs_changes one (line ∷ lines) (answer ∷ answers) old new run =
    let later = runs_changes one lines answers run.0 new run.2 in
    let made = step_made one line answer old run.0 run.1 in omega (arith, later, made.changes_are)
runs_changes one [] (answer ∷ answers) old new run = absurd run
runs_changes one (line ∷ lines) [] old new run = absurd run

only_at : (a b : Answer) (k : ℕ) → k < 1 → get_or (a ∷ []) k b ≡ b → a ≡ b
only_at a b zero low is = is
only_at a b (suc k) low is = absurd (omega (arith, low))

only_one : (a b : Answer) → Contains (a ∷ []) b → a ≡ b
only_one a b is = only_at a b is.0 is.1 is.2

-- No EPOCH tells more changes than were made.
pub epochs_few : OneRequest → (lines : List (List ℕ)) (answers : List Answer) (old new : State) (n : ℕ)
    → Runs old lines answers new → Contains answers (Epoch n) → n ≤ new.changes
epochs_few one [] [] old new n run has = absurd (omega (arith, has.1))
epochs_few one (line ∷ lines) (answer ∷ answers) old new n run has =
    ⊎_elim
    (λ (here : Contains (answer ∷ []) (Epoch n)).
    let few = step_tells_few line old run.0 answer run.1 in
    let is : answer ≡ Epoch n = only_one answer (Epoch n) here in
    let this : n ≤ run.0.changes = subst (λ a. TellsFew a run.0.changes) is few in
    omega (arith, this, runs_changes one lines answers run.0 new run.2))
    (λ (later : Contains answers (Epoch n)). epochs_few one lines answers run.0 new n run.2 later)
    (Contains-append_cases (answer ∷ []) answers (Epoch n) has)
epochs_few one [] (answer ∷ answers) old new n run has = absurd run
epochs_few one (line ∷ lines) [] old new n run has = absurd run
