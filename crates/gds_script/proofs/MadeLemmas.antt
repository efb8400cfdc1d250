-- The changes that answers tell of: one line more, lines joined and parted, and what was said of them.
use Rattle.std.proofs.Common.{◌≡◌, ℕ, ◌+◌, List, [], ◌∷◌, ◌++◌, length, map, Option, None, Some, refl, sym, ap, subst}
use Rattle.std.proofs.Common.{◌∙◌, arith}
use Rattle.std.proofs.lemmas.List.{append-nil}
use Rattle.m_key.specs.Globals.{Change, Globals, after, after_all}
use Rattle.gds_script.specs.declared.answer.Answer.{Answer}
use Rattle.gds_script.specs.Answer.{answer_text}
use Rattle.gds_script.specs.Made.{AreMade, AreTold}
use Rattle.gds_script.specs.Said.{Accepts, AreAccepted, with_change}
use Rattle.gds_script.specs.Script.{Runs, State}
use Rattle.gds_script.proofs.StepLemmas.{OneRequest, step_made}

-- ---- changes

pub with_change-append : (change : Option Change) (xs ys : List Change)
    → with_change change xs ++ ys ≡ with_change change (xs ++ ys)
with_change-append None xs ys = refl
with_change-append (Some change) xs ys = refl

-- one change more, or none
abbrev pub changed : List Change → Option Change → List Change
changed changes change = changes ++ with_change change []

pub after_all-append : (m : Globals) (xs ys : List Change) → after_all m (xs ++ ys) ≡ after_all (after_all m xs) ys
after_all-append m [] ys = refl
after_all-append m (x ∷ xs) ys = after_all-append (after m x) xs ys

-- ---- one line more

pub are_made_none : AreMade [] [] []
are_made_none = refl

pub are_made_more : (lines : List (List ℕ)) (answers : List Answer) (changes : List Change) (line : List ℕ)
    (answer : Answer) (change : Option Change) → AreMade lines answers changes
    → Accepts line (answer_text answer) change
    → AreMade (lines ++ line ∷ []) (answers ++ answer ∷ []) (changed changes change)
are_made_more [] [] changes line answer change made accepts =
    (change, [], ap (λ xs. xs ++ with_change change []) made, accepts, refl)
are_made_more (first ∷ lines) (reply ∷ answers) changes line answer change made accepts = (
  made.0,
  changed made.1 change,
  ap (λ xs. changed xs change) made.2
      ∙ with_change-append made.0 made.1 (with_change change []),
  made.3,
  are_made_more lines answers made.1 line answer change made.4 accepts,
)
are_made_more [] (reply ∷ answers) changes line answer change made accepts = absurd made
are_made_more (first ∷ lines) [] changes line answer change made accepts = absurd made

-- a line that asks for no change, or is refused
pub are_made_kept : (lines : List (List ℕ)) (answers : List Answer) (changes : List Change) (line : List ℕ)
    (answer : Answer) → AreMade lines answers changes → Accepts line (answer_text answer) None
    → AreMade (lines ++ line ∷ []) (answers ++ answer ∷ []) changes
are_made_kept lines answers changes line answer made accepts =
    subst (λ xs. AreMade (lines ++ line ∷ []) (answers ++ answer ∷ []) xs) (append-nil changes)
    (are_made_more lines answers changes line answer None made accepts)

-- ---- lines joined and parted

pub are_made_joined : (lines more : List (List ℕ)) (answers replies : List Answer) (changes others : List Change)
    → AreMade lines answers changes → AreMade more replies others
    → AreMade (lines ++ more) (answers ++ replies) (changes ++ others)
are_made_joined [] more [] replies changes others made rest =
    subst (λ xs. AreMade more replies (xs ++ others)) (sym made) rest
are_made_joined (line ∷ lines) more (answer ∷ answers) replies changes others made rest = (
  made.0,
  made.1 ++ others,
  ap (λ xs. xs ++ others) made.2 ∙ with_change-append made.0 made.1 others,
  made.3,
  are_made_joined lines more answers replies made.1 others made.4 rest,
)
are_made_joined [] more (answer ∷ answers) replies changes others made rest = absurd made
are_made_joined (line ∷ lines) more [] replies changes others made rest = absurd made

-- The first of the answers are those of some first lines, and tell of some first changes.
pub record ArePartsMade (first second : List Answer) (lines : List (List ℕ)) (changes : List Change) : Type 0 where
  pub first_lines : List (List ℕ)
  pub second_lines : List (List ℕ)
  pub lines_are : lines ≡ first_lines ++ second_lines
  pub first_changes : List Change
  pub second_changes : List Change
  pub changes_are : changes ≡ first_changes ++ second_changes
  pub first_made : AreMade first_lines first first_changes
  pub second_made : AreMade second_lines second second_changes

pub are_made_parted : (lines : List (List ℕ)) (first second : List Answer) (changes : List Change)
    → AreMade lines (first ++ second) changes → ArePartsMade first second lines changes
are_made_parted lines [] second changes made = record {
  first_lines = [];
  second_lines = lines;
  lines_are = refl;
  first_changes = [];
  second_changes = changes;
  changes_are = refl;
  first_made = refl;
  second_made = made;
}
are_made_parted [] (answer ∷ first) second changes made = absurd made
are_made_parted (line ∷ lines) (answer ∷ first) second changes made =
    let rest = are_made_parted lines first second made.1 made.4 in
    record {
      first_lines = line ∷ rest.first_lines;
      second_lines = rest.second_lines;
      lines_are = ap (λ xs. line ∷ xs) rest.lines_are;
      first_changes = with_change made.0 rest.first_changes;
      second_changes = rest.second_changes;
      changes_are = made.2 ∙ ap (with_change made.0) rest.changes_are
          ∙ sym (with_change-append made.0 rest.first_changes rest.second_changes);
      first_made = (made.0, rest.first_changes, refl, made.3, rest.first_made);
      second_made = rest.second_made;
    }

-- ---- what was said

nothing_accepted : (lines : List (List ℕ)) (changes : List Change) → changes ≡ [] → AreAccepted lines [] changes
nothing_accepted [] changes none = none
nothing_accepted (line ∷ lines) changes none = none

pub made_are_accepted : (lines rest : List (List ℕ)) (answers : List Answer) (changes : List Change)
    → AreMade lines answers changes → AreAccepted (lines ++ rest) (map answer_text answers) changes
made_are_accepted [] rest [] changes made = nothing_accepted rest changes made
made_are_accepted (line ∷ lines) rest (answer ∷ answers) changes made =
    (made.0, made.1, made.2, made.3, made_are_accepted lines rest answers made.1 made.4)
made_are_accepted [] rest (answer ∷ answers) changes made = absurd made
made_are_accepted (line ∷ lines) rest [] changes made = absurd made

-- ---- a run

change_first : (change : Option Change) (m : Globals) (rest : List Change)
    → after_all (after_all m (with_change change [])) rest ≡ after_all m (with_change change rest)
change_first None m rest = refl
change_first (Some change) m rest = refl

length-with_change : (change : Option Change) (rest : List Change)
    → length (with_change change rest) ≡ length (with_change change []) + length rest
length-with_change None rest = omega arith
length-with_change (Some change) rest = omega arith

pub run_told : OneRequest → (old new : State) (lines : List (List ℕ)) (answers : List Answer)
    → Runs old lines answers new → AreTold old new lines answers
run_told one old new [] [] run = record {
  changes = [];
  made = refl;
  map_is = ap (λ s. s.map) run;
  changes_are = omega (arith, ap (λ s. s.changes) run);
}
run_told one old new (line ∷ lines) (answer ∷ answers) run =
    let step = step_made one line answer old run.0 run.1 in
    let rest = run_told one run.0 new lines answers run.2 in
    record {
      changes = with_change step.change rest.changes;
      made = (step.change, rest.changes, refl, step.accepts, rest.made);
      map_is = rest.map_is ∙ ap (λ m. after_all m rest.changes) step.map_is
          ∙ change_first step.change old.map rest.changes;
      changes_are = omega (arith, rest.changes_are, step.changes_are, length-with_change step.change rest.changes);
    }
run_told one old new [] (answer ∷ answers) run = absurd run
run_told one old new (line ∷ lines) [] run = absurd run
