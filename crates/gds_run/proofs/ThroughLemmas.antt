-- How far lines were answered, from one line to all.
use Rattle.std.proofs.Common.{◌≡◌, ℕ, List, ◌∷◌, ◌++◌, length, take, Option, None, Some, refl, sym, ap, subst, ◌∙◌}
use Rattle.std.proofs.Common.{take_at}
use Rattle.std.proofs.lemmas.Grind.{flat_map-append}
use Rattle.std.specs.Prelude.{Err, Ok, Result}
use Rattle.host_model.specs.Files.{Contents}
use Rattle.gds_script.specs.Answer.{answer_line, answer_lines}
use Rattle.gds_units.specs.State.{UnitsState}
use Rattle.gds_run.specs.declared.error.RunError.{RunError}
use Rattle.gds_run.specs.declared.error.RunError.TheVariants as error
use Rattle.gds_run.specs.declared.line.Line.{Line}
use Rattle.gds_run.specs.Line.{Means, MeansNext}
use Rattle.gds_run.specs.Progress.{Asked, GoesOn, GoesThrough, IsCutShort, Origin, Progress, Says}

-- the bytes of the next line, whose meaning was read
pub next_meant : (next : Option (List ℕ)) (line : Line) → MeansNext next (Some line)
    → (bytes : List ℕ) × (next ≡ Some bytes) × Means bytes line
next_meant None line means = absurd means
next_meant (Some bytes) line means = (bytes, refl, means)

pub none_next : (next : Option (List ℕ)) → MeansNext next None → next ≡ None
none_next None means = refl
none_next (Some bytes) means = absurd means

-- Saying didn't fail.
abbrev pub IsOther : RunError → Type 0
IsOther error.SayFault = ⊥
IsOther e = Unit {0}

module _ {H : Type 0} (told : H → Option Contents) (moment : H → ℕ) (left_since : H → ℕ → Contents → Type 0)
    (o : Origin H) (base : UnitsState H) (waits : List ℕ) (changes : ℕ) where
  -- what ends all lines
  pub asked_through : (S T : Type 0) (left rest : List (List ℕ)) (e : RunError)
      → Asked told moment left_since o {T = S} left base waits changes (Err e)
      → GoesThrough told moment left_since o {T = T} rest base waits changes (Err e)
  asked_through S T left rest error.Memory asked = (left, asked)
  asked_through S T left rest error.ReadFault asked = (left, asked)
  asked_through S T left rest error.WriteFault asked = (left, asked)
  asked_through S T left rest error.SayFault asked = asked
  asked_through S T left rest error.InputFault asked = (left, asked)
  asked_through S T left rest error.InputTooLong asked = (left, asked)
  asked_through S T left rest (error.BadImages at) asked = (left, asked)
  asked_through S T left rest (error.Unsound faults) asked = (left, asked)
  asked_through S T left rest (error.Changed unit) asked = (left, asked)

  pub line_through : (S T : Type 0) (line : List ℕ) (left rest : List (List ℕ)) (e : RunError)
      → GoesOn told moment left_since o {T = S} line left base waits changes (Err e)
      → GoesThrough told moment left_since o {T = T} rest base waits changes (Err e)
  line_through S T line left rest error.Memory goes = (line ∷ left, goes)
  line_through S T line left rest error.ReadFault goes = (line ∷ left, goes)
  line_through S T line left rest error.WriteFault goes = (line ∷ left, goes)
  line_through S T line left rest error.SayFault goes = goes
  line_through S T line left rest error.InputFault goes = (line ∷ left, goes)
  line_through S T line left rest error.InputTooLong goes = (line ∷ left, goes)
  line_through S T line left rest (error.BadImages at) goes = (line ∷ left, goes)
  line_through S T line left rest (error.Unsound faults) goes = (line ∷ left, goes)
  line_through S T line left rest (error.Changed unit) goes = (line ∷ left, goes)

  -- Nothing more is said of what waits.
  pub cut_progress : (rest : List (List ℕ)) → Progress told moment left_since o rest base waits changes
      → IsCutShort told moment left_since o base.host
  cut_progress rest p = record {
    lines = p.done.told_lines ++ p.done.waiting_lines;
    rest = rest;
    script_is = p.script_is;
    answers = p.done.told ++ p.done.waiting;
    state = p.state;
    runs = p.runs;
    contents = p.contents;
    host_tells = p.host_tells;
    n = length (answer_lines p.done.told);
    said_is = p.said_is ∙ ap (λ bytes. o.said ++ bytes)
        (sym (take_at (answer_lines p.done.told) (answer_lines p.done.waiting) (length (answer_lines p.done.told)) refl)
        ∙ ap (take (length (answer_lines p.done.told)))
        (sym (flat_map-append answer_line p.done.told p.done.waiting)));
    only = p.only;
  }

  pub goes_cut : (S : Type 0) (line : List ℕ) (rest : List (List ℕ)) (e : RunError)
      → GoesOn told moment left_since o {T = S} line rest base waits changes (Err e)
      → IsCutShort told moment left_since o base.host
  goes_cut S line rest error.Memory goes = cut_progress (line ∷ rest) goes
  goes_cut S line rest error.ReadFault goes = cut_progress (line ∷ rest) goes
  goes_cut S line rest error.WriteFault goes = cut_progress (line ∷ rest) goes
  goes_cut S line rest error.SayFault goes = goes
  goes_cut S line rest error.InputFault goes = cut_progress (line ∷ rest) goes
  goes_cut S line rest error.InputTooLong goes = cut_progress (line ∷ rest) goes
  goes_cut S line rest (error.BadImages at) goes = cut_progress (line ∷ rest) goes
  goes_cut S line rest (error.Unsound faults) goes = cut_progress (line ∷ rest) goes
  goes_cut S line rest (error.Changed unit) goes = cut_progress (line ∷ rest) goes

  pub asked_short : (S : Type 0) (rest : List (List ℕ)) (e : RunError) → e ≡ error.SayFault
      → IsCutShort told moment left_since o base.host
      → Asked told moment left_since o {T = S} rest base waits changes (Err e)
  asked_short S rest e is cut =
      subst (λ x. Asked told moment left_since o {T = S} rest base waits changes (Err x)) (sym is) cut

  pub through_left : (e : RunError) (rest : List (List ℕ)) → IsOther e
      → GoesThrough told moment left_since o {T = Unit {0}} rest base waits changes (Err e)
      → (left : List (List ℕ)) × Progress told moment left_since o left base waits changes
  through_left error.Memory rest other goes = goes
  through_left error.ReadFault rest other goes = goes
  through_left error.WriteFault rest other goes = goes
  through_left error.SayFault rest other goes = absurd other
  through_left error.InputFault rest other goes = goes
  through_left error.InputTooLong rest other goes = goes
  through_left (error.BadImages at) rest other goes = goes
  through_left (error.Unsound faults) rest other goes = goes
  through_left (error.Changed unit) rest other goes = goes

  pub says_cut : (r : Result (Unit {0}) RunError) (rest : List (List ℕ))
      → Says told moment left_since o rest base waits changes r → IsCutShort told moment left_since o base.host
  says_cut (Ok value) rest says = cut_progress rest says
  says_cut (Err e) rest says = says
