-- What a run on a database that was opened says of the whole call.
use Rattle.std.proofs.Common.{◌≡◌, ◌⊎◌, ℕ, ◌≤◌, ◌<◌, List, [], Option, None}
use Rattle.std.proofs.Common.{Some, refl, sym, ap, subst, ◌∙◌, inl, inr, ⊎_elim}
use Rattle.std.proofs.Common.{arith}
use Rattle.std.proofs.lemmas.Bool.{false≢true}
use Rattle.std.specs.Option.{ForSome}
use Rattle.std.specs.Prelude.{Err, IfErr, IsSome, Ok, OnErr, OnOk, Result}
use Rattle.host_model.specs.Failures.{Failures, NeverFell}
use Rattle.host_model.specs.Files.{Contents}
use Rattle.host_model.specs.Told.{TellsOn}
use Rattle.host_model.proofs.FailureLemmas.{NeverFell-trans}
use Rattle.host_model.proofs.FrameLemmas.{TellsOn-some, TellsOn-weaker}
use Rattle.m_key.specs.Globals.{Globals}
use Rattle.gds_images.specs.Recovered.{recovered}
use Rattle.gds_lines.specs.declared.TheConstants.{INPUT_LIMIT}
use Rattle.gds_lines.specs.LinesState.{Counts, IsAboveLimit, IsEnd, LinesState, Reads}
use Rattle.gds_recovery.specs.Found.{FindsSame, LeavesSinceBarrier}
use Rattle.gds_recovery.proofs.BarrierLemmas.{barrier_past, barrier_weaker, past_more}
use Rattle.gds_script.specs.Said.{IsAfterPrefix}
use Rattle.gds_script.specs.Script.{script_of}
use Rattle.gds_sound.specs.Sound.{HasOneMap}
use Rattle.gds_units.specs.Opening.{IsStable, KeepsOpening}
use Rattle.gds_units.specs.State.{UnitsState, image_of}
use Rattle.gds_units.specs.declared.error.Returned.{Returned}
use Rattle.gds_units.specs.declared.error.UnitError.{UnitError}
use Rattle.gds_units.specs.declared.error.UnitError.TheVariants as unit
use Rattle.gds_run.specs.Errors.{opening_error}
use Rattle.gds_run.specs.declared.error.RunError.{RunError}
use Rattle.gds_run.specs.declared.error.RunError.TheVariants as error
use Rattle.gds_run.specs.Ending.{EndsRun, EndsScript, HasCause, HasLinesCause, IsRefusal, RunEndsEarly}
use Rattle.gds_run.specs.Progress.{Ends, Origin, Progress}
use Rattle.gds_run.specs.Run.{Breaks, FindsNoMap, IsRun, LeavesAlone, LeavesPrefixes, Opens}
use Rattle.gds_run.proofs.OpeningLemmas.{begins, broken_run, each_same, ends_only, origin, same_is_prefix}
use Rattle.gds_run.proofs.OpeningLemmas.{told_from, whole_run}

some_of : {A : Type 0} (o : Option A) → IsSome o → (x : A) × (o ≡ Some x)
some_of None is = absurd (false≢true is)
some_of (Some x) is = (x, refl)

on_ok : {T E : Type 0} (r : Result T E) {P : Type 0} → ((value : T) → r ≡ Ok value → P) → OnOk r P
on_ok (Ok value) so = so value refl
on_ok (Err e) so = tt

on_err : {T E : Type 0} (r : Result T E) {P : Type 0} → ((e : E) → r ≡ Err e → P) → OnErr r P
on_err (Ok value) so = tt
on_err (Err e) so = so e refl

-- Lines end for no fault of the files.
pub lines_refuse : (changed : Type 0) (a b : Failures) (x y : LinesState) (e : RunError)
    → HasLinesCause changed a b x y e → IsRefusal e → ⊥
lines_refuse changed a b x y (error.BadImages at) cause is = cause
lines_refuse changed a b x y (error.Unsound faults) cause is = cause
lines_refuse changed a b x y error.Memory cause is = is
lines_refuse changed a b x y error.ReadFault cause is = is
lines_refuse changed a b x y error.WriteFault cause is = is
lines_refuse changed a b x y error.SayFault cause is = is
lines_refuse changed a b x y error.InputFault cause is = is
lines_refuse changed a b x y error.InputTooLong cause is = is
lines_refuse changed a b x y (error.Changed unit) cause is = is

-- the cause of an error of lines, where what was taken of the source is known
pub cause_of_lines : (told : Option Contents) (a b : Failures) (left rest : Option (List ℕ)) (x y : LinesState)
    (e : RunError) → (INPUT_LIMIT < y.taken → TellsOn left rest IsAboveLimit)
    → HasLinesCause (told ≡ None) a b x y e → HasCause told a b left rest x.failures y.failures e
cause_of_lines told a b left rest x y error.Memory above cause = tt
cause_of_lines told a b left rest x y error.ReadFault above cause = cause
cause_of_lines told a b left rest x y error.WriteFault above cause = cause
cause_of_lines told a b left rest x y error.SayFault above cause = cause
cause_of_lines told a b left rest x y error.InputFault above cause = cause
cause_of_lines told a b left rest x y error.InputTooLong above cause = above cause
cause_of_lines told a b left rest x y (error.BadImages at) above cause = absurd cause
cause_of_lines told a b left rest x y (error.Unsound faults) above cause = absurd cause
cause_of_lines told a b left rest x y (error.Changed unit) above cause = cause

-- the same since before the opening
cause_opened : (told mid : Option Contents) (a b d : Failures) (left rest : Option (List ℕ)) (failed fails : ℕ)
    (e : RunError) → (IsRefusal e → ⊥) → NeverFell a b → (mid ≡ None → told ≡ None)
    → HasCause mid b d left rest failed fails e → HasCause told a d left rest failed fails e
cause_opened told mid a b d left rest failed fails error.Memory none first tells cause = tt
cause_opened told mid a b d left rest failed fails error.ReadFault none first tells cause =
    omega (arith, first.read, cause)
cause_opened told mid a b d left rest failed fails error.WriteFault none first tells cause =
    omega (arith, first.write, cause)
cause_opened told mid a b d left rest failed fails error.SayFault none first tells cause =
    omega (arith, first.say, cause)
cause_opened told mid a b d left rest failed fails error.InputFault none first tells cause = cause
cause_opened told mid a b d left rest failed fails error.InputTooLong none first tells cause = cause
cause_opened told mid a b d left rest failed fails (error.BadImages at) none first tells cause = absurd (none tt)
cause_opened told mid a b d left rest failed fails (error.Unsound faults) none first tells cause = absurd (none tt)
cause_opened told mid a b d left rest failed fails (error.Changed unit) none first tells cause = tells cause

-- what the law on bytes that were taken says
abbrev pub TakenIsGiven : Type 0
TakenIsGiven =
    (input rest : List ℕ) (lines : LinesState) → Reads input lines → lines.untaken ≡ Some rest
    → ((INPUT_LIMIT < lines.taken → IsAboveLimit input rest) × (IsAboveLimit input rest → INPUT_LIMIT < lines.taken))

module _ (left : Option (List ℕ)) (x y : LinesState) (took : TellsOn x.untaken y.untaken (Counts x.taken y.taken))
    (at_first : x.untaken ≡ left) (none_taken : x.taken ≡ 0)
    (reads : (input : List ℕ) → left ≡ Some input → Reads input y) (given : TakenIsGiven) where
  both : (input : List ℕ) → left ≡ Some input → (rest : List ℕ) × (y.untaken ≡ Some rest) × IsEnd input rest
  both input is =
      let at = TellsOn-some x.untaken y.untaken (Counts x.taken y.taken) input (at_first ∙ is) took in
      (at.0, at.1, at.2.given)

  pub above_limit : INPUT_LIMIT < y.taken → TellsOn left y.untaken IsAboveLimit
  above_limit more = told_from left y.untaken IsAboveLimit (λ input is.
      let at = both input is in (at.0, at.1, (given input at.0 y (reads input is) at.1).0 more))

  pub refuses_above : {T : Type 0} (r : Result T RunError) → (INPUT_LIMIT < y.taken → r ≡ Err error.InputTooLong)
      → TellsOn left y.untaken (λ input rest. IsAboveLimit input rest → r ≡ Err error.InputTooLong)
  refuses_above r refuses = told_from left y.untaken
      (λ input rest. IsAboveLimit input rest → r ≡ Err error.InputTooLong) (λ input is.
      let at = both input is in
      (at.0, at.1, λ above. refuses ((given input at.0 y (reads input is) at.1).1 above)))

  pub ends_input : TellsOn left y.untaken IsEnd
  ends_input = told_from left y.untaken IsEnd (λ input is. both input is)

module _ {H : Type 0} (told : H → Option Contents) (moment : H → ℕ) (left_since : H → ℕ → Contents → Type 0)
    (host : H) (base : UnitsState H) (new : H) (left : Option (List ℕ)) (r : Result (Unit {0}) RunError)
    (image : ForSome (told host) (λ c. image_of base ≡ recovered c.db c.images))
    (there : ForSome (told host) (λ c. IsSome (image_of base))) (one_map : ForSome (image_of base) HasOneMap)
    (stable : IsStable told moment left_since base.host) (same : TellsOn (told host) (told base.host) FindsSame)
    (run : (o : Origin H) (text : List ℕ) → left ≡ Some text → o.script ≡ script_of text
    → Progress told moment left_since o o.script base [] 0 → Ends told moment left_since o new r) where
  -- the run from one map that the database stands for
  run_from : (c : Contents) (file : List ℕ) (m : Globals) (text : List ℕ) → told host ≡ Some c → Opens c file m
      → image_of base ≡ Some file → left ≡ Some text
      → Ends told moment left_since (origin base.host file m c (script_of text)) new r
  run_from c file m text tells opens is left_is =
      run (origin base.host file m c (script_of text)) text left_is refl
      (begins told moment left_since host base c file m (script_of text) tells opens is same
      (each_same told moment left_since host base.host c tells same stable))

  -- some map
  record HasOpened (c : Contents) : Type 0 where
    pub file : List ℕ
    pub map : Globals
    pub opens : Opens c file map
    pub is : image_of base ≡ Some file

  opened : (c : Contents) → told host ≡ Some c → HasOpened c
  opened c tells =
      let at = some_of (image_of base) (there c tells) in
      let maps = one_map at.0 at.1 in record {
        file = at.0;
        map = maps.0.0;
        opens = record { recovers = sym (image c tells) ∙ at.1; stands = maps.0.1 };
        is = at.1;
      }

  -- Files in which an opening finds no map aren't opened.
  pub unopened_call : ForSome (told host)
      (λ c. FindsNoMap c → LeavesAlone moment left_since told (RunEndsEarly r) host new c)
  unopened_call c tells none = let o = opened c tells in absurd (none o.file o.map o.opens)

  pub whole_call : ((other : H) (c : Contents) → told other ≡ Some c → left_since other (moment other) c)
      → OnOk r (ForSome left (λ text. TellsOn (told host) (told new) (IsRun text)))
  whole_call now_left =
      on_ok r (λ value is text left_is. told_from (told host) (told new) (IsRun text) (λ c tells.
      let o = opened c tells in
      whole_run told moment left_since now_left base.host new c o.file o.map text o.opens
      (subst (λ x. Ends told moment left_since (origin base.host o.file o.map c (script_of text)) new x) is
      (run_from c o.file o.map text tells o.opens o.is left_is))))

  pub broken_call : OnErr r (ForSome left (λ text. TellsOn (told host) (told new) (Breaks text)))
  broken_call =
      on_err r (λ e is text left_is. told_from (told host) (told new) (Breaks text) (λ c tells.
      let o = opened c tells in
      broken_run told moment left_since base.host new c o.file o.map text o.opens
      (subst (λ x. Ends told moment left_since (origin base.host o.file o.map c (script_of text)) new x) is
      (run_from c o.file o.map text tells o.opens o.is left_is))))

  pub crash_call : ((other : H) (t u : ℕ) (c : Contents) → t ≤ u → left_since other u c → left_since other t c)
      → ForSome (told host) (KeepsOpening moment left_since host (Ok base))
      → ForSome left (λ text. ForSome (told host)
      (λ c. LeavesPrefixes moment left_since (RunEndsEarly r) text c host new))
  crash_call longer keeps text left_is c tells file m opens =
      let is : image_of base ≡ Some file = image c tells ∙ opens.recovers in
      inr (past_more longer (λ d again. same_is_prefix (script_of text) file m c d opens again)
      (barrier_past (λ none. none) (keeps c tells))
      (ends_only told moment left_since (origin base.host file m c (script_of text)) new r
      (run_from c file m text tells opens is left_is)))

-- What ends an opening early ends a run so.
early_error : (e : UnitError) → (e ≡ unit.Memory) ⊎ (e ≡ unit.WriteFault) → RunEndsEarly (Err (opening_error e))
early_error e why =
    let P : UnitError → Type 0 = λ e. RunEndsEarly (Err (opening_error e)) in
    ⊎_elim (λ is. subst P (sym is) tt) (λ is. subst P (sym is) tt) why

-- An opening that fails
module _ {H : Type 0} (told : H → Option Contents) (moment : H → ℕ) (left_since : H → ℕ → Contents → Type 0) where
  module _ (host : H) (returned : Returned H) (e : RunError) (is : e ≡ opening_error returned.error)
      (keeps : ForSome (told host) (KeepsOpening moment left_since host (Err returned))) where
    refused_leaves : (c : Contents) → told host ≡ Some c → (P : Contents → Type 0)
        → ((d : Contents) → FindsSame c d → P d)
        → LeavesSinceBarrier moment left_since (RunEndsEarly (Err e)) host returned.host P
    refused_leaves c tells P so =
        barrier_weaker
        (λ why. subst (λ e. RunEndsEarly (Err e)) (sym is) (early_error returned.error why)) so (keeps c tells)

    pub crash_refused : (left : Option (List ℕ)) → ForSome left (λ text. ForSome (told host)
        (λ c. LeavesPrefixes moment left_since (RunEndsEarly (Err e)) text c host returned.host))
    crash_refused left text left_is c tells file m opens =
        refused_leaves c tells (IsAfterPrefix (script_of text) m c.said)
        (λ d again. same_is_prefix (script_of text) file m c d opens again)

    pub unopened_refused : TellsOn (told host) (told returned.host) FindsSame
        → ForSome (told host) (λ c. FindsNoMap c
        → LeavesAlone moment left_since told (RunEndsEarly (Err e)) host returned.host c)
    unopened_refused same c tells none = record {
      now = subst (λ (o : Option Contents). TellsOn o (told returned.host) FindsSame) tells same;
      crash = refused_leaves c tells (FindsSame c) (λ d again. again);
    }

  pub ends_call : (counts : H → Failures) (host mid new : H) (left rest : Option (List ℕ)) (failed fails : ℕ)
      (r : Result (Unit {0}) RunError) → NeverFell (counts host) (counts mid) → (told host ≡ None → told mid ≡ None)
      → (told mid ≡ None → told host ≡ None) → IfErr r (λ e. IsRefusal e → ⊥)
      → EndsRun told counts mid new left rest failed fails r → EndsRun told counts host new left rest failed fails r
  ends_call counts host mid new left rest failed fails (Ok value) first untold tells none ends = record {
    failures = NeverFell-trans (counts host) (counts mid) (counts new) first ends.failures;
    untold = λ is. ends.untold (untold is);
    cause = tt;
    too_long = ends.too_long;
    input = ends.input;
    fails_more = ends.fails_more;
  }
  ends_call counts host mid new left rest failed fails (Err e) first untold tells none ends = record {
    failures = NeverFell-trans (counts host) (counts mid) (counts new) first ends.failures;
    untold = λ is. ends.untold (untold is);
    cause = cause_opened (told host) (told mid) (counts host) (counts mid) (counts new) left rest failed fails e none
        first tells ends.cause;
    too_long = ends.too_long;
    input = ends.input;
    fails_more = ends.fails_more;
  }

-- No line ends a run for a fault of the files.
pub never_refused : {A : Type 0} (r : Result (Unit {0}) RunError) (a b : Option A) (R : A → A → Type 0)
    → IfErr r (λ e. IsRefusal e → ⊥) → IfErr r (λ e. IsRefusal e → TellsOn a b R)
never_refused (Ok value) a b R none = tt
never_refused (Err e) a b R none = λ is. absurd (none is)

pub no_refusal : (changed : Type 0) (a b : Failures) (x y : LinesState) (r : Result (Unit {0}) RunError)
    → IfErr r (HasLinesCause changed a b x y) → IfErr r (λ e. IsRefusal e → ⊥)
no_refusal changed a b x y (Ok value) cause = tt
no_refusal changed a b x y (Err e) cause = lines_refuse changed a b x y e cause

-- The end of lines is one of the run, once the source is given back.
pub ended_run : {H : Type 0} (told : H → Option Contents) (counts : H → Failures) (old new : UnitsState H)
    (left : Option (List ℕ)) (x y : LinesState) (r : Result (Unit {0}) RunError) → x.untaken ≡ left → x.taken ≡ 0
    → ((input : List ℕ) → left ≡ Some input → Reads input y) → TakenIsGiven → EndsScript told counts old new x y r
    → EndsRun told counts old.host new.host left y.untaken x.failures y.failures r
ended_run told counts old new left x y (Ok value) at_first none reads given ends = record {
  failures = ends.failures;
  untold = ends.untold;
  cause = tt;
  too_long = refuses_above left x y ends.took at_first none reads given (Ok value) ends.too_long;
  input = ends_input left x y ends.took at_first none reads given;
  fails_more = ends.fails;
}
ended_run told counts old new left x y (Err e) at_first none reads given ends = record {
  failures = ends.failures;
  untold = ends.untold;
  cause = cause_of_lines (told old.host) (counts old.host) (counts new.host) left y.untaken x y e
      (above_limit left x y ends.took at_first none reads given) ends.cause;
  too_long = refuses_above left x y ends.took at_first none reads given (Err e) ends.too_long;
  input = ends_input left x y ends.took at_first none reads given;
  fails_more = ends.fails;
}
