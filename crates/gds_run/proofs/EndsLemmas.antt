-- How the ends of calls on a session and on the lines of an input compose.
use Rattle.std.proofs.Common.{◌≡◌, ℕ, ◌≤◌, ◌<◌, List, ◌++◌, Option, None, refl, sym, ap, ◌∙◌, append_assoc, arith}
use Rattle.std.specs.Prelude.{Err, IfErr, Ok, Result}
use Rattle.host_model.specs.Failures.{Failures, NeverFell, Rose}
use Rattle.host_model.specs.Files.{Contents}
use Rattle.host_model.specs.Told.{TellsOn}
use Rattle.host_model.proofs.FailureLemmas.{NeverFell-refl, NeverFell-trans, Rose-then, then-Rose}
use Rattle.host_model.proofs.FrameLemmas.{TellsOn-then}
use Rattle.gds_lines.proofs.CountLemmas.{counts_same}
use Rattle.gds_lines.specs.declared.TheConstants.{INPUT_LIMIT}
use Rattle.gds_lines.specs.LinesState.{Counts, IsEnd, LinesState}
use Rattle.gds_units.specs.State.{UnitsState}
use Rattle.gds_run.specs.declared.error.RunError.{RunError}
use Rattle.gds_run.specs.declared.error.RunError.TheVariants as error
use Rattle.gds_run.specs.Ending.{EndsAnswering, EndsScript, HasDeviceCause, HasLinesCause}

-- A cause of a device holds of a longer stretch of time.
pub device_cause : (changed earlier : Type 0) (a b c d : Failures) (e : RunError) → NeverFell a b → NeverFell c d
    → (changed → earlier) → HasDeviceCause changed b c e → HasDeviceCause earlier a d e
device_cause changed earlier a b c d error.Memory first last so cause = tt
device_cause changed earlier a b c d error.ReadFault first last so cause =
    omega (arith, first.read, last.read, cause)
device_cause changed earlier a b c d error.WriteFault first last so cause =
    omega (arith, first.write, last.write, cause)
device_cause changed earlier a b c d error.SayFault first last so cause = omega (arith, first.say, last.say, cause)
device_cause changed earlier a b c d (error.Changed unit) first last so cause = so cause
device_cause changed earlier a b c d error.InputFault first last so cause = absurd cause
device_cause changed earlier a b c d error.InputTooLong first last so cause = absurd cause
device_cause changed earlier a b c d (error.BadImages at) first last so cause = absurd cause
device_cause changed earlier a b c d (error.Unsound faults) first last so cause = absurd cause

-- So it does of lines, of which the last were read now.
pub lines_cause : (changed earlier : Type 0) (a b c : Failures) (x y z : LinesState) (e : RunError) → NeverFell a b
    → x.failures ≤ y.failures → (changed → earlier) → HasLinesCause changed b c y z e
    → HasLinesCause earlier a c x z e
lines_cause changed earlier a b c x y z error.Memory first fails so cause = tt
lines_cause changed earlier a b c x y z error.ReadFault first fails so cause =
    device_cause changed earlier a b c c error.ReadFault first (NeverFell-refl c) so cause
lines_cause changed earlier a b c x y z error.WriteFault first fails so cause =
    device_cause changed earlier a b c c error.WriteFault first (NeverFell-refl c) so cause
lines_cause changed earlier a b c x y z error.SayFault first fails so cause =
    device_cause changed earlier a b c c error.SayFault first (NeverFell-refl c) so cause
lines_cause changed earlier a b c x y z (error.Changed unit) first fails so cause = so cause
lines_cause changed earlier a b c x y z error.InputFault first fails so cause = omega (arith, fails, cause)
lines_cause changed earlier a b c x y z error.InputTooLong first fails so cause = cause
lines_cause changed earlier a b c x y z (error.BadImages at) first fails so cause = absurd cause
lines_cause changed earlier a b c x y z (error.Unsound faults) first fails so cause = absurd cause

of_device : (changed : Type 0) (a b : Failures) (x y : LinesState) (e : RunError) → HasDeviceCause changed a b e
    → HasLinesCause changed a b x y e
of_device changed a b x y error.Memory cause = tt
of_device changed a b x y error.ReadFault cause = cause
of_device changed a b x y error.WriteFault cause = cause
of_device changed a b x y error.SayFault cause = cause
of_device changed a b x y (error.Changed unit) cause = cause
of_device changed a b x y error.InputFault cause = absurd cause
of_device changed a b x y error.InputTooLong cause = absurd cause
of_device changed a b x y (error.BadImages at) cause = absurd cause
of_device changed a b x y (error.Unsound faults) cause = absurd cause

-- More time went by behind it.
cause_on : (changed : Type 0) (a b c : Failures) (x y : LinesState) (e : RunError) → NeverFell b c
    → HasLinesCause changed a b x y e → HasLinesCause changed a c x y e
cause_on changed a b c x y error.Memory last cause = tt
cause_on changed a b c x y error.ReadFault last cause = omega (arith, last.read, cause)
cause_on changed a b c x y error.WriteFault last cause = omega (arith, last.write, cause)
cause_on changed a b c x y error.SayFault last cause = omega (arith, last.say, cause)
cause_on changed a b c x y (error.Changed unit) last cause = cause
cause_on changed a b c x y error.InputFault last cause = cause
cause_on changed a b c x y error.InputTooLong last cause = cause
cause_on changed a b c x y (error.BadImages at) last cause = absurd cause
cause_on changed a b c x y (error.Unsound faults) last cause = absurd cause

err_is : (T : Type 0) (a b : RunError) (x : Result T RunError) → x ≡ Err a → x ≡ Err b → a ≡ b
err_is T a b x first second = cc

counts_then : (a b c : Option (List ℕ)) (k m n : ℕ) → TellsOn a b (Counts k m) → TellsOn b c (Counts m n)
    → TellsOn a c (Counts k n)
counts_then a b c k m n first second =
    TellsOn-then a b c (Counts k m) (Counts m n) (Counts k n)
    (λ x y z one two. record {
      given = (
        one.given.0 ++ two.given.0,
        one.given.1 ∙ ap (λ l. one.given.0 ++ l) two.given.1
            ∙ sym (append_assoc one.given.0 two.given.0 z),
      );
      counted = two.counted ∙ one.counted;
    })
    first second

module _ {H : Type 0} (told : H → Option Contents) (counts : H → Failures) where
  pub answering_script : {T : Type 0} (old new : UnitsState H) (lines : LinesState) (r : Result T RunError)
      → lines.taken ≤ INPUT_LIMIT → EndsAnswering told counts old new r
      → EndsScript told counts old new lines lines r
  answering_script old new lines (Ok value) few ends = record {
    failures = ends.failures;
    untold = ends.untold;
    tells = ends.tells;
    cause = tt;
    took = counts_same lines.taken lines.untaken lines.untaken refl;
    too_long = λ more. absurd (omega (arith, more, few));
    fails = omega arith;
  }
  answering_script old new lines (Err e) few ends = record {
    failures = ends.failures;
    untold = ends.untold;
    tells = ends.tells;
    cause = of_device (told old.host ≡ None) (counts old.host) (counts new.host) lines lines e ends.cause;
    took = counts_same lines.taken lines.untaken lines.untaken refl;
    too_long = λ more. absurd (omega (arith, more, few));
    fails = omega arith;
  }

  -- Nothing was done yet.
  pub script_begun : {T : Type 0} (base : UnitsState H) (lines : LinesState) (value : T) → lines.taken ≤ INPUT_LIMIT
      → EndsScript told counts base base lines lines (Ok value)
  script_begun base lines value few = record {
    failures = NeverFell-refl (counts base.host);
    untold = λ none. none;
    tells = λ none. none;
    cause = tt;
    took = counts_same lines.taken lines.untaken lines.untaken refl;
    too_long = λ more. absurd (omega (arith, more, few));
    fails = omega arith;
  }

  -- One after another: the first ended well.
  pub script_then : {S T : Type 0} (old mid new : UnitsState H) (x y z : LinesState) (value : S)
      (r : Result T RunError) → EndsScript told counts old mid x y (Ok value) → EndsScript told counts mid new y z r
      → EndsScript told counts old new x z r
  script_then old mid new x y z value (Ok done) first second = record {
    failures = NeverFell-trans (counts old.host) (counts mid.host) (counts new.host) first.failures second.failures;
    untold = λ none. second.untold (first.untold none);
    tells = λ none. first.tells (second.tells none);
    cause = tt;
    took = counts_then x.untaken y.untaken z.untaken x.taken y.taken z.taken first.took second.took;
    too_long = second.too_long;
    fails = omega (arith, first.fails, second.fails);
  }
  script_then old mid new x y z value (Err e) first second = record {
    failures = NeverFell-trans (counts old.host) (counts mid.host) (counts new.host) first.failures second.failures;
    untold = λ none. second.untold (first.untold none);
    tells = λ none. first.tells (second.tells none);
    cause = lines_cause (told mid.host ≡ None) (told old.host ≡ None) (counts old.host) (counts mid.host)
        (counts new.host) x y z e first.failures first.fails first.tells second.cause;
    took = counts_then x.untaken y.untaken z.untaken x.taken y.taken z.taken first.took second.took;
    too_long = second.too_long;
    fails = omega (arith, first.fails, second.fails);
  }

  -- An error is one of any call.
  pub script_err : (S T : Type 0) (old new : UnitsState H) (x y : LinesState) (e : RunError)
      → EndsScript {T = S} told counts old new x y (Err e) → EndsScript {T = T} told counts old new x y (Err e)
  script_err S T old new x y e ends = record {
    failures = ends.failures;
    untold = ends.untold;
    tells = ends.tells;
    cause = ends.cause;
    took = ends.took;
    too_long = λ more.
        ap (λ (error : RunError). Err error) (err_is S e error.InputTooLong (Err e) refl (ends.too_long more));
    fails = ends.fails;
  }

  pub script_ok : (S T : Type 0) (old new : UnitsState H) (x y : LinesState) (value : S) (other : T)
      → y.taken ≤ INPUT_LIMIT → EndsScript told counts old new x y (Ok value)
      → EndsScript told counts old new x y (Ok other)
  script_ok S T old new x y value other few ends = record {
    failures = ends.failures;
    untold = ends.untold;
    tells = ends.tells;
    cause = tt;
    took = ends.took;
    too_long = λ more. absurd (omega (arith, more, few));
    fails = ends.fails;
  }

  -- Something was said behind an error.
  pub script_said : {T : Type 0} (old mid new : UnitsState H) (x y : LinesState) (e : RunError)
      → NeverFell (counts mid.host) (counts new.host) → (told mid.host ≡ None → told new.host ≡ None)
      → (told new.host ≡ None → told mid.host ≡ None) → EndsScript {T = T} told counts old mid x y (Err e)
      → EndsScript {T = T} told counts old new x y (Err e)
  script_said old mid new x y e last untold tells ends = record {
    failures = NeverFell-trans (counts old.host) (counts mid.host) (counts new.host) ends.failures last;
    untold = λ none. untold (ends.untold none);
    tells = λ none. ends.tells (tells none);
    cause = cause_on (told old.host ≡ None) (counts old.host) (counts mid.host) (counts new.host) x y e last ends.cause;
    took = ends.took;
    too_long = ends.too_long;
    fails = ends.fails;
  }
