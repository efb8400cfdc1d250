-- How a run begins on a database that was opened, and what its end says of the whole call.
use Rattle.std.proofs.Common.{◌≡◌, ℕ, ◌≤◌, ◌++◌, List, [], ◌∷◌, Option}
use Rattle.std.proofs.Common.{None, Some, refl, sym, subst, ◌∙◌, inr}
use Rattle.std.proofs.Common.{arith, append-nil}
use Rattle.std.specs.Prelude.{IsSomeAnd, Contains, Result, Ok, Err, MatchResult}
use Rattle.host_model.specs.Files.{Contents}
use Rattle.host_model.specs.Moments.{EachLeft, LeavesOnly}
use Rattle.host_model.specs.Told.{TellsOn}
use Rattle.host_model.proofs.FrameLemmas.{TellsOn-some}
use Rattle.host_model.proofs.MomentLemmas.{no_call}
use Rattle.m_key.specs.Globals.{Globals}
use Rattle.gds_images.specs.Recovered.{recovered}
use Rattle.gds_recovery.specs.Found.{FindsSame}
use Rattle.gds_script.specs.Said.{AreAccepted, IsAfterPrefix}
use Rattle.gds_script.specs.Script.{script_of, start_of}
use Rattle.gds_units.specs.Opening.{IsStable}
use Rattle.gds_units.specs.State.{UnitsState, image_of}
use Rattle.gds_run.specs.Progress.{Ends, IsCutShort, IsWhole, Origin, Progress}
use Rattle.gds_run.specs.declared.error.RunError.{RunError}
use Rattle.gds_run.specs.Run.{Breaks, IsRun, Opens}

-- what told before tells now, where that can be shown
pub told_from : {A : Type 0} (a b : Option A) (R : A → A → Type 0)
    → ((x : A) → a ≡ Some x → (y : A) × (b ≡ Some y) × R x y) → TellsOn a b R
told_from None b R so = tt
told_from (Some x) b R so = let at = so x refl in subst (λ o. IsSomeAnd o (R x)) (sym at.1) at.2

none_accepted : (script : List (List ℕ)) → AreAccepted script [] []
none_accepted [] = refl
none_accepted (line ∷ lines) = refl

-- Where no more was said, and an opening finds the same, it finds the map after no change.
pub same_is_prefix : (script : List (List ℕ)) (image : List ℕ) (m : Globals) (c d : Contents) → Opens c image m
    → FindsSame c d → IsAfterPrefix script m c.said d
same_is_prefix script image m c d opens same = record {
  said = [];
  changes = [];
  accepted = none_accepted script;
  kept = 0;
  few = omega arith;
  durable = λ n has. absurd (omega (arith, has.1));
  finds = record {
    image = image;
    recovers = same.files.found ∙ opens.recovers;
    stands = opens.stands;
    said = same.said ∙ sym (append-nil c.said);
  };
}

-- the origin of a run on a host that was opened
abbrev pub origin : {H : Type 0} → H → List ℕ → Globals → Contents → List (List ℕ) → Origin H
origin host image m c script = record { host = host; image = image; map = m; said = c.said; script = script }

module _ {H : Type 0} (told : H → Option Contents) (moment : H → ℕ) (left_since : H → ℕ → Contents → Type 0) where
  -- A stable host leaves what it tells, and so what was found before.
  pub each_same : (old mid : H) (c : Contents) → told old ≡ Some c → TellsOn (told old) (told mid) FindsSame
      → IsStable told moment left_since mid → EachLeft moment left_since mid (FindsSame c)
  each_same old mid c tells same stable d left =
      let now = TellsOn-some (told old) (told mid) FindsSame c tells same in
      subst (FindsSame c) (sym (stable now.0 now.1 d left)) now.2

  pub begins : (old : H) (base : UnitsState H) (c : Contents) (image : List ℕ) (m : Globals)
      (script : List (List ℕ)) → told old ≡ Some c → Opens c image m → image_of base ≡ Some image
      → TellsOn (told old) (told base.host) FindsSame → EachLeft moment left_since base.host (FindsSame c)
      → Progress told moment left_since (origin base.host image m c script) script base [] 0
  begins old base c image m script tells opens is same each =
      let now = TellsOn-some (told old) (told base.host) FindsSame c tells same in
      record {
        done = record {
          told_lines = [];
          told = [];
          told_changes = [];
          waiting_lines = [];
          waiting = [];
          waiting_changes = [];
        };
        script_is = refl;
        state = start_of image m;
        runs = refl;
        told_made = refl;
        waiting_made = refl;
        map_is = refl;
        count_is = refl;
        contents = now.0;
        host_tells = now.1;
        said_is = now.2.said ∙ sym (append-nil c.said);
        image_is = is;
        stands = opens.stands;
        waiting_is = refl;
        changes_are = refl;
        each = λ d left. record {
          map = m;
          has = record { kept = 0; durable = λ n has. absurd (omega (arith, has.1)); few = omega arith; is = refl };
          finds = record {
            image = image;
            recovers = (each d left).files.found ∙ opens.recovers;
            stands = opens.stands;
            said = (each d left).said ∙ sym (append-nil c.said);
          };
        };
        only = no_call moment left_since base.host (IsAfterPrefix script m c.said)
            (λ d left. same_is_prefix script image m c d opens (each d left));
      }

  -- What the end of the run says of the whole call.
  pub whole_run : (now_left : (host : H) (c : Contents) → told host ≡ Some c → left_since host (moment host) c)
      (base new : H) (c : Contents) (image : List ℕ) (m : Globals) (input : List ℕ)
      → Opens c image m → IsWhole told moment left_since (origin base image m c (script_of input)) new
      → (d : Contents) × (told new ≡ Some d) × IsRun input c d
  whole_run now_left base new c image m input opens whole = (
    whole.contents,
    whole.host_tells,
    record {
      image = image;
      map = m;
      opens = opens;
      answers = whole.answers;
      state = whole.state;
      runs = whole.runs;
      said = whole.said_is;
      file = whole.file_is;
      stands = whole.stands;
      finds = whole.each whole.contents (now_left new whole.contents whole.host_tells);
    },
  )

  pub broken_run : (base new : H) (c : Contents) (image : List ℕ) (m : Globals) (input : List ℕ)
      → Opens c image m → IsCutShort told moment left_since (origin base image m c (script_of input)) new
      → (d : Contents) × (told new ≡ Some d) × Breaks input c d
  broken_run base new c image m input opens cut = (
    cut.contents,
    cut.host_tells,
    inr (record {
      image = image;
      map = m;
      opens = opens;
      lines = cut.lines;
      rest = cut.rest;
      script_is = cut.script_is;
      answers = cut.answers;
      state = cut.state;
      runs = cut.runs;
      n = cut.n;
      said = cut.said_is;
    }),
  )

  -- each moment of it
  pub ends_only : {T : Type 0} (o : Origin H) (new : H) (r : Result T RunError)
      → Ends told moment left_since o new r
      → LeavesOnly moment left_since o.host new (IsAfterPrefix o.script o.map o.said)
  ends_only o new (Ok value) ends = ends.only
  ends_only o new (Err error) ends = ends.only
