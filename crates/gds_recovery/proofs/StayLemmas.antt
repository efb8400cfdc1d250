-- How it composes that an opening finds the same.
use Rattle.std.proofs.Common.{◌≡◌, ℕ, ◌≤◌, List, Option, None, Some, refl, sym, subst, ◌∙◌}
use Rattle.std.specs.Option.{ForSome}
use Rattle.std.proofs.lemmas.Option.{same_Some}
use Rattle.host_model.specs.declared.host.FileNo.{FileNo}
use Rattle.host_model.specs.Disk.{Changes, Settles, during}
use Rattle.host_model.specs.Failures.{Failures}
use Rattle.host_model.specs.Files.{Contents, with_file}
use Rattle.host_model.specs.Frames.{WasRead}
use Rattle.host_model.specs.Moments.{EachLeft, LeavesOnly, LeavesTheSame}
use Rattle.host_model.specs.Told.{TellsOn}
use Rattle.host_model.proofs.FailureLemmas.{NeverFell-trans}
use Rattle.host_model.proofs.FrameLemmas.{WasRead-refl, WasRead-then, TellsOn-some, TellsOn-same, TellsOn-then}
use Rattle.host_model.proofs.MomentLemmas.{LeavesTheSame-refl, LeavesTheSame-trans, same_only, then_more, weaker}
use Rattle.host_model.proofs.OutcomeLemmas.{is_changed}
use Rattle.gds_recovery.specs.Found.{FindsSame, IsUnwritten}
use Rattle.gds_recovery.specs.Steps.{StaysFound, WasChangedBy}
use Rattle.gds_recovery.proofs.FoundLemmas.{FindsSame-refl, FindsSame-then}
use Rattle.gds_recovery.proofs.WorkLemmas.{was_told}

-- What is told goes on to be told, and finds the same.
tells_found : (a b : Option Contents) (R : Contents → Contents → Type 0) → TellsOn a b R
    → ((c now : Contents) → a ≡ Some c → b ≡ Some now → FindsSame c now) → TellsOn a b FindsSame
tells_found None b R tells so = tt
tells_found (Some c) None R tells so = absurd tells
tells_found (Some c) (Some now) R tells so = so c now refl refl

-- ---- Nothing is written.

module _ {H : Type 0} {contents : H → Option Contents} {moment : H → ℕ} {left_since : H → ℕ → Contents → Type 0} where
  pub unwritten_then : {old mid new : H} → IsUnwritten contents moment left_since old mid
      → IsUnwritten contents moment left_since mid new → IsUnwritten contents moment left_since old new
  unwritten_then {old} {mid} {new} first second = record {
    told = second.told ∙ first.told;
    crash = LeavesTheSame-trans moment left_since old mid new first.crash second.crash;
  }

  pub unwritten_reads : {counts : H → Failures} {old mid new : H} → WasRead contents counts old mid
      → LeavesTheSame moment left_since old mid → WasRead contents counts mid new
      → LeavesTheSame moment left_since mid new → IsUnwritten contents moment left_since old new
  unwritten_reads {counts} {old} {mid} {new} read crash more more_crash = record {
    told = more.told ∙ read.told;
    crash = LeavesTheSame-trans moment left_since old mid new crash more_crash;
  }

-- ---- An opening finds the same.

module _ {H : Type 0} {contents : H → Option Contents} {moment : H → ℕ} {counts : H → Failures}
    {left_since : H → ℕ → Contents → Type 0} where
  -- one stretch of calls after another
  pub stays_then : {old mid new : H} → StaysFound contents moment counts left_since old mid
      → StaysFound contents moment counts left_since mid new → StaysFound contents moment counts left_since old new
  stays_then {old} {mid} {new} first second = record {
    told = TellsOn-then (contents old) (contents mid) (contents new) FindsSame FindsSame FindsSame FindsSame-then
        first.told second.told;
    untold = λ none. second.untold (first.untold none);
    crash = λ c tells.
        let m = TellsOn-some (contents old) (contents mid) FindsSame c tells first.told in
        then_more moment left_since old mid new (FindsSame c) (first.crash c tells)
        (weaker moment left_since mid new (FindsSame m.0) (FindsSame c) (λ d same. FindsSame-then c m.0 d m.2 same)
        (second.crash m.0 m.1));
    failures = NeverFell-trans (counts old) (counts mid) (counts new) first.failures second.failures;
  }

  -- calls that only read
  pub stays_read : {old new : H} → WasRead contents counts old new → LeavesTheSame moment left_since old new
      → ForSome (contents old) (λ c. EachLeft moment left_since old (λ d. d ≡ c))
      → StaysFound contents moment counts left_since old new
  stays_read {old} {new} read crash stable = record {
    told = TellsOn-same (contents old) (contents new) FindsSame FindsSame-refl read.told;
    untold = λ none. read.told ∙ none;
    crash = λ c tells. same_only moment left_since old new (FindsSame c) crash
        (λ d left. subst (λ (e : Contents). FindsSame c e) (sym (stable c tells d left)) (FindsSame-refl c));
    failures = read.failures;
  }

  -- calls that only read, and then more
  pub stays_reads : {old mid new : H} → WasRead contents counts old mid → LeavesTheSame moment left_since old mid
      → WasRead contents counts mid new → LeavesTheSame moment left_since mid new
      → ForSome (contents old) (λ c. EachLeft moment left_since old (λ d. d ≡ c))
      → StaysFound contents moment counts left_since old new
  stays_reads {old} {mid} {new} read crash more more_crash stable =
      stays_read (WasRead-then contents counts old mid new read more)
      (LeavesTheSame-trans moment left_since old mid new crash more_crash) stable

  -- After them a crash leaves what the host tells.
  pub stable_read : {old new : H} → WasRead contents counts old new → LeavesTheSame moment left_since old new
      → ForSome (contents old) (λ c. EachLeft moment left_since old (λ d. d ≡ c))
      → ForSome (contents new) (λ c. EachLeft moment left_since new (λ d. d ≡ c))
  stable_read read crash stable c tells d left = stable c (sym read.told ∙ tells) d (crash.stays d left)

module _ {H : Type 0} {contents : H → Option Contents} {moment : H → ℕ} {counts : H → Failures}
    {left_since : H → ℕ → Contents → Type 0}
    (longer : (host : H) (t u : ℕ) (c : Contents) → t ≤ u → left_since host u c → left_since host t c)
    (now_left : (host : H) (c : Contents) → contents host ≡ Some c → left_since host (moment host) c) where
  -- calls of which each crash leaves what finds the same
  pub stays : {old new : H} {R : Contents → Contents → Type 0}
      → WasChangedBy contents moment counts left_since R old new
      → ForSome (contents old) (λ c. LeavesOnly moment left_since old new (FindsSame c))
      → StaysFound contents moment counts left_since old new
  stays {old} {new} {R} changed crash = record {
    told = tells_found (contents old) (contents new) R changed.told
        (λ c now before tells. (crash c before).each now
        (longer new (moment old) (moment new) now (crash c before).later (now_left new now tells)));
    untold = changed.untold;
    crash = crash;
    failures = changed.failures;
  }

  -- calls by a step that finds the same
  pub stays_by : {old new : H} (step : Contents → Contents → Type 0)
      → ForSome (contents old) (λ c. EachLeft moment left_since old (λ d. d ≡ c))
      → WasChangedBy contents moment counts left_since step old new
      → ((c d : Contents) → contents old ≡ Some c → step c d → FindsSame c d)
      → StaysFound contents moment counts left_since old new
  stays_by {old} {new} step stable changed same =
      stays changed
      (λ c tells. weaker moment left_since old new (during step (left_since old (moment old))) (FindsSame c)
      (λ d is. same c d tells (subst (λ (b : Contents). step b d) (stable c tells is.0 is.1) is.2)) changed.crash)

  -- One file changed, and was made stable again: after that a crash leaves what the host tells.
  pub stable_changed : {old new : H} (file : FileNo) (R : List ℕ → List ℕ → Type 0) (bytes : Contents → List ℕ)
      → ForSome (contents old) (λ c. EachLeft moment left_since old (λ d. d ≡ c))
      → WasChangedBy contents moment counts left_since (Changes file R) old new
      → ForSome (contents old) (λ c. contents new ≡ Some (with_file file (bytes c) c))
      → ForSome (contents old) (λ c. Settles file (bytes c) (left_since new (moment new)))
      → ForSome (contents new) (λ c. EachLeft moment left_since new (λ d. d ≡ c))
  stable_changed {old} {new} file R bytes stable changed told settled now tells d left =
      let was = was_told (contents old) (contents new) now changed.untold tells in
      let c = was.0 in
      let from = changed.crash.each d (longer new (moment old) (moment new) d changed.crash.later left) in
      is_changed file (bytes c) c d (from.0, stable c was.1 from.0 from.1, from.2) (settled c was.1 d left)
      ∙ same_Some (with_file file (bytes c) c) now (sym (told c was.1) ∙ tells)

-- no call
module _ {H : Type 0} {contents : H → Option Contents} {moment : H → ℕ} {counts : H → Failures}
    {left_since : H → ℕ → Contents → Type 0} where
  pub stays_none : {host : H} → ForSome (contents host) (λ c. EachLeft moment left_since host (λ d. d ≡ c))
      → StaysFound contents moment counts left_since host host
  stays_none {host} stable =
      stays_read (WasRead-refl contents counts host) (LeavesTheSame-refl moment left_since host) stable
