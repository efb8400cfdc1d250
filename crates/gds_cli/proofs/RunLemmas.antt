-- How RUN ends, and what a crash leaves of it.
use Rattle.std.proofs.Common.{◌≡◌, ◌≤◌, ℕ, ◌++◌, List, [], length, take, Option, None, Some, Result, Ok, Err}
use Rattle.std.proofs.Common.{⊎_elim, inl}
use Rattle.std.proofs.Common.{inr, refl, sym, ap, subst, ◌∙◌, true}
use Rattle.std.specs.Option.{ForSome}
use Rattle.std.specs.Prelude.{IsSomeAnd}
use Rattle.host_model.specs.Disk.{SaysSome, during}
use Rattle.host_model.specs.Failures.{Failures}
use Rattle.host_model.specs.Files.{Contents, saying}
use Rattle.host_model.specs.Moments.{LeavesBy}
use Rattle.host_model.specs.Told.{TellsOn}
use Rattle.host_model.proofs.FrameLemmas.{TellsOn-some, TellsOn-then, TellsOn-weaker}
use Rattle.host_model.proofs.MomentLemmas.{weaker}
use Rattle.m_key.specs.Globals.{Globals}
use Rattle.gds_images.specs.Chain.{chain_of}
use Rattle.gds_images.specs.Recovered.{recovered, recovered_by}
use Rattle.gds_law.specs.Faults.{AreFaults}
use Rattle.gds_law.proofs.KeptLemmas.{one_fault_list}
use Rattle.gds_recovery.specs.Found.{FindsSame, IsLeftAlone}
use Rattle.gds_recovery.proofs.BarrierLemmas.{barrier_past, barrier_weaker, past_more, past_now}
use Rattle.gds_opening.specs.Opening.{FindsFaults}
use Rattle.gds_script.specs.Answer.{answer_lines}
use Rattle.gds_run.specs.Run.{Breaks, FindsNoMap, IsRun, LeavesAlone, LeavesPrefixes, Opens}
use Rattle.gds_run.specs.Ending as run
use Rattle.gds_run.specs.declared.error.RunError.{RunError}
use Rattle.gds_run.specs.declared.error.RunError.TheVariants as error
use Rattle.gds_words.specs.declared.words.BadWords.{BadWords}
use Rattle.gds_words.specs.declared.words.Command.{Command}
use Rattle.gds_words.specs.declared.words.Command.TheVariants.{Run}
use Rattle.gds_cli.specs.declared.status.Status.{Status}
use Rattle.gds_cli.specs.declared.status.Status.TheVariants as ended
use Rattle.gds_cli.specs.Answer.{Ends, EndsEarly, IsGiven, IsLeftRefused, Leaves, LeavesRun, RefusalDue, Reply}
use Rattle.gds_cli.specs.Answer.{RunBreaksOff, RunDue, bad_images, unsound}
use Rattle.gds_cli.specs.Run.{GivesStatus, IsSilent, LeavesSaying, RunEnds, SaysWhy}
use Rattle.gds_cli.specs.Saying.{Answers, SaysFrontOf}
use Rattle.gds_cli.specs.Status.{is_break}
use Rattle.gds_cli.proofs.DueLemmas.{goes_on, goes_untold, match_both}
use Rattle.gds_cli.proofs.EndsLemmas.{breaks_as}

-- ---- why files can't be opened

abbrev pub BadAt : Contents → Reply → Type 0
BadAt c reply = (at : ℕ) × (chain_of c.images (length c.db) ≡ Err at) × (reply ≡ bad_images at)

abbrev pub HasSome : Contents → Reply → Type 0
HasSome c reply = (faults : ℕ) × (faults ≡ 0 → ⊥) × FindsFaults faults c × (reply ≡ unsound faults)

-- no database is recovered where the chain of images is bad
none_recovered : (db images : List ℕ) (at : ℕ) → chain_of images (length db) ≡ Err at → recovered db images ≡ None
unfolding recovered
none_recovered db images at bad = ap (recovered_by db images) bad

-- files that open aren't refused
pub not_refused : (c : Contents) (reply : Reply) (image : List ℕ) (m : Globals) → Opens c image m
    → RefusalDue c reply → ⊥
not_refused c reply image m opens due =
    ⊎_elim
    (λ (bad : BadAt c reply).
    let none = none_recovered c.db c.images bad.0 bad.1 in let some = opens.recovers in cc)
    (λ (faulty : HasSome c reply).
    let found : faulty.2.file ≡ image = let first = faulty.2.found in let second = opens.recovers in cc in
    let faults = (one_fault_list image).1 faulty.2.has.faults []
    (subst (λ file. AreFaults file faulty.2.has.faults) found faulty.2.has.are) opens.stands.faultless in
    faulty.1 (faulty.2.has.counted ∙ ap length faults))
    due

-- ---- how a run ends

pub ends_run : (input : List ℕ) (told now : Option Contents) → TellsOn told now (IsRun input)
    → TellsOn told now (RunEnds input ended.Done)
ends_run input told now ran =
    TellsOn-weaker told now (IsRun input) (RunEnds input ended.Done)
    (λ before after is. record {
      reply = record { text = answer_lines is.answers; status = ended.Done };
      is_due = inl (is, refl);
      ends = refl;
      says = is.said;
    })
    ran

-- A run broke off, and files that can't be opened were left alone.
abbrev pub BreaksOrLeaves : List ℕ → Contents → Contents → Type 0
BreaksOrLeaves input before after = Breaks input before after × (FindsNoMap before → FindsSame before after)

-- the same of the host
pub breaks_or_leaves : {H : Type 0} (told : H → Option Contents) (moment : H → ℕ)
    (left_since : H → ℕ → Contents → Type 0) (input : List ℕ) (old new : H)
    → TellsOn (told old) (told new) (Breaks input)
    → (early : Type 0) → ForSome (told old) (λ c. FindsNoMap c → LeavesAlone moment left_since told early old new c)
    → TellsOn (told old) (told new) (BreaksOrLeaves input)
breaks_or_leaves told moment left_since input old new breaks early alone =
    goes_on (told old) (told new) (BreaksOrLeaves input) (λ before tells.
    let now = TellsOn-some (told old) (told new) (Breaks input) before tells breaks in (
      now.0,
      now.1,
      (now.2, λ none. subst (λ o. IsSomeAnd o (FindsSame before)) now.1 (alone before tells none).now),
    ))

-- the run broke off, and nothing more was said
broken_ends : (input : List ℕ) (status : Status) (before after : Contents) → is_break status ≡ true
    → BreaksOrLeaves input before after → RunEnds input status before after
broken_ends input status before after is breaks =
    breaks_as (RunDue input before) (RunBreaksOff input before after) status before after is
    (⊎_elim (λ same. inl (inl same)) inr breaks.0, λ none. (breaks.1 none).files)

silent_ends : (input : List ℕ) (told mid now : Option Contents) (status wanted : Status) → status ≡ wanted
    → is_break wanted ≡ true → TellsOn told mid (BreaksOrLeaves input)
    → TellsOn mid now (λ before after. after ≡ before) → TellsOn told now (RunEnds input status)
silent_ends input told mid now status wanted is broke breaks says =
    TellsOn-then told mid now (BreaksOrLeaves input) (λ before after. after ≡ before) (RunEnds input status)
    (λ x y z was same.
    broken_ends input status x z (ap is_break is ∙ broke)
    (subst (λ (c : Contents). BreaksOrLeaves input x c) (sym same) was))
    breaks says

-- More was said, of files that were left alone.
said_alone : (before mid after : Contents) (text : List ℕ) → IsLeftAlone before mid → after ≡ saying mid text
    → IsLeftAlone before after
said_alone before mid after text alone is = record {
  found = ap (λ (c : Contents). recovered c.db c.images) is ∙ alone.found;
  kept = λ none.
      let same = alone.kept none in
      record {
        db = ap (λ (c : Contents). c.db) is ∙ same.db;
        images = ap (λ (c : Contents). c.images) is ∙ same.images;
      };
}

more_said : (before mid after : Contents) (text : List ℕ) → FindsSame before mid → after ≡ saying mid text
    → after.said ≡ before.said ++ text
more_said before mid after text same is =
    ap (λ (c : Contents). c.said) is ∙ ap (λ (said : List ℕ). said ++ text) same.said

-- it was said why the files can't be opened
refused_ends : (input : List ℕ) (reply : Reply) (status : Status) (before mid after : Contents)
    → RefusalDue before reply → FindsSame before mid → Answers reply status mid after
    → RunEnds input status before after
refused_ends input reply status before mid after due same answered =
    match_both (is_break status) _ _ _ _
    (λ (front : SaysFrontOf reply.text mid after). (
      inl (inr (reply, due, front.0, more_said before mid after (take front.0 reply.text) same front.1)),
      λ _. said_alone before mid after (take front.0 reply.text) same.files front.1,
    ))
    (λ (whole : (status ≡ reply.status) × (after ≡ saying mid reply.text)).
    record {
      reply = reply;
      is_due = inr (due, said_alone before mid after reply.text same.files whole.1);
      ends = whole.0;
      says = more_said before mid after reply.text same whole.1;
    })
    answered

refused_told : (input : List ℕ) (reply : Reply) (status : Status) (told mid now : Option Contents)
    → ForSome told (λ c. RefusalDue c reply) → TellsOn told mid FindsSame → TellsOn mid now (Answers reply status)
    → TellsOn told now (RunEnds input status)
refused_told input reply status told mid now due same says =
    goes_on told now (RunEnds input status) (λ before tells.
    let x = TellsOn-some told mid FindsSame before tells same in
    let y = TellsOn-some mid now (Answers reply status) x.0 x.1 says in
    (y.0, y.1, refused_ends input reply status before x.0 y.0 (due before tells) x.2 y.2))

-- ---- what a crash leaves

module _ {H : Type 0} (moment : H → ℕ) (left_since : H → ℕ → Contents → Type 0) (tells : H → Option Contents) where
  -- what a run that ended so says of crashes
  pub record LeavesRunAs (input : List ℕ) (r : Result (Unit {0}) RunError) (host mid : H) (before : Contents) : Type 0
    where
      pub opened : LeavesPrefixes moment left_since (run.RunEndsEarly r) input before host mid
      pub refused : FindsNoMap before → LeavesAlone moment left_since tells (run.RunEndsEarly r) host mid before

-- nothing more was said
run_alone : {H : Type 0} {moment : H → ℕ} {left_since : H → ℕ → Contents → Type 0} {tells : H → Option Contents}
    {input : List ℕ} {r : Result (Unit {0}) RunError} {host mid : H} (before : Contents) (status : Status)
    → (run.RunEndsEarly r → EndsEarly status) → LeavesRunAs moment left_since tells input r host mid before
    → LeavesRun moment left_since input status host mid before
run_alone before status early leaves = record {
  opened = λ image m opens. barrier_weaker early (λ c is. is) (leaves.opened image m opens);
  refused = λ none.
      barrier_weaker early (λ c same. record { files = same.files; said = inl same.said })
      (leaves.refused none).crash;
}

-- a run that came to its end
pub run_done : {H : Type 0} (moment : H → ℕ) (left_since : H → ℕ → Contents → Type 0) (tells : H → Option Contents)
    (input : List ℕ) (r : Result (Unit {0}) RunError) (value : Unit {0}) → r ≡ Ok value → (host mid : H)
    (before : Contents) → LeavesRunAs moment left_since tells input r host mid before
    → LeavesRun moment left_since input ended.Done host mid before
run_done moment left_since tells input r value is host mid before leaves =
    run_alone before ended.Done
    (subst (λ x. run.RunEndsEarly x → EndsEarly ended.Done) (sym is) (λ none. absurd none)) leaves

said_refused : (before : Contents) (reply : Reply) → RefusalDue before reply → (mid after : Contents) (n : ℕ)
    → FindsSame before mid → after ≡ saying mid (take n reply.text) → IsLeftRefused before after
said_refused before reply due mid after n same is = record {
  files = said_alone before mid after (take n reply.text) same.files is;
  said = inr (reply, due, n, more_said before mid after (take n reply.text) same is);
}

-- ---- an error

-- over a host that told this, what it and the source counted, and what the source has left
module _ (told : Option Contents) (f g h : Failures) (left rest : Option (List ℕ)) (failed fails : ℕ) where
  abbrev pub Why : RunError → Type 0
  Why e = run.HasCause told f g left rest failed fails e

  pub ends_why : (input : List ℕ) (mid now : Option Contents) (e : RunError) (status : Status) → Why e
      → TellsOn told mid (BreaksOrLeaves input) → (run.IsRefusal e → TellsOn told mid FindsSame)
      → GivesStatus e status g h
      → TellsOn mid now (SaysWhy e status) → TellsOn told now (RunEnds input status)
  ends_why input mid now error.Memory status why breaks same gives says =
      silent_ends input told mid now status ended.Memory gives refl breaks says
  ends_why input mid now error.ReadFault status why breaks same gives says =
      silent_ends input told mid now status ended.ReadFault gives refl breaks says
  ends_why input mid now error.WriteFault status why breaks same gives says =
      silent_ends input told mid now status ended.WriteFault gives refl breaks says
  ends_why input mid now error.SayFault status why breaks same gives says =
      silent_ends input told mid now status ended.SayFault gives refl breaks says
  ends_why input mid now error.InputFault status why breaks same gives says =
      silent_ends input told mid now status ended.InputFault gives refl breaks says
  ends_why input mid now error.InputTooLong status why breaks same gives says =
      silent_ends input told mid now status ended.InputTooLong gives refl breaks says
  ends_why input mid now (error.BadImages at) status why breaks same gives says =
      refused_told input (bad_images at) status told mid now (λ c tells. inl (at, why c tells, refl)) (same tt) says
  ends_why input mid now (error.Unsound faults) status why breaks same gives says =
      refused_told input (unsound faults) status told mid now (λ c tells. inr (faults, why.0, why.1 c tells, refl))
      (same tt) says
  ends_why input mid now (error.Changed unit) status why breaks same gives says =
      goes_untold told now (RunEnds input status) why

  -- what a crash leaves of it, from what one of the run does
  module _ {H : Type 0} (moment : H → ℕ) (left_since : H → ℕ → Contents → Type 0) (tells : H → Option Contents)
      (longer : (host : H) (t u : ℕ) (c : Contents) → t ≤ u → left_since host u c → left_since host t c)
      (input : List ℕ) (host mid now : H) where
    -- what is said after a run that ended so
    abbrev LeavesWhy : RunError → Status → Type 0
    LeavesWhy e status = ForSome told (λ before. LeavesRun moment left_since input status host now before)

    abbrev RunLeaves : RunError → Type 0
    RunLeaves e = ForSome told (λ before. LeavesRunAs moment left_since tells input (Err e) host mid before)

    quiet_leaves : (e : RunError) (status : Status) → (run.RunEndsEarly (Err e) → EndsEarly status)
        → now ≡ mid → RunLeaves e → LeavesWhy e status
    quiet_leaves e status early quiet leaves before is =
        subst (λ (x : H). LeavesRun moment left_since input status host x before) (sym quiet)
        (run_alone before status early (leaves before is))

    refused_leaves : (e : RunError) (status : Status) (reply : Reply) → ForSome told (λ c. RefusalDue c reply)
        → (run.RunEndsEarly (Err e) → ⊥) → LeavesBy moment left_since (SaysSome reply.text) mid now
        → RunLeaves e → LeavesWhy e status
    refused_leaves e status reply due late by leaves before is = record {
      opened = λ image m opens. absurd (not_refused before reply image m opens (due before is));
      refused = λ none.
          let past = barrier_past late ((leaves before is).refused none).crash in
          inr (past_more longer (λ c same. record { files = same.files; said = inl same.said }) past
          (weaker moment left_since mid now (during (SaysSome reply.text) (left_since mid (moment mid)))
          (IsLeftRefused before) (λ c says. said_refused before reply (due before is) says.0 c says.2.0
          (past_now past says.0 says.1) says.2.1) by));
    }

    leaves_why : (e : RunError) (status : Status) → Why e → GivesStatus e status g h → (IsSilent e → now ≡ mid)
        → LeavesSaying moment left_since e mid now → RunLeaves e → LeavesWhy e status
    leaves_why error.Memory status why gives quiet says leaves =
        quiet_leaves error.Memory status (λ _. subst EndsEarly (sym gives) tt) (quiet tt) leaves
    leaves_why error.WriteFault status why gives quiet says leaves =
        quiet_leaves error.WriteFault status (λ _. subst EndsEarly (sym gives) tt) (quiet tt) leaves
    leaves_why error.ReadFault status why gives quiet says leaves =
        quiet_leaves error.ReadFault status (λ none. absurd none) (quiet tt) leaves
    leaves_why error.SayFault status why gives quiet says leaves =
        quiet_leaves error.SayFault status (λ none. absurd none) (quiet tt) leaves
    leaves_why error.InputFault status why gives quiet says leaves =
        quiet_leaves error.InputFault status (λ none. absurd none) (quiet tt) leaves
    leaves_why error.InputTooLong status why gives quiet says leaves =
        quiet_leaves error.InputTooLong status (λ none. absurd none) (quiet tt) leaves
    leaves_why (error.BadImages at) status why gives quiet says leaves =
        refused_leaves (error.BadImages at) status (bad_images at) (λ c is. inl (at, why c is, refl)) (λ none. none)
        says leaves
    leaves_why (error.Unsound faults) status why gives quiet says leaves =
        refused_leaves (error.Unsound faults) status (unsound faults) (λ c is. inr (faults, why.0, why.1 c is, refl))
        (λ none. none) says leaves
    leaves_why (error.Changed unit) status why gives quiet says leaves =
        λ before is. let none = why in absurd (cc)

    -- the same of what the run answered
    pub leaves_error : (r : Result (Unit {0}) RunError) (e : RunError) → r ≡ Err e → (status : Status) → Why e
        → GivesStatus e status g h → (IsSilent e → now ≡ mid) → LeavesSaying moment left_since e mid now
        → ForSome told (λ before. LeavesRunAs moment left_since tells input r host mid before) → LeavesWhy e status
    leaves_error r e is status why gives quiet says leaves =
        leaves_why e status why gives quiet says
        (subst (λ x. ForSome told (λ before. LeavesRunAs moment left_since tells input x host mid before)) is leaves)

-- ---- the words are RUN

module _ (command : Result Command BadWords) (is : command ≡ Ok Run) (left : Option (List ℕ)) (text : List ℕ)
    (given : IsGiven command left text) where
  is_left : left ≡ Some text
  is_left = let P : Result Command BadWords → Type 0 = λ k. IsGiven k left text in subst P is given

  pub run_ends : (told now : Option Contents) (status : Status)
      → ((t : List ℕ) → left ≡ Some t → TellsOn told now (RunEnds t status))
      → TellsOn told now (Ends command text status)
  run_ends told now status ends =
      let P : Result Command BadWords → Type 0 = λ k. TellsOn told now (Ends k text status) in
      subst P (sym is) (ends text is_left)

  pub run_leaves : {H : Type 0} {moment : H → ℕ} {left_since : H → ℕ → Contents → Type 0} (host now : H)
      (status : Status) (told : Option Contents)
      → ((t : List ℕ) → left ≡ Some t → ForSome told (λ before. LeavesRun moment left_since t status host now before))
      → ForSome told (λ before. Leaves moment left_since command text status host now before)
  run_leaves {H} {moment} {left_since} host now status told leaves before tells =
      let P : Result Command BadWords → Type 0 = λ k. Leaves moment left_since k text status host now before in
      subst P (sym is) (leaves text is_left before tells)
