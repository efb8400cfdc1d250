-- How a call ends, by a command that changes no file or by CREATE.
use Rattle.std.proofs.Common.{Bool, ◌≡◌, ℕ, List, take, Option, Result, Ok, IfOk, refl, ap, subst, sym, [], true}
use Rattle.std.specs.Option.{ForSome}
use Rattle.std.specs.Prelude.{MatchBool}
use Rattle.arrayvec.specs.ArrayVec.{ArrayVec}
use Rattle.host_model.specs.Files.{Contents, saying}
use Rattle.host_model.specs.Told.{TellsOn}
use Rattle.host_model.proofs.FrameLemmas.{TellsOn-same, TellsOn-weaker}
use Rattle.gds_header.specs.declared.header.Header.{Header}
use Rattle.gds_header.specs.Kinds.{IsWithinLimits}
use Rattle.gds_recovery.specs.Found.{SameFiles}
use Rattle.gds_lines.specs.LinesState.{IsEnd}
use Rattle.gds_words.specs.declared.words.Command.{Command}
use Rattle.gds_words.specs.declared.words.Command.TheVariants.{Extract, Create}
use Rattle.gds_words.specs.declared.words.BadWords.{BadWords}
use Rattle.gds_words.specs.Words.{MakesHeader}
use Rattle.gds_cli.specs.declared.status.Status.{Status}
use Rattle.gds_cli.specs.Status.{is_break}
use Rattle.gds_cli.specs.Answer.{Ends, EndsAs, ExtractDue, Leaves, LeavesCreated, Replies, Reply, SaysFront}
use Rattle.gds_cli.specs.Answer.{header_with}
use Rattle.gds_cli.specs.Create.{CreateEnds}
use Rattle.gds_cli.specs.Saying.{OnlySays}
use Rattle.gds_cli.proofs.DueLemmas.{match_both}

-- saying changes no file
same_said : (before after : Contents) (text : List ℕ) → after ≡ saying before text → SameFiles before after
same_said before after text is =
    record { db = ap (λ (c : Contents). c.db) is; images = ap (λ (c : Contents). c.images) is }

abbrev pub Quietly : (Reply → Type 0) → Contents → Reply → Contents → Type 0
Quietly due before reply after = SameFiles before after × due reply

-- it ends by saying a reply, or breaks off and leaves the files as they are
abbrev pub QuietEnds : (Reply → Type 0) → Status → Contents → Contents → Type 0
QuietEnds due status before after =
    EndsAs (Quietly due before) (SaysFront (Quietly due before) before after × SameFiles before after) status before
    after

quiet_ends : (due : Reply → Type 0) (status : Status) (before after : Contents) → OnlySays due status before after
    → QuietEnds due status before after
quiet_ends due status before after says =
    match_both (is_break status) _ _ _ _
    (λ
    (front : (said : List ℕ) × (after ≡ saying before said)
    × ((reply : Reply) → due reply → (n : ℕ) × (said ≡ take n reply.text))). (
      record {
        text = front.0;
        says = ap (λ (c : Contents). c.said) front.1;
        front = λ reply later d. front.2 reply d.1;
      },
      same_said before after front.0 front.1,
    ))
    (λ (whole : (reply : Reply) × due reply × (status ≡ reply.status) × (after ≡ saying before reply.text)).
    record {
      reply = whole.0;
      is_due = (same_said before after whole.0.text whole.3, whole.1);
      ends = whole.2;
      says = ap (λ (c : Contents). c.said) whole.3;
    })
    says

-- The words are a command that changes no file, and said one of the replies that are due.
pub quietly : (told now : Option Contents) (command known : Result Command BadWords) (due : Contents → Reply → Type 0)
    (status : Status) → command ≡ known
    → ((input : List ℕ) (before after : Contents) → QuietEnds (due before) status before after
    → Ends known input status before after)
    → TellsOn told now (λ before after. OnlySays (due before) status before after)
    → (input : List ℕ) → TellsOn told now (Ends command input status)
quietly told now command known due status is ends says input =
    let P : Result Command BadWords → Type 0 = λ k. TellsOn told now (Ends k input status) in
    subst P (sym is)
    (TellsOn-weaker told now (λ before after. OnlySays (due before) status before after) (Ends known input status)
    (λ before after s. ends input before after (quiet_ends (due before) status before after s)) says)

-- an extract, whose stamp was lent as these bytes
pub extract_ends : (told now : Option Contents) (command : Result Command BadWords) (stamp : ArrayVec ℕ) (text : List ℕ)
    (status : Status) → command ≡ Ok (Extract stamp) → text ≡ stamp.items
    → TellsOn told now (λ before after. OnlySays (ExtractDue text before) status before after)
    → (input : List ℕ) → TellsOn told now (Ends command input status)
extract_ends told now command stamp text status is same says input =
    let P : List ℕ → Type 0 = λ t. TellsOn told now (λ before after. OnlySays (ExtractDue t before) status before after)
    in
    quietly told now command (Ok (Extract stamp)) (ExtractDue stamp.items) status is (λ i before after e. e)
    (subst P same says) input

-- CREATE, whose header has the numbers of the words
module _ (command : Result Command BadWords) (block key value alloc ext limit : ℕ)
    (is : command ≡ Ok (Create block key value alloc ext limit)) (h : Header)
    (same : h ≡ header_with block key value alloc ext limit) where
  pub header_limits : IfOk command MakesHeader → IsWithinLimits h
  header_limits makes =
      let P : Result Command BadWords → Type 0 = λ k. IfOk k MakesHeader in
      subst IsWithinLimits (sym same)
      (subst P is makes (header_with block key value alloc ext limit) refl refl refl refl refl refl)

  pub create_ends : (told now : Option Contents) (status : Status) → TellsOn told now (CreateEnds h status)
      → (input : List ℕ) → TellsOn told now (Ends command input status)
  create_ends told now status ends input =
      let P : Result Command BadWords → Type 0 = λ k. TellsOn told now (Ends k input status) in
      let Q : Header → Type 0 = λ x. TellsOn told now (CreateEnds x status) in
      subst P (sym is) (subst Q same ends)

  pub create_leaves : {H : Type 0} {moment : H → ℕ} {left_since : H → ℕ → Contents → Type 0} (host now : H)
      (status : Status) (told : Option Contents) (input : List ℕ)
      → ForSome told (LeavesCreated moment left_since h.total status host now)
      → ForSome told (Leaves moment left_since command input status host now)
  create_leaves {H} {moment} {left_since} host now status told input leaves before tells =
      let P : Result Command BadWords → Type 0 = λ k. Leaves moment left_since k input status host now before in
      let Q : Header → Type 0 = λ x. LeavesCreated moment left_since x.total status host now before in
      subst P (sym is) (subst Q same (leaves before tells))

-- What a crash leaves where the words are known
pub known_leaves : {H : Type 0} (moment : H → ℕ) (left_since : H → ℕ → Contents → Type 0) (host now : H)
    (status : Status) (command known : Result Command BadWords) (input : List ℕ) (before : Contents)
    → command ≡ known → Leaves moment left_since known input status host now before
    → Leaves moment left_since command input status host now before
known_leaves moment left_since host now status command known input before is leaves =
    let P : Result Command BadWords → Type 0 = λ k. Leaves moment left_since k input status host now before in
    subst P (sym is) leaves

-- a call that broke off
pub breaks_as : (due : Reply → Contents → Type 0) (broken : Type 0) (status : Status) (before after : Contents)
    → is_break status ≡ true → broken → EndsAs due broken status before after
breaks_as due broken status before after is so =
    let P : Bool → Type 0 = λ b. MatchBool b broken (Replies due status before after) in subst P (sym is) so

-- no input was taken
pub all_left : (left : Option (List ℕ)) → TellsOn left left IsEnd
all_left left = TellsOn-same left left IsEnd (λ text. ([], refl)) refl
