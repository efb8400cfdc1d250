-- How CREATE ends, and what a crash leaves of it.
use Rattle.std.proofs.Common.{◌≡◌, ◌⊎◌, ◌≤◌, ℕ, List, [], ◌∷◌, codes, ◌++◌, take, Option, Some, ⊎_elim}
use Rattle.std.proofs.Common.{inl, inr, refl, sym, ap}
use Rattle.std.proofs.Common.{◌∙◌, ◌<◌, None, append-nil, arith, length, length-append, subst, true}
use Rattle.std.proofs.lemmas.List.{take_all}
use Rattle.std.specs.Fmt.{decimal}
use Rattle.std.specs.Option.{ForSome}
use Rattle.host_model.specs.Disk.{SaysSome, during}
use Rattle.host_model.specs.Files.{Contents, saying}
use Rattle.host_model.specs.Moments.{EachLeft, HasCome, LeavesBy, LeavesOnly, LeavesTheSame}
use Rattle.host_model.specs.Told.{TellsOn}
use Rattle.host_model.proofs.ChainLemmas.{come_by, come_weaker}
use Rattle.host_model.proofs.FrameLemmas.{TellsOn-same, TellsOn-some, TellsOn-then, TellsOn-weaker}
use Rattle.host_model.proofs.FileLemmas.{SaysSome-refl}
use Rattle.host_model.proofs.MomentLemmas.{LeavesTheSame-refl, by_same}
use Rattle.gds_header.specs.Kinds.{IsWithinLimits}
use Rattle.gds_header.specs.declared.header.Header.{Header}
use Rattle.gds_images.specs.Recovered.{recovered}
use Rattle.gds_images.proofs.RestLemmas.{rest_found}
use Rattle.gds_new.specs.NewDatabase.{new_database}
use Rattle.gds_new.proofs.ReadLemmas.{nothing_ends, whole_read}
use Rattle.gds_new.proofs.SoundLemmas.{stands_read}
use Rattle.gds_recovery.specs.Found.{IsUnwritten, SameFiles}
use Rattle.gds_create.proofs.MakingLemmas.{unwritten_come}
use Rattle.gds_create.specs.Newborn.{HasBytes, IsEmpty, IsMade, IsNewborn, IsRefused}
use Rattle.gds_cli.specs.declared.status.Status.{Status}
use Rattle.gds_cli.specs.declared.status.Status.TheVariants as ended
use Rattle.gds_cli.specs.Status.{is_break}
use Rattle.gds_cli.specs.Answer.{AllOrNothing, CreateBreaksOff, BecomesNew, CreateDue, FindsEmpty, IsRefusedOrEmpty}
use Rattle.gds_cli.specs.Answer.{LeavesCreated, Reply, created, not_empty}
use Rattle.gds_cli.specs.Create.{CreateEnds}
use Rattle.gds_cli.specs.Saying.{Answers, SaysFrontOf}
use Rattle.gds_cli.proofs.DueLemmas.{goes_on, match_both, not_both}
use Rattle.gds_cli.proofs.EndsLemmas.{breaks_as}

-- ---- how it ends

-- the files that were made, once more was said
becomes : (h : Header) (before mid after : Contents) (text : List ℕ) → IsMade h before mid → after ≡ saying mid text
    → BecomesNew h before after
becomes h before mid after text made is = record {
  empty = made.empty;
  db = ap (λ (c : Contents). c.db) is ∙ made.db;
  images = ap (λ (c : Contents). c.images) is ∙ made.images;
}

made_said : (h : Header) (before mid after : Contents) (text : List ℕ) → IsMade h before mid
    → after ≡ saying mid text → after.said ≡ before.said ++ text
made_said h before mid after text made is =
    ap (λ (c : Contents). c.said) is ∙ ap (λ (said : List ℕ). said ++ text) made.said

-- of two empty files one reply is due
one_created : (h : Header) (before : Contents) (reply : Reply) (later : Contents) → IsEmpty before
    → CreateDue h before reply later → reply ≡ created h.total
one_created h before reply later empty due =
    ⊎_elim (λ (made : BecomesNew h before later × (reply ≡ created h.total)). made.1)
    (λ (kept : HasBytes before × SameFiles before later × (reply ≡ not_empty)). absurd (not_both before empty kept.0))
    due

-- of others another one
one_refused : (h : Header) (before : Contents) (reply : Reply) (later : Contents) → HasBytes before
    → CreateDue h before reply later → reply ≡ not_empty
one_refused h before reply later some due =
    ⊎_elim
    (λ (made : BecomesNew h before later × (reply ≡ created h.total)). absurd (not_both before made.0.empty some))
    (λ (kept : HasBytes before × SameFiles before later × (reply ≡ not_empty)). kept.2)
    due

-- where both files are as they were
same_or_new : (h : Header) (status : Status) (before after : Contents) → SameFiles before after
    → AllOrNothing h status before after
same_or_new h status before after same = record { bytes = λ some. same; written = λ ok. inl same }

made_ends : (h : Header) (status : Status) (before mid after : Contents) → IsMade h before mid
    → Answers (created h.total) status mid after → CreateEnds h status before after
made_ends h status before mid after made answered =
    match_both (is_break status) _ _ _ _
    (λ (front : SaysFrontOf (created h.total).text mid after). (
      record {
        text = take front.0 (created h.total).text;
        says = made_said h before mid after (take front.0 (created h.total).text) made front.1;
        front = λ reply later due. (
          front.0,
          ap (λ (r : Reply). take front.0 r.text) (sym (one_created h before reply later made.empty due)),
        );
      },
      record {
        bytes = λ some. absurd (not_both before made.empty some);
        written = λ ok. inr (becomes h before mid after (take front.0 (created h.total).text) made front.1);
      },
    ))
    (λ (whole : (status ≡ ended.Done) × (after ≡ saying mid (created h.total).text)).
    record {
      reply = created h.total;
      is_due = inl (becomes h before mid after (created h.total).text made whole.1, refl);
      ends = whole.0;
      says = made_said h before mid after (created h.total).text made whole.1;
    })
    answered

-- The files were made and it was said.
pub ends_made : (h : Header) (told mid now : Option Contents) (text : List ℕ) (status : Status)
    → text ≡ (created h.total).text → TellsOn told mid (IsMade h)
    → TellsOn mid now (Answers (record { text = text; status = ended.Done }) status)
    → TellsOn told now (CreateEnds h status)
ends_made h told mid now text status is made answered =
    let P : List ℕ → Type 0 = λ t. TellsOn mid now (Answers (record { text = t; status = ended.Done }) status) in
    TellsOn-then told mid now (IsMade h) (Answers (created h.total) status) (CreateEnds h status)
    (made_ends h status) made (subst P is answered)

kept_ends : (h : Header) (status : Status) (before after : Contents) → HasBytes before
    → Answers not_empty status before after → CreateEnds h status before after
kept_ends h status before after some answered =
    match_both (is_break status) _ _ _ _
    (λ (front : SaysFrontOf not_empty.text before after). (
      record {
        text = take front.0 not_empty.text;
        says = ap (λ (c : Contents). c.said) front.1;
        front = λ reply later due. (
          front.0,
          ap (λ (r : Reply). take front.0 r.text) (sym (one_refused h before reply later some due)),
        );
      },
      same_or_new h status before after (record {
        db = ap (λ (c : Contents). c.db) front.1;
        images = ap (λ (c : Contents). c.images) front.1;
      }),
    ))
    (λ (whole : (status ≡ ended.NotEmpty) × (after ≡ saying before not_empty.text)).
    record {
      reply = not_empty;
      is_due = inr (
        some,
        record { db = ap (λ (c : Contents). c.db) whole.1; images = ap (λ (c : Contents). c.images) whole.1 },
        refl,
      );
      ends = whole.0;
      says = ap (λ (c : Contents). c.said) whole.1;
    })
    answered

-- A file had bytes and it was said.
pub ends_kept : (h : Header) (told mid now : Option Contents) (status : Status) → mid ≡ told → ForSome told HasBytes
    → TellsOn mid now (Answers not_empty status) → TellsOn told now (CreateEnds h status)
ends_kept h told mid now status same some answered =
    goes_on told now (CreateEnds h status) (λ before tells.
    let says = TellsOn-some mid now (Answers not_empty status) before (same ∙ tells) answered in
    (says.0, says.1, kept_ends h status before says.0 (some before tells) says.2))

-- it broke off before anything was said
broken_ends : (h : Header) (status : Status) (before after : Contents) → is_break status ≡ true
    → after.said ≡ before.said → AllOrNothing h status before after → CreateEnds h status before after
broken_ends h status before after is same leaves =
    breaks_as (CreateDue h before) (CreateBreaksOff h status before after) status before after is
    (record { text = []; says = same ∙ sym (append-nil before.said); front = λ reply later due. (0, refl) }, leaves)

pub ends_unwritten : (h : Header) (told now : Option Contents) (status : Status) → is_break status ≡ true → now ≡ told
    → TellsOn told now (CreateEnds h status)
ends_unwritten h told now status is same =
    TellsOn-same told now (CreateEnds h status)
    (λ c. broken_ends h status c c is refl (same_or_new h status c c (record { db = refl; images = refl }))) same

pub ends_torn : (h : Header) (told now : Option Contents) → ForSome told IsEmpty
    → TellsOn told now (λ before after. after.said ≡ before.said) → TellsOn told now (CreateEnds h ended.WriteFault)
ends_torn h told now empty said =
    goes_on told now (CreateEnds h ended.WriteFault) (λ before tells.
    let says = TellsOn-some told now (λ before after. after.said ≡ before.said) before tells said in (
      says.0,
      says.1,
      broken_ends h ended.WriteFault before says.0 refl says.2 (record {
        bytes = λ some. absurd (not_both before (empty before tells) some);
        written = λ ok. absurd (ok refl);
      }),
    ))

-- ---- what a crash leaves

-- An opening finds the new database of the files that were made.
made_found : (h : Header) → IsWithinLimits h → (before now : Contents) → IsMade h before now
    → recovered now.db now.images ≡ Some (new_database h)
made_found h limits before now made =
    rest_found (new_database h) now (record {
      closed = ap (take 9) made.images;
      whole = record { readable = nothing_ends h limits; len = whole_read h limits };
      front = take_all (length (new_database h)) now.db (omega (arith, ap length made.db)) ∙ made.db;
    })

module _ (h : Header) (limits : IsWithinLimits h) (text : List ℕ) (before : Contents) where
  -- a new database stands for the map without nodes
  found_empty : (c : Contents) → IsRefused c ⊎ (recovered c.db c.images ≡ Some (new_database h))
      → IsRefused c ⊎ FindsEmpty c
  found_empty c finds =
      ⊎_elim inl
      (λ (found : recovered c.db c.images ≡ Some (new_database h)).
      inr (record { image = new_database h; recovers = found; stands = stands_read h limits }))
      finds

  -- the text isn't said where nothing more is
  unsaid : (said : List ℕ) → 0 < length text → said ≡ said ++ text → ⊥
  unsaid said some is =
      let lengths = ap length is in let more = length-append said text in omega (arith, some, lengths, more)

  pub newborn_left : 0 < length text → (c : Contents) → IsNewborn h before c → IsRefusedOrEmpty text before c
  newborn_left some c newborn = record {
    finds = found_empty c newborn.finds;
    said = (0, newborn.said ∙ sym (append-nil before.said));
    durable = λ whole. absurd (unsaid before.said some (sym newborn.said ∙ whole));
  }

  -- of the new database more may have been said
  made_empty : (now : Contents) → IsMade h before now → (c d : Contents) → d ≡ now → (n : ℕ)
      → c ≡ record d { said = d.said ++ take n text } → FindsEmpty c
  made_empty now made c d same n is = record {
    image = new_database h;
    recovers = ap (λ (x : Contents). recovered x.db x.images) is ∙ ap (λ (x : Contents). recovered x.db x.images) same
        ∙ made_found h limits before now made;
    stands = stands_read h limits;
  }

  said_left : (now : Contents) → IsMade h before now → (c : Contents) → during (SaysSome text) (λ d. d ≡ now) c
      → IsRefusedOrEmpty text before c
  said_left now made c says =
      let step = says.2 in
      let empty = made_empty now made c says.0 says.1 step.0 step.1 in
      record {
        finds = inr empty;
        said = (
          step.0,
          ap (λ (x : Contents). x.said) step.1 ∙ ap (λ (x : Contents). x.said ++ take step.0 text) says.1
              ∙ ap (λ (said : List ℕ). said ++ take step.0 text) made.said,
        );
        durable = λ _. empty;
      }

  module _ {H : Type 0} {moment : H → ℕ} {left_since : H → ℕ → Contents → Type 0}
      (longer : (host : H) (t u : ℕ) (c : Contents) → t ≤ u → left_since host u c → left_since host t c)
      (some : 0 < length text) where
    -- the files were made, or that broke off
    pub made_leaves : (old now : H) → HasCome moment left_since old now (IsNewborn h before) (IsNewborn h before)
        → LeavesOnly moment left_since old now (IsRefusedOrEmpty text before)
    made_leaves old now come = (come_weaker (IsRefusedOrEmpty text before) come (newborn_left some)).only

    -- They were made, and then this was said.
    pub said_leaves : (spoken : List ℕ) → spoken ≡ text → (old mid now : H) (there : Contents) → IsMade h before there
        → EachLeft moment left_since mid (λ c. c ≡ there)
        → HasCome moment left_since old mid (IsNewborn h before) (IsNewborn h before)
        → LeavesBy moment left_since (SaysSome spoken) mid now
        → LeavesOnly moment left_since old now (IsRefusedOrEmpty text before)
    said_leaves spoken is old mid now there made stable come by =
        let P : List ℕ → Type 0 = λ t. LeavesBy moment left_since (SaysSome t) mid now in
        let made_yet : HasCome moment left_since old mid (IsRefusedOrEmpty text before) (λ c. c ≡ there) =
        record { only = (come_weaker (IsRefusedOrEmpty text before) come (newborn_left some)).only; each = stable } in
        (come_by longer (SaysSome text) made_yet (subst P is by) (said_left there made)).only

    -- Then a crash leaves the new database.
    pub said_empty : (spoken : List ℕ) → spoken ≡ text → (mid now : H) (there : Contents) → IsMade h before there
        → EachLeft moment left_since mid (λ c. c ≡ there) → LeavesBy moment left_since (SaysSome spoken) mid now
        → EachLeft moment left_since now FindsEmpty
    said_empty spoken is mid now there made stable by c left =
        let P : List ℕ → Type 0 = λ t. LeavesBy moment left_since (SaysSome t) mid now in
        let says = (subst P is by).each c (longer now (moment mid) (moment now) c by.later left) in
        made_empty there made c says.0 (stable says.0 says.1) says.2.0 says.2.1

    -- no call was made
    pub none_leaves : {contents : H → Option Contents} (host : H)
        → ((host : H) (now c : Contents) → contents host ≡ Some now → left_since host (moment host) c
        → c.said ≡ now.said)
        → contents host ≡ Some before → EachLeft moment left_since host IsEmpty
        → LeavesOnly moment left_since host host (IsRefusedOrEmpty text before)
    none_leaves {contents} host said_stays tells each =
        let same : IsUnwritten contents moment left_since host host =
        record { told = refl; crash = LeavesTheSame-refl moment left_since host } in
        made_leaves host host
        (unwritten_come longer h before same each (λ c left. said_stays host before c tells left))

  -- where it isn't said that they were made, and no file had bytes
  pub not_made : {H : Type 0} {moment : H → ℕ} {left_since : H → ℕ → Contents → Type 0} → (old now : H)
      → (total : ℕ) (status : Status) → text ≡ (created total).text → (status ≡ ended.Done → ⊥)
      → (EachLeft moment left_since old IsEmpty → LeavesOnly moment left_since old now (IsRefusedOrEmpty text before))
      → (HasBytes before → LeavesBy moment left_since (SaysSome not_empty.text) old now)
      → LeavesCreated moment left_since total status old now before
  not_made {H} {moment} {left_since} old now total status is ended leaves bytes = record {
    empty = λ each.
        subst (λ t. LeavesOnly moment left_since old now (IsRefusedOrEmpty t before)) is (leaves each);
    done = λ done. absurd (ended done);
    bytes = bytes;
  }

-- Files that stay are as if some of the reply had been said.
pub kept_by : {H : Type 0} {moment : H → ℕ} {left_since : H → ℕ → Contents → Type 0} {old now : H}
    → LeavesTheSame moment left_since old now → LeavesBy moment left_since (SaysSome not_empty.text) old now
kept_by {H} {moment} {left_since} {old} {now} same =
    by_same moment left_since (SaysSome not_empty.text) old now (SaysSome-refl not_empty.text) same

pub not_done : {status : Status} → (status ≡ ended.NotEmpty) ⊎ (status ≡ ended.SayFault) → status ≡ ended.Done → ⊥
not_done is done = ⊎_elim (λ (e : _). cc) (λ (e : _). cc) is

pub some_created : (total : ℕ) → 0 < length (created total).text
some_created total =
    let more = length-append (codes "CREATED " ++ decimal total) (10 ∷ []) in omega (arith, more)
