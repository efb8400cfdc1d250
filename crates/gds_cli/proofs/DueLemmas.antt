-- Which reply is due, and how a call that says it ends.
use Rattle.std.proofs.Common.{◌<◌, ◌∷◌, arith, length, ◌≡◌, ◌⊎◌, ℕ, Bool, true, false, List, [], take, Option, None}
use Rattle.std.proofs.Common.{Some, Result, Ok, Err, ⊎_elim, inl, inr, refl, sym, ap, subst, ◌∙◌, append-nil}
use Rattle.std.specs.Prelude.{MatchBool, IsSomeAnd}
use Rattle.std.specs.Option.{ForSome}
use Rattle.host_model.specs.Files.{Contents, saying}
use Rattle.host_model.specs.Told.{TellsOn}
use Rattle.m_key.specs.Globals.{Globals}
use Rattle.m_text.specs.Extract.{zwr}
use Rattle.gds_header.specs.declared.header.Header.{Header}
use Rattle.gds_law.specs.declared.fault.Fault.{Fault}
use Rattle.gds_law.specs.Faults.{AreFaults}
use Rattle.gds_law.proofs.KeptLemmas.{one_fault_list}
use Rattle.gds_new.specs.NewDatabase.{new_database}
use Rattle.gds_create.specs.Newborn.{HasBytes, IsEmpty, closed_images}
use Rattle.gds_recovery.specs.Found.{SameFiles}
use Rattle.gds_words.specs.declared.words.Command.{Command}
use Rattle.gds_words.specs.declared.words.Command.TheVariants.{Version, Integ, Extract, Create, Run}
use Rattle.gds_words.specs.declared.words.BadWords.{BadWords}
use Rattle.gds_cli.specs.declared.status.Status.{Status}
use Rattle.gds_cli.specs.declared.status.Status.TheVariants as ended
use Rattle.gds_cli.specs.Status.{is_break}
use Rattle.gds_cli.specs.Thin.{IsThinWith}
use Rattle.gds_cli.specs.Answer.{BecomesNew, CreateDue, Due, ExtractDue, FaultsDue, Reply, created}
use Rattle.gds_cli.specs.Answer.{header_with, list_reply, not_built, not_empty}
use Rattle.gds_cli.specs.Saying.{Answers, OnlySays, SaysFrontOf}
use Rattle.gds_cli.specs.Extract.{BreaksOff, SaysThin}
use Rattle.gds_cli.proofs.LeafLemmas.{one_map}

one_extract : (stamp : List ℕ) (c : Contents) (r s : Reply) → ExtractDue stamp c r → ExtractDue stamp c s → r ≡ s
one_extract stamp c r s p q =
    ⊎_elim
    (λ (a : (m : Globals) × IsThinWith c.db c.images m × (r ≡ record { text = zwr m stamp; status = ended.Done })).
    ⊎_elim
    (λ (b : (m : Globals) × IsThinWith c.db c.images m × (s ≡ record { text = zwr m stamp; status = ended.Done })).
    a.2
    ∙ ap (λ (m : Globals). record { text = zwr m stamp; status = ended.Done })
    (one_map c.db c.images a.0 b.0 a.1 b.1) ∙ sym b.2)
    (λ (b : ((m : Globals) → IsThinWith c.db c.images m → ⊥) × (s ≡ not_built)). absurd (b.0 a.0 a.1))
    q)
    (λ (a : ((m : Globals) → IsThinWith c.db c.images m → ⊥) × (r ≡ not_built)).
    ⊎_elim
    (λ
    (b : (m : Globals) × IsThinWith c.db c.images m × (s ≡ record { text = zwr m stamp; status = ended.Done })).
    absurd (a.0 b.0 b.1))
    (λ (b : ((m : Globals) → IsThinWith c.db c.images m → ⊥) × (s ≡ not_built)). a.1 ∙ sym b.1)
    q)
    p

one_list : (image : List ℕ) (r s : Reply) → FaultsDue image r → FaultsDue image s → r ≡ s
one_list image r s p q = p.2 ∙ ap list_reply ((one_fault_list image).1 p.0 q.0 p.1 q.1) ∙ sym q.2

some_list : (image : List ℕ) → (reply : Reply) × FaultsDue image reply
some_list image = let found = (one_fault_list image).0 in (list_reply found.0, (found.0, found.1, refl))

-- files that are as they were are the same
same_kept : (c d e : Contents) → SameFiles c d → SameFiles c e → SameFiles d e
same_kept c d e first second =
    record { db = second.db ∙ sym first.db; images = second.images ∙ sym first.images }

same_new : (h : Header) (c d e : Contents) → BecomesNew h c d → BecomesNew h c e → SameFiles d e
same_new h c d e first second =
    record { db = second.db ∙ sym first.db; images = second.images ∙ sym first.images }

pub not_both : (c : Contents) → IsEmpty c → HasBytes c → ⊥
not_both c empty some =
    ⊎_elim (λ (db : 0 < length c.db). let none = empty.db in let zero = ap length none in omega arith)
    (λ (images : 0 < length c.images). let none = empty.images in let zero = ap length none in omega arith)
    some

one_created : (h : Header) (c d e : Contents) (r s : Reply) → CreateDue h c r d → CreateDue h c s e
    → (r ≡ s) × SameFiles d e
one_created h c d e r s p q =
    ⊎_elim
    (λ (a : BecomesNew h c d × (r ≡ created h.total)).
    ⊎_elim (λ (b : BecomesNew h c e × (s ≡ created h.total)). (a.1 ∙ sym b.1, same_new h c d e a.0 b.0))
    (λ (b : HasBytes c × SameFiles c e × (s ≡ not_empty)). absurd (not_both c a.0.empty b.0)) q)
    (λ (a : HasBytes c × SameFiles c d × (r ≡ not_empty)).
    ⊎_elim (λ (b : BecomesNew h c e × (s ≡ created h.total)). absurd (not_both c b.0.empty a.0))
    (λ (b : HasBytes c × SameFiles c e × (s ≡ not_empty)). (a.2 ∙ sym b.2, same_kept c d e a.1 b.1)) q)
    p

-- Both files are empty, or one has bytes.
some_bytes : (db images : List ℕ) → ((db ≡ []) × (images ≡ [])) ⊎ ((0 < length db) ⊎ (0 < length images))
some_bytes [] [] = inl (refl, refl)
some_bytes [] (b ∷ images) = inr (inr (omega arith))
some_bytes (b ∷ db) images = inr (inl (omega arith))

same_itself : (c : Contents) → SameFiles c c
same_itself c = record { db = refl; images = refl }

some_created : (h : Header) (c : Contents) → (reply : Reply) × (after : Contents) × CreateDue h c reply after
some_created h c =
    ⊎_elim
    (λ (none : (c.db ≡ []) × (c.images ≡ [])). (
      created h.total,
      record { db = new_database h; images = closed_images; said = [] },
      inl (record { empty = record { db = none.0; images = none.1 }; db = refl; images = refl }, refl),
    ))
    (λ (bytes : (0 < length c.db) ⊎ (0 < length c.images)). (not_empty, c, inr (bytes, same_itself c, refl)))
    (some_bytes c.db c.images)

pub one_due : (command : Result Command BadWords) (input : List ℕ) (c d e : Contents) (r s : Reply)
    → (command ≡ Ok Run → ⊥) → Due command input c r d → Due command input c s e → (r ≡ s) × SameFiles d e
one_due (Err bad) input c d e r s ran p q = (p.1 ∙ sym q.1, same_kept c d e p.0 q.0)
one_due (Ok Run) input c d e r s ran p q = absurd (ran refl)
one_due (Ok Version) input c d e r s ran p q = (p.1 ∙ sym q.1, same_kept c d e p.0 q.0)
one_due (Ok Integ) input c d e r s ran p q = (one_list c.db r s p.1 q.1, same_kept c d e p.0 q.0)
one_due (Ok (Extract stamp)) input c d e r s ran p q =
    (one_extract stamp.items c r s p.1 q.1, same_kept c d e p.0 q.0)
one_due (Ok (Create block key value alloc ext limit)) input c d e r s ran p q =
    one_created (header_with block key value alloc ext limit) c d e r s p q

-- it can't be that no reply is due
pub some_due : (command : Result Command BadWords) (input : List ℕ) (c : Contents)
    → (command ≡ Ok Run → ⊥) → ((reply : Reply) (after : Contents) → Due command input c reply after → ⊥) → ⊥
some_due (Err bad) input c ran none = none _ c (same_itself c, refl)
some_due (Ok Run) input c ran none = absurd (ran refl)
some_due (Ok Version) input c ran none = none _ c (same_itself c, refl)
some_due (Ok Integ) input c ran none = let found = some_list c.db in none found.0 c (same_itself c, found.1)
some_due (Ok (Extract stamp)) input c ran none =
    none not_built c (
      same_itself c,
      inr (
        λ m thin. none (record { text = zwr m stamp.items; status = ended.Done }) c
            (same_itself c, inl (m, thin, refl)),
        refl,
      ),
    )
some_due (Ok (Create block key value alloc ext limit)) input c ran none =
    let found = some_created (header_with block key value alloc ext limit) c in none found.0 found.1 found.2

-- ---- the reply that is due was said

pub match_both : (b : Bool) (A B C D : Type 0) → (A → C) → (B → D) → MatchBool b A B → MatchBool b C D
match_both true A B C D f g m = f m
match_both false A B C D f g m = g m

some_and : {T : Type 0} (o : Option T) (A B : T → Type 0) → ((x : T) → A x → B x) → IsSomeAnd o A → IsSomeAnd o B
some_and None A B so known = known
some_and (Some x) A B so known = so x known

ends_of : (due : Reply → Type 0) (reply : Reply) (status : Status) (before after : Contents) → due reply
    → ((r : Reply) → due r → r ≡ reply) → Answers reply status before after → OnlySays due status before after
ends_of due reply status before after is only answered =
    match_both (is_break status) _ _ _ _
    (λ (front : SaysFrontOf reply.text before after). (
      take front.0 reply.text,
      front.1,
      λ (r : Reply) (d : due r).
          (front.0, ap (λ (q : Reply). take front.0 q.text) (sym (only r d))),
    ))
    (λ (whole : (status ≡ reply.status) × (after ≡ saying before reply.text)). (reply, is, whole.0, whole.1))
    answered

-- what was found before the saying is known of what is told, which stayed
pub record IsDueAt (mid : Option Contents) (due : Reply → Type 0) (reply : Reply) (c : Contents) : Type 0 where
  pub same : mid ≡ Some c
  pub is : due reply
  pub only : (r : Reply) → due r → r ≡ reply

pub goes_ends : (told mid now : Option Contents) (due : Contents → Reply → Type 0) (reply : Reply) (status : Status)
    → ForSome told (λ c. IsDueAt mid (due c) reply c) → TellsOn mid now (Answers reply status)
    → TellsOn told now (λ before after. OnlySays (due before) status before after)
goes_ends None mid now due reply status known answered = tt
goes_ends (Some c) mid now due reply status known answered =
    let at = known c refl in
    let P : Option Contents → Type 0 = λ o. TellsOn o now (Answers reply status) in
    some_and now (Answers reply status c) (λ d. OnlySays (due c) status c d)
    (λ d. ends_of (due c) reply status c d at.is at.only) (subst P at.same answered)

-- one reply alone is due, and it was said
pub goes_reply : (told now : Option Contents) (reply : Reply) (status : Status)
    → TellsOn told now (Answers reply status)
    → TellsOn told now (λ before after. OnlySays (λ r. r ≡ reply) status before after)
goes_reply told now reply status answered =
    goes_ends told told now (λ c r. r ≡ reply) reply status
    (λ c tells. record { same = tells; is = refl; only = λ r d. d }) answered

-- the list of the file's faults is the one that is due
pub list_due : (told mid : Option Contents) (faults : List Fault) → mid ≡ told
    → ForSome told (λ c. AreFaults c.db faults)
    → ForSome told (λ c. IsDueAt mid (FaultsDue c.db) (list_reply faults) c)
list_due told mid faults same are c tells =
    let due : FaultsDue c.db (list_reply faults) = (faults, are c tells, refl) in
    record { same = same ∙ tells; is = due; only = λ r d. one_list c.db r (list_reply faults) d due }

-- nothing was said
pub goes_silent : (told : Option Contents) (due : Contents → Reply → Type 0)
    → TellsOn told told (λ before after. OnlySays (due before) ended.Memory before after)
goes_silent None due = tt
goes_silent (Some c) due = (
  [],
  ap (λ (said : List ℕ). record c { said = said }) (sym (append-nil c.said)),
  λ (reply : Reply)
      (d : due c reply). (0, refl),
)

pub goes_untold : (told now : Option Contents) (R : Contents → Contents → Type 0) → told ≡ None → TellsOn told now R
goes_untold told now R none = let P : Option Contents → Type 0 = λ o. TellsOn o now R in subst P (sym none) tt

-- ---- the ends of an extract

pub goes_on : (told now : Option Contents) (R : Contents → Contents → Type 0)
    → ForSome told (λ c. (d : Contents) × (now ≡ Some d) × R c d) → TellsOn told now R
goes_on None now R known = tt
goes_on (Some c) now R known =
    let p = known c refl in let P : Option Contents → Type 0 = λ o. IsSomeAnd o (R c) in subst P (sym p.1) p.2

pub extract_done : (told now : Option Contents) (stamp : List ℕ) → ForSome told (λ c. SaysThin stamp c true now)
    → TellsOn told now (λ before after. OnlySays (ExtractDue stamp before) ended.Done before after)
extract_done told now stamp known =
    goes_on told now (λ before after. OnlySays (ExtractDue stamp before) ended.Done before after) (λ c tells.
    let p = known c tells in (
      saying c (zwr p.0 stamp),
      p.2,
      (record { text = zwr p.0 stamp; status = ended.Done }, inl (p.0, p.1, refl), refl, refl),
    ))

pub extract_other : (told mid : Option Contents) (stamp : List ℕ) → ForSome told (λ c. SaysThin stamp c false mid)
    → ForSome told (λ c. IsDueAt mid (ExtractDue stamp c) not_built c)
extract_other told mid stamp known c tells =
    let p = known c tells in
    record {
      same = p.1;
      is = inr (p.0, refl);
      only = λ r due.
          ⊎_elim
          (λ
          (b : (m : Globals) × IsThinWith c.db c.images m
          × (r ≡ record { text = zwr m stamp; status = ended.Done })). absurd (p.0 b.0 b.1))
          (λ (b : ((m : Globals) → IsThinWith c.db c.images m → ⊥) × (r ≡ not_built)). b.1)
          due;
    }

-- the work broke off
pub goes_broken : (told now : Option Contents) (due : Contents → Reply → Type 0) (status : Status)
    → is_break status ≡ true → ForSome told (λ c. BreaksOff c (due c) now)
    → TellsOn told now (λ before after. OnlySays (due before) status before after)
goes_broken told now due status is known =
    goes_on told now (λ before after. OnlySays (due before) status before after) (λ c tells.
    let b = known c tells in
    let P : Bool → Type 0 = λ t. MatchBool t
    ((said : List ℕ) × (saying c b.said ≡ saying c said)
    × ((reply : Reply) → due c reply → (n : ℕ) × (said ≡ take n reply.text)))
    ((reply : Reply) × due c reply × (status ≡ reply.status) × (saying c b.said ≡ saying c reply.text)) in
    (saying c b.said, b.told, subst P (sym is) (b.said, refl, b.front)))

-- it broke off before a byte was said
pub goes_quiet : (told now : Option Contents) (due : Contents → Reply → Type 0) (status : Status)
    → is_break status ≡ true → now ≡ told
    → TellsOn told now (λ before after. OnlySays (due before) status before after)
goes_quiet told now due status is same =
    goes_broken told now due status is (λ c tells. record {
      said = [];
      told = same ∙ tells ∙ ap (λ (said : List ℕ). Some (record c { said = said })) (sym (append-nil c.said));
      front = λ reply d. (0, refl);
    })
