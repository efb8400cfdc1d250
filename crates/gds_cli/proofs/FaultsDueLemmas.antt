-- How a list of faults is said, and what it tells of the file.
use Rattle.std.proofs.Common.{◌≡◌, ◌⊎◌, ℕ, Bool, true, false, List, [], ◌∷◌, ◌++◌, ◌≤◌, length, take, drop, flat_map}
use Rattle.std.proofs.Common.{take_all, append_assoc, Option, Some, Result, Ok, ⊎_elim, refl, sym, ap, subst, ◌∙◌}
use Rattle.std.specs.Prelude.{MatchBool}
use Rattle.std.specs.Option.{ForSome}
use Rattle.host_model.specs.Failures.{Failures}
use Rattle.host_model.specs.Files.{Contents, saying}
use Rattle.host_model.specs.Frames.{WasRead}
use Rattle.host_model.specs.Told.{TellsOn}
use Rattle.gds_law.specs.declared.fault.Fault.{Fault}
use Rattle.gds_law.specs.Faults.{AreFaults}
use Rattle.gds_sound.specs.Sound.{HasOneMap}
use Rattle.integ_block.specs.declared.error.IntegError.{IntegError}
use Rattle.integ.specs.Integ.{IsToldWhole}
use Rattle.integ.specs.RawFile.{database_of}
use Rattle.gds_cli.specs.declared.status.Status.{Status}
use Rattle.gds_cli.specs.declared.status.Status.TheVariants as ended
use Rattle.gds_cli.specs.Answer.{Reply, list_reply, list_status}
use Rattle.gds_cli.specs.Saying.{Answers, SaysFrontOf}
use Rattle.gds_cli.specs.Status.{is_break}
use Rattle.gds_cli.specs.FaultText.{fault_line, fault_text, count_line}
use Rattle.gds_cli.proofs.SayingLemmas.{SaidFront, texts_split}
use Rattle.gds_cli.proofs.DueLemmas.{goes_on}

no_break : (faults : List Fault) → is_break (list_status faults) ≡ false
no_break [] = refl
no_break (f ∷ fs) = refl

no_fault : (faults : List Fault) → list_status faults ≡ ended.Done → faults ≡ []
no_fault [] is = refl
no_fault (f ∷ fs) is = absurd (cc)

no_memory : (status : Status) → status ≡ ended.Memory → status ≡ ended.Done → ⊥
no_memory status memory done = cc

no_say : (status : Status) → status ≡ ended.SayFault → status ≡ ended.Done → ⊥
no_say status say done = cc

-- the whole reply was said
pub answers_whole : (told now : Option Contents) (faults : List Fault) (status : Status)
    → status ≡ list_status faults → ForSome told (λ c. now ≡ Some (saying c (fault_text faults)))
    → TellsOn told now (Answers (list_reply faults) status)
answers_whole told now faults status is said =
    goes_on told now (Answers (list_reply faults) status) (λ c tells.
    let P : Bool → Type 0 = λ t. MatchBool t (SaysFrontOf (fault_text faults) c (saying c (fault_text faults)))
    ((status ≡ list_status faults) × (saying c (fault_text faults) ≡ saying c (fault_text faults))) in
    (saying c (fault_text faults), said c tells, subst P (sym (ap is_break is ∙ no_break faults)) (is, refl)))

-- a front of it was said
pub answers_broken : (told now : Option Contents) (reply : Reply) (status : Status) → is_break status ≡ true
    → ForSome told (λ c. SaidFront c reply.text now) → TellsOn told now (Answers reply status)
answers_broken told now reply status is said =
    goes_on told now (Answers reply status) (λ c tells.
    let front = said c tells in
    let after = saying c (take front.0 reply.text) in
    let P : Bool → Type 0 = λ t. MatchBool t (SaysFrontOf reply.text c after)
    ((status ≡ reply.status) × (after ≡ saying c reply.text)) in
    (after, front.1, subst P (sym is) (front.0, refl)))

-- A host was moved into a source and out again, and only read in between.
pub read_host : {H : Type 0} (told : H → Option Contents) (counts : H → Failures) (host units later back : H)
    → units ≡ host → back ≡ later → WasRead told counts units later → WasRead told counts host back
read_host {H} told counts host units later back in-is out-is read =
    let P : H → Type 0 = λ u. WasRead told counts u later in
    let Q : H → Type 0 = λ b. WasRead told counts host b in
    subst Q (sym out-is) (subst P in-is read)

-- what a sink with an empty list was told of the source, which are the file's faults
pub record IsTold (source : Option (List ℕ)) (old list : List Fault) (count : ℕ) : Type 0 where
  pub empty : old ≡ []
  pub whole : ForSome source (λ file. IsToldWhole file old list count)

pub is_told : (source : Option (List ℕ)) (old list : List Fault) (count : ℕ) → old ≡ []
    → ForSome source (λ file. IsToldWhole file old list count) → IsTold source old list count
is_told source old list count empty whole = record { empty = empty; whole = whole }

list_is : {image : List ℕ} {old list : List Fault} {count : ℕ} → old ≡ []
    → (whole : IsToldWhole image old list count) → list ≡ whole.faults
list_is empty whole = whole.told ∙ ap (λ o. o ++ whole.faults) empty

pub faults_told : (told : Option Contents) (source : Option (List ℕ)) (old list faults : List Fault) (count : ℕ)
    → source ≡ database_of told → IsTold source old list count → faults ≡ list
    → ForSome told (λ c. AreFaults c.db faults)
faults_told told source old list faults count of known same c tells =
    let whole = known.whole c.db (of ∙ ap database_of tells) in
    subst (AreFaults c.db) (sym (same ∙ list_is known.empty whole)) whole.are

abbrev pub count_ok : ℕ → Result ℕ IntegError
count_ok count = Ok count

-- Where it is empty, the count is 0.
pub map_told : (told : Option Contents) (source : Option (List ℕ)) (old list faults : List Fault) (count : ℕ)
    (status : Status) → source ≡ database_of told → IsTold source old list count → faults ≡ list
    → (count_ok count ≡ count_ok 0 → ForSome source HasOneMap)
    → (status ≡ list_status faults) ⊎ ((status ≡ ended.Memory) ⊎ (status ≡ ended.SayFault))
    → status ≡ ended.Done → ForSome told (λ c. HasOneMap c.db)
map_told told source old list faults count status of known same one is done c tells =
    let whole = known.whole c.db (of ∙ ap database_of tells) in
    let none : faults ≡ [] =
    ⊎_elim (λ (a : status ≡ list_status faults). no_fault faults (sym a ∙ done))
    (λ (b : (status ≡ ended.Memory) ⊎ (status ≡ ended.SayFault)).
    ⊎_elim (λ (m : status ≡ ended.Memory). absurd (no_memory status m done))
    (λ (s : status ≡ ended.SayFault). absurd (no_say status s done)) b)
    is in
    let zero_of : length whole.faults ≡ 0 = ap length (sym (list_is known.empty whole) ∙ sym same ∙ none) in
    one (ap count_ok (whole.counted ∙ zero_of)) c.db (of ∙ ap database_of tells)

-- the text of a list: that of its first faults, and what comes behind
pub rest_of : (faults : List Fault) (i : ℕ)
    → fault_text faults
    ≡ flat_map fault_line (take i faults) ++ (flat_map fault_line (drop i faults) ++ count_line (length faults))
unfolding fault_text
rest_of faults i =
    ap (λ t. t ++ count_line (length faults)) (texts_split fault_line faults i)
    ∙ append_assoc (flat_map fault_line (take i faults)) (flat_map fault_line (drop i faults))
    (count_line (length faults))

pub text_of : (faults : List Fault) (i : ℕ) → length faults ≤ i
    → fault_text faults ≡ flat_map fault_line (take i faults) ++ count_line (length faults)
unfolding fault_text
text_of faults i all = ap (λ fs. flat_map fault_line fs ++ count_line (length faults)) (sym (take_all i faults all))
