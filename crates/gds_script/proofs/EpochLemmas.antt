-- Which answers are those of no epoch.
use Rattle.std.proofs.Common.{◌≡◌, ℕ, ◌+◌, ◌^◌, Bool, true, false, eqb, leb, List, length, Option, None, Some}
use Rattle.std.proofs.Common.{MatchBool, MatchOption, ap, ◌∙◌, refl, subst, sym}
use Rattle.std.proofs.lemmas.Bool.{false≢true}
use Rattle.std.specs.FinMap.{get}
use Rattle.m_key.specs.Globals.{Place}
use Rattle.m_key.specs.Key.{key_bytes}
use Rattle.m_key.specs.Node.{Node}
use Rattle.gds_header.specs.Fields.{fields_of}
use Rattle.gds_sound.specs.Questions.{data_of, order_of, query_of}
use Rattle.gds_sound.specs.Questions as questions
use Rattle.gds_words.specs.Script.{Request}
use Rattle.gds_words.specs.Script as asked
use Rattle.gds_script.specs.declared.answer.Answer.{Answer}
use Rattle.gds_script.specs.declared.answer.Answer.TheVariants.{BadLine, Data, Done, Epoch, TnSpent}
use Rattle.gds_script.specs.Script.{Answers, AnswersKill, AnswersSet, KillsNode, State, Tells, TellsNext, TellsNode}
use Rattle.gds_script.specs.Script.{TellsValue, is_long, long_key, refusal}
use Rattle.gds_script.proofs.KeptLemmas.{IsNoEpoch}
use Rattle.gds_script.proofs.StepLemmas.{refusal_refuses, refuses}

-- it tells no number of changes
abbrev pub IsOther : Answer → Type 0
IsOther (Epoch n) = ⊥
IsOther answer = Unit {0}

no_epoch : (answer : Answer) → IsOther answer → IsNoEpoch answer
no_epoch answer other n is = subst IsOther is other

pub other_if_refuses : (answer : Answer) → refuses answer ≡ true → IsOther answer
other_if_refuses (Epoch n) h = absurd (false≢true h)
other_if_refuses answer h = tt

-- ---- changes

if_set : (node : Node) (value : List ℕ) (old new : State) (answer : Answer) → AnswersSet node value old answer new
    → IsOther answer
if_set node value old new (Epoch n) never = absurd never
if_set node value old new answer is = tt

if_set_or_refused : (node : Node) (value : List ℕ) (old new : State) (answer : Answer) (refused : Option Answer)
    → ((first : Answer) → refused ≡ Some first → refuses first ≡ true)
    → MatchOption refused (AnswersSet node value old answer new) (λ first. (answer ≡ first) × (new ≡ old))
    → IsOther answer
if_set_or_refused node value old new answer None refuse is = if_set node value old new answer is
if_set_or_refused node value old new answer (Some first) refuse is =
    other_if_refuses answer (ap refuses is.0 ∙ refuse first refl)

if_killed : (node : Node) (old new : State) (answer : Answer) (nothing spent : Bool)
    → MatchBool nothing ((answer ≡ Done) × (new ≡ record old { changes = old.changes + 1 }))
    (MatchBool spent ((answer ≡ TnSpent) × (new ≡ old)) ((answer ≡ Done) × KillsNode node old new))
    → IsOther answer
if_killed node old new answer true spent is = subst IsOther (sym is.0) tt
if_killed node old new answer false true is = subst IsOther (sym is.0) tt
if_killed node old new answer false false is = subst IsOther (sym is.0) tt

if_kill : (node : Node) (old new : State) (answer : Answer) (long : Bool)
    → MatchBool long ((answer ≡ long_key node) × (new ≡ old)) (AnswersKill node old answer new) → IsOther answer
if_kill node old new answer true is = other_if_refuses answer (ap refuses is.0)
if_kill node old new answer false is =
    if_killed node old new answer (eqb (data_of old.map node) 0) (leb (2 ^ 63) (fields_of old.image).tn) is

-- ---- questions

if_value : (found : Option (List ℕ)) (answer : Answer) → TellsValue found answer → IsOther answer
if_value (Some bytes) (Epoch n) never = absurd never
if_value None (Epoch n) never = absurd never
if_value found answer is = tt

if_next : (found : Option questions.Next) (answer : Answer) → TellsNext found answer → IsOther answer
if_next (Some next) (Epoch n) never = absurd never
if_next None (Epoch n) never = absurd never
if_next found answer is = tt

if_node : (found : Option Place) (answer : Answer) → TellsNode found answer → IsOther answer
if_node (Some next) (Epoch n) never = absurd never
if_node None (Epoch n) never = absurd never
if_node found answer is = tt

if_asked : (node : Node) (answer : Answer) (long : Bool) (so : Type 0) → (so → IsOther answer)
    → MatchBool long (answer ≡ long_key node) so → IsOther answer
if_asked node answer true so other is = other_if_refuses answer (ap refuses is)
if_asked node answer false so other is = other is

-- ---- requests

-- it asks for no epoch
abbrev pub AsksOther : Request → Type 0
AsksOther asked.epoch = ⊥
AsksOther request = Unit {0}

pub other_answer : (request : Request) (old new : State) (answer : Answer) → AsksOther request
    → Answers request old answer new → IsOther answer
other_answer (asked.set node value) old new answer other is =
    if_set_or_refused node value old new answer
    (refusal (fields_of old.image) (length (key_bytes node)) (length value))
    (refusal_refuses (fields_of old.image) (length (key_bytes node)) (length value)) is
other_answer (asked.kill node) old new answer other is = if_kill node old new answer (is_long node old) is
other_answer (asked.get node) old new answer other is =
    if_asked node answer (is_long node old) (Tells node old.map answer)
    (λ told. if_value (get old.map told.place) answer told.tells) is.0
other_answer (asked.order node first) old new answer other is =
    if_asked node answer (is_long node old) (TellsNext (order_of old.map node first) answer)
    (if_next (order_of old.map node first) answer) is.0
other_answer (asked.data_of node) old new answer other is =
    if_asked node answer (is_long node old) (answer ≡ Data (data_of old.map node))
    (λ told. subst IsOther (sym told) tt) is.0
other_answer (asked.query node) old new answer other is =
    if_asked node answer (is_long node old) (TellsNode (query_of old.map node) answer)
    (if_node (query_of old.map node) answer) is.0
other_answer asked.epoch old new answer other is = absurd other

pub asked_no_epoch : (request : Request) (old new : State) (answer : Answer) → AsksOther request
    → Answers request old answer new → IsNoEpoch answer
asked_no_epoch request old new answer other is = no_epoch answer (other_answer request old new answer other is)

pub bad_no_epoch : IsNoEpoch BadLine
bad_no_epoch = no_epoch BadLine tt
