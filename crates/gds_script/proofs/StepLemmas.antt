-- What a line makes of the changes: one more where a SET or a KILL was made, and else none.
use Rattle.std.proofs.Common.{◌≡◌, ℕ, ◌+◌, ◌^◌, Bool, true, false, cond, eqb, leb, List, [], length, MatchBool}
use Rattle.std.proofs.Common.{codes, Option, None, Some, MatchOption, refl, sym, ap, subst, ◌∙◌, arith, inl, inr}
use Rattle.std.proofs.lemmas.Bool.{eqb-true, false≢true}
use Rattle.m_text.specs.Front.{leads}
use Rattle.m_key.specs.Globals.{Change, Place, after_all, kill, set_value}
use Rattle.m_key.specs.Key.{key_bytes}
use Rattle.m_key.specs.Node.{Node}
use Rattle.gds_header.specs.Fields.{fields_of}
use Rattle.gds_header.specs.declared.header.Header.{Header}
use Rattle.gds_sound.specs.Questions.{data_of}
use Rattle.gds_words.specs.Script.{Asks, Request, epoch}
use Rattle.gds_words.specs.Script as asked
use Rattle.gds_script.specs.declared.answer.Answer.{Answer}
use Rattle.gds_script.specs.declared.answer.Answer.TheVariants.{BadLine, Data, Done, End, Epoch, Full, KeyTooLong}
use Rattle.gds_script.specs.declared.answer.Answer.TheVariants.{TnSpent, TooDeep, Undefined, Value, ValueTooLong}
use Rattle.gds_script.specs.declared.answer.Answer.TheVariants as answer
use Rattle.gds_script.specs.Answer.{answer_text}
use Rattle.gds_script.specs.Said.{Accepts, AsksFor, with_change}
use Rattle.gds_script.specs.Script.{Answers, AnswersKill, AnswersSet, KillsNode, State, Steps, is_long, long_key}
use Rattle.gds_script.specs.Script.{refusal, told_len}
use Rattle.gds_script.proofs.KillLemmas.{nothing_killed}

-- what the law `one_request` says
abbrev pub OneRequest : Type 0
OneRequest = (line : List ℕ) (a b : Request) → Asks line a → Asks line b → a ≡ b

-- a change or none, and what was asked for and answered so
pub record IsMade (line : List ℕ) (answer : Answer) (old new : State) : Type 0 where
  pub change : Option Change
  pub accepts : Accepts line (answer_text answer) change
  pub map_is : new.map ≡ after_all old.map (with_change change [])
  pub changes_are : new.changes ≡ old.changes + length (with_change change [])

-- ---- lines that ask for no change

-- The line asks for no change.
abbrev pub IsNoChange : List ℕ → Type 0
IsNoChange line = (change : Change) → AsksFor line change → ⊥

pub accepts_no_change : (line reply : List ℕ) → IsNoChange line → Accepts line reply None
accepts_no_change line reply none = λ ok change asks. none change asks

-- whether a request asks for a change
abbrev pub is_change : Request → Bool
is_change (asked.set node value) = true
is_change (asked.kill node) = true
is_change other = false

pub asks_no_change : OneRequest → (line : List ℕ) (request : Request) → is_change request ≡ false → Asks line request
    → IsNoChange line
asks_no_change one line request none asks (set_value p value) change =
    false≢true (sym none ∙ ap is_change (one line request (asked.set p.node value) asks change))
asks_no_change one line request none asks (kill p) change =
    false≢true (sym none ∙ ap is_change (one line request (asked.kill p.node) asks change))

pub bad_no_change : (line : List ℕ) → ((request : Request) → Asks line request → ⊥) → IsNoChange line
bad_no_change line none (set_value p value) change = none (asked.set p.node value) change
bad_no_change line none (kill p) change = none (asked.kill p.node) change

-- ---- answers that refuse

-- whether an answer refuses a request
abbrev pub refuses : Answer → Bool
refuses (KeyTooLong len) = true
refuses (ValueTooLong len) = true
refuses TnSpent = true
refuses (Full free) = true
refuses TooDeep = true
refuses other = false

not_ok : (text : List ℕ) → leads 79 text ≡ false → text ≡ codes "OK" → ⊥
not_ok text other ok = false≢true (sym other ∙ ap (leads 79) ok)

refuses_not_ok : (answer : Answer) → refuses answer ≡ true → answer_text answer ≡ codes "OK" → ⊥
refuses_not_ok (KeyTooLong len) h = not_ok (answer_text (KeyTooLong len)) refl
refuses_not_ok (ValueTooLong len) h = not_ok (answer_text (ValueTooLong len)) refl
refuses_not_ok TnSpent h = not_ok (answer_text TnSpent) refl
refuses_not_ok (Full free) h = not_ok (answer_text (Full free)) refl
refuses_not_ok TooDeep h = not_ok (answer_text TooDeep) refl
refuses_not_ok Done h = λ ok. false≢true h
refuses_not_ok (Value value) h = λ ok. false≢true h
refuses_not_ok Undefined h = λ ok. false≢true h
refuses_not_ok (answer.Next next) h = λ ok. false≢true h
refuses_not_ok End h = λ ok. false≢true h
refuses_not_ok (Data found) h = λ ok. false≢true h
refuses_not_ok (answer.Node reference) h = λ ok. false≢true h
refuses_not_ok (Epoch changes) h = λ ok. false≢true h
refuses_not_ok BadLine h = λ ok. false≢true h

pub accepts_refused : (line : List ℕ) (answer : Answer) → refuses answer ≡ true
    → Accepts line (answer_text answer) None
accepts_refused line answer h = λ ok change asks. refuses_not_ok answer h ok

some_of : (a b : Answer) → Some a ≡ Some b → a ≡ b
some_of a b e = cc

refusal_by : (k v t f : Bool) (key value free : ℕ) (first : Answer)
    → cond k (Some (KeyTooLong key)) (cond v (Some (ValueTooLong value)) (cond t (Some TnSpent)
    (cond f (Some (Full free)) None))) ≡ Some first
    → refuses first ≡ true
refusal_by true v t f key value free first e = ap refuses (sym (some_of (KeyTooLong key) first e))
refusal_by false true t f key value free first e = ap refuses (sym (some_of (ValueTooLong value) first e))
refusal_by false false true f key value free first e = ap refuses (sym (some_of TnSpent first e))
refusal_by false false false true key value free first e = ap refuses (sym (some_of (Full free) first e))
refusal_by false false false false key value free first e = absurd (cc)

pub refusal_refuses : (h : Header) (key value : ℕ) (first : Answer) → refusal h key value ≡ Some first
    → refuses first ≡ true
refusal_refuses h key value first e = refusal_by _ _ _ _ (told_len key) value h.free first e

-- ---- one step

none_made : (line : List ℕ) (answer : Answer) (old new : State) → Accepts line (answer_text answer) None → new ≡ old
    → IsMade line answer old new
none_made line answer old new accepts same = record {
  change = None;
  accepts = accepts;
  map_is = ap (λ s. s.map) same;
  changes_are = omega (arith, ap (λ s. s.changes) same);
}

pub accepts_set : (line : List ℕ) (node : Node) (p : Place) (value : List ℕ) → p.node ≡ node
    → Asks line (asked.set node value) → Accepts line (answer_text Done) (Some (set_value p value))
accepts_set line node p value same asks =
    (refl, subst (λ n. Asks line (asked.set n value)) (sym same) asks)

set_made : (line : List ℕ) (node : Node) (value : List ℕ) (answer : Answer) (old new : State)
    → Asks line (asked.set node value) → AnswersSet node value old answer new → IsMade line answer old new
set_made line node value Done old new asks set = record {
  change = Some (set_value set.place value);
  accepts = accepts_set line node set.place value set.node_is asks;
  map_is = set.map_is;
  changes_are = set.changes_are;
}
set_made line node value TooDeep old new asks deep =
    none_made line TooDeep old new (accepts_refused line TooDeep refl) deep.1
set_made line node value (KeyTooLong len) old new asks never = absurd never
set_made line node value (ValueTooLong len) old new asks never = absurd never
set_made line node value TnSpent old new asks never = absurd never
set_made line node value (Full free) old new asks never = absurd never
set_made line node value (Value other) old new asks never = absurd never
set_made line node value Undefined old new asks never = absurd never
set_made line node value (answer.Next next) old new asks never = absurd never
set_made line node value End old new asks never = absurd never
set_made line node value (Data found) old new asks never = absurd never
set_made line node value (answer.Node reference) old new asks never = absurd never
set_made line node value (Epoch changes) old new asks never = absurd never
set_made line node value BadLine old new asks never = absurd never

set_or_refused : (line : List ℕ) (node : Node) (value : List ℕ) (answer : Answer) (old new : State)
    (refused : Option Answer) → ((first : Answer) → refused ≡ Some first → refuses first ≡ true)
    → Asks line (asked.set node value)
    → MatchOption refused (AnswersSet node value old answer new) (λ first. (answer ≡ first) × (new ≡ old))
    → IsMade line answer old new
set_or_refused line node value answer old new None refuse asks set = set_made line node value answer old new asks set
set_or_refused line node value answer old new (Some first) refuse asks is =
    none_made line answer old new
    (accepts_refused line answer (ap refuses is.0 ∙ refuse first refl)) is.1

-- Nothing is there to take: the change counts and the map stays.
nothing_taken : (line : List ℕ) (node : Node) (answer : Answer) (old new : State) → Asks line (asked.kill node)
    → data_of old.map node ≡ 0 → answer ≡ Done → new ≡ record old { changes = old.changes + 1 }
    → IsMade line answer old new
nothing_taken line node answer old new asks none done counts =
    let p : Place = record { node = node; right = asks.form.2.is_node } in record {
      change = Some (kill p);
      accepts = (ap answer_text done, asks);
      map_is = ap (λ s. s.map) counts ∙ sym (nothing_killed old.map p none);
      changes_are = ap (λ s. s.changes) counts;
    }

kill_or_spent : (line : List ℕ) (node : Node) (answer : Answer) (old new : State) (spent : Bool)
    → Asks line (asked.kill node)
    → MatchBool spent ((answer ≡ TnSpent) × (new ≡ old)) ((answer ≡ Done) × KillsNode node old new)
    → IsMade line answer old new
kill_or_spent line node answer old new true asks is =
    none_made line answer old new (accepts_refused line answer (ap refuses is.0)) is.1
kill_or_spent line node answer old new false asks is = record {
  change = Some (kill is.1.place);
  accepts = (ap answer_text is.0, subst (λ n. Asks line (asked.kill n)) (sym is.1.node_is) asks);
  map_is = is.1.map_is;
  changes_are = is.1.changes_are;
}

kill_made : (line : List ℕ) (node : Node) (answer : Answer) (old new : State) (nothing spent : Bool)
    → eqb (data_of old.map node) 0 ≡ nothing → Asks line (asked.kill node)
    → MatchBool nothing ((answer ≡ Done) × (new ≡ record old { changes = old.changes + 1 }))
    (MatchBool spent ((answer ≡ TnSpent) × (new ≡ old)) ((answer ≡ Done) × KillsNode node old new))
    → IsMade line answer old new
kill_made line node answer old new true spent none asks is =
    nothing_taken line node answer old new asks (eqb-true (data_of old.map node) 0 none) is.0 is.1
kill_made line node answer old new false spent some asks is = kill_or_spent line node answer old new spent asks is

kill_or_long : (line : List ℕ) (node : Node) (answer : Answer) (old new : State) (long : Bool)
    → Asks line (asked.kill node)
    → MatchBool long ((answer ≡ long_key node) × (new ≡ old)) (AnswersKill node old answer new)
    → IsMade line answer old new
kill_or_long line node answer old new true asks is =
    none_made line answer old new (accepts_refused line answer (ap refuses is.0)) is.1
kill_or_long line node answer old new false asks is =
    kill_made line node answer old new (eqb (data_of old.map node) 0) (leb (2 ^ 63) (fields_of old.image).tn) refl asks
    is

question_made : OneRequest → (line : List ℕ) (request : Request) (answer : Answer) (old new : State)
    → is_change request ≡ false → Asks line request → new ≡ old → IsMade line answer old new
question_made one line request answer old new none asks same =
    none_made line answer old new
    (accepts_no_change line (answer_text answer) (asks_no_change one line request none asks)) same

request_made : OneRequest → (line : List ℕ) (request : Request) (answer : Answer) (old new : State)
    → Asks line request → Answers request old answer new → IsMade line answer old new
request_made one line (asked.set node value) answer old new asks is =
    set_or_refused line node value answer old new
    (refusal (fields_of old.image) (length (key_bytes node)) (length value))
    (refusal_refuses (fields_of old.image) (length (key_bytes node)) (length value)) asks is
request_made one line (asked.kill node) answer old new asks is =
    kill_or_long line node answer old new (is_long node old) asks is
request_made one line (asked.get node) answer old new asks is =
    question_made one line (asked.get node) answer old new refl asks is.1
request_made one line (asked.order node first) answer old new asks is =
    question_made one line (asked.order node first) answer old new refl asks is.1
request_made one line (asked.data_of node) answer old new asks is =
    question_made one line (asked.data_of node) answer old new refl asks is.1
request_made one line (asked.query node) answer old new asks is =
    question_made one line (asked.query node) answer old new refl asks is.1
request_made one line epoch answer old new asks is =
    question_made one line epoch answer old new refl asks is.1

pub step_made : OneRequest → (line : List ℕ) (answer : Answer) (old new : State) → Steps old line answer new
    → IsMade line answer old new
step_made one line answer old new (inl is) = request_made one line is.0 answer old new is.1 is.2
step_made one line answer old new (inr is) =
    none_made line answer old new
    (accepts_no_change line (answer_text answer) (bad_no_change line is.0)) is.2
