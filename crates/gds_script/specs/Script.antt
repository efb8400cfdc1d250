-- What the lines of a script make of a database, and what each is answered.
use Rattle.std.specs.Prelude.{◌≡◌, ◌⊎◌, ℕ, ◌==◌, ◌+◌, ◌-◌, ◌^◌, ◌≤◌, List, [], ◌∷◌, ◌++◌, length, map, codes}
use Rattle.std.specs.Prelude.{if◌then◌else◌, min, nat_le, nat_lt, Bool, MatchBool, MatchOption, Option, None, Some}
use Rattle.std.specs.FinMap.{get}
use Rattle.std.specs.Str.Lines.{lines}
use Rattle.m_key.specs.Globals.{Globals, Place, after, kill, set_value}
use Rattle.m_key.specs.Key.{key_bytes}
use Rattle.m_key.specs.Node.{Node}
use Rattle.m_key.specs.Reference.{node_of}
use Rattle.gds_header.specs.Fields.{fields_of}
use Rattle.gds_header.specs.declared.header.Header.{Header}
use Rattle.gds_file.specs.Room.{room_of}
use Rattle.gds_shape.specs.Depth.{IsDeep}
use Rattle.gds_sound.specs.Questions.{data_of, order_of, query_of}
use Rattle.gds_sound.specs.Questions as questions
use Rattle.gds_sound.specs.Stands.{StandsFor}
use Rattle.gds_lines.specs.Lines.{given}
use Rattle.gds_words.specs.Script.{Asks, Request, epoch}
use Rattle.gds_words.specs.Script as asked
use Rattle.gds_globals.specs.Kill.{IsHeaderAfterKill, changed_beside_maps}
use Rattle.gds_globals.specs.Questions.{next_of}
use Rattle.gds_globals.specs.Ready.{DiffersInAtMost, IsHeaderAfter}
use Rattle.gds_script.specs.declared.answer.Answer.{Answer}
use Rattle.gds_script.specs.declared.answer.Answer.TheVariants.{BadLine, Data, Done, End, Epoch, Full, KeyTooLong}
use Rattle.gds_script.specs.declared.answer.Answer.TheVariants.{TnSpent, TooDeep, Undefined, Value, ValueTooLong}
use Rattle.gds_script.specs.declared.answer.Answer.TheVariants as answer

-- an image, the map that it stands for, and how many changes were made
pub record State : Type 0 where
  pub image : List ℕ
  pub map : Globals
  pub changes : ℕ

-- before the first line
abbrev pub start_of : List ℕ → Globals → State
start_of image m = record { image = image; map = m; changes = 0 }

-- A length as a number of 64 bits tells it, which a longer one fills.
abbrev pub told_len : ℕ → ℕ
told_len n = min n (2 ^ 64 - 1)

-- Why a database with this header refuses a SET with a key and a value of these lengths: the first of these that
-- applies.
abbrev pub refusal : Header → ℕ → ℕ → Option Answer
refusal h key value =
    if nat_lt h.key_max key then Some (KeyTooLong (told_len key))
    else (if nat_lt h.value_max value then Some (ValueTooLong value)
    else (if nat_le (2 ^ 63) h.tn then Some TnSpent
    else (if nat_lt (room_of h) 32 then Some (Full h.free)
    else None)))

-- The node has the value then. The transaction number is one more, and the total that of the file grown by its
-- extension where fewer than 32 blocks were free. At most 32 blocks are used up, new maps left out, and where the total
-- stays at most 64 units differ.
pub record Sets (node : Node) (value : List ℕ) (old new : State) : Type 0 where
  pub place : Place
  pub node_is : place.node ≡ node
  pub map_is : new.map ≡ after old.map (set_value place value)
  pub stands : StandsFor new.image new.map
  pub header : IsHeaderAfter (fields_of old.image) (fields_of new.image)
  pub room : room_of (fields_of old.image) ≤ room_of (fields_of new.image) + 32
  pub differs : DiffersInAtMost 64 old.image new.image
  pub changes_are : new.changes ≡ old.changes + 1

-- A SET that isn't refused by the header is made. It may also be refused where its key belongs in a block that is as
-- deep as it may be.
abbrev pub AnswersSet : Node → List ℕ → State → Answer → State → Type 0
AnswersSet node value old Done new = Sets node value old new
AnswersSet node value old TooDeep new = IsDeep old.image node × (new ≡ old)
AnswersSet node value old other new = ⊥

-- The node and its descendants have no value then. The transaction number is one more, and at most 64 units differ,
-- maps left out.
pub record KillsNode (node : Node) (old new : State) : Type 0 where
  pub place : Place
  pub node_is : place.node ≡ node
  pub map_is : new.map ≡ after old.map (kill place)
  pub stands : StandsFor new.image new.map
  pub header : IsHeaderAfterKill (fields_of old.image) (fields_of new.image)
  pub differs : changed_beside_maps old.image new.image ≤ 64
  pub changes_are : new.changes ≡ old.changes + 1

-- A KILL of something takes a transaction number. Where there is nothing to take the image stays, and the change
-- counts.
abbrev pub AnswersKill : Node → State → Answer → State → Type 0
AnswersKill node old answer new =
    MatchBool (data_of old.map node == 0)
    ((answer ≡ Done) × (new ≡ record old { changes = old.changes + 1 }))
    (MatchBool (nat_le (2 ^ 63) (fields_of old.image).tn)
    ((answer ≡ TnSpent) × (new ≡ old))
    ((answer ≡ Done) × KillsNode node old new))

-- a node's value, or that it has none
abbrev pub TellsValue : Option (List ℕ) → Answer → Type 0
TellsValue (Some bytes) (Value value) = value.items ≡ bytes
TellsValue None Undefined = Unit {0}
TellsValue other answer = ⊥

pub record Tells (node : Node) (m : Globals) (answer : Answer) : Type 0 where
  pub place : Place
  pub node_is : place.node ≡ node
  pub tells : TellsValue (get m place) answer

-- what comes next, or that nothing does
abbrev pub TellsNext : Option questions.Next → Answer → Type 0
TellsNext (Some next) (answer.Next told) = next_of told ≡ next
TellsNext None End = Unit {0}
TellsNext other answer = ⊥

-- a node, or that there is none
abbrev pub TellsNode : Option Place → Answer → Type 0
TellsNode (Some next) (answer.Node told) = node_of told ≡ next.node
TellsNode None End = Unit {0}
TellsNode other answer = ⊥

-- whether the key of a node is too long for the database, and how that is answered
abbrev pub is_long : Node → State → Bool
is_long node old = nat_lt (fields_of old.image).key_max (length (key_bytes node))

abbrev pub long_key : Node → Answer
long_key node = KeyTooLong (told_len (length (key_bytes node)))

-- A question about a node is answered so, unless its key is too long. The state stays.
abbrev pub AnswersQuestion : Node → State → Answer → State → Type 0 → Type 0
AnswersQuestion node old answer new so = MatchBool (is_long node old) (answer ≡ long_key node) so × (new ≡ old)

-- what a request is answered and makes of the state
abbrev pub Answers : Request → State → Answer → State → Type 0
Answers (asked.set node value) old answer new =
    MatchOption (refusal (fields_of old.image) (length (key_bytes node)) (length value))
    (AnswersSet node value old answer new) (λ first. (answer ≡ first) × (new ≡ old))
Answers (asked.kill node) old answer new =
    MatchBool (is_long node old) ((answer ≡ long_key node) × (new ≡ old)) (AnswersKill node old answer new)
Answers (asked.get node) old answer new = AnswersQuestion node old answer new (Tells node old.map answer)
Answers (asked.order node first) old answer new =
    AnswersQuestion node old answer new (TellsNext (order_of old.map node first) answer)
Answers (asked.data_of node) old answer new =
    AnswersQuestion node old answer new (answer ≡ Data (data_of old.map node))
Answers (asked.query node) old answer new =
    AnswersQuestion node old answer new (TellsNode (query_of old.map node) answer)
Answers asked.epoch old answer new = (answer ≡ Epoch old.changes) × (new ≡ old)

-- what a line does: it asks for something, or is outside the grammar
abbrev pub Steps : State → List ℕ → Answer → State → Type 0
Steps old line answer new =
    ((request : Request) × Asks line request × Answers request old answer new)
    ⊎ (((request : Request) → Asks line request → ⊥) × (answer ≡ BadLine) × (new ≡ old))

-- the lines one after another, each with its answer
abbrev pub Runs : State → List (List ℕ) → List Answer → State → Type 0
Runs old [] [] new = new ≡ old
Runs old (line ∷ lines) (answer ∷ answers) new =
    (mid : State) × Steps old line answer mid × Runs mid lines answers new
Runs old lines answers new = ⊥

-- the lines of an input, and an EPOCH behind them, which every run ends with
abbrev pub script_of : List ℕ → List (List ℕ)
script_of input = map given (lines input) ++ codes "EPOCH" ∷ []
