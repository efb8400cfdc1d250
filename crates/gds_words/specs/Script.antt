-- The lines of a script, and what each asks for.
use Rattle.std.specs.Prelude.{◌≡◌, ℕ, ◌<◌, ◌≤◌, Bool, true, false, List, ◌∷◌, ◌++◌, length, All, codes}
use Rattle.m_key.specs.Node.{Node, IsNode}
use Rattle.m_key.specs.Reference.{node_of}
use Rattle.m_text.specs.Grammar.{IsReferenceText, IsNullReferenceText, IsValueText}
use Rattle.m_text.specs.Written.{reference_text, null_reference_text, value_text}
use Rattle.gds_words.specs.declared.script.TheConstants.{LINE_MAX}
use Rattle.gds_words.specs.declared.script.ScriptLine.{ScriptLine}
use Rattle.gds_words.specs.declared.script.ScriptLine.TheVariants.{Set, Kill, Get, Order, DataOf, Query, Epoch}

-- What a line asks for: that a node gets a value or goes with all below it, a node's value, the next place behind a
-- node on its level (or, with true, the first one a level below it), whether a node has a value or nodes below it, the
-- next node that has a value, or an epoch.
pub data Request : Type 0 where
  set : Node → List ℕ → Request
  kill : Node → Request
  get : Node → Request
  order : Node → Bool → Request
  data_of : Node → Request
  query : Node → Request
  epoch : Request

abbrev pub request_of : ScriptLine → Request
request_of (Set reference value) = set (node_of reference) value.items
request_of (Kill reference) = kill (node_of reference)
request_of (Get reference) = get (node_of reference)
request_of (Order reference first) = order (node_of reference) first
request_of (DataOf reference) = data_of (node_of reference)
request_of (Query reference) = query (node_of reference)
request_of Epoch = epoch

-- The text is a reference, '=' and a value, as a node's line of an extract is.
pub record IsSetting (text : List ℕ) (node : Node) (value : List ℕ) : Type 0 where
  pub front : List ℕ
  pub back : List ℕ
  pub written : text ≡ front ++ 61 ∷ back
  pub named : IsReferenceText front node
  pub meant : IsValueText back value

-- The line is the verb and a reference.
abbrev pub IsNamed : List ℕ → List ℕ → Node → Type 0
IsNamed verb line node = (text : List ℕ) × (line ≡ verb ++ text) × IsReferenceText text node

-- The line is a verb, a space and what it takes, or `EPOCH`. A null subscript at the end of ORDER's reference asks for
-- the first one there; nowhere else may one stand.
abbrev pub IsForm : List ℕ → Request → Type 0
IsForm line (set node value) = (setting : List ℕ) × (line ≡ codes "SET " ++ setting) × IsSetting setting node value
IsForm line (kill node) = IsNamed (codes "KILL ") line node
IsForm line (get node) = IsNamed (codes "GET ") line node
IsForm line (order node false) = IsNamed (codes "ORDER ") line node
IsForm line (order node true) = (text : List ℕ) × (line ≡ codes "ORDER " ++ text) × IsNullReferenceText text node
IsForm line (data_of node) = IsNamed (codes "DATA ") line node
IsForm line (query node) = IsNamed (codes "QUERY ") line node
IsForm line epoch = line ≡ codes "EPOCH"

-- The line asks for this, and isn't too long.
pub record Asks (line : List ℕ) (request : Request) : Type 0 where
  pub len : length line ≤ LINE_MAX
  pub form : IsForm line request

-- Which requests there are: of nodes and of bytes. A node with 31 subscripts has no level below it.
abbrev pub IsRight : Request → Type 0
IsRight (set node value) = IsNode node × All (λ b. b < 256) value
IsRight (kill node) = IsNode node
IsRight (get node) = IsNode node
IsRight (order node false) = IsNode node
IsRight (order node true) = IsNode node × (length node.subscripts < 31)
IsRight (data_of node) = IsNode node
IsRight (query node) = IsNode node
IsRight epoch = Unit {0}

-- the line in which a request is written
abbrev pub request_text : Request → List ℕ
request_text (set node value) = codes "SET " ++ (reference_text node ++ 61 ∷ value_text value)
request_text (kill node) = codes "KILL " ++ reference_text node
request_text (get node) = codes "GET " ++ reference_text node
request_text (order node false) = codes "ORDER " ++ reference_text node
request_text (order node true) = codes "ORDER " ++ null_reference_text node
request_text (data_of node) = codes "DATA " ++ reference_text node
request_text (query node) = codes "QUERY " ++ reference_text node
request_text epoch = codes "EPOCH"
