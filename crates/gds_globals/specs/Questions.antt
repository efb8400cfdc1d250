-- What is asked of the globals that an image stands for.
use Rattle.std.specs.Prelude.{◌≡◌, ℕ, Bool, List, Option}
use Rattle.m_key.specs.Globals.{Globals, Place}
use Rattle.m_key.specs.Node.{Node}
use Rattle.m_key.specs.Reference.{name_bytes, node_subscript_of}
use Rattle.gds_sound.specs.Questions as questions
use Rattle.gds_sound.specs.Stands.{StandsFor}
use Rattle.gds_globals.specs.declared.questions.Next.{Next}
use Rattle.gds_globals.specs.declared.questions.Next.TheVariants as variant

-- what is found next on a level
abbrev pub next_of : Next → questions.Next
next_of (variant.Name n) = questions.name (name_bytes n)
next_of (variant.Subscript s) = questions.subscript (node_subscript_of s)

-- In each map that the image stands for, this comes next on the level of a node, or first below it.
abbrev pub FindsNext : List ℕ → Node → Bool → Option questions.Next → Type 0
FindsNext image node first next = (m : Globals) → StandsFor image m → questions.order_of m node first ≡ next

-- In each map that the image stands for, this is there of a node: 1 for its value, and 10 for one below it.
abbrev pub HasData : List ℕ → Node → ℕ → Type 0
HasData image node found = (m : Globals) → StandsFor image m → questions.data_of m node ≡ found

-- In each map that the image stands for, this is the next node of the same global.
abbrev pub FindsNode : List ℕ → Node → Option Place → Type 0
FindsNode image node next = (m : Globals) → StandsFor image m → questions.query_of m node ≡ next
