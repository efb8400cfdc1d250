-- Changes of blocks, one after another and side by side.
use Rattle.std.specs.Prelude.{◌≡◌, ℕ, false, IsTrue, List, ◌++◌}
use Rattle.gds_file.specs.Maps.{has_block, is_busy}
use Rattle.gds_file.specs.Reshape.{Reshapes}

-- Nothing is a change of any busy blocks to themselves.
abbrev pub NothingReshapes : Type 0
NothingReshapes =
    (image blocks : List ℕ) → ((n : ℕ) → IsTrue (has_block blocks n) → IsTrue (is_busy image n))
    → Reshapes image image blocks blocks

-- One change after another is a change.
abbrev pub ReshapesCompose : Type 0
ReshapesCompose =
    (a b c : List ℕ) (first second third : List ℕ) → Reshapes a b first second → Reshapes b c second third
    → Reshapes a c first third

-- A change leaves further busy blocks where they are.
abbrev pub ReshapesWithMore : Type 0
ReshapesWithMore =
    (before after : List ℕ) (old new more : List ℕ) → Reshapes before after old new
    → ((n : ℕ) → IsTrue (has_block more n) → IsTrue (is_busy before n))
    → ((n : ℕ) → IsTrue (has_block more n) → has_block old n ≡ false)
    → Reshapes before after (old ++ more) (new ++ more)

-- Only which blocks there are counts, and not in which order.
abbrev pub ReshapesInAnyOrder : Type 0
ReshapesInAnyOrder =
    (before after : List ℕ) (old new old' new' : List ℕ) → Reshapes before after old new
    → ((n : ℕ) → has_block old n ≡ has_block old' n) → ((n : ℕ) → has_block new n ≡ has_block new' n)
    → Reshapes before after old' new'
