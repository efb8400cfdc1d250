-- What the bytes that were said tell of the changes: which were answered, and which are durable.
use Rattle.std.specs.Prelude.{◌≡◌, ℕ, ◌==◌, ◌≤◌, List, [], ◌∷◌, ◌++◌, Contains, codes, length, take, if◌then◌else◌}
use Rattle.std.specs.Prelude.{Option, None, Some}
use Rattle.std.specs.Fmt.{decimal}
use Rattle.host_model.specs.Files.{Contents}
use Rattle.m_key.specs.Globals.{Change, Globals, after_all, kill, set_value}
use Rattle.gds_base.specs.Finds.{Finds}
use Rattle.gds_words.specs.Script.{Asks}
use Rattle.gds_words.specs.Script as asked

-- The lines that byte 10 ends, without it, where these bytes of the first line were read. What stands behind the last
-- byte 10 is no whole line.
abbrev pub whole_lines_behind : List ℕ → List ℕ → List (List ℕ)
whole_lines_behind front [] = []
whole_lines_behind front (b ∷ bytes) =
    if b == 10 then front ∷ whole_lines_behind [] bytes else whole_lines_behind (front ++ b ∷ []) bytes

abbrev pub whole_lines : List ℕ → List (List ℕ)
whole_lines bytes = whole_lines_behind [] bytes

-- The line asks for this change.
abbrev pub AsksFor : List ℕ → Change → Type 0
AsksFor line (set_value p value) = Asks line (asked.set p.node value)
AsksFor line (kill p) = Asks line (asked.kill p.node)

-- The line asks for a change that was answered OK, or there is none.
abbrev pub Accepts : List ℕ → List ℕ → Option Change → Type 0
Accepts line reply (Some change) = (reply ≡ codes "OK") × AsksFor line change
Accepts line reply None = reply ≡ codes "OK" → (change : Change) → AsksFor line change → ⊥

abbrev pub with_change : Option Change → List Change → List Change
with_change None changes = changes
with_change (Some change) changes = change ∷ changes

-- These are the changes that lines ask for which were answered OK: each line's reply has the same number.
abbrev pub AreAccepted : List (List ℕ) → List (List ℕ) → List Change → Type 0
AreAccepted (line ∷ lines) (reply ∷ replies) changes =
    (change : Option Change) × (rest : List Change) × (changes ≡ with_change change rest)
    × Accepts line reply change × AreAccepted lines replies rest
AreAccepted lines replies changes = changes ≡ []

-- Whoever opens what a crash left finds the map after some first ones of the changes that were answered OK, and no
-- line `EPOCH n` was said with a greater n than their number. Only bytes that were said since then count, and of those
-- only whole lines.
pub record IsAfterPrefix (script : List (List ℕ)) (m : Globals) (before : List ℕ) (c : Contents) : Type 0 where
  pub said : List ℕ
  pub changes : List Change
  pub accepted : AreAccepted script (whole_lines said) changes
  pub kept : ℕ
  pub few : kept ≤ length changes
  pub durable : (n : ℕ) → Contains (whole_lines said) (codes "EPOCH " ++ decimal n) → n ≤ kept
  pub finds : Finds (after_all m (take kept changes)) (before ++ said) c
