-- What a crash may leave of a file, step by step, and how upper layers speak of every moment.
use Rattle.std.specs.Prelude.{◌≡◌, ◌⊎◌, ℕ, ◌+◌, ◌<◌, ◌≤◌, min, max, List, ◌++◌, length, take, drop, slice_index}
use Rattle.std.specs.Prelude.{Result, MatchResult}
use Rattle.host_model.specs.declared.host.FileNo.{FileNo}
use Rattle.host_model.specs.Files.{Contents, file_of}

-- the file with these bytes at a place
abbrev pub written : ℕ → List ℕ → List ℕ → List ℕ
written at bytes file = take at file ++ bytes ++ drop (at + length bytes) file

-- A write of n bytes at a place that may be torn: in its range and past the old end there may be any bytes, the
-- length is any between the old one and the one that the whole write would give, and all other bytes stay.
pub record Torn (at n : ℕ) (old new : List ℕ) : Type 0 where
  pub no_shorter : length old ≤ length new
  pub no_longer : length new ≤ max (length old) (at + n)
  pub before : (i : ℕ) → i < length old → i < at → slice_index new i ≡ slice_index old i
  pub behind : (i : ℕ) → i < length old → at + n ≤ i → slice_index new i ≡ slice_index old i

-- A cut to n bytes that may not have happened, or in part: the length is any between the new one and the old,
-- and from n on there may be any bytes.
pub record Cut (n : ℕ) (old new : List ℕ) : Type 0 where
  pub no_shorter : min (length old) n ≤ length new
  pub no_longer : length new ≤ length old
  pub below : (i : ℕ) → i < n → i < length new → slice_index new i ≡ slice_index old i

-- One file changed so. The other stays, and so does what was said.
pub record Changes (file : FileNo) (R : List ℕ → List ℕ → Type 0) (old new : Contents) : Type 0 where
  pub changed : R (file_of old file) (file_of new file)
  pub other : (f : FileNo) → (f ≡ file → ⊥) → file_of new f ≡ file_of old f
  pub said : new.said ≡ old.said

-- After a write, or a cut, that succeeded the file is as it should be; after one that failed, as a crash might leave
-- it.
abbrev pub Writes : {T E : Type 0} → ℕ → List ℕ → Result T E → List ℕ → List ℕ → Type 0
Writes at bytes result old new =
    MatchResult result (λ _. new ≡ written at bytes old) (λ _. Torn at (length bytes) old new)

abbrev pub Cuts : {T E : Type 0} → ℕ → Result T E → List ℕ → List ℕ → Type 0
Cuts n result old new = MatchResult result (λ _. new ≡ take n old) (λ _. Cut n old new)

-- some of the first of the bytes were said, or all, and both files stay
abbrev pub SaysSome : List ℕ → Contents → Contents → Type 0
SaysSome bytes old new = (n : ℕ) × (new ≡ record old { said = old.said ++ take n bytes })

-- each new outcome of a crash is an old one after a step
abbrev pub Follows : (Contents → Contents → Type 0) → (Contents → Type 0) → (Contents → Type 0) → Type 0
Follows step old new = (c : Contents) → new c → (d : Contents) × old d × step d c

-- whatever a crash leaves, it leaves this file so
abbrev pub Settles : FileNo → List ℕ → (Contents → Type 0) → Type 0
Settles file bytes outcomes = (c : Contents) → outcomes c → file_of c file ≡ bytes

-- a crash leaves nothing that it couldn't leave before
abbrev pub Stays : (Contents → Type 0) → (Contents → Type 0) → Type 0
Stays old new = (c : Contents) → new c → old c

-- the outcomes of a crash in the middle of a step
abbrev pub during : (Contents → Contents → Type 0) → (Contents → Type 0) → Contents → Type 0
during step old c = (d : Contents) × old d × step d c

-- Time goes on by a call. What a crash since a moment up to `before` might have left is what it might have left before
-- the call, or what one in the call or right after it leaves.
pub record Elapses (before now : ℕ) (past since : ℕ → Contents → Type 0) (then : Contents → Type 0) : Type 0 where
  pub later : before ≤ now
  pub nothing_else : (t : ℕ) (c : Contents) → t ≤ before → since t c → past t c ⊎ then c
  pub keeps : (t : ℕ) (c : Contents) → t ≤ before → past t c → since t c
