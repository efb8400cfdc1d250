-- What holds of each moment, as the layers above the outside say it.
use Rattle.std.specs.Prelude.{◌⊎◌, ℕ, ◌≤◌}
use Rattle.host_model.specs.Files.{Contents}
use Rattle.host_model.specs.Disk.{Stays, during}

module _ {H : Type 0} (moment : H → ℕ) (left_since : H → ℕ → Contents → Type 0) where
  -- Whatever a crash now leaves has Q.
  abbrev pub EachLeft : H → (Contents → Type 0) → Type 0
  EachLeft host Q = (c : Contents) → left_since host (moment host) c → Q c

  -- What a crash at that moment or since might have left has P.
  abbrev pub EachSince : H → ℕ → (Contents → Type 0) → Type 0
  EachSince host t P = (c : Contents) → left_since host t c → P c

  -- What a crash at any moment from old to new leaves has P.
  pub record LeavesOnly (old new : H) (P : Contents → Type 0) : Type 0 where
    pub later : moment old ≤ moment new
    pub each : (c : Contents) → left_since new (moment old) c → P c
    -- for a run that began earlier
    pub before : (t : ℕ) (c : Contents) → t ≤ moment old → left_since new t c → left_since old t c ⊎ P c

  -- What a crash at any moment from old to new leaves comes by R from what one at old could have left.
  abbrev pub LeavesBy : (Contents → Contents → Type 0) → H → H → Type 0
  LeavesBy R old new = LeavesOnly old new (during R (left_since old (moment old)))

  -- What a crash at any moment from old to now leaves has P, and what one now leaves has Q: how far a sequence of
  -- calls has come.
  pub record HasCome (old now : H) (P Q : Contents → Type 0) : Type 0 where
    pub only : LeavesOnly old now P
    pub each : EachLeft now Q

  -- What a crash since an earlier moment might have left is what it was, and one now leaves nothing new.
  pub record LeavesTheSame (old new : H) : Type 0 where
    pub later : moment old ≤ moment new
    pub nothing_new : (t : ℕ) (c : Contents) → t ≤ moment old → left_since new t c → left_since old t c
    pub keeps : (t : ℕ) (c : Contents) → t ≤ moment old → left_since old t c → left_since new t c
    pub stays : Stays (left_since old (moment old)) (left_since new (moment new))
