-- What a KILL makes of an image, and how it ends.
use Rattle.std.specs.Prelude.{◌≡◌, ◌≢◌, ℕ, ◌+◌, ◌%◌, ◌==◌, ◌^◌, ◌<◌, ◌≤◌, Bool, true, false, ◌&&◌, not, MatchBool}
use Rattle.std.specs.Prelude.{List, length, take, filter, bytes_eq, if◌then◌else◌, Result, Ok, Err}
use Rattle.std.specs.List.{range_with_len}
use Rattle.host_model.specs.Failures.{Failures, Rose}
use Rattle.gds_base.specs.declared.error.BaseError.{BaseError}
use Rattle.gds_base.specs.declared.error.BaseError.TheVariants.{Changed, KeyTooLong, Memory, ReadFault, Stopped}
use Rattle.gds_base.specs.declared.error.BaseError.TheVariants.{TnSpent, WriteFault}
use Rattle.gds_header.specs.Fields.{fields_of}
use Rattle.gds_header.specs.declared.header.Header.{Header}
use Rattle.gds_shape.specs.Move.{is_changed}
use Rattle.gds_sound.specs.Questions.{data_of}
use Rattle.gds_sound.specs.Stands.{StandsFor}
use Rattle.gds_units.specs.State.{UnitsState}
use Rattle.m_key.specs.Globals.{Globals, Place, after, kill}
use Rattle.m_key.specs.Node.{Node}

-- The header after a KILL that took something: the transaction number is one more, and of the rest only the free count
-- and the master map are others.
abbrev pub IsHeaderAfterKill : Header → Header → Type 0
IsHeaderAfterKill old new = new ≡ record old { free = new.free; master = new.master; tn = old.tn + 1 }

-- how many units of a file are others in a later one, maps left out
abbrev pub is_changed_beside_maps : List ℕ → List ℕ → ℕ → Bool
is_changed_beside_maps old new n = is_changed old new n && not (n % 512 == 0)

abbrev pub changed_beside_maps : List ℕ → List ℕ → ℕ
changed_beside_maps old new =
    (if bytes_eq (take 8192 old) (take 8192 new) then 0 else 1)
    + length (filter (is_changed_beside_maps old new) (range_with_len 0 (fields_of old).total))

-- The file stands for the map after the KILL, and for the change a transaction number was left. At most 64 units differ,
-- maps left out.
pub record Kills (p : Place) (before file : List ℕ) (m : Globals) : Type 0 where
  pub unspent : (fields_of before).tn < 2 ^ 63
  pub stands : StandsFor file (after m (kill p))
  pub header : IsHeaderAfterKill (fields_of before) (fields_of file)
  pub differs : changed_beside_maps before file ≤ 64

-- Where neither the node nor a descendant has a value the image stays, transaction number and all.
abbrev pub IsAfterKill : Place → List ℕ → List ℕ → Type 0
IsAfterKill p before file =
    (m : Globals) → StandsFor before m → MatchBool (data_of m p.node == 0) (file ≡ before) (Kills p before file m)

-- The node or a descendant has a value in each map that the image stands for, or none has in any.
abbrev pub IsSomethingThere : Node → List ℕ → Type 0
IsSomethingThere node image = (m : Globals) → StandsFor image m → data_of m node ≢ 0

abbrev pub IsNothingThere : Node → List ℕ → Type 0
IsNothingThere node image = (m : Globals) → StandsFor image m → data_of m node ≡ 0

-- A KILL of a node whose key has so many bytes.
module _ (h : Header) (key : ℕ) (changed : Type 0) where
  -- A draft of it is made ready: `KeyTooLong` comes exactly where it is due, and before all else. That the image isn't
  -- what it should be has a cause that the call names.
  abbrev pub EndsDraftingKill : {T : Type 0} → Failures → Failures → Result T BaseError → Type 0
  EndsDraftingKill before now (Ok draft) = key ≤ h.key_max
  EndsDraftingKill before now (Err KeyTooLong) = h.key_max < key
  EndsDraftingKill before now (Err TnSpent) = (key ≤ h.key_max) × (2 ^ 63 ≤ h.tn)
  EndsDraftingKill before now (Err Memory) = key ≤ h.key_max
  EndsDraftingKill before now (Err ReadFault) = (key ≤ h.key_max) × Rose before.read now.read
  EndsDraftingKill before now (Err (Changed unit)) = (key ≤ h.key_max) × changed
  EndsDraftingKill before now (Err _) = ⊥

  -- A KILL that is carried out may also fail in writing, and stops all further writing then. Where writing was stopped
  -- it doesn't begin.
  abbrev pub EndsKilling : {H T : Type 0} → Failures → Failures → UnitsState H → UnitsState H → Result T BaseError
      → Type 0
  EndsKilling before now old new (Err WriteFault) =
      (key ≤ h.key_max) × (old.stopped ≡ false) × (new.stopped ≡ true) × Rose before.write now.write
  EndsKilling before now old new (Err Stopped) =
      (key ≤ h.key_max) × (old.stopped ≡ true) × (new.stopped ≡ true)
  EndsKilling before now old new result = (new.stopped ≡ old.stopped) × EndsDraftingKill before now result
