-- How calls on a node end.
use Rattle.std.specs.Prelude.{◌≡◌, ℕ, ◌^◌, ◌<◌, ◌≤◌, true, false, Result, Ok, Err}
use Rattle.host_model.specs.Failures.{Failures, Rose}
use Rattle.gds_header.specs.declared.header.Header.{Header}
use Rattle.gds_file.specs.Room.{room_of}
use Rattle.gds_units.specs.State.{UnitsState}
use Rattle.gds_base.specs.Ending.{EndsReading}
use Rattle.gds_base.specs.declared.error.BaseError.{BaseError}
use Rattle.gds_base.specs.declared.error.BaseError.TheVariants.{Changed, Full, KeyTooLong, Memory, ReadFault, TnSpent}
use Rattle.gds_base.specs.declared.error.BaseError.TheVariants.{Stopped, TooDeep, ValueTooLong, WriteFault}

-- A call that reads, and may also find the key too long.
abbrev pub EndsAsking : {T : Type 0} → Failures → Failures → Type 0 → Result T BaseError → Type 0
EndsAsking before now changed (Err KeyTooLong) = Unit {0}
EndsAsking before now changed result = EndsReading before now changed result

-- The database takes a key and a value of these lengths, has a transaction number left, and room for 32 blocks.
module _ (h : Header) (key value : ℕ) where
  abbrev pub Fits : Type 0
  Fits = (key ≤ h.key_max) × (value ≤ h.value_max)

  abbrev pub MayCommit : Type 0
  MayCommit = Fits × (h.tn < 2 ^ 63)

  abbrev pub HasRoom : Type 0
  HasRoom = MayCommit × (32 ≤ room_of h)

  -- A draft of a SET is made ready: each refusal comes exactly where it is the first that is due, and before all else.
  -- Two answers have causes that the call names: that the image isn't what it should be, and that a tree is too deep.
  module _ (changed deep : Type 0) where
    abbrev pub EndsDrafting : {T : Type 0} → Failures → Failures → Result T BaseError → Type 0
    EndsDrafting before now (Ok draft) = HasRoom
    EndsDrafting before now (Err KeyTooLong) = h.key_max < key
    EndsDrafting before now (Err ValueTooLong) = (key ≤ h.key_max) × (h.value_max < value)
    EndsDrafting before now (Err TnSpent) = Fits × (2 ^ 63 ≤ h.tn)
    EndsDrafting before now (Err Full) = MayCommit × (room_of h < 32)
    EndsDrafting before now (Err TooDeep) = HasRoom × deep
    EndsDrafting before now (Err Memory) = HasRoom
    EndsDrafting before now (Err ReadFault) = HasRoom × Rose before.read now.read
    EndsDrafting before now (Err (Changed unit)) = HasRoom × changed
    EndsDrafting before now (Err _) = ⊥

    -- A SET that is carried out may also fail in writing, and stops all further writing then. Where writing was stopped
    -- it doesn't begin.
    abbrev pub EndsSetting : {H T : Type 0} → Failures → Failures → UnitsState H → UnitsState H → Result T BaseError
        → Type 0
    EndsSetting before now old new (Ok value) = HasRoom × (old.stopped ≡ false) × (new.stopped ≡ false)
    EndsSetting before now old new (Err WriteFault) =
        HasRoom × (old.stopped ≡ false) × (new.stopped ≡ true) × Rose before.write now.write
    EndsSetting before now old new (Err Stopped) = HasRoom × (old.stopped ≡ true) × (new.stopped ≡ true)
    EndsSetting before now old new result = (new.stopped ≡ old.stopped) × EndsDrafting before now result

-- what holds where a SET is refused
abbrev pub OnRefusal : {T : Type 0} → Result T BaseError → Type 0 → Type 0
OnRefusal (Err KeyTooLong) P = P
OnRefusal (Err ValueTooLong) P = P
OnRefusal (Err TnSpent) P = P
OnRefusal (Err Full) P = P
OnRefusal (Err TooDeep) P = P
OnRefusal _ P = Unit {0}
