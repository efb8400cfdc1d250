-- A draft: what is to be changed of a database, its header and some of its blocks.
use Rattle.std.specs.Prelude.{◌≡◌, ◌≤◌, ◌+◌, ℕ, ◌<◌, All, List, Option, length}
use Rattle.gds_header.specs.Fields.{fields_of, header_bytes}
use Rattle.gds_header.specs.Kinds.{IsWithinLimits}
use Rattle.gds_header.specs.declared.header.Header.{Header}
use Rattle.gds_epoch.specs.Waiting.{HasBytes, IsRising, WaitingUnit, waiting_bytes, with_unit}

-- its header, and the units that it has of blocks: that of block n has the number n + 1
pub record DraftState : Type 0 where
  pub header : Header
  pub units : List WaitingUnit

-- the bytes that it has of a block, if it has it
abbrev pub block_in : DraftState → ℕ → Option (List ℕ)
block_in draft n = waiting_bytes draft.units (n + 1)

-- with these bytes for a block
abbrev pub with_block : DraftState → ℕ → List ℕ → DraftState
with_block draft n bytes = record draft { units = with_unit draft.units (record { unit = n + 1; bytes = bytes }) }

-- A unit is a block of a file with this header.
pub record IsBlockOf (h : Header) (w : WaitingUnit) : Type 0 where
  pub from : 1 ≤ w.unit
  pub to : w.unit ≤ h.total
  pub size : length w.bytes ≡ h.block_size

-- What is always known of a draft: its header is one, and its blocks rise in number and lie below the total.
pub record IsDraft (draft : DraftState) : Type 0 where
  pub limits : IsWithinLimits draft.header
  pub reads : fields_of (header_bytes draft.header) ≡ draft.header
  pub rising : IsRising draft.units
  pub blocks : All (IsBlockOf draft.header) draft.units

-- What it has are bytes: those of its blocks, and its master map.
pub record HoldsBytes (draft : DraftState) : Type 0 where
  pub blocks : All HasBytes draft.units
  pub master : All (λ b. b < 256) draft.header.master
