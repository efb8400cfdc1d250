-- The units that a commit changes.
use Rattle.std.specs.Prelude.{◌≡◌, List, ◌∷◌, map, None, ℕ}
use Rattle.gds_header.specs.Fields.{fields_of, header_bytes}
use Rattle.gds_header.specs.Kinds.{unreadable}
use Rattle.gds_epoch.specs.Waiting.{WaitingUnit}
use Rattle.gds_file.specs.Stamp.{with_number}
use Rattle.gds_draft.specs.Draft.{DraftState, IsDraft}
use Rattle.gds_draft.specs.Committed.{next_header}

-- a unit with a transaction number
abbrev pub stamped : ℕ → WaitingUnit → WaitingUnit
stamped tn w = record { unit = w.unit; bytes = with_number tn w.bytes }

-- the header with the next transaction number, and the draft's blocks with that of now
abbrev pub units_to_commit : DraftState → List WaitingUnit
units_to_commit draft =
    record { unit = 0; bytes = header_bytes (next_header draft.header) } ∷ map (stamped draft.header.tn) draft.units

-- They are these units, and the header in them can be read.
pub record IsPlanOf (draft : DraftState) (units : List WaitingUnit) : Type 0 where
  pub units_are : units ≡ units_to_commit draft
  pub draft_is : IsDraft draft
  pub again : fields_of (header_bytes (next_header draft.header)) ≡ next_header draft.header
  pub readable : unreadable (header_bytes (next_header draft.header)) ≡ None
