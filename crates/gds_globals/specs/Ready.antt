-- Drafts of a SET that are ready for a commit.
use Rattle.std.specs.Prelude.{◌≡◌, ℕ, ◌+◌, ◌≤◌, List, if◌then◌else◌, nat_lt}
use Rattle.gds_header.specs.Fields.{fields_of}
use Rattle.gds_header.specs.declared.header.Header.{Header}
use Rattle.gds_file.specs.Room.{extended, room_of}
use Rattle.gds_draft.specs.Committed.{IsCommitted}
use Rattle.gds_draft.specs.Draft.{DraftState}
use Rattle.gds_shape.specs.Move.{changed_units}
use Rattle.gds_sound.specs.Stands.{StandsFor}
use Rattle.m_key.specs.Globals.{Globals, Place, after, set_value}

-- The header with which a change goes on: where fewer than 32 blocks were free, the total is that of the file grown by
-- the extension. Of the rest only the free count and the master map are others.
abbrev pub IsNextHeader : Header → Header → Type 0
IsNextHeader old new =
    new ≡ record old {
      total = if nat_lt old.free 32 then extended old else old.total;
      free = new.free;
      master = new.master;
    }

-- The header after the commit: its transaction number is one more, too.
abbrev pub IsHeaderAfter : Header → Header → Type 0
IsHeaderAfter old new =
    new ≡ record old {
      total = if nat_lt old.free 32 then extended old else old.total;
      free = new.free;
      master = new.master;
      tn = old.tn + 1;
    }

-- The file stands for the map after a SET, for each that the image stood for.
abbrev pub IsAfterSet : Place → List ℕ → List ℕ → List ℕ → Type 0
IsAfterSet p value image file =
    (m : Globals) → StandsFor image m → StandsFor file (after m (set_value p value))

-- What a commit of the draft makes of the image does.
abbrev pub LeadsToSet : DraftState → Place → List ℕ → List ℕ → Type 0
LeadsToSet draft p value image =
    (file : List ℕ) → IsCommitted draft image file → IsAfterSet p value image file

-- Where the total stays, at most so many units differ in two files: the header is one, and each block.
abbrev pub DiffersInAtMost : ℕ → List ℕ → List ℕ → Type 0
DiffersInAtMost most before after =
    (fields_of after).total ≡ (fields_of before).total → changed_units before after ≤ most

-- At most so many blocks were used up that were free or can still come, maps left out.
abbrev pub UsesAtMost : ℕ → List ℕ → List ℕ → Type 0
UsesAtMost most before after = room_of (fields_of before) ≤ room_of (fields_of after) + most
