-- What an opening finds of two files, and that it goes on finding it while they are worked on.
use Rattle.std.specs.Prelude.{◌≡◌, ◌⊎◌, ℕ, ◌<◌, ◌≤◌, List, Option, None, Some, slice_set}
use Rattle.host_model.specs.Failures.{counted}
use Rattle.host_model.specs.Files.{Contents}
use Rattle.host_model.specs.Moments.{EachSince, LeavesTheSame}
use Rattle.gds_header.specs.Fields.{fields_of}
use Rattle.gds_header.specs.Kinds.{ending_kind}
use Rattle.gds_header.specs.declared.header.Header.{Header}
use Rattle.gds_header.specs.declared.kind.HeaderKind.{HeaderKind}
use Rattle.gds_images.specs.Chain.{first_gate}
use Rattle.gds_images.specs.Outcome.{IsClosed, IsWhole}
use Rattle.gds_images.specs.Recovered.{recovered}

-- Both files hold what they held.
pub record SameFiles (before after : Contents) : Type 0 where
  pub db : after.db ≡ before.db
  pub images : after.images ≡ before.images

-- The next opening finds of the second two files what it finds of the first, byte for byte. Where it finds nothing,
-- both are the same.
pub record IsLeftAlone (c d : Contents) : Type 0 where
  pub found : recovered d.db d.images ≡ recovered c.db c.images
  pub kept : recovered c.db c.images ≡ None → SameFiles c d

-- The files are left alone, and nothing more was said.
pub record FindsSame (c d : Contents) : Type 0 where
  pub files : IsLeftAlone c d
  pub said : d.said ≡ c.said

-- The database file is what was recovered, a whole database with this header, and the file of images is as before, with
-- gate 0 closed.
pub record IsOpened (c : Contents) (header : Header) (now : Contents) : Type 0 where
  pub found : recovered c.db c.images ≡ Some now.db
  pub whole : IsWhole now.db
  pub fields : header ≡ fields_of now.db
  pub images : now.images ≡ slice_set c.images first_gate 0
  pub closed : IsClosed now.images

-- A fault ends the reading of the file's header.
pub record IsUnreadable (file : List ℕ) : Type 0 where
  pub kind : HeaderKind
  pub ends : ending_kind file ≡ Some kind

-- There is a recovered file, and it is one of these.
pub record EndsReading (c : Contents) : Type 0 where
  pub file : List ℕ
  pub found : recovered c.db c.images ≡ Some file
  pub unreadable : IsUnreadable file

-- No file can be recovered; or the gate is closed, and the database file is the recovered one.
abbrev pub HasNothingToDo : Contents → Type 0
HasNothingToDo c =
    (recovered c.db c.images ≡ None) ⊎ (IsClosed c.images × (recovered c.db c.images ≡ Some c.db))

-- Nothing was written: the host tells what it told, and crashes find no difference.
pub record IsUnwritten {H : Type 0} (contents : H → Option Contents) (moment : H → ℕ)
    (left_since : H → ℕ → Contents → Type 0) (old new : H) : Type 0 where
  pub told : contents new ≡ contents old
  pub crash : LeavesTheSame moment left_since old new

module _ {H : Type 0} (moment : H → ℕ) (left_since : H → ℕ → Contents → Type 0) where
  -- The first two calls made both files stable. Each crash since then leaves files with P, and one since an earlier
  -- moment leaves such files or what it left before.
  pub record IsPastBarrier (old new : H) (P : Contents → Type 0) : Type 0 where
    pub later : moment old ≤ moment new
    pub made : counted (counted (moment old)) ≤ moment new
    pub since : (t : ℕ) → counted (counted (moment old)) ≤ t → EachSince moment left_since new t P
    pub before : (t : ℕ) (c : Contents) → t ≤ moment old → left_since new t c → left_since old t c ⊎ P c

  -- So it is, or it ended early, for this reason, and crashes find no difference.
  abbrev pub LeavesSinceBarrier : Type 0 → H → H → (Contents → Type 0) → Type 0
  LeavesSinceBarrier early old new P = (early × LeavesTheSame moment left_since old new) ⊎ IsPastBarrier old new P
