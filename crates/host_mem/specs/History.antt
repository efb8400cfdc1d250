-- Both files on their disks and what was said, replayed call by call, and what a crash since a moment might have left.
use Rattle.std.specs.Prelude.{◌≡◌, ◌⊎◌, ℕ, ◌<◌, ◌≤◌, List, [], ◌∷◌, ◌++◌, take}
use Rattle.host_model.specs.declared.host.FileNo.{FileNo}
use Rattle.host_model.specs.declared.host.FileNo.TheVariants.{Db, Images}
use Rattle.host_model.specs.Files.{Contents}
use Rattle.host_mem.specs.Drive.{Drive, Leaves, crashed, settled, shortened, synced, wrote}
use Rattle.host_mem.specs.Step.{Step, Write, Cut, Sync, Say, number_of}

-- both files on their disks, and what was said
pub record State : Type 0 where
  pub db : Drive
  pub images : Drive
  pub said : List ℕ

abbrev pub drive_of : State → FileNo → Drive
drive_of state Db = state.db
drive_of state Images = state.images

abbrev pub with_drive : FileNo → Drive → State → State
with_drive Db drive state = record state { db = drive }
with_drive Images drive state = record state { images = drive }

-- the start: a crash leaves both files as they are
abbrev pub start : Contents → State
start c = record { db = settled c.db; images = settled c.images; said = c.said }

-- what a read gives of both files, and what was said
abbrev pub shown : State → Contents
shown state = record { db = state.db.now; images = state.images.now; said = state.said }

abbrev pub apply : Step → State → State
apply (Write number file at bytes done) state = with_drive file (wrote at bytes done (drive_of state file)) state
apply (Cut number file len done) state = with_drive file (shortened len done (drive_of state file)) state
apply (Sync number file) state = with_drive file (synced (drive_of state file)) state
apply (Say number bytes) state = record state { said = state.said ++ bytes }

-- the state after these steps
abbrev pub replayed : State → List Step → State
replayed state [] = state
replayed state (step ∷ steps) = replayed (apply step state) steps

-- what a crash in this state may leave
pub record StateLeaves (state : State) (c : Contents) : Type 0 where
  pub db : Leaves state.db c.db
  pub images : Leaves state.images c.images
  pub said : c.said ≡ state.said

-- What a crash before a step or in it may leave: in a saying, some of the first of its bytes were said.
abbrev pub LeftIn : Step → State → Contents → Type 0
LeftIn (Write number file at bytes done) state c = StateLeaves state c
LeftIn (Cut number file len done) state c = StateLeaves state c
LeftIn (Sync number file) state c = StateLeaves state c
LeftIn (Say number bytes) state c = (n : ℕ) × StateLeaves (record state { said = state.said ++ take n bytes }) c

-- what a crash since the moment t, and before the last of these steps was made, might have left
abbrev pub LeftBefore : State → List Step → ℕ → Contents → Type 0
LeftBefore state [] t c = ⊥
LeftBefore state (step ∷ steps) t c =
    ((t < number_of step) × LeftIn step state c) ⊎ LeftBefore (apply step state) steps t c

-- What a crash at the moment t or since might have left: what one now may leave, or where t is past, what one might
-- have left before a later step.
abbrev pub LeftSince : Contents → List Step → ℕ → ℕ → Contents → Type 0
LeftSince first steps moment t c =
    StateLeaves (replayed (start first) steps) c ⊎ ((t < moment) × LeftBefore (start first) steps t c)

-- each step's number is at most that of the last call
abbrev pub NumberedTo : ℕ → List Step → Type 0
NumberedTo moment [] = Unit {0}
NumberedTo moment (step ∷ steps) = (number_of step ≤ moment) × NumberedTo moment steps

-- what the crash of this choice leaves
abbrev pub crashed_state : ℕ → State → Contents
crashed_state choice state =
    record { db = crashed choice state.db; images = crashed choice state.images; said = state.said }
