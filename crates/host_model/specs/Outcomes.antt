-- What a crash leaves after one call more, where all that it left before had Q.
use Rattle.std.specs.Prelude.{◌≡◌, ℕ, List}
use Rattle.host_model.specs.declared.host.FileNo.{FileNo}
use Rattle.host_model.specs.Disk.{Changes, Cut, SaysSome, Torn, during}
use Rattle.host_model.specs.Files.{Contents, file_of, saying}

-- after a write of n bytes at a place, which may be torn, whether it succeeded or not
abbrev pub AfterWrite : FileNo → ℕ → ℕ → (Contents → Type 0) → Contents → Type 0
AfterWrite file at n Q = during (Changes file (Torn at n)) Q

-- after a cut to n bytes, which may have happened or not
abbrev pub AfterCut : FileNo → ℕ → (Contents → Type 0) → Contents → Type 0
AfterCut file n Q = during (Changes file (Cut n)) Q

-- after a sync that succeeded, of a file with these bytes
abbrev pub AfterSync : FileNo → List ℕ → (Contents → Type 0) → Contents → Type 0
AfterSync file bytes Q c = Q c × (file_of c file ≡ bytes)

-- in a saying, and after one that failed: some of the first bytes were said, or all
abbrev pub AfterSaying : List ℕ → (Contents → Type 0) → Contents → Type 0
AfterSaying bytes Q = during (SaysSome bytes) Q

-- after a saying that succeeded
abbrev pub AfterSaid : List ℕ → (Contents → Type 0) → Contents → Type 0
AfterSaid bytes Q = during (λ before c. c ≡ saying before bytes) Q
