-- What is left of two files that are stored one after the other, before it is said that they are.
use Rattle.std.specs.Prelude.{◌≡◌, ◌⊎◌, ℕ, List, length}
use Rattle.host_model.specs.declared.host.FileNo.{FileNo}
use Rattle.host_model.specs.declared.host.FileNo.TheVariants.{Db, Images}
use Rattle.host_model.specs.Disk.{written}
use Rattle.host_model.specs.Files.{Contents, file_of, with_file}
use Rattle.host_model.specs.Outcomes.{AfterSaying, AfterWrite}

-- with these bytes at the front of a file
abbrev pub with_front : FileNo → List ℕ → Contents → Contents
with_front file bytes c = with_file file (written 0 bytes (file_of c file)) c

-- The write into the file of images may be torn, and nothing else happened; or it is whole, and the one into the
-- database file may be torn; or both are whole, and some was said.
abbrev pub IsStoredInOrder : Contents → List ℕ → List ℕ → List ℕ → Contents → Type 0
IsStoredInOrder c first second done left =
    AfterWrite Images 0 (length first) (λ before. before ≡ c) left
    ⊎ AfterWrite Db 0 (length second) (λ before. before ≡ with_front Images first c) left
    ⊎ AfterSaying done (λ before. before ≡ with_front Db second (with_front Images first c)) left
