-- The two files and the said bytes of a host, and what its calls do to them.
use Rattle.std.specs.Prelude.{◌≡◌, ℕ, ◌-◌, ◌<◌, min, List, [], ◌++◌, length, take, drop, All, Result, MatchResult}
use Rattle.host_model.specs.declared.host.FileNo.{FileNo}
use Rattle.host_model.specs.declared.host.FileNo.TheVariants.{Db, Images}

-- what a host holds: the bytes of both files, as a read gives them, and what was said so far
pub record Contents : Type 0 where
  pub db : List ℕ
  pub images : List ℕ
  pub said : List ℕ

-- What both files hold are bytes.
pub record AreBytes (c : Contents) : Type 0 where
  pub db : All (λ b. b < 256) c.db
  pub images : All (λ b. b < 256) c.images

abbrev pub file_of : Contents → FileNo → List ℕ
file_of c Db = c.db
file_of c Images = c.images

-- with other bytes in one file
abbrev pub with_file : FileNo → List ℕ → Contents → Contents
with_file Db bytes c = record c { db = bytes }
with_file Images bytes c = record c { images = bytes }

-- A read into a buffer gives as many bytes as the buffer takes and the file has from there, and they
-- stand at the buffer's front.
pub record Reads (file : List ℕ) (at : ℕ) (old new : List ℕ) (n : ℕ) : Type 0 where
  pub count : n ≡ min (length old) (length file - at)
  pub bytes : take n new ≡ take n (drop at file)

-- the same files, and more was said
abbrev pub saying : Contents → List ℕ → Contents
saying c bytes = record c { said = c.said ++ bytes }

-- all the bytes were said, or where that failed some of the first
abbrev pub Says : {T E : Type 0} → List ℕ → Result T E → Contents → Contents → Type 0
Says bytes result old new =
    MatchResult result (λ _. new ≡ saying old bytes) (λ _. (n : ℕ) × (new ≡ saying old (take n bytes)))

-- a source gave these bytes, which were the first that it had, and 0 says that it had none
pub record Gives (out : List ℕ) (n : ℕ) (old new : List ℕ) : Type 0 where
  pub given : old ≡ take n out ++ new
  pub all : n ≡ 0 → old ≡ []
