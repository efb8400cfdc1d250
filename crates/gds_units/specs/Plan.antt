-- Changes of units that are made together.
use Rattle.std.specs.Prelude.{◌≡◌, ℕ, ◌==◌, ◌≤◌, ◌≢◌, All, AllPairs, List, [], ◌∷◌, length, take, None, if◌then◌else◌}
use Rattle.gds_header.specs.Fields.{fields_of, file_length_of}
use Rattle.gds_header.specs.Kinds.{unreadable}
use Rattle.gds_header.specs.declared.header.Header.{Header}
use Rattle.gds_epoch.specs.Waiting.{WaitingUnit, patched, size_of}

-- the header once a plan is carried out
abbrev pub header_after : Header → List WaitingUnit → Header
header_after h [] = h
header_after h (first ∷ plan) = if first.unit == 0 then fields_of first.bytes else header_after h plan

-- A plan that may be carried out on a database with this header, in a file of so many bytes: no unit stands in it
-- twice, each has as many bytes as it should and lies within the database that results, a header in it can be read
-- and has the block size of now, and the file is long enough.
pub record IsPlan (h : Header) (extent : ℕ) (plan : List WaitingUnit) : Type 0 where
  pub distinct : AllPairs (λ (first second : WaitingUnit). first.unit ≢ second.unit) plan
  pub sizes : All (λ (w : WaitingUnit). length w.bytes ≡ size_of h.block_size w.unit) plan
  pub inside : All (λ (w : WaitingUnit). w.unit ≤ (header_after h plan).total) plan
  pub readable : All (λ (w : WaitingUnit). w.unit ≡ 0 → unreadable w.bytes ≡ None) plan
  pub block_size : (header_after h plan).block_size ≡ h.block_size
  pub grown : file_length_of (header_after h plan) ≤ extent

-- the image that a plan makes of the database that a file begins with
abbrev pub image_after : Header → List WaitingUnit → List ℕ → List ℕ
image_after h plan file = take (file_length_of (header_after h plan)) (patched h.block_size plan file)

-- The file with the plan's units in their places, as far as its header then says. Where that is no less than before it
-- is so behind too.
pub record IsCarriedOut (h : Header) (plan : List WaitingUnit) (old new : List ℕ) : Type 0 where
  pub len : length new ≡ length old
  pub fields : fields_of new ≡ header_after h plan
  pub image : take (file_length_of (header_after h plan)) new ≡ image_after h plan old
  pub behind : h.total ≤ (header_after h plan).total → new ≡ patched h.block_size plan old
