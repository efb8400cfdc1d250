-- What holds of a new database.
use Rattle.std.specs.Prelude.{◌≡◌, ℕ, ◌<◌, [], ◌∷◌, length, All, None}
use Rattle.std.specs.FinMap.{empty}
use Rattle.gds_header.specs.declared.header.Header.{Header}
use Rattle.gds_header.specs.Fields.{block_of, fields_of, file_length_of, image_length}
use Rattle.gds_header.specs.Kinds.{IsWithinLimits, ending_kind}
use Rattle.gds_sound.specs.Stands.{StandsFor}
use Rattle.gds_sound.specs.Sound.{Tree, IsSound}
use Rattle.gds_new.specs.NewDatabase.{new_block, new_database, new_header}

-- Nothing ends the reading of its header, and it has the length that it says itself.
pub record IsWholeNew (h : Header) : Type 0 where
  pub readable : ending_kind (new_database h) ≡ None
  pub len : image_length (new_database h) ≡ length (new_database h)

-- Its header reads as the new header, its blocks as the new blocks, it has the length that its header says, and it is
-- made of bytes.
pub record ReadsAsNew (h : Header) : Type 0 where
  pub fields : fields_of (new_database h) ≡ new_header h
  pub blocks : (n : ℕ) → n < h.total → block_of (new_database h) n ≡ new_block h n
  pub len : length (new_database h) ≡ file_length_of h
  pub bytes : All (λ b. b < 256) (new_database h)

-- the directory's tree of a new database: the blocks 1 and 2, and no entry
abbrev pub empty_directory : Tree
empty_directory = record { blocks = 1 ∷ 2 ∷ []; items = [] }

-- It is sound, and stands for the map without nodes.
pub record IsEmptyDatabase (h : Header) : Type 0 where
  pub reads : ReadsAsNew h
  pub sound : IsSound (new_database h) empty_directory []
  pub stands : StandsFor (new_database h) empty

-- Two laws: so it is for each header within the limits.
abbrev pub NewIsWhole : Type 0
NewIsWhole = (h : Header) → IsWithinLimits h → IsWholeNew h

abbrev pub NewIsEmpty : Type 0
NewIsEmpty = (h : Header) → IsWithinLimits h → IsEmptyDatabase h
