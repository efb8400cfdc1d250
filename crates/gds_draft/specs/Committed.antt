-- The file that a commit makes of an image and a draft.
use Rattle.std.specs.Prelude.{◌≡◌, ◌+◌, ◌<◌, ◌^◌, ℕ, All, List, length, take, Some, None}
use Rattle.gds_header.specs.Fields.{block_of, file_length_of, header_bytes}
use Rattle.gds_header.specs.declared.header.Header.{Header}
use Rattle.gds_file.specs.Stamp.{IsStamped, with_number}
use Rattle.gds_draft.specs.Draft.{DraftState, HoldsBytes, block_in}
use Rattle.gds_draft.specs.Drafted.{drafted}
use Rattle.gds_draft.specs.Laws.{IsDraftOf}

-- the header with the next transaction number
abbrev pub next_header : Header → Header
next_header h = record h { tn = h.tn + 1 }

-- It begins with the draft's header, whose transaction number is one more, and is as long as that says. The draft's
-- blocks have the number of the transaction, and the others are those of the image with the draft.
pub record IsCommitted (draft : DraftState) (image file : List ℕ) : Type 0 where
  pub len : length file ≡ file_length_of draft.header
  pub front : take 8192 file ≡ header_bytes (next_header draft.header)
  pub changed : (n : ℕ) (bytes : List ℕ) → n < draft.header.total → block_in draft n ≡ Some bytes
      → block_of file n ≡ with_number draft.header.tn bytes
  pub others : (n : ℕ) → n < draft.header.total → block_in draft n ≡ None
      → block_of file n ≡ block_of (drafted draft image) n

-- It is the image with the draft, stamped by the commit.
abbrev pub CommittedIsStamped : Type 0
CommittedIsStamped =
    (image : List ℕ) (draft : DraftState) (file : List ℕ) → IsDraftOf image draft → draft.header.tn < 2 ^ 63
    → IsCommitted draft image file → IsStamped (drafted draft image) file

-- Two such files are one.
abbrev pub CommittedIsOne : Type 0
CommittedIsOne =
    (image : List ℕ) (draft : DraftState) (a b : List ℕ) → IsDraftOf image draft → draft.header.tn < 2 ^ 63
    → IsCommitted draft image a → IsCommitted draft image b → b ≡ a

-- What a commit makes of bytes is bytes.
abbrev pub CommittedIsBytes : Type 0
CommittedIsBytes =
    (image : List ℕ) (draft : DraftState) (file : List ℕ) → IsDraftOf image draft → draft.header.tn < 2 ^ 63
    → HoldsBytes draft → All (λ b. b < 256) image → IsCommitted draft image file → All (λ b. b < 256) file
