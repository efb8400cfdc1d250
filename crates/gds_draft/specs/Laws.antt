-- The image with a draft, by its header and by its blocks.
use Rattle.std.specs.Prelude.{◌≡◌, ◌↔◌, ◌<◌, ◌≤◌, ◌^◌, ℕ, false, List, [], length, All, take}
use Rattle.gds_header.specs.Fields.{block_of, fields_of, file_length_of, header_bytes}
use Rattle.gds_header.specs.Kinds.{IsWithinLimits, groups_of, has_free, header_faults}
use Rattle.gds_header.specs.declared.header.Header.{Header}
use Rattle.gds_draft.specs.Draft.{DraftState, IsDraft}
use Rattle.gds_draft.specs.Drafted.{block_with, drafted}

-- The image has a header within the limits, which is the draft's but for what a change may change.
pub record IsDraftOf (image : List ℕ) (draft : DraftState) : Type 0 where
  pub draft_is : IsDraft draft
  pub limits : IsWithinLimits (fields_of image)
  pub block_size : draft.header.block_size ≡ (fields_of image).block_size
  pub tn : draft.header.tn ≡ (fields_of image).tn
  pub long : file_length_of (fields_of image) ≡ length image

-- It begins with the draft's header and reads as it, its blocks are the draft's or else the image's or zero, and it is
-- as long as it says.
pub record ReadsAsDrafted (draft : DraftState) (image : List ℕ) : Type 0 where
  pub front : take 8192 (drafted draft image) ≡ header_bytes draft.header
  pub fields : fields_of (drafted draft image) ≡ draft.header
  pub blocks : (n : ℕ) → n < draft.header.total → block_of (drafted draft image) n ≡ block_with draft image n
  pub len : length (drafted draft image) ≡ file_length_of draft.header

abbrev pub DraftedReads : Type 0
DraftedReads = (image : List ℕ) (draft : DraftState) → IsDraftOf image draft → ReadsAsDrafted draft image

-- Files of one length with the same first bytes and the same blocks are one.
abbrev pub SameByBlocks : Type 0
SameByBlocks =
    (a b : List ℕ) → length a ≡ file_length_of (fields_of a) → length b ≡ length a → take 8192 b ≡ take 8192 a
    → ((n : ℕ) → n < (fields_of a).total → block_of b n ≡ block_of a n) → b ≡ a

-- Bytes whose header has no fault are themselves the image with the draft that changes nothing.
abbrev pub NothingDrafted : Type 0
NothingDrafted =
    (image : List ℕ) → All (λ b. b < 256) image → header_faults image ≡ []
    → drafted (record { header = fields_of image; units = [] }) image ≡ image

-- What the limits leave open is right too: the transaction number is from 1 to 2^63, and in the master map no group
-- past the last has a free block.
pub record IsFaultlessHeader (h : Header) : Type 0 where
  pub from : 1 ≤ h.tn
  pub to : h.tn ≤ 2 ^ 63
  pub past : (group : ℕ) → groups_of h ≤ group → group < 2048 → has_free h group ≡ false

-- The header of the image with a draft has no fault exactly where that is so of the draft's.
abbrev pub DraftedHeader : Type 0
DraftedHeader =
    (image : List ℕ) (draft : DraftState) → IsDraftOf image draft
    → (header_faults (drafted draft image) ≡ []) ↔ IsFaultlessHeader draft.header
