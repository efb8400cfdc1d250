-- What becomes of a draft, and of the image with it, where it gets a block or another header.
use Rattle.std.specs.Prelude.{◌≡◌, ◌≢◌, ◌+◌, ◌<◌, ◌≤◌, ℕ, List, [], ◌∷◌, length, Some}
use Rattle.gds_header.specs.Fields.{block_of, fields_of, header_bytes, zeros}
use Rattle.gds_header.specs.Kinds.{IsWithinLimits}
use Rattle.gds_header.specs.declared.header.Header.{Header}
use Rattle.gds_file.specs.Rewrite.{Rewrites}
use Rattle.gds_draft.specs.Draft.{DraftState, IsDraft, block_in, with_block}
use Rattle.gds_draft.specs.Drafted.{drafted}
use Rattle.gds_draft.specs.Laws.{IsDraftOf}

-- A draft has these bytes for a block, and else what it had. It has one block more than before, or as many where it had
-- that one.
pub record GetsBlock (before after : DraftState) (n : ℕ) (bytes : List ℕ) : Type 0 where
  pub there : block_in after n ≡ Some bytes
  pub others : (m : ℕ) → m ≢ n → block_in after m ≡ block_in before m
  pub at_most : length after.units ≤ length before.units + 1
  pub again : (old : List ℕ) → block_in before n ≡ Some old → length after.units ≡ length before.units

-- In the image with it that block is written anew.
pub record RewritesBlock (image : List ℕ) (before after : DraftState) (n : ℕ) (bytes : List ℕ) : Type 0 where
  pub rewrites : Rewrites (drafted before image) (drafted after image) (n ∷ [])
  pub block : block_of (drafted after image) n ≡ bytes
  pub draft_of : IsDraftOf image after

-- That becomes of a draft of the image, and of any draft, that is given a block.
abbrev pub PutRewrites : Type 0
PutRewrites =
    (image : List ℕ) (draft : DraftState) (n : ℕ) (bytes : List ℕ)
    → IsDraftOf image draft → n < draft.header.total → length bytes ≡ draft.header.block_size
    → RewritesBlock image draft (with_block draft n bytes) n bytes

abbrev pub PutIsThere : Type 0
PutIsThere =
    (draft : DraftState) (n : ℕ) (bytes : List ℕ) → IsDraft draft → GetsBlock draft (with_block draft n bytes) n bytes

-- A header may take the place of a draft's: it is one, of the same block size and transaction number, and its total is
-- no smaller.
pub record MayFollow (old new : Header) : Type 0 where
  pub limits : IsWithinLimits new
  pub reads : fields_of (header_bytes new) ≡ new
  pub block_size : new.block_size ≡ old.block_size
  pub tn : new.tn ≡ old.tn
  pub total : old.total ≤ new.total

-- The image with a draft reads as the draft's new header, and the blocks below the old total stay. Those from there on
-- that are also behind the image's end are zero. Where the total stays, all blocks do.
pub record GetsHeader (image : List ℕ) (before after : DraftState) : Type 0 where
  pub fields : fields_of (drafted after image) ≡ after.header
  pub blocks : (n : ℕ) → n < before.header.total
      → block_of (drafted after image) n ≡ block_of (drafted before image) n
  pub behind : (n : ℕ) → before.header.total ≤ n → (fields_of image).total ≤ n → n < after.header.total
      → block_of (drafted after image) n ≡ zeros after.header.block_size
  pub same_total : after.header.total ≡ before.header.total
      → (n : ℕ) → block_of (drafted after image) n ≡ block_of (drafted before image) n
  pub draft_of : IsDraftOf image after

abbrev pub HeaderPut : Type 0
HeaderPut =
    (image : List ℕ) (draft : DraftState) (h : Header) → IsDraftOf image draft → MayFollow draft.header h
    → GetsHeader image draft (record draft { header = h })
