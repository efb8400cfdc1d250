-- A block that is put into a draft, in the image with the draft.
use Rattle.std.proofs.Common.{◌≡◌, ℕ, ◌<◌, List, length, sym, subst}
use Rattle.gds_draft.specs.Draft.{DraftState, with_block}
use Rattle.gds_draft.specs.Drafted.{drafted}
use Rattle.gds_draft.specs.Laws.{IsDraftOf}
use Rattle.gds_draft.proofs.PutLemmas.{put_rewritten}
use Rattle.gds_base.specs.Put.{PutsBlock}

pub put_block : (image : List ℕ) (old new : DraftState) (n : ℕ) (bytes : List ℕ) → IsDraftOf image old
    → n < old.header.total → length bytes ≡ old.header.block_size → new ≡ with_block old n bytes
    → PutsBlock (drafted old image) (drafted new image) n bytes
put_block image old new n bytes is low size put =
    let made = put_rewritten image old n bytes is low size in
    subst (λ (draft : DraftState). PutsBlock (drafted old image) (drafted draft image) n bytes) (sym put)
    (record { rewrites = made.rewrites; bytes_are = made.block })
