-- Entries that are written into blocks of a draft.
use Rattle.std.proofs.Common.{◌≡◌, ◌+◌, ◌≤◌, ℕ, List, [], ◌∷◌, Result, Ok, Err, refl, sym, ap, ◌∙◌, subst, arith}
use Rattle.std.specs.Prelude.{OnErr, OnOk}
use Rattle.gds_base.specs.declared.error.BaseError.{BaseError}
use Rattle.gds_base.specs.declared.error.BaseError.TheVariants.{Memory}
use Rattle.gds_base.specs.Drafting.{IsDraftFor}
use Rattle.gds_base.specs.Put.{PutsBlock}
use Rattle.gds_block.specs.Item.{Item}
use Rattle.gds_draft.specs.Draft.{DraftState, IsDraft, with_block}
use Rattle.gds_draft.specs.Drafted.{drafted}
use Rattle.gds_draft.specs.Laws.{IsDraftOf}
use Rattle.gds_draft.proofs.DraftLemmas.{drafted_read}
use Rattle.gds_draft.proofs.PutLemmas.{put_there}
use Rattle.gds_file.proofs.RewriteLemmas.{rewrite_keeps_header}
use Rattle.gds_header.specs.Fields.{fields_of}
use Rattle.gds_header.specs.declared.header.Header.{Header}
use Rattle.gds_pack.specs.Packed.{block_bytes, packed_size}
use Rattle.gds_splice.specs.Writing.{HasMore, PutsEntries}

pub HasMore-refl : (draft : DraftState) (more : ℕ) → HasMore draft draft more
HasMore-refl draft more = record { header = refl; units = omega arith }

pub HasMore-then : (a b c : DraftState) (m n : ℕ) → HasMore a b m → HasMore b c n → HasMore a c (m + n)
HasMore-then a b c m n first second =
    record { header = second.header ∙ first.header; units = omega (arith, first.units, second.units) }

pub draft_with_more : (h : Header) (a b : DraftState) (m : ℕ) → HasMore a b m → IsDraftFor h a → IsDraftFor h b
draft_with_more h a b m more is = record {
  block_size = ap (λ (g : Header). g.block_size) more.header ∙ is.block_size;
  tn = ap (λ (g : Header). g.tn) more.header ∙ is.tn;
}

-- A block that is put into a draft, or not.
pub more_by_put : {T : Type 0} (result : Result T BaseError) (old new : DraftState) (n : ℕ) (bytes : List ℕ)
    → IsDraft old → OnOk result (new ≡ with_block old n bytes)
    → OnErr result ((result ≡ Err Memory) × (new ≡ old)) → HasMore old new 1
more_by_put (Ok value) old new n bytes is put kept =
    let more = put_there old n bytes is in
    subst (λ (draft : DraftState). HasMore old draft 1) (sym put) (record { header = refl; units = more.at_most })
more_by_put (Err e) old new n bytes is put kept =
    subst (λ (draft : DraftState). HasMore old draft 1) (sym kept.1) (HasMore-refl old 1)

-- The image with the draft has the draft's header, also once a block is put.
pub drafted_fields : (image : List ℕ) (draft : DraftState) → IsDraftOf image draft
    → fields_of (drafted draft image) ≡ draft.header
drafted_fields image draft is = (drafted_read image draft is).fields

pub entries_put : (image : List ℕ) (old new : DraftState) (n level size : ℕ) (entries : List Item) (bytes : List ℕ)
    → IsDraftOf image old → old.header.block_size ≡ size → bytes ≡ block_bytes entries level 0 size
    → packed_size entries ≤ size → PutsBlock (drafted old image) (drafted new image) n bytes
    → PutsEntries (drafted old image) (drafted new image) n level entries
entries_put image old new n level size entries bytes is same packed fits put =
    let fields = rewrite_keeps_header (drafted old image) (drafted new image) (n ∷ []) put.rewrites
    ∙ drafted_fields image old is in record {
      rewrites = put.rewrites;
      bytes = put.bytes_are ∙ packed
          ∙ ap (block_bytes entries level 0) (sym (ap (λ (h : Header). h.block_size) fields ∙ same));
      fits = omega (arith, fits, ap (λ (h : Header). h.block_size) fields, same);
    }
