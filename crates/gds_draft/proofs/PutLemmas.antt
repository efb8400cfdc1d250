-- The image with a draft that gets a block or another header.
use Rattle.std.proofs.Common.{◌≡◌, ◌≢◌, ℕ, ◌+◌, ◌*◌, ◌<◌, ◌≤◌, false, List, [], ◌∷◌, length, take, drop, refl, sym, ap}
use Rattle.std.proofs.Common.{◌∙◌, arith, ⊎_elim}
use Rattle.std.specs.Prelude.{if◌then◌else◌, nat_eq, nat_lt, Option, Some, None}
use Rattle.std.proofs.lemmas.Bool.{cases_lt, cond-false, eqb-false, le-ltb, or_parts}
use Rattle.std.proofs.lemmas.List.{drop_all}
use Rattle.std.proofs.Math.Nat.{mul-le-mul_right}
use Rattle.std.proofs.Math.Seq.{take-nil}
use Rattle.gds_header.specs.declared.header.Header.{Header}
use Rattle.gds_header.specs.Fields.{block_of, fields_of, file_length_of, place_of, zeros}
use Rattle.gds_epoch.specs.Waiting.{WaitingUnit}
use Rattle.gds_epoch.proofs.PatchLemmas.{rising-with_unit}
use Rattle.gds_file.specs.Maps.{has_block}
use Rattle.gds_draft.specs.Draft.{DraftState, IsBlockOf, block_in, with_block}
use Rattle.gds_draft.specs.Drafted.{drafted, or_block}
use Rattle.gds_draft.specs.Laws.{IsDraftOf, ReadsAsDrafted}
use Rattle.gds_draft.specs.PutLaws.{GetsBlock, GetsHeader, HeaderPut, MayFollow, PutIsThere, PutRewrites, RewritesBlock}
use Rattle.gds_draft.proofs.DraftLemmas.{blocks_of_longer, blocks_with, drafted_read}
use Rattle.gds_draft.proofs.UnitLemmas.{as_many, none_of, one_more, others_there, unit_there}

-- Behind the last block of a file there is none.
no_block : (xs : List ℕ) (h : Header) (n : ℕ) → fields_of xs ≡ h → length xs ≡ file_length_of h → h.total ≤ n
    → block_of xs n ≡ []
no_block xs h n reads long past =
    let behind : h.total * h.block_size ≤ n * h.block_size = mul-le-mul_right h.block_size past in
    ap (λ (g : Header). take g.block_size (drop (place_of g n) xs)) reads
    ∙ ap (take h.block_size) (drop_all (place_of h n) xs (omega (arith, long, behind))) ∙ take-nil h.block_size

-- So a block is the same with two drafts of one total where it is the same below the total.
same_from_below : (image : List ℕ) (old new : DraftState) → ReadsAsDrafted old image → ReadsAsDrafted new image
    → new.header.total ≡ old.header.total → (n : ℕ)
    → (n < old.header.total → block_of (drafted new image) n ≡ block_of (drafted old image) n)
    → block_of (drafted new image) n ≡ block_of (drafted old image) n
same_from_below image old new before after total n below =
    ⊎_elim below
    (λ (past : old.header.total ≤ n).
    no_block (drafted new image) new.header n after.fields after.len (omega (arith, past, total))
    ∙ sym (no_block (drafted old image) old.header n before.fields before.len past))
    (cases_lt n old.header.total)

pub put_there : PutIsThere
put_there draft n bytes is =
    let new : WaitingUnit = record { unit = n + 1; bytes = bytes } in
    record {
      there = unit_there draft.units new;
      others = λ m other. others_there draft.units new (m + 1) (λ same. other (omega (arith, same)));
      at_most = one_more draft.units new;
      again = λ old had. as_many draft.units new old is.rising had;
    }

module _ (image : List ℕ) (draft : DraftState) (n : ℕ) (bytes : List ℕ) (is : IsDraftOf image draft)
    (low : n < draft.header.total) (size : length bytes ≡ draft.header.block_size) where
  abbrev new : DraftState
  new = with_block draft n bytes

  has : GetsBlock draft new n bytes
  has = put_there draft n bytes is.draft_is

  new_draft : IsDraftOf image new
  new_draft = record {
    draft_is = record {
      limits = is.draft_is.limits;
      reads = is.draft_is.reads;
      rising = rising-with_unit draft.units (record { unit = n + 1; bytes = bytes }) is.draft_is.rising;
      blocks = blocks_with draft.header draft.units n bytes low size is.draft_is.blocks;
    };
    limits = is.limits;
    block_size = is.block_size;
    tn = is.tn;
    long = is.long;
  }

  before : ReadsAsDrafted draft image
  before = drafted_read image draft is

  after : ReadsAsDrafted new image
  after = drafted_read image new new_draft

  others : (m : ℕ) → has_block (n ∷ []) m ≡ false → block_of (drafted new image) m ≡ block_of (drafted draft image) m
  others m none =
      let other : m ≢ n = eqb-false m n (or_parts (nat_eq m n) false none).0 in
      same_from_below image draft new before after refl m (λ within.
      after.blocks m within ∙ ap (or_block draft.header image m) (has.others m other) ∙ sym (before.blocks m within))

  block_put : RewritesBlock image draft new n bytes
  block_put = record {
    rewrites = record { len = after.len ∙ sym before.len; front = after.front ∙ sym before.front; others = others };
    block = after.blocks n low ∙ ap (or_block draft.header image n) has.there;
    draft_of = new_draft;
  }

pub put_rewritten : PutRewrites
put_rewritten = block_put

-- A block of a file with a header is one with another header of the same block size.
same_block : (g h : Header) (image : List ℕ) (n : ℕ) (bytes : Option (List ℕ)) → h.block_size ≡ g.block_size
    → or_block h image n bytes ≡ or_block g image n bytes
same_block g h image n (Some bytes) size = refl
same_block g h image n None size =
    ap (λ k. if nat_lt n (fields_of image).total then block_of image n else zeros k) size

module _ (image : List ℕ) (draft : DraftState) (h : Header) (is : IsDraftOf image draft)
    (follows : MayFollow draft.header h) where
  abbrev next : DraftState
  next = record draft { header = h }

  next_draft : IsDraftOf image next
  next_draft = record {
    draft_is = record {
      limits = follows.limits;
      reads = follows.reads;
      rising = is.draft_is.rising;
      blocks = blocks_of_longer draft.header h draft.units follows.block_size follows.total is.draft_is.blocks;
    };
    limits = is.limits;
    block_size = follows.block_size ∙ is.block_size;
    tn = follows.tn ∙ is.tn;
    long = is.long;
  }

  old_read : ReadsAsDrafted draft image
  old_read = drafted_read image draft is

  next_read : ReadsAsDrafted next image
  next_read = drafted_read image next next_draft

  stays : (n : ℕ) → n < draft.header.total → block_of (drafted next image) n ≡ block_of (drafted draft image) n
  stays n within =
      next_read.blocks n (omega (arith, within, follows.total))
      ∙ same_block draft.header h image n (block_in draft n) follows.block_size ∙ sym (old_read.blocks n within)

  fresh : (n : ℕ) → draft.header.total ≤ n → (fields_of image).total ≤ n → n < h.total
      → block_of (drafted next image) n ≡ zeros h.block_size
  fresh n past behind within =
      let none = none_of (IsBlockOf draft.header) (n + 1) (λ w block same. omega (arith, block.to, same, past))
      draft.units is.draft_is.blocks in
      next_read.blocks n within ∙ ap (or_block h image n) none
      ∙ cond-false (nat_lt n (fields_of image).total) _ _ (le-ltb n (fields_of image).total behind)

  header_follows : GetsHeader image draft next
  header_follows = record {
    fields = next_read.fields;
    blocks = stays;
    behind = fresh;
    same_total = λ total n. same_from_below image draft next old_read next_read total n (stays n);
    draft_of = next_draft;
  }

pub header_changed : HeaderPut
header_changed = header_follows
