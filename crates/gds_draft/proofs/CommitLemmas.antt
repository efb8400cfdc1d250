-- The file that a commit makes is the image with the draft, stamped, and it is one.
use Rattle.std.proofs.Common.{◌≡◌, ℕ, ◌+◌, ◌<◌, ◌^◌, ◌⊎◌, List, length, length-append}
use Rattle.std.proofs.Common.{take, inl, inr, refl, sym, ap, subst, ◌∙◌, arith, lit≤, length-take, length-drop}
use Rattle.std.specs.Prelude.{Option, Some, None}
use Rattle.std.proofs.lemmas.List.{take-take}
use Rattle.std.proofs.lemmas.Slice.{between_is}
use Rattle.gds_block.specs.Fields.{u32_at, u32_bytes}
use Rattle.gds_header.specs.declared.header.Header.{Header}
use Rattle.gds_header.specs.Fields.{block_of, fields_of, file_length_of, header_bytes, label, zeros}
use Rattle.gds_header.specs.Kinds.{IsWithinLimits, reserved_bytes}
use Rattle.gds_header.proofs.EndingLemmas.{fields_of-front, reserved_bytes-front}
use Rattle.gds_header.proofs.WritingLemmas.{fields_of-header_bytes}
use Rattle.gds_new.proofs.HeaderLemmas.{length-header_bytes}
use Rattle.gds_new.proofs.ReservedLemmas.{reserved_none}
use Rattle.gds_file.specs.Stamp.{IsStamped, with_number}
use Rattle.gds_draft.specs.Draft.{DraftState, block_in}
use Rattle.gds_draft.specs.Drafted.{drafted, or_block}
use Rattle.gds_draft.specs.Laws.{IsDraftOf, ReadsAsDrafted}
use Rattle.gds_draft.specs.Committed.{CommittedIsOne, CommittedIsStamped, IsCommitted, next_header}
use Rattle.gds_draft.proofs.DraftLemmas.{drafted_read, master_long}
use Rattle.gds_draft.proofs.HeaderLemmas.{all_zeros}
use Rattle.gds_draft.proofs.SameLemmas.{same_file}

-- ---- The header with the next transaction number.

-- a number of four bytes that is read again fits them
small : (n : ℕ) → u32_at (u32_bytes n) 0 < 2 ^ 32
unfolding u32_at u32_bytes
small n = omega arith

free_there : (h : Header) → u32_at (header_bytes h) 16 < 2 ^ 32
unfolding header_bytes u32_at u32_bytes
free_there h = small h.free

-- A header that is read again is so with another transaction number.
read_again : (h : Header) (tn : ℕ) → IsWithinLimits h → fields_of (header_bytes h) ≡ h → tn < 2 ^ 64
    → fields_of (header_bytes (record h { tn = tn })) ≡ record h { tn = tn }
read_again h tn limits reads fits = fields_of-header_bytes (record h { tn = tn }) (record {
  block_size = omega (arith, limits.block_to);
  total = omega (arith, limits.total_to, limits.limit_to);
  free = omega (arith, free_there h, ap (λ (g : Header). g.free) reads);
  extension = omega (arith, limits.extension_to);
  limit = omega (arith, limits.limit_to);
  key_max = omega (arith, limits.key_to);
  value_max = omega (arith, limits.value_fits, limits.block_to);
  tn = fits;
  master = master_long h reads;
})

-- The label of two headers is the same, and so are the bytes that must be 0.
label_there : (h : Header) → take 8 (header_bytes h) ≡ label
unfolding header_bytes
label_there h = refl

length-reserved_bytes : (xs : List ℕ) → length xs ≡ 8192 → length (reserved_bytes xs) ≡ 4 + 4048 + 3840
length-reserved_bytes xs long =
    simp (length-append, between_is, length-drop, length-take, long) (omega arith)

reserved_zeros : (h : Header) → length h.master ≡ 256 → reserved_bytes (header_bytes h) ≡ zeros (4 + 4048 + 3840)
reserved_zeros h master =
    all_zeros (reserved_bytes (header_bytes h)) (reserved_none h master)
    ∙ ap zeros (length-reserved_bytes (header_bytes h) (length-header_bytes h master))

-- ---- The file.

module _ (image : List ℕ) (draft : DraftState) (is : IsDraftOf image draft) (few : draft.header.tn < 2 ^ 63) where
  abbrev h : Header
  h = draft.header

  read : ReadsAsDrafted draft image
  read = drafted_read image draft is

  master : length h.master ≡ 256
  master = master_long h is.draft_is.reads

  next_read : fields_of (header_bytes (next_header h)) ≡ next_header h
  next_read = read_again h (h.tn + 1) is.draft_is.limits is.draft_is.reads (omega (arith, few))

  module _ (file : List ℕ) (made : IsCommitted draft image file) where
    pub committed_fields : fields_of file ≡ next_header h
    committed_fields = sym (fields_of-front 8192 file (lit≤ tt)) ∙ ap fields_of made.front ∙ next_read

    labels : take 8 file ≡ take 8 (drafted draft image)
    labels =
        sym (take-take 8 8192 file (lit≤ tt)) ∙ ap (take 8) made.front ∙ label_there (next_header h)
        ∙ sym (sym (take-take 8 8192 (drafted draft image) (lit≤ tt)) ∙ ap (take 8) read.front ∙ label_there h)

    reserved : reserved_bytes file ≡ reserved_bytes (drafted draft image)
    reserved =
        sym (reserved_bytes-front 8192 file (lit≤ tt)) ∙ ap reserved_bytes made.front
        ∙ reserved_zeros (next_header h) master
        ∙ sym (sym (reserved_bytes-front 8192 (drafted draft image) (lit≤ tt)) ∙ ap reserved_bytes read.front
        ∙ reserved_zeros h master)

    block : (n : ℕ) → n < h.total → (o : Option (List ℕ)) → block_in draft n ≡ o
        → (block_of file n ≡ block_of (drafted draft image) n)
        ⊎ (block_of file n ≡ with_number h.tn (block_of (drafted draft image) n))
    block n low (Some bytes) has =
        inr (made.changed n bytes low has
        ∙ ap (with_number h.tn) (sym (read.blocks n low ∙ ap (or_block h image n) has)))
    block n low None none = inl (made.others n low none)

    is_stamped : IsStamped (drafted draft image) file
    is_stamped = record {
      len = made.len ∙ sym read.len;
      label = labels;
      reserved = reserved;
      fields = committed_fields ∙ ap next_header (sym read.fields);
      blocks = λ n low.
          let within : n < h.total = omega (arith, low, ap (λ (g : Header). g.total) read.fields) in
          let number : h.tn ≡ (fields_of (drafted draft image)).tn = ap (λ (g : Header). g.tn) (sym read.fields) in
          subst (λ tn. (block_of file n ≡ block_of (drafted draft image) n)
          ⊎ (block_of file n ≡ with_number tn (block_of (drafted draft image) n))) number
          (block n within (block_in draft n) refl);
    }

  same_blocks : (a b : List ℕ) → IsCommitted draft image a → IsCommitted draft image b → (n : ℕ) → n < h.total
      → (o : Option (List ℕ)) → block_in draft n ≡ o → block_of b n ≡ block_of a n
  same_blocks a b first second n low (Some bytes) has =
      second.changed n bytes low has ∙ sym (first.changed n bytes low has)
  same_blocks a b first second n low None none = second.others n low none ∙ sym (first.others n low none)

  is_one : (a b : List ℕ) → IsCommitted draft image a → IsCommitted draft image b → b ≡ a
  is_one a b first second =
      same_file a b (first.len ∙ ap file_length_of (sym (committed_fields a first))) (second.len ∙ sym first.len)
      (second.front ∙ sym first.front)
      (λ n low. same_blocks a b first second n (omega (arith, low, ap (λ (g : Header). g.total) (committed_fields a first)))
      (block_in draft n) refl)

pub committed_is_stamped : CommittedIsStamped
committed_is_stamped image draft file is few = is_stamped image draft is few file

pub committed_is_one : CommittedIsOne
committed_is_one image draft a b is few = is_one image draft is few a b
