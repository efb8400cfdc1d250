-- What can be wrong with the header of the image with a draft.
use Rattle.std.proofs.Common.{◌≡◌, ℕ, ◌+◌, ◌-◌, ◌<◌, ◌≤◌, ◌==◌, ◌^◌, Bool, true, false, not, List, []}
use Rattle.std.proofs.Common.{inl, inr, refl, sym, ap, subst, ◌∙◌, arith, lit≤}
use Rattle.std.specs.Prelude.{nat_eq, nat_lt}
use Rattle.std.specs.List.{list_any, range_with_len, starts_with}
use Rattle.std.proofs.lemmas.Bool.{eqb-false, false_from_ne_true, ltb-false, or_parts, true≢false}
use Rattle.std.proofs.lemmas.List.Elements.{All-from_get_or}
use Rattle.std.proofs.lemmas.List.Folds.{list_any_at, list_any_none}
use Rattle.std.proofs.lemmas.List.FromFn.{get_or-range_with_len, length-range_with_len}
use Rattle.gds_header.specs.declared.header.Header.{Header}
use Rattle.gds_header.specs.declared.kind.HeaderKind.TheVariants.{BadTransactionNumber, ReservedByte}
use Rattle.gds_header.specs.Fields.{fields_of, file_length_of, header_bytes, label}
use Rattle.gds_header.specs.Kinds.{IsWithinLimits, groups_of, groups_past, has_free, header_faults, reserved_bytes}
use Rattle.gds_header.proofs.EndingLemmas.{reserved_bytes-front}
use Rattle.gds_sound.proofs.HeaderLemmas.{none_of_header, right_header}
use Rattle.gds_new.proofs.ReservedLemmas.{reserved_none}
use Rattle.gds_draft.specs.Draft.{DraftState}
use Rattle.gds_draft.specs.Drafted.{block_with, drafted, file_by}
use Rattle.gds_draft.specs.Laws.{DraftedHeader, IsDraftOf, IsFaultlessHeader, ReadsAsDrafted}
use Rattle.gds_draft.proofs.DraftLemmas.{drafted_read, master_long}

-- A test that no number of a range passes finds none there, and the other way.
any_none : (test : ℕ → Bool) (from n : ℕ) → ((k : ℕ) → from ≤ k → k < from + n → test k ≡ false)
    → list_any test (range_with_len from n) ≡ false
any_none test from n none =
    list_any_none test (range_with_len from n)
    (All-from_get_or (λ k. test k ≡ false) (range_with_len from n) 0 (λ i low.
    let within : i < n = omega (arith, low, length-range_with_len from n) in
    ap test (get_or-range_with_len from n i 0 within) ∙ none (from + i) (omega arith) (omega (arith, within))))

none_at : (test : ℕ → Bool) (from n i : ℕ) → list_any test (range_with_len from n) ≡ false → i < n
    → test (from + i) ≡ false
none_at test from n i none low =
    false_from_ne_true (test (from + i)) (λ passes.
    true≢false
    (sym (list_any_at test (range_with_len from n) i 0 (omega (arith, low, length-range_with_len from n))
    (ap test (get_or-range_with_len from n i 0 low) ∙ passes))
    ∙ none))

-- the groups past the last one
module _ (h : Header) where
  pub none_past : ((group : ℕ) → groups_of h ≤ group → group < 2048 → has_free h group ≡ false)
      → list_any (has_free h) (groups_past h) ≡ false
  none_past none =
      any_none (has_free h) (groups_of h) (2048 - groups_of h)
      (λ group from to. none group from (omega (arith, from, to)))

  pub past_none : list_any (has_free h) (groups_past h) ≡ false
      → (group : ℕ) → groups_of h ≤ group → group < 2048 → has_free h group ≡ false
  past_none none group from to =
      let place : groups_of h + (group - groups_of h) ≡ group = omega (arith, from) in
      ap (has_free h) (sym place)
      ∙ none_at (has_free h) (groups_of h) (2048 - groups_of h) (group - groups_of h) none (omega (arith, from, to))

-- a file by its header begins with the label
labelled : (h : Header) (block : ℕ → List ℕ) → starts_with nat_eq (file_by h block) label ≡ true
unfolding file_by header_bytes
labelled h block = refl

module _ (image : List ℕ) (draft : DraftState) (is : IsDraftOf image draft) where
  read : ReadsAsDrafted draft image
  read = drafted_read image draft is

  unmarked : list_any (λ b. not (b == 0)) (reserved_bytes (drafted draft image)) ≡ false
  unmarked =
      ap (list_any (λ b. not (b == 0)))
      (sym (reserved_bytes-front 8192 (drafted draft image) (lit≤ tt)) ∙ ap reserved_bytes read.front)
      ∙ reserved_none draft.header (master_long draft.header is.draft_is.reads)

  faultless : IsFaultlessHeader draft.header → header_faults (drafted draft image) ≡ []
  faultless right = right_header (drafted draft image) (record {
    long = omega (arith, read.len);
    labelled = labelled draft.header (block_with draft image);
    limits = subst IsWithinLimits (sym read.fields) is.draft_is.limits;
    len = read.len ∙ ap file_length_of (sym read.fields);
    reserved = unmarked;
    past = subst (λ h. list_any (has_free h) (groups_past h) ≡ false) (sym read.fields)
        (none_past draft.header right.past);
    some = subst (λ (h : Header). 1 ≤ h.tn) (sym read.fields) right.from;
    small = subst (λ (h : Header). h.tn ≤ 2 ^ 63) (sym read.fields) right.to;
  })

  right_still : header_faults (drafted draft image) ≡ [] → IsFaultlessHeader draft.header
  right_still none =
      let held = none_of_header (drafted draft image) none in
      let h : Header = fields_of (drafted draft image) in
      let number = or_parts (h.tn == 0) (nat_lt (2 ^ 63) h.tn)
      (held BadTransactionNumber (inr (inr (inr (inr (inr (inr (inr (inr (inr (inl refl))))))))))) in
      let bits = or_parts (list_any (λ b. not (b == 0)) (reserved_bytes (drafted draft image)))
      (list_any (has_free h) (groups_past h))
      (held ReservedByte (inr (inr (inr (inr (inr (inr (inr (inr (inl refl)))))))))) in
      subst IsFaultlessHeader read.fields (record {
        from = omega (arith, eqb-false h.tn 0 number.0);
        to = ltb-false (2 ^ 63) h.tn number.1;
        past = past_none h bits.1;
      })

pub header_drafted : DraftedHeader
header_drafted image draft is = (right_still image draft is, faultless image draft is)
