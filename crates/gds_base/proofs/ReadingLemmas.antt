-- Blocks of the image and of the image with a draft.
use Rattle.std.proofs.Common.{◌≡◌, ℕ, ◌+◌, ◌<◌, ◌≤◌, List, ◌++◌, length, take, sym, ap}
use Rattle.std.proofs.Common.{subst, ◌∙◌, arith, replicate, Bor, Option, None, Some, Result, Err}
use Rattle.std.specs.Option.{option_copied}
use Rattle.std.specs.Prelude.{if◌then◌else◌, nat_lt}
use Rattle.std.proofs.lemmas.Bool.{cond-false, cond-true, le-ltb, lt-ltb}
use Rattle.std.proofs.lemmas.List.{take_at}
use Rattle.std.proofs.lemmas.Nat.{row_fits}
use Rattle.host_model.specs.Failures.{Failures}
use Rattle.host_model.specs.Files.{Contents}
use Rattle.host_model.specs.Units.{IsUnit}
use Rattle.gds_header.specs.declared.header.Header.{Header}
use Rattle.gds_header.specs.Fields.{block_of, fields_of, zeros}
use Rattle.gds_images.specs.Outcome.{IsWhole}
use Rattle.gds_law.proofs.UnitLemmas.{length_at, place_at}
use Rattle.gds_draft.specs.Draft.{DraftState, IsBlockOf, IsDraft, block_in}
use Rattle.gds_draft.specs.Drafted.{drafted, or_block}
use Rattle.gds_draft.specs.Laws.{IsDraftOf}
use Rattle.gds_draft.proofs.DraftLemmas.{drafted_read}
use Rattle.gds_draft.proofs.UnitLemmas.{found_has}
use Rattle.gds_units.specs.Ending.{EndsReading as EndsUnit}
use Rattle.gds_units.specs.declared.error.UnitError.{UnitError}
use Rattle.gds_units.specs.declared.error.UnitError.TheVariants as units
use Rattle.gds_base.specs.Ending.{EndsReading}
use Rattle.gds_base.specs.Errors.{base_error}
use Rattle.gds_base.specs.declared.error.BaseError.{BaseError}

-- A block of a whole database is a unit of it.
pub block_is_unit : (image : List ℕ) (h : Header) (n size : ℕ) → IsWhole image → fields_of image ≡ h → n < h.total
    → size ≡ h.block_size → IsUnit image (n + 1) size
block_is_unit image h n size whole fields low is =
    let same : h.block_size ≡ (fields_of image).block_size = ap (λ (g : Header). g.block_size) (sym fields) in
    record {
      length_is = is ∙ same ∙ sym (length_at image n);
      within = omega (
        arith,
        is,
        place_at image n,
        whole.len,
        same,
        ap (λ (g : Header). g.total) fields,
        row_fits n (fields_of image).block_size (fields_of image).total (fields_of image).block_size
            (omega (arith, low, ap (λ (g : Header). g.total) fields)) (omega arith),
      );
    }

-- A block that a draft hasn't is the image's, or zero behind its end.
pub below_end : (image : List ℕ) (h g : Header) (n : ℕ) (bytes : List ℕ) → fields_of image ≡ g → n < g.total
    → bytes ≡ block_of image n → bytes ≡ or_block h image n None
below_end image h g n bytes fields low is =
    is
    ∙ sym (cond-true (nat_lt n (fields_of image).total) _ _
    (lt-ltb n (fields_of image).total (omega (arith, low, ap (λ (f : Header). f.total) fields))))

pub behind_end : (image : List ℕ) (h g : Header) (n : ℕ) (bytes : List ℕ) → fields_of image ≡ g → g.total ≤ n
    → bytes ≡ replicate h.block_size 0 → bytes ≡ or_block h image n None
unfolding zeros
behind_end image h g n bytes fields past is =
    is
    ∙ sym (cond-false (nat_lt n (fields_of image).total) _ _
    (le-ltb n (fields_of image).total (omega (arith, past, ap (λ (f : Header). f.total) fields))))

module _ (image : List ℕ) (draft : DraftState) (is : IsDraftOf image draft) (n : ℕ) (low : n < draft.header.total)
  where
    -- The block of the image with the draft that the draft has.
    pub block_drafted : (bytes : List ℕ) → block_in draft n ≡ Some bytes → block_of (drafted draft image) n ≡ bytes
    block_drafted bytes has =
        let read = drafted_read image draft is in
        read.blocks n low ∙ ap (or_block draft.header image n) has

    -- The one that it hasn't.
    pub block_not_drafted : (h : Header) → draft.header.block_size ≡ h.block_size → block_in draft n ≡ None
        → block_of (drafted draft image) n ≡ or_block h image n None
    block_not_drafted h size none =
        let read = drafted_read image draft is in
        read.blocks n low ∙ ap (or_block draft.header image n) none
        ∙ ap (λ k. if nat_lt n (fields_of image).total then block_of image n else zeros k) size

-- A block that a draft has is as long as each of its blocks.
pub length_drafted : (draft : DraftState) (n : ℕ) (bytes : List ℕ) → IsDraft draft → block_in draft n ≡ Some bytes
    → length bytes ≡ draft.header.block_size
length_drafted draft n bytes is has =
    let one = found_has (IsBlockOf draft.header) draft.units (n + 1) bytes is.blocks has in one.size

-- what is told of an option of borrowed bytes that is this one
pub copied_is : (o p : Option (Bor (List ℕ))) (x : Option (List ℕ)) → option_copied o ≡ x → o ≡ p → x ≡ option_copied p
copied_is o p x copied is = sym copied ∙ ap option_copied is

-- a list that is the front of a longer one, as long as the first part of it
pub front_is : (xs ys rest : List ℕ) (n : ℕ) → xs ≡ take n (ys ++ rest) → length ys ≡ n → xs ≡ ys
front_is xs ys rest n is long = is ∙ take_at ys rest n long

-- What reading a unit ended with is what reading a block of the base does.
pub reading_ends : {T : Type 0} (told : Option Contents) (changed : Type 0) (before now : Failures) (e : UnitError)
    (r : Result T BaseError) → (told ≡ None → changed) → EndsUnit {T = Unit {0}} told before now (Err e)
    → r ≡ Err (base_error e) → EndsReading before now changed r
reading_ends {T} told changed before now e r untold ends is =
    subst (EndsReading before now changed) (sym is) (by e ends)
  where
    by : (e : UnitError) → EndsUnit {T = Unit {0}} told before now (Err e)
        → EndsReading {T = T} before now changed (Err (base_error e))
    by units.Memory ends = tt
    by units.ReadFault ends = ends
    by (units.Changed unit) ends = untold ends
    by _ ends = absurd ends
