-- How many units a commit changes, maps left out.
use Rattle.std.proofs.Common.{◌≡◌, ℕ, ◌+◌, ◌-◌, ◌%◌, ◌^◌, ◌<◌, ◌≤◌, ◌==◌, Bool, true, false, ◌&&◌, not, List, [], ◌∷◌}
use Rattle.std.proofs.Common.{filter, None, Some, refl, sym, ap, ◌∙◌, arith}
use Rattle.std.specs.Prelude.{bytes_eq, if◌then◌else◌, take}
use Rattle.std.proofs.lemmas.Bool.{and_right, cond-false, cond-true, eqb-true}
use Rattle.gds_base.specs.Spaces.{blocks_beside_maps, is_beside_maps}
use Rattle.gds_draft.specs.Committed.{IsCommitted, next_header}
use Rattle.gds_draft.specs.Draft.{DraftState}
use Rattle.gds_draft.specs.Laws.{IsDraftOf}
use Rattle.gds_epoch.specs.Waiting.{WaitingUnit, waiting_bytes}
use Rattle.gds_file.proofs.FreeCountLemmas.{counted}
use Rattle.gds_header.specs.Fields.{fields_of}
use Rattle.gds_header.specs.declared.header.Header.{Header}
use Rattle.gds_shape.specs.Move.{is_changed}
use Rattle.gds_globals.specs.Kill.{IsHeaderAfterKill, changed_beside_maps, is_changed_beside_maps}
use Rattle.gds_globals.proofs.DifferLemmas.{block_stays, few_pass, fields, header_once, same_bytes}

-- Of a block that is no map the units without maps have what all have.
beside_bytes : (units : List WaitingUnit) (k : ℕ) → (k % 512 == 0) ≡ false
    → waiting_bytes (filter is_beside_maps units) (k + 1) ≡ waiting_bytes units (k + 1)
beside_bytes [] k other = refl
beside_bytes (w ∷ units) k other =
    by (is_beside_maps w) (w.unit == k + 1) refl refl (beside_bytes units k other)
  where
    its_own : (w.unit == k + 1) ≡ true → is_beside_maps w ≡ true
    its_own e =
        let number : w.unit - 1 ≡ k = omega (arith, eqb-true w.unit (k + 1) e) in
        ap (λ n. not (n % 512 == 0)) number ∙ ap not other

    by : (t s : Bool) → is_beside_maps w ≡ t → (w.unit == k + 1) ≡ s
        → waiting_bytes (filter is_beside_maps units) (k + 1) ≡ waiting_bytes units (k + 1)
        → waiting_bytes (filter is_beside_maps (w ∷ units)) (k + 1) ≡ waiting_bytes (w ∷ units) (k + 1)
    by true s keeps same rest =
        ap (λ us. waiting_bytes us (k + 1)) (cond-true (is_beside_maps w) _ _ keeps)
        ∙ ap (λ r. if w.unit == k + 1 then Some w.bytes else r) rest
    by false true goes same rest =
        let both : true ≡ false = sym (its_own same) ∙ goes in
        absurd (cc)
    by false false goes same rest =
        ap (λ us. waiting_bytes us (k + 1)) (cond-false (is_beside_maps w) _ _ goes)
        ∙ rest ∙ sym (cond-false (w.unit == k + 1) _ _ same)

module _ (image : List ℕ) (draft : DraftState) (file : List ℕ) (is : IsDraftOf image draft)
    (few : draft.header.tn < 2 ^ 63) (made : IsCommitted draft image file) where
  unchanged : draft.header.total ≡ (fields_of image).total → (n : ℕ) → n < (fields_of image).total
      → waiting_bytes (filter is_beside_maps draft.units) (n + 1) ≡ None
      → is_changed_beside_maps image file n ≡ false
  unchanged same n low none = by (n % 512 == 0) refl
    where
      by : (t : Bool) → (n % 512 == 0) ≡ t → is_changed_beside_maps image file n ≡ false
      by true e = and_right (is_changed image file n) _ (ap not e)
      by false e =
          ap (λ t. t && not (n % 512 == 0))
          (same_bytes image draft file is few made n
          (block_stays image draft file is few made same n low (sym (beside_bytes draft.units n e) ∙ none)))

  pub differs_beside : draft.header.total ≡ (fields_of image).total → (most : ℕ) → blocks_beside_maps draft ≤ most
      → changed_beside_maps image file ≤ most + 1
  differs_beside same most small =
      omega (
        arith,
        small,
        header_once image draft file is few made (bytes_eq (take 8192 image) (take 8192 file)),
        counted (is_changed_beside_maps image file) (fields_of image).total,
        few_pass (filter is_beside_maps draft.units) (is_changed_beside_maps image file) (fields_of image).total
            (λ n low none. unchanged same n low none),
      )

  pub header_after_kill : (h : Header) → fields_of image ≡ h
      → draft.header ≡ record h { free = draft.header.free; master = draft.header.master }
      → IsHeaderAfterKill (fields_of image) (fields_of file)
  header_after_kill h old drafted =
      let new : fields_of file ≡ next_header draft.header = fields image draft file is few made in
      new ∙ ap next_header drafted
      ∙ (λ i. record ((sym old) i) {
        free = (sym (ap (λ (x : Header). x.free) new)) i;
        master = (sym (ap (λ (x : Header). x.master) new)) i;
        tn = ((sym old) i).tn + 1;
      })
