-- What calls on a base and a draft of it leave, one after another, by the blocks of the draft that are no maps.
use Rattle.std.proofs.Common.{◌≡◌, ◌+◌, ◌≤◌, ℕ, Option, refl, sym, ap, ◌∙◌, arith}
use Rattle.host_model.specs.Failures.{Failures}
use Rattle.host_model.specs.Files.{Contents}
use Rattle.gds_base.specs.Drafting.{IsDraftFor, OnlyDrafts}
use Rattle.gds_draft.specs.Draft.{DraftState}
use Rattle.gds_header.specs.declared.header.Header.{Header}
use Rattle.gds_units.specs.Reading.{OnlyRead}
use Rattle.gds_units.specs.State.{UnitsState}
use Rattle.gds_splice.proofs.DraftingLemmas.{OnlyRead-refl, OnlyRead-then, same_header}
use Rattle.gds_base.specs.Spaces.{blocks_beside_maps}
use Rattle.gds_remove.specs.Block.{WritesOne}
use Rattle.gds_remove.specs.Killed.{OnlyWrites}

pub WritesOne-refl : (draft : DraftState) → WritesOne draft draft
WritesOne-refl draft = record { header = refl; more = omega arith }

pub draft_with_one : (h : Header) (a b : DraftState) → WritesOne a b → IsDraftFor h a → IsDraftFor h b
draft_with_one h a b one is = record {
  block_size = ap (λ (g : Header). g.block_size) one.header ∙ is.block_size;
  tn = ap (λ (g : Header). g.tn) one.header ∙ is.tn;
}

module _ {H : Type 0} (told : H → Option Contents) (moment : H → ℕ) (counts : H → Failures)
    (left_since : H → ℕ → Contents → Type 0) where
  abbrev Only : UnitsState H → UnitsState H → DraftState → DraftState → ℕ → Type 0
  Only = OnlyWrites told moment counts left_since

  pub OnlyWrites-read : (a b : UnitsState H) (draft : DraftState) → OnlyRead told moment counts left_since a b
      → Only a b draft draft 0
  OnlyWrites-read a b draft read = record { read = read; header = refl; more = omega arith }

  pub OnlyWrites-refl : (a : UnitsState H) (draft : DraftState) → Only a a draft draft 0
  OnlyWrites-refl a draft = OnlyWrites-read a a draft (OnlyRead-refl told moment counts left_since a)

  -- a block was written, or none
  pub OnlyWrites-one : (a : UnitsState H) (x y : DraftState) → WritesOne x y → Only a a x y 1
  OnlyWrites-one a x y one = record {
    read = OnlyRead-refl told moment counts left_since a;
    header = one.header ∙ (λ k. record x.header {
      free = ap (λ (h : Header). h.free) (sym one.header) k;
      master = ap (λ (h : Header). h.master) (sym one.header) k;
    });
    more = one.more;
  }

  pub OnlyWrites-then : (a b c : UnitsState H) (x y z : DraftState) (m n : ℕ) → Only a b x y m → Only b c y z n
      → Only a c x z (m + n)
  OnlyWrites-then a b c x y z m n first second = record {
    read = OnlyRead-then told moment counts left_since a b c first.read second.read;
    header = second.header
        ∙ ap (λ (h : Header). record h { free = z.header.free; master = z.header.master }) first.header;
    more = omega (arith, first.more, second.more);
  }

  pub OnlyWrites-weaker : (a b : UnitsState H) (x y : DraftState) (m n : ℕ) → m ≤ n → Only a b x y m → Only a b x y n
  OnlyWrites-weaker a b x y m n le only =
      record { read = only.read; header = only.header; more = omega (arith, only.more) }

  -- the draft may still be one of the base
  pub draft_stays : (a b : UnitsState H) (x y : DraftState) (m : ℕ) → Only a b x y m → IsDraftFor a.header x
      → IsDraftFor b.header y
  draft_stays a b x y m only is = record {
    block_size = ap (λ (h : Header). h.block_size) only.header ∙ is.block_size
        ∙ ap (λ (h : Header). h.block_size) (sym (same_header told moment counts left_since a b only.read));
    tn = ap (λ (h : Header). h.tn) only.header ∙ is.tn
        ∙ ap (λ (h : Header). h.tn) (sym (same_header told moment counts left_since a b only.read));
  }

  pub total_stays : (a b : UnitsState H) (x y : DraftState) (m : ℕ) → Only a b x y m
      → y.header.total ≡ x.header.total
  total_stays a b x y m only = ap (λ (h : Header). h.total) only.header

  -- a block was freed or taken
  pub OnlyWrites-drafts : (a b : UnitsState H) (x y : DraftState) (m : ℕ)
      → OnlyDrafts told moment counts left_since a b x y m → blocks_beside_maps y ≤ blocks_beside_maps x
      → Only a b x y 0
  OnlyWrites-drafts a b x y m only maps =
      record { read = only.read; header = only.header; more = omega (arith, maps) }
