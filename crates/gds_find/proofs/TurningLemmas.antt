-- The child that an index block says of a key, and its offset.
use Rattle.std.proofs.Common.{ℕ, zero, suc, ◌≡◌, ◌≤◌, List, ◌∷◌, length, Option, None, Some, ap, subst, arith}
use Rattle.std.specs.Prelude.{IsSomeAnd}
use Rattle.gds_block.specs.Block.{level_of}
use Rattle.gds_block.specs.Item.{Item}
use Rattle.gds_pack.specs.Packed.{packed_size}
use Rattle.gds_pack.proofs.SizeLemmas.{packed_size-front}
use Rattle.gds_search.specs.Child.{IsChild}
use Rattle.gds_search.specs.PackedBlock.{IsPackedBlock}
use Rattle.gds_search.specs.Place.{IsPlace, IsPlaceFor}
use Rattle.gds_search.specs.declared.place.Place.{Place}
use Rattle.gds_search.specs.declared.reading.Child.{Child}
use Rattle.m_key.specs.KeyEnd.{IsKey}

-- what is said of a child at a place of any key
abbrev pub FindsChild : List ℕ → Place → Option Child → Type 0
FindsChild bytes place o =
    (level : ℕ) (es before behind : List Item) (key : List ℕ) → IsKey key → IsPackedBlock bytes (suc level) es
    → IsPlaceFor es key place before behind → IsSomeAnd o (IsChild es key)

pub some_child : (es : List Item) (key : List ℕ) (o : Option Child) (child : Child) → IsSomeAnd o (IsChild es key)
    → o ≡ Some child → IsChild es key child
some_child es key None child is e = absurd is
some_child es key (Some c) child is e = let same : c ≡ child = cc in subst (IsChild es key) same is

pub no_child : (es : List Item) (key : List ℕ) (o : Option Child) → IsSomeAnd o (IsChild es key) → o ≡ None → ⊥
no_child es key None is e = is
no_child es key (Some c) is e = cc

module _ (bytes key : List ℕ) (es : List Item) (is_key : IsKey key) where
  pub has_child : (height : ℕ) (place : Place) (o : Option Child) → IsPackedBlock bytes height es
      → (level_of bytes ≡ 0 → ⊥) → IsPlace es key place → FindsChild bytes place o → IsSomeAnd o (IsChild es key)
  has_child zero place o packed index is finds = absurd (index packed.level)
  has_child (suc level) place o packed index is finds =
      finds level es is.0 is.1 key is_key packed is.2

  -- It stands within the used bytes.
  pub child_within : (height : ℕ) (child : Child) → IsPackedBlock bytes height es → IsChild es key child
      → child.offset ≤ length bytes
  child_within height child packed (before, own, behind, is) =
      omega (
        arith,
        is.offset,
        packed.used,
        packed.is_block.within,
        packed_size-front before (own ∷ behind),
        ap packed_size is.parts,
      )
