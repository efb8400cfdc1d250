-- The kinds of a record, by the first that ends the reading of its block, or by none.
use Rattle.std.proofs.Common.{◌≡◌, Bool, true, false, List, [], ◌∷◌, Option, None, Some, refl, ◌∙◌, ap}
use Rattle.std.specs.Prelude.{filter, if◌then◌else◌}
use Rattle.std.specs.List.{list_any}
use Rattle.std.specs.Option.{option_map_or}
use Rattle.std.proofs.lemmas.Bool.{cond-true, cond-false}
use Rattle.gds_law.specs.Kinds.{ends}
use Rattle.gds_law.specs.BlockReading.{BlockReading, PlacedRecord, is_last}
use Rattle.gds_law.specs.Record.{holds, keyed_holds, last_holds, is_kind, kinds_of, is_ended}
use Rattle.gds_law.specs.declared.kind.FaultKind.{FaultKind}
use Rattle.gds_law.specs.declared.kind.FaultKind.TheVariants.{StarSize, StarCount, FirstCount, CountTooLarge}
use Rattle.gds_law.specs.declared.kind.FaultKind.TheVariants.{KeyTooLong, KeyWithoutEnd, WrongCount, KeyOutOfOrder}
use Rattle.gds_law.specs.declared.kind.FaultKind.TheVariants.{BadName, TooManySubscripts, BadNumber, BadString}
use Rattle.gds_law.specs.declared.kind.FaultKind.TheVariants.{NullSubscript, DirectorySubscript, WrongGlobal}
use Rattle.gds_law.specs.declared.kind.FaultKind.TheVariants.{KeyAboveBound, KeyBelowBound, RestNotPointer}
use Rattle.gds_law.specs.declared.kind.FaultKind.TheVariants.{ValueTooLong, PointerNotPositive, PointerTooLarge}
use Rattle.gds_law.specs.declared.kind.FaultKind.TheVariants.{PointerToMap}
use Rattle.integ_block.proofs.KindLemmas.{kept, kept-not, kept-last, kept-open, kept-all, none-ends}

-- the kinds that come behind those which may end the reading, and with that of the star's count all that don't end it
abbrev pub plain_kinds : List FaultKind
plain_kinds =
    WrongCount ∷ KeyOutOfOrder ∷ BadName ∷ TooManySubscripts ∷ BadNumber ∷ BadString ∷ NullSubscript
    ∷ DirectorySubscript ∷ WrongGlobal ∷ KeyAboveBound ∷ KeyBelowBound ∷ RestNotPointer ∷ ValueTooLong
    ∷ PointerNotPositive ∷ PointerTooLarge ∷ PointerToMap ∷ []

abbrev pub entry_kinds : List FaultKind
entry_kinds = StarCount ∷ plain_kinds

-- ---- at any test and before any further kinds

module _ (test : FaultKind → Bool) (rest : List FaultKind) where
  abbrev from_end : List FaultKind
  from_end = KeyWithoutEnd ∷ rest

  abbrev from_long : List FaultKind
  from_long = KeyTooLong ∷ from_end

  abbrev from_later : List FaultKind
  from_later = CountTooLarge ∷ from_long

  abbrev from_first : List FaultKind
  from_first = FirstCount ∷ from_later

  abbrev from_star : List FaultKind
  from_star = StarCount ∷ from_first

  only-StarSize : test StarSize ≡ true → kept ends test (StarSize ∷ from_star) ≡ StarSize ∷ []
  only-StarSize h = kept-last ends test StarSize from_star h refl

  module _ (size : test StarSize ≡ false) where
    module _ (star : test StarCount ≡ false) where
      not_star : kept ends test (StarSize ∷ from_star) ≡ kept ends test from_first
      not_star = kept-not ends test StarSize from_star size ∙ kept-not ends test StarCount from_first star

      only-FirstCount : test FirstCount ≡ true → kept ends test (StarSize ∷ from_star) ≡ FirstCount ∷ []
      only-FirstCount h = not_star ∙ kept-last ends test FirstCount from_later h refl

      module _ (first : test FirstCount ≡ false) where
        only-CountTooLarge : test CountTooLarge ≡ true → kept ends test (StarSize ∷ from_star) ≡ CountTooLarge ∷ []
        only-CountTooLarge h = not_star ∙ kept-not ends test FirstCount from_later first
            ∙ kept-last ends test CountTooLarge from_long h refl

        module _ (later : test CountTooLarge ≡ false) where
          not_count : kept ends test (StarSize ∷ from_star) ≡ kept ends test from_long
          not_count = not_star ∙ kept-not ends test FirstCount from_later first
              ∙ kept-not ends test CountTooLarge from_long later

          only-KeyTooLong : test KeyTooLong ≡ true → kept ends test (StarSize ∷ from_star) ≡ KeyTooLong ∷ []
          only-KeyTooLong h = not_count ∙ kept-last ends test KeyTooLong from_end h refl

          only-KeyWithoutEnd : test KeyTooLong ≡ false → test KeyWithoutEnd ≡ true
              → kept ends test (StarSize ∷ from_star) ≡ KeyWithoutEnd ∷ []
          only-KeyWithoutEnd long h = not_count ∙ kept-not ends test KeyTooLong from_end long
              ∙ kept-last ends test KeyWithoutEnd rest h refl

    all-entry : test FirstCount ≡ false → test CountTooLarge ≡ false → test KeyTooLong ≡ false
        → test KeyWithoutEnd ≡ false → list_any ends rest ≡ false
        → kept ends test (StarSize ∷ from_star) ≡ filter test (StarCount ∷ rest)
    all-entry first later long end open_all =
        kept-not ends test StarSize from_star size
        ∙ kept-open ends test StarCount from_first (filter test rest) refl
        (kept-not ends test FirstCount from_later first ∙ kept-not ends test CountTooLarge from_long later
        ∙ kept-not ends test KeyTooLong from_end long
        ∙ kept-not ends test KeyWithoutEnd rest end
        ∙ kept-all ends test rest open_all)

-- ---- of a record

no_key_fault : (fault : Option FaultKind) → option_map_or (is_kind StarSize) fault false ≡ false
no_key_fault None = refl
no_key_fault (Some kind) = refl

no_star_fault : (fault : Option FaultKind) → option_map_or (is_kind StarCount) fault false ≡ false
no_star_fault None = refl
no_star_fault (Some kind) = refl

module _ (b : BlockReading) (s : PlacedRecord) where
  pub kinds_of-star : is_last b s ≡ true → last_holds s StarSize ≡ true → kinds_of b s ≡ StarSize ∷ []
  unfolding kinds_of
  kinds_of-star last h = only-StarSize (holds b s) plain_kinds (cond-true (is_last b s) _ _ last ∙ h)

  module _ (not_last : is_last b s ≡ false) where
    as_keyed : (kind : FaultKind) (t : Bool)
        → holds b s kind ≡ (if is_last b s then last_holds s kind else keyed_holds b s kind) → keyed_holds b s kind ≡ t
        → holds b s kind ≡ t
    as_keyed kind t e h = e ∙ cond-false (is_last b s) _ _ not_last ∙ h

    size : holds b s StarSize ≡ false
    size = as_keyed StarSize false refl (no_key_fault _)

    star : holds b s StarCount ≡ false
    star = as_keyed StarCount false refl (no_star_fault _)

    pub kinds_of-first : keyed_holds b s FirstCount ≡ true → kinds_of b s ≡ FirstCount ∷ []
    unfolding kinds_of
    kinds_of-first h = only-FirstCount (holds b s) plain_kinds size star (as_keyed FirstCount true refl h)

    module _ (first : keyed_holds b s FirstCount ≡ false) where
      pub kinds_of-later : keyed_holds b s CountTooLarge ≡ true → kinds_of b s ≡ CountTooLarge ∷ []
      unfolding kinds_of
      kinds_of-later h =
          only-CountTooLarge (holds b s) plain_kinds size star (as_keyed FirstCount false refl first)
          (as_keyed CountTooLarge true refl h)

      module _ (later : keyed_holds b s CountTooLarge ≡ false) where
        pub kinds_of-long : keyed_holds b s KeyTooLong ≡ true → kinds_of b s ≡ KeyTooLong ∷ []
        unfolding kinds_of
        kinds_of-long h =
            only-KeyTooLong (holds b s) plain_kinds size star (as_keyed FirstCount false refl first)
            (as_keyed CountTooLarge false refl later)
            (as_keyed KeyTooLong true refl h)

        pub kinds_of-end : keyed_holds b s KeyTooLong ≡ false → keyed_holds b s KeyWithoutEnd ≡ true
            → kinds_of b s ≡ KeyWithoutEnd ∷ []
        unfolding kinds_of
        kinds_of-end long h =
            only-KeyWithoutEnd (holds b s) plain_kinds size star (as_keyed FirstCount false refl first)
            (as_keyed CountTooLarge false refl later)
            (as_keyed KeyTooLong false refl long) (as_keyed KeyWithoutEnd true refl h)

        pub kinds_of-keyed : keyed_holds b s KeyTooLong ≡ false → keyed_holds b s KeyWithoutEnd ≡ false
            → kinds_of b s ≡ filter (holds b s) entry_kinds
        unfolding kinds_of
        kinds_of-keyed long end =
            all-entry (holds b s) plain_kinds size (as_keyed FirstCount false refl first)
            (as_keyed CountTooLarge false refl later)
            (as_keyed KeyTooLong false refl long) (as_keyed KeyWithoutEnd false refl end) refl

  pub kinds_of-last : is_last b s ≡ true → last_holds s StarSize ≡ false → kinds_of b s ≡ filter (holds b s) entry_kinds
  unfolding kinds_of
  kinds_of-last last h =
      let no : (kind : FaultKind) → holds b s kind ≡ (if is_last b s then last_holds s kind else keyed_holds b s kind)
      → last_holds s kind ≡ false → holds b s kind ≡ false =
      λ (kind : FaultKind) (e : holds b s kind
      ≡ (if is_last b s then last_holds s kind else keyed_holds b s kind)) (k : last_holds s kind ≡ false). e
      ∙ cond-true (is_last b s) _ _ last ∙ k in
      all-entry (holds b s) plain_kinds (no StarSize refl h) (no FirstCount refl refl) (no CountTooLarge refl refl)
      (no KeyTooLong refl refl) (no KeyWithoutEnd refl refl) refl

  -- Such a record doesn't end the reading, and one with a single kind that does does.
  pub goes_on : kinds_of b s ≡ filter (holds b s) entry_kinds → is_ended b s ≡ false
  unfolding is_ended
  goes_on h = ap (list_any ends) h ∙ none-ends ends (holds b s) entry_kinds refl

  pub is_ended-by : (kind : FaultKind) → kinds_of b s ≡ kind ∷ [] → ends kind ≡ true → is_ended b s ≡ true
  unfolding is_ended
  is_ended-by kind h e = ap (list_any ends) h ∙ rw e refl
