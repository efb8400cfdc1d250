-- A record of a level-0 block of a global that has no kind, and no child.
use Rattle.std.proofs.Common.{ℕ, ◌≡◌, ◌+◌, Bool, true, false, List, [], ◌∷◌, ◌++◌, length, None, refl, ◌∙◌}
use Rattle.std.proofs.Common.{ap}
use Rattle.std.specs.Prelude.{filter, not, is_none, ◌&&◌, ◌==◌, nat_lt, if◌then◌else◌}
use Rattle.std.specs.List.{AllByRecursion, list_any}
use Rattle.std.specs.Option.{option_map_or}
use Rattle.std.proofs.lemmas.Bool.{cond-false}
use Rattle.gds_block.specs.Record.{Record}
use Rattle.gds_header.specs.Kinds.{through_first}
use Rattle.gds_law.specs.Kinds.{ends, record_kinds}
use Rattle.m_key.specs.KeyParts.{name_part, subscript_parts}
use Rattle.gds_law.specs.Key.{key_fault}
use Rattle.gds_law.specs.Block.{children_from}
use Rattle.gds_law.specs.BlockReading.{BlockReading, PlacedRecord, size_of, is_last, key_of, rest_of, points}
use Rattle.gds_law.specs.BlockReading.{pointer_of}
use Rattle.gds_law.specs.Record.{holds, keyed_holds, last_holds, is_kind, is_directory, is_other_global, is_above_bound}
use Rattle.gds_law.specs.Record.{is_below_bound, has_pointer, kinds_of, is_ended, child_to}
use Rattle.gds_law.specs.declared.kind.FaultKind.{FaultKind}
use Rattle.gds_law.specs.declared.kind.FaultKind.TheVariants.{StarSize, StarCount, FirstCount, CountTooLarge}
use Rattle.gds_law.specs.declared.kind.FaultKind.TheVariants.{KeyTooLong, KeyWithoutEnd, WrongCount, KeyOutOfOrder}
use Rattle.gds_law.specs.declared.kind.FaultKind.TheVariants.{BadName, TooManySubscripts, BadNumber, BadString}
use Rattle.gds_law.specs.declared.kind.FaultKind.TheVariants.{NullSubscript, DirectorySubscript, WrongGlobal}
use Rattle.gds_law.specs.declared.kind.FaultKind.TheVariants.{KeyAboveBound, KeyBelowBound, RestNotPointer}
use Rattle.gds_law.specs.declared.kind.FaultKind.TheVariants.{ValueTooLong}

pub filter-none : {K : Type 0} (test : K → Bool) (kinds : List K) → AllByRecursion (λ k. test k ≡ false) kinds
    → filter test kinds ≡ []
filter-none test [] h = refl
filter-none test (k ∷ kinds) h = rw h.0 (filter-none test kinds h.1)

pub record IsClean (b : BlockReading) (s : PlacedRecord) : Type 0 where
  pub not_last : is_last b s ≡ false
  pub points : points b ≡ false
  pub role : is_directory b.visit.role ≡ false
  pub first_count : keyed_holds b s FirstCount ≡ false
  pub later_count : keyed_holds b s CountTooLarge ≡ false
  pub not_long : keyed_holds b s KeyTooLong ≡ false
  pub with_end : keyed_holds b s KeyWithoutEnd ≡ false
  pub count : keyed_holds b s WrongCount ≡ false
  pub order : keyed_holds b s KeyOutOfOrder ≡ false
  pub faultless : key_fault (key_of b s) ≡ None
  pub name : is_other_global b.visit.role (name_part (key_of b s)) ≡ false
  pub not_above : is_above_bound b.visit.high (key_of b s) ≡ false
  pub not_below : is_below_bound b.level b.visit.low (key_of b s) ≡ false
  pub value : nat_lt b.header.value_max (length (rest_of b s)) ≡ false

module _ (b : BlockReading) (s : PlacedRecord) where
  pub pointer_of-none : is_last b s ≡ false → points b ≡ false → pointer_of b s ≡ None
  pointer_of-none last p =
      cond-false (is_last b s) _ _ last
      ∙ cond-false (points b && (length (rest_of b s) == 4)) _ _ (ap (λ t. t && (length (rest_of b s) == 4)) p)

  module _ (clean : IsClean b s) where
    as_keyed : (kind : FaultKind) → holds b s kind ≡ (if is_last b s then last_holds s kind else keyed_holds b s kind)
        → keyed_holds b s kind ≡ false → holds b s kind ≡ false
    as_keyed kind e h = e ∙ cond-false (is_last b s) _ _ clean.not_last ∙ h

    no_fault : (kind : FaultKind) → option_map_or (is_kind kind) (key_fault (key_of b s)) false ≡ false
    no_fault kind = ap (λ o. option_map_or (is_kind kind) o false) clean.faultless

    no_pointer : (test : ℕ → Bool) → has_pointer b s test ≡ false
    no_pointer test = ap (λ o. option_map_or test o false) (pointer_of-none clean.not_last clean.points)

    none_hold : AllByRecursion (λ k. holds b s k ≡ false) record_kinds
    none_hold = (
      as_keyed StarSize refl (no_fault StarSize),
      (
        as_keyed StarCount refl (no_fault StarCount),
        (
          as_keyed FirstCount refl clean.first_count,
          (
            as_keyed CountTooLarge refl clean.later_count,
            (
              as_keyed KeyTooLong refl clean.not_long,
              (
                as_keyed KeyWithoutEnd refl clean.with_end,
                (
                  as_keyed WrongCount refl clean.count,
                  (
                    as_keyed KeyOutOfOrder refl clean.order,
                    (
                      as_keyed BadName refl (no_fault BadName),
                      (
                        as_keyed TooManySubscripts refl (no_fault TooManySubscripts),
                        (
                          as_keyed BadNumber refl (no_fault BadNumber),
                          (
                            as_keyed BadString refl (no_fault BadString),
                            (
                              as_keyed NullSubscript refl (no_fault NullSubscript),
                              (
                                as_keyed DirectorySubscript refl (ap (λ t. t && is_none (key_fault (key_of b s))
                                    && nat_lt 0 (length (subscript_parts (key_of b s)))) clean.role),
                                (
                                  as_keyed WrongGlobal refl clean.name,
                                  (
                                    as_keyed KeyAboveBound refl clean.not_above,
                                    (
                                      as_keyed KeyBelowBound refl clean.not_below,
                                      (
                                        as_keyed RestNotPointer refl (ap (λ t. t && not (length (rest_of b s) == 4))
                                            clean.points),
                                        (
                                          as_keyed ValueTooLong refl (ap
                                              (λ t. not t && nat_lt b.header.value_max (length (rest_of b s)))
                                              clean.points
                                              ∙ clean.value),
                                          (
                                            no_pointer _,
                                            (
                                              no_pointer _,
                                              (no_pointer _, tt),
                                            ),
                                          ),
                                        ),
                                      ),
                                    ),
                                  ),
                                ),
                              ),
                            ),
                          ),
                        ),
                      ),
                    ),
                  ),
                ),
              ),
            ),
          ),
        ),
      ),
    )

    pub kinds_of-clean : kinds_of b s ≡ []
    unfolding kinds_of
    kinds_of-clean = ap (through_first ends) (filter-none (holds b s) record_kinds none_hold)

    pub is_ended-clean : is_ended b s ≡ false
    unfolding is_ended
    is_ended-clean = ap (list_any ends) kinds_of-clean

pub if_none : {A : Type 0} (t : Bool) (xs : List A) → xs ≡ [] → (if t then [] else xs) ≡ []
if_none true xs h = refl
if_none false xs h = h

-- such blocks have no children
pub children_from-none : (b : BlockReading) (previous : List ℕ) (rs : List Record) → b.level ≡ 0 → points b ≡ false
    → children_from b previous rs ≡ []
children_from-none b previous [] level p = refl
children_from-none b previous (r ∷ rs) level p =
    let s : PlacedRecord = record { previous = previous; record_ = r } in
    let last : is_last b s ≡ false = ap (λ n. nat_lt 0 n && (r.offset + size_of s == b.used)) level in
    if_none (is_ended b s) _
    (ap (λ o. child_to b s o ++ children_from b (key_of b s) rs) (pointer_of-none b s last p)
    ∙ children_from-none b (key_of b s) rs level p)
