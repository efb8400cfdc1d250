-- A block whose entries are put into several.
use Rattle.std.proofs.Common.{◌≡◌, ◌+◌, ◌-◌, ◌<◌, ◌≤◌, ℕ, List, [], ◌∷◌, ◌++◌, Result, Ok, Err, length, false, refl}
use Rattle.std.proofs.Common.{sym, ◌∙◌, subst, arith}
use Rattle.std.proofs.Common.{Bool, true, inr, inl, length-append, rules, tests}
use Rattle.std.specs.Prelude.{IfOk, IsTrue, OnOk, nat_eq, nat_lt, ◌==◌, ◌^◌}
use Rattle.std.specs.List.{IsDistinct}
use Rattle.std.proofs.lemmas.Bool.{eqb-false, false≢true, or_parts}
use Rattle.gds_block.specs.Item.{Item}
use Rattle.gds_file.specs.FileLaws.{IsLawful}
use Rattle.gds_file.specs.Maps.{has_block, is_busy}
use Rattle.gds_file.specs.Rewrite.{AreAllBusy}
use Rattle.gds_header.specs.Fields.{fields_of}
use Rattle.gds_header.specs.declared.header.Header.{Header}
use Rattle.gds_header.specs.declared.kind.HeaderKind.TheVariants.{BadTransactionNumber}
use Rattle.gds_sound.proofs.HeaderLemmas.{none_of_header}
use Rattle.gds_split.specs.Pieces.{pieces_above}
use Rattle.gds_splice.specs.Divided.{Divides}
use Rattle.gds_splice.specs.Parted.{TakenAll, TakesAll}
use Rattle.gds_splice.specs.Parts.{FitInRuns, above_parts, pieces_of}
use Rattle.gds_splice.specs.Writing.{PutsPieces}
use Rattle.gds_splice.specs.declared.parts.Parts.{Parts}
use Rattle.gds_splice.proofs.CountedLemmas.{distinct_more}
use Rattle.gds_splice.proofs.TakenLemmas.{taken}

pub both_ok : {T E A : Type 0} {B C : T → Type 0} (result : Result T E) → OnOk result A → IfOk result B
    → ((x : T) → A → B x → C x) → IfOk result C
both_ok (Ok x) a b so = so x a b
both_ok (Err e) a b so = tt

-- A lawful file has had transactions.
pub had_some : (file : List ℕ) → IsLawful file → 0 < (fields_of file).tn
had_some file l =
    let h : Header = fields_of file in
    let number = or_parts (h.tn == 0) (nat_lt (2 ^ 63) h.tn)
    (none_of_header file l.header BadTransactionNumber
    (inr (inr (inr (inr (inr (inr (inr (inr (inr (inl refl))))))))))) in
    omega (arith, eqb-false h.tn 0 number.0)

-- A busy block isn't among those that were free.
not_among : (before : List ℕ) (fresh : List ℕ) (n : ℕ) (t : Bool) → has_block fresh n ≡ t
    → ((m : ℕ) → IsTrue (has_block fresh m) → is_busy before m ≡ false) → IsTrue (is_busy before n)
    → has_block fresh n ≡ false
not_among before fresh n false is free busy = is
not_among before fresh n true is free busy = absurd (false≢true (sym (free n is) ∙ busy))

pub kept_distinct : (before mid : List ℕ) (kept fresh : List ℕ) → length kept ≤ 1 → AreAllBusy before kept
    → TakenAll before mid fresh → IsDistinct nat_eq (kept ++ fresh)
kept_distinct before mid [] fresh one busy t = t.distinct
kept_distinct before mid (n ∷ []) fresh one busy t =
    distinct_more n fresh
    (not_among before fresh n (has_block fresh n) refl t.were_free (busy n (search (rules, tests)))) t.distinct
kept_distinct before mid (n ∷ m ∷ kept) fresh one busy t = absurd (omega arith)

pub divides_by : (before mid after kept fresh lengths numbers : List ℕ) (level size : ℕ) (es : List Item)
    (parts : Parts)
    → IsLawful before → AreAllBusy before kept → length kept ≤ 1 → TakesAll before mid fresh
    → numbers ≡ kept ++ fresh → length lengths ≤ 2 → length fresh ≡ length lengths + 1 - length kept
    → (fields_of before).block_size ≡ size → FitInRuns size lengths es
    → (0 < (fields_of mid).tn → IsDistinct nat_eq numbers → PutsPieces mid after level (pieces_of lengths numbers es))
    → ((key : List ℕ) → pieces_above level (pieces_of lengths numbers es) key ≡ above_parts parts key)
    → Divides before after kept level es parts
divides_by before mid after kept fresh lengths numbers level size es parts l busy one takes are few count size_is fits
    put told =
    let t = taken before mid fresh l takes in
    let puts = put (had_some mid t.lawful)
    (subst (IsDistinct nat_eq) (sym are) (kept_distinct before mid kept fresh one busy t)) in
    let puts' = subst (λ ns. PutsPieces mid after level (pieces_of lengths ns es)) are puts in record {
      lengths = lengths;
      fresh = fresh;
      few = few;
      count = omega (arith, length-append kept fresh, count);
      fits = subst (λ n. FitInRuns n lengths es) (sym size_is) fits;
      writes = record { mid = mid; taken = takes; rewrites = puts'.rewrites; each = puts'.each };
      told = λ key. subst (λ ns. pieces_above level (pieces_of lengths ns es) key ≡ above_parts parts key) are
          (told key);
    }

-- no blocks are all busy
pub none_busy : (file : List ℕ) → AreAllBusy file []
none_busy file n there = absurd (false≢true there)
