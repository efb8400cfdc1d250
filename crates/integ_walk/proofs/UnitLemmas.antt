-- The blocks of a file whose header can be read, as its units.
use Rattle.std.proofs.Common.{◌≡◌, ℕ, ◌+◌, ◌*◌, ◌<◌, ◌≤◌, Bool, true, false, ◌||◌, List, [], ◌∷◌, length}
use Rattle.std.proofs.Common.{filter, find, None, Some, inl, inr, refl, sym, ◌∙◌, arith}
use Rattle.std.proofs.Common.{mul-le-mul_right, if◌then◌else◌}
use Rattle.std.specs.List.{list_any}
use Rattle.std.proofs.lemmas.Bool.{ltb-false}
use Rattle.host_model.specs.Units.{IsUnit}
use Rattle.gds_header.specs.declared.kind.HeaderKind.TheVariants.{ShortFile}
use Rattle.gds_header.specs.Fields.{fields_of, image_length}
use Rattle.gds_header.specs.Kinds.{ends, holds, kinds, header_faults, ending_kind}
use Rattle.gds_law.proofs.UnitLemmas.{length_at, place_at}
use Rattle.gds_law.proofs.RankLemmas.{through_any, none_there}

none_found : {A : Type 0} (test : A → Bool) (xs : List A) → find test xs ≡ None → list_any test xs ≡ false
none_found test [] h = refl
none_found {A} test (x ∷ xs) h = by (test x) h (none_found test xs)
  where
    by : (t : Bool) → (if t then Some x else find test xs) ≡ None → (find test xs ≡ None → list_any test xs ≡ false)
        → (t || list_any test xs) ≡ false
    by true e next = absurd (cc)
    by false e next = next e

-- Where no kind ends the reading of the header, the file isn't too short.
pub whole_file : (file : List ℕ) → ending_kind file ≡ None → image_length file ≤ length file
unfolding ending_kind header_faults
whole_file file h =
    let none = sym (through_any ends (filter (holds file) kinds)) ∙ none_found ends (header_faults file) h in
    ltb-false (length file) (image_length file)
    (none_there ends (holds file) kinds ShortFile none refl (inr (inr (inr (inr (inr (inr (inl refl))))))))

pub is_unit : (file : List ℕ) (block n : ℕ) → ending_kind file ≡ None → block < (fields_of file).total
    → n ≡ (fields_of file).block_size → IsUnit file (block + 1) n
is_unit file block n h low same = record {
  length_is = same ∙ sym (length_at file block);
  within =
      let size = (fields_of file).block_size in
      let last : (block + 1) * size ≤ (fields_of file).total * size = mul-le-mul_right size (omega arith) in
      let more : (block + 1) * size ≡ block * size + size = omega arith in
      omega (arith, whole_file file h, place_at file block, same, last, more);
}
