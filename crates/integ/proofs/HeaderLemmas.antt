-- The kinds of a header's faults that don't end the reading, as the law lists them.
use Rattle.std.proofs.Common.{◌≡◌, ℕ, ◌^◌, Bool, true, false, not, ◌&&◌, ◌||◌, cond, eqb, ltb, List, [], ◌∷◌}
use Rattle.std.proofs.Common.{◌++◌, length, Some, None, refl, sym, ap, ◌∙◌, ⊎_elim, lit≤}
use Rattle.std.specs.Prelude.{find, filter, map, nat_lt, slice_range}
use Rattle.std.specs.List.{list_any}
use Rattle.std.proofs.lemmas.List.Folds.{list_any-append}
use Rattle.std.proofs.lemmas.Bool.{cases_Bool}
use Rattle.gds_header.specs.declared.header.Header.{Header}
use Rattle.gds_header.specs.declared.kind.HeaderKind.{HeaderKind}
use Rattle.gds_header.specs.declared.kind.HeaderKind.TheVariants.{LongFile, ReservedByte, BadTransactionNumber}
use Rattle.gds_header.specs.Fields.{fields_of, file_length_of}
use Rattle.gds_header.specs.Kinds.{holds, ends, kinds, through_first, header_faults, ending_kind, reserved_bytes}
use Rattle.gds_header.specs.Kinds.{has_free, groups_past}
use Rattle.gds_header.proofs.EndingLemmas.{fields_of-front, reserved_bytes-front}
use Rattle.gds_law.specs.Kinds.{fault_kind_of}
use Rattle.gds_law.specs.Maps.{fault_of}
use Rattle.gds_law.specs.Faults.{faults_of_header}
use Rattle.gds_law.specs.declared.kind.FaultKind.TheVariants as fault
use Rattle.integ.specs.Standing.{standing}
use Rattle.integ.specs.Header.{any_set, is_marked, open_kinds}
use Rattle.integ.specs.Integ.{IsOpen}

-- Where none ends the reading, those that are there and don't are listed.
none_ends : {A : Type 0} (ending holding : A → Bool) (xs : List A)
    → find ending (through_first ending (filter holding xs)) ≡ None
    → through_first ending (filter holding xs) ≡ filter (λ x. not (ending x) && holding x) xs
none_ends ending holding [] none = refl
none_ends ending holding (x ∷ xs) none =
    ⊎_elim
    (λ (e : holding x ≡ true). ⊎_elim
    (λ (f : ending x ≡ true). let some : Some x ≡ None = rw (e, f, f) at none in absurd (cc))
    (λ (f : ending x ≡ false). rw (e, f) (ap (λ ys. x ∷ ys) (none_ends ending holding xs (rw (e, f, f) at none))))
    (cases_Bool (ending x)))
    (λ (e : holding x ≡ false). ⊎_elim
    (λ (f : ending x ≡ true). rw (e, f) (none_ends ending holding xs (rw e at none)))
    (λ (f : ending x ≡ false). rw (e, f) (none_ends ending holding xs (rw e at none)))
    (cases_Bool (ending x)))
    (cases_Bool (holding x))

open_headers : (file : List ℕ) → ending_kind file ≡ None
    → header_faults file ≡ filter (holds file) (LongFile ∷ ReservedByte ∷ BadTransactionNumber ∷ [])
unfolding ending_kind header_faults
open_headers file none = none_ends ends (holds file) kinds none

-- the same as kinds of faults
as_faults : (test : HeaderKind → Bool) (ks : List HeaderKind)
    → map (λ kind. fault_of 0 (fault_kind_of kind)) (filter test ks)
    ≡ map (fault_of 0) (standing (map (λ kind. (fault_kind_of kind, test kind)) ks))
as_faults test [] = refl
as_faults test (k ∷ ks) = step (test k) (as_faults test ks)
  where
    step : (b : Bool)
        → map (λ kind. fault_of 0 (fault_kind_of kind)) (filter test ks)
        ≡ map (fault_of 0) (standing (map (λ kind. (fault_kind_of kind, test kind)) ks))
        → map (λ kind. fault_of 0 (fault_kind_of kind)) (cond b (k ∷ filter test ks) (filter test ks))
        ≡ map (fault_of 0) (standing ((fault_kind_of k, b) ∷ map (λ kind. (fault_kind_of kind, test kind)) ks))
    step true rest = ap (λ xs. fault_of 0 (fault_kind_of k) ∷ xs) rest
    step false rest = rest

-- ---- the bytes that must be 0

or-assoc : (a b c d : Bool) → ((a || b) || c) || d ≡ a || (b || (c || d))
or-assoc true b c d = refl
or-assoc false true c d = refl
or-assoc false false true d = refl
or-assoc false false false d = refl

marked-is : (h : Header) (bytes : List ℕ)
    → (any_set (reserved_bytes bytes) || list_any (has_free h) (groups_past h)) ≡ is_marked h bytes
marked-is h bytes =
    let test = λ (b : ℕ). not (eqb b 0) in
    let first = slice_range bytes 36 40 in
    let second = slice_range bytes 48 4096 in
    let third = slice_range bytes 4352 8192 in
    let past = list_any (has_free h) (groups_past h) in
    ap (λ b. b || past) (list_any-append test (first ++ second) third
    ∙ ap (λ b. b || any_set third) (list_any-append test first second))
    ∙ or-assoc (any_set first) (any_set second) (any_set third) past

-- The header's faults are those that were told.
pub header-told : (file bytes : List ℕ) (h : Header) (size : ℕ) → IsOpen file bytes h → size ≡ length file
    → faults_of_header file ≡ map (fault_of 0) (open_kinds h bytes size)
unfolding open_kinds
header-told file bytes h size is long =
    let fields : fields_of file ≡ h = sym (fields_of-front 8192 file (lit≤ tt)) ∙ ap fields_of is.begins
    ∙ sym is.fields in
    let reserved : reserved_bytes file ≡ reserved_bytes bytes = sym (reserved_bytes-front 8192 file (lit≤ tt))
    ∙ ap reserved_bytes is.begins in
    let marked : holds file ReservedByte ≡ is_marked h bytes =
    (λ i. any_set (reserved i) || list_any (has_free (fields i)) (groups_past (fields i))) ∙ marked-is h bytes in
    ap (map (λ kind. fault_of 0 (fault_kind_of kind))) (open_headers file is.goes_on)
    ∙ as_faults (holds file) (LongFile ∷ ReservedByte ∷ BadTransactionNumber ∷ [])
    ∙ (λ i. map (fault_of 0)
    (standing ((fault.LongFile, nat_lt (file_length_of (fields i)) (sym long i)) ∷ (fault.ReservedByte, marked i)
    ∷ (fault.BadTransactionNumber, eqb (fields i).tn 0 || ltb (2 ^ 63) (fields i).tn) ∷ [])))
