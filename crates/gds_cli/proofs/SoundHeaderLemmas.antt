-- When a file's header has no fault, from its first bytes and its length.
use Rattle.std.proofs.Common.{◌≡◌, ℕ, ◌<◌, ◌^◌, Bool, true, false, not, ◌&&◌, ◌||◌, cond, ltb, eqb, leb, List, []}
use Rattle.std.proofs.Common.{◌∷◌, ◌++◌, length, take, Option, Some, None, IfSome, refl, sym, ap}
use Rattle.std.proofs.Common.{◌∙◌, ⊎_elim, arith, lit≤}
use Rattle.std.specs.Prelude.{find, filter, slice_range}
use Rattle.std.specs.List.{list_any}
use Rattle.std.proofs.lemmas.List.Folds.{list_any-append}
use Rattle.std.proofs.lemmas.Bool.{or_parts, and_parts, cases_Bool, le-ltb, not-true}
use Rattle.std.proofs.lemmas.Bool.Decides.{nat_tests}
use Rattle.gds_header.specs.declared.header.Header.{Header}
use Rattle.gds_header.specs.Fields.{fields_of, file_length_of}
use Rattle.gds_header.specs.declared.kind.HeaderKind.{HeaderKind}
use Rattle.gds_header.specs.declared.kind.HeaderKind.TheVariants.{ShortHeader, NotDatabase, BlockSizeNotMultiple}
use Rattle.gds_header.specs.declared.kind.HeaderKind.TheVariants.{BlockSizeTooLarge, NoBlocks, BadLimit, ShortFile}
use Rattle.gds_header.specs.declared.kind.HeaderKind.TheVariants.{LongFile, ReservedByte, BadTransactionNumber}
use Rattle.gds_header.specs.Kinds.{IsWithinLimits, holds, ends, kinds, through_first, header_faults, ending_kind}
use Rattle.gds_header.specs.Kinds.{reserved_bytes, has_free, groups_past}
use Rattle.gds_header.proofs.EndingLemmas.{fields_of-front, ending_kind-none, ending_kind-short}
use Rattle.gds_header.proofs.EndingLemmas.{reserved_bytes-front}
use Rattle.gds_cli.specs.SoundHeader.{IsHeaderOf, are_zeros, is_clear, is_faultless}

-- where nothing is left of the front up to the first that ends, no kind holds
none_passes : {A : Type 0} (ending holding : A → Bool) (xs : List A) → through_first ending (filter holding xs) ≡ []
    → list_any holding xs ≡ false
none_passes ending holding [] none = refl
none_passes ending holding (x ∷ xs) none =
    ⊎_elim
    (λ (e : holding x ≡ true). ⊎_elim
    (λ (f : ending x ≡ true). let some : (x ∷ []) ≡ [] = rw (e, f) at none in cc)
    (λ (f : ending x ≡ false). let some : (x ∷ through_first ending (filter holding xs)) ≡ [] = rw (e, f) at none in cc)
    (cases_Bool (ending x)))
    (λ (e : holding x ≡ false). rw e (none_passes ending holding xs (rw e at none)))
    (cases_Bool (holding x))

-- where none ends, and of the others none holds, nothing is left
none_left : {A : Type 0} (ending holding : A → Bool) (xs : List A)
    → find ending (through_first ending (filter holding xs)) ≡ None
    → list_any (λ x. not (ending x) && holding x) xs ≡ false → through_first ending (filter holding xs) ≡ []
none_left ending holding [] none others = refl
none_left ending holding (x ∷ xs) none others =
    let parts = or_parts (not (ending x) && holding x) (list_any (λ y. not (ending y) && holding y) xs) others in
    ⊎_elim
    (λ (e : holding x ≡ true). ⊎_elim
    (λ (f : ending x ≡ true). let some : Some x ≡ None = rw (e, f, f) at none in cc)
    (λ (f : ending x ≡ false). let some : true ≡ false = rw (f, e) at parts.0 in cc)
    (cases_Bool (ending x)))
    (λ (e : holding x ≡ false). rw e (none_left ending holding xs (rw e at none) parts.1))
    (cases_Bool (holding x))

-- the kinds that could be read past
record Past (d : List ℕ) : Type 0 where
  long : holds d LongFile ≡ false
  reserved : holds d ReservedByte ≡ false
  number : holds d BadTransactionNumber ≡ false

last_of : (a b c d e f g h i j : Bool)
    → (a || (b || (c || (d || (e || (f || (g || (h || (i || (j || false)))))))))) ≡ false
    → (g ≡ false) × (h ≡ false) × (i ≡ false) × (j ≡ false)
last_of a b c d e f g h i j none =
    let p1 = or_parts a _ none in
    let p2 = or_parts b _ p1.1 in
    let p3 = or_parts c _ p2.1 in
    let p4 = or_parts d _ p3.1 in
    let p5 = or_parts e _ p4.1 in
    let p6 = or_parts f _ p5.1 in
    let p7 = or_parts g _ p6.1 in
    let p8 = or_parts h _ p7.1 in
    let p9 = or_parts i _ p8.1 in
    (p7.0, p8.0, p9.0, (or_parts j false p9.1).0)

past_none : (d : List ℕ) → header_faults d ≡ [] → Past d × (holds d ShortFile ≡ false)
unfolding header_faults
past_none d none =
    let last =
    last_of (holds d ShortHeader) (holds d NotDatabase) (holds d BlockSizeNotMultiple) (holds d BlockSizeTooLarge)
    (holds d NoBlocks) (holds d BadLimit) (holds d ShortFile) (holds d LongFile) (holds d ReservedByte)
    (holds d BadTransactionNumber) (none_passes ends (holds d) kinds none) in
    (record { long = last.1; reserved = last.2; number = last.3 }, last.0)

none_past : (d : List ℕ) → ending_kind d ≡ None → Past d → header_faults d ≡ []
unfolding ending_kind header_faults
none_past d none past = none_left ends (holds d) kinds none (rw (past.long, past.reserved, past.number))

-- ---- what a header and its bytes say of the file that they are at the front of

equal_test : (a b : ℕ) → ltb a b ≡ false → ltb b a ≡ false → eqb a b ≡ true
equal_test a b first second = grind (arith, nat_tests)

equal_of_test : (a b : ℕ) → eqb a b ≡ true → a ≡ b
equal_of_test a b same = grind (arith, nat_tests)

number_test : (t most : ℕ) → (eqb t 0 || ltb most t) ≡ false → (leb 1 t ≡ true) × (leb t most ≡ true)
number_test t most fine = (grind (arith, nat_tests), grind (arith, nat_tests))

number_of_test : (t most : ℕ) → leb 1 t ≡ true → leb t most ≡ true → (eqb t 0 || ltb most t) ≡ false
number_of_test t most low high = grind (arith, nat_tests)

-- whether a byte or a bit that must be 0 isn't
marked : Header → List ℕ → Bool
marked h bytes = list_any (λ b. not (eqb b 0)) bytes || list_any (has_free h) (groups_past h)

marked_in : (h : Header) (d front : List ℕ) → take 8192 d ≡ front → fields_of d ≡ h
    → holds d ReservedByte ≡ marked h (reserved_bytes front)
unfolding marked
marked_in h d front begins fields =
    let bytes = sym (reserved_bytes-front 8192 d (lit≤ tt)) ∙ ap reserved_bytes begins in
    λ i. list_any (λ b. not (eqb b 0)) (bytes i) || list_any (has_free (fields i)) (groups_past (fields i))

zeros_unmarked : (xs : List ℕ) → are_zeros xs ≡ not (list_any (λ b. not (eqb b 0)) xs)
zeros_unmarked [] = refl
zeros_unmarked (x ∷ xs) =
    let rest = zeros_unmarked xs in
    ⊎_elim (λ (e : eqb x 0 ≡ true). rw e rest) (λ (e : eqb x 0 ≡ false). rw e) (cases_Bool (eqb x 0))

four : (a b c d : Bool) → (not a && (not b && (not c && not d))) ≡ not (a || b || c || d)
four true b c d = refl
four false true c d = refl
four false false true d = refl
four false false false d = refl

clear_is : (h : Header) (front : List ℕ) → is_clear h front ≡ not (marked h (reserved_bytes front))
unfolding marked
clear_is h front =
    let first = zeros_unmarked (slice_range front 36 40) in
    let second = zeros_unmarked (slice_range front 48 4096) in
    let third = zeros_unmarked (slice_range front 4352 8192) in
    let past = list_any (has_free h) (groups_past h) in
    let test = λ (b : ℕ). not (eqb b 0) in
    let parts =
    list_any-append test (slice_range front 36 40 ++ slice_range front 48 4096) (slice_range front 4352 8192)
    ∙ ap (λ x. x || list_any test (slice_range front 4352 8192))
    (list_any-append test (slice_range front 36 40) (slice_range front 48 4096)) in
    (λ i. first i && (second i && (third i && not past)))
    ∙ four (list_any test (slice_range front 36 40)) (list_any test (slice_range front 48 4096))
    (list_any test (slice_range front 4352 8192)) past ∙ ap (λ x. not (x || past)) (sym parts)

module _ (h : Header) (d front : List ℕ) (size : ℕ) (begins : take 8192 d ≡ front) (long : length d ≡ size)
    (is : h ≡ fields_of front)
    (ending : ending_kind d ≡ cond (ltb (length d) (file_length_of h)) (Some ShortFile) None) where
  fields : fields_of d ≡ h
  fields = sym (fields_of-front 8192 d (lit≤ tt)) ∙ ap fields_of begins ∙ sym is

  pub sound_header : IsWithinLimits h → is_faultless h front size ≡ true → IsHeaderOf h d
  sound_header limits sound =
      let first =
      and_parts (eqb (file_length_of h) size) (is_clear h front && (leb 1 h.tn && leb h.tn (2 ^ 63))) sound in
      let second = and_parts (is_clear h front) (leb 1 h.tn && leb h.tn (2 ^ 63)) first.1 in
      let third = and_parts (leb 1 h.tn) (leb h.tn (2 ^ 63)) second.1 in
      let whole : length d ≡ file_length_of h = long ∙ sym (equal_of_test (file_length_of h) size first.0) in
      let none : ltb (length d) (file_length_of h) ≡ false = le-ltb _ _ (omega arith) in
      let past : Past d = record {
        long = ap (λ (k : Header). ltb (file_length_of k) (length d)) fields ∙ le-ltb _ _ (omega arith);
        reserved = marked_in h d front begins fields ∙ not-true _ (sym (clear_is h front) ∙ second.0);
        number =
            ap (λ (k : Header). eqb k.tn 0 || ltb (2 ^ 63) k.tn) fields ∙ number_of_test h.tn (2 ^ 63) third.0 third.1;
      } in
      record {
        fields = fields;
        limits = limits;
        whole = whole;
        sound = none_past d (ending ∙ ap (λ b. cond b (Some ShortFile) None) none) past;
      }

  pub not_sound : is_faultless h front size ≡ false → header_faults d ≡ [] → ⊥
  not_sound unsound none =
      let parts = past_none d none in
      let shorter : ltb (length d) (file_length_of h) ≡ false =
      sym (ap (λ (k : Header). ltb (length d) (file_length_of k)) fields) ∙ parts.1 in
      let longer : ltb (file_length_of h) (length d) ≡ false =
      sym (ap (λ (k : Header). ltb (file_length_of k) (length d)) fields) ∙ parts.0.long in
      let same : eqb (file_length_of h) size ≡ true =
      ap (eqb (file_length_of h)) (sym long) ∙ equal_test _ _ longer shorter in
      let clear : is_clear h front ≡ true =
      clear_is h front ∙ ap not (sym (marked_in h d front begins fields) ∙ parts.0.reserved) in
      let number =
      number_test h.tn (2 ^ 63)
      (sym (ap (λ (k : Header). eqb k.tn 0 || ltb (2 ^ 63) k.tn) fields) ∙ parts.0.number) in
      let sound : is_faultless h front size ≡ true = rw (same, clear, number.0, number.1) in
      cc

pub no_ending : (d : List ℕ) (kind : HeaderKind) → ending_kind d ≡ Some kind → header_faults d ≡ [] → ⊥
no_ending d kind ends_so none = let nothing = ending_kind-none d none in cc

pub short_header : (d : List ℕ) → length d < 8192 → header_faults d ≡ [] → ⊥
short_header d short = no_ending d ShortHeader (ending_kind-short d short)

-- ---- what is told

pub some_weaker : {T : Type 0} (o : Option T) (A B : T → Type 0) → ((x : T) → A x → B x) → IfSome o A → IfSome o B
some_weaker None A B so known = tt
some_weaker (Some x) A B so known = so x known
