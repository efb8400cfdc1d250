-- The words of CREATE.
use Rattle.std.proofs.Common.{◌≡◌, ℕ, zero, suc, ◌+◌, ◌<◌, ◌≤◌, Bool, true, false, not, ◌||◌, ◌&&◌, List, [], ◌∷◌}
use Rattle.std.proofs.Common.{length, take, drop, map, slice_index_or, Option, Some, None, refl, sym, ap, ◌∙◌, subst}
use Rattle.std.proofs.Common.{arith, ⊎_elim}
use Rattle.std.specs.Prelude.{if◌then◌else◌}
use Rattle.std.proofs.lemmas.Bool.{and_parts, cases_Bool, cond-true, cond-false, cases_lt}
use Rattle.std.proofs.lemmas.Bool.Decides.{nat_tests}
use Rattle.std.proofs.lemmas.List.{at_drop_more, get_or-map, take-map}
use Rattle.std.specs.List.{find, list_any, range_with_len}
use Rattle.gds_header.specs.declared.header.Header.{Header}
use Rattle.gds_header.specs.Kinds.{IsWithinLimits}
use Rattle.gds_words.specs.declared.qualifier.Qualifier.{Qualifier}
use Rattle.gds_words.specs.declared.qualifier.Qualifier.TheVariants.{Block, Key, Value, Alloc, Ext, Limit}
use Rattle.gds_words.specs.Create.{allows, default_of, fit, gives, goes_on, is_named, is_number, number_in, number_of}
use Rattle.gds_words.specs.Create.{number_or, odd_place, text_of}

-- ---- lists

pub any-map : {X Y : Type 0} (test : Y → Bool) (f : X → Y) (xs : List X)
    → list_any (λ x. test (f x)) xs ≡ list_any test (map f xs)
any-map test f [] = refl
any-map test f (x ∷ xs) = ap (λ (b : Bool). test (f x) || b) (any-map test f xs)

-- the first number from a on that passes a test
pub found_first : (test : ℕ → Bool) (a n i : ℕ) → a ≤ i → i < a + n → ((k : ℕ) → k < i → test k ≡ false) → test i ≡ true
    → find test (range_with_len a n) ≡ Some i
found_first test a zero i low high before is = absurd (omega arith)
found_first test a (suc n) i low high before is =
    ⊎_elim
    (λ (l : a < i).
    cond-false (test a) (Some a) (find test (range_with_len (a + 1) n)) (before a l)
    ∙ found_first test (a + 1) n i (omega (arith, l)) (omega (arith, high)) before is)
    (λ (l : i ≤ a).
    let same : a ≡ i = omega (arith, l, low) in
    cond-true (test a) (Some a) (find test (range_with_len (a + 1) n)) (ap test same ∙ is)
    ∙ ap (λ (k : ℕ). Some k) same)
    (cases_lt a i)

pub found_none : (test : ℕ → Bool) (a n : ℕ) → ((k : ℕ) → k < a + n → test k ≡ false)
    → find test (range_with_len a n) ≡ None
found_none test a zero none = refl
found_none test a (suc n) none =
    cond-false (test a) (Some a) (find test (range_with_len (a + 1) n)) (none a (omega arith))
    ∙ found_none test (a + 1) n (λ k l. none k (omega (arith, l)))

-- ---- words that go on

-- what was found of a word of the command line, as a fact about lists of bytes
pub goes_at : {X : Type 0} (bytes : X → List ℕ) (words : List X) (n : ℕ) (word : X) (text : List ℕ) (goes : Bool)
    → n < length words → word ≡ slice_index_or words n word → text ≡ bytes word
    → goes ≡ goes_on (map bytes (take n words)) text
    → goes_on (take n (map bytes words)) (slice_index_or (map bytes words) n []) ≡ goes
goes_at bytes words n word text goes within is same found =
    let at : slice_index_or (map bytes words) n [] ≡ text =
    get_or-map bytes words n word [] within ∙ ap bytes (sym is) ∙ sym same in
    ap (λ (t : List (List ℕ)). goes_on t (slice_index_or (map bytes words) n [])) (take-map bytes n words)
    ∙ ap (λ (t : List ℕ). goes_on (map bytes (take n words)) t) at ∙ sym found

abbrev pub GoOnBelow : List (List ℕ) → ℕ → Type 0
GoOnBelow words n = (k : ℕ) → k < n → goes_on (take k words) (slice_index_or words k []) ≡ true

pub one_more : (words : List (List ℕ)) (n : ℕ) → GoOnBelow words n
    → goes_on (take n words) (slice_index_or words n []) ≡ true → GoOnBelow words (n + 1)
one_more words n below at k l =
    ⊎_elim
    (λ (m : k < n). below k m)
    (λ (m : n ≤ k).
    let same : n ≡ k = omega (arith, l, m) in
    subst (λ (i : ℕ). goes_on (take i words) (slice_index_or words i []) ≡ true) same at)
    (cases_lt k n)

pub odd_at : (words : List (List ℕ)) (n : ℕ) → n < length words → GoOnBelow words n
    → goes_on (take n words) (slice_index_or words n []) ≡ false → Some n ≡ odd_place words
unfolding odd_place
odd_at words n within below at =
    sym (found_first (λ k. not (goes_on (take k words) (slice_index_or words k []))) 0 (length words) n (omega arith)
    (omega (arith, within)) (λ k l. ap not (below k l)) (ap not at))

pub none_odd : (words : List (List ℕ)) → GoOnBelow words (length words) → None ≡ odd_place words
unfolding odd_place
none_odd words below =
    sym (found_none (λ k. not (goes_on (take k words) (slice_index_or words k []))) 0 (length words)
    (λ k l. ap not (below k (omega (arith, l)))))

-- ---- the number of a qualifier

pub given_number : (test : Bool) (n m : ℕ) → Some n ≡ (if test then Some m else None) → (test ≡ true) × (n ≡ m)
given_number true n m e = (refl, cc)
given_number false n m e = absurd (cc)

pub number_found : (q : Qualifier) (words : List (List ℕ)) (word : List ℕ) → find (gives q) words ≡ Some word
    → number_of q word ≡ number_in q words
unfolding number_in
number_found q words word e = sym (ap (number_or (default_of q) q) e)

pub number_default : (q : Qualifier) (words : List (List ℕ)) → find (gives q) words ≡ None
    → default_of q ≡ number_in q words
unfolding number_in
number_default q words e = sym (ap (number_or (default_of q) q) e)

-- the first of the words that are left gives it
pub next_gives : {X : Type 0} (bytes : X → List ℕ) (q : Qualifier) (words : List X) (i : ℕ) (word : X)
    → i < length words → word ≡ slice_index_or words i word → gives q (bytes word) ≡ true
    → find (gives q) (map bytes (drop i words)) ≡ Some (bytes word)
next_gives bytes q words i word within is given =
    let at : find (gives q) (map bytes (drop i words)) ≡ find (gives q) (bytes word ∷ map bytes (drop (i + 1) words)) =
    at_drop_more (λ rest. find (gives q) (map bytes rest)) words i word within
    ∙ ap (λ x. find (gives q) (bytes x ∷ map bytes (drop (i + 1) words))) (sym is) in
    at ∙ cond-true (gives q (bytes word)) (Some (bytes word)) (find (gives q) (map bytes (drop (i + 1) words))) given

-- ---- its range

found_passes : {X : Type 0} (test : X → Bool) (xs : List X) (x : X) → find test xs ≡ Some x → test x ≡ true
found_passes test [] x e = absurd (cc)
found_passes test (y ∷ ys) x e =
    ⊎_elim
    (λ (t : test y ≡ true).
    let same : Some y ≡ Some x = sym (cond-true (test y) (Some y) (find test ys) t) ∙ e in
    let it : y ≡ x = cc in
    ap test (sym it) ∙ t)
    (λ (t : test y ≡ false). found_passes test ys x (sym (cond-false (test y) (Some y) (find test ys) t) ∙ e))
    (cases_Bool (test y))

default_allowed : (q : Qualifier) → allows q (default_of q) ≡ true
default_allowed Block = refl
default_allowed Key = refl
default_allowed Value = refl
default_allowed Alloc = refl
default_allowed Ext = refl
default_allowed Limit = refl

given_allowed : (q : Qualifier) (word : List ℕ) → gives q word ≡ true → allows q (number_of q word) ≡ true
unfolding gives
given_allowed q word given =
    (and_parts (is_named q word && is_number (text_of q word)) (allows q (number_of q word)) given).1

allowed_of : (q : Qualifier) (o : Option (List ℕ)) → ((word : List ℕ) → o ≡ Some word → gives q word ≡ true)
    → allows q (number_or (default_of q) q o) ≡ true
allowed_of q None given = default_allowed q
allowed_of q (Some word) given = given_allowed q word (given word refl)

pub number_allowed : (q : Qualifier) (words : List (List ℕ)) → allows q (number_in q words) ≡ true
unfolding number_in
number_allowed q words = allowed_of q (find (gives q) words) (found_passes (gives q) words)

pub allowed_at : (q : Qualifier) (words : List (List ℕ)) (n : ℕ) → n ≡ number_in q words → allows q n ≡ true
allowed_at q words n is = ap (allows q) is ∙ number_allowed q words

-- ---- the header

pub fit_at : (block key value alloc limit b k v a l : ℕ) → block ≡ b → key ≡ k → value ≡ v → alloc ≡ a → limit ≡ l
    → fit b k v a l ≡ true → fit block key value alloc limit ≡ true
fit_at block key value alloc limit b k v a l p q r s t fits =
    ap (λ n. fit n key value alloc limit) p ∙ ap (λ n. fit b n value alloc limit) q
    ∙ ap (λ n. fit b k n alloc limit) r ∙ ap (λ n. fit b k v n limit) s ∙ ap (λ n. fit b k v a n) t ∙ fits

pub within_limits : (h : Header) → allows Block h.block_size ≡ true → allows Key h.key_max ≡ true
    → allows Alloc h.total ≡ true → allows Ext h.extension ≡ true → allows Limit h.limit ≡ true
    → fit h.block_size h.key_max h.value_max h.total h.limit ≡ true → IsWithinLimits h
within_limits h block key alloc ext limit fits = record {
  block_multiple = grind (arith, nat_tests);
  block_from = grind (arith, nat_tests);
  block_to = grind (arith, nat_tests);
  limit_from = grind (arith, nat_tests);
  limit_to = grind (arith, nat_tests);
  total_from = grind (arith, nat_tests);
  total_to = grind (arith, nat_tests);
  extension_from = grind (arith, nat_tests);
  extension_to = grind (arith, nat_tests);
  key_from = grind (arith, nat_tests);
  key_to = grind (arith, nat_tests);
  keys_fit = grind (arith, nat_tests);
  value_fits = grind (arith, nat_tests);
}
