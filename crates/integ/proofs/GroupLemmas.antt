-- The faults of the pairs of a group, place by place, and how many of its blocks are free.
use Rattle.std.proofs.Common.{ℕ, zero, suc, ◌≡◌, ◌+◌, ◌-◌, ◌*◌, ◌/◌, ◌%◌, ◌<◌, ◌≤◌, Bool, true, false, eqb, List}
use Rattle.std.proofs.Common.{[], ◌∷◌, ◌++◌, length, refl, sym, ◌∙◌, ap, arith, add-zero}
use Rattle.std.specs.Prelude.{flat_map, map, filter, min, nat_lt, slice_index, ◌&&◌, if◌then◌else◌, Option}
use Rattle.std.specs.Option.{option_to_list}
use Rattle.std.specs.List.{range_with_len}
use Rattle.std.specs.Int.{bit_at}
use Rattle.std.proofs.lemmas.Bool.{lt-ltb, le-ltb}
use Rattle.gds_bitmap.specs.Pairs.{pair_in, count_below}
use Rattle.gds_bitmap.specs.Bitmap.{pair_of, is_free_at}
use Rattle.gds_bitmap.proofs.CountLemmas.{count_below-add, count_below-same}
use Rattle.gds_law.specs.Maps.{map_number, is_present, fault_of}
use Rattle.gds_law.specs.Kinds.{map_kinds}
use Rattle.gds_law.specs.declared.kind.FaultKind.{FaultKind}
use Rattle.gds_law.specs.declared.kind.FaultKind.TheVariants.{BadVersion, TransactionTooNew, MapUsedTooSmall}
use Rattle.gds_law.specs.declared.kind.FaultKind.TheVariants.{MapUsedTooLarge, MapLevel, GroupMarkedFree}
use Rattle.gds_law.specs.declared.kind.FaultKind.TheVariants.{GroupMarkedFull}
use Rattle.std.proofs.lemmas.Grind.{flat_map-append}
use Rattle.integ.specs.Standing.{standing}
use Rattle.integ.proofs.StandingLemmas.{standing-filter}
use Rattle.integ.specs.GroupMap.{GroupMap, in_use, free_count, kinds_of_pair, kinds_at, faults_at, faults_in}
use Rattle.integ.specs.GroupMap.{head_holds, head_kinds, AreRight}

-- ---- numbers one after another

range-add : (a m n : ℕ) → range_with_len a (m + n) ≡ range_with_len a m ++ range_with_len (a + m) n
range-add a zero n =
    let none : zero + n ≡ n = omega arith in
    let here : a + zero ≡ a = omega arith in
    λ i. range_with_len (sym here i) (none i)
range-add a (suc m) n =
    let more : suc m + n ≡ suc (m + n) = omega arith in
    let place : (a + 1) + m ≡ a + suc m = omega arith in
    ap (range_with_len a) more
    ∙ ap (λ xs. a ∷ xs) (range-add (a + 1) m n ∙ ap (λ b. range_with_len (a + 1) m ++ range_with_len b n) place)

module _ {B : Type 0} (f : ℕ → List B) where
  flat-none : (n a : ℕ) → ((k : ℕ) → a ≤ k → k < a + n → f k ≡ []) → flat_map f (range_with_len a n) ≡ []
  flat-none zero a h = refl
  flat-none (suc n) a h =
      ap (λ xs. xs ++ flat_map f (range_with_len (a + 1) n)) (h a (omega arith) (omega arith))
      ∙ flat-none n (a + 1) (λ k low high. h k (omega arith) (omega arith))

-- those up to an end: so many of them, and the others
pub faults_in-run : (g : GroupMap) (a m e : ℕ) → a + m ≤ e
    → faults_in g a (e - a) ≡ faults_in g a m ++ faults_in g (a + m) (e - (a + m))
unfolding faults_in
faults_in-run g a m e within =
    let parts : e - a ≡ m + (e - (a + m)) = omega arith in
    ap (λ n. flat_map (faults_at g) (range_with_len a n)) parts
    ∙ ap (flat_map (faults_at g)) (range-add a m (e - (a + m)))
    ∙ flat_map-append (faults_at g) (range_with_len a m) (range_with_len (a + m) (e - (a + m)))

-- the next one
pub faults_in-next : (g : GroupMap) (a e : ℕ) → a < e
    → faults_in g a (e - a) ≡ faults_at g a ++ faults_in g (a + 1) (e - (a + 1))
unfolding faults_in
faults_in-next g a e within =
    let parts : e - a ≡ suc (e - (a + 1)) = omega arith in
    ap (λ n. flat_map (faults_at g) (range_with_len a n)) parts

-- none are left
pub faults_in-end : (g : GroupMap) (a e : ℕ) → e ≤ a → faults_in g a (e - a) ≡ []
unfolding faults_in
faults_in-end g a e past =
    let none : e - a ≡ 0 = omega arith in
    ap (λ n. flat_map (faults_at g) (range_with_len a n)) none

-- the next four
pub faults_in-four : (g : GroupMap) (i : ℕ) → i < 128
    → faults_in g (4 * i) (512 - 4 * i) ≡ faults_in g (4 * i) 4 ++ faults_in g (4 * (i + 1)) (512 - 4 * (i + 1))
faults_in-four g i within =
    let place : 4 * i + 4 ≡ 4 * (i + 1) = omega arith in
    faults_in-run g (4 * i) 4 512 (omega arith) ∙ ap (λ a. faults_in g (4 * i) 4 ++ faults_in g a (512 - a)) place

pub faults_at-is : (g : GroupMap) (k : ℕ) (found : Option FaultKind) → option_to_list found ≡ kinds_at g k
    → faults_at g k ≡ map (fault_of (map_number g.number + k)) (option_to_list found)
faults_at-is g k found is = ap (map (fault_of (map_number g.number + k))) (sym is)

-- ---- four pairs at once

pair_of-byte : (map : List ℕ) (i j : ℕ) → j < 4 → pair_of map (4 * i + j) ≡ pair_in (slice_index map (16 + i)) j
pair_of-byte map i j h =
    let byte : (4 * i + j) / 4 ≡ i = omega arith in
    let place : (4 * i + j) % 4 ≡ j = omega arith in
    rw (byte, place) refl

-- Nothing is told of a byte whose four pairs are right.
pub four-none : (g : GroupMap) (i byte used : ℕ) → 512 * g.number + (4 * i + 4) ≤ g.header.total
    → byte ≡ slice_index g.bytes (16 + i)
    → ((j : ℕ) → j < 4 → eqb (bit_at used j) 1 ≡ in_use g.used (map_number g.number + (4 * i + j)))
    → AreRight byte used → faults_in g (4 * i) 4 ≡ []
unfolding faults_in
four-none g i byte used whole is bits right = flat-none (faults_at g) 4 (4 * i) each
  where
    each : (k : ℕ) → 4 * i ≤ k → k < 4 * i + 4 → faults_at g k ≡ []
    each k low high =
        let j = k - 4 * i in
        let within : j < 4 = omega arith in
        let place : k ≡ 4 * i + j = omega arith in
        let present : is_present g.header g.number k ≡ true = lt-ltb _ _ (omega arith) in
        let marked : in_use g.used (map_number g.number + k) ≡ eqb (bit_at used j) 1 =
        ap (λ m. in_use g.used (map_number g.number + m)) place ∙ sym (bits j within) in
        let pair : pair_of g.bytes k ≡ pair_in byte j =
        ap (pair_of g.bytes) place ∙ pair_of-byte g.bytes i j within ∙ ap (λ b. pair_in b j) (sym is) in
        ap (map (fault_of (map_number g.number + k))) ((λ m. kinds_of_pair (present m) (marked m) (pair m))
        ∙ right j within)

-- ---- how many are free

count-range : (p : ℕ → Bool) (a n : ℕ) → length (filter p (range_with_len a n)) ≡ count_below (λ j. p (a + j)) n
count-range p a zero = refl
count-range p a (suc n) =
    let split = count_below-add (λ j. p (a + j)) 1 n in
    let more : 1 + n ≡ suc n = omega arith in
    let here : a + 0 ≡ a = omega arith in
    length-cond (p a) (filter p (range_with_len (a + 1) n)) a
    ∙ (λ i. (if p (sym here i) then 1 else 0) + (count-range p (a + 1) n
    ∙ count_below-same (λ j. p ((a + 1) + j)) (λ j. p (a + (1 + j))) n
    (λ j l. let e : (a + 1) + j ≡ a + (1 + j) = omega arith in ap p e)) i)
    ∙ sym (split ∙ ap (λ m. m + count_below (λ j. p (a + (1 + j))) n) (count-one (λ j. p (a + j))))
    ∙ ap (count_below (λ j. p (a + j))) more
  where
    count-one : (q : ℕ → Bool) → count_below q 1 ≡ (if q 0 then 1 else 0)
    count-one q = omega arith

    length-cond : (b : Bool) (xs : List ℕ) (x : ℕ)
        → length (if b then x ∷ xs else xs) ≡ (if b then 1 else 0) + length xs
    length-cond true xs x = omega arith
    length-cond false xs x = omega arith

count-none : (p : ℕ → Bool) (n : ℕ) → ((j : ℕ) → j < n → p j ≡ false) → count_below p n ≡ 0
count-none p zero h = refl
count-none p (suc n) h = (λ i. count-none p n (λ j l. h j (omega arith)) i + (if h n (omega arith) i then 1 else 0))

-- Of the blocks below a bound those below the total are counted.
count-present : (p : ℕ → Bool) (first total bound present : ℕ) → present ≡ min bound (total - first)
    → count_below (λ k. nat_lt (first + k) total && p k) bound ≡ count_below p present
count-present p first total bound present is =
    let q = λ (k : ℕ). nat_lt (first + k) total && p k in
    let parts : bound ≡ present + (bound - present) = omega arith in
    ap (count_below q) parts
    ∙ count_below-add q present (bound - present)
    ∙ (λ i. count_below-same q p present (λ k l. ap (λ b. b && p k) (lt-ltb (first + k) total (omega arith))) i
    + count-none (λ j. q (present + j)) (bound - present)
    (λ j l. ap (λ b. b && p (present + j)) (le-ltb (first + (present + j)) total (omega arith))) i)
    ∙ add-zero (count_below p present)

free-any : (g : GroupMap) (bound present : ℕ) → present ≡ min bound (g.header.total - 512 * g.number)
    → length (filter (λ k. is_present g.header g.number k && is_free_at g.bytes k) (range_with_len 0 bound))
    ≡ count_below (is_free_at g.bytes) present
free-any g bound present is =
    let q = λ (k : ℕ). is_present g.header g.number k && is_free_at g.bytes k in
    count-range q 0 bound
    ∙ count_below-same (λ j. q (0 + j)) q bound (λ j l. let e : 0 + j ≡ j = omega arith in ap q e)
    ∙ count-present (is_free_at g.bytes) (map_number g.number) g.header.total bound present is

pub free-is : (g : GroupMap) (present : ℕ) → present ≡ min 512 (g.header.total - 512 * g.number)
    → count_below (is_free_at g.bytes) present ≡ free_count g
unfolding free_count
free-is g present is = sym (free-any g 512 present is)

-- ---- the head

pub head-is : (g : GroupMap) (version tn small large level free full : Bool)
    → version ≡ head_holds g BadVersion → tn ≡ head_holds g TransactionTooNew → small ≡ head_holds g MapUsedTooSmall
    → large ≡ head_holds g MapUsedTooLarge → level ≡ head_holds g MapLevel → free ≡ head_holds g GroupMarkedFree
    → full ≡ head_holds g GroupMarkedFull
    → standing ((BadVersion, version) ∷ (TransactionTooNew, tn) ∷ (MapUsedTooSmall, small) ∷ (MapUsedTooLarge, large)
    ∷ (MapLevel, level) ∷ (GroupMarkedFree, free) ∷ (GroupMarkedFull, full) ∷ [])
    ≡ head_kinds g
unfolding head_kinds
head-is g version tn small large level free full a b c d e f h =
    (λ i. standing ((BadVersion, a i) ∷ (TransactionTooNew, b i) ∷ (MapUsedTooSmall, c i) ∷ (MapUsedTooLarge, d i)
    ∷ (MapLevel, e i) ∷ (GroupMarkedFree, f i) ∷ (GroupMarkedFull, h i) ∷ []))
    ∙ standing-filter (head_holds g) map_kinds
