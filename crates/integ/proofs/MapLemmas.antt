-- The maps of a file that tells its bytes, group by group.
use Rattle.std.proofs.Common.{ℕ, zero, suc, ◌≡◌, ◌+◌, ◌-◌, ◌*◌, ◌/◌, ◌<◌, ◌≤◌, true, false, cond, List, [], ◌∷◌}
use Rattle.std.proofs.Common.{◌++◌, length, Option, Some, IfSome, refl, sym, ◌∙◌, ap, subst, arith}
use Rattle.std.proofs.Common.{length-append}
use Rattle.std.specs.Prelude.{flat_map, map, filter, not, nat_lt, ◌&&◌, ◌==◌}
use Rattle.std.specs.List.{range_with_len}
use Rattle.std.specs.Int.{div_ceil}
use Rattle.std.proofs.lemmas.Bool.{eq-eqb, ne_eqb}
use Rattle.host_model.specs.Units.{IsUnit, unit_bytes}
use Rattle.gds_header.specs.declared.header.Header.{Header}
use Rattle.gds_header.specs.Fields.{fields_of}
use Rattle.gds_header.specs.Kinds.{groups_of, has_free}
use Rattle.gds_law.specs.Kinds.{map_kinds, pair_kinds}
use Rattle.gds_law.specs.Maps.{map_number, map_of, places, fault_of, free_places, free_blocks, group_faults}
use Rattle.gds_law.specs.Maps.{map_faults, count_faults}
use Rattle.gds_law.specs.Maps as law
use Rattle.gds_law.specs.declared.kind.FaultKind.{FaultKind}
use Rattle.gds_law.specs.declared.kind.FaultKind.TheVariants.{BadVersion, TransactionTooNew, MapUsedTooSmall}
use Rattle.gds_law.specs.declared.kind.FaultKind.TheVariants.{MapUsedTooLarge, MapLevel, GroupMarkedFree}
use Rattle.gds_law.specs.declared.kind.FaultKind.TheVariants.{GroupMarkedFull, IllegalPair, UsedMarkedFree}
use Rattle.gds_law.specs.declared.kind.FaultKind.TheVariants.{UnusedMarkedBusy, PairPastTotal, WrongFreeCount}
use Rattle.integ.specs.GroupMap.{GroupMap, in_use, free_count, head_holds, head_kinds, head_faults, pair_holds}
use Rattle.integ.specs.GroupMap.{kinds_of_pair, faults_at, faults_in, faults_of}
use Rattle.integ_walk.specs.Walk.{IsHeaderOf}
use Rattle.integ.specs.Maps.{groups_in, free_before}
use Rattle.gds_law.proofs.UnitLemmas.{unit_is}
use Rattle.integ_walk.proofs.UnitLemmas.{is_unit}

-- the map of a group of a file
abbrev pub group_of : List ℕ → List ℕ → ℕ → GroupMap
group_of file used number = record { header = fields_of file; number = number; bytes = map_of file number; used = used }

-- ---- a group's faults by its map alone

free-same : (file used : List ℕ) (number : ℕ)
    → length (free_places file number) ≡ free_count (group_of file used number)
unfolding free_count
free-same file used number = refl

head-same : (file used : List ℕ) (number : ℕ)
    → map (fault_of (map_number number)) (filter (law.map_holds file number) map_kinds)
    ≡ head_faults (group_of file used number)
unfolding head_kinds
head-same file used number = λ i. map (fault_of (map_number number)) (filter (λ kind. same kind i) map_kinds)
  where
    same : (kind : FaultKind) → law.map_holds file number kind ≡ head_holds (group_of file used number) kind
    same BadVersion = refl
    same TransactionTooNew = refl
    same MapUsedTooSmall = refl
    same MapUsedTooLarge = refl
    same MapLevel = refl
    same GroupMarkedFree = ap (λ n. has_free (fields_of file) number && not (nat_lt 0 n)) (free-same file used number)
    same GroupMarkedFull = ap (λ n. not (has_free (fields_of file) number) && nat_lt 0 n) (free-same file used number)
    same kind = refl

pair-same : (file used : List ℕ) (number k : ℕ) → law.pair_faults file (in_use used) number k
    ≡ faults_at (group_of file used number) k
unfolding kinds_of_pair
pair-same file used number k = λ i. map (fault_of (map_number number + k)) (filter (λ kind. same kind i) pair_kinds)
  where
    same : (kind : FaultKind)
        → law.pair_holds file (in_use used) number k kind
        ≡ pair_holds (law.is_present (fields_of file) number k) (in_use used (map_number number + k))
        (Rattle.gds_bitmap.specs.Bitmap.pair_of (map_of file number) k) kind
    same IllegalPair = refl
    same UsedMarkedFree = refl
    same UnusedMarkedBusy = refl
    same PairPastTotal = refl
    same kind = refl

pub group-same : (file used : List ℕ) (number : ℕ) → group_faults file (in_use used) number
    ≡ faults_of (group_of file used number)
unfolding faults_in
group-same file used number = λ i. head-same file used number i ++ flat_map (λ k. pair-same file used number k i) places

-- ---- group after group

range-next : (a e : ℕ) → a < e → range_with_len a (e - a) ≡ a ∷ range_with_len (a + 1) (e - (a + 1))
range-next a e within =
    let more : e - a ≡ suc (e - (a + 1)) = omega arith in
    ap (range_with_len a) more

pub groups_in-next : (file used : List ℕ) (a e : ℕ) → a < e
    → groups_in file used a (e - a) ≡ faults_of (group_of file used a) ++ groups_in file used (a + 1) (e - (a + 1))
unfolding groups_in
groups_in-next file used a e within =
    ap (flat_map (group_faults file (in_use used))) (range-next a e within)
    ∙ ap (λ xs. xs ++ flat_map (group_faults file (in_use used)) (range_with_len (a + 1) (e - (a + 1))))
    (group-same file used a)

pub groups_in-end : (file used : List ℕ) (a e : ℕ) → e ≤ a → groups_in file used a (e - a) ≡ []
unfolding groups_in
groups_in-end file used a e past =
    let none : e - a ≡ 0 = omega arith in
    ap (λ n. flat_map (group_faults file (in_use used)) (range_with_len a n)) none

pub groups_in-all : (file used : List ℕ) (e : ℕ) → e ≡ groups_of (fields_of file)
    → groups_in file used 0 (e - 0) ≡ map_faults file (in_use used)
unfolding groups_in map_faults
groups_in-all file used e is =
    let all : e - 0 ≡ groups_of (fields_of file) = omega (arith, is) in
    ap (λ n. flat_map (group_faults file (in_use used)) (range_with_len 0 n)) all

-- ---- the free blocks

range-last : (a n : ℕ) → range_with_len a (n + 1) ≡ range_with_len a n ++ (a + n) ∷ []
range-last a zero = let here : a + 0 ≡ a = omega arith in let one : 0 + 1 ≡ 1 = omega arith in
    ap (range_with_len a) one ∙ ap (λ m. m ∷ []) (sym here)
range-last a (suc n) =
    let more : suc n + 1 ≡ suc (n + 1) = omega arith in
    let place : (a + 1) + n ≡ a + suc n = omega arith in
    ap (range_with_len a) more
    ∙ ap (λ xs. a ∷ xs) (range-last (a + 1) n ∙ ap (λ m. range_with_len (a + 1) n ++ m ∷ []) place)

flat_map-last : {A B : Type 0} (f : A → List B) (xs : List A) (y : A)
    → length (flat_map f (xs ++ y ∷ [])) ≡ length (flat_map f xs) + length (f y)
flat_map-last f [] y = omega (arith, length-append (f y) [])
flat_map-last f (x ∷ xs) y =
    omega (
      arith,
      length-append (f x) (flat_map f (xs ++ y ∷ [])),
      length-append (f x) (flat_map f xs),
      flat_map-last f xs y,
    )

pub free_before-none : (file : List ℕ) → free_before file 0 ≡ 0
unfolding free_before
free_before-none file = refl

pub free_before-next : (file used : List ℕ) (n : ℕ)
    → free_before file (n + 1) ≡ free_before file n + free_count (group_of file used n)
unfolding free_before
free_before-next file used n =
    let here : 0 + n ≡ n = omega arith in
    ap (λ xs. length (flat_map (free_places file) xs)) (range-last 0 n)
    ∙ flat_map-last (free_places file) (range_with_len 0 n) (0 + n)
    ∙ ap (λ m. length (flat_map (free_places file) (range_with_len 0 n)) + length (free_places file m)) here
    ∙ ap (λ m. length (flat_map (free_places file) (range_with_len 0 n)) + m) (free-same file used n)

pub free_before-all : (file : List ℕ) (e : ℕ) → e ≡ groups_of (fields_of file) → free_before file e ≡ free_blocks file
unfolding free_before free_blocks
free_before-all file e is = ap (λ n. length (flat_map (free_places file) (range_with_len 0 n))) is

-- ---- a map as a unit

-- The file has the map of a group whose first block it has.
pub map-unit : (h : Header) (file : List ℕ) → IsHeaderOf h file → (number : ℕ) → 512 * number < h.total → (n : ℕ)
    → n ≡ h.block_size → IsUnit file (512 * number + 1) n
map-unit h file is number within n this =
    is_unit file (512 * number) n is.readable (subst (λ (k : Header). 512 * number < k.total) is.same within)
    (this ∙ ap (λ (k : Header). k.block_size) is.same)

-- The map that was read is that of the group.
pub group-here : (h : Header) (file used bytes : List ℕ) (number : ℕ) → IsHeaderOf h file
    → bytes ≡ unit_bytes file (512 * number + 1)
    → group_of file used number ≡ record { header = h; number = number; bytes = bytes; used = used }
group-here h file used bytes number is read =
    let b = sym (read ∙ unit_is file (512 * number)) in
    λ i. record { header = sym is.same i; number = number; bytes = b i; used = used }

pub groups-is : (h : Header) (file : List ℕ) (n : ℕ) → IsHeaderOf h file → n ≡ div_ceil h.total 512
    → n ≡ groups_of (fields_of file)
groups-is h file n is e =
    let ceil : div_ceil h.total 512 ≡ (h.total + 511) / 512 = omega arith in
    e ∙ ceil ∙ ap groups_of is.same

pub some_at : {A : Type 0} (told : Option A) (P : A → Type 0) (x : A) → told ≡ Some x → IfSome told P → P x
some_at {A} told P x tells known = let Q : Option A → Type 0 = λ o. IfSome o P in subst Q tells known

-- ---- the free count

pub count-right : (h : Header) (file : List ℕ) (free : ℕ) → IsHeaderOf h file → free ≡ free_blocks file
    → free ≡ h.free → count_faults file ≡ []
count-right h file free is all same =
    let right : ((fields_of file).free == free_blocks file) ≡ true =
    eq-eqb _ _ (ap (λ (k : Header). k.free) (sym is.same) ∙ sym same ∙ all) in
    ap (λ b. cond b [] (fault_of 0 WrongFreeCount ∷ [])) right

pub count-wrong : (h : Header) (file : List ℕ) (free : ℕ) → IsHeaderOf h file → free ≡ free_blocks file
    → (free ≡ h.free → ⊥) → count_faults file ≡ fault_of 0 WrongFreeCount ∷ []
count-wrong h file free is all other =
    let wrong : ((fields_of file).free == free_blocks file) ≡ false =
    ne_eqb _ _ (λ e. other (all ∙ sym e ∙ ap (λ (k : Header). k.free) (sym is.same))) in
    ap (λ b. cond b [] (fault_of 0 WrongFreeCount ∷ [])) wrong
