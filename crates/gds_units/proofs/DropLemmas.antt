-- Units up to a last one, as where a file ends with it.
use Rattle.std.proofs.Common.{◌≡◌, ℕ, ◌+◌, ◌-◌, ◌*◌, ◌<◌, ◌≤◌, ◌==◌, Bool, true, false, cond, List, [], ◌∷◌, ◌++◌}
use Rattle.std.proofs.Common.{length, take, drop, refl, sym, ap, subst, ◌∙◌, arith, length-append, length-take}
use Rattle.std.specs.Prelude.{All, filter, nat_le}
use Rattle.std.proofs.lemmas.Bool.{eqb-false, le-leb, leb-false, leb-true, ne_eqb}
use Rattle.std.proofs.lemmas.List.{take-append-le, take-take}
use Rattle.std.proofs.lemmas.List.Elements.{All-cons, All-filter, All-head, All-nil, All-tail, All-weaker}
use Rattle.std.proofs.lemmas.List.Elements.{filter_passes}
use Rattle.std.proofs.lemmas.Nat.{mul-le, row_fits}
use Rattle.host_model.specs.Disk.{written}
use Rattle.gds_header.specs.Fields.{file_length_of}
use Rattle.gds_header.specs.declared.header.Header.{Header}
use Rattle.gds_images.proofs.WrittenLemmas.{length-written_within}
use Rattle.gds_epoch.specs.Waiting.{LiesWithin, WaitingUnit, patched, place_of, size_of}
use Rattle.gds_units.specs.Keeping.{HasSize}
use Rattle.gds_units.proofs.PatchedLemmas.{patched_alike}
use Rattle.gds_units.proofs.UnitLemmas.{number_within}

abbrev pub up_to : ℕ → List WaitingUnit → List WaitingUnit
up_to last units = filter (λ w. nat_le w.unit last) units

-- ---- Numbers and places.

-- Up to the total a unit lies within the database, and above it behind.
pub within_total : (size total unit : ℕ) → unit ≤ total → place_of size unit + size_of size unit ≤ 8192 + total * size
within_total size total unit le = by_number (unit == 0) refl
  where
    by_number : (t : Bool) → (unit == 0) ≡ t → place_of size unit + size_of size unit ≤ 8192 + total * size
    by_number true zero = rw zero (omega arith)
    by_number false more =
        let some = eqb-false unit 0 more in
        let fits = row_fits (unit - 1) size total size (omega (arith, some, le)) (omega arith) in
        rw more (omega (arith, fits))

pub behind_total : (size total unit : ℕ) → total < unit → 8192 + total * size ≤ place_of size unit
behind_total size total unit less =
    let more : (unit == 0) ≡ false = ne_eqb unit 0 (λ e. omega (arith, e, less)) in
    let rows = mul-le total size (unit - 1) size (omega (arith, less)) (omega arith) in
    rw more (omega (arith, rows))

-- ---- The units up to a last one.

up_to_all : (last : ℕ) (units : List WaitingUnit) → All (λ (w : WaitingUnit). w.unit ≤ last) units
    → up_to last units ≡ units
up_to_all last [] below = refl
up_to_all last (x ∷ units) below =
    let P : WaitingUnit → Type 0 = λ w. w.unit ≤ last in
    let passes : nat_le x.unit last ≡ true = le-leb x.unit last (All-head P x units below) in
    ap (λ t. cond t (x ∷ up_to last units) (up_to last units)) passes
    ∙ ap (λ us. x ∷ us) (up_to_all last units (All-tail P x units below))

-- Those of a database with no greater total all stay.
pub up_to_same : (h : Header) (last : ℕ) (units : List WaitingUnit) → 0 < h.block_size → h.total ≤ last
    → All (LiesWithin h.block_size (file_length_of h)) units → up_to last units ≡ units
up_to_same h last units some le inside =
    up_to_all last units
    (All-weaker (LiesWithin h.block_size (file_length_of h)) (λ (w : WaitingUnit). w.unit ≤ last)
    (λ w lies. omega (arith, le, number_within h w some lies)) units inside)

pub up_to_inside : (size last n : ℕ) (units : List WaitingUnit) → n ≡ 8192 + last * size → All (HasSize size) units
    → All (LiesWithin size n) (up_to last units)
up_to_inside size last n units is_n sizes k d less =
    let p : WaitingUnit → Bool = λ w. nat_le w.unit last in
    let has = All-filter p (HasSize size) units sizes k d less in
    let passes = filter_passes p units k d less in
    let fits = within_total size last _ (leb-true _ last passes) in
    record { size = has; within = omega (arith, fits, has, is_n) }

-- ---- The file with them.

-- A write behind a front leaves it.
pub front_behind : (n at : ℕ) (bytes file : List ℕ) → n ≤ at → at ≤ length file
    → take n (written at bytes file) ≡ take n file
front_behind n at bytes file behind within =
    let front = take at file in
    let long : length front ≡ at = omega (arith, length-take at file, within) in
    take-append-le n (front ++ bytes) (drop (at + length bytes) file)
    (omega (arith, length-append front bytes, long, behind))
    ∙ take-append-le n front bytes (omega (arith, long, behind))
    ∙ take-take n at file behind

-- Those above the last one change nothing within the file that ends with it.
pub up_to_front : (size last n : ℕ) (units : List WaitingUnit) (a b : List ℕ) → n ≡ 8192 + last * size
    → length a ≡ length b → n ≤ length a → All (LiesWithin size (length a)) units → take n a ≡ take n b
    → take n (patched size (up_to last units) a) ≡ take n (patched size units b)
up_to_front size last n [] a b is_n long within inside same = same
up_to_front size last n (x ∷ units) a b is_n long within inside same =
    by_test (nat_le x.unit last) refl
    (up_to_front size last n units (written (place_of size x.unit) x.bytes a)
    (written (place_of size x.unit) x.bytes b) is_n
    (long_a ∙ long ∙ sym long_b) (omega (arith, within, long_a))
    (subst (λ m. All (LiesWithin size m) units) (sym long_a) others))
    (up_to_front size last n units a (written (place_of size x.unit) x.bytes b) is_n (long ∙ sym long_b) within others)
  where
    head : LiesWithin size (length a) x
    head = All-head (LiesWithin size (length a)) x units inside

    others : All (LiesWithin size (length a)) units
    others = All-tail (LiesWithin size (length a)) x units inside

    fits_b : place_of size x.unit + length x.bytes ≤ length b
    fits_b = omega (arith, head.within, long)

    long_a : length (written (place_of size x.unit) x.bytes a) ≡ length a
    long_a = length-written_within (place_of size x.unit) x.bytes a head.within

    long_b : length (written (place_of size x.unit) x.bytes b) ≡ length b
    long_b = length-written_within (place_of size x.unit) x.bytes b fits_b

    by_test : (t : Bool) → nat_le x.unit last ≡ t
        → (take n (written (place_of size x.unit) x.bytes a) ≡ take n (written (place_of size x.unit) x.bytes b)
        → take n (patched size (up_to last units) (written (place_of size x.unit) x.bytes a))
        ≡ take n (patched size units (written (place_of size x.unit) x.bytes b)))
        → (take n a ≡ take n (written (place_of size x.unit) x.bytes b)
        → take n (patched size (up_to last units) a)
        ≡ take n (patched size units (written (place_of size x.unit) x.bytes b)))
        → take n (patched size (cond t (x ∷ up_to last units) (up_to last units)) a)
        ≡ take n (patched size units (written (place_of size x.unit) x.bytes b))
    by_test true passes put dropped =
        let fits = within_total size last x.unit (leb-true x.unit last passes) in
        let here : LiesWithin size n x =
        record { size = head.size; within = omega (arith, fits, head.size, is_n) } in
        put (patched_alike size n (x ∷ []) a b (All-cons (LiesWithin size n) x [] here (All-nil (LiesWithin size n)))
        within (omega (arith, within, long)) same)
    by_test false fails put dropped =
        let above : last < x.unit = leb-false x.unit last fails in
        dropped (same ∙ sym (front_behind n (place_of size x.unit) x.bytes b
        (omega (arith, is_n, behind_total size last x.unit above)) (omega (arith, fits_b))))
