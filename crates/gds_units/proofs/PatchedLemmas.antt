-- The front of a database file with units in their places.
use Rattle.std.proofs.Common.{◌≡◌, ℕ, ◌+◌, ◌<◌, ◌≤◌, List, [], ◌∷◌, ◌++◌, length, take, drop}
use Rattle.std.proofs.Common.{append_assoc, length-append}
use Rattle.std.proofs.Common.{refl, sym, ap, ◌∙◌, ⊎_elim, arith, lit≤, length-take, get_or-take}
use Rattle.std.specs.Prelude.{All}
use Rattle.std.proofs.lemmas.Bool.{cases_lt}
use Rattle.std.proofs.lemmas.List.{drop-append-le, ext_get_or, take-append-le, take-take}
use Rattle.std.proofs.lemmas.Slice.{drop-append-drop}
use Rattle.std.proofs.lemmas.List.Elements.{All-head, All-tail}
use Rattle.host_model.specs.Disk.{written}
use Rattle.gds_header.specs.Fields.{fields_of, file_length_of, image_length}
use Rattle.gds_header.specs.declared.header.Header.{Header}
use Rattle.gds_header.proofs.EndingLemmas.{fields_of-front}
use Rattle.host_model.proofs.FileLemmas.{written-before}
use Rattle.gds_images.proofs.WrittenLemmas.{length-written_within, written_behind, written_within}
use Rattle.gds_epoch.specs.Epoch.{database_of}
use Rattle.gds_epoch.specs.Waiting.{LiesWithin, WaitingUnit, patched, place_of}

-- A write within the front of a file is one over that front.
take-written : (n at : ℕ) (bytes file : List ℕ) → at + length bytes ≤ n → n ≤ length file
    → take n (written at bytes file) ≡ written at bytes (take n file)
take-written n at bytes file within long =
    let whole = length-written_within at bytes file (omega (arith, within, long)) in
    let front : length (take n file) ≡ n = omega (arith, length-take n file, long) in
    let short = length-written_within at bytes (take n file) (omega (arith, within, front)) in
    ext_get_or 0 (take n (written at bytes file)) (written at bytes (take n file))
    (omega (arith, length-take n (written at bytes file), whole, long, short, front))
    (λ i less.
    let here : i < n = omega (arith, less, length-take n (written at bytes file)) in
    get_or-take n (written at bytes file) i 0 here
    ∙ ⊎_elim
    (λ (before : i < at).
    written-before at bytes file i (omega (arith, here, long)) before
    ∙ sym (get_or-take n file i 0 here)
    ∙ sym (written-before at bytes (take n file) i (omega (arith, here, front)) before))
    (λ (from : at ≤ i). ⊎_elim
    (λ (inside : i < at + length bytes).
    written_within at bytes file i (omega (arith, within, long)) from inside
    ∙ sym (written_within at bytes (take n file) i (omega (arith, within, front)) from inside))
    (λ (behind : at + length bytes ≤ i).
    written_behind at bytes file i (omega (arith, within, long)) behind
    ∙ sym (get_or-take n file i 0 here)
    ∙ sym (written_behind at bytes (take n file) i (omega (arith, within, front)) behind))
    (cases_lt i (at + length bytes)))
    (cases_lt i at))

-- So it is with units.
pub take-patched : (size n : ℕ) (units : List WaitingUnit) (file : List ℕ) → All (LiesWithin size n) units
    → n ≤ length file → take n (patched size units file) ≡ patched size units (take n file)
take-patched size n [] file inside long = refl
take-patched size n (x ∷ units) file inside long =
    let is = All-head (LiesWithin size n) x units inside in
    let file' = written (place_of size x.unit) x.bytes file in
    take-patched size n units file' (All-tail (LiesWithin size n) x units inside)
    (omega (
      arith,
      long,
      is.within,
      length-written_within (place_of size x.unit) x.bytes file
          (omega (arith, is.within, long)),
    ))
    ∙ ap (patched size units) (take-written n (place_of size x.unit) x.bytes file is.within long)

-- Units within the front of two files that begin alike leave them so.
pub patched_alike : (size n : ℕ) (units : List WaitingUnit) (a b : List ℕ) → All (LiesWithin size n) units
    → n ≤ length a → n ≤ length b → take n a ≡ take n b → take n (patched size units a) ≡ take n (patched size units b)
patched_alike size n units a b inside long_a long_b same =
    take-patched size n units a inside long_a ∙ ap (patched size units) same
    ∙ sym (take-patched size n units b inside long_b)

-- Files that begin alike have one header.
pub same_fields : (n : ℕ) (a b : List ℕ) → 8192 ≤ n → take n a ≡ take n b → fields_of a ≡ fields_of b
same_fields n a b header same =
    sym (fields_of-front 8192 a (lit≤ tt)) ∙ ap fields_of (sym (take-take 8192 n a header))
    ∙ ap (λ f. fields_of (take 8192 f)) same
    ∙ ap fields_of (take-take 8192 n b header) ∙ fields_of-front 8192 b (lit≤ tt)

-- and one database, where they are as long as it is
pub same_database : (h : Header) (a b : List ℕ) → fields_of a ≡ h
    → take (file_length_of h) a ≡ take (file_length_of h) b
    → (fields_of b ≡ h) × (database_of b ≡ database_of a)
same_database h a b is same =
    let fields : fields_of b ≡ fields_of a =
    sym (same_fields (file_length_of h) a b (omega arith) same) in
    let long : image_length a ≡ file_length_of h = ap file_length_of is in (
      fields ∙ is,
      ap (λ n. take n b) (ap file_length_of (fields ∙ is)) ∙ sym same ∙ ap (λ n. take n a) (sym long),
    )

-- A front of a file is as long as it should be where it has been found alike.
pub front_long : (n : ℕ) (a b : List ℕ) → n ≤ length a → take n b ≡ take n a → n ≤ length b
front_long n a b long same = omega (arith, length-take n a, length-take n b, ap length same, long)

-- ---- A write behind the units.

-- A write into the first of two parts.
written-front : (at : ℕ) (bytes front rest : List ℕ) → at + length bytes ≤ length front
    → written at bytes (front ++ rest) ≡ written at bytes front ++ rest
written-front at bytes front rest fits =
    ap (λ xs. xs ++ bytes ++ drop (at + length bytes) (front ++ rest))
    (take-append-le at front rest (omega (arith, fits)))
    ∙ ap (λ xs. take at front ++ bytes ++ xs) (drop-append-le (at + length bytes) front rest fits)
    ∙ sym (append_assoc (take at front ++ bytes) (drop (at + length bytes) front) rest)

-- What is behind it stays.
pub drop-written : (k at : ℕ) (bytes file : List ℕ) → at + length bytes ≤ k → at + length bytes ≤ length file
    → drop k (written at bytes file) ≡ drop k file
drop-written k at bytes file behind fits =
    drop-append-drop (at + length bytes) file (take at file ++ bytes) k behind
    (omega (arith, length-append (take at file) bytes, length-take at file, fits))

-- Two writes of which the second is behind the first, and may make the file longer.
written-behind-written : (at from : ℕ) (bytes more file : List ℕ) → at + length bytes ≤ from → from ≤ length file
    → written at bytes (written from more file) ≡ written from more (written at bytes file)
written-behind-written at from bytes more file before fits =
    let front = take from file in
    let rest = drop (from + length more) file in
    let long : length front ≡ from = omega (arith, length-take from file, fits) in
    ap (written at bytes) (append_assoc front more rest)
    ∙ written-front at bytes front (more ++ rest) (omega (arith, before, long))
    ∙ sym (append_assoc (written at bytes front) more rest)
    ∙ ap (λ xs. xs ++ more ++ rest) (sym (take-written from at bytes file before fits))
    ∙ ap (λ xs. take from (written at bytes file) ++ more ++ xs)
    (sym (drop-written (from + length more) at bytes file (omega (arith, before)) (omega (arith, before, fits))))

-- Units stand in front of what is written behind them.
pub patched-written : (size n from : ℕ) (units : List WaitingUnit) (more file : List ℕ) → All (LiesWithin size n) units
    → n ≤ from → from ≤ length file
    → patched size units (written from more file) ≡ written from more (patched size units file)
patched-written size n from [] more file inside le fits = refl
patched-written size n from (x ∷ units) more file inside le fits =
    let is = All-head (LiesWithin size n) x units inside in
    let at = place_of size x.unit in
    let long = length-written_within at x.bytes file (omega (arith, is.within, le, fits)) in
    ap (patched size units) (written-behind-written at from x.bytes more file (omega (arith, is.within, le)) fits)
    ∙ patched-written size n from units more (written at x.bytes file) (All-tail (LiesWithin size n) x units inside) le
    (omega (arith, long, fits))
