-- The units of a database file with waiting units in their places.
use Rattle.std.proofs.Common.{◌≡◌, ◌≢◌, ℕ, ◌+◌, ◌-◌, ◌*◌, ◌<◌, ◌≤◌, ◌==◌, Bool, true, false, List, [], ◌∷◌, ◌++◌}
use Rattle.std.proofs.Common.{length}
use Rattle.std.proofs.Common.{take, drop, None, Some, refl, sym, ap, subst, ◌∙◌, ⊎_elim, arith, append_assoc}
use Rattle.std.proofs.Common.{length-append, length-take}
use Rattle.std.specs.Prelude.{All}
use Rattle.std.proofs.lemmas.Bool.{cases_lt, eqb-false, eqb-true, cond-true, cond-false, ne_eqb}
use Rattle.std.proofs.lemmas.List.{drop-take, take-append-le, take-take}
use Rattle.std.proofs.lemmas.List.Elements.{All-cons, All-head, All-nil, All-tail}
use Rattle.std.proofs.Math.Nat.{mul-le-mul_right}
use Rattle.std.proofs.Math.Seq.{drop-append_seam, take-append_seam}
use Rattle.host_model.specs.Disk.{written}
use Rattle.host_model.specs.Units.{IsUnit, block_length, unit_bytes, unit_length, unit_place}
use Rattle.gds_law.proofs.UnitLemmas.{block_length-is}
use Rattle.gds_header.specs.Fields.{fields_of, file_length_of, image_length}
use Rattle.gds_header.specs.declared.header.Header.{Header}
use Rattle.gds_images.proofs.WrittenLemmas.{length-written_within}
use Rattle.gds_epoch.specs.Epoch.{database_of}
use Rattle.gds_epoch.specs.Waiting.{IsRising, LiesWithin, WaitingUnit, patched, place_of, size_of, waiting_bytes}
use Rattle.gds_epoch.proofs.PatchLemmas.{placed, rising_first, rising_others, units_apart}
use Rattle.gds_units.proofs.DurableLemmas.{some_same}
use Rattle.gds_units.proofs.PatchedLemmas.{drop-written}

-- ---- How many units there may be.

-- A unit that lies within a file is none behind its last block.
pub number_within : (h : Header) (w : WaitingUnit) → 0 < h.block_size → LiesWithin h.block_size (file_length_of h) w
    → w.unit ≤ h.total
number_within h w some is = ⊎_elim
    (λ (past : h.total < w.unit).
    let not_front : (w.unit == 0) ≡ false = ne_eqb w.unit 0 (λ e. omega (arith, e, past)) in
    let size : length w.bytes ≡ h.block_size = is.size ∙ cond-false (w.unit == 0) _ _ not_front in
    let place : place_of h.block_size w.unit ≡ 8192 + (w.unit - 1) * h.block_size =
    cond-false (w.unit == 0) _ _ not_front in
    absurd (omega (arith, is.within, size, place, some, mul-le-mul_right h.block_size (before h.total w.unit past))))
    (λ (within : w.unit ≤ h.total). within) (cases_lt h.total w.unit)
  where
    before : (a b : ℕ) → a < b → a ≤ b - 1
    before a b less = omega (arith, less)

-- Rising units from a number on, of which none is above another number, are no more than fit between.
pub rising_count : (from last : ℕ) (units : List WaitingUnit) → from ≤ last + 1 → IsRising units
    → All (λ (w : WaitingUnit). from ≤ w.unit) units → All (λ (w : WaitingUnit). w.unit ≤ last) units
    → length units + from ≤ last + 1
rising_count from last [] room rising above below = omega (arith, room)
rising_count from last (x ∷ units) room rising above below =
    let first = All-head (λ (w : WaitingUnit). from ≤ w.unit) x units above in
    let top = All-head (λ (w : WaitingUnit). w.unit ≤ last) x units below in
    omega (
      arith,
      first,
      rising_count (x.unit + 1) last units (omega (arith, top)) (rising_others x units rising)
          (λ j d within. omega (arith, rising_first x units rising j d within))
          (All-tail (λ (w : WaitingUnit). w.unit ≤ last) x units below),
    )

-- ---- What a range of the file holds.

-- A write is read back.
read_back : (at : ℕ) (bytes file : List ℕ) → at ≤ length file
    → take (length bytes) (drop at (written at bytes file)) ≡ bytes
read_back at bytes file within =
    let front : length (take at file) ≡ at = omega (arith, length-take at file, within) in
    let rest = drop (at + length bytes) file in
    ap (λ xs. take (length bytes) (drop at xs)) (append_assoc (take at file) bytes rest)
    ∙ ap (λ k. take (length bytes) (drop k (take at file ++ (bytes ++ rest)))) (sym front)
    ∙ ap (take (length bytes)) (drop-append_seam (take at file) (bytes ++ rest))
    ∙ take-append_seam bytes rest

-- A write in front of a range, or behind it, doesn't change what it holds.
read_behind : (p n at : ℕ) (bytes file : List ℕ) → at + length bytes ≤ p → at + length bytes ≤ length file
    → take n (drop p (written at bytes file)) ≡ take n (drop p file)
read_behind p n at bytes file behind fits = ap (take n) (drop-written p at bytes file behind fits)

read_before : (p n at : ℕ) (bytes file : List ℕ) → p + n ≤ at → at ≤ length file
    → take n (drop p (written at bytes file)) ≡ take n (drop p file)
read_before p n at bytes file before fits =
    let front : length (take at file) ≡ at = omega (arith, length-take at file, fits) in
    sym (drop-take p n (written at bytes file))
    ∙ ap (drop p) (take-append-le (p + n) (take at file ++ bytes) (drop (at + length bytes) file)
    (omega (arith, before, front, length-append (take at file) bytes))
    ∙ take-append-le (p + n) (take at file) bytes (omega (arith, before, front)) ∙ take-take (p + n) at file before)
    ∙ drop-take p n file

-- what a file has in the place of a unit
abbrev pub held_by : ℕ → ℕ → List ℕ → List ℕ
held_by size unit file = take (size_of size unit) (drop (place_of size unit) file)

-- Another unit doesn't change it.
held_apart : (size unit : ℕ) (w : WaitingUnit) (file : List ℕ) → w.unit ≢ unit → LiesWithin size (length file) w
    → held_by size unit (placed size w file) ≡ held_by size unit file
held_apart size unit w file other is = ⊎_elim
    (λ (less : w.unit < unit).
    read_behind (place_of size unit) (size_of size unit) (place_of size w.unit) w.bytes file
    (omega (arith, units_apart size w.unit unit less, is.size)) is.within)
    (λ (le : unit ≤ w.unit).
    read_before (place_of size unit) (size_of size unit) (place_of size w.unit) w.bytes file
    (units_apart size unit w.unit (above unit w.unit le other)) (omega (arith, is.within)))
    (cases_lt w.unit unit)
  where
    above : (a b : ℕ) → a ≤ b → b ≢ a → a < b
    above a b le ne = ⊎_elim (λ (less : a < b). less) (λ (ge : b ≤ a). absurd (ne (omega (arith, le, ge))))
        (cases_lt a b)

inside_placed : (size : ℕ) (w : WaitingUnit) (units : List WaitingUnit) (file : List ℕ)
    → LiesWithin size (length file) w
    → All (LiesWithin size (length file)) units → All (LiesWithin size (length (placed size w file))) units
inside_placed size w units file is inside =
    subst (λ n. All (LiesWithin size n) units) (sym
    (length-written_within (place_of size w.unit) w.bytes file is.within))
    inside

-- So it is with units of which it is none.
held_by_file : (size unit : ℕ) (units : List WaitingUnit) (file : List ℕ)
    → All (λ (w : WaitingUnit). w.unit ≢ unit) units → All (LiesWithin size (length file)) units
    → held_by size unit (patched size units file) ≡ held_by size unit file
held_by_file size unit [] file others inside = refl
held_by_file size unit (x ∷ units) file others inside =
    let is = All-head (LiesWithin size (length file)) x units inside in
    held_by_file size unit units (placed size x file) (All-tail (λ (w : WaitingUnit). w.unit ≢ unit) x units others)
    (inside_placed size x units file is (All-tail (LiesWithin size (length file)) x units inside))
    ∙ held_apart size unit x file (All-head (λ (w : WaitingUnit). w.unit ≢ unit) x units others) is

-- A unit that waits is found in its place.
pub held_waiting : (size unit : ℕ) (units : List WaitingUnit) (file bytes : List ℕ) → IsRising units
    → All (LiesWithin size (length file)) units → waiting_bytes units unit ≡ Some bytes
    → held_by size unit (patched size units file) ≡ bytes
held_waiting size unit [] file bytes rising inside found = absurd (let no : None ≡ Some bytes = found in cc)
held_waiting size unit (x ∷ units) file bytes rising inside found =
    by (x.unit == unit) refl (held_waiting size unit units (placed size x file) bytes
    (rising_others x units rising) rest)
  where
    is : LiesWithin size (length file) x
    is = All-head (LiesWithin size (length file)) x units inside

    rest : All (LiesWithin size (length (placed size x file))) units
    rest = inside_placed size x units file is (All-tail (LiesWithin size (length file)) x units inside)

    by : (t : Bool) → (x.unit == unit) ≡ t
        → (waiting_bytes units unit ≡ Some bytes → held_by size unit (patched size units (placed size x file)) ≡ bytes)
        → held_by size unit (patched size units (placed size x file)) ≡ bytes
    by true same others =
        let number = eqb-true x.unit unit same in
        let own : x.bytes ≡ bytes =
        some_same x.bytes bytes (sym (cond-true (x.unit == unit) _ _ same) ∙ found) in
        held_by_file size unit units (placed size x file)
        (λ j d within e. omega (arith, rising_first x units rising j d within, number, e)) rest
        ∙ ap (λ n. take (size_of size n) (drop (place_of size n) (placed size x file))) (sym number)
        ∙ ap (λ n. take n (drop (place_of size x.unit) (placed size x file))) (sym is.size)
        ∙ read_back (place_of size x.unit) x.bytes file (omega (arith, is.within)) ∙ own
    by false other others = others (sym (cond-false (x.unit == unit) _ _ other) ∙ found)

-- None of the units is one that doesn't wait.
not_first : (unit : ℕ) (x : WaitingUnit) (units : List WaitingUnit) → waiting_bytes (x ∷ units) unit ≡ None
    → (t : Bool) → (x.unit == unit) ≡ t
    → (waiting_bytes units unit ≡ None → All (λ (w : WaitingUnit). w.unit ≢ unit) units)
    → All (λ (w : WaitingUnit). w.unit ≢ unit) (x ∷ units)
not_first unit x units none true same others =
    absurd (let bad : Some x.bytes ≡ None = sym (cond-true (x.unit == unit) _ _ same) ∙ none in cc)
not_first unit x units none false other others =
    All-cons (λ (w : WaitingUnit). w.unit ≢ unit) x units (eqb-false x.unit unit other)
    (others (sym (cond-false (x.unit == unit) _ _ other) ∙ none))

none_is : (unit : ℕ) (units : List WaitingUnit) → waiting_bytes units unit ≡ None
    → All (λ (w : WaitingUnit). w.unit ≢ unit) units
none_is unit [] none = All-nil (λ (w : WaitingUnit). w.unit ≢ unit)
none_is unit (x ∷ units) none = not_first unit x units none (x.unit == unit) refl (λ others. none_is unit units others)

-- Such a one is found where it was.
pub held_other : (size unit : ℕ) (units : List WaitingUnit) (file : List ℕ)
    → All (LiesWithin size (length file)) units → waiting_bytes units unit ≡ None
    → held_by size unit (patched size units file) ≡ held_by size unit file
held_other size unit units file inside none = held_by_file size unit units file (none_is unit units none) inside

-- ---- The units of an image.

-- A unit of an image is what the file that begins with it has in the unit's place.
module _ (h : Header) (file image : List ℕ) (unit n : ℕ) (fields : fields_of image ≡ h)
    (is_image : database_of file ≡ image)
    (is_unit : IsUnit image unit n) where
  size_is : block_length image ≡ h.block_size
  size_is = block_length-is image ∙ ap (λ (x : Header). x.block_size) fields

  length_is : unit_length image unit ≡ size_of h.block_size unit
  length_is = ap (λ k. size_of k unit) size_is

  place_is : unit_place image unit ≡ place_of h.block_size unit
  place_is = ap (λ k. place_of k unit) size_is

  pub unit_length_is : n ≡ size_of h.block_size unit
  unit_length_is = is_unit.length_is ∙ length_is

  pub unit_within : place_of h.block_size unit + n ≤ length file
  unit_within = omega (arith, is_unit.within, place_is, ap length is_image, length-take (image_length file) file)

  pub unit_held : unit_bytes image unit ≡ held_by h.block_size unit file
  unit_held =
      let size = size_of h.block_size unit in
      let place = place_of h.block_size unit in
      let whole = image_length file in
      let within : place + size ≤ whole =
      omega (arith, is_unit.within, place_is, unit_length_is, ap length is_image, length-take whole file) in
      (λ i. take (length_is i) (drop (place_is i) image))
      ∙ ap (λ xs. take size (drop place xs)) (sym is_image)
      ∙ sym (drop-take place size (take whole file))
      ∙ ap (drop place) (take-take (place + size) whole file within)
      ∙ drop-take place size file
