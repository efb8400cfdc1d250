-- Images that keep the old bytes of units.
use Rattle.std.proofs.Common.{◌≡◌, ℕ, ◌+◌, ◌-◌, ◌*◌, ◌^◌, ◌<◌, ◌≤◌, ◌==◌, Bool, true, false, List, [], ◌∷◌, ◌++◌}
use Rattle.std.proofs.Common.{length, take, drop, get_or, Option, None, Some, refl, sym, ap, subst, ◌∙◌}
use Rattle.std.proofs.Common.{inl, inr, ⊎_elim, arith, length-take}
use Rattle.std.proofs.Common.{Bor, length-append, append_assoc, true≢false}
use Rattle.std.specs.Prelude.{All, Any, Err, Ok, OnErr, OnOk, Result, if◌then◌else◌}
use Rattle.std.specs.Option.{ForSome, is_some, option_copied}
use Rattle.std.proofs.lemmas.Bool.{cases_lt, eqb-true}
use Rattle.std.proofs.lemmas.List.{append-nil, get_or_append_left, get_or_push, take-take}
use Rattle.std.proofs.lemmas.List.Elements.{All-head, All-push, All-tail, All-weaker}
use Rattle.std.proofs.lemmas.Nat.{mul-le, row_fits}
use Rattle.std.proofs.Math.Seq.{take-append_seam}
use Rattle.std.proofs.lemmas.Slice.{between_is}
use Rattle.host_model.specs.Files.{Contents}
use Rattle.gds_images.specs.Group.{Image}
use Rattle.gds_epoch.specs.Epoch.{IsImageAt, IsImageOf, IsKept}
use Rattle.gds_epoch.specs.Waiting.{WaitingUnit, place_of, size_of, waiting_bytes}
use Rattle.gds_units.specs.Keeping.{AddsImage, AddsTo, AreKept, AreOld, EndsAtBlock, HasSize}

-- ---- Images that come behind others.

pub AddsTo-refl : (images : List Image) → AddsTo images images
AddsTo-refl images = record { more = []; is = sym (append-nil images) }

pub AddsTo-trans : (a b c : List Image) → AddsTo a b → AddsTo b c → AddsTo a c
AddsTo-trans a b c first second = record {
  more = first.more ++ second.more;
  is = second.is ∙ ap (λ xs. xs ++ second.more) first.is ∙ append_assoc a first.more second.more;
}

pub one_added : (told : Option Contents) (at n : ℕ) (old new : List Image) → AddsImage told at n old new
    → AddsTo old new
one_added told at n old new adds = record { more = adds.image ∷ []; is = adds.is }

-- those that were there are its front
pub added_front : (old new : List Image) → AddsTo old new → take (length old) new ≡ old
added_front old new adds = ap (take (length old)) adds.is ∙ take-append_seam old adds.more

-- What they keep is kept.
pub kept_more : (size epoch : ℕ) (old new : List Image) → AddsTo old new → (w : WaitingUnit) → IsKept size epoch old w
    → IsKept size epoch new w
kept_more size epoch old new adds w kept = ⊎_elim
    (λ (some : Any (IsImageAt (place_of size w.unit) (length w.bytes)) old).
    let there : get_or new some.0 some.1 ≡ some.1 =
    ap (λ xs. get_or xs some.0 some.1) adds.is ∙ get_or_append_left old adds.more some.1 some.0 some.2 ∙ some.3 in
    inl (some.0, some.1, omega (arith, some.2, ap length adds.is, length-append old adds.more), there, some.4))
    inr kept

pub all_kept_more : (size epoch : ℕ) (old new : List Image) → AddsTo old new → (units : List WaitingUnit)
    → All (IsKept size epoch old) units → All (IsKept size epoch new) units
all_kept_more size epoch old new adds units =
    All-weaker (IsKept size epoch old) (IsKept size epoch new) (kept_more size epoch old new adds) units

pub are_kept_more : (size epoch : ℕ) (old new : List Image) → AddsTo old new → (units : List WaitingUnit)
    → AreKept size epoch old units → AreKept size epoch new units
are_kept_more size epoch old new adds units are = record {
  some = are.some;
  short = are.short;
  blocks = are.blocks;
  sizes = are.sizes;
  kept = all_kept_more size epoch old new adds units are.kept;
}

-- ---- One image more.

pub kept_by_image : (told : Option Contents) (size epoch : ℕ) (w : WaitingUnit) (old new : List Image)
    → AddsImage told (place_of size w.unit) (length w.bytes) old new → IsKept size epoch new w
kept_by_image told size epoch w old new adds =
    let there : get_or new (length old) adds.image ≡ adds.image =
    ap (λ xs. get_or xs (length old) adds.image) adds.is ∙ get_or_push old adds.image adds.image (length old) refl in
    inl (
      length old,
      adds.image,
      omega (arith, ap length adds.is, length-append old (adds.image ∷ [])),
      there,
      adds.place,
    )

-- It has bytes of the last epoch's database.
pub image_old : (told : Option Contents) (at n epoch : ℕ) (old new : List Image) → AddsImage told at n old new
    → 0 < n → n < 2 ^ 32 → at + n ≤ epoch → ForSome told (AreOld epoch old) → ForSome told (AreOld epoch new)
image_old told at n epoch old new adds some short within before c tells =
    let were = before c tells in
    let image = adds.image in
    let base = take epoch c.db in
    let len : length image.bytes ≡ n = adds.place.len in
    let place : image.at ≡ at = adds.place.place in
    let front : take n (drop at base) ≡ take n (drop at c.db) =
    ap (take n) (sym (between_is c.db at epoch)) ∙ take-take n (epoch - at) (drop at c.db) (omega (arith, within)) in
    let same : image.bytes ≡ take (length image.bytes) (drop image.at base) =
    adds.read c tells ∙ sym front ∙ ap (λ k. take k (drop at base)) (sym len)
    ∙ ap (λ k. take (length image.bytes) (drop k base)) (sym place) in
    let is : IsImageOf base image = record {
      fits = record {
        some = omega (arith, some, len);
        short = omega (arith, short, len);
        within = omega (arith, within, len, place, length-take epoch c.db, were.long);
        bytes = adds.bytes;
      };
      old = same;
    } in
    record {
      long = were.long;
      old = subst (All (IsImageOf base)) (sym adds.is) (All-push (IsImageOf base) old image were.old is);
    }

-- ---- Units.

-- A unit that begins within the last epoch's database lies within it.
row_within : (a size blocks : ℕ) → a * size < blocks * size → a * size + size ≤ blocks * size
row_within a size blocks less = ⊎_elim
    (λ (below : a < blocks). row_fits a size blocks size below (omega arith))
    (λ (above : blocks ≤ a). absurd (omega (arith, less, mul-le blocks size a size above (omega arith))))
    (cases_lt a blocks)

pub unit_within : (size epoch unit : ℕ) → EndsAtBlock size epoch → place_of size unit < epoch
    → place_of size unit + size_of size unit ≤ epoch
unit_within size epoch unit blocks begins = by_number (unit == 0) refl
  where
    by_number : (t : Bool) → (unit == 0) ≡ t → place_of size unit + size_of size unit ≤ epoch
    by_number true zero = rw zero (omega (arith, blocks.ends))
    by_number false more =
        let place : place_of size unit ≡ 8192 + (unit - 1) * size =
        ap (λ t. if t then 0 else 8192 + (unit - 1) * size) more in
        let fits = row_within (unit - 1) size blocks.blocks (omega (arith, begins, place, blocks.ends)) in
        rw more (omega (arith, blocks.ends, fits))

-- A unit has some bytes, and not too many.
pub size_from : (size unit : ℕ) → 0 < size → 0 < size_of size unit
size_from size unit some = by_number (unit == 0)
  where
    by_number : (t : Bool) → 0 < (if t then 8192 else size)
    by_number true = omega arith
    by_number false = some

pub size_to : (size unit : ℕ) → size ≤ 65024 → size_of size unit ≤ 65024
size_to size unit short = by_number (unit == 0)
  where
    by_number : (t : Bool) → (if t then 8192 else size) ≤ 65024
    by_number true = omega arith
    by_number false = short

-- One that waits is kept, with whatever bytes it waits.
waits_kept : (size epoch : ℕ) (images : List Image) (units : List WaitingUnit) (w : WaitingUnit) (bytes : List ℕ)
    → All (HasSize size) units → All (IsKept size epoch images) units → HasSize size w
    → waiting_bytes units w.unit ≡ Some bytes → IsKept size epoch images w
waits_kept size epoch images [] w bytes sizes kept has waits = absurd (let no : None ≡ Some bytes = waits in cc)
waits_kept size epoch images (x ∷ units) w bytes sizes kept has waits =
    by_number (x.unit == w.unit) refl
    (waits_kept size epoch images units w bytes (All-tail (HasSize size) x units sizes)
    (All-tail (IsKept size epoch images) x units kept) has)
  where
    same_kept : x.unit ≡ w.unit → IsKept size epoch images w
    same_kept number =
        let same : length x.bytes ≡ length w.bytes =
        All-head (HasSize size) x units sizes ∙ ap (size_of size) number ∙ sym has in
        let first : IsKept size epoch images x = All-head (IsKept size epoch images) x units kept in
        ⊎_elim
        (λ (some : Any (IsImageAt (place_of size x.unit) (length x.bytes)) images).
        inl (subst (λ k. Any (IsImageAt (place_of size k) (length w.bytes)) images) number
        (subst (λ n. Any (IsImageAt (place_of size x.unit) n) images) same some)))
        (λ (behind : epoch ≤ place_of size x.unit). inr (subst (λ k. epoch ≤ place_of size k) number behind))
        first

    by_number : (t : Bool) → (x.unit == w.unit) ≡ t
        → (waiting_bytes units w.unit ≡ Some bytes → IsKept size epoch images w) → IsKept size epoch images w
    by_number true equal further = same_kept (eqb-true x.unit w.unit equal)
    by_number false other further =
        further (sym (ap (λ t. if t then Some x.bytes else waiting_bytes units w.unit) other) ∙ waits)

-- So it is with one that is found among those that wait.
pub found_kept : (size epoch : ℕ) (images : List Image) (units : List WaitingUnit) (w : WaitingUnit)
    (found : Option (Bor (List ℕ))) → AreKept size epoch images units → HasSize size w → true ≡ is_some found
    → option_copied found ≡ waiting_bytes units w.unit → IsKept size epoch images w
found_kept size epoch images units w None are has some same = absurd (true≢false some)
found_kept size epoch images units w (Some bytes) are has some same =
    waits_kept size epoch images units w bytes.now are.sizes are.kept has (sym same)

-- ---- What a call that may add an image leaves, however it ends.

module _ {T E : Type 0} (told : Option Contents) (at n : ℕ) (old new : List Image) where
  pub added_of : (result : Result T E) → OnOk result (AddsImage told at n old new) → OnErr result (new ≡ old)
      → AddsTo old new
  added_of (Ok x) adds same = one_added told at n old new adds
  added_of (Err e) adds same = subst (AddsTo old) (sym same) (AddsTo-refl old)

  pub old_of : (result : Result T E) (epoch : ℕ) → OnOk result (AddsImage told at n old new) → OnErr result (new ≡ old)
      → 0 < n → n < 2 ^ 32 → at + n ≤ epoch → ForSome told (AreOld epoch old) → ForSome told (AreOld epoch new)
  old_of (Ok x) epoch adds same some short within before =
      image_old told at n epoch old new adds some short within before
  old_of (Err e) epoch adds same some short within before =
      subst (λ images. ForSome told (AreOld epoch images)) (sym same) before

  pub kept_of : (result : Result T E) (size epoch : ℕ) (w : WaitingUnit) → at ≡ place_of size w.unit
      → n ≡ length w.bytes → OnOk result (AddsImage told at n old new) → OnOk result (IsKept size epoch new w)
  kept_of (Ok x) size epoch w place len adds =
      kept_by_image told size epoch w old new
      (subst (λ m. AddsImage told (place_of size w.unit) m old new) len
      (subst (λ k. AddsImage told k n old new) place adds))
  kept_of (Err e) size epoch w place len adds = tt
