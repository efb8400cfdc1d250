-- The free blocks of a map, byte by byte: four blocks to each.
use Rattle.std.proofs.Common.{ℕ, zero, suc, ◌≡◌, ◌+◌, ◌-◌, ◌*◌, ◌/◌, ◌%◌, ◌≤◌, ◌<◌, Bool, true, false, List, refl, sym}
use Rattle.std.proofs.Common.{◌∙◌, ap, add-zero, add-suc, subst, take, drop, get_or, inl, inr, arith}
use Rattle.std.specs.Prelude.{slice_index, if◌then◌else◌}
use Rattle.std.specs.Prelude.{IfSome, IfNone}
use Rattle.std.specs.Bool.{then_some}
use Rattle.std.proofs.lemmas.Bool.{cases_lt}
use Rattle.std.proofs.lemmas.List.{get_or-take, get_or-drop}
use Rattle.gds_bitmap.specs.Pairs.{is_free_in, count_below, NoneFreeIn, IsFirstFreeIn}
use Rattle.gds_bitmap.specs.Bitmap.{is_free_at, NoneFree, IsFirstFree}

pub count_below-add : (p : ℕ → Bool) (m n : ℕ)
    → count_below p (m + n) ≡ count_below p m + count_below (λ j. p (m + j)) n
count_below-add p m zero = ap (count_below p) (add-zero m) ∙ sym (add-zero (count_below p m))
count_below-add p m (suc n) = rw (add-suc) (omega (arith, count_below-add p m n))

pub count_below-same : (p q : ℕ → Bool) (n : ℕ) → ((j : ℕ) → j < n → p j ≡ q j) → count_below p n ≡ count_below q n
count_below-same p q zero h = refl
count_below-same p q (suc n) h =
    cc (count_below-same p q n (λ j l. h j (omega arith)), h n (omega arith))

one_or_none : (b : Bool) → (if b then 1 else 0) ≤ 1
one_or_none true = omega arith
one_or_none false = omega arith

pub count_below_le : (p : ℕ → Bool) (n : ℕ) → count_below p n ≤ n
count_below_le p zero = omega arith
count_below_le p (suc n) = omega (arith, count_below_le p n, one_or_none (p n))

-- block j of the four in a byte
pub is_free_at-byte : (map : List ℕ) (i j : ℕ) → j < 4
    → is_free_at map (4 * i + j) ≡ is_free_in (slice_index map (16 + i)) j
is_free_at-byte map i j h =
    let byte : (4 * i + j) / 4 ≡ i = omega arith in
    let place : (4 * i + j) % 4 ≡ j = omega arith in
    rw (byte, place) refl

pub count_more : (map : List ℕ) (i n : ℕ) → n ≤ 4
    → count_below (is_free_at map) (4 * i + n)
    ≡ count_below (is_free_at map) (4 * i) + count_below (is_free_in (slice_index map (16 + i))) n
count_more map i n h =
    count_below-add (is_free_at map) (4 * i) n
    ∙ ap (λ m. count_below (is_free_at map) (4 * i) + m)
    (count_below-same _ _ n (λ j l. is_free_at-byte map i j (omega arith)))

pub NoneFree-more : (map : List ℕ) (i n : ℕ) → n ≤ 4 → NoneFree map (4 * i) → NoneFreeIn (slice_index map (16 + i)) n
    → NoneFree map (4 * i + n)
NoneFree-more map i n h below here k l free = elim (cases_lt k (4 * i)) [
  | inl less ↦ below k less free
  | inr more ↦
      let place : 4 * i + (k - 4 * i) ≡ k = omega arith in
      let near : k - 4 * i < 4 = omega arith in
      here (k - 4 * i) (omega arith) (sym (is_free_at-byte map i (k - 4 * i) near) ∙ rw place free)
]

-- ---- the steps of the two loops, over the bytes of a part of the map

pub part_byte : (map : List ℕ) (n i : ℕ) → i < n → get_or (take n (drop 16 map)) i 0 ≡ slice_index map (16 + i)
part_byte map n i h = get_or-take n (drop 16 map) i 0 h ∙ get_or-drop 16 map i 0

pub count_step : (map : List ℕ) (byte i n count here : ℕ) → byte ≡ slice_index map (16 + i) → n ≤ 4
    → count ≡ count_below (is_free_at map) (4 * i) → here ≡ count_below (is_free_in byte) n
    → count + here ≡ count_below (is_free_at map) (4 * i + n)
count_step map byte i n count here e h p q = rw (p, q, e) (sym (count_more map i n h))

pub NoneFree-step : (map : List ℕ) (byte i : ℕ) → byte ≡ slice_index map (16 + i) → NoneFree map (4 * i)
    → NoneFreeIn byte 4 → NoneFree map (4 * (i + 1))
NoneFree-step map byte i e below here =
    let more : 4 * i + 4 ≡ 4 * (i + 1) = omega arith in
    subst (λ (n : ℕ). NoneFree map n) more (NoneFree-more map i 4 (omega arith) below
    (subst (λ (b : ℕ). NoneFreeIn b 4) e here))

pub IsFirstFree-step : (map : List ℕ) (byte i j : ℕ) → byte ≡ slice_index map (16 + i) → NoneFree map (4 * i)
    → IsFirstFreeIn byte j → IsFirstFree map (4 * i + j)
IsFirstFree-step map byte i j e below here =
    let within = here.within in
    let found : IsFirstFreeIn (slice_index map (16 + i)) j = subst (λ (b : ℕ). IsFirstFreeIn b j) e here in
    record {
      free = is_free_at-byte map i j within ∙ found.free;
      first = NoneFree-more map i j (omega arith) below found.first;
    }

pub NoneFree-less : (map : List ℕ) (m n : ℕ) → m ≤ n → NoneFree map n → NoneFree map m
NoneFree-less map m n h none k l = none k (omega arith)

pub IfSome-then_some : (b : Bool) (k : ℕ) (P : ℕ → Type 0) → P k → IfSome (then_some b k) P
IfSome-then_some true k P h = h
IfSome-then_some false k P h = tt

pub IfNone-then_some : (b : Bool) (k : ℕ) (P : Type 0) → (b ≡ false → P) → IfNone (then_some b k) P
IfNone-then_some true k P h = tt
IfNone-then_some false k P h = h refl
