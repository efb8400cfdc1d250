-- What a crash may leave of one file after a call, against what it might leave before.
use Rattle.std.proofs.Common.{◌≡◌, ◌⊎◌, ℕ, ◌+◌, ◌<◌, ◌≤◌, min, max, Bool, true, false, ◌||◌, cond, List, [], ◌∷◌}
use Rattle.std.proofs.Common.{◌++◌, length, map, get_or, arith, refl, sym, ap, ◌∙◌, inl, inr}
use Rattle.std.specs.List.{range_with_len}
use Rattle.std.specs.Bool.{nat_lt}
use Rattle.std.proofs.lemmas.List.{ext_get_or}
use Rattle.std.proofs.lemmas.List.Folds.{list_any-append}
use Rattle.std.proofs.lemmas.List.FromFn.{length-map-range_with_len, get_or-map-range_with_len}
use Rattle.std.proofs.lemmas.Bool.Decides.{nat_tests}
use Rattle.host_model.specs.Disk.{Cut, Torn}
use Rattle.host_mem.specs.declared.step.Range.{Range}
use Rattle.host_mem.specs.Drive.{Drive, Leaves, is_covered, is_within, most, settled, shortened, wrote}
use Rattle.host_mem.specs.Laws.{IsSound, farthest-le, farthest-push}

-- a list made from its elements
abbrev pub made : (ℕ → ℕ) → ℕ → List ℕ
made f n = map f (range_with_len 0 n)

pub length-made : (f : ℕ → ℕ) (n : ℕ) → length (made f n) ≡ n
length-made f n = length-map-range_with_len f 0 n

pub get_or-made : (f : ℕ → ℕ) (n i : ℕ) → i < n → get_or (made f n) i 0 ≡ f i
get_or-made f n i lt = get_or-map-range_with_len f 0 n i i 0 lt (omega arith)

pub cond-either : (b : Bool) (x y z : ℕ) → (b ≡ true → x ≡ z) → (b ≡ false → y ≡ z) → cond b x y ≡ z
cond-either true x y z p q = p refl
cond-either false x y z p q = q refl

pub or-both : (a b : Bool) → a ≡ false → b ≡ false → (a || (b || false)) ≡ false
or-both true b p q = p
or-both false true p q = q
or-both false false p q = refl

pub covered_by_neither : (i : ℕ) (ranges : List Range) (range : Range) → is_covered i ranges ≡ false
    → is_within i range ≡ false → is_covered i (ranges ++ range ∷ []) ≡ false
covered_by_neither i ranges range p q =
    list_any-append (is_within i) ranges (range ∷ []) ∙ or-both (is_covered i ranges) (is_within i range) p q

pub not_within : (i : ℕ) (range : Range) → (i < range.at) ⊎ (range.at + range.len ≤ i) → is_within i range ≡ false
not_within i range out = grind (arith, nat_tests)

pub nat_lt-true : (i n : ℕ) → nat_lt i n ≡ true → i < n
nat_lt-true i n e = grind (arith, nat_tests)

pub nat_lt-is : (i n : ℕ) → i < n → nat_lt i n ≡ true
nat_lt-is i n lt = grind (arith, nat_tests)

-- the bytes before a write, of those after it: where the write reaches, the stable ones
abbrev pub byte_before : Drive → Range → List ℕ → ℕ → ℕ
byte_before drive range bytes i = cond (is_within i range) (get_or drive.stable i 0) (get_or bytes i 0)

module _ (drive : Drive) (sound : IsSound drive) (at : ℕ) (bytes : List ℕ) (done : Bool) (c : List ℕ)
    (left : Leaves (wrote at bytes done drive) c) where
  abbrev write_range : Range
  write_range = record { at = at; len = length bytes }

  abbrev write_size : ℕ
  write_size = min (length c) (most drive)

  abbrev pub before_write : List ℕ
  before_write = made (byte_before drive write_range c) write_size

  longest : length c ≤ max (most drive) (at + length bytes)
  longest = let e = farthest-push (length drive.stable) drive.ranges write_range in omega (arith, left.no_longer, e)

  pub before_write-left : Leaves drive before_write
  before_write-left = record {
    no_shorter =
        omega (
          arith,
          left.no_shorter,
          sound.stable,
          farthest-le (length drive.stable) drive.ranges,
          length-made
              (byte_before drive write_range c) write_size,
        );
    no_longer = omega (arith, length-made (byte_before drive write_range c) write_size);
    stays = λ i lt e.
        let here : i < write_size =
        omega (arith, left.no_shorter, sound.stable, farthest-le (length drive.stable) drive.ranges) in
        get_or-made (byte_before drive write_range c) write_size i here
        ∙ cond-either (is_within i write_range) (get_or drive.stable i 0) (get_or c i 0) (get_or drive.stable i 0)
        (λ _. refl)
        (λ out. left.stays i lt (covered_by_neither i drive.ranges write_range e out));
  }

  unchanged : (i : ℕ) → i < length before_write → (i < at) ⊎ (at + length bytes ≤ i)
      → get_or c i 0 ≡ get_or before_write i 0
  unchanged i lt out =
      let here : i < write_size = omega (arith, length-made (byte_before drive write_range c) write_size) in
      sym (get_or-made (byte_before drive write_range c) write_size i here
      ∙ ap (λ (b : Bool). cond b (get_or drive.stable i 0) (get_or c i 0)) (not_within i write_range out))

  pub before_write-torn : Torn at (length bytes) before_write c
  before_write-torn = record {
    no_shorter = omega (arith, length-made (byte_before drive write_range c) write_size);
    no_longer = omega (arith, longest, length-made (byte_before drive write_range c) write_size);
    before = λ i lt less. unchanged i lt (inl less);
    behind = λ i lt le. unchanged i lt (inr le);
  }

-- the bytes before a cut, of those after it: from its length on, the stable ones
abbrev pub byte_uncut : Drive → ℕ → List ℕ → ℕ → ℕ
byte_uncut drive n bytes i = cond (nat_lt i n) (get_or bytes i 0) (get_or drive.stable i 0)

module _ (drive : Drive) (sound : IsSound drive) (n : ℕ) (done : Bool) (c : List ℕ)
    (left : Leaves (shortened n done drive) c) where
  abbrev cut_size : ℕ
  cut_size = max (length c) drive.least

  abbrev pub before_cut : List ℕ
  before_cut = made (byte_uncut drive n c) cut_size

  pub before_cut-left : Leaves drive before_cut
  before_cut-left = record {
    no_shorter = omega (arith, length-made (byte_uncut drive n c) cut_size);
    no_longer = omega (
      arith,
      left.no_longer,
      sound.stable,
      farthest-le (length drive.stable) drive.ranges,
      length-made (byte_uncut drive n c) cut_size,
    );
    stays = λ i lt e.
        let here : i < cut_size = omega arith in
        get_or-made (byte_uncut drive n c) cut_size i here
        ∙ cond-either (nat_lt i n) (get_or c i 0) (get_or drive.stable i 0) (get_or drive.stable i 0)
        (λ is. let below : i < min drive.least n = omega (arith, nat_lt-true i n is) in left.stays i below e)
        (λ _. refl);
  }

  pub before_cut-cut : Cut n before_cut c
  before_cut-cut = record {
    no_shorter = omega (arith, left.no_shorter, length-made (byte_uncut drive n c) cut_size);
    no_longer = omega (arith, length-made (byte_uncut drive n c) cut_size);
    below = λ i lt here.
        let within : i < cut_size = omega arith in
        sym (get_or-made (byte_uncut drive n c) cut_size i within
        ∙ ap (λ (b : Bool). cond b (get_or c i 0) (get_or drive.stable i 0)) (nat_lt-is i n lt));
  }

-- of a settled file a crash leaves what a read gives
pub settled-only : (file c : List ℕ) → Leaves (settled file) c → c ≡ file
settled-only file c left =
    let same : length c ≡ length file = omega (arith, left.no_shorter, left.no_longer) in
    ext_get_or 0 c file same (λ i lt. let here : i < length file = omega arith in left.stays i here refl)
