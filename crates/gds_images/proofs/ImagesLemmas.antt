-- The images of a group, one after another.
use Rattle.std.proofs.Common.{◌≡◌, ◌⊎◌, ℕ, zero, suc, ◌+◌, ◌-◌, ◌<◌, ◌≤◌, Bool, true, false, cond, List, [], ◌∷◌}
use Rattle.std.proofs.Common.{length, Option, None, Some, Result, Ok, Err, refl, sym, ap, subst, ◌∙◌}
use Rattle.std.proofs.Common.{inl, inr, ⊎_elim, arith, ltb, leb, eqb}
use Rattle.std.specs.Prelude.{All, not, ◌||◌}
use Rattle.std.proofs.lemmas.Bool.{eqb-true, eqb-false, le-leb, le-ltb, leb-true, ltb-false, ne_eqb}
use Rattle.std.proofs.lemmas.Bool.{not-false, or_parts}
use Rattle.std.proofs.lemmas.List.Elements.{All-cons, All-nil}
use Rattle.gds_block.specs.Fields.{u64_at}
use Rattle.gds_images.specs.declared.chain.Place.{Place}
use Rattle.gds_images.specs.Chain.{LiesBefore, and_then, bad_field, image_at, image_length, images_up_to}
use Rattle.gds_images.specs.Chain.{unless, with_first}
use Rattle.gds_images.proofs.AgreeLemmas.{Agree, u32_agrees, u64_agrees}

-- The image at a place has no bad field, and so many bytes.
pub record IsGood (file : List ℕ) (epoch at left len : ℕ) : Type 0 where
  pub some : 0 < len
  pub fills : 12 + len ≤ left
  pub whole : at + (12 + len) ≤ length file
  pub low : u64_at file at + len ≤ epoch

five : (a b c d e : Bool) (v w x y z : ℕ)
    → cond a (Some v) (cond b (Some w) (cond c (Some x) (cond d (Some y) (cond e (Some z) None)))) ≡ None
    → (a ≡ false) × (b ≡ false) × (c ≡ false) × (d ≡ false) × (e ≡ false)
five true b c d e v w x y z none = cc
five false true c d e v w x y z none = cc
five false false true d e v w x y z none = cc
five false false false true e v w x y z none = cc
five false false false false true v w x y z none = cc
five false false false false false v w x y z none = (refl, refl, refl, refl, refl)

pub good_field : (file : List ℕ) (epoch at left : ℕ) → bad_field file epoch at left ≡ None
    → IsGood file epoch at left (image_length file at)
unfolding bad_field
good_field file epoch at left none =
    let n = image_length file at in
    let tests = five (not (leb (at + 8) (length file)) || ltb left 12) (not (leb (at + 8 + 4) (length file)))
    (ltb left (12 + n)) (eqb n 0 || ltb epoch (u64_at file at + n)) (not (leb (at + 12 + n) (length file)))
    at (at + 8) at (at + 8) (at + 12) none in
    let fourth = or_parts (eqb n 0) (ltb epoch (u64_at file at + n)) tests.3 in
    let end = leb-true (at + 12 + n) (length file) (not-false (leb (at + 12 + n) (length file)) tests.4) in
    let room = ltb-false left (12 + n) tests.2 in
    let low = ltb-false epoch (u64_at file at + n) fourth.1 in
    let ne = eqb-false n 0 fourth.0 in
    record { some = omega arith; fills = room; whole = omega arith; low = low }

pub no_bad_field : (file : List ℕ) (epoch at left : ℕ) → IsGood file epoch at left (image_length file at)
    → bad_field file epoch at left ≡ None
unfolding bad_field
no_bad_field file epoch at left good =
    let n = image_length file at in
    let some = good.some in
    let room = good.fills in
    let end = good.whole in
    let one : leb (at + 8) (length file) ≡ true = le-leb _ _ (omega arith) in
    let two : ltb left 12 ≡ false = le-ltb _ _ (omega arith) in
    let three : leb (at + 8 + 4) (length file) ≡ true = le-leb _ _ (omega arith) in
    let four : ltb left (12 + n) ≡ false = le-ltb _ _ room in
    let five : eqb n 0 ≡ false = ne_eqb n 0 (λ e. omega arith) in
    let six : ltb epoch (u64_at file at + n) ≡ false = le-ltb _ _ good.low in
    let seven : leb (at + 12 + n) (length file) ≡ true = le-leb _ _ (omega arith) in
    rw (one, two, three, four, five, six, seven)

-- ---- One image more.

-- the images behind the one at a place
abbrev rest_of : ℕ → List ℕ → ℕ → ℕ → ℕ → ℕ → Result (List Place) ℕ
rest_of n file epoch at left len = images_up_to n file epoch (at + 12 + len) (left - (12 + len))

pub images_end : (n : ℕ) (file : List ℕ) (epoch at : ℕ) → images_up_to n file epoch at 0 ≡ Ok []
images_end zero file epoch at = refl
images_end (suc n) file epoch at = refl

pub images_step : (n : ℕ) (file : List ℕ) (epoch at left len place : ℕ)
    → u64_at file at ≡ place → image_length file at ≡ len → IsGood file epoch at left len
    → images_up_to (suc n) file epoch at left
    ≡ and_then (rest_of n file epoch at left len) (with_first (record { at = place; len = len; from = at + 12 }))
images_step n file epoch at left len place is_at is_len good =
    let here : IsGood file epoch at left (image_length file at) =
    subst (λ k. IsGood file epoch at left k) (sym is_len) good in
    let none = no_bad_field file epoch at left here in
    let some : eqb left 0 ≡ false = ne_eqb left 0 (λ e. omega (arith, good.fills)) in
    rw (some, none, is_len, is_at)

-- what is known of images that were read
pub record Reads (n : ℕ) (file : List ℕ) (epoch at left : ℕ) (places : List Place) : Type 0 where
  pub good : IsGood file epoch at left (image_length file at)
  pub more : List Place
  pub behind : rest_of n file epoch at left (image_length file at) ≡ Ok more
  pub all : places ≡ image_at file at ∷ more

split : (t : Bool) (bad : Option ℕ) (rest : Result (List Place) ℕ) (image : Place) (places : List Place)
    → cond t (Ok []) (unless bad (and_then rest (with_first image))) ≡ Ok places
    → ((t ≡ true) × (places ≡ []))
    ⊎ ((t ≡ false) × (bad ≡ None) × ((more : List Place) × ((rest ≡ Ok more) × (places ≡ image ∷ more))))
split true bad rest image places ok = inl (refl, cc)
split false None (Ok more) image places ok = inr (refl, refl, (more, (refl, cc)))
split false None (Err at) image places ok = cc
split false (Some at) rest image places ok = cc

pub images_cases : (n : ℕ) (file : List ℕ) (epoch at left : ℕ) (places : List Place)
    → images_up_to (suc n) file epoch at left ≡ Ok places
    → ((left ≡ 0) × (places ≡ [])) ⊎ Reads n file epoch at left places
images_cases n file epoch at left places ok =
    let len = image_length file at in
    ⊎_elim
    (λ ended. inl (eqb-true left 0 ended.0, ended.1))
    (λ read. inr (record {
      good = good_field file epoch at left read.1;
      more = read.2.0;
      behind = read.2.1.0;
      all = read.2.1.1;
    }))
    (split (eqb left 0) (bad_field file epoch at left) (rest_of n file epoch at left len) (image_at file at) places ok)

-- ---- Fuel that suffices reads the same.

unless_same : {A : Type 0} (bad : Option ℕ) (x y : Result A ℕ) → (bad ≡ None → x ≡ y) → unless bad x ≡ unless bad y
unless_same None x y same = same refl
unless_same (Some at) x y same = refl

pub images_fuel : (n m : ℕ) (file : List ℕ) (epoch at left : ℕ) → at ≤ length file
    → length file < at + n → length file < at + m
    → images_up_to n file epoch at left ≡ images_up_to m file epoch at left
images_fuel zero m file epoch at left within more enough = absurd (omega arith)
images_fuel (suc n) zero file epoch at left within more enough = absurd (omega arith)
images_fuel (suc n) (suc m) file epoch at left within more enough =
    let len = image_length file at in
    ap (λ r. cond (eqb left 0) (Ok []) r)
    (unless_same (bad_field file epoch at left) (and_then (rest_of n file epoch at left len)
    (with_first (image_at file at)))
    (and_then (rest_of m file epoch at left len) (with_first (image_at file at)))
    (λ none.
    let good = good_field file epoch at left none in
    ap (λ r. and_then r (with_first (image_at file at)))
    (images_fuel n m file epoch (at + 12 + len) (left - (12 + len)) (omega (arith, good.whole)) (omega arith)
    (omega arith))))

-- Images that were read lie within the file.
pub images_whole : (n : ℕ) (file : List ℕ) (epoch at left : ℕ) (places : List Place) → at ≤ length file
    → length file < at + n → images_up_to n file epoch at left ≡ Ok places → at + left ≤ length file
images_whole zero file epoch at left places within more ok = absurd (omega arith)
images_whole (suc n) file epoch at left places within more ok = ⊎_elim
    (λ ended. omega (arith, ended.0))
    (λ (read : Reads n file epoch at left places).
    let len = image_length file at in
    let fills = read.good.fills in
    let rest = images_whole n file epoch (at + 12 + len) (left - (12 + len)) read.more (omega (arith, read.good.whole))
    (omega arith) read.behind in
    omega arith)
    (images_cases n file epoch at left places ok)

-- A file that agrees with another up to their end has the same images.
pub images_agree : (n m : ℕ) (a b : List ℕ) (end epoch at left : ℕ) (places : List Place) → Agree end a b
    → at + left ≤ end → left ≤ n → left ≤ m → images_up_to n a epoch at left ≡ Ok places
    → images_up_to m b epoch at left ≡ Ok places
images_agree zero m a b end epoch at left places agree within few enough ok =
    let none : left ≡ 0 = omega arith in
    ap (images_up_to m b epoch at) none ∙ images_end m b epoch at ∙ ok
images_agree (suc n) zero a b end epoch at left places agree within few enough ok =
    let none : left ≡ 0 = omega arith in
    sym (images_end (suc n) a epoch at) ∙ ap (images_up_to (suc n) a epoch at) (sym none) ∙ ok
images_agree (suc n) (suc m) a b end epoch at left places agree within few enough ok = ⊎_elim
    (λ ended. rw (ended.0, ended.1))
    (λ (read : Reads n a epoch at left places).
    let len = image_length a at in
    let good = read.good in
    let fills = good.fills in
    let same_at = u64_agrees end a b agree at (omega arith) in
    let same_len = u32_agrees end a b agree (at + 8) (omega arith) in
    let there : IsGood b epoch at left len =
    record {
      some = good.some;
      fills = fills;
      whole = omega (arith, agree.second_long);
      low = omega (arith, good.low);
    } in
    let rest = images_agree n m a b end epoch (at + 12 + len) (left - (12 + len)) read.more agree (omega arith)
    (omega arith) (omega arith) read.behind in
    images_step m b epoch at left len (u64_at a at) same_at same_len there
    ∙ ap (λ r. and_then r (with_first (image_at a at))) rest ∙ ap Ok (sym read.all))
    (images_cases n a epoch at left places ok)

-- ---- What is known of the place of each image.

pub images_lie : (n : ℕ) (file : List ℕ) (epoch at left end : ℕ) (places : List Place) → at + left ≤ end
    → images_up_to n file epoch at left ≡ Ok places → All (LiesBefore end epoch) places
images_lie zero file epoch at left end places fits ok =
    let e : [] ≡ places = cc in subst (λ xs. All (LiesBefore end epoch) xs) e (All-nil (LiesBefore end epoch))
images_lie (suc n) file epoch at left end places fits ok = ⊎_elim
    (λ ended. subst (λ xs. All (LiesBefore end epoch) xs) (sym ended.1) (All-nil (LiesBefore end epoch)))
    (λ (read : Reads n file epoch at left places).
    let len = image_length file at in
    let fills = read.good.fills in
    let rest = images_lie n file epoch (at + 12 + len) (left - (12 + len)) end read.more (omega arith) read.behind in
    let first : LiesBefore end epoch (image_at file at) =
    record { some = read.good.some; within = read.good.low; before = omega arith } in
    subst (λ xs. All (LiesBefore end epoch) xs) (sym read.all)
    (All-cons (LiesBefore end epoch) (image_at file at) read.more first rest))
    (images_cases n file epoch at left places ok)
