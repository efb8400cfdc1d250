use Rattle.std.proofs.Common.{◌≡◌, ◌↔◌, ℕ, ◌+◌, ◌<◌, ◌≤◌, Bool, false, true, arith, sym, ◌∙◌, inl, inr, ⊎_elim}
use Rattle.std.proofs.lemmas.Bool.{cases_lt, iff_false}
use Rattle.gds_images.specs.declared.chain.Place.{Place}
use Rattle.gds_images.proofs.FrontLemmas.{bad_bytes, bad_end, bad_length, bad_place, bad_room, bad_rule, good_image}
use Rattle.gds_images.proofs.fields.image_of.Goals as goal

-- a number that isn't within another is above it
above : (t : Bool) (n m : ℕ) → ((t ≡ true) ↔ (n ≤ m)) → t ≡ false → m < n
above t n m fits isnt = ⊎_elim (λ (lt : m < n). lt) (λ (le : n ≤ m). absurd (iff_false fits isnt le)) (cases_lt m n)

-- a place by its fields
same_place : (at at' len len' from : ℕ) (place : Place) → at ≡ at' → len ≡ len'
    → record { at = at'; len = len'; from = from } ≡ place → record { at = at; len = len; from = from } ≡ place
same_place at at' len len' from place is_at is_len is =
    let first : record { at = at; len = len; from = from } ≡ record { at = at'; len = len'; from = from } =
    λ i. record { at = is_at i; len = is_len i; from = from } in
    first ∙ is

pub returns-then-front-lt8-clause-image : goal.returns-then-front-lt8-clause-image
returns-then-front-lt8-clause-image c file whole is =
    let within = c.requires in
    bad_place file c.args.front.now c.args.limits.epoch_length c.args.at c.args.left (omega arith) is
    c.if-front-lt8.true

pub returns-then-left-lt12-clause-image : goal.returns-then-left-lt12-clause-image
returns-then-left-lt12-clause-image c file whole is =
    let within = c.requires in
    bad_room file c.args.front.now c.args.limits.epoch_length c.args.at c.args.left (omega arith) is c.if-left-lt12.true

pub returns-then-front-lt-HEAD_LENGTH-clause-image : goal.returns-then-front-lt-HEAD_LENGTH-clause-image
returns-then-front-lt-HEAD_LENGTH-clause-image c file whole is =
    let within = c.requires in
    bad_length file c.args.front.now c.args.limits.epoch_length c.args.at c.args.left (omega arith) is
    c.if-front-lt8.false c.if-left-lt12.false c.if-front-lt-HEAD_LENGTH.true

pub returns-then-left-size-clause-image : goal.returns-then-left-size-clause-image
returns-then-left-size-clause-image c file whole is =
    let within = c.requires in
    let len = c.u32_at-len.ensures in
    let past = c.if-left-size.true in
    bad_end file c.args.front.now c.args.limits.epoch_length c.args.at c.args.left (omega arith) is
    c.if-front-lt8.false c.if-left-lt12.false c.if-front-lt-HEAD_LENGTH.false (omega arith)

pub returns-then-len-eq0-clause-image : goal.returns-then-len-eq0-clause-image
returns-then-len-eq0-clause-image c file whole is =
    let within = c.requires in
    let len = c.u32_at-len.ensures in
    let fills = c.if-left-size.false in
    bad_rule file c.args.front.now c.args.limits.epoch_length c.args.at c.args.left (omega arith) is
    c.if-front-lt8.false c.if-left-lt12.false c.if-front-lt-HEAD_LENGTH.false (omega arith)
    (inl (sym len ∙ c.if-len-eq0.true))

pub returns-then-not-fits-clause-image : goal.returns-then-not-fits-clause-image
returns-then-not-fits-clause-image c file whole is =
    let within = c.requires in
    let len = c.u32_at-len.ensures in
    let belongs = c.u64_at-belongs.ensures in
    let size = c.from-size.ensures in
    let fills = c.if-left-size.false in
    let past = above c.fits.result (c.u64_at-belongs.result + c.from-size.result) c.args.limits.epoch_length
    c.fits.ensures
    c.if-not-fits.true in
    bad_rule file c.args.front.now c.args.limits.epoch_length c.args.at c.args.left (omega arith) is
    c.if-front-lt8.false c.if-left-lt12.false c.if-front-lt-HEAD_LENGTH.false (omega arith) (inr (omega arith))

pub returns-then-not-fits-2-clause-image : goal.returns-then-not-fits-2-clause-image
returns-then-not-fits-2-clause-image c file whole is =
    let within = c.requires in
    let len = c.u32_at-len.ensures in
    let belongs = c.u64_at-belongs.ensures in
    let size = c.from-size.ensures in
    let fills = c.if-left-size.false in
    let some = c.if-len-eq0.false in
    let low = c.fits.ensures.0 c.if-not-fits.false in
    let past = above c.fits-2.result (c.args.at + 12 + c.from-size.result) c.args.limits.file_length c.fits-2.ensures
    c.if-not-fits-2.true in
    bad_bytes file c.args.front.now c.args.limits.epoch_length c.args.at c.args.left (omega arith) is
    c.if-front-lt8.false c.if-left-lt12.false c.if-front-lt-HEAD_LENGTH.false (omega arith) (omega arith) (omega arith)
    (omega arith)

pub returns-clause-image : goal.returns-clause-image
returns-clause-image c file whole is =
    let within = c.requires in
    let len = c.u32_at-len.ensures in
    let belongs = c.u64_at-belongs.ensures in
    let size = c.from-size.ensures in
    let fills = c.if-left-size.false in
    let some = c.if-len-eq0.false in
    let low = c.fits.ensures.0 c.if-not-fits.false in
    let there = c.fits-2.ensures.0 c.if-not-fits-2.false in
    let good = good_image file c.args.front.now c.args.limits.epoch_length c.args.at c.args.left (omega arith) is
    c.if-front-lt8.false c.if-left-lt12.false c.if-front-lt-HEAD_LENGTH.false (omega arith) (omega arith) (omega arith)
    (omega arith) in
    (good.0, same_place _ _ _ _ _ _ belongs len good.1)
