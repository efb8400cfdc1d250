-- A list that begins with another, as `take (length old) new ≡ old`.
use Rattle.std.proofs.Common.{◌≡◌, ℕ, ◌≤◌, List, ◌++◌, length, take, Result, Ok, Err, OnErr, refl, sym, ap, ◌∙◌, arith}
use Rattle.std.proofs.Common.{length-take}
use Rattle.std.proofs.lemmas.List.{take_at, take-append-le, take-take, take_all}

pub begins_same : (old : List ℕ) → take (length old) old ≡ old
begins_same old = take_all (length old) old (omega arith)

pub begins_length : (old new : List ℕ) → take (length old) new ≡ old → length old ≤ length new
begins_length old new b = omega (arith, sym (length-take (length old) new) ∙ ap length b)

pub begins_more : (old new more : List ℕ) → take (length old) new ≡ old → take (length old) (new ++ more) ≡ old
begins_more old new more b = take-append-le (length old) new more (begins_length old new b) ∙ b

pub begins_through : (old mid new : List ℕ) → take (length old) mid ≡ old → take (length mid) new ≡ mid
    → take (length old) new ≡ old
begins_through old mid new b d =
    sym (take-take (length old) (length mid) new (begins_length old mid b)) ∙ ap (take (length old)) d ∙ b

pub begins_append : (old more : List ℕ) → take (length old) (old ++ more) ≡ old
begins_append old more = take_at old more (length old) refl

pub ruleset begins = (begins_same, begins_more, begins_through, begins_append)

pub on_err : {T E P : Type 0} (r : Result T E) → P → OnErr r P
on_err (Ok x) p = tt
on_err (Err e) p = p

-- what stood in front of something, and what was appended since
pub begins_of : (old mid new more : List ℕ) → mid ≡ old ++ more → take (length mid) new ≡ mid
    → take (length old) new ≡ old
begins_of old mid new more e d = begins_through old mid new (rw e (begins_append old more)) d

pub begins_pushed : (old at mid new more : List ℕ) → take (length old) at ≡ old → mid ≡ at ++ more
    → take (length mid) new ≡ mid → take (length old) new ≡ old
begins_pushed old at mid new more b e d = begins_through old mid new (rw e (begins_more old at more b)) d
