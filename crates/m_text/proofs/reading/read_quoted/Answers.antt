use Rattle.std.proofs.Common.{◌≡◌, ◌++◌, ◌-◌, List, ℕ, length, take, drop, Some, false, sym, ap, ◌∙◌, arith}
use Rattle.std.proofs.lemmas.List.{take_rest}
use Rattle.m_text.specs.Front.{with_front, quoted_at}
use Rattle.m_text.proofs.FoundLemmas.{with_front-none}
use Rattle.m_text.proofs.FrontLemmas.{no_front}
use Rattle.m_text.proofs.QuotedLemmas.{quoted_ends, quoted_goes_on, quoted_at-none}
use Rattle.m_text.proofs.reading.read_quoted.Goals as goal
use Rattle.m_number.proofs.TextLemmas.{front_taken}

pub returns-in_default-strip_prefix : goal.returns-in_default-strip_prefix
returns-in_default-strip_prefix c =
    let rest : List ℕ = c.loop-at.rest.now in
    let back : List ℕ = c.split_at.result.1.now in
    let k : ℕ = c.in-Some.at in
    let first = c.in-Some.ensures in
    let after : take (length back - 1) (drop 1 back) ≡ drop 1 (drop k rest) = take_rest back 1
    ∙ ap (drop 1) c.split_at.ensures.back in
    let pushed : c.extend_from_slice.new.self.items ≡ c.loop-at.out.items ++ take k rest =
    c.in_ok-extend_from_slice.ensures.items
    ∙ ap (λ (t : List ℕ). c.loop-at.out.items ++ t) c.split_at.ensures.front in
    sym c.loop-at.invariant
    ∙ quoted_ends c.loop-at.out.items c.extend_from_slice.new.self.items rest k first.0.high
    (λ j l. first.0.before j (omega arith) l) first.1 pushed
    (no_front 34 (drop 1 (drop k rest)) (rw (sym after) c.in_default-strip_prefix.ensures.cases))
    ∙ ap (λ (t : List ℕ). Some (c.extend_from_slice.new.self.items, t)) (sym after)

pub loop-at-preserved : goal.loop-at-preserved
loop-at-preserved c =
    let rest : List ℕ = c.loop-at.rest.now in
    let back : List ℕ = c.split_at.result.1.now in
    let k : ℕ = c.in-Some.at in
    let first = c.in-Some.ensures in
    let after : take (length back - 1) (drop 1 back) ≡ drop 1 (drop k rest) = take_rest back 1
    ∙ ap (drop 1) c.split_at.ensures.back in
    let pushed : c.extend_from_slice.new.self.items ≡ c.loop-at.out.items ++ take k rest =
    c.in_ok-extend_from_slice.ensures.items
    ∙ ap (λ (t : List ℕ). c.loop-at.out.items ++ t) c.split_at.ensures.front in
    let taken = c.in-Some-strip_prefix.ensures.cases in
    sym (quoted_goes_on c.loop-at.out.items c.extend_from_slice.new.self.items c.push.new.self.items rest
    c.in-Some-strip_prefix.more.now k first.0.high (λ j l. first.0.before j (omega arith) l) first.1 pushed
    (sym after ∙ front_taken 34 _ c.in-Some-strip_prefix.more.now taken.0 taken.1) c.in_ok-push.ensures.items)
    ∙ c.loop-at.invariant

pub returns : goal.returns
returns c =
    with_front-none c.args.out.now.items (quoted_at false c.args.text.now) (sym c.loop-at.invariant
    ∙ ap (with_front c.loop-at.out.items) (quoted_at-none c.loop-at.rest.now
    (λ k l. c.in_default.ensures k (omega arith) l)))
