use Rattle.std.proofs.Common.{ℕ, ◌+◌, ◌-◌, ◌≡◌, ◌<◌, ◌≤◌, ◌↔◌, Bool, false, IsTrue, List, length, take, drop}
use Rattle.std.proofs.Common.{refl, sym, ◌∙◌, ap, subst, arith, length-drop}
use Rattle.std.proofs.lemmas.Bool.{false≢true}
use Rattle.std.proofs.lemmas.List.{take_rest}
use Rattle.std.proofs.lemmas.List.Elements.{All-same, All-rest}
use Rattle.gds_block.specs.Record.{StandsIn}
use Rattle.gds_search.specs.Place.{IsPlace}
use Rattle.gds_search.proofs.ReachedLemmas.{IsReached, IsReached-start, IsReached-skipped, IsPlace-end, IsPlace-past}
use Rattle.gds_search.proofs.ReachedLemmas.{IsPlace-star, IsPlace-equal, IsPlace-above, IsReached-passed}
use Rattle.gds_search.proofs.ReachedLemmas.{no_end_within, IsWithin-at}
use Rattle.gds_search.proofs.scan.search.Goals as goal

-- bytes shared with what is left of a key
within-key : (key : List ℕ) (m s : ℕ) → m ≤ length key → s ≤ length (take (length key - m) (drop m key))
    → m + s ≤ length key
within-key key m s h k = omega (arith, h, k, ap length (take_rest key m), length-drop m key)

-- what the test for the star says of a record that isn't one
no_star : (star : Bool) (level height n : ℕ) → IsTrue star ↔ ((0 < level) × (n ≡ 4)) → star ≡ false → level ≡ height
    → (height ≡ 0 → ⊥) → n ≡ 4 → ⊥
no_star star level height n test e same index four = false≢true (sym e ∙ test.1 (omega (arith, index, same), four))

pub loop-view-init : goal.loop-view-init
loop-view-init c = record {
  next = tt;
  finite = tt;
  within = omega arith;
  placed =
      All-same (StandsIn c.args.block.now) _ _
      c.into_iter-view-iterator.ensures.into_iter_gives c.records-view-items.ensures.placed;
  reached = λ height es q p.
      subst (IsReached es c.args.key.now height 0)
      (sym (c.into_iter-view-iterator.ensures.into_iter_gives ∙ c.records-view-items.ensures.listed))
      (IsReached-start c.args.block.now c.args.key.now height es q p);
}

pub loop-view-preserved-then-count-shared : goal.loop-view-preserved-then-count-shared
loop-view-preserved-then-count-shared c = record {
  next = tt;
  finite = tt;
  within = c.loop-view.invariant.within;
  placed =
      All-rest (StandsIn c.args.block.now) _ c.next.new.self c.loop-view.view-iterator c.in-Some.ensures.steps
      c.loop-view.invariant.placed;
  reached = λ height es q p.
      IsReached-skipped es c.args.key.now height c.loop-view.shared c.loop-view.view-iterator
      (c.loop-view.invariant.reached height es q p) _ c.next.new.self (sym c.in-Some.ensures.steps)
      (omega (arith, c.from-count.ensures, c.if-count-shared.true));
}

pub returns-then-count-shared-2-clause-within : goal.returns-then-count-shared-2-clause-within
returns-then-count-shared-2-clause-within c =
    IsWithin-at c.args.block.now c.args.key.now c.loop-view.view-iterator _ c.next.new.self c.above.result _ _ _
    c.loop-view.invariant.placed c.in-Some.ensures.steps c.above.ensures c.loop-view.invariant.within
    (omega (arith, c.loop-view.invariant.within, c.if-count-shared-2.true))

pub returns-then-count-shared-2-clause-found : goal.returns-then-count-shared-2-clause-found
returns-then-count-shared-2-clause-found c height es q p =
    let past = IsPlace-past es c.args.key.now height c.loop-view.shared c.loop-view.view-iterator
    (c.loop-view.invariant.reached height es q p) _ c.next.new.self (sym c.in-Some.ensures.steps)
    (omega (arith, c.from-count.ensures, c.if-count-shared-2.true)) in
    subst (IsPlace es c.args.key.now)
    (sym (c.above.ensures ∙ (λ k. record {
      offset = c.in-Some.view.offset;
      is_equal = false;
      shared = c.loop-view.shared;
      next_shared = c.from-count.ensures k;
    }))) past

pub returns-then-is_star-clause-within : goal.returns-then-is_star-clause-within
returns-then-is_star-clause-within c =
    IsWithin-at c.args.block.now c.args.key.now c.loop-view.view-iterator _ c.next.new.self
    c.above-then-is_star.result _ _ _
    c.loop-view.invariant.placed c.in-Some.ensures.steps c.above-then-is_star.ensures c.loop-view.invariant.within
    (omega arith)

pub returns-then-is_star-clause-found : goal.returns-then-is_star-clause-found
returns-then-is_star-clause-found c height es q p =
    let at = c.loop-view.invariant.reached height es q p in
    let star = c.is_star.ensures.0 c.if-is_star.true in
    subst (IsPlace es c.args.key.now) (sym c.above-then-is_star.ensures)
    (IsPlace-star es c.args.key.now height c.loop-view.shared c.loop-view.view-iterator at _ c.next.new.self
    (sym c.in-Some.ensures.steps)
    (λ e. omega (arith, e, star.0, c.level-level.ensures, p.level)) star.1)

pub returns-then-same-rest-clause-within : goal.returns-then-same-rest-clause-within
returns-then-same-rest-clause-within c =
    IsWithin-at c.args.block.now c.args.key.now c.loop-view.view-iterator _ c.next.new.self _ _ _ _
    c.loop-view.invariant.placed c.in-Some.ensures.steps refl c.loop-view.invariant.within
    (omega arith)

pub returns-then-same-rest-clause-found : goal.returns-then-same-rest-clause-found
returns-then-same-rest-clause-found c height es q p =
    IsPlace-equal es c.args.key.now height c.loop-view.shared c.loop-view.view-iterator
    (c.loop-view.invariant.reached height es q p) _ c.next.new.self (sym c.in-Some.ensures.steps)
    (no_star _ _ height _ c.is_star.ensures c.if-is_star.false (c.level-level.ensures ∙ p.level))
    (omega (arith, c.from-count.ensures, c.if-count-shared.false, c.if-count-shared-2.false)) q _
    (take_rest c.args.key.now c.loop-view.shared) c.shared_len-same.result c.shared_len-same.ensures.value
    c.if-same-rest.true

pub returns-then-same-view-clause-found : goal.returns-then-same-view-clause-found
returns-then-same-view-clause-found c height es q p =
    no_end_within es c.args.key.now height c.loop-view.shared c.loop-view.view-iterator
    (c.loop-view.invariant.reached height es q p) _ c.next.new.self (sym c.in-Some.ensures.steps)
    (no_star _ _ height _ c.is_star.ensures c.if-is_star.false (c.level-level.ensures ∙ p.level))
    (omega (arith, c.from-count.ensures, c.if-count-shared.false, c.if-count-shared-2.false)) q _
    (take_rest c.args.key.now c.loop-view.shared) c.shared_len-same.result c.shared_len-same.ensures.value
    c.if-same-view.true c.if-same-rest.false

pub returns-then-view-same-clause-within : goal.returns-then-view-same-clause-within
returns-then-view-same-clause-within c =
    IsWithin-at c.args.block.now c.args.key.now c.loop-view.view-iterator _ c.next.new.self
    c.above-then-view-same.result _ _ _
    c.loop-view.invariant.placed c.in-Some.ensures.steps c.above-then-view-same.ensures c.loop-view.invariant.within
    (within-key c.args.key.now c.loop-view.shared _ c.loop-view.invariant.within
    c.shared_len-same.ensures.within_second)

pub returns-then-view-same-clause-found : goal.returns-then-view-same-clause-found
returns-then-view-same-clause-found c height es q p =
    subst (IsPlace es c.args.key.now) (sym c.above-then-view-same.ensures)
    (IsPlace-above es c.args.key.now height c.loop-view.shared c.loop-view.view-iterator
    (c.loop-view.invariant.reached height es q p) _ c.next.new.self (sym c.in-Some.ensures.steps)
    (no_star _ _ height _ c.is_star.ensures c.if-is_star.false (c.level-level.ensures ∙ p.level))
    (omega (arith, c.from-count.ensures, c.if-count-shared.false, c.if-count-shared-2.false)) q _
    (take_rest c.args.key.now c.loop-view.shared) c.shared_len-same.result c.shared_len-same.ensures.value
    (omega (arith, c.if-same-view.false, c.shared_len-same.ensures.within_first))
    (omega (arith, c.if-same-rest.false, c.shared_len-same.ensures.within_second)) c.if-view-same.true)

pub loop-view-preserved : goal.loop-view-preserved
loop-view-preserved c = record {
  next = tt;
  finite = tt;
  within =
      within-key c.args.key.now c.loop-view.shared _ c.loop-view.invariant.within
      c.shared_len-same.ensures.within_second;
  placed =
      All-rest (StandsIn c.args.block.now) _ c.next.new.self c.loop-view.view-iterator c.in-Some.ensures.steps
      c.loop-view.invariant.placed;
  reached = λ height es q p.
      IsReached-passed es c.args.key.now height c.loop-view.shared c.loop-view.view-iterator
      (c.loop-view.invariant.reached height es q p) _ c.next.new.self (sym c.in-Some.ensures.steps)
      (no_star _ _ height _ c.is_star.ensures c.if-is_star.false (c.level-level.ensures ∙ p.level))
      (omega (arith, c.from-count.ensures, c.if-count-shared.false, c.if-count-shared-2.false)) q _
      (take_rest c.args.key.now c.loop-view.shared) c.shared_len-same.result c.shared_len-same.ensures.value
      (omega (arith, c.if-same-view.false, c.shared_len-same.ensures.within_first))
      (omega (arith, c.if-same-rest.false, c.shared_len-same.ensures.within_second)) c.if-view-same.false;
}

pub returns-clause-found : goal.returns-clause-found
returns-clause-found c height es q p =
    let at = c.loop-view.invariant.reached height es q p in
    subst (IsPlace es c.args.key.now) (sym c.above-2.ensures)
    (IsPlace-end es c.args.key.now height c.loop-view.shared c.loop-view.view-iterator at c.in-None.ensures.steps.0 _
    (c.used-used.ensures.value ∙ p.used))
