use Rattle.std.proofs.Common.{◌≡◌, true, false, eqb, take, get_or, refl, arith}
use Rattle.std.proofs.lemmas.Grind.{common_steps}
use Rattle.std.specs.List.{list_any}
use Rattle.gds_cli.proofs.DistinctLemmas.{twice_at, distinct_more, IsDistinct-none}
use Rattle.gds_cli.proofs.thin.distinct.are_distinct.Goals as goal

pub loop-number-init : goal.loop-number-init
loop-number-init c = record { distinct = IsDistinct-none; same = λ q. grind (arith, common_steps) }

pub returns-then-not-branch : goal.returns-then-not-branch
returns-then-not-branch c =
    let i = c.loop-number.number-index in
    let xs = c.args.numbers.now in
    let had : list_any (eqb (get_or xs i 0)) (take i xs) ≡ true =
    grind (arith, common_steps, c.loop-number.invariant.same (get_or xs i 0)) in
    (λ no. cc, λ distinct. absurd (twice_at xs i (get_or xs i 0) c.loop-number-test.true refl had distinct))

pub loop-number-preserved : goal.loop-number-preserved
loop-number-preserved c =
    let i = c.loop-number.number-index in
    let xs = c.args.numbers.now in
    let new : list_any (eqb (get_or xs i 0)) (take i xs) ≡ false =
    grind (arith, common_steps, c.loop-number.invariant.same (get_or xs i 0)) in
    record {
      distinct = distinct_more xs i (get_or xs i 0) c.loop-number-test.true refl c.loop-number.invariant.distinct new;
      same = λ q. grind (arith, common_steps, c.loop-number.invariant.same q);
    }
