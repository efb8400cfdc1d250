use Rattle.std.proofs.Common.{◌+◌, drop, ◌++◌, ◌∷◌, [], ◌∙◌, ℕ, List, ap, sym, subst}
use Rattle.std.proofs.lemmas.List.{take_rest}
use Rattle.gds_pack.specs.Cut.{AreFullRuns, runs}
use Rattle.gds_pack.specs.Entry.{items}
use Rattle.gds_pack.specs.declared.entry.Entry.{Entry}
use Rattle.gds_pack.proofs.CutLemmas.{Fitting, AreFullRuns-last, AreFullRuns-more}
use Rattle.gds_pack.proofs.cut.cut_to_fit.Goals as goal
use Rattle.gds_pack.proofs.cut.cut_to_fit.Goals.{After-fitting}

front : (c : After-fitting) → Fitting c.args.limit c.fitting-first.result c.args.list.now
front c =
    record {
      within = c.fitting-first.ensures.within;
      fits = c.fitting-first.ensures.fits;
      most = c.fitting-first.ensures.most;
    }

next : (c : After-fitting) → Fitting c.args.limit c.fitting.result (drop c.fitting-first.result c.args.list.now)
next c =
    subst (λ (xs : List Entry). Fitting c.args.limit c.fitting.result xs)
    (take_rest c.args.list.now c.fitting-first.result)
    (record { within = c.fitting.ensures.within; fits = c.fitting.ensures.fits; most = c.fitting.ensures.most })

pub returns-then-second-list-clause-full : goal.returns-then-second-list-clause-full
returns-then-second-list-clause-full c =
    let b = (goal.at.returns-then-second-list-clause-full c).After-fitting in
    let places = c.push-then-second-list.ensures.items
    ∙ ap (λ xs. xs ++ (c.fitting-first.result + c.fitting.result) ∷ [])
    (c.push.ensures.items ∙ ap (λ xs. xs ++ c.fitting-first.result ∷ []) c.new-places.ensures) in
    subst (λ (xs : List ℕ). AreFullRuns c.args.limit (runs xs (items c.args.list.now))) (sym places)
    (AreFullRuns-more c.args.limit c.fitting-first.result c.fitting.result c.args.list.now c.requires (front b) (next b)
    c.if-first-list.true c.if-second-list.true)

pub returns-else-second-list-clause-full : goal.returns-else-second-list-clause-full
returns-else-second-list-clause-full c =
    let b = (goal.at.returns-else-second-list-clause-full c).After-fitting in
    let places = c.push.ensures.items ∙ ap (λ xs. xs ++ c.fitting-first.result ∷ []) c.new-places.ensures in
    subst (λ (xs : List ℕ). AreFullRuns c.args.limit (runs xs (items c.args.list.now))) (sym places)
    (AreFullRuns-last c.args.limit c.fitting-first.result c.fitting.result c.args.list.now c.requires (front b) (next b)
    c.if-first-list.true c.if-second-list.false)
